-- Items have no words where these are too many.
use Rattle.std.proofs.Common.{◌≡◌, inl, inr, ◌≤◌, true, List, Some, None, sym, ◌∙◌, subst}
use Rattle.std.specs.Prelude.{sum_by}
use Rattle.std.proofs.lemmas.Bool.{cases_lt}
use Rattle.qs_isa.specs.declared.instruction.Instr.{Instr}
use Rattle.qs_asm.specs.declared.item.Item.{Item}
use Rattle.qs_asm.specs.Items.{item_words}
use Rattle.qs_asm.specs.Assembly.{assembled}
use Rattle.qs_asm.specs.Counting.{reached_words}
use Rattle.qs_asm.proofs.CountingLaws.{counted_items_are_assembled}
use Rattle.qs_tac.specs.Trees.{TacUnitTree}
use Rattle.qs_tac.specs.Places.{PlacesTree}
use Rattle.qs_tac.specs.Fits.{unit_fits}
use Rattle.qs_emit_selection.specs.Data.{data_address}
use Rattle.qs_emit_selection.specs.Labels.{label_count}
use Rattle.qs_emit_selection.specs.Units.{selected}
use Rattle.qs_emit_selection.proofs.LabelLaws.{unit_labels_count_up}
use Rattle.qs_compile.specs.Code.{AreCounted}

pub are_counted : (t : TacUnitTree) (ps : List PlacesTree) (items : List Item) → unit_fits t ≡ true → items ≡ selected t ps → AreCounted items
are_counted t ps items fits is =
    let up = unit_labels_count_up t ps (data_address t.data_blocks) fits in
    subst AreCounted (sym is) (record { end = label_count t; up = up.up; lead = up.lead })

pub too_long : (items : List Item) → AreCounted items → assembled items ≡ None → reached_words ≤ sum_by item_words items
too_long items counted none = elim (cases_lt (sum_by item_words items) reached_words) [
  | inl few ↦ absurd (apart (counted_items_are_assembled items counted.end counted.up counted.lead few).code (counted_items_are_assembled items counted.end counted.up counted.lead few).is)
  | inr many ↦ many
]
  where
    apart : (code : List Instr) → assembled items ≡ Some code → ⊥
    apart code is = let both : None ≡ Some code = sym none ∙ is in cc
