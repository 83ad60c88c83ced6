use Rattle.std.proofs.Common.{[], ◌∷◌, List, map, ap, ◌∙◌}
use Rattle.std.specs.List.{slice_get}
use Rattle.qs_core.specs.UnitTrees.{unit_tree}
use Rattle.qs_triples.specs.TreeOf.{entry_tree}
use Rattle.qs_prooftext_meaning.specs.declared.context.Word.{Word}
use Rattle.qs_prooftext_meaning.specs.Contexts.{word_view}
use Rattle.qs_prooftext_meaning.specs.Writing.{entry_form, forms_of, words_in}
use Rattle.qs_prooftext_writing.proofs.LayLaws.{entries_alike, entry_by, one_form}
use Rattle.qs_prooftext_writing.proofs.file_text.write_entry.Goals as goal

pub returns : goal.returns
returns c =
    let u = unit_tree c.args.unit.now in
    let e = entry_tree c.args.entry.now in
    let g = entry_form u e in
    c.lay.ensures (forms_of (g ∷ []))
    (one_form c.deref-3.result.now c.put_entry.new.out.items c.new-tokens.result.items (entry_by e c.deref.result.now (map word_view c.deref-2.result.now)) g
    c.deref-3.ensures.value c.in_ok-put_entry.ensures c.new-tokens.ensures.items
    (entries_alike e c.deref.result.now c.args.unit.now.functions.items (map word_view c.deref-2.result.now) (words_in (slice_get u.functions e.function)) c.deref.ensures.value
    (ap (λ (ws : List Word). map word_view ws) c.deref-2.ensures.value ∙ c.in_ok-words.ensures)))
