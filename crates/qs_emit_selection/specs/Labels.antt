-- The labels of a unit: they count up, and each jump leads to one of them, so that the unit's items have an assembly.
use Rattle.std.specs.Prelude.{◌≡◌, ℕ, true, List, length}
use Rattle.qs_tac.specs.Trees.{TacUnitTree}
use Rattle.qs_tac.specs.Fits.{unit_fits}
use Rattle.qs_tac.specs.Places.{PlacesTree}
use Rattle.qs_asm.specs.Counting.{CountUp, LeadBelow}
use Rattle.qs_emit_selection.specs.Emission.{first_label, unit_items}

-- how many labels a unit has
abbrev pub label_count : TacUnitTree → ℕ
label_count u = first_label u.functions (length u.functions)

pub record LabelsCountUp (u : TacUnitTree) (ps : List PlacesTree) (data_at : ℕ → ℕ) : Type 0 where
  pub up : CountUp 0 (unit_items u ps data_at) (label_count u)
  pub lead : LeadBelow (label_count u) (unit_items u ps data_at)

abbrev pub UnitLabelsCountUp : Type 0
UnitLabelsCountUp =
    (u : TacUnitTree) (ps : List PlacesTree) (data_at : ℕ → ℕ) → unit_fits u ≡ true → LabelsCountUp u ps data_at
