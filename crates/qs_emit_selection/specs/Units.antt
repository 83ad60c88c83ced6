-- The items of a whole unit, and why there may be none.
use Rattle.std.specs.Prelude.{◌≡◌, ◌⊎◌, ℕ, List, ◌∷◌, Some}
use Rattle.std.specs.declared.alloc.Global.{Global}
use Rattle.std.specs.declared.vec.Vec.{Vec}
use Rattle.qs_isa.specs.Registers.{ra}
use Rattle.qs_isa.specs.Addresses.{data_start}
use Rattle.qs_isa.specs.EnvironmentCalls.{exit_call}
use Rattle.qs_asm.specs.declared.item.Item.{Item}
use Rattle.qs_asm.specs.declared.item.Item.TheVariants as items
use Rattle.qs_asm.specs.Items.{plain}
use Rattle.qs_tac.specs.Trees.{TacFunctionTree, TacUnitTree}
use Rattle.qs_tac.specs.Places.{PlacesTree, places_tree, places_trees}
use Rattle.qs_tac.specs.TreeOf.{function_tree}
use Rattle.qs_tac.specs.UnitTrees.{unit_tree}
use Rattle.qs_tac.specs.declared.places.Places.{Places}
use Rattle.qs_tac.specs.declared.units.TacFunction.{TacFunction}
use Rattle.qs_tac.specs.declared.unit.TacUnit.{TacUnit}
use Rattle.qs_frames.specs.declared.blocks.Starts.{Starts}
use Rattle.qs_frames.specs.Starts.{start_of, AreStarts}
use Rattle.qs_emit_selection.specs.Emission.{environment, first_label, labels_of, function_items, functions_items, unit_items}
use Rattle.qs_emit_selection.specs.Data.{data_sizes, data_address}
use Rattle.qs_emit_selection.specs.Puts.{Puts}
use Rattle.qs_emit_selection.specs.Limits.{first_fault}
use Rattle.qs_emit_selection.specs.declared.fault.SelectionFault.{SelectionFault}
use Rattle.qs_emit_selection.specs.declared.fault.SelectionFault.TheVariants.{NoMemory}

-- ---- parts

pub record AreFirstLabels (functions : List TacFunctionTree) (labels : Starts) : Type 0 where
  pub each : (f : ℕ) → start_of labels f ≡ first_label functions f

-- where the unit's data begin
abbrev pub AreDataStarts : TacUnitTree → Starts → Type 0
AreDataStarts u starts = AreStarts data_start (data_sizes u.data_blocks) starts

-- of a function with this number
abbrev pub function_items_at : TacUnitTree → (f : ℕ) → TacFunctionTree → PlacesTree → List Item
function_items_at u f g p =
    function_items (record { function = g; places = p; data_at = data_address u.data_blocks }) (labels_of u f) f

-- what is selected for it was put behind those before
abbrev pub Selects : Vec Item Global → Vec Item Global → TacUnit → (f : ℕ) → TacFunction → Places → Type 0
Selects before after u f g p = Puts before after (function_items_at (unit_tree u) f (function_tree g) (places_tree p))

-- and for all functions
abbrev pub SelectsAll : Vec Item Global → Vec Item Global → TacUnit → List Places → Type 0
SelectsAll before after u ps =
    Puts before after (functions_items (unit_tree u) (places_trees ps) (data_address (unit_tree u).data_blocks) 0 (unit_tree u).functions)

abbrev pub start_items_at : (main : ℕ) → List Item
start_items_at main = items.Jump ra main ∷ plain (environment exit_call)

-- ---- the whole

abbrev pub selected : TacUnitTree → List PlacesTree → List Item
selected u ps = unit_items u ps (data_address u.data_blocks)

abbrev pub IsSelection : TacUnitTree → List PlacesTree → Vec Item Global → Type 0
IsSelection u ps items = items.items ≡ selected u ps

-- no memory was found, or this is the first fault
abbrev pub IsFault : TacUnitTree → List PlacesTree → SelectionFault → Type 0
IsFault u ps fault = (fault ≡ NoMemory) ⊎ (first_fault u ps ≡ Some fault)
