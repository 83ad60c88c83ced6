-- The sizes that an image has room for, and which of them a unit passes.
use Rattle.std.specs.Prelude.{◌≡◌, ℕ, ◌+◌, ◌<◌, ◌≤◌, List, [], ◌∷◌, length, sum_by, Some}
use Rattle.qs_asm.specs.Items.{item_words}
use Rattle.qs_asm.specs.Counting.{reached_words}
use Rattle.qs_core.specs.Trees.{CoreFunctionTree, CoreUnitTree}
pub use Rattle.qs_image.specs.Limits.{most_functions, most_name_bytes}
use Rattle.qs_emit_selection.specs.Limits.{first_fault}
use Rattle.qs_emit_selection.specs.Units.{selected}
use Rattle.qs_emit_selection.specs.declared.fault.SelectionFault.{SelectionFault}
use Rattle.qs_emit_selection.specs.declared.fault.SelectionFault.TheVariants as selection
use Rattle.qs_tac.specs.Laws.{ArePacked}
use Rattle.qs_tac.specs.Places.{PlacesTree}
use Rattle.qs_compile.specs.Units.{linear}
use Rattle.qs_compile.specs.declared.fault.BuildFault.{BuildFault}
use Rattle.qs_compile.specs.declared.fault.BuildFault.TheVariants.{NoMemory, TooManyFunctions, NamesTooLong, TooManyParameters, FrameTooLarge, DataTooLarge, CodeTooLong}

-- the bytes of names together
abbrev pub bytes_of_names : List CoreFunctionTree → ℕ
bytes_of_names [] = 0
bytes_of_names (f ∷ functions) = length f.name + bytes_of_names functions

abbrev pub name_bytes : CoreUnitTree → ℕ
name_bytes u = bytes_of_names u.functions

abbrev pub HasFewFunctions : CoreUnitTree → Type 0
HasFewFunctions u = length u.functions ≤ most_functions

abbrev pub HasShortNames : CoreUnitTree → Type 0
HasShortNames u = name_bytes u ≤ most_name_bytes

-- with its values in some places that are packed, no code is selected for it, for this reason
pub record IsRefused (u : CoreUnitTree) (fault : SelectionFault) : Type 0 where
  pub places : List PlacesTree
  pub packed : ArePacked (linear u) places
  pub is : first_fault (linear u) places ≡ Some fault

-- its code for some such places has too many words
pub record IsTooLong (u : CoreUnitTree) : Type 0 where
  pub places : List PlacesTree
  pub packed : ArePacked (linear u) places
  pub long : reached_words ≤ sum_by item_words (selected (linear u) places)

-- the unit passes the size that the fault names; memory may be wanting for any
abbrev pub Passes : CoreUnitTree → BuildFault → Type 0
Passes u NoMemory = Unit {0}
Passes u TooManyFunctions = most_functions < length u.functions
Passes u NamesTooLong = most_name_bytes < name_bytes u
Passes u TooManyParameters = IsRefused u selection.TooManyArguments
Passes u FrameTooLarge = IsRefused u selection.FrameTooLarge
Passes u DataTooLarge = IsRefused u selection.DataTooLarge
Passes u CodeTooLong = IsTooLong u
