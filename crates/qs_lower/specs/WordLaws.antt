-- What is promised of the sizes of lowered code.
use Rattle.std.specs.Prelude.{◌≡◌, ◌≤◌, ℕ, true, List, [], ◌∷◌, map, Some}
use Rattle.std.specs.List.{slice_get}
use Rattle.qs_core.specs.Trees.{CoreFunctionTree, CoreUnitTree}
use Rattle.qs_core.specs.Fits.{unit_fits}
use Rattle.qs_core.specs.Sizes as counts
use Rattle.qs_core.specs.Sizes.{held_in_all, most_arguments_in}
use Rattle.qs_tac.specs.Trees.{InstructionTree, TacFunctionTree}
use Rattle.qs_tac.specs.Sizes as tac
use Rattle.qs_tac.specs.Sizes.{arguments_of, near_values}
pub use Rattle.qs_lower.specs.Units.{lowered_function}
use Rattle.qs_lower.specs.Units.{lower_unit}

-- all that a function holds of parts of expressions lies in the reach of an immediate
abbrev pub IsInReach : CoreFunctionTree → Type 0
IsInReach f = held_in_all f.body ≤ near_values

-- ---- the arguments of calls

-- no call has more
abbrev pub FewArguments : ℕ → List InstructionTree → Type 0
FewArguments n [] = Unit {0}
FewArguments n (i ∷ code) = (arguments_of i ≤ n) × FewArguments n code

-- ---- sizes

pub record KeepsSizes (f : CoreFunctionTree) (g : TacFunctionTree) : Type 0 where
  pub parameters : g.parameters ≡ map (λ p. p.place) f.parameters
  pub blocks : g.blocks ≡ f.blocks
  pub values : tac.values g ≤ counts.values f
  pub passed : tac.most_passed g.code ≤ counts.most_passed f
  pub words : IsInReach f → tac.words g ≤ counts.words f
  pub arguments : FewArguments (most_arguments_in f.body) g.code

-- by the numbers of functions
pub record UnitKeepsSizes (u : CoreUnitTree) : Type 0 where
  pub there : (f : ℕ) (g : CoreFunctionTree) → slice_get u.functions f ≡ Some g → slice_get (lower_unit u).functions f ≡ Some (lowered_function g)
  pub function : (f : ℕ) (g : CoreFunctionTree) → slice_get u.functions f ≡ Some g → KeepsSizes g (lowered_function g)
  pub words : ((f : ℕ) (g : CoreFunctionTree) → slice_get u.functions f ≡ Some g → IsInReach g) → tac.unit_words (lower_unit u) ≤ counts.unit_words u

abbrev pub LoweredSizesAreKept : Type 0
LoweredSizesAreKept = (u : CoreUnitTree) → unit_fits u ≡ true → UnitKeepsSizes u
