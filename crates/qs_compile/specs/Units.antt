-- What an image of a unit of core is made of: the unit's linear code, and main's parameters; and its sizes.
use Rattle.std.specs.Prelude.{◌≡◌, ◌≢◌, ℕ, ◌+◌, ◌*◌, ◌<◌, ◌≤◌, if◌then◌else◌, List, [], ◌∷◌, length, All, None}
use Rattle.qs_memory.specs.Values.{Value}
use Rattle.qs_memory.specs.Memory.{Memory}
use Rattle.qs_memory.specs.Scalars.{same_scalar}
use Rattle.qs_memory.specs.declared.scalar.Scalar.{Scalar}
use Rattle.qs_memory.specs.declared.scalar.Scalar.TheVariants as scalars
use Rattle.qs_events.specs.Runs.{Left, has_ended, ending_of}
use Rattle.qs_calls.specs.World.{World}
use Rattle.qs_calls.specs.Starts.{MayStart}
use Rattle.qs_core.specs.Trees.{CoreUnitTree}
use Rattle.qs_core.specs.Units.{initial_memory, main_run}
use Rattle.qs_core.specs.Interfaces.{main_types, interface_of}
use Rattle.qs_tac.specs.Trees.{TacUnitTree}
use Rattle.qs_lower.specs.Units.{lower_unit}
pub use Rattle.qs_base.specs.Parameters.{most_main_parameters, most_parameters}
use Rattle.qs_machine.specs.State.{stack_limit}
use Rattle.qs_image.specs.Image.{Image}
use Rattle.qs_emit.specs.Images.{record_at}

-- ---- its parts

abbrev pub linear : CoreUnitTree → TacUnitTree
linear u = lower_unit u

-- the `unsigned` among main's parameters, as bits from the lowest on
abbrev pub set_of : List Scalar → ℕ
set_of [] = 0
set_of (s ∷ types) = (if same_scalar s scalars.Unsigned then 1 else 0) + 2 * set_of types

-- ---- what has an image

-- no function has more parameters than one may have, nor main more than it is given, nor a record in the image more bytes than
-- the largest stack
pub record IsWithinSizes (u : CoreUnitTree) (image : Image) : Type 0 where
  pub parameters : All (λ f. length f.parameters ≤ most_parameters) u.functions
  pub main_parameters : length (main_types u) ≤ most_main_parameters
  pub frames : (f : ℕ) → f < length u.functions → (record_at image f).cost ≤ stack_limit

-- where main starts
abbrev pub start_of : CoreUnitTree → (input : List ℕ) → World
start_of u input = record { memory = initial_memory u; input = input }

-- main returns a value wherever it ends
pub record MainReturns (u : CoreUnitTree) : Type 0 where
  pub returns :
      (arguments : List Value) (input : List ℕ) (n : ℕ) (left : Left Value Memory)
      → MayStart (interface_of u) u.main arguments (start_of u input)
      → ending_of (main_run u arguments input n) ≡ has_ended left → left.result ≢ None
