-- The machine does what a unit of core does.
use Rattle.std.specs.Prelude.{ℕ, ◌<◌, ◌≤◌, ℤ, List, map, All}
use Rattle.qs_memory.specs.Values.{Value, integer}
use Rattle.qs_events.specs.BoundedRun.{BoundedRun}
use Rattle.qs_events.specs.Runs.{bounded}
use Rattle.qs_events.specs.Weights.{Costs, run_weight}
use Rattle.qs_calls.specs.World.{RootRun, status_of}
use Rattle.qs_core.specs.Trees.{CoreUnitTree}
use Rattle.qs_core.specs.Units.{initial_memory, main_run}
use Rattle.qs_image.specs.Image.{Image}
use Rattle.qs_machine.specs.Arguments.{AreArguments, words_of}
use Rattle.qs_machine.specs.State.{stack_limit}
use Rattle.qs_machine.specs.Run.{machine, least_stack_pointer}
use Rattle.qs_emit.specs.Agree.{Agree, Accounts}
use Rattle.qs_emit.specs.Images.{AreCosts}
use Rattle.qs_emit.specs.Emitted.{Emitted}
use Rattle.qs_compile.specs.Units.{linear, MainReturns}

-- whole numbers as main's arguments
abbrev pub values_of : List ℤ → List Value
values_of args = map integer (words_of args)

abbrev pub runs_of : CoreUnitTree → (args : List ℤ) → (input : List ℕ) → (n : ℕ) → RootRun
runs_of u args input n = main_run u (values_of args) input n

abbrev pub seen_of : CoreUnitTree → (args : List ℤ) → (input : List ℕ) → (n : ℕ) → BoundedRun
seen_of u args input n = bounded status_of (runs_of u args input n)

-- the arguments are main's, the input has bytes, and the stack has the weight of each run
pub record HasStack (u : CoreUnitTree) (image : Image) (costs : Costs) (args : List ℤ) (input : List ℕ) (size : ℕ)
    : Type 0 where
  pub arguments : AreArguments image args
  pub bytes : All (λ byte. byte < 256) input
  pub most : size ≤ stack_limit
  pub enough : (n : ℕ) → run_weight costs (runs_of u args input n) ≤ size

-- by the costs of its records the image does what main does, and its least x2 is the top of the stack less the weight
pub record AgreesWithCore (u : CoreUnitTree) (image : Image) : Type 0 where
  pub agree :
      (costs : Costs) (args : List ℤ) (input : List ℕ) (size : ℕ) → AreCosts image costs
      → HasStack u image costs args input size → Agree (seen_of u args input) (machine image size (words_of args) input)
  pub accounts :
      (costs : Costs) (args : List ℤ) (input : List ℕ) (size : ℕ) → AreCosts image costs
      → HasStack u image costs args input size
      → Accounts costs (seen_of u args input) (machine image size (words_of args) input)
      (least_stack_pointer image size (words_of args) input)

-- and each of its functions does what its linear code does
pub record DoesAsCore (u : CoreUnitTree) (image : Image) : Type 0 where
  pub agrees : AgreesWithCore u image
  pub emitted : Emitted (linear u) (initial_memory u) image

abbrev pub AgreesWhereMainReturns : CoreUnitTree → Image → Type 0
AgreesWhereMainReturns u image = MainReturns u → DoesAsCore u image
