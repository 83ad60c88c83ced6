-- The bound of a source that is certified, by the costs of its image: what it says of the source's runs, and of the image's.
use Rattle.std.specs.Prelude.{◌≡◌, ℕ, ◌≤◌, ℤ, List, map, Option, Some, None}
use Rattle.std.specs.List.{slice_get}
use Rattle.qs_events.specs.Weights.{Costs, run_weight}
use Rattle.qs_calls.specs.World.{RootRun}
use Rattle.qs_assert.specs.Values.{Extended, finite, infinite, plus}
use Rattle.qs_assert.specs.declared.define.Amount.{Amount}
use Rattle.qs_entail.specs.Meaning.{AtLeast}
use Rattle.qs_core.specs.Trees.{CoreFunctionTree, CoreUnitTree}
use Rattle.qs_tac.specs.Units.{tac_run}
use Rattle.qs_meaning.specs.Typed.{TypedProgram}
use Rattle.qs_meaning.specs.Units.{typed_of}
use Rattle.qs_meaning.specs.Runs.{main_run, source_run}
use Rattle.qs_triples.specs.Derivations.{EntryTree, entry_of}
use Rattle.qs_triples.specs.Valuations.{value_at_entry}
use Rattle.qs_image.specs.Image.{Image, FunctionRecord}
use Rattle.qs_machine.specs.Arguments.{AreArguments}
use Rattle.qs_compile.specs.AgreesWithCore.{values_of}
use Rattle.qs_compile.specs.Units.{linear, start_of}
use Rattle.qs_certify.specs.Bound as certify
use Rattle.qs_compile.specs.Agree.{Bound, Runs, AgreesFrom, IsInput}
use Rattle.qs_compile.specs.Compiled.{IsCompiled}
use Rattle.qs_driver.specs.Certified.{CertifiedSource}

-- ---- the bound

-- what a call of each function costs, by these records of an image
abbrev pub costs_in : List FunctionRecord → List ℕ
costs_in records = map (λ (f : FunctionRecord). f.cost) records

-- what main costs, and the value of its precondition at these arguments
abbrev pub bound_by : CertifiedSource → (costs : List ℕ) → (args : List ℤ) → Amount
bound_by s costs args = certify.main_bound s.core s.proofs costs args

-- the same as a value, also where a part of it is too wide to be printed
abbrev pub need_by : CertifiedSource → (costs : List ℕ) → (args : List ℤ) → Extended
need_by s costs args = certify.main_need s.core s.proofs costs args

abbrev pub if_finite : Extended → Option ℕ
if_finite (finite bytes) = Some bytes
if_finite infinite = None

-- the bytes of stack that main needs with each list of arguments, where that is a number
abbrev pub bytes_by : CertifiedSource → Image → Bound
bytes_by s image args = if_finite (need_by s (costs_in image.functions) args)

-- the source's runs of main
abbrev pub main_runs : TypedProgram → (args : List ℤ) → (input : List ℕ) → (n : ℕ) → RootRun
main_runs program args input n = main_run program (values_of args) input n

-- and as agreement sees them
abbrev pub seen_runs : TypedProgram → Runs
seen_runs program args input = source_run program (values_of args) input

-- and those of the linear code that is made of its core, within m steps
abbrev pub linear_runs : CoreUnitTree → (args : List ℤ) → (input : List ℕ) → (m : ℕ) → RootRun
linear_runs u args input m = tac_run (linear u) u.main (values_of args) (start_of u input) m

-- ---- what the bound says of the source

-- Where the arguments are main's and what main needs is a number, no run of main weighs more by the costs of the records:
-- on each input, within each bound of turns and depth, also where it is undefined or short. Nor does any of its linear
-- code, within each number of steps.
pub record WeighsWithin (s : CertifiedSource) (program : TypedProgram) (image : Image)
    : Type 0 where
  pub weighs :
      (args : List ℤ) (input : List ℕ) (bytes n : ℕ) → AreArguments image args → IsInput input
      → bytes_by s image args ≡ Some bytes
      → run_weight (certify.costs_of (costs_in image.functions)) (main_runs program args input n)
      ≤ bytes
  pub linear_weighs :
      (args : List ℤ) (input : List ℕ) (bytes m : ℕ) → AreArguments image args → IsInput input
      → bytes_by s image args ≡ Some bytes
      → run_weight (certify.costs_of (costs_in image.functions)) (linear_runs s.core args input m)
      ≤ bytes

-- The same for every stack metric: what main costs by it and the value of main's precondition bound each run, of the
-- source and of its linear code.
pub record IsBoundedByMain (s : CertifiedSource) (program : TypedProgram) : Type 0 where
  pub main : CoreFunctionTree
  pub is_main : slice_get s.core.functions s.core.main ≡ Some main
  pub entry : EntryTree
  pub stands : entry_of s.proofs s.core.main ≡ Some entry
  pub bounds :
      (cost : Costs) (args : List ℤ) (input : List ℕ) (n : ℕ)
      → certify.AreArguments s.core args → IsInput input
      → AtLeast
      (plus (finite (cost s.core.main))
      (value_at_entry cost s.proofs.defines main (values_of args) entry.spec.pre))
      (finite (run_weight cost (main_runs program args input n)))
  pub bounds_linear :
      (cost : Costs) (args : List ℤ) (input : List ℕ) (m : ℕ)
      → certify.AreArguments s.core args → IsInput input
      → AtLeast
      (plus (finite (cost s.core.main))
      (value_at_entry cost s.proofs.defines main (values_of args) entry.spec.pre))
      (finite (run_weight cost (linear_runs s.core args input m)))

-- the source has a typed tree whose runs main's entry bounds, as those of its linear code, for every stack metric
pub record IsBounded (s : CertifiedSource) : Type 0 where
  pub program : TypedProgram
  pub tree : typed_of s.unit ≡ Some program
  pub bounded : IsBoundedByMain s program

-- ---- what it says of the image

-- The image is made of the source, its costs are at most the source's caps, what main needs bounds the source's runs,
-- where it is a number, and on each stack of at least so much the image does what the source does.
pub record IsImageOf (s : CertifiedSource) (image : Image) : Type 0 where
  pub compiled : IsCompiled s.unit image
  pub weighs : WeighsWithin s compiled.program image
  pub agrees : AgreesFrom (bytes_by s image) (seen_runs compiled.program) image
