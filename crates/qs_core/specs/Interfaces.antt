-- The types of what core names by numbers, and what a unit shows to those who run its functions.
use Rattle.std.specs.Prelude.{ℕ, List, [], ◌∷◌, map, Option, Some, None, option_map}
use Rattle.std.specs.List.{slice_get}
use Rattle.qs_memory.specs.declared.scalar.Scalar.{Scalar}
use Rattle.qs_calls.specs.Starts.{Signature, DataExtent, Interface}
use Rattle.qs_core.specs.declared.numbers.Target.{Target}
use Rattle.qs_core.specs.declared.numbers.Target.TheVariants as targets
use Rattle.qs_core.specs.Trees.{CoreParameterTree, CoreVariableTree, CoreFunctionTree, DataBlockTree, CoreUnitTree}
use Rattle.qs_core.specs.Units.{data_block}

abbrev pub variable_type : CoreFunctionTree → ℕ → Option Scalar
variable_type f x = option_map (λ v. v.scalar) (slice_get f.variables x)

abbrev pub temporary_type : CoreFunctionTree → ℕ → Option Scalar
temporary_type f k = slice_get f.temporaries k

abbrev pub target_type : CoreFunctionTree → Target → Option Scalar
target_type f (targets.Variable x) = variable_type f x
target_type f (targets.Temporary k) = temporary_type f k

-- the types of the first variables, one for each parameter
abbrev pub types_of : List CoreParameterTree → List CoreVariableTree → List Scalar
types_of [] vs = []
types_of (p ∷ ps) [] = []
types_of (p ∷ ps) (v ∷ vs) = v.scalar ∷ types_of ps vs

-- parameters come first among the variables
abbrev pub parameter_types : CoreFunctionTree → List Scalar
parameter_types f = types_of f.parameters f.variables

abbrev pub types_of_main : Option CoreFunctionTree → List Scalar
types_of_main None = []
types_of_main (Some f) = parameter_types f

-- the types of main's parameters
abbrev pub main_types : CoreUnitTree → List Scalar
main_types u = types_of_main (slice_get u.functions u.main)

abbrev pub signature : CoreFunctionTree → Signature
signature f = record { parameters = parameter_types f; result_type = f.result_type }

abbrev pub data_extent : DataBlockTree → DataExtent
data_extent d = record { size = (data_block d).size; is_writable = d.is_writable }

abbrev pub interface_of : CoreUnitTree → Interface
interface_of u = record {
  functions = map signature u.functions;
  data_blocks = map data_extent u.data_blocks;
}
