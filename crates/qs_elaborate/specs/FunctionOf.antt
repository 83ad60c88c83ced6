-- What functions and units in code are in core, by names in code.
use Rattle.std.specs.Prelude.{◌≡◌, ℕ, List, Result, IfOk, map, slice_index_or}
use Rattle.std.specs.Global.{Vec}
use Rattle.qs_memory.specs.declared.scalar.Scalar.{Scalar}
use Rattle.qs_core.specs.Trees.{CoreParameterTree, CoreVariableTree, CoreFunctionTree, CoreUnitTree}
use Rattle.qs_core.specs.TreeOf.{parameter_tree, variable_tree, function_tree}
use Rattle.qs_core.specs.declared.units.CoreParameter.{CoreParameter}
use Rattle.qs_core.specs.declared.units.CoreVariable.{CoreVariable}
use Rattle.qs_core.specs.declared.units.CoreFunction.{CoreFunction}
use Rattle.qs_typed_trees.specs.TreeOf as typed
use Rattle.qs_typed_trees.specs.declared.program.TypedFunction.{TypedFunction}
use Rattle.qs_typed_trees.specs.declared.program.TypedProgram.{TypedProgram}
use Rattle.qs_elaborate.specs.NamesOf.{variable_name_of, names_of, named, no_name, variable_named}
use Rattle.qs_elaborate_bodies.specs.Units as units
use Rattle.qs_elaborate.specs.declared.names.VariableName.{VariableName}
use Rattle.qs_elaborate.specs.declared.names.FunctionNames.{FunctionNames}

-- ---- parameters and variables

abbrev pub parameter_trees : Vec CoreParameter → List CoreParameterTree
parameter_trees ps = map parameter_tree ps.items

abbrev pub variable_trees : Vec CoreVariable → List CoreVariableTree
variable_trees vs = map variable_tree vs.items

abbrev pub variable_at : List VariableName → (i : ℕ) → Scalar → CoreVariableTree
variable_at names i s = variable_named (slice_index_or (map variable_name_of names) i no_name) s

abbrev pub named_variables : List VariableName → List Scalar → List CoreVariableTree
named_variables names scalars = units.named_variables (map variable_name_of names) scalars

-- ---- functions

abbrev pub function_with : (parameters : List (List ℕ)) → (variables : List VariableName) → TypedFunction → CoreFunctionTree
function_with parameters variables g =
    units.function_core (named parameters (map variable_name_of variables)) (typed.function_tree g)

abbrev pub function_at : List FunctionNames → (i : ℕ) → TypedFunction → CoreFunctionTree
function_at names i g =
    units.function_core (slice_index_or (map names_of names) i units.no_names) (typed.function_tree g)

abbrev pub function_trees : Vec CoreFunction → List CoreFunctionTree
function_trees fs = map function_tree fs.items

abbrev pub functions : List FunctionNames → List TypedFunction → List CoreFunctionTree
functions names gs = units.functions_core (map names_of names) (map typed.function_tree gs)

-- the answer is this function; it says so only where the result is Ok
abbrev pub GivesFunction : {E : Type 0} → CoreFunctionTree → Result CoreFunction E → Type 0
GivesFunction f result = IfOk result (λ g. function_tree g ≡ f)

-- ---- units

abbrev pub core_with : List FunctionNames → TypedProgram → (main : ℕ) → CoreUnitTree
core_with names program main = units.unit_core (map names_of names) (typed.program_tree program) main
