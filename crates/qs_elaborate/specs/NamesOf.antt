-- The names that those in code stand for.
use Rattle.std.specs.Prelude.{ℕ, List, [], map}
use Rattle.qs_memory.specs.declared.scalar.Scalar.{Scalar}
use Rattle.qs_core.specs.Trees.{CoreVariableTree}
use Rattle.qs_elaborate_bodies.specs.Names as names
use Rattle.qs_elaborate.specs.declared.names.VariableName.{VariableName}
use Rattle.qs_elaborate.specs.declared.names.FunctionNames.{FunctionNames}

abbrev pub variable_name_of : VariableName → names.VariableName
variable_name_of x = record { name = x.name; ordinal = x.ordinal }

abbrev pub names_of : FunctionNames → names.FunctionNames
names_of f = record { parameters = f.parameters.items; variables = map variable_name_of f.variables.items }

abbrev pub named : (parameters : List (List ℕ)) → List names.VariableName → names.FunctionNames
named parameters variables = record { parameters = parameters; variables = variables }

abbrev pub no_name : names.VariableName
no_name = record { name = []; ordinal = 1 }

abbrev pub variable_named : names.VariableName → Scalar → CoreVariableTree
variable_named x s = record { name = x.name; ordinal = x.ordinal; scalar = s }
