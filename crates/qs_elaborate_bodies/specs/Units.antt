-- What functions and units are in core.
use Rattle.std.specs.Prelude.{ℕ, Bool, List, [], ◌∷◌, ◌++◌, Option, Some, map, if◌then◌else◌}
use Rattle.qs_syntax.specs.Trees.{UnitTree}
use Rattle.qs_memory.specs.declared.scalar.Scalar.{Scalar}
use Rattle.qs_memory.specs.declared.scalar.Scalar.TheVariants as scalars
use Rattle.qs_memory.specs.Partial.{◌>>=◌}
use Rattle.qs_calls.specs.declared.parameter.Parameter.{Parameter}
use Rattle.qs_core.specs.Trees.{CoreStmtTree, stmts_of, CoreParameterTree, CoreVariableTree, CoreFunctionTree, CoreUnitTree}
use Rattle.qs_core.specs.Trees as core
use Rattle.qs_meaning.specs.Typed.{Function, TypedProgram}
use Rattle.qs_meaning.specs.Units.{typed_of}
use Rattle.qs_meaning.specs.Runs.{main_from}
use Rattle.qs_elaborate_bodies.specs.Parts.{Listed}
use Rattle.qs_elaborate_bodies.specs.Statements.{statements_core}
use Rattle.qs_elaborate_bodies.specs.Names.{VariableName, FunctionNames, names_in}
use Rattle.qs_elaborate_bodies.specs.Data.{data_core}

-- ---- names; every parameter and every variable has one

abbrev pub named_parameters : (names : List (List ℕ)) → List Parameter → List CoreParameterTree
named_parameters names [] = []
named_parameters [] (p ∷ ps) = record { name = []; place = p } ∷ named_parameters [] ps
named_parameters (x ∷ names) (p ∷ ps) = record { name = x; place = p } ∷ named_parameters names ps

abbrev pub named_variables : List VariableName → List Scalar → List CoreVariableTree
named_variables names [] = []
named_variables [] (s ∷ ss) = record { name = []; ordinal = 1; scalar = s } ∷ named_variables [] ss
named_variables (x ∷ names) (s ∷ ss) = record { name = x.name; ordinal = x.ordinal; scalar = s } ∷ named_variables names ss

-- ---- functions

-- 5.1.2.2.3: the end of main returns 0
abbrev pub end_of_body : (is_main : Bool) → List CoreStmtTree
end_of_body is_main = if is_main then core.return (Some (core.literal scalars.Int 0)) ∷ [] else []

-- a function's temporaries are numbered from 0
abbrev pub body_core : Function → Listed
body_core g = statements_core g.body []

abbrev pub function_core : FunctionNames → Function → CoreFunctionTree
function_core names g = record {
  name = g.name;
  parameters = named_parameters names.parameters g.parameters;
  variables = named_variables names.variables g.variables;
  temporaries = (body_core g).temporaries;
  blocks = g.blocks;
  result_type = g.result;
  body = stmts_of ((body_core g).statements ++ end_of_body g.is_main);
}

abbrev pub no_names : FunctionNames
no_names = record { parameters = []; variables = [] }

abbrev pub functions_core : List FunctionNames → List Function → List CoreFunctionTree
functions_core names [] = []
functions_core [] (g ∷ gs) = function_core no_names g ∷ functions_core [] gs
functions_core (f ∷ names) (g ∷ gs) = function_core f g ∷ functions_core names gs

-- ---- units

abbrev pub unit_core : List FunctionNames → TypedProgram → (main : ℕ) → CoreUnitTree
unit_core names u main = record { functions = functions_core names u.functions; main = main; data_blocks = map data_core u.blocks }

-- the core of a unit that has a typed tree and a main
abbrev pub core_of : UnitTree → Option CoreUnitTree
core_of unit = typed_of unit >>= λ (u : TypedProgram). main_from 0 u.functions >>= λ main. Some (unit_core (names_in unit) u main)
