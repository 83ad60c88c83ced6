-- The names of a unit, where the nodes of its functions' variables are known.
use Rattle.std.specs.Prelude.{ℕ, List, [], ◌∷◌, ◌++◌, Option, Some, None, length, drop, map, slice_index_or}
use Rattle.qs_syntax.specs.Trees.{ParameterTree, Stmts, FunctionTree, DeclTree, structure, forward, function, variables, UnitTree, typedef}
use Rattle.qs_elaborate_bodies.specs.Names.{FunctionNames, parameter_name, function_declares, name_at}

-- ---- names by these nodes

abbrev pub names_with : FunctionTree → Stmts → (nodes : List ℕ) → FunctionNames
names_with f body nodes = record {
  parameters = map (λ (p : ParameterTree). parameter_name p.name) f.parameters;
  variables = map (λ node. name_at node [] (function_declares f body)) nodes;
}

abbrev pub function_named : (nodes : List ℕ) → FunctionTree → Option Stmts → List FunctionNames
function_named nodes f None = []
function_named nodes f (Some body) = names_with f body nodes ∷ []

abbrev pub declaration_named : (nodes : List ℕ) → DeclTree → List FunctionNames
declaration_named nodes (structure d) = []
declaration_named nodes (forward d) = []
declaration_named nodes (typedef d) = []
declaration_named nodes (function f) = function_named nodes f f.body
declaration_named nodes (variables d) = []

-- the first of the lists is that of the next function
abbrev pub declarations_named : List (List ℕ) → UnitTree → List FunctionNames
declarations_named all [] = []
declarations_named all (d ∷ ds) =
    let now = declaration_named (slice_index_or all 0 []) d in now ++ declarations_named (drop (length now) all) ds
