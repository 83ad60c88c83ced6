-- The variables of the functions of a unit, parameters among them, by the numbers of their nodes.
use Rattle.std.specs.Prelude.{ℕ, List, [], ◌∷◌, ◌++◌, Option, Some, None}
use Rattle.qs_syntax.specs.Trees.{structure, forward, function, variables, FunctionTree, Stmts, DeclTree, UnitTree, typedef}
use Rattle.qs_types.specs.Contexts.{Context, start_context}
use Rattle.qs_types.specs.UnitRules.{after_declaration}
use Rattle.qs_meaning.specs.Units.{function_locals}
use Rattle.qs_typed_units.specs.KnownPrograms.{Tables, body_places}

-- of a function with a body; the context is that before its header
abbrev pub function_variables : Context → FunctionTree → Option Stmts → List (List ℕ)
function_variables c f None = []
function_variables c f (Some body) = (function_locals c f body).variables ∷ []

abbrev pub declaration_variables : Context → DeclTree → List (List ℕ)
declaration_variables c (structure d) = []
declaration_variables c (forward d) = []
declaration_variables c (typedef d) = []
declaration_variables c (function f) = function_variables c f f.body
declaration_variables c (variables d) = []

abbrev pub unit_variables_from : Context → UnitTree → List (List ℕ)
unit_variables_from c [] = []
unit_variables_from c (d ∷ ds) = declaration_variables c d ++ unit_variables_from (after_declaration c d) ds

-- of each function with a body, in order
abbrev pub unit_variables : UnitTree → List (List ℕ)
unit_variables unit = unit_variables_from start_context unit

-- ---- the same, by the numbers of the nodes

abbrev pub variables_of : Tables → FunctionTree → Option Stmts → List (List ℕ)
variables_of t f None = []
variables_of t f (Some body) = (body_places t f body).variables ∷ []

abbrev pub variables_known : Tables → UnitTree → List (List ℕ)
variables_known t [] = []
variables_known t (structure d ∷ ds) = variables_known t ds
variables_known t (forward d ∷ ds) = variables_known t ds
variables_known t (typedef d ∷ ds) = variables_known t ds
variables_known t (function f ∷ ds) = variables_of t f f.body ++ variables_known t ds
variables_known t (variables d ∷ ds) = variables_known t ds
