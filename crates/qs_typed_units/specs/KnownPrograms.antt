-- The typed trees of the functions of a unit, from what is known by the numbers of its nodes.
use Rattle.std.specs.Prelude.{ℕ, nat_eq, List, [], ◌∷◌, ◌++◌, Option, Some, None, if◌then◌else◌}
use Rattle.std.specs.List.{list_any}
use Rattle.qs_syntax.specs.Trees.{structure, forward, function, variables, FunctionTree, Stmts, UnitTree, typedef}
use Rattle.qs_memory.specs.Partial.{◌>>=◌}
use Rattle.qs_types.specs.Types.{TypeTree, Structs}
use Rattle.qs_types.specs.declared.referent.Referent.{Referent}
use Rattle.qs_meaning.specs.Typed.{Function}
use Rattle.qs_meaning.specs.Names.{Locals, Statics}
use Rattle.qs_typed_units.specs.Addressed.{statements_addressed}
use Rattle.qs_typed_nodes.specs.Known.{Known, Header}
use Rattle.qs_typed_nodes.specs.KnownFunctions.{places_at, parameters_nodes, statements_nodes, named_scalar, function_known}
use Rattle.qs_types.specs.Contexts.{TypeNames}

-- what is known of all functions of a unit
pub record Tables : Type 0 where
  pub types : List (Option TypeTree)
  pub referents : List (Option Referent)
  pub structs : Structs
  pub type_names : TypeNames
  pub headers : List Header
  pub statics : Statics
  pub functions : List (List ℕ)

-- each number once, behind these
abbrev pub each_once : List ℕ → List ℕ → List ℕ
each_once done [] = done
each_once done (n ∷ ns) = each_once (if list_any (nat_eq n) done then done else done ++ n ∷ []) ns

abbrev pub body_places : Tables → FunctionTree → Stmts → Locals
body_places t f body = places_at t.types (each_once [] (statements_addressed t.referents body)) (parameters_nodes f.parameters) (statements_nodes body)

-- what is known in a body
abbrev pub known_in : Tables → FunctionTree → Stmts → Known
known_in t f body = record {
  types = t.types;
  referents = t.referents;
  result = named_scalar t.type_names f.result_type;
  structs = t.structs;
  type_names = t.type_names;
  headers = t.headers;
  locals = body_places t f body;
  statics = t.statics;
  functions = t.functions;
}

abbrev pub body_known : Tables → FunctionTree → Stmts → Option Function
body_known t f body = function_known (known_in t f body) f body

abbrev pub option_body_known : Tables → FunctionTree → Option Stmts → Option (List Function)
option_body_known t f None = Some []
option_body_known t f (Some body) = body_known t f body >>= λ g. Some (g ∷ [])

-- the functions with a body, in order
abbrev pub functions_known : Tables → UnitTree → Option (List Function)
functions_known t [] = Some []
functions_known t (structure d ∷ ds) = functions_known t ds
functions_known t (forward d ∷ ds) = functions_known t ds
functions_known t (typedef d ∷ ds) = functions_known t ds
functions_known t (function f ∷ ds) = option_body_known t f f.body >>= λ now. functions_known t ds >>= λ rest. Some (now ++ rest)
functions_known t (variables d ∷ ds) = functions_known t ds
