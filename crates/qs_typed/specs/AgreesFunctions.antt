-- When what is known by the numbers of nodes is what the definition has of a function with a body.
use Rattle.std.specs.Prelude.{◌≡◌, ℕ, List, [], ◌∷◌, ◌++◌, Option, Some, None, if◌then◌else◌}
use Rattle.qs_syntax.specs.Trees.{ParameterTree, FunctionTree, Stmts}
use Rattle.qs_types.specs.Types.{TypeTree}
use Rattle.qs_types.specs.Contexts.{inner_scope}
use Rattle.qs_types.specs.Placed.{Local}
use Rattle.qs_types.specs.UnitRules.{parameter_types, result_type}
use Rattle.qs_meaning.specs.Names.{Scope}
use Rattle.qs_meaning.specs.Units.{locals_of, result_scalar, in_body}
use Rattle.qs_typed_nodes.specs.Known.{Known, at_number}
use Rattle.qs_typed_nodes.specs.KnownFunctions.{returns_nothing}
use Rattle.qs_typed_nodes.specs.Agrees.{Grown, StatementsAt}

-- each parameter has its type at its node
abbrev pub ParametersAt : Known → List ParameterTree → List (Option TypeTree) → Type 0
ParametersAt k [] ts = Unit {0}
ParametersAt k (p ∷ ps) [] = Unit {0}
ParametersAt k (p ∷ ps) (t ∷ ts) = (at_number k.types p.node.id ≡ t) × ParametersAt k ps ts

-- each local has its type at its node
abbrev pub LocalsAt : Known → List Local → Type 0
LocalsAt k [] = Unit {0}
LocalsAt k (l ∷ ls) = (at_number k.types l.node ≡ l.type) × LocalsAt k ls

-- a function, whose parameters and locals these are, and the operands of `&` among them
pub record FunctionAt (k : Known) (s : Scope) (f : FunctionTree) (body : Stmts) (addressed : List ℕ) (ps ls : List Local) : Type 0 where
  pub locals : k.locals ≡ locals_of addressed ps ls
  pub result : (if returns_nothing k.type_names f then None else Some k.result) ≡ result_scalar (result_type s.context f)
  pub structs : Grown s.context.structs k.structs
  pub parameters : ParametersAt k f.parameters (parameter_types (inner_scope s.context) f.parameters)
  pub declared : LocalsAt k (ps ++ ls)
  pub statements : StatementsAt k (in_body s f (locals_of addressed ps ls)) body
