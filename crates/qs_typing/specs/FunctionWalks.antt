-- How walks in code go over functions, as the definitions say.
use Rattle.std.specs.Prelude.{◌≡◌, ℕ, Bool, List, [], ◌∷◌, ◌++◌, Option, map, option_map, option_to_list, if◌then◌else◌}
use Rattle.std.specs.Borrow.{Bor}
use Rattle.qs_syntax.specs.declared.declarations.Parameter.{Parameter}
use Rattle.qs_syntax.specs.declared.statements.Stmt.{Stmt}
use Rattle.qs_syntax.specs.declared.units.Function.{Function}
use Rattle.qs_syntax.specs.TreeOf.{function_tree, parameter_tree, stmts_tree}
use Rattle.qs_types.specs.declared.env.Env.{Env}
use Rattle.qs_types.specs.declared.rules.Rule.TheVariants as rule
use Rattle.qs_types.specs.declared.types.CType.{CType}
use Rattle.qs_types.specs.Contexts.{inner_scope}
use Rattle.qs_types.specs.Declarations as declarations
use Rattle.qs_types.specs.EnvOf.{env_tree}
use Rattle.qs_types.specs.Rules as pure
use Rattle.qs_types.specs.UnitRules as rules
use Rattle.qs_typing_findings.specs.declared.context.Context.{Context}
use Rattle.qs_typing_findings.specs.declared.entity.Entity.{Entity}
use Rattle.qs_typing_findings.specs.declared.entity.Signature.{Signature}
use Rattle.qs_typing_findings.specs.declared.judged.Test.{Test}
use Rattle.qs_typing_findings.specs.declared.noted.Local.{Local}
use Rattle.qs_typing_findings.specs.declared.walk.Walk.{Walk}
use Rattle.qs_typing_findings.specs.ContextOf.{context_tree}
use Rattle.qs_typing_findings.specs.PartsOf.{option_type}
use Rattle.qs_typing_findings.specs.EntityOf.{entity_at, entity_tree, signature_tree}
use Rattle.qs_typing_findings.specs.Functions.{after_parameters, items_walked}
use Rattle.qs_typing_findings.specs.JudgedOf.{test_tree}
use Rattle.qs_typing_findings.specs.Noted.{parameters_noted}
use Rattle.qs_typing_findings.specs.NotedOf.{local_tree}
use Rattle.qs_typing_findings.specs.UnitWalk.{declarator_walked, function_walked, parameter_walked, parameters_walked}
use Rattle.qs_typing_findings.specs.WalkOf.{walk_tree}

-- ---- parameters

-- each length of a parameter has a type
abbrev pub are_lengths_typed : Context → Parameter → Bool
are_lengths_typed c p = declarations.all_typed (context_tree c) (parameter_tree p).lengths.given

-- a walk went over the declarator of a parameter
abbrev pub WalksDeclarator : Context → Parameter → (before after : Walk) → Type 0
WalksDeclarator c p before after =
    walk_tree after
    ≡ declarator_walked (context_tree c) (declarations.parameter_declared (context_tree c) (parameter_tree p)).type (parameter_tree p).lengths.given (walk_tree before)

-- the test that a parameter is a scalar, and has a name where there is a body
abbrev pub IsSignatureTest : Parameter → (has_body : Bool) → Option CType → Test → Type 0
IsSignatureTest p has_body t test = test_tree test ∷ [] ≡ rules.signature_tests (parameter_tree p) has_body (option_type t)

-- the tests of a parameter, where its lengths have types
abbrev pub AreParameterTests : (all_typed again : Bool) → (declared : List Test) → (signature : Test) → List Test → Type 0
AreParameterTests all_typed again declared signature tests =
    map test_tree tests ≡ (if all_typed then pure.test rule.DeclaredTwice again ++ (map test_tree declared ++ test_tree signature ∷ []) else [])

-- a parameter of this type is known, where it has a name
abbrev pub DeclaresParameter : Parameter → Option CType → (before after : Context) → Type 0
DeclaresParameter p t before after = context_tree after ≡ rules.with_parameter (context_tree before) (parameter_tree p) (option_type t) p.name

abbrev pub DeclaresParameters : List Parameter → List (Option CType) → (before after : Context) → Type 0
DeclaresParameters ps types before after =
    context_tree after ≡ rules.with_parameters (context_tree before) (map parameter_tree ps) (map option_type types)

abbrev pub IsParameterType : Context → Parameter → Option CType → Type 0
IsParameterType c p t = option_type t ≡ (declarations.parameter_declared (context_tree c) (parameter_tree p)).type

abbrev pub AreParameterTypes : Context → List Parameter → List (Option CType) → Type 0
AreParameterTypes c ps types = map option_type types ≡ rules.parameter_types (context_tree c) (map parameter_tree ps)

abbrev pub KnowsParameter : Parameter → (before after : Context) → Type 0
KnowsParameter p before after = context_tree after ≡ rules.after_parameter (context_tree before) (parameter_tree p)

abbrev pub KnowsParameters : List Parameter → (before after : Context) → Type 0
KnowsParameters ps before after = context_tree after ≡ after_parameters (context_tree before) (map parameter_tree ps)

abbrev pub WalksParameter : Context → (has_body : Bool) → Parameter → (before after : Walk) → Type 0
WalksParameter c has_body p before after = walk_tree after ≡ parameter_walked (context_tree c) has_body (parameter_tree p) (walk_tree before)

abbrev pub WalksParameters : Context → (has_body : Bool) → List Parameter → (before after : Walk) → Type 0
WalksParameters c has_body ps before after =
    walk_tree after ≡ parameters_walked (context_tree c) has_body (map parameter_tree ps) (walk_tree before)

-- the locals that parameters of these types are
abbrev pub AreNoted : Env → List Parameter → List (Option CType) → List Local → Type 0
AreNoted structs ps types locals = map local_tree locals ≡ parameters_noted (env_tree structs) (map parameter_tree ps) (map option_type types)

-- ---- headers

-- the types of a header's parts
abbrev pub header_by : List (Option CType) → Option CType → rules.Header
header_by types to = record { parameters = map option_type types; result = option_type to }

abbrev pub IsResultType : Context → Function → Option CType → Type 0
IsResultType c f t = option_type t ≡ rules.result_type (context_tree c) (function_tree f)

-- these are the types of the parameters of a header that stands here
abbrev pub HasParameterTypes : Context → Function → List (Option CType) → Type 0
HasParameterTypes c f types = map option_type types ≡ rules.parameter_types (inner_scope (context_tree c)) (function_tree f).parameters

-- what was declared before under the name of a header agrees with it
abbrev pub agrees_with : Option (Bor Entity) → rules.Header → (has_body : Bool) → Bool
agrees_with entity header has_body = rules.agrees_with (entity_at entity) header has_body

abbrev pub IsMainTest : Function → rules.Header → Option Test → Type 0
IsMainTest f header t = map test_tree (option_to_list t) ≡ rules.main_tests (function_tree f) header

-- some tests, and perhaps one more
abbrev pub AreWithOne : List Test → Option Test → List Test → Type 0
AreWithOne tests t all = map test_tree all ≡ map test_tree tests ++ map test_tree (option_to_list t)

abbrev pub AreHeaderTests : Context → Function → List Test → Type 0
AreHeaderTests c f tests = map test_tree tests ≡ rules.header_tests (context_tree c) (function_tree f)

abbrev pub IsSignature : rules.Header → Option Signature → Type 0
IsSignature header s = option_map signature_tree s ≡ rules.signature_by header

-- what a header declares, by what was declared before under its name
abbrev pub IsDeclaredFunction : Option (Bor Entity) → (node : ℕ) → Option Signature → (has_body : Bool) → Entity → Type 0
IsDeclaredFunction entity node s has_body e =
    entity_tree e ≡ rules.declared_function (entity_at entity) node (option_map signature_tree s) has_body

abbrev pub KnowsFunction : Function → (before after : Context) → Type 0
KnowsFunction f before after = context_tree after ≡ rules.after_function (context_tree before) (function_tree f)

-- ---- bodies

abbrev pub WalksItems : Context → List Parameter → List (Option CType) → Option CType → List Stmt → (before after : Walk) → Type 0
WalksItems c ps types to items before after =
    walk_tree after ≡ items_walked (context_tree c) (map parameter_tree ps) (map option_type types) (option_type to) (stmts_tree items) (walk_tree before)

abbrev pub WalksFunction : Context → Function → (before after : Walk) → Type 0
WalksFunction c f before after = walk_tree after ≡ function_walked (context_tree c) (function_tree f) (walk_tree before)
