-- A walk over a function: its header, and its body.
use Rattle.std.proofs.Common.{◌≡◌, Bool, not, ◌&&◌, List, [], ◌∷◌, Option, Some, None, is_some, option_map, refl, sym, ap, ◌∙◌}
use Rattle.qs_syntax.specs.Trees.{ParameterTree, FunctionTree, Stmts}
use Rattle.qs_types.specs.Types.{TypeTree, Structs}
use Rattle.qs_types.specs.declared.rules.Rule.TheVariants as rules
use Rattle.qs_types.specs.Rules.{Test}
use Rattle.qs_types.specs.Contexts.{Context, base_type, inner_scope, is_type_name, lookup}
use Rattle.qs_types.specs.Expressions.{type_or_void}
use Rattle.qs_types.specs.UnitRules.{agrees_with, is_aggregate, is_void_pointer, main_tests, after_function, header_tests, parameter_types, result_type, with_parameters}
use Rattle.qs_typing_findings.specs.Functions.{items_walked}
use Rattle.qs_typing_findings.specs.Noted.{parameters_noted}
use Rattle.qs_typing_findings.specs.UnitWalk.{WalkTree, node_opened, node_judged, parameters_walked, body_walked, function_walked}

pub still_some : {A B : Type 0} (g : A → B) (o : Option A) → is_some o ≡ is_some (option_map g o)
still_some g None = refl
still_some g (Some x) = refl

-- the tests of a header whose parts have these types
pub tests_are : (c : Context) (f : FunctionTree) (types : List (Option TypeTree)) (to : Option TypeTree) (agrees known void structure : Bool)
    → types ≡ parameter_types (inner_scope c) f.parameters → to ≡ result_type c f
    → agrees ≡ (not (is_type_name c f.name) && agrees_with (lookup f.name c.inner) (record { parameters = types; result = to }) (is_some f.body))
    → known ≡ is_some (base_type c f.result_type.base) → void ≡ is_void_pointer f → structure ≡ is_aggregate (type_or_void to)
    → record { rule = rules.DeclaredTwice; breaks = not agrees } ∷ record { rule = rules.UnknownTag; breaks = not known } ∷ record { rule = rules.IncompleteType; breaks = void }
    ∷ record { rule = rules.SignatureType; breaks = structure } ∷ main_tests f (record { parameters = types; result = to })
    ≡ header_tests c f
tests_are c f types to agrees known void structure ts t a k v s =
    let agree : agrees ≡ (not (is_type_name c f.name) && agrees_with (lookup f.name c.inner) (record { parameters = parameter_types (inner_scope c) f.parameters; result = result_type c f }) (is_some f.body)) =
    a ∙ (λ i. not (is_type_name c f.name) && agrees_with (lookup f.name c.inner) (record { parameters = ts i; result = t i }) (is_some f.body)) in
    let struct : structure ≡ is_aggregate (type_or_void (result_type c f)) = s ∙ ap (λ o. is_aggregate (type_or_void o)) t in
    λ i. record { rule = rules.DeclaredTwice; breaks = not (agree i) } ∷ record { rule = rules.UnknownTag; breaks = not (k i) } ∷ record { rule = rules.IncompleteType; breaks = v i }
    ∷ record { rule = rules.SignatureType; breaks = struct i } ∷ main_tests f (record { parameters = ts i; result = t i })

-- a walk over a header alone
abbrev pub header_walk : Context → FunctionTree → WalkTree → WalkTree
header_walk c f w = node_judged f.node (header_tests c f) (parameters_walked (inner_scope c) (is_some f.body) f.parameters (node_opened w))

pub header_is : (c begun left : Context) (f : FunctionTree) (has_body : Bool) (ps : List ParameterTree) (ts : List Test) (before opened walked judged : WalkTree)
    → begun ≡ inner_scope c → left ≡ c → has_body ≡ is_some f.body → ps ≡ f.parameters → opened ≡ node_opened before → walked ≡ parameters_walked begun has_body ps opened
    → ts ≡ header_tests left f → judged ≡ node_judged f.node ts walked → judged ≡ header_walk c f before
header_is c begun left f has_body ps ts before opened walked judged b l h p o w t j =
    let parts : walked ≡ parameters_walked (inner_scope c) (is_some f.body) f.parameters (node_opened before) = w ∙ (λ i. parameters_walked (b i) (h i) (p i) (o i)) in
    let tests : ts ≡ header_tests c f = t ∙ ap (λ d. header_tests d f) l in
    j ∙ (λ i. node_judged f.node (tests i) (parts i))

-- a walk over the body
pub body_is : (c known : Context) (f : FunctionTree) (ps : List ParameterTree) (types : List (Option TypeTree)) (to : Option TypeTree) (ss : Stmts) (before judged : WalkTree)
    → known ≡ after_function c f → ps ≡ f.parameters → types ≡ parameter_types (inner_scope c) f.parameters → to ≡ result_type c f → f.body ≡ Some ss → judged ≡ header_walk c f before
    → items_walked known ps types to ss judged ≡ function_walked c f before
body_is c known f ps types to ss before judged k p ts t s j =
    (λ i. items_walked (k i) (p i) (ts i) (t i) ss (j i)) ∙ ap (λ body. body_walked c f body (header_walk c f before)) (sym s)

pub no_body : (c : Context) (f : FunctionTree) (before judged : WalkTree) → f.body ≡ None → judged ≡ header_walk c f before → judged ≡ function_walked c f before
no_body c f before judged n j = j ∙ ap (λ body. body_walked c f body (header_walk c f before)) (sym n)

-- ---- parameters without types: nothing is declared, and nothing is noted

pub no_types : (c : Context) (ps : List ParameterTree) → with_parameters c ps [] ≡ c
no_types c [] = refl
no_types c (p ∷ ps) = refl

pub none_noted : (structs : Structs) (ps : List ParameterTree) → parameters_noted structs ps [] ≡ []
none_noted structs [] = refl
none_noted structs (p ∷ ps) = refl
