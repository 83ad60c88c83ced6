-- The functions of a unit's typed tree are at most as high as the unit, and have as many parameters as their headers.
use Rattle.std.proofs.Common.{◌≡◌, ◌≤◌, ℕ, max, Bool, true, false, List, [], ◌∷◌, ◌++◌, Option, Some, None, length, subst, arith, if◌then◌else◌}
use Rattle.std.proofs.lemmas.Option.{same_Some}
use Rattle.qs_syntax.specs.Trees.{FunctionTree, DeclTree, structure, forward, function, variables, UnitTree, typedef}
use Rattle.qs_syntax.specs.Trees as trees
use Rattle.qs_memory.proofs.Options.{followed}
use Rattle.qs_base.specs.Bytes.{same_bytes}
use Rattle.qs_types.specs.GivenFunctions.{main_name}
use Rattle.qs_types.specs.Limits.{parameter_count, main_parameter_count}
use Rattle.qs_types.specs.Contexts.{inner_scope}
use Rattle.qs_types.specs.Placed.{Local, addressed_in, statements_locals}
use Rattle.qs_types.specs.UnitRules.{parameter_types, body_context, after_declaration}
use Rattle.qs_meaning.specs.Typed.{Function, TypedProgram}
use Rattle.qs_meaning.specs.Names.{Scope, within}
use Rattle.qs_meaning.specs.Statements.{statements_typed}
use Rattle.qs_meaning.specs.Units.{placed_among, variables_among, locals_of, parameters_in, scalars_of, sizes_of, parameters_typed, in_body, function_with, function_typed, file_variables_typed, declaration_typed, declarations_typed, start_scope, typed_of}
use Rattle.qs_elaborate_laws.proofs.FitFunctionNames.{parameters_count}
use Rattle.qs_elaborate_limits.specs.Measures.{highest, option_highest}
use Rattle.qs_elaborate_limits.proofs.SourceHeights.{stmts_height, decl_height, unit_height}
use Rattle.qs_elaborate_limits.proofs.TypedHeights.{statements_height}
use Rattle.qs_elaborate_limits.proofs.StatementHeights.{statements_low}

abbrev pub body_height : Function → ℕ
body_height g = statements_height g.body

abbrev pub parameters_of : Function → ℕ
parameters_of g = length g.parameters

abbrev pub main_parameters_of : Function → ℕ
main_parameters_of g = if g.is_main then length g.parameters else 0

-- functions that are at most n high, with at most k parameters each, and main with at most m
pub record FunctionsLow (n k m : ℕ) (gs : List Function) : Type 0 where
  pub bodies : highest body_height gs ≤ n
  pub parameters : highest parameters_of gs ≤ k
  pub main_parameters : highest main_parameters_of gs ≤ m

pub highest_joined : {A : Type 0} (of : A → ℕ) (xs ys : List A) → highest of (xs ++ ys) ≡ max (highest of xs) (highest of ys)
highest_joined of [] ys = omega arith
highest_joined of (x ∷ xs) ys = let e = highest_joined of xs ys in omega arith

none_low : (n k m : ℕ) → FunctionsLow n k m []
none_low n k m = record { bodies = omega arith; parameters = omega arith; main_parameters = omega arith }

-- what a header of this name counts for main
abbrev main_parameters : FunctionTree → ℕ
main_parameters f = if same_bytes f.name main_name then length f.parameters else 0

if_main : (b : Bool) (n m : ℕ) → n ≤ m → (if b then n else 0) ≤ (if b then m else 0)
if_main true n m h = h
if_main false n m h = omega arith

-- ---- functions

function_low :
    (s : Scope) (f : FunctionTree) (body : trees.Stmts) (addressed : List ℕ) (ps ls : List Local) (g : Function)
    → function_with s f body addressed ps ls ≡ Some g → FunctionsLow (stmts_height body) (length f.parameters) (main_parameters f) (g ∷ [])
function_low s f body addressed ps ls g q =
    let locals = locals_of addressed ps ls in
    let x = followed (parameters_typed locals f.parameters (parameter_types (inner_scope s.context) f.parameters)) _ g q in
    let y = followed (scalars_of (variables_among addressed ps ls)) _ g x.then in
    let z = followed (sizes_of s.context.structs (placed_among addressed (ps ++ ls))) _ g y.then in
    let w = followed (statements_typed (in_body s f locals) body) _ g z.then in
    let h = parameters_count locals f.parameters (parameter_types (inner_scope s.context) f.parameters) x.value x.first in
    let k = statements_low body (in_body s f locals) w.value w.first in
    let main = if_main (same_bytes f.name main_name) (length x.value) (length f.parameters) (omega (arith, h)) in
    subst (λ (g : Function). FunctionsLow (stmts_height body) (length f.parameters) (main_parameters f) (g ∷ [])) (same_Some _ g w.then)
    (record { bodies = omega arith; parameters = omega arith; main_parameters = omega (arith, main) })

functions_low :
    (s : Scope) (f : FunctionTree) (o : Option trees.Stmts) (gs : List Function) → function_typed s f o ≡ Some gs
    → FunctionsLow (option_highest stmts_height o) (length f.parameters) (main_parameters f) gs
functions_low s f None gs q =
    subst (λ z. FunctionsLow 0 (length f.parameters) (main_parameters f) z) (same_Some _ gs q) (none_low 0 (length f.parameters) (main_parameters f))
functions_low s f (Some body) gs q =
    let ps = parameters_in s.context f in
    let ls = statements_locals (body_context s.context f) body in
    let g = followed (function_with s f body (addressed_in s.context f body) ps ls) _ gs q in
    subst (λ z. FunctionsLow (stmts_height body) (length f.parameters) (main_parameters f) z) (same_Some _ gs g.then)
    (function_low s f body (addressed_in s.context f body) ps ls g.value g.first)

-- ---- declarations

declaration_low :
    (d : DeclTree) (s : Scope) (now : TypedProgram) → declaration_typed s d ≡ Some now → FunctionsLow (decl_height d) (parameter_count (d ∷ [])) (main_parameter_count (d ∷ [])) now.functions
declaration_low (structure d) s now q = subst (λ (z : TypedProgram). FunctionsLow 0 0 0 z.functions) (same_Some _ now q) (none_low 0 0 0)
declaration_low (forward d) s now q = subst (λ (z : TypedProgram). FunctionsLow 0 0 0 z.functions) (same_Some _ now q) (none_low 0 0 0)
declaration_low (typedef d) s now q = subst (λ (z : TypedProgram). FunctionsLow 0 0 0 z.functions) (same_Some _ now q) (none_low 0 0 0)
declaration_low (variables d) s now q =
    let bs = followed (file_variables_typed s d.base d.variables) _ now q in
    subst (λ (z : TypedProgram). FunctionsLow 0 0 0 z.functions) (same_Some _ now bs.then) (none_low 0 0 0)
declaration_low (function f) s now q =
    let gs = followed (function_typed s f f.body) _ now q in
    let h = functions_low s f f.body gs.value gs.first in
    let bodies = h.bodies in
    let parameters = h.parameters in
    let main = h.main_parameters in
    subst (λ (z : TypedProgram). FunctionsLow (option_highest stmts_height f.body) (max (length f.parameters) 0) (max (main_parameters f) 0) z.functions) (same_Some _ now gs.then)
    (record { bodies = omega arith; parameters = omega arith; main_parameters = omega (arith, main) })

most_parameters : (d : DeclTree) (ds : UnitTree) → parameter_count (d ∷ ds) ≡ max (parameter_count (d ∷ [])) (parameter_count ds)
most_parameters (structure d) ds = omega arith
most_parameters (forward d) ds = omega arith
most_parameters (typedef d) ds = omega arith
most_parameters (variables d) ds = omega arith
most_parameters (function f) ds = omega arith

most_main_parameters : (d : DeclTree) (ds : UnitTree) → main_parameter_count (d ∷ ds) ≡ max (main_parameter_count (d ∷ [])) (main_parameter_count ds)
most_main_parameters (structure d) ds = omega arith
most_main_parameters (forward d) ds = omega arith
most_main_parameters (typedef d) ds = omega arith
most_main_parameters (variables d) ds = omega arith
most_main_parameters (function f) ds = omega arith

declarations_low :
    (ds : UnitTree) (s : Scope) (u : TypedProgram) → declarations_typed s ds ≡ Some u
    → FunctionsLow (unit_height ds) (parameter_count ds) (main_parameter_count ds) u.functions
declarations_low [] s u q = subst (λ (z : TypedProgram). FunctionsLow 0 0 0 z.functions) (same_Some _ u q) (none_low 0 0 0)
declarations_low (d ∷ ds) s u q =
    let after = within s (after_declaration s.context d) in
    let now = followed (declaration_typed s d) _ u q in
    let rest = followed (declarations_typed after ds) _ u now.then in
    let h = declaration_low d s now.value now.first in
    let k = declarations_low ds after rest.value rest.first in
    let bodies = highest_joined body_height now.value.functions rest.value.functions in
    let parameters = highest_joined parameters_of now.value.functions rest.value.functions in
    let mains = highest_joined main_parameters_of now.value.functions rest.value.functions in
    let most = most_parameters d ds in
    let most_main = most_main_parameters d ds in
    let hb = h.bodies in
    let kb = k.bodies in
    let hp = h.parameters in
    let kp = k.parameters in
    let hm = h.main_parameters in
    let km = k.main_parameters in
    subst (λ (z : TypedProgram). FunctionsLow (unit_height (d ∷ ds)) (parameter_count (d ∷ ds)) (main_parameter_count (d ∷ ds)) z.functions) (same_Some _ u rest.then)
    (record { bodies = omega arith; parameters = omega arith; main_parameters = omega (arith, mains, most_main, hm, km) })

-- ---- units

pub typed_units_are_low :
    (unit : UnitTree) (u : TypedProgram) → typed_of unit ≡ Some u → FunctionsLow (unit_height unit) (parameter_count unit) (main_parameter_count unit) u.functions
typed_units_are_low unit u q =
    let d = followed (declarations_typed (start_scope unit) unit) _ u q in
    subst (λ (z : TypedProgram). FunctionsLow (unit_height unit) (parameter_count unit) (main_parameter_count unit) z.functions) (same_Some _ u d.then)
    (declarations_low unit (start_scope unit) d.value d.first)
