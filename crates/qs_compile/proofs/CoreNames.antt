-- The functions of a source's core have the names of its functions with a body.
use Rattle.std.proofs.Common.{◌≡◌, ℕ, ◌+◌, List, [], ◌∷◌, ◌++◌, Option, Some, None, length, map, refl, sym, ap, ◌∙◌}
use Rattle.std.specs.Prelude.{sum_by}
use Rattle.std.proofs.lemmas.List.{map-append}
use Rattle.std.proofs.lemmas.List.Sums.{sum_by-cons}
use Rattle.qs_syntax.specs.Trees.{FunctionTree, Stmts, DeclTree, structure, forward, function, variables, UnitTree, typedef}
use Rattle.qs_memory.proofs.Options.{some_same, followed}
use Rattle.qs_types.specs.Contexts.{inner_scope}
use Rattle.qs_types.specs.Placed.{Local, addressed_in, statements_locals}
use Rattle.qs_types.specs.UnitRules.{parameter_types, body_context, after_declaration}
use Rattle.qs_core.specs.Trees.{CoreFunctionTree, CoreUnitTree}
use Rattle.qs_meaning.specs.Names.{Scope, within}
use Rattle.qs_meaning.specs.Statements.{statements_typed}
use Rattle.qs_meaning.specs.Typed.{Function, TypedProgram}
use Rattle.qs_meaning.specs.Units.{placed_among, variables_among, locals_of, parameters_in, scalars_of, sizes_of, parameters_typed, in_body, function_with, function_typed, file_variables_typed, declaration_typed, declarations_typed, name_with_body, functions_in, start_scope, typed_of}
use Rattle.qs_elaborate_bodies.specs.Names.{FunctionNames, names_in}
use Rattle.qs_elaborate_bodies.specs.Units.{functions_core, core_of}
use Rattle.qs_elaborate_limits.proofs.CoreUnits.{made, functions_are}
use Rattle.qs_compile.specs.Limits.{bytes_of_names, name_bytes}
use Rattle.qs_compile.specs.Names.{name_bytes_in}
use Rattle.qs_compile.proofs.SourceNames.{own_names, own_and_others}

-- ---- the typed tree

abbrev names_of : List Function → List (List ℕ)
names_of gs = map (λ (g : Function). g.name) gs

function_named : (s : Scope) (f : FunctionTree) (body : Stmts) (addressed : List ℕ) (ps ls : List Local) (g : Function) → function_with s f body addressed ps ls ≡ Some g → g.name ≡ f.name
function_named s f body addressed ps ls g q =
    let p = followed (parameters_typed (locals_of addressed ps ls) f.parameters (parameter_types (inner_scope s.context) f.parameters)) _ g q in
    let v = followed (scalars_of (variables_among addressed ps ls)) _ g p.then in
    let z = followed (sizes_of s.context.structs (placed_among addressed (ps ++ ls))) _ g v.then in
    let b = followed (statements_typed (in_body s f (locals_of addressed ps ls)) body) _ g z.then in
    sym (ap (λ (h : Function). h.name) (some_same _ g b.then))

functions_named : (s : Scope) (f : FunctionTree) (o : Option Stmts) (gs : List Function) → function_typed s f o ≡ Some gs → names_of gs ≡ name_with_body f.name o
functions_named s f None gs q = ap names_of (sym (some_same [] gs q))
functions_named s f (Some body) gs q =
    let ps = parameters_in s.context f in
    let ls = statements_locals (body_context s.context f) body in
    let g = followed (function_with s f body (addressed_in s.context f body) ps ls) _ gs q in
    ap names_of (sym (some_same _ gs g.then))
    ∙ ap (λ (x : List ℕ). x ∷ []) (function_named s f body (addressed_in s.context f body) ps ls g.value g.first)

declaration_named : (s : Scope) (d : DeclTree) (now : TypedProgram) → declaration_typed s d ≡ Some now → names_of now.functions ≡ own_names d
declaration_named s (structure d) now q = ap (λ (p : TypedProgram). names_of p.functions) (sym (some_same _ now q))
declaration_named s (forward d) now q = ap (λ (p : TypedProgram). names_of p.functions) (sym (some_same _ now q))
declaration_named s (typedef d) now q = ap (λ (p : TypedProgram). names_of p.functions) (sym (some_same _ now q))
declaration_named s (function f) now q =
    let gs = followed (function_typed s f f.body) _ now q in
    ap (λ (p : TypedProgram). names_of p.functions) (sym (some_same _ now gs.then)) ∙ functions_named s f f.body gs.value gs.first
declaration_named s (variables d) now q =
    let bs = followed (file_variables_typed s d.base d.variables) _ now q in
    ap (λ (p : TypedProgram). names_of p.functions) (sym (some_same _ now bs.then))

declarations_named : (s : Scope) (ds : UnitTree) (u : TypedProgram) → declarations_typed s ds ≡ Some u → names_of u.functions ≡ functions_in ds
declarations_named s [] u q = ap (λ (p : TypedProgram). names_of p.functions) (sym (some_same _ u q))
declarations_named s (d ∷ ds) u q =
    let after = within s (after_declaration s.context d) in
    let now = followed (declaration_typed s d) _ u q in
    let rest = followed (declarations_typed after ds) _ u now.then in
    ap (λ (p : TypedProgram). names_of p.functions) (sym (some_same _ u rest.then))
    ∙ map-append (λ (g : Function). g.name) now.value.functions rest.value.functions
    ∙ ap (λ (xs : List (List ℕ)). xs ++ names_of rest.value.functions) (declaration_named s d now.value now.first)
    ∙ ap (λ (xs : List (List ℕ)). own_names d ++ xs) (declarations_named after ds rest.value rest.first)
    ∙ sym (own_and_others d ds)

typed_names : (unit : UnitTree) (u : TypedProgram) → typed_of unit ≡ Some u → names_of u.functions ≡ functions_in unit
typed_names unit u q =
    let d = followed (declarations_typed (start_scope unit) unit) _ u q in
    ap (λ (p : TypedProgram). names_of p.functions) (sym (some_same _ u d.then)) ∙ declarations_named (start_scope unit) unit d.value d.first

-- ---- core

names_kept : (names : List FunctionNames) (gs : List Function) → map (λ (f : CoreFunctionTree). f.name) (functions_core names gs) ≡ names_of gs
names_kept names [] = refl
names_kept [] (g ∷ gs) = ap (λ (rest : List (List ℕ)). g.name ∷ rest) (names_kept [] gs)
names_kept (n ∷ names) (g ∷ gs) = ap (λ (rest : List (List ℕ)). g.name ∷ rest) (names_kept names gs)

summed : (fs : List CoreFunctionTree) → bytes_of_names fs ≡ sum_by length (map (λ (f : CoreFunctionTree). f.name) fs)
summed [] = refl
summed (f ∷ fs) = ap (λ (n : ℕ). length f.name + n) (summed fs) ∙ sym (sum_by-cons length f.name (map (λ (g : CoreFunctionTree). g.name) fs))

pub core_name_bytes : (unit : UnitTree) (core : CoreUnitTree) → core_of unit ≡ Some core → name_bytes core ≡ name_bytes_in unit
core_name_bytes unit core is =
    let m = made unit core is in
    ap bytes_of_names (sym (functions_are unit core m)) ∙ summed (functions_core (names_in unit) m.typed.functions)
    ∙ ap (sum_by length) (names_kept (names_in unit) m.typed.functions ∙ typed_names unit m.typed m.tree)
