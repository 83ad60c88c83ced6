-- The names by the nodes of variables are those of the unit.
use Rattle.std.proofs.Common.{◌≡◌, ℕ, ◌+◌, ◌<◌, List, [], ◌∷◌, ◌++◌, Option, Some, None, length, drop, get_or, refl, sym, ap, ◌∙◌, arith, append_assoc}
use Rattle.std.proofs.lemmas.List.{drop_more, drop-drop, get_or-drop, length-append}
use Rattle.qs_syntax.specs.Trees.{Stmts, DeclTree, structure, forward, function, variables, UnitTree, typedef}
use Rattle.qs_types.specs.Contexts.{Context, start_context}
use Rattle.qs_types.specs.UnitRules.{after_declaration}
use Rattle.qs_elaborate_bodies.specs.Names.{FunctionNames, function_names, declaration_names, declarations_names, names_in}
use Rattle.qs_typed.specs.UnitVariables.{function_variables, declaration_variables, unit_variables_from, unit_variables}
use Rattle.qs_elaborate.specs.UnitNames.{function_named, declaration_named, declarations_named}

-- one declaration takes its list, if it has one, and leaves the others
takes_its_own : (c : Context) (d : DeclTree) (ds : UnitTree) (rest : List (List ℕ))
    → declarations_named (declaration_variables c d ++ rest) (d ∷ ds) ≡ declaration_names c d ++ declarations_named rest ds
takes_its_own c (structure d) ds rest = refl
takes_its_own c (forward d) ds rest = refl
takes_its_own c (typedef d) ds rest = refl
takes_its_own c (variables d) ds rest = refl
takes_its_own c (function f) ds rest = by_body f.body
  where
    by_body : (body : Option Stmts)
        → function_named (get_or (function_variables c f body ++ rest) 0 []) f body
        ++ declarations_named (drop (length (function_named (get_or (function_variables c f body ++ rest) 0 []) f body)) (function_variables c f body ++ rest)) ds
        ≡ function_names c f body ++ declarations_named rest ds
    by_body None = refl
    by_body (Some body) = refl

pub named_from : (c : Context) (ds : UnitTree) → declarations_named (unit_variables_from c ds) ds ≡ declarations_names c ds
named_from c [] = refl
named_from c (d ∷ ds) =
    takes_its_own c d ds (unit_variables_from (after_declaration c d) ds)
    ∙ ap (λ l. declaration_names c d ++ l) (named_from (after_declaration c d) ds)

pub unit_is_named : (unit : UnitTree) → declarations_named (unit_variables unit) unit ≡ names_in unit
unit_is_named unit = named_from start_context unit

at_zero : (i : ℕ) → i + 0 ≡ i
at_zero i = omega arith

-- a step of the loop: so many were named before
pub named_step : (before : List FunctionNames) (all : List (List ℕ)) (ds : UnitTree) (i : ℕ) (e : DeclTree) → i < length ds
    → before ++ declarations_named (drop (length before) all) (drop i ds)
    ≡ (before ++ declaration_named (get_or all (length before) []) (get_or ds i e))
    ++ declarations_named (drop (length (before ++ declaration_named (get_or all (length before) []) (get_or ds i e))) all) (drop (i + 1) ds)
named_step before all ds i e h =
    let d : DeclTree = get_or ds i e in
    let j : ℕ = length before in
    let now : List FunctionNames = declaration_named (get_or all j []) d in
    let rest : UnitTree = drop (i + 1) ds in
    ap (λ l. before ++ declarations_named (drop j all) l) (drop_more ds i e h)
    ∙ ap (λ nodes. before ++ (declaration_named nodes d ++ declarations_named (drop (length (declaration_named nodes d)) (drop j all)) rest))
    (get_or-drop j all 0 [] ∙ ap (λ k. get_or all k []) (at_zero j))
    ∙ ap (λ l. before ++ (now ++ declarations_named l rest)) (drop-drop (length now) j all ∙ ap (λ k. drop k all) (sym (length-append before now)))
    ∙ sym (append_assoc before now (declarations_named (drop (length (before ++ now)) all) rest))
