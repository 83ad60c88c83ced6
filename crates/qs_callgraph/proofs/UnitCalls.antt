-- The calls of a unit.
use Rattle.std.proofs.Common.{◌≡◌, ℕ, zero, suc, ◌<◌, ◌≤◌, ◌==◌, Bool, true, false, List, [], ◌∷◌, ◌++◌, filter, length, get_or, ⊎_elim, refl, sym, ap, ◌∙◌, subst, arith, Option, Some, None}
use Rattle.std.specs.Prelude.{option_map}
use Rattle.std.specs.List.{slice_get}
use Rattle.std.proofs.Math.Path.{fun_ext}
use Rattle.std.proofs.lemmas.Bool.{both_ways, and_parts, and_from, cases_lt, or_cases}
use Rattle.std.proofs.lemmas.List.{get_or-map, get_or_past, length-map, length-append, get_or_append_left, get_or_push}
use Rattle.std.proofs.lemmas.List.Folds.{list_any-append}
use Rattle.std.proofs.lemmas.Option.{slice_get_past, slice_get-map}
use Rattle.qs_calls.specs.Starts.{signature_of}
use Rattle.qs_calls.specs.declared.callee.Callee.{Callee}
use Rattle.qs_calls.specs.declared.callee.Callee.TheVariants.{Function, PutChar, GetChar}
use Rattle.qs_core.specs.CallGraph.{below, callee, callees, all_callees, callees_of, calls, called_by, HasCall, is_member}
use Rattle.qs_core.specs.Fits.{stmt_fits, stmts_fit, unit_fits, call_fits, exprs_fit}
use Rattle.qs_core.specs.Interfaces.{interface_of, signature}
use Rattle.qs_core.proofs.FitLaws.{function_at_fits}
use Rattle.qs_core.specs.Trees as core
use Rattle.qs_core.specs.Trees.{CoreExprTree, CoreStmtTree, CoreStmts, no_stmts, stmt_and, CoreFunctionTree, CoreUnitTree}
use Rattle.qs_callgraph.specs.CallLists.{call_lists, callees_in, IsGraph}
use Rattle.qs_callgraph.proofs.MemberLaws.{below_member, member_below, member-filter, first_cases}

pub length-below : (n : ℕ) → length (below n) ≡ n
length-below zero = refl
length-below (suc n) = let e = length-append (below n) (n ∷ []) in let h = length-below n in omega (arith, e, h)

below_at : (n f : ℕ) → f < n → get_or (below n) f 0 ≡ f
below_at zero f b = absurd (omega (arith, b))
below_at (suc n) f b =
    ⊎_elim
    (λ (l : f < n). get_or_append_left (below n) (n ∷ []) 0 f (subst (λ (k : ℕ). f < k) (sym (length-below n)) l) ∙ below_at n f l)
    (λ (l : n ≤ f). let e : length (below n) ≡ f = length-below n ∙ omega (arith, b, l) in get_or_push (below n) n 0 f e ∙ omega (arith, b, l))
    (cases_lt f n)

-- ---- callers are functions

pub has_caller : (u : CoreUnitTree) (f g : ℕ) → HasCall u f g → f < length u.functions
has_caller u f g h =
    ⊎_elim (λ (l : f < length u.functions). l)
    (λ (l : length u.functions ≤ f). absurd (both_ways false refl (sym (ap (λ o. is_member g (callees_of o)) (slice_get_past u.functions f l)) ∙ h)))
    (cases_lt f (length u.functions))

nothing_passes : (fs : List ℕ) → filter (λ g. false) fs ≡ []
nothing_passes [] = refl
nothing_passes (f ∷ fs) = nothing_passes fs

no_callees : (u : CoreUnitTree) (f : ℕ) → length u.functions ≤ f → called_by u f ≡ []
no_callees u f l =
    ap (λ o. filter (λ g. is_member g (callees_of o)) (below (length u.functions))) (slice_get_past u.functions f l)
    ∙ nothing_passes (below (length u.functions))

pub callees_are : (u : CoreUnitTree) (f : ℕ) → callees_in (call_lists u) f ≡ called_by u f
callees_are u f =
    let n = length u.functions in
    ⊎_elim
    (λ (l : f < n). get_or-map (called_by u) (below n) f 0 [] (subst (λ (k : ℕ). f < k) (sym (length-below n)) l) ∙ ap (called_by u) (below_at n f l))
    (λ (l : n ≤ f). get_or_past (call_lists u) f [] (subst (λ (k : ℕ). k ≤ f) (sym (length-call_lists u)) l) ∙ sym (no_callees u f l))
    (cases_lt f n)
  where
    length-call_lists : (u : CoreUnitTree) → length (call_lists u) ≡ length u.functions
    length-call_lists u = length-map (below (length u.functions)) (called_by u) ∙ length-below (length u.functions)

pub callees_same : (u : CoreUnitTree) → callees_in (call_lists u) ≡ called_by u
callees_same u = fun_ext (callees_are u)

pub length-call_lists : (u : CoreUnitTree) → length (call_lists u) ≡ length u.functions
length-call_lists u = length-map (below (length u.functions)) (called_by u) ∙ length-below (length u.functions)

-- ---- calls and lists of them

pub is_call : (u : CoreUnitTree) (f g : ℕ) → is_member g (called_by u f) ≡ true → HasCall u f g
is_call u f g m = (and_parts (calls u f g) (is_member g (below (length u.functions))) (sym (member-filter (calls u f) g (below (length u.functions))) ∙ m)).0

pub call_within : (u : CoreUnitTree) (f g : ℕ) → is_member g (called_by u f) ≡ true → g < length u.functions
call_within u f g m =
    below_member (length u.functions) g (and_parts (calls u f g) (is_member g (below (length u.functions))) (sym (member-filter (calls u f) g (below (length u.functions))) ∙ m)).1

pub is_listed : (u : CoreUnitTree) (f g : ℕ) → HasCall u f g → g < length u.functions → is_member g (called_by u f) ≡ true
is_listed u f g h b =
    member-filter (calls u f) g (below (length u.functions)) ∙ and_from (calls u f g) (is_member g (below (length u.functions))) h (member_below (length u.functions) g b)

-- ---- what a unit that fits calls are functions

module _ (u : CoreUnitTree) where
  abbrev AreFunctions : List ℕ → Type 0
  AreFunctions gs = (g : ℕ) → is_member g gs ≡ true → g < length u.functions

  in_both : (fs gs : List ℕ) → AreFunctions fs → AreFunctions gs → AreFunctions (fs ++ gs)
  in_both fs gs a b g m =
      ⊎_elim (λ (h : is_member g fs ≡ true). a g h) (λ (h : is_member g gs ≡ true). b g h)
      (or_cases (is_member g fs) (is_member g gs) (sym (list_any-append (λ (h : ℕ). h == g) fs gs) ∙ m))

  nothing : AreFunctions []
  nothing g m = absurd (both_ways false refl m)

  called : (f : CoreFunctionTree) (x : Option ℕ) (g : Callee) (es : List CoreExprTree) → call_fits f x (signature_of (interface_of u) g) es ≡ true → AreFunctions (callee g)
  called f x PutChar es fit g m = nothing g m
  called f x GetChar es fit g m = nothing g m
  called f x (Function k) es fit g m =
      ⊎_elim
      (λ (e : k.0 ≡ g).
      ⊎_elim (λ (l : g < length u.functions). l)
      (λ (l : length u.functions ≤ g). absurd (both_ways false refl (sym (ap (λ o. call_fits f x o es) (none k.0 (subst (λ (n : ℕ). length u.functions ≤ n) (sym e) l))) ∙ fit)))
      (cases_lt g (length u.functions)))
      (λ (n : is_member g [] ≡ true). absurd (both_ways false refl n))
      (first_cases g k.0 [] m)
    where
      none : (k : ℕ) → length u.functions ≤ k → slice_get (interface_of u).functions k ≡ None
      none k l = slice_get-map signature u.functions k ∙ ap (option_map signature) (slice_get_past u.functions k l)

  mutual
    stmt_calls : (f : CoreFunctionTree) (b c : Bool) (s : CoreStmtTree) → stmt_fits u f b c s ≡ true → AreFunctions (callees s)
    stmt_calls f b c core.skip fit = nothing
    stmt_calls f b c (core.seq ss) fit = stmts_call f b c ss fit
    stmt_calls f b c (core.assign x e) fit = nothing
    stmt_calls f b c (core.store s to e) fit = nothing
    stmt_calls f b c (core.copy size alignment to from) fit = nothing
    stmt_calls f b c (core.fill contents to) fit = nothing
    stmt_calls f b c (core.call x g es) fit = called f x g es (and_parts (exprs_fit u f es) _ fit).1
    stmt_calls f b c (core.branch e s t) fit =
        let parts = and_parts _ (stmt_fits u f b c t) fit in
        in_both (callees s) (callees t) (stmt_calls f b c s (and_parts _ (stmt_fits u f b c s) parts.0).1) (stmt_calls f b c t parts.1)
    stmt_calls f b c (core.loop body step) fit =
        let parts = and_parts (stmt_fits u f true true body) (stmt_fits u f true false step) fit in
        in_both (callees body) (callees step) (stmt_calls f true true body parts.0) (stmt_calls f true false step parts.1)
    stmt_calls f b c (core.switch e labels ss) fit = stmts_call f true c ss (and_parts _ (stmts_fit u f true c ss) fit).1
    stmt_calls f b c core.break fit = nothing
    stmt_calls f b c core.continue fit = nothing
    stmt_calls f b c (core.return e) fit = nothing

    stmts_call : (f : CoreFunctionTree) (b c : Bool) (ss : CoreStmts) → stmts_fit u f b c ss ≡ true → AreFunctions (all_callees ss)
    stmts_call f b c no_stmts fit = nothing
    stmts_call f b c (stmt_and s ss) fit =
        let parts = and_parts (stmt_fits u f b c s) (stmts_fit u f b c ss) fit in
        in_both (callees s) (all_callees ss) (stmt_calls f b c s parts.0) (stmts_call f b c ss parts.1)

pub calls_within : (u : CoreUnitTree) (f g : ℕ) → unit_fits u ≡ true → HasCall u f g → g < length u.functions
calls_within u f g fits h = by (slice_get u.functions f) refl
  where
    by : (o : Option CoreFunctionTree) → slice_get u.functions f ≡ o → g < length u.functions
    by None is = absurd (both_ways false refl (sym (ap (λ o. is_member g (callees_of o)) is) ∙ h))
    by (Some function) is =
        stmts_call u function false false function.body (function_at_fits u fits f function is).body g (sym (ap (λ o. is_member g (callees_of o)) is) ∙ h)

-- the lists of calls of a unit are a graph
pub unit_graph : (u : CoreUnitTree) (flags : List Bool) → length flags ≡ length u.functions → IsGraph (call_lists u) flags
unit_graph u flags many = record {
  as_many = many ∙ sym (length-call_lists u);
  within = λ f g m. subst (λ (n : ℕ). g < n) (sym (length-call_lists u)) (call_within u f g (subst (λ (xs : List ℕ). is_member g xs ≡ true) (callees_are u f) m));
}
