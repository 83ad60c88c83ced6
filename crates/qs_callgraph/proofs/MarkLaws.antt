-- Marks on the functions of a list.
use Rattle.std.proofs.Common.{◌≡◌, ℕ, zero, suc, ◌<◌, ◌==◌, ◌||◌, Bool, true, false, cond, List, [], ◌∷◌, ◌++◌, filter, length, replicate, get_or, set, ⊎_elim, refl, sym, ap, ◌∙◌, subst, arith, Some}
use Rattle.std.specs.List.{slice_get}
use Rattle.std.proofs.lemmas.Bool.{eq-eqb, ne_eqb, cases_eq}
use Rattle.std.proofs.lemmas.List.{get_or-set_same, get_or-set_other, get_or-replicate, length-set, length-replicate}
use Rattle.std.proofs.lemmas.List.Elements.{filter-append}
use Rattle.qs_core.specs.CallGraph.{below, callees_of, calls, called_by, is_member}
use Rattle.qs_core.specs.Trees.{CoreFunctionTree, CoreUnitTree, CoreStmtTree, branch, loop}
use Rattle.qs_callgraph.specs.CallLists.{flag, marked}
use Rattle.std.specs.declared.alloc.Global.{Global}
use Rattle.std.specs.declared.boxed.Box.{Box}
use Rattle.std.proofs.Math.Bool.{or_assoc, or-false, or-true}
use Rattle.qs_core.specs.TreeOf.{core_expr, core_stmt, stmt_step}
use Rattle.qs_core.specs.declared.expressions.CoreExpr.{CoreExpr}
use Rattle.qs_core.specs.declared.statements.CoreStmt.{CoreStmt, CoreStmt-F, fold-roll-CoreStmt}
use Rattle.qs_core.specs.declared.statements.CoreStmt.TheVariants.{If, Loop, rolls-If, rolls-Loop}

pub marked-append : (fs gs : List ℕ) (marks : List Bool) → marked (fs ++ gs) marks ≡ marked gs (marked fs marks)
marked-append [] gs marks = refl
marked-append (f ∷ fs) gs marks = marked-append fs gs (set marks f true)

pub length-marked : (fs : List ℕ) (marks : List Bool) → length (marked fs marks) ≡ length marks
length-marked [] marks = refl
length-marked (f ∷ fs) marks = length-marked fs (set marks f true) ∙ length-set marks f true

flag-set : (marks : List Bool) (f g : ℕ) → g < length marks → flag (set marks f true) g ≡ (flag marks g || (f == g))
flag-set marks f g b =
    ⊎_elim
    (λ (e : g ≡ f). ap (λ (x : ℕ). get_or (set marks f true) x false) e ∙ get_or-set_same marks f true false (subst (λ (x : ℕ). x < length marks) e b)
    ∙ sym (ap (λ (c : Bool). flag marks g || c) (eq-eqb f g (sym e)) ∙ or-true (flag marks g)))
    (λ (d : g ≡ f → ⊥). get_or-set_other marks f g true false d
    ∙ sym (ap (λ (c : Bool). flag marks g || c) (ne_eqb f g (λ e. d (sym e))) ∙ or-false (flag marks g)))
    (cases_eq g f)

pub flag-marked : (fs : List ℕ) (marks : List Bool) (g : ℕ) → g < length marks → flag (marked fs marks) g ≡ (flag marks g || is_member g fs)
flag-marked [] marks g b = sym (or-false (flag marks g))
flag-marked (f ∷ fs) marks g b =
    flag-marked fs (set marks f true) g (subst (λ (n : ℕ). g < n) (sym (length-set marks f true)) b)
    ∙ ap (λ (c : Bool). c || is_member g fs) (flag-set marks f g b) ∙ or_assoc (flag marks g) (f == g) (is_member g fs)

-- a filter goes by what its test gives below n
pub filter_same : (p q : ℕ → Bool) (n : ℕ) → ((g : ℕ) → g < n → p g ≡ q g) → filter p (below n) ≡ filter q (below n)
filter_same p q zero same = refl
filter_same p q (suc n) same =
    filter-append p (below n) (n ∷ [])
    ∙ ap (λ (xs : List ℕ). xs ++ filter p (n ∷ [])) (filter_same p q n (λ g b. same g (omega (arith, b))))
    ∙ ap (λ (b : Bool). filter q (below n) ++ cond b (n ∷ []) []) (same n (omega arith))
    ∙ sym (filter-append q (below n) (n ∷ []))

-- what is marked for a body are the functions that it calls
pub marked_callees :
    (u : CoreUnitTree) (f : ℕ) (function : CoreFunctionTree) (marks : List Bool) → slice_get u.functions f ≡ Some function
    → marks ≡ marked (callees_of (Some function)) (replicate (length u.functions) false)
    → filter (flag marks) (below (length marks)) ≡ called_by u f
marked_callees u f function marks is m =
    let n = length u.functions in
    let long : length marks ≡ n = ap length m ∙ length-marked (callees_of (Some function)) (replicate n false) ∙ length-replicate n false in
    ap (λ (k : ℕ). filter (flag marks) (below k)) long
    ∙ filter_same (flag marks) (calls u f) n (λ g b.
    ap (λ (ms : List Bool). flag ms g) m
    ∙ flag-marked (callees_of (Some function)) (replicate n false) g (subst (λ (k : ℕ). g < k) (sym (length-replicate n false)) b)
    ∙ ap (λ (c : Bool). c || is_member g (callees_of (Some function))) (get_or-replicate n g false false b)
    ∙ ap (λ o. is_member g (callees_of o)) (sym is))

-- ---- the trees of statements that have statements as parts

pub branch_is : (s : CoreStmt) (e : CoreExpr) (a b : Box CoreStmt Global) → s ≡ If e a b → core_stmt s ≡ branch (core_expr e) (core_stmt a.value) (core_stmt b.value)
branch_is s e a b is = ap core_stmt (is ∙ sym (rolls-If e a b)) ∙ fold-roll-CoreStmt CoreStmtTree stmt_step (CoreStmt-F.If e a b)

pub loop_is : (s : CoreStmt) (a b : Box CoreStmt Global) → s ≡ Loop a b → core_stmt s ≡ loop (core_stmt a.value) (core_stmt b.value)
loop_is s a b is = ap core_stmt (is ∙ sym (rolls-Loop a b)) ∙ fold-roll-CoreStmt CoreStmtTree stmt_step (CoreStmt-F.Loop a b)
