-- What plans of loops stand for.
use Rattle.std.proofs.Common.{◌≡◌, ℕ, max, Bool, true, false, if◌then◌else◌, List, [], ◌∷◌, map, Option, Some, None, IsSome, refl, sym, ap, ◌∙◌}
use Rattle.std.specs.Prelude.{◌&&◌, ◌||◌, not}
use Rattle.qs_core.specs.Trees.{CoreStmtTree, stmts_of}
use Rattle.qs_lower.specs.Statements.{Part, Tested, StmtCode, is_next, body_alone, test_last, loop_part, of_loop, of_both, stmt_code, stmts_code, parts_code}
use Rattle.qs_lower.specs.StmtPlans.{idle_in, idle_of, test_in, test_at_end, loop_of, loop_with, loop_at_end, all_joined}

abbrev with_part : StmtCode → StmtCode → Part → StmtCode
with_part body step p = record { part = p; used = max body.used step.used; way = None; ends = not (body.breaks || step.breaks); breaks = false; tested = None }

pub plain_is : (t : ℕ) (body step : StmtCode) → idle_of body ≡ None → loop_of (is_next step.way) body step ≡ of_loop t body step
plain_is t body step none = by_tested body.tested none
  where
    by_tested : (o : Option Tested) → idle_in o ≡ None → loop_of (is_next step.way) body step ≡ with_part body step (loop_part t o body.part step)
    by_tested None h = refl
    by_tested (Some d) h = cc

pub alone_is : (t : ℕ) (body step : StmtCode) → idle_of body ≡ Some true → is_next step.way ≡ true → loop_of true body step ≡ of_loop t body step
alone_is t body step idle next = by_tested body.tested idle
  where
    by_tested : (o : Option Tested) → idle_in o ≡ Some true → loop_of true body step ≡ with_part body step (loop_part t o body.part step)
    by_tested None h = cc
    by_tested (Some d) h =
        let i : d.is_idle ≡ true = cc in
        ap (with_part body step)
        (sym (ap (λ (b : Bool). if b && is_next step.way then body_alone body.part else test_last t d step.part) i
        ∙ ap (λ (b : Bool). if b then body_alone body.part else test_last t d step.part) next))

pub tested_is : (t : ℕ) (body step : StmtCode) (i : Bool) → idle_of body ≡ Some i → (i && is_next step.way) ≡ false → loop_at_end t body step ≡ of_loop t body step
tested_is t body step i idle busy = by_tested body.tested idle
  where
    by_tested : (o : Option Tested) → idle_in o ≡ Some i → loop_with (test_in o) t body step ≡ with_part body step (loop_part t o body.part step)
    by_tested None h = cc
    by_tested (Some d) h =
        let same : d.is_idle ≡ i = cc in
        ap (with_part body step)
        (sym (ap (λ (b : Bool). if b && is_next step.way then body_alone body.part else test_last t d step.part) same
        ∙ ap (λ (b : Bool). if b then body_alone body.part else test_last t d step.part) busy))

pub has_test : (s : StmtCode) (i : Bool) → idle_of s ≡ Some i → IsSome (test_at_end s)
has_test s i h = by_tested s.tested h
  where
    by_tested : (o : Option Tested) → idle_in o ≡ Some i → IsSome (test_in o)
    by_tested None h = cc
    by_tested (Some d) h = refl

-- ---- several statements

pub stmts_joined : (v t : ℕ) (ss : List CoreStmtTree) → stmts_code v t (stmts_of ss) ≡ all_joined (map (stmt_code v t) ss)
stmts_joined v t [] = refl
stmts_joined v t (s ∷ []) = refl
stmts_joined v t (s ∷ r ∷ ss) = ap (of_both (stmt_code v t s)) (stmts_joined v t (r ∷ ss))

-- those of a switch
pub parts_each : (v t : ℕ) (ss : List CoreStmtTree) → parts_code v t (stmts_of ss) ≡ map (stmt_code v t) ss
parts_each v t [] = refl
parts_each v t (s ∷ ss) = ap (λ (l : List StmtCode). stmt_code v t s ∷ l) (parts_each v t ss)

pub ruleset loop_cases = (plain_is, alone_is, tested_is, has_test)
