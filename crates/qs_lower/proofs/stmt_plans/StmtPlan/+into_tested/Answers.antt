use Rattle.std.proofs.Common.{◌≡◌, rules, refl, sym, subst, Some}
use Rattle.std.specs.declared.alloc.Global.{Global}
use Rattle.std.specs.declared.vec.Vec.{Vec}
use Rattle.qs_lower_expressions.specs.Plans.{expr_code}
use Rattle.qs_lower.specs.StmtPlans.{stmt_part, test_at_end, tested_of}
use Rattle.qs_lower.specs.declared.stmt_plans.StmtPlan.{StmtPlan, the_lemmas}
use Rattle.qs_lower.specs.declared.stmt_plans.StmtPlan.TheViews as plans
use Rattle.qs_lower.proofs.PlanTrees.{tested_again, has_test_still}
use Rattle.qs_lower.proofs.stmt_plans.StmtPlan.+into_tested.Goals as goal

pub into_tested-requires : goal.into_tested-requires
into_tested-requires t c =
    let same : c.in-Joined.last.value ≡ c.into_inner.result = cc in
    (search (rules, the_lemmas), has_test_still c.args.self c.into_inner.result c.in-Joined.all c.in-Joined.last c.in-Joined.is same c.requires)

pub returns-in_ok-new-in-Joined : goal.returns-in_ok-new-in-Joined
returns-in_ok-new-in-Joined t c =
    let taken = c.in_ok-front-in-Joined in
    let new = c.in_ok-new-in-Joined in
    let same : c.in-Joined.last.value ≡ c.into_inner.result = cc in
    let made : new.field-0.value ≡ taken.field-0.front = new.ensures.ok in
    subst
    (λ (all : Vec StmtPlan Global). test_at_end (stmt_part c.args.self) ≡ Some (tested_of (stmt_part (plans.Joined all new.field-0)) (expr_code taken.field-0.test) (stmt_part taken.field-0.rest)))
    (sym c.in-Joined.all-is)
    (tested_again c.args.self (plans.Joined c.in-Joined.all new.field-0) c.in-Joined.all c.in-Joined.all c.in-Joined.last new.field-0 c.into_inner.result taken.field-0.front
    (expr_code taken.field-0.test) (stmt_part taken.field-0.rest) c.in-Joined.is same refl refl made taken.ensures)
