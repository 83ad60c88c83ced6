use Rattle.std.proofs.Common.{◌≡◌, map, ap, sym, ◌∙◌}
use Rattle.qs_lower.specs.StmtPlans.{stmt_part, idle_of}
use Rattle.qs_lower.proofs.PlanTrees.{joined_is}
use Rattle.qs_lower.proofs.JoinedLaws.{joined_idle}
use Rattle.qs_lower.proofs.stmt_plans.StmtPlan.+idle.Goals as goal

pub returns-in-Joined : goal.returns-in-Joined
returns-in-Joined t c =
    let all = c.in-Joined.field-0 in
    let last = c.in-Joined.last in
    let whole : idle_of (stmt_part c.args.self.now) ≡ idle_of (stmt_part last.value) =
    ap idle_of (joined_is c.args.self.now all last c.in-Joined.is) ∙ joined_idle (map stmt_part all.items) (stmt_part last.value) in
    c.idle.ensures ∙ ap (λ s. idle_of (stmt_part s)) c.deref.ensures ∙ sym whole
