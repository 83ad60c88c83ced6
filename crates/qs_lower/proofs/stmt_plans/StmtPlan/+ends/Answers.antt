use Rattle.std.proofs.Common.{◌≡◌, map, ap, sym, ◌∙◌}
use Rattle.qs_lower.specs.StmtPlans.{stmt_part}
use Rattle.qs_lower.proofs.PlanTrees.{joined_is}
use Rattle.qs_lower.proofs.JoinedLaws.{joined_ends}
use Rattle.qs_lower.proofs.stmt_plans.StmtPlan.+ends.Goals as goal

pub returns-in-Joined : goal.returns-in-Joined
returns-in-Joined t c =
    let all = c.in-Joined.field-0 in
    let last = c.in-Joined.last in
    let whole : (stmt_part c.args.self.now).ends ≡ (stmt_part last.value).ends =
    ap (λ s. s.ends) (joined_is c.args.self.now all last c.in-Joined.is) ∙ joined_ends (map stmt_part all.items) (stmt_part last.value) in
    c.ends.ensures ∙ ap (λ s. (stmt_part s).ends) c.deref.ensures ∙ sym whole
