use Rattle.std.proofs.Common.{◌≡◌, ◌<◌, length, map, None, ap, sym, ◌∙◌, arith}
use Rattle.std.proofs.lemmas.List.{length-map}
use Rattle.qs_lower.specs.StmtPlans.{stmt_part}
use Rattle.qs_lower.proofs.PlanTrees.{joined_is}
use Rattle.qs_lower.proofs.JoinedLaws.{several_go_nowhere}
use Rattle.qs_lower.proofs.stmt_plans.StmtPlan.+way.Goals as goal

pub returns-in-len1-up-clause-way : goal.returns-in-len1-up-clause-way
returns-in-len1-up-clause-way t c =
    let all = c.in-Joined.all in
    let last = c.in-Joined.last in
    let some : 0 < length (map stmt_part all.items) = rw (length-map all.items stmt_part) (omega arith) in
    let whole : (stmt_part c.args.self.now).way ≡ None =
    ap (λ s. s.way) (joined_is c.args.self.now all last c.in-Joined.is) ∙ several_go_nowhere (map stmt_part all.items) (stmt_part last.value) some in
    sym whole
