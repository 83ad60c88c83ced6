use Rattle.std.proofs.Common.{◌≡◌, map, ap, Bool, true, false, sym, ◌∙◌}
use Rattle.std.specs.Prelude.{◌||◌}
use Rattle.qs_lower.specs.StmtPlans.{stmt_part, some_breaks}
use Rattle.qs_lower.proofs.PlanTrees.{joined_is}
use Rattle.qs_lower.proofs.JoinedLaws.{joined_breaks}
use Rattle.qs_lower.proofs.stmt_plans.+breaks.Goals as goal

pub StmtPlan::breaks-returns-then-some_breaks : goal.StmtPlan::breaks-returns-then-some_breaks
StmtPlan::breaks-returns-then-some_breaks t c =
    let all = c.in-Joined.all in
    let last = c.in-Joined.last in
    let whole : (stmt_part c.args.self.now).breaks ≡ (some_breaks (map stmt_part all.items) || (stmt_part last.value).breaks) =
    ap (λ s. s.breaks) (joined_is c.args.self.now all last c.in-Joined.is) ∙ joined_breaks (map stmt_part all.items) (stmt_part last.value) in
    let some : some_breaks (map stmt_part all.items) ≡ true = cc in
    let so : (stmt_part c.args.self.now).breaks ≡ true = whole ∙ ap (λ (b : Bool). b || (stmt_part last.value).breaks) some in
    cc

pub StmtPlan::breaks-returns-else-some_breaks : goal.StmtPlan::breaks-returns-else-some_breaks
StmtPlan::breaks-returns-else-some_breaks t c =
    let all = c.in-Joined.all in
    let last = c.in-Joined.last in
    let whole : (stmt_part c.args.self.now).breaks ≡ (some_breaks (map stmt_part all.items) || (stmt_part last.value).breaks) =
    ap (λ s. s.breaks) (joined_is c.args.self.now all last c.in-Joined.is) ∙ joined_breaks (map stmt_part all.items) (stmt_part last.value) in
    let none : some_breaks (map stmt_part all.items) ≡ false = cc in
    let so : (stmt_part c.args.self.now).breaks ≡ (stmt_part last.value).breaks = whole ∙ ap (λ (b : Bool). b || (stmt_part last.value).breaks) none in
    c.breaks-else-some_breaks.ensures ∙ ap (λ s. (stmt_part s).breaks) c.deref-else-some_breaks.ensures ∙ sym so
