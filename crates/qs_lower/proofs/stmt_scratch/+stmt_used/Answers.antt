use Rattle.std.proofs.Common.{◌≡◌, max, map, ap, sym, ◌∙◌}
use Rattle.qs_lower_expressions.specs.Expressions.{used_by}
use Rattle.qs_lower_expressions.specs.Plans.{expr_code}
use Rattle.qs_lower.specs.StmtPlans.{stmt_part, most_used}
use Rattle.qs_lower.specs.declared.stmt_plans.SwitchPlan.{SwitchPlan}
use Rattle.qs_lower.proofs.PlanTrees.{joined_is, switch_is}
use Rattle.qs_lower.proofs.JoinedLaws.{joined_used}
use Rattle.qs_lower.proofs.stmt_scratch.+stmt_used.Goals as goal

pub stmt_used-returns-in_ok-stmt_used-in-Joined : goal.stmt_used-returns-in_ok-stmt_used-in-Joined
stmt_used-returns-in_ok-stmt_used-in-Joined t c =
    let all = c.in-Joined.all in
    let last = c.in-Joined.last in
    let whole : (stmt_part c.args.s.now).used ≡ max (most_used (map stmt_part all.items)) (stmt_part last.value).used =
    ap (λ s. s.used) (joined_is c.args.s.now all last c.in-Joined.is) ∙ joined_used (map stmt_part all.items) (stmt_part last.value) in
    let most : c.in_ok-most_used-in-Joined.field-0 ≡ most_used (map stmt_part all.items) =
    c.in_ok-most_used-in-Joined.ensures ∙ ap (λ l. most_used (map stmt_part l)) c.deref-in-Joined.ensures.value in
    let used : c.in_ok-stmt_used-in-Joined.field-0 ≡ (stmt_part last.value).used =
    c.in_ok-stmt_used-in-Joined.ensures ∙ ap (λ s. (stmt_part s).used) c.deref-in-Joined-2.ensures in
    c.max-in-Joined.ensures ∙ ap (λ n. max n c.in_ok-stmt_used-in-Joined.field-0) most ∙ ap (max (most_used (map stmt_part all.items))) used ∙ sym whole

pub stmt_used-returns-in_ok-used_by-in-Switch : goal.stmt_used-returns-in_ok-used_by-in-Switch
stmt_used-returns-in_ok-used_by-in-Switch t c =
    let p = c.in-Switch.p in
    let o = used_by (expr_code p.value.operand) in
    let ss = map stmt_part p.value.parts.items in
    let last = stmt_part p.value.last in
    let whole : (stmt_part c.args.s.now).used ≡ max o (max (most_used ss) last.used) =
    ap (λ s. s.used) (switch_is c.args.s.now p c.in-Switch.is) ∙ ap (max o) (joined_used ss last) in
    let most : c.in_ok-most_used-in-Switch.field-0 ≡ most_used ss =
    c.in_ok-most_used-in-Switch.ensures
    ∙ ap (λ l. most_used (map stmt_part l)) (c.deref-in-Switch-2.ensures.value ∙ ap (λ (q : SwitchPlan). q.parts.items) c.deref-in-Switch.ensures) in
    let used : c.in_ok-stmt_used-in-Switch.field-0 ≡ last.used =
    c.in_ok-stmt_used-in-Switch.ensures ∙ ap (λ (q : SwitchPlan). (stmt_part q.last).used) c.deref-in-Switch-3.ensures in
    let operand : c.in_ok-used_by-in-Switch.field-0 ≡ o =
    c.in_ok-used_by-in-Switch.ensures ∙ ap (λ (q : SwitchPlan). used_by (expr_code q.operand)) c.deref-in-Switch-4.ensures in
    let parts : c.max-parts-in-Switch.result ≡ max (most_used ss) last.used =
    c.max-parts-in-Switch.ensures ∙ ap (λ n. max n c.in_ok-stmt_used-in-Switch.field-0) most ∙ ap (max (most_used ss)) used in
    c.max-in-Switch.ensures ∙ ap (λ n. max n c.max-parts-in-Switch.result) operand ∙ ap (max o) parts ∙ sym whole
