use Rattle.std.proofs.Common.{◌≡◌, map, ap, sym, ◌∙◌}
use Rattle.qs_core.specs.TreeOf.{core_stmt, core_stmts}
use Rattle.qs_core.specs.TreeOf.{core_expr}
use Rattle.qs_lower_expressions.specs.Expressions.{lowered}
use Rattle.qs_lower_expressions.specs.Plans.{expr_code}
use Rattle.qs_lower.specs.Statements.{stmt_code, of_all_parts}
use Rattle.qs_lower.specs.StmtPlans.{stmt_part, all_joined}
use Rattle.qs_lower.proofs.PlanTrees.{seq_is, core_switch_is, if_ok_is}
use Rattle.qs_lower.proofs.StmtPlanLaws.{stmts_joined, parts_each}
use Rattle.qs_lower.proofs.bodies.+stmt_plans.Goals as goal

pub stmt_plan-returns-in_ok-all-in-Seq : goal.stmt_plan-returns-in_ok-all-in-Seq
stmt_plan-returns-in_ok-all-in-Seq t c =
    let v = c.args.v in
    let free = c.args.free in
    let ss = c.in-Seq.ss in
    let whole : stmt_code v free (core_stmt c.args.s.now) ≡ all_joined (map (stmt_code v free) (core_stmts ss.items)) =
    ap (stmt_code v free) (seq_is c.args.s.now ss c.in-Seq.is) ∙ stmts_joined v free (core_stmts ss.items) in
    let planned : map stmt_part c.in_ok-all-in-Seq.all.items ≡ map (stmt_code v free) (core_stmts ss.items) =
    c.in_ok-all-in-Seq.ensures ∙ ap (λ l. map (stmt_code v free) (core_stmts l)) c.deref.ensures.value in
    if_ok_is c.joined.result stmt_part (all_joined (map stmt_part c.in_ok-all-in-Seq.all.items)) (stmt_code v free (core_stmt c.args.s.now))
    (ap all_joined planned ∙ sym whole) c.joined.ensures

pub stmt_plan-returns-in_ok-parts-in-Switch : goal.stmt_plan-returns-in_ok-parts-in-Switch
stmt_plan-returns-in_ok-parts-in-Switch t c =
    let v = c.args.v in
    let free = c.args.free in
    let operand = c.in-Switch.e in
    let labels = c.in-Switch.labels in
    let ss = c.in-Switch.ss in
    let e = expr_code c.in_ok-e-in-Switch.e in
    let parts = map stmt_part c.in_ok-parts-in-Switch.parts.items in
    let whole : stmt_code v free (core_stmt c.args.s.now) ≡ of_all_parts free (lowered v (core_expr operand)) labels.items (map (stmt_code v free) (core_stmts ss.items)) =
    ap (stmt_code v free) (core_switch_is c.args.s.now operand labels ss c.in-Switch.is)
    ∙ ap (of_all_parts free (lowered v (core_expr operand)) labels.items) (parts_each v free (core_stmts ss.items)) in
    let planned : parts ≡ map (stmt_code v free) (core_stmts ss.items) =
    c.in_ok-parts-in-Switch.ensures ∙ ap (λ l. map (stmt_code v free) (core_stmts l)) c.deref-in-Switch.ensures.value in
    let so : of_all_parts free e c.deref-in-Switch-2.result.now parts ≡ stmt_code v free (core_stmt c.args.s.now) =
    ap (λ l. of_all_parts free e l parts) c.deref-in-Switch-2.ensures.value
    ∙ ap (λ x. of_all_parts free x labels.items parts) c.in_ok-e-in-Switch.ensures
    ∙ ap (of_all_parts free (lowered v (core_expr operand)) labels.items) planned
    ∙ sym whole in
    if_ok_is c.of_switch.result stmt_part (of_all_parts free e c.deref-in-Switch-2.result.now parts) (stmt_code v free (core_stmt c.args.s.now)) so c.of_switch.ensures
