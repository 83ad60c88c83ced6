use Rattle.std.proofs.Common.{◌≡◌, ◌+◌, ◌++◌, length, map, ap, ◌∙◌, arith}
use Rattle.qs_core.specs.Statements.{default_part}
use Rattle.qs_tac.specs.TreeOf.{instruction_tree}
use Rattle.qs_lower_expressions.specs.Exits.{place_of}
use Rattle.qs_lower_expressions.specs.Plans.{expr_code, Emitted}
use Rattle.qs_lower.specs.Choices.{other_place, choice_size, choice_code}
use Rattle.qs_lower.specs.Statements.{entries, in_switch}
use Rattle.qs_lower.specs.StmtPlans.{stmt_part, sizes_before, code_before}
use Rattle.qs_lower.specs.Ways.{exits_tree}
use Rattle.qs_lower.proofs.JoinedEmission.{emitted_all, length_of_all, emitted_return, emitted_switch, length_of_switch}
use Rattle.qs_lower.proofs.stmt_emission.+stmt_emission.Goals as goal

pub emit_stmt-returns-in_ok-emit_before-in-Joined-clause-code : goal.emit_stmt-returns-in_ok-emit_before-in-Joined-clause-code
emit_stmt-returns-in_ok-emit_before-in-Joined-clause-code t c =
    emitted_all c.emit_stmt.result c.args.s.now c.in-Joined.all c.in-Joined.last c.deref.result.now c.deref-in-Joined.result.now c.deref-in-Joined-2.result.now
    (exits_tree c.args.x) c.args.code.now.items c.emit_before.new.code.items c.emit_stmt.new.code.items c.in-Joined.is c.deref.ensures.value c.deref-in-Joined.ensures
    c.deref-in-Joined-2.ensures c.in_ok-emit_before-in-Joined.ensures.code c.in_ok-emit_before-in-Joined.ensures.size c.emit_stmt.ensures.code

pub emit_stmt-returns-in_ok-emit_before-in-Joined-clause-size : goal.emit_stmt-returns-in_ok-emit_before-in-Joined-clause-size
emit_stmt-returns-in_ok-emit_before-in-Joined-clause-size t c =
    length_of_all c.emit_stmt.result c.args.s.now c.in-Joined.all c.in-Joined.last c.deref.result.now c.deref-in-Joined-2.result.now
    (exits_tree c.args.x) c.args.code.now.items c.emit_before.new.code.items c.emit_stmt.new.code.items c.in-Joined.is c.deref.ensures.value
    c.deref-in-Joined-2.ensures c.in_ok-emit_before-in-Joined.ensures.size c.emit_stmt.ensures.size

pub emit_stmt-returns-in_ok-emit_operand-in-Return-clause-code : goal.emit_stmt-returns-in_ok-emit_operand-in-Return-clause-code
emit_stmt-returns-in_ok-emit_operand-in-Return-clause-code t c =
    emitted_return c.put.result c.args.s.now c.in-Return.t c.in-Return.e c.operand_of.result (exits_tree c.args.x) c.args.code.now.items c.emit_operand.new.code.items
    c.put.new.code.items c.in-Return.is c.operand_of.ensures c.in_ok-emit_operand-in-Return.ensures.code c.put.ensures.code

pub emit_switch-returns-clause-code : goal.emit_switch-returns-clause-code
emit_switch-returns-clause-code t c =
    let p = c.args.p.now in
    let x = exits_tree c.args.x in
    let labels = p.labels.items in
    let e = expr_code p.operand in
    let ss = map stmt_part p.parts.items in
    let last = stmt_part p.last in
    let before = c.args.code.now.items in
    let chosen = c.emit_choice.new.code.items in
    let done = c.emit_before.new.code.items in
    let places = c.in_ok-places.places.items in
    let other = c.other_place-other.result in
    let choice_is : c.in_ok-choice_size.field-0 ≡ choice_size e labels = c.in_ok-choice_size.ensures ∙ ap (choice_size e) c.deref-2.ensures.value in
    let first : c.in_ok-first.first ≡ length before + choice_size e labels = omega (arith, choice_is, ap length c.deref.ensures.value) in
    let here : places ≡ entries ss last (length before + choice_size e labels) =
    c.in_ok-places.ensures
    ∙ ap (λ l. entries (map stmt_part l) last c.in_ok-first.first) c.deref-3.ensures.value
    ∙ ap (entries ss last) first in
    let there : other ≡ other_place (default_part labels) places (place_of x.next) =
    c.other_place-other.ensures
    ∙ ap (λ o. other_place o c.deref-5.result.now c.place-2.result) (c.default_part.ensures ∙ ap default_part c.deref-4.ensures.value)
    ∙ ap (λ l. other_place (default_part labels) l c.place-2.result) c.deref-5.ensures.value
    ∙ ap (other_place (default_part labels) places) c.place-2.ensures in
    let choice : Emitted before chosen (choice_code p.free e labels places other (length before)) =
    c.in_ok-emit_choice.ensures.code
    ∙ ap (λ l. map instruction_tree before ++ choice_code p.free e l c.deref-7.result.now other (length before)) c.deref-6.ensures.value
    ∙ ap (λ l. map instruction_tree before ++ choice_code p.free e labels l other (length before)) c.deref-7.ensures.value in
    let size : length chosen ≡ length before + choice_size e labels =
    c.in_ok-emit_choice.ensures.size ∙ ap (λ l. length before + choice_size e l) c.deref-6.ensures.value in
    let parts : Emitted chosen done (code_before ss last (in_switch x) (length chosen)) =
    c.in_ok-emit_before.ensures.code
    ∙ ap (λ l. map instruction_tree chosen ++ code_before (map stmt_part l) last (exits_tree c.in_switch.result) (length chosen)) c.deref-8.ensures.value
    ∙ ap (λ z. map instruction_tree chosen ++ code_before ss last z (length chosen)) c.in_switch.ensures in
    let rest : length done ≡ length chosen + sizes_before ss =
    c.in_ok-emit_before.ensures.size ∙ ap (λ l. length chosen + sizes_before (map stmt_part l)) c.deref-8.ensures.value in
    emitted_switch c.emit_stmt.result p x before chosen done c.emit_stmt.new.code.items places other (exits_tree c.in_switch-2.result) here there choice size parts rest
    c.in_switch-2.ensures c.emit_stmt.ensures.code

pub emit_switch-returns-clause-size : goal.emit_switch-returns-clause-size
emit_switch-returns-clause-size t c =
    let p = c.args.p.now in
    let e = expr_code p.operand in
    let before = c.args.code.now.items in
    let chosen = c.emit_choice.new.code.items in
    let done = c.emit_before.new.code.items in
    let size : length chosen ≡ length before + choice_size e p.labels.items =
    c.in_ok-emit_choice.ensures.size ∙ ap (λ l. length before + choice_size e l) c.deref-6.ensures.value in
    let rest : length done ≡ length chosen + sizes_before (map stmt_part p.parts.items) =
    c.in_ok-emit_before.ensures.size ∙ ap (λ l. length chosen + sizes_before (map stmt_part l)) c.deref-8.ensures.value in
    length_of_switch c.emit_stmt.result p (exits_tree c.args.x) before chosen done c.emit_stmt.new.code.items (exits_tree c.in_switch-2.result) size rest
    c.in_switch-2.ensures c.emit_stmt.ensures.size
