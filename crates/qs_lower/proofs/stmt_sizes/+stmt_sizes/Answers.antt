use Rattle.std.proofs.Common.{◌≡◌, ℕ, ◌+◌, map, ap, ◌∙◌, arith}
use Rattle.qs_lower_expressions.specs.Plans.{expr_code}
use Rattle.qs_lower.specs.Choices.{choice_size}
use Rattle.qs_lower.specs.Statements.{in_switch_falls}
use Rattle.qs_lower.specs.StmtPlans.{stmt_part, switch_part, sizes_before}
use Rattle.qs_lower.specs.Ways.{falls_tree}
use Rattle.qs_lower.proofs.PlanTrees.{joined_is, switch_part_is, if_ok_is}
use Rattle.qs_lower.proofs.JoinedLaws.{joined_size}
use Rattle.qs_lower.proofs.stmt_sizes.+stmt_sizes.Goals as goal

pub stmt_size-returns-in_ok-stmt_size-in-Joined : goal.stmt_size-returns-in_ok-stmt_size-in-Joined
stmt_size-returns-in_ok-stmt_size-in-Joined t c =
    let all = c.in-Joined.all in
    let last = c.in-Joined.last in
    let y = falls_tree c.args.y in
    let whole : (stmt_part c.args.s.now).part.size y ≡ sizes_before (map stmt_part all.items) + (stmt_part last.value).part.size y =
    ap (λ s. s.part.size y) (joined_is c.args.s.now all last c.in-Joined.is) ∙ joined_size (map stmt_part all.items) (stmt_part last.value) y in
    let first : c.in_ok-sizes_before-in-Joined.field-0 ≡ sizes_before (map stmt_part all.items) =
    c.in_ok-sizes_before-in-Joined.ensures ∙ ap (λ l. sizes_before (map stmt_part l)) c.deref-in-Joined.ensures.value in
    let second : c.in_ok-stmt_size-in-Joined.field-0 ≡ (stmt_part last.value).part.size y =
    c.in_ok-stmt_size-in-Joined.ensures ∙ ap (λ s. (stmt_part s).part.size y) c.deref-in-Joined-2.ensures in
    let parts : c.in_ok-sizes_before-in-Joined.field-0 + c.in_ok-stmt_size-in-Joined.field-0 ≡ (stmt_part c.args.s.now).part.size y = omega (arith, first, second, whole) in
    if_ok_is c.sum-in-Joined.result (λ (n : ℕ). n) (c.in_ok-sizes_before-in-Joined.field-0 + c.in_ok-stmt_size-in-Joined.field-0) ((stmt_part c.args.s.now).part.size y)
    parts c.sum-in-Joined.ensures

pub switch_size-returns : goal.switch_size-returns
switch_size-returns t c =
    let p = c.args.p.now in
    let e = expr_code p.operand in
    let labels = p.labels.items in
    let ss = map stmt_part p.parts.items in
    let last = stmt_part p.last in
    let y = falls_tree c.args.y in
    let whole : (switch_part p).part.size y ≡ choice_size e labels + (sizes_before ss + last.part.size (in_switch_falls y)) =
    ap (λ s. s.part.size y) (switch_part_is p) ∙ ap (λ (n : ℕ). choice_size e labels + n) (joined_size ss last (in_switch_falls y)) in
    let choice : c.in_ok-first.first ≡ choice_size e labels = c.in_ok-first.ensures ∙ ap (choice_size e) c.deref.ensures.value in
    let parts : c.in_ok-sizes_before.field-0 ≡ sizes_before ss =
    c.in_ok-sizes_before.ensures ∙ ap (λ l. sizes_before (map stmt_part l)) c.deref-2.ensures.value in
    let behind : c.in_ok-stmt_size.field-0 ≡ last.part.size (in_switch_falls y) = c.in_ok-stmt_size.ensures ∙ ap last.part.size c.in_switch.ensures in
    let all : c.in_ok-second.second + c.in_ok-stmt_size.field-0 ≡ (switch_part p).part.size y = omega (arith, choice, parts, behind, whole) in
    if_ok_is c.sum-2.result (λ (n : ℕ). n) (c.in_ok-second.second + c.in_ok-stmt_size.field-0) ((switch_part p).part.size y) all c.sum-2.ensures
