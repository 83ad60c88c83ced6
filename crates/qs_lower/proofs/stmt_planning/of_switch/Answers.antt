use Rattle.std.proofs.Common.{◌≡◌, map, [], ◌∷◌, ◌++◌, ap, sym, ◌∙◌}
use Rattle.std.proofs.lemmas.List.{map-append}
use Rattle.qs_lower_expressions.specs.Plans.{expr_code}
use Rattle.qs_lower.specs.Statements.{of_switch, of_all_parts}
use Rattle.qs_lower.specs.StmtPlans.{stmt_part}
use Rattle.qs_lower.proofs.PlanTrees.{if_ok_is}
use Rattle.qs_lower.proofs.JoinedLaws.{parts_apart}
use Rattle.qs_lower.proofs.stmt_planning.of_switch.Goals as goal

pub returns-in-Some : goal.returns-in-Some
returns-in-Some c =
    let free = c.args.free in
    let e = expr_code c.args.operand in
    let labels = c.args.labels.now in
    let front = map stmt_part c.pop.new.self.items in
    let last = stmt_part c.in-Some.last in
    let split : map stmt_part c.args.parts.items ≡ front ++ last ∷ [] =
    ap (map stmt_part) c.in-Some.ensures.items ∙ map-append stmt_part c.pop.new.self.items (c.in-Some.last ∷ []) in
    if_ok_is c.with_parts-in-Some.result stmt_part (of_switch free e labels front last) (of_all_parts free e labels (map stmt_part c.args.parts.items))
    (sym (ap (of_all_parts free e labels) split ∙ parts_apart free e labels front last)) c.with_parts-in-Some.ensures
