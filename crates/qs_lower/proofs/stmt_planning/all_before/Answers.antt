use Rattle.std.proofs.Common.{◌≡◌, map, [], ◌∷◌, ◌++◌, None, Some, ap, sym, ◌∙◌}
use Rattle.std.proofs.lemmas.List.{map-append}
use Rattle.qs_lower.specs.Statements.{joined_before}
use Rattle.qs_lower.specs.StmtPlans.{stmt_part, all_before, redirected_to}
use Rattle.qs_lower.specs.Ways.{option_way, way_tree}
use Rattle.qs_lower.proofs.PlanTrees.{redirected_is, if_ok_is}
use Rattle.qs_lower.proofs.JoinedLaws.{all_before_plain, all_before_way}
use Rattle.qs_lower.proofs.stmt_planning.all_before.Goals as goal

pub returns-in-None : goal.returns-in-None
returns-in-None c =
    let front = map stmt_part c.args.all.items in
    let last = stmt_part c.args.last in
    let none : last.way ≡ None = sym c.way.ensures.way ∙ ap option_way c.in-None.is in
    if_ok_is c.with_last.result stmt_part (joined_before front last) (all_before front last) (sym (all_before_plain front last none)) c.with_last.ensures

pub returns-in_ok-new-in-Some-pop : goal.returns-in_ok-new-in-Some-pop
returns-in_ok-new-in-Some-pop c =
    let front = map stmt_part c.pop.new.self.items in
    let s = stmt_part c.in-Some-pop.s in
    let last = stmt_part c.args.last in
    let w = way_tree c.in-Some.w in
    let way : last.way ≡ Some w = sym c.way.ensures.way ∙ ap option_way c.in-Some.is in
    let split : map stmt_part c.args.all.items ≡ front ++ s ∷ [] =
    ap (map stmt_part) c.in-Some-pop.ensures.items ∙ map-append stmt_part c.pop.new.self.items (c.in-Some-pop.s ∷ []) in
    let whole : joined_before front (redirected_to s w) ≡ all_before (map stmt_part c.args.all.items) last =
    sym (ap (λ l. all_before l last) split ∙ all_before_way front s last w way c.in-Some.ensures.ends c.in-Some.ensures.breaks) in
    if_ok_is c.with_last-in-Some-pop.result stmt_part _ (all_before (map stmt_part c.args.all.items) last)
    (ap (joined_before front) (redirected_is c.in_ok-new-in-Some-pop.field-0 c.in-Some-pop.s c.in-Some.w c.in_ok-new-in-Some-pop.ensures.ok) ∙ whole)
    c.with_last-in-Some-pop.ensures
