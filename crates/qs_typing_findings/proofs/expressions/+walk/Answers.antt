use Rattle.std.proofs.Common.{◌≡◌, ◌<◌, IfOk, length, option_map, sym, ap, ◌∙◌, subst}
use Rattle.qs_syntax.specs.TreeOf.{expr_tree, shape_tree}
use Rattle.qs_types.specs.Conversions.{decayed}
use Rattle.qs_types.specs.Expressions.{conditional_judged, subscript_judged}
use Rattle.qs_types.specs.TypeOf.{type_tree}
use Rattle.qs_typing_findings.specs.ContextOf.{context_tree}
use Rattle.qs_typing_findings.specs.FoundOf.{found_tree}
use Rattle.qs_typing_findings.specs.JudgedOf.{judged_tree}
use Rattle.qs_typing_findings.specs.PartsOf.{with_types, with_three}
use Rattle.qs_typing_findings.specs.PositionOf.{position_tree}
use Rattle.qs_typing_findings.specs.Walk.{walked, parts_walked}
use Rattle.qs_typing_findings.proofs.Walks.{expr_of}
use Rattle.qs_typing_findings.proofs.Walks.{has_place, node_walked}
use Rattle.qs_typing_findings.proofs.expressions.+walk.Goals as goal

pub walk-fill-requires : goal.walk-fill-requires
walk-fill-requires t c =
    let context = context_tree c.args.c.now in
    let shape = shape_tree c.args.e.now.shape in
    let parts = c.in_ok-judged.ensures.found ∙ ap (parts_walked context (position_tree c.args.p) shape) c.in_ok-at.ensures.opened in
    let low = has_place context (position_tree c.args.p) shape c.shape_referent.result (found_tree c.args.found.now) (found_tree c.walk_parts.new.found) c.in_ok-at.at c.in_ok-at.ensures.place parts in
    subst (λ n. c.in_ok-at.at < n) (sym (ap (λ f. length f.types) c.settle-t.ensures.found)) low

pub walk-returns-clause-found : goal.walk-returns-clause-found
walk-returns-clause-found t c =
    node_walked (context_tree c.args.c.now) (position_tree c.args.p) c.args.e.now.node (shape_tree c.args.e.now.shape)
    (found_tree c.args.found.now) (found_tree c.open.new.self) (found_tree c.walk_parts.new.found) (found_tree c.settle-t.new.found) (found_tree c.fill.new.self)
    c.shape_referent.result (option_map judged_tree c.in_ok-judged.judged) (option_map type_tree c.in_ok-kept.kept) c.in_ok-at.at
    c.in_ok-at.ensures.place c.shape_referent.ensures c.in_ok-at.ensures.opened c.in_ok-judged.ensures.judged c.in_ok-judged.ensures.found
    c.settle-t.ensures.found (c.in_ok-kept.ensures ∙ c.settle-t.ensures.typed) c.fill.ensures
    ∙ ap (λ e. walked (context_tree c.args.c.now) (position_tree c.args.p) e (found_tree c.args.found.now)) (sym (expr_of c.args.e.now))

pub walk_conditional-returns-clause-judged : goal.walk_conditional-returns-clause-judged
walk_conditional-returns-clause-judged t c =
    subst (λ o. IfOk c.judge_conditional.result (λ j. option_map judged_tree j ≡ o))
    (λ i. with_three (c.in_ok-s.ensures.typed i) (c.in_ok-t.ensures.typed i) (c.in_ok-u.ensures.typed i)
    (λ s t u. conditional_judged (decayed s) (expr_tree c.args.a.now) (decayed t) (expr_tree c.args.b.now) (decayed u)))
    c.judge_conditional.ensures

pub walk_subscript-returns-clause-judged : goal.walk_subscript-returns-clause-judged
walk_subscript-returns-clause-judged t c =
    subst (λ o. IfOk c.judge_subscript.result (λ j. option_map judged_tree j ≡ o))
    (λ i. with_types (c.in_ok-t.ensures.typed i) (c.in_ok-u.ensures.typed i) (λ t u. subscript_judged (c.structs.ensures i) (decayed t) (decayed u)))
    c.judge_subscript.ensures
