use Rattle.std.proofs.Common.{◌≡◌, OnOk, length, map, option_map, arith, ap, ◌∙◌, subst}
use Rattle.std.proofs.lemmas.Result.{on_ok_weaker}
use Rattle.qs_syntax.specs.TreeOf.{parameter_tree, stmts_tree}
use Rattle.qs_types.specs.Contexts.{inner_scope}
use Rattle.qs_types.specs.TypeOf.{type_tree}
use Rattle.qs_types.specs.UnitRules.{with_parameters}
use Rattle.qs_typing_findings.specs.ContextOf.{around_tree, context_tree, with_result}
use Rattle.qs_typing_findings.specs.Noted.{parameters_noted}
use Rattle.qs_typing_findings.specs.UnitWalk.{statements_walked, with_body_begun, with_body_ended}
use Rattle.qs_typing_findings.specs.WalkOf.{walk_tree}
use Rattle.qs_typing_findings.proofs.ScopeEnds.{items_end, items_leave}
use Rattle.qs_typing.proofs.functions.walk_body_items.Goals as goal

pub leave_scope-requires : goal.leave_scope-requires
leave_scope-requires c =
    items_leave (context_tree c.args.c.now) (context_tree c.enter_scope-around.new.self) (context_tree c.set_result-before.new.self) (context_tree c.declare_parameters.new.c)
    (context_tree c.walk_statements.new.c) (context_tree c.set_result.new.self) (around_tree c.enter_scope-around.result) (option_map type_tree c.set_result-before.result) (option_map type_tree c.args.to)
    (map parameter_tree c.args.ps.now) (map (option_map type_tree) c.args.ts.now) (stmts_tree c.args.items.now)
    c.enter_scope-around.ensures.around c.enter_scope-around.ensures.inside c.set_result-before.ensures.before c.set_result-before.ensures.set c.in_ok-declare_parameters.ensures
    c.in_ok-walk_statements.ensures.context c.set_result.ensures.set

pub returns-clause-context : goal.returns-clause-context
returns-clause-context c =
    on_ok_weaker c.end_body.result
    (λ _. items_end (context_tree c.args.c.now) (context_tree c.enter_scope-around.new.self) (context_tree c.set_result-before.new.self) (context_tree c.declare_parameters.new.c)
    (context_tree c.walk_statements.new.c) (context_tree c.set_result.new.self) (context_tree c.leave_scope.new.self) (around_tree c.enter_scope-around.result) (option_map type_tree c.set_result-before.result)
    (option_map type_tree c.args.to) (map parameter_tree c.args.ps.now) (map (option_map type_tree) c.args.ts.now) (stmts_tree c.args.items.now)
    c.enter_scope-around.ensures.around c.enter_scope-around.ensures.inside c.set_result-before.ensures.before c.set_result-before.ensures.set c.in_ok-declare_parameters.ensures
    c.in_ok-walk_statements.ensures.context c.set_result.ensures.set c.leave_scope.ensures)
    c.end_body.ensures

pub returns-clause-walked : goal.returns-clause-walked
returns-clause-walked c =
    let context = context_tree c.args.c.now in
    let ps = map parameter_tree c.args.ps.now in
    let ts = map (option_map type_tree) c.args.ts.now in
    let result = option_map type_tree c.args.to in
    let begun : walk_tree c.begin_body.new.self ≡ with_body_begun (parameters_noted context.structs ps ts) (walk_tree c.args.walk.now) =
    c.begin_body.ensures ∙ ap (λ ls. with_body_begun ls (walk_tree c.args.walk.now)) (c.in_ok-locals.ensures ∙ ap (λ s. parameters_noted s ps ts) c.structs.ensures) in
    let known : context_tree c.declare_parameters.new.c ≡ with_parameters (with_result (inner_scope context) result) ps ts =
    c.in_ok-declare_parameters.ensures ∙ ap (λ d. with_parameters d ps ts) (c.set_result-before.ensures.set ∙ ap (λ d. with_result d result) c.enter_scope-around.ensures.inside) in
    let walked = c.in_ok-walk_statements.ensures.walked ∙ (λ i. statements_walked (known i) (stmts_tree c.args.items.now) (begun i)) in
    let many : c.len-start.result ≡ length (walk_tree c.begin_body.new.self).found.addressed = omega arith in
    let start : c.len-start.result ≡ length (walk_tree c.args.walk.now).found.addressed = many ∙ ap (λ w. length w.found.addressed) begun in
    subst (λ w. OnOk c.end_body.result (walk_tree c.end_body.new.self ≡ w)) (λ i. with_body_ended (start i) (walked i)) c.end_body.ensures
