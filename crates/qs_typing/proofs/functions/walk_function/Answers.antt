use Rattle.std.proofs.Common.{◌≡◌, OnOk, Some, map, option_map, sym, ap, ◌∙◌, subst}
use Rattle.std.proofs.lemmas.Result.{on_ok_weaker}
use Rattle.qs_syntax.specs.TreeOf.{function_tree, parameter_tree, stmts_tree}
use Rattle.qs_types.specs.Contexts.{inner_scope}
use Rattle.qs_types.specs.TypeOf.{type_tree}
use Rattle.qs_types.specs.UnitRules.{after_function, parameter_types, result_type}
use Rattle.qs_typing_findings.specs.ContextOf.{around_tree, context_tree}
use Rattle.qs_typing_findings.specs.Functions.{items_walked}
use Rattle.qs_typing_findings.specs.JudgedOf.{test_tree}
use Rattle.qs_typing_findings.specs.UnitWalk.{function_walked}
use Rattle.qs_typing_findings.specs.WalkOf.{walk_tree}
use Rattle.qs_typing.proofs.Headers.{still_some, header_is, body_is, no_body}
use Rattle.qs_typing_findings.proofs.ScopeEnds.{header_ends, header_leaves}
use Rattle.qs_typing.proofs.functions.walk_function.Goals as goal

pub leave_scope-requires : goal.leave_scope-requires
leave_scope-requires c =
    header_leaves (context_tree c.args.c.now) (context_tree c.enter_scope-around.new.self) (context_tree c.walk_parameters.new.c) (around_tree c.enter_scope-around.result)
    (map parameter_tree c.deref.result.now) c.enter_scope-around.ensures.around c.enter_scope-around.ensures.inside c.in_ok-types.ensures.context

pub header_tests-requires-clause-types : goal.header_tests-requires-clause-types
header_tests-requires-clause-types c =
    let begun = context_tree c.enter_scope-around.new.self in
    let left : context_tree c.leave_scope.new.self ≡ context_tree c.args.c.now =
    header_ends (context_tree c.args.c.now) begun (context_tree c.walk_parameters.new.c) (context_tree c.leave_scope.new.self) (around_tree c.enter_scope-around.result)
    (map parameter_tree c.deref.result.now) c.enter_scope-around.ensures.around c.enter_scope-around.ensures.inside c.in_ok-types.ensures.context c.leave_scope.ensures in
    let scope : begun ≡ inner_scope (context_tree c.leave_scope.new.self) = c.enter_scope-around.ensures.inside ∙ ap inner_scope (sym left) in
    ap (map (option_map type_tree)) c.deref-2.ensures.value ∙ c.in_ok-types.ensures.typed ∙ (λ i. parameter_types (scope i) (map parameter_tree (c.deref.ensures.value i)))

pub declare_function-requires-clause-types : goal.declare_function-requires-clause-types
declare_function-requires-clause-types c =
    let begun = context_tree c.enter_scope-around.new.self in
    let left : context_tree c.leave_scope.new.self ≡ context_tree c.args.c.now =
    header_ends (context_tree c.args.c.now) begun (context_tree c.walk_parameters.new.c) (context_tree c.leave_scope.new.self) (around_tree c.enter_scope-around.result)
    (map parameter_tree c.deref.result.now) c.enter_scope-around.ensures.around c.enter_scope-around.ensures.inside c.in_ok-types.ensures.context c.leave_scope.ensures in
    let scope : begun ≡ inner_scope (context_tree c.leave_scope.new.self) = c.enter_scope-around.ensures.inside ∙ ap inner_scope (sym left) in
    ap (map (option_map type_tree)) c.deref-4.ensures.value ∙ c.in_ok-types.ensures.typed ∙ (λ i. parameter_types (scope i) (map parameter_tree (c.deref.ensures.value i)))

pub returns-in-None-clause-context : goal.returns-in-None-clause-context
returns-in-None-clause-context c =
    let left : context_tree c.leave_scope.new.self ≡ context_tree c.args.c.now =
    header_ends (context_tree c.args.c.now) (context_tree c.enter_scope-around.new.self) (context_tree c.walk_parameters.new.c) (context_tree c.leave_scope.new.self) (around_tree c.enter_scope-around.result)
    (map parameter_tree c.deref.result.now) c.enter_scope-around.ensures.around c.enter_scope-around.ensures.inside c.in_ok-types.ensures.context c.leave_scope.ensures in
    c.in_ok-declare_function.ensures ∙ ap (λ d. after_function d (function_tree c.args.f.now)) left

pub returns-in-None-clause-walked : goal.returns-in-None-clause-walked
returns-in-None-clause-walked c =
    let context = context_tree c.args.c.now in
    let left : context_tree c.leave_scope.new.self ≡ context =
    header_ends context (context_tree c.enter_scope-around.new.self) (context_tree c.walk_parameters.new.c) (context_tree c.leave_scope.new.self) (around_tree c.enter_scope-around.result)
    (map parameter_tree c.deref.result.now) c.enter_scope-around.ensures.around c.enter_scope-around.ensures.inside c.in_ok-types.ensures.context c.leave_scope.ensures in
    no_body context (function_tree c.args.f.now) (walk_tree c.args.walk.now) (walk_tree c.judge.new.self) (ap (option_map (λ b. stmts_tree b.items)) c.in-None.is)
    (header_is context (context_tree c.enter_scope-around.new.self) (context_tree c.leave_scope.new.self) (function_tree c.args.f.now)
    c.is_some.result (map parameter_tree c.deref.result.now) (map test_tree c.deref-3.result.now)
    (walk_tree c.args.walk.now) (walk_tree c.open.new.self) (walk_tree c.walk_parameters.new.walk) (walk_tree c.judge.new.self)
    c.enter_scope-around.ensures.inside left (c.is_some.ensures ∙ still_some (λ b. stmts_tree b.items) c.args.f.now.body) (ap (map parameter_tree) c.deref.ensures.value)
    c.in_ok-open.ensures c.in_ok-types.ensures.walked (ap (map test_tree) c.deref-3.ensures.value ∙ c.in_ok-tests.ensures) c.judge.ensures)

pub returns-clause-context : goal.returns-clause-context
returns-clause-context c =
    let left : context_tree c.leave_scope.new.self ≡ context_tree c.args.c.now =
    header_ends (context_tree c.args.c.now) (context_tree c.enter_scope-around.new.self) (context_tree c.walk_parameters.new.c) (context_tree c.leave_scope.new.self) (around_tree c.enter_scope-around.result)
    (map parameter_tree c.deref.result.now) c.enter_scope-around.ensures.around c.enter_scope-around.ensures.inside c.in_ok-types.ensures.context c.leave_scope.ensures in
    on_ok_weaker c.walk_body_items.result (λ e. e ∙ c.in_ok-declare_function.ensures ∙ ap (λ d. after_function d (function_tree c.args.f.now)) left) c.walk_body_items.ensures.context

pub returns-clause-walked : goal.returns-clause-walked
returns-clause-walked c =
    let context = context_tree c.args.c.now in
    let f = function_tree c.args.f.now in
    let begun = context_tree c.enter_scope-around.new.self in
    let ps = map parameter_tree c.deref.result.now in
    let left : context_tree c.leave_scope.new.self ≡ context =
    header_ends context begun (context_tree c.walk_parameters.new.c) (context_tree c.leave_scope.new.self) (around_tree c.enter_scope-around.result)
    ps c.enter_scope-around.ensures.around c.enter_scope-around.ensures.inside c.in_ok-types.ensures.context c.leave_scope.ensures in
    let types : map (option_map type_tree) c.deref-in-Some-2.result.now ≡ parameter_types (inner_scope context) f.parameters =
    ap (map (option_map type_tree)) c.deref-in-Some-2.ensures.value ∙ c.in_ok-types.ensures.typed
    ∙ (λ i. parameter_types (c.enter_scope-around.ensures.inside i) (map parameter_tree (c.deref.ensures.value i))) in
    let body : f.body ≡ Some (stmts_tree c.deref-in-Some-3.result.now) =
    ap (option_map (λ b. stmts_tree b.items)) c.in-Some.is ∙ ap (λ l. Some (stmts_tree l)) (sym c.deref-in-Some-3.ensures.value) in
    let walked : items_walked (context_tree c.declare_function.new.c) (map parameter_tree c.deref-in-Some.result.now) (map (option_map type_tree) c.deref-in-Some-2.result.now)
    (option_map type_tree c.in_ok-to.to) (stmts_tree c.deref-in-Some-3.result.now) (walk_tree c.judge.new.self)
    ≡ function_walked context f (walk_tree c.args.walk.now) =
    body_is context (context_tree c.declare_function.new.c) f (map parameter_tree c.deref-in-Some.result.now)
    (map (option_map type_tree) c.deref-in-Some-2.result.now) (option_map type_tree c.in_ok-to.to) (stmts_tree c.deref-in-Some-3.result.now) (walk_tree c.args.walk.now) (walk_tree c.judge.new.self)
    (c.in_ok-declare_function.ensures ∙ ap (λ d. after_function d f) left) (ap (map parameter_tree) c.deref-in-Some.ensures.value) types (c.in_ok-to.ensures ∙ ap (λ d. result_type d f) left) body
    (header_is context begun (context_tree c.leave_scope.new.self) f c.is_some.result ps (map test_tree c.deref-3.result.now)
    (walk_tree c.args.walk.now) (walk_tree c.open.new.self) (walk_tree c.walk_parameters.new.walk) (walk_tree c.judge.new.self)
    c.enter_scope-around.ensures.inside left (c.is_some.ensures ∙ still_some (λ b. stmts_tree b.items) c.args.f.now.body) (ap (map parameter_tree) c.deref.ensures.value)
    c.in_ok-open.ensures c.in_ok-types.ensures.walked (ap (map test_tree) c.deref-3.ensures.value ∙ c.in_ok-tests.ensures) c.judge.ensures) in
    subst (λ w. OnOk c.walk_body_items.result (walk_tree c.walk_body_items.new.walk ≡ w)) walked c.walk_body_items.ensures.walked
