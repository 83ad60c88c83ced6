use Rattle.std.proofs.Common.{map, ap, ◌∙◌}
use Rattle.qs_syntax.specs.TreeOf.{expr_tree, variable_tree}
use Rattle.qs_types.specs.Declarations.{variable_declared}
use Rattle.qs_typing_findings.specs.ContextOf.{context_tree}
use Rattle.qs_typing_findings.specs.UnitWalk.{declarator_walked, object_typed}
use Rattle.qs_typing_findings.specs.WalkOf.{walk_tree}
use Rattle.qs_typing.proofs.Declarators.{has_place, declarator_is}
use Rattle.qs_typing.proofs.variables.walk_declarator.Goals as goal

pub declare-requires : goal.declare-requires
declare-requires c =
    has_place (context_tree c.args.c.now) (map expr_tree c.deref.result.now) (walk_tree c.args.walk.now) (walk_tree c.open_object.new.self)
    (walk_tree c.walk_lengths.new.walk) c.in_ok-at.at c.in_ok-at.ensures.place c.in_ok-at.ensures.opened c.in_ok-lengths.ensures.walked

pub returns-clause-walked : goal.returns-clause-walked
returns-clause-walked c =
    let context = context_tree c.args.c.now in
    let t = (variable_declared context c.args.base.now (variable_tree c.args.v.now)).type in
    declarator_is context (map expr_tree c.deref.result.now) t (walk_tree c.args.walk.now) (walk_tree c.open_object.new.self)
    (walk_tree c.walk_lengths.new.walk) (walk_tree c.declare.new.self) c.in_ok-at.at c.in_ok-at.ensures.place c.in_ok-at.ensures.opened c.in_ok-lengths.ensures.walked
    (c.declare.ensures ∙ ap (λ o. object_typed c.in_ok-at.at o (walk_tree c.walk_lengths.new.walk)) (c.in_ok-kept.ensures ∙ ap (λ d. d.type) c.in_ok-declared.ensures))
    ∙ ap (λ es. declarator_walked context t (map expr_tree es) (walk_tree c.args.walk.now)) c.deref.ensures.value
