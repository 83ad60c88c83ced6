use Rattle.std.proofs.Common.{ap, ◌∙◌}
use Rattle.qs_syntax.specs.TreeOf.{parameter_tree}
use Rattle.qs_types.specs.Declarations.{parameter_declared}
use Rattle.qs_typing_findings.specs.ContextOf.{context_tree}
use Rattle.qs_typing_findings.specs.UnitWalk.{object_typed}
use Rattle.qs_typing_findings.specs.WalkOf.{walk_tree}
use Rattle.qs_typing.proofs.Declarators.{has_place, declarator_is}
use Rattle.qs_typing.proofs.functions.walk_declarator.Goals as goal

pub declare-requires : goal.declare-requires
declare-requires c =
    has_place (context_tree c.args.c.now) (parameter_tree c.args.p.now).lengths.given (walk_tree c.args.walk.now) (walk_tree c.open_object.new.self)
    (walk_tree c.walk_parameter_lengths.new.walk) c.in_ok-at.at c.in_ok-at.ensures.place c.in_ok-at.ensures.opened c.in_ok-lengths.ensures.walked

pub returns-clause-walked : goal.returns-clause-walked
returns-clause-walked c =
    let context = context_tree c.args.c.now in
    let p = parameter_tree c.args.p.now in
    declarator_is context p.lengths.given (parameter_declared context p).type (walk_tree c.args.walk.now) (walk_tree c.open_object.new.self)
    (walk_tree c.walk_parameter_lengths.new.walk) (walk_tree c.declare.new.self) c.in_ok-at.at c.in_ok-at.ensures.place c.in_ok-at.ensures.opened
    c.in_ok-lengths.ensures.walked
    (c.declare.ensures ∙ ap (λ o. object_typed c.in_ok-at.at o (walk_tree c.walk_parameter_lengths.new.walk)) (c.in_ok-kept.ensures ∙ ap (λ d. d.type) c.in_ok-declared.ensures))
