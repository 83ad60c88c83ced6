use Rattle.qs_typing_findings.specs.ContextOf.{around_tree, context_tree}
use Rattle.qs_typing_findings.specs.ScopesOf.{inner_bindings, outer_bindings}
use Rattle.qs_typing_findings.proofs.Tags.{scope_left}
use Rattle.qs_typing_findings.proofs.context.Context.leave_scope.Goals as goal

pub returns : goal.returns
returns c =
    scope_left (context_tree c.args.self.now) (inner_bindings c.leave.new.self) (outer_bindings c.leave.new.self) (around_tree c.args.around) c.leave.ensures.names c.leave.ensures.start
