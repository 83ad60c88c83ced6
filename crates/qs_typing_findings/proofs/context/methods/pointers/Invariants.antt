use Rattle.std.proofs.Common.{◌≡◌}
use Rattle.qs_types.specs.Contexts.{pointers}
use Rattle.qs_types.specs.TypeOf.{type_tree}
use Rattle.qs_typing_findings.proofs.context.methods.pointers.Given as goal

abbrev pub invariant-loop : goal.invariant-loop
invariant-loop l = type_tree l.t ≡ pointers l.counter (type_tree l.fn.to)
