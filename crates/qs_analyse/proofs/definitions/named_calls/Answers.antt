use Rattle.std.proofs.Common.{get_or, arith}
use Rattle.qs_base.specs.declared.function.FnId.{FnId}
use Rattle.qs_callgraph.proofs.MemberLaws.{number_in}
use Rattle.qs_analyse.proofs.definitions.named_calls.Goals as goal

abbrev none : FnId
none = record { 0 = 0 }

pub named-requires : goal.named-requires
named-requires c = c.requires (get_or c.args.callees.now c.loop-g.g-index none).0 (number_in c.args.callees.now c.loop-g.g-index none (omega arith))
