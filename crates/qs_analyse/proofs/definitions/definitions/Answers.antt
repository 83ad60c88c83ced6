use Rattle.std.proofs.Common.{get_or, arith}
use Rattle.qs_base.specs.declared.function.FnId.{FnId}
use Rattle.qs_callgraph.proofs.MemberLaws.{number_in}
use Rattle.qs_analyse.proofs.definitions.definitions.Goals as goal

abbrev none : FnId
none = record { 0 = 0 }

pub definition-requires : goal.definition-requires
definition-requires c = c.requires (get_or c.args.opened.now c.loop-f.f-index none).0 (number_in c.args.opened.now c.loop-f.f-index none (omega arith))
