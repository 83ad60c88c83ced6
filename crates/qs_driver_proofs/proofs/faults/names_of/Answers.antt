use Rattle.std.proofs.Common.{get_or, arith}
use Rattle.qs_base.specs.declared.function.FnId.{FnId}
use Rattle.qs_callgraph.proofs.MemberLaws.{number_in}
use Rattle.qs_driver_proofs.proofs.faults.names_of.Goals as goal

abbrev none : FnId
none = record { 0 = 0 }

pub name_of-requires : goal.name_of-requires
name_of-requires c = c.requires (get_or c.args.functions.now c.loop-f.f-index none).0 (number_in c.args.functions.now c.loop-f.f-index none (omega arith))
