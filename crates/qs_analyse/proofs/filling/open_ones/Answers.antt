use Rattle.std.proofs.Common.{get_or, arith}
use Rattle.qs_base.specs.declared.function.FnId.{FnId}
use Rattle.qs_callgraph.proofs.MemberLaws.{number_in}
use Rattle.qs_analyse.proofs.filling.open_ones.Goals as goal

abbrev none : FnId
none = record { 0 = 0 }

pub bounds-is_open-f : goal.bounds-is_open-f
bounds-is_open-f c = c.requires (get_or c.args.fs.now c.loop-f.f-index none).0 (number_in c.args.fs.now c.loop-f.f-index none (omega arith))
