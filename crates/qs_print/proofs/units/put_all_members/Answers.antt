use Rattle.std.proofs.Common.{arith}
use Rattle.qs_syntax.specs.TreeOf.{members_tree}
use Rattle.qs_print.specs.Printed.{printed_members}
use Rattle.qs_print.proofs.Spaces.{row_more}
use Rattle.qs_print.proofs.units.put_all_members.Goals as goal

pub loop-m-preserved : goal.loop-m-preserved
loop-m-preserved c = row_more printed_members members_tree c.args.members.now c.loop-m.m-index c.m-item.result (omega arith) c.m-item.is c.loop-m.invariant c.in_ok-put_members.ensures
