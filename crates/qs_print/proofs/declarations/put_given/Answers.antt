use Rattle.std.proofs.Common.{arith}
use Rattle.qs_syntax.specs.TreeOf.{expr_tree}
use Rattle.qs_print.specs.Printed.{printed_length}
use Rattle.qs_print.proofs.Spaces.{row_more}
use Rattle.qs_print.proofs.declarations.put_given.Goals as goal

pub loop-e-preserved : goal.loop-e-preserved
loop-e-preserved c = row_more printed_length expr_tree c.args.lengths.now c.loop-e.e-index c.e-item.result (omega arith) c.e-item.is c.loop-e.invariant c.in_ok-put_length.ensures
