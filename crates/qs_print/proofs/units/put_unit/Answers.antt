use Rattle.std.proofs.Common.{arith}
use Rattle.qs_syntax.specs.TreeOf.{decl_tree}
use Rattle.qs_print.specs.Printed.{printed_decl}
use Rattle.qs_print.proofs.Spaces.{row_more}
use Rattle.qs_print.proofs.units.put_unit.Goals as goal

pub loop-d-preserved : goal.loop-d-preserved
loop-d-preserved c = row_more printed_decl decl_tree c.args.declarations.now c.loop-d.d-index c.d-item.result (omega arith) c.d-item.is c.loop-d.invariant c.in_ok-put_decl.ensures
