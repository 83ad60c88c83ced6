use Rattle.std.proofs.Common.{flat_map, map, take}
use Rattle.qs_syntax.specs.TreeOf.{expr_tree}
use Rattle.qs_print.specs.Printed.{printed_length}
use Rattle.qs_print.specs.Words.{Writes}
use Rattle.qs_print.proofs.declarations.put_given.Given as goal

-- those so far are written
abbrev pub invariant-loop-e : goal.invariant-loop-e
invariant-loop-e l = Writes l.fn.out.items (flat_map printed_length (map expr_tree (take l.e-index l.lengths))) l.out.items
