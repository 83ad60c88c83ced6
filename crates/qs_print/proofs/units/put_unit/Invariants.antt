use Rattle.std.proofs.Common.{flat_map, map, take}
use Rattle.qs_syntax.specs.TreeOf.{decl_tree}
use Rattle.qs_print.specs.Printed.{printed_decl}
use Rattle.qs_print.specs.Words.{Writes}
use Rattle.qs_print.proofs.units.put_unit.Given as goal

-- those so far are written
abbrev pub invariant-loop-d : goal.invariant-loop-d
invariant-loop-d l = Writes l.fn.out.items (flat_map printed_decl (map decl_tree (take l.d-index l.declarations))) l.out.items
