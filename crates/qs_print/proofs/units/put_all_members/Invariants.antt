use Rattle.std.proofs.Common.{flat_map, map, take}
use Rattle.qs_syntax.specs.TreeOf.{members_tree}
use Rattle.qs_print.specs.Printed.{printed_members}
use Rattle.qs_print.specs.Words.{Writes}
use Rattle.qs_print.proofs.units.put_all_members.Given as goal

-- those so far are written
abbrev pub invariant-loop-m : goal.invariant-loop-m
invariant-loop-m l = Writes l.fn.out.items (flat_map printed_members (map members_tree (take l.m-index l.members))) l.out.items
