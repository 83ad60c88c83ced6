use Rattle.std.proofs.Common.{◌≡◌, ◌++◌, map, drop}
use Rattle.qs_syntax.specs.TreeOf.{members_tree}
use Rattle.qs_syntax_copies.proofs.units.copy_struct.Given as goal

abbrev pub invariant-loop-group : goal.invariant-loop-group
invariant-loop-group l = record {
  tree : map members_tree l.members.items ++ map members_tree (drop l.group-index l.from.members.items) ≡ map members_tree l.from.members.items;
}
