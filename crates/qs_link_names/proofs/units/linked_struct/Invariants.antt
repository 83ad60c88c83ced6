use Rattle.std.proofs.Common.{◌≡◌, ◌++◌, map, drop}
use Rattle.qs_syntax.specs.TreeOf.{members_tree}
use Rattle.qs_link_names.specs.InternalOf.{internal_of}
use Rattle.qs_link_names.specs.LinkedDeclarations.{linked_groups}
use Rattle.qs_link_names.proofs.units.linked_struct.Given as goal

abbrev pub invariant-loop-group : goal.invariant-loop-group
invariant-loop-group l = record {
  tree : map members_tree l.members.items ++ linked_groups (internal_of l.own) (map members_tree (drop l.group-index l.from.members.items)) ≡ linked_groups (internal_of l.own) (map members_tree l.from.members.items);
}
