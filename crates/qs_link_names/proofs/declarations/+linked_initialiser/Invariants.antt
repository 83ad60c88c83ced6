use Rattle.std.proofs.Common.{◌≡◌, ◌++◌, map, drop}
use Rattle.qs_syntax.specs.TreeOf.{initialiser_tree}
use Rattle.qs_link_names.specs.InternalOf.{internal_of}
use Rattle.qs_link_names.specs.LinkedDeclarations.{linked_initialiser}
use Rattle.qs_link_names.proofs.declarations.+linked_initialiser.Given as goal

abbrev pub invariant-linked_initialisers-loop-item : goal.invariant-linked_initialisers-loop-item
invariant-linked_initialisers-loop-item l = record {
  tree : map initialiser_tree l.to.items ++ map (linked_initialiser (internal_of l.own)) (map initialiser_tree (drop l.item-index l.from)) ≡ map (linked_initialiser (internal_of l.own)) (map initialiser_tree l.from);
}
