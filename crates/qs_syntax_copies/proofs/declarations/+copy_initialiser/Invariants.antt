use Rattle.std.proofs.Common.{◌≡◌, ◌++◌, map, drop}
use Rattle.qs_syntax.specs.TreeOf.{initialiser_tree}
use Rattle.qs_syntax_copies.proofs.declarations.+copy_initialiser.Given as goal

abbrev pub invariant-copy_initialisers-loop-item : goal.invariant-copy_initialisers-loop-item
invariant-copy_initialisers-loop-item l = record {
  tree : map initialiser_tree l.to.items ++ map initialiser_tree (drop l.item-index l.from) ≡ map initialiser_tree l.from;
}
