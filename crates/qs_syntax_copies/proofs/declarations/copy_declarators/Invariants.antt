use Rattle.std.proofs.Common.{◌≡◌, ◌++◌, map, drop}
use Rattle.qs_syntax.specs.TreeOf.{declarator_tree}
use Rattle.qs_syntax_copies.proofs.declarations.copy_declarators.Given as goal

abbrev pub invariant-loop-declarator : goal.invariant-loop-declarator
invariant-loop-declarator l = record {
  tree : map declarator_tree l.declarators.items ++ map declarator_tree (drop l.declarator-index l.from) ≡ map declarator_tree l.from;
}
