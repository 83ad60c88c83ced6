use Rattle.std.proofs.Common.{◌≡◌, ◌++◌, map, reverse}
use Rattle.qs_prooftext.specs.Planting.{behind, firsts}
use Rattle.qs_prooftext.proofs.taking.take_all.Given as goal

abbrev pub invariant-parts : goal.invariant-parts
invariant-parts g l = record {
  first : map g.T.Subtree.tree l.parts.items ++ firsts g.T.Subtree.blank l.left (reverse (map g.T.Subtree.tree l.stack.items)) ≡ firsts g.T.Subtree.blank l.fn.count (reverse (map g.T.Subtree.tree l.fn.stack.items));
  kept : behind l.left (reverse (map g.T.Subtree.tree l.stack.items)) ≡ behind l.fn.count (reverse (map g.T.Subtree.tree l.fn.stack.items));
}

abbrev pub decreases-parts : goal.decreases-parts
decreases-parts g l = l.left
