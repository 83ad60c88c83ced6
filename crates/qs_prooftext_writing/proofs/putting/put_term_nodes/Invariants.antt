use Rattle.std.proofs.Common.{◌≡◌, [], ◌∷◌, ◌++◌, drop, map, reverse}
use Rattle.qs_assert.specs.declared.node.Node.TheVariants.{Term}
use Rattle.qs_sexpr.specs.Marks.{mark_of}
use Rattle.qs_prooftext_writing.specs.declared.putting.Due.TheVariants.{Tree}
use Rattle.qs_prooftext_writing.specs.Putting.{all_put, words_in_table}
use Rattle.qs_prooftext_writing.proofs.putting.put_term_nodes.Given as goal

abbrev pub invariant-loop-node : goal.invariant-loop-node
invariant-loop-node l = map mark_of l.out.items ++ all_put (words_in_table l.table) (map Term (drop l.node-index l.nodes)) (reverse l.due.items) ≡ map mark_of l.fn.out.items ++ all_put (words_in_table l.table) (map Term l.nodes) (Tree ∷ [])
