use Rattle.std.proofs.Common.{◌≡◌, ◌++◌, drop, map}
use Rattle.qs_types.specs.Limits.{text_block}
use Rattle.qs_typing_findings.specs.NotedOf.{block_tree, text_tree}
use Rattle.qs_typing.proofs.checking.text_blocks.Given as goal

abbrev pub invariant-loop-t : goal.invariant-loop-t
invariant-loop-t l = map text_block (map text_tree l.ts) ≡ map block_tree l.blocks.items ++ map text_block (map text_tree (drop l.t-index l.ts))
