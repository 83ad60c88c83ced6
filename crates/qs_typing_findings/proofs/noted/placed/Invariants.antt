use Rattle.std.proofs.Common.{◌≡◌, ◌++◌, drop, filter, map}
use Rattle.qs_typing_findings.specs.Noted.{is_block}
use Rattle.qs_typing_findings.specs.NotedOf.{block_tree, local_tree}
use Rattle.qs_typing_findings.proofs.noted.placed.Given as goal

abbrev pub invariant-loop-l : goal.invariant-loop-l
invariant-loop-l l =
    map (λ l. l.block) (filter (is_block l.nodes.keys) (map local_tree l.locals))
    ≡ map block_tree l.blocks.items ++ map (λ l. l.block) (filter (is_block l.nodes.keys) (map local_tree (drop l.l-index l.locals)))
