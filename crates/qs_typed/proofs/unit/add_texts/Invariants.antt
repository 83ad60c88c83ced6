use Rattle.std.proofs.Common.{◌≡◌, ◌++◌, drop, map}
use Rattle.qs_meaning.specs.InitialValues.{text_block}
use Rattle.qs_typing_findings.specs.NotedOf.{text_tree}
use Rattle.qs_typed_trees.specs.TreeOf.{static_block_tree}
use Rattle.qs_typed.proofs.unit.add_texts.Given as goal

abbrev pub invariant-loop-text : goal.invariant-loop-text
invariant-loop-text l =
    map static_block_tree l.initial.blocks.items ++ map text_block (map text_tree l.texts)
    ≡ map static_block_tree l.blocks.items ++ map text_block (map text_tree (drop l.text-index l.texts))
