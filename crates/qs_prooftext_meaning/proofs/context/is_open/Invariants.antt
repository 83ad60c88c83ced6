use Rattle.std.proofs.Common.{◌≡◌, drop, map}
use Rattle.qs_core.specs.TreeOf.{function_tree}
use Rattle.qs_prooftext_meaning.specs.Contexts.{function_rows, is_open_word}
use Rattle.qs_prooftext_meaning.specs.Settings.{numbered}
use Rattle.qs_prooftext_meaning.proofs.context.is_open.Given as goal

abbrev pub invariant-loop-function : goal.invariant-loop-function
invariant-loop-function l = record {
  counts : l.index ≡ l.function-index;
  same : is_open_word l.names.is_open.now (numbered l.index (map (λ f. f.name) (map function_tree (drop l.function-index l.functions)))) l.word ≡ is_open_word l.names.is_open.now (function_rows l.fn.functions) l.fn.word;
}
