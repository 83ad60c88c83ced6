use Rattle.std.proofs.Common.{◌≡◌, drop, map}
use Rattle.qs_core.specs.TreeOf.{function_tree}
use Rattle.qs_prooftext_meaning.specs.Contexts.{function_rows}
use Rattle.qs_prooftext_meaning.specs.Settings.{look_up, numbered}
use Rattle.qs_prooftext_meaning.proofs.context.find_function.Given as goal

abbrev pub invariant-loop-function : goal.invariant-loop-function
invariant-loop-function l = record {
  counts : l.index ≡ l.function-index;
  same : look_up l.word (numbered l.index (map (λ f. f.name) (map function_tree (drop l.function-index l.functions)))) ≡ look_up l.fn.word (function_rows l.fn.functions);
}
