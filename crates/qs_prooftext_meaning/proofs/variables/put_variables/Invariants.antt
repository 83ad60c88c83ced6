use Rattle.std.proofs.Common.{◌≡◌, ◌++◌, drop, map}
use Rattle.qs_core.specs.TreeOf.{function_tree, variable_tree}
use Rattle.qs_prooftext_meaning.specs.Contexts.{word_view}
use Rattle.qs_prooftext_meaning.specs.Settings.{variable_words}
use Rattle.qs_prooftext_meaning.proofs.variables.put_variables.Given as goal

abbrev pub invariant-loop-v : goal.invariant-loop-v
invariant-loop-v l = record {
  counts : l.number ≡ l.v-index;
  same : map word_view l.words.items ++ variable_words (function_tree l.function) l.number (map variable_tree (drop l.v-index l.v-items)) ≡ map word_view l.fn.words.items ++ variable_words (function_tree l.fn.function) 0 (function_tree l.fn.function).variables;
}
