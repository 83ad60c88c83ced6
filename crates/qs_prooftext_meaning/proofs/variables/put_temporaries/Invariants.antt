use Rattle.std.proofs.Common.{◌≡◌, ◌++◌, drop, map}
use Rattle.qs_core.specs.TreeOf.{function_tree}
use Rattle.qs_prooftext_meaning.specs.Contexts.{word_view}
use Rattle.qs_prooftext_meaning.specs.Settings.{temporary_words}
use Rattle.qs_prooftext_meaning.proofs.variables.put_temporaries.Given as goal

abbrev pub invariant-loop-scalar : goal.invariant-loop-scalar
invariant-loop-scalar l = record {
  counts : l.number ≡ l.scalar-index;
  same : map word_view l.words.items ++ temporary_words l.number (drop l.scalar-index l.scalar-items) ≡ map word_view l.fn.words.items ++ temporary_words 0 (function_tree l.fn.function).temporaries;
}
