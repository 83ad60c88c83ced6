use Rattle.std.proofs.Common.{◌≡◌, drop, map}
use Rattle.qs_prooftext_meaning.specs.Contexts.{word_view}
use Rattle.qs_prooftext_meaning.specs.Writing.{word_for}
use Rattle.qs_prooftext_writing.proofs.writing.word_for.Given as goal

abbrev pub invariant-loop-word : goal.invariant-loop-word
invariant-loop-word l = word_for l.x (map word_view (drop l.word-index l.words)) ≡ word_for l.fn.x (map word_view l.fn.words)
