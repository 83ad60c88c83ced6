use Rattle.std.proofs.Common.{◌≡◌, drop, map}
use Rattle.qs_prooftext_meaning.specs.Contexts.{word_view}
use Rattle.qs_prooftext_meaning.specs.Settings.{look_up}
use Rattle.qs_prooftext_meaning.proofs.context.find_variable.Given as goal

abbrev pub invariant-loop-row : goal.invariant-loop-row
invariant-loop-row l = look_up l.word (map word_view (drop l.row-index l.words)) ≡ look_up l.fn.word (map word_view l.fn.words)
