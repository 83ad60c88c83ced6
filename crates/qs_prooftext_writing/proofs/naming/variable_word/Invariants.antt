use Rattle.std.proofs.Common.{◌≡◌, drop, map}
use Rattle.qs_prooftext_meaning.specs.Contexts.{word_view}
use Rattle.qs_prooftext_meaning.specs.Writing.{word_for}
use Rattle.qs_prooftext_writing.proofs.naming.variable_word.Given as goal

-- no row so far is of the variable
abbrev pub invariant-loop-row : goal.invariant-loop-row
invariant-loop-row l = word_for l.fn.x (map word_view (drop l.row-index l.row-items)) ≡ word_for l.fn.x (map word_view l.table.variables.now)
