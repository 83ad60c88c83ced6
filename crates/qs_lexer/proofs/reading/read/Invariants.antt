use Rattle.std.proofs.Common.{◌≤◌, ◌-◌, length}
use Rattle.qs_lexer.specs.Tokens.{ReadsTo}
use Rattle.qs_lexer.proofs.reading.read.Given as goal

abbrev pub invariant-loop-at : goal.invariant-loop-at
invariant-loop-at l = (l.at ≤ length l.text) × ReadsTo l.text l.list.items l.fresh l.at

abbrev pub decreases-loop-at : goal.decreases-loop-at
decreases-loop-at l = length l.text - l.at
