use Rattle.std.proofs.Common.{◌≡◌, ◌≤◌, ◌+◌, ◌-◌, drop, length}
use Rattle.qs_lexer.specs.Literals.{elements_behind, text_with}
use Rattle.qs_lexer.proofs.LiteralElements.{text_after}
use Rattle.qs_lexer.proofs.literals.text_in.Given as goal

abbrev pub invariant-loop-at : goal.invariant-loop-at
invariant-loop-at l = (l.at ≤ length l.body + 1) × (text_after l.wide (elements_behind 0 (drop l.at l.body)) ≡ text_with (elements_behind 0 l.body))

abbrev pub decreases-loop-at : goal.decreases-loop-at
decreases-loop-at l = length l.body - l.at
