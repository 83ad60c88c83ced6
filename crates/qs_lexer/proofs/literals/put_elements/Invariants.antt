use Rattle.std.proofs.Common.{◌≡◌, ◌≤◌, ◌+◌, ◌-◌, ◌++◌, drop, length}
use Rattle.qs_lexer.specs.Literals.{byte_values, elements_behind}
use Rattle.qs_lexer.proofs.literals.put_elements.Given as goal

abbrev pub invariant-loop-at : goal.invariant-loop-at
invariant-loop-at l = (l.at ≤ length l.body + 1) × (l.into.items ++ byte_values (elements_behind 0 (drop l.at l.body)) ≡ l.fn.into.items ++ byte_values (elements_behind 0 l.body))

abbrev pub decreases-loop-at : goal.decreases-loop-at
decreases-loop-at l = length l.body - l.at
