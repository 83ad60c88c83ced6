use Rattle.std.proofs.Common.{ℕ, ap}
use Rattle.qs_machine.proofs.registers.Registers.at_start.Goals as goal

pub invariant_of-result : goal.invariant_of-result
invariant_of-result c = record { x0_is_0 = ap (λ (f : ℕ → ℕ). f 0) c.start_words-words.ensures }
