use Rattle.std.proofs.Common.{◌≡◌, ℕ, ◌<◌, get_or}
use Rattle.std.specs.Int.{bit_at}
use Rattle.qs_alloc.specs.Registers.{is_busy, Busy}
use Rattle.qs_alloc.proofs.registers.taken_at.Given as goal

abbrev pub invariant-loop-p : goal.invariant-loop-p
invariant-loop-p l = record {
  from : (r : ℕ) → bit_at l.taken r ≡ 1 → Busy l.points l.busy r;
  all : (k r : ℕ) → k < l.p-index → is_busy l.busy (get_or l.points k 0) r ≡ 1 → bit_at l.taken r ≡ 1;
}
