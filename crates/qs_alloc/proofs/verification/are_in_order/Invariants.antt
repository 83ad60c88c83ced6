use Rattle.std.proofs.Common.{◌≡◌, drop}
use Rattle.qs_alloc.specs.Verification.{are_in_order}
use Rattle.qs_alloc.proofs.verification.are_in_order.Given as goal

abbrev pub invariant-loop-slot : goal.invariant-loop-slot
invariant-loop-slot l = are_in_order l.slot (drop l.slot l.places) ≡ are_in_order 0 l.places
