use Rattle.std.proofs.Common.{◌≡◌, ◌≤◌, length, drop}
use Rattle.qs_compile.specs.Units.{set_of}
use Rattle.qs_compile.proofs.parameters.unsigned_set.Given as goal

abbrev pub invariant-loop-i : goal.invariant-loop-i
invariant-loop-i l = (l.set ≡ set_of (drop l.i l.types)) × (l.i ≤ length l.types)

abbrev pub decreases-loop-i : goal.decreases-loop-i
decreases-loop-i l = l.i
