use Rattle.std.proofs.Common.{◌≡◌}
use Rattle.qs_assert.specs.Trees.{assertions_of}
use Rattle.qs_entail.specs.Faults.{member}
use Rattle.qs_entail.proofs.parts.member_numbered.Given as goal

-- the member is as far behind the rest's first as is left
abbrev pub invariant-loop-left : goal.invariant-loop-left
invariant-loop-left l = member (assertions_of l.fn.members) l.number ≡ member (assertions_of l.rest) l.left

abbrev pub decreases-loop-left : goal.decreases-loop-left
decreases-loop-left l = l.left
