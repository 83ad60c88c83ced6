use Rattle.std.proofs.Common.{length, reverse}
use Rattle.qs_assert.specs.Listing.{assertion_nodes}
use Rattle.qs_entail.specs.Faults.{branch}
use Rattle.qs_entail.proofs.BranchingLaws.{result}
use Rattle.qs_entail.proofs.FrontWalks.{Waits}
use Rattle.qs_entail.proofs.branches.branch.Given as goal

-- the nodes so far, and those of the trees that wait
abbrev pub invariant-loop-is_kept : goal.invariant-loop-is_kept
invariant-loop-is_kept l =
    Waits assertion_nodes (result l.b l.first) (assertion_nodes (branch l.b l.first l.a)) l.nodes.items (reverse l.pending.items) l.rest

abbrev pub decreases-loop-is_kept : goal.decreases-loop-is_kept
decreases-loop-is_kept l = length l.rest
