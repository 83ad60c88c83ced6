use Rattle.std.proofs.Common.{◌++◌, length, reverse}
use Rattle.qs_assert.specs.Listing.{cond_nodes}
use Rattle.qs_entail.specs.Flattening.{flat}
use Rattle.qs_entail.proofs.FrontWalks.{Waits}
use Rattle.qs_entail.proofs.flattening.put_flat.Given as goal

-- the conditions so far, and those of what waits
abbrev pub invariant-loop-is_negated : goal.invariant-loop-is_negated
invariant-loop-is_negated l =
    Waits cond_nodes flat (l.initial.list.items ++ flat l.negated l.c) l.list.items (reverse l.pending.items) l.rest

abbrev pub decreases-loop-is_negated : goal.decreases-loop-is_negated
decreases-loop-is_negated l = length l.rest
