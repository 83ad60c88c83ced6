use Rattle.std.proofs.Common.{◌≡◌, length}
use Rattle.qs_lower.specs.Leads.{follow_leads}
use Rattle.qs_lower.proofs.threads.follow.Given as goal

abbrev pub decreases-loop-left : goal.decreases-loop-left
decreases-loop-left l = l.left

abbrev pub invariant-loop-left : goal.invariant-loop-left
invariant-loop-left l = follow_leads l.leads l.left l.at ≡ follow_leads l.leads (length l.leads) l.index
