use Rattle.std.proofs.Common.{◌≡◌, Some, None, sym, ◌∙◌, arith}
use Rattle.std.specs.List.{slice_get}
use Rattle.qs_lower.specs.Leads.{lead_in}
use Rattle.qs_lower.proofs.LeadLaws.{follow_ends, follow_turns}
use Rattle.qs_lower.proofs.threads.follow.Goals as goal

pub returns-in-None : goal.returns-in-None
returns-in-None c =
    let none : lead_in (slice_get c.args.leads.now c.loop-left.at) ≡ None = cc in
    sym (follow_ends c.args.leads.now c.loop-left.left c.loop-left.at none) ∙ c.loop-left.invariant

pub returns-then-to-at : goal.returns-then-to-at
returns-then-to-at c =
    let lead : lead_in (slice_get c.args.leads.now c.loop-left.at) ≡ Some c.in-Some.to = cc in
    let same : c.in-Some.to ≡ c.loop-left.at = omega arith in
    sym (follow_turns c.args.leads.now c.loop-left.left c.loop-left.at c.in-Some.to lead same) ∙ c.loop-left.invariant
