use Rattle.std.proofs.Common.{◌∙◌, sym, ap}
use Rattle.qs_alloc.specs.Verification.{is_written}
use Rattle.qs_alloc.proofs.Tests.{among_on, among_here}
use Rattle.qs_alloc.proofs.points.does_read.Goals as goal

pub returns-then-is_written : goal.returns-then-is_written
returns-then-is_written c =
    sym (sym c.loop-k.invariant ∙ among_here _ c.loop-k.k c.args.t (sym (c.is_written.ensures ∙ ap (λ o. is_written o c.args.t) c.read_at.ensures) ∙ c.if-is_written.true))

pub loop-k-preserved : goal.loop-k-preserved
loop-k-preserved c =
    among_on _ c.loop-k.k c.args.t (sym (c.is_written.ensures ∙ ap (λ o. is_written o c.args.t) c.read_at.ensures) ∙ c.if-is_written.false) ∙ c.loop-k.invariant
