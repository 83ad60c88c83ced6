use Rattle.std.proofs.Common.{◌∙◌, sym, ap, take, arith}
use Rattle.qs_typing_findings.proofs.LatestPlaces.{left}
use Rattle.qs_typing_findings.proofs.scopes.Scopes.leave.Goals as goal

pub returns-clause-names : goal.returns-clause-names
returns-clause-names c =
    left c.loop-self.self.bindings.items c.args.self.now.bindings.items c.args.self.now.start c.args.start
    (ap (λ n. take n c.loop-self.self.bindings.items) (sym c.loop-self.invariant.start) ∙ c.loop-self.invariant.kept)
    (omega arith)
