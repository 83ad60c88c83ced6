use Rattle.std.proofs.Common.{arith}
use Rattle.qs_typing_findings.proofs.LatestPlaces.{entered}
use Rattle.qs_typing_findings.proofs.scopes.Scopes.enter.Goals as goal

pub returns-clause-outer : goal.returns-clause-outer
returns-clause-outer c = entered c.args.self.now.bindings.items c.args.self.now.start c.len-self.result (omega arith)
