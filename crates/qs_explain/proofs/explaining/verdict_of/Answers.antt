-- The file is accepted.
use Rattle.std.proofs.Common.{rules}
use Rattle.qs_explain.specs.Explaining.{Agrees}
use Rattle.qs_explain.proofs.explaining.verdict_of.Goals as goal

pub returns-in-Ok : goal.returns-in-Ok
returns-in-Ok c = Agrees.accepted (c.in-Ok.field-0, c.in-Ok.ensures.certified) (search rules)
