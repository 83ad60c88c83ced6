use Rattle.qs_emit.proofs.SetUp.{code_is_short}
use Rattle.qs_emit.proofs.laws.code_is_short.Goals as goal

pub returns : goal.returns
returns c u ps first image emittable is = code_is_short u ps first image emittable is
