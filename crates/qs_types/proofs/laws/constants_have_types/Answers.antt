use Rattle.qs_types.proofs.ConstantTypes.{constant_typed}
use Rattle.qs_types.proofs.laws.constants_have_types.Goals as goal

pub returns : goal.returns
returns c = constant_typed
