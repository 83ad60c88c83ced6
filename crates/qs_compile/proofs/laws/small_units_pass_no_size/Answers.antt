use Rattle.qs_compile.proofs.SmallUnits.{small_units_pass_no_size}
use Rattle.qs_compile.proofs.laws.small_units_pass_no_size.Goals as goal

pub returns : goal.returns
returns c = small_units_pass_no_size
