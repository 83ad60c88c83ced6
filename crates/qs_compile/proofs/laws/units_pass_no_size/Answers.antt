use Rattle.qs_compile.proofs.CompiledLaws.{units_pass_no_size}
use Rattle.qs_compile.proofs.laws.units_pass_no_size.Goals as goal

pub returns : goal.returns
returns c = units_pass_no_size
