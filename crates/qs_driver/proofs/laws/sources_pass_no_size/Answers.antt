use Rattle.qs_driver.proofs.SizesLaws.{sources_pass_no_size}
use Rattle.qs_driver.proofs.laws.sources_pass_no_size.Goals as goal

pub returns : goal.returns
returns c = sources_pass_no_size
