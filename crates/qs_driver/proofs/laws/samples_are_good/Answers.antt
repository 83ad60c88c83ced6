use Rattle.qs_driver.proofs.SampleLaws.{samples_are_good}
use Rattle.qs_driver.proofs.laws.samples_are_good.Goals as goal

pub returns : goal.returns
returns c = samples_are_good
