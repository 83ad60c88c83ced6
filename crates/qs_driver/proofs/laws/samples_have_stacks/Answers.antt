use Rattle.qs_driver.proofs.SampleStacks.{samples_have_stacks}
use Rattle.qs_driver.proofs.laws.samples_have_stacks.Goals as goal

pub returns : goal.returns
returns c = samples_have_stacks
