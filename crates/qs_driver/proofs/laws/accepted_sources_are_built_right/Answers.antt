use Rattle.qs_driver.proofs.HeadlineLaws.{headline}
use Rattle.qs_driver.proofs.laws.accepted_sources_are_built_right.Goals as goal

pub returns : goal.returns
returns c = headline
