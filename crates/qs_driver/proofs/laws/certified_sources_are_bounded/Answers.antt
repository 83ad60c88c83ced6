use Rattle.qs_driver.proofs.PlainWordsLaws.{certified_are_bounded}
use Rattle.qs_driver.proofs.laws.certified_sources_are_bounded.Goals as goal

pub returns : goal.returns
returns c = certified_are_bounded
