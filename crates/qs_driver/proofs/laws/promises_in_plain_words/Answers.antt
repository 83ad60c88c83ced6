use Rattle.qs_driver.proofs.PlainWordsLaws.{promises_in_plain_words}
use Rattle.qs_driver.proofs.laws.promises_in_plain_words.Goals as goal

pub returns : goal.returns
returns c = promises_in_plain_words
