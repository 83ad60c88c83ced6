use Rattle.qs_driver_calls.proofs.PlainWords.{calls_in_plain_words}
use Rattle.qs_driver_calls.proofs.laws.calls_in_plain_words.Goals as goal

pub returns : goal.returns
returns c = calls_in_plain_words
