use Rattle.qs_cli.specs.Reading.{calls_words_of}
use Rattle.qs_driver_calls.proofs.CallsLaws.{calls_answers}
use Rattle.qs_driver_calls.proofs.commands.calls.calls.Goals as goal

pub returns : goal.returns
returns g c = calls_answers (calls_words_of c.args.words.now) _ _ _ _ _ _ c.count_file-work.result _ (rw (c.as_str.ensures.value, c.as_str-2.ensures.value, c.deref.ensures.value) at c.count_file-work.ensures) c.report.ensures
