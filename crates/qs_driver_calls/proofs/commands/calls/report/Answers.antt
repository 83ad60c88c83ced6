use Rattle.qs_cli.specs.Reading.{calls_words_of}
use Rattle.qs_driver_session.proofs.PieceLaws.{ends_with}
use Rattle.qs_driver_calls.proofs.CallsLaws.{bound_put, fault_put}
use Rattle.qs_driver_calls.proofs.commands.calls.report.Goals as goal

pub returns-in-Ok : goal.returns-in-Ok
returns-in-Ok g c = rw c.in-Ok.is (bound_put (calls_words_of c.args.words.now) c.in-Ok.bound _ _ _ _ (rw c.status_after.ensures (ends_with _ _ _ _ _ (rw c.shown_of.ensures at c.put_calls.ensures))))

pub returns-in-Err : goal.returns-in-Err
returns-in-Err g c = rw c.in-Err.is (fault_put (calls_words_of c.args.words.now) c.in-Err.status _ _ _ _ (rw c.names_of.ensures at c.refuse.ensures))
