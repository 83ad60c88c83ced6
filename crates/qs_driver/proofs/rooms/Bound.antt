-- What `bound` came to.
use Rattle.std.proofs.Common.{◌++◌, Result, Ok, Err, refl}
use Rattle.qs_ports.specs.StoreView.{StoreView}
use Rattle.qs_ports.specs.SinkView.{SinkView}
use Rattle.qs_report.specs.Lines.{bound_line}
use Rattle.qs_driver_session.specs.Faults.{status_line, shown_of}
use Rattle.qs_driver_session.specs.Lines.{cost_lines}
use Rattle.qs_driver_steps.specs.Devices.{streams, views_of}
use Rattle.qs_driver_session.specs.Due.{EndsWith, IsWritten}
use Rattle.qs_driver_session.specs.Task.{Answers}
use Rattle.qs_driver_session.specs.declared.status.Status.{Status}
use Rattle.qs_driver_session.specs.declared.status.Status.TheVariants.{Done}
use Rattle.qs_driver_session.proofs.PieceLaws.{log_last, out_last}
use Rattle.qs_driver.specs.Made.{Makes}
use Rattle.qs_driver.specs.commands.Bound.{BoundWords, names_of, to_make, bound, due_of, IsDueToBound}
use Rattle.qs_driver.specs.commands.Bound as meant
use Rattle.qs_driver.specs.declared.made.Made.{Made}

-- what is due after the work on the store is due to the command
is_due : (b : BoundWords) (v w : StoreView) (work : Result Made Status) → Makes (to_make b) v w work → IsDueToBound b v w (due_of b work)
is_due b v w (Ok made) h = meant.bounded (record { image = made.image; bound = made.bound; is_made = h.is_made; untouched = h.untouched; is_due = refl })
is_due b v w (Err status) c = meant.refused status c refl

pub bound_put : (b : BoundWords) (made : Made) (l v w : SinkView) (result : Status) → EndsWith (cost_lines made.image.functions ++ bound_line (shown_of made.bound)) Done v w result → IsWritten (due_of b (Ok made)) (streams v l) (streams w l) result
bound_put b made l v w result h = out_last Done (cost_lines made.image.functions ++ bound_line (shown_of made.bound)) l v w result h

pub fault_put : (b : BoundWords) (status : Status) (o v w : SinkView) (result : Status) → EndsWith (status_line (names_of b) status) status v w result → IsWritten (due_of b (Err status)) (streams o v) (streams o w) result
fault_put b status o v w result h = log_last status (status_line (names_of b) status) o v w result h

pub bound_answers : (b : BoundWords) (s s' : StoreView) (o o' l l' : SinkView) (work : Result Made Status) (result : Status) → Makes (to_make b) s s' work → IsWritten (due_of b work) (streams o l) (streams o' l') result → Answers (bound b) (views_of s o l) (views_of s' o' l') result
bound_answers b s s' o o' l l' work result d h = record { due = due_of b work; is_due = is_due b s s' work d; written = h }
