-- A command that reads one file and writes another, and puts nothing.
use Rattle.std.proofs.Common.{◌≢◌, ℕ, List, [], ◌∷◌, Result, Ok, Err, ap, inl, inr}
use Rattle.qs_ports.specs.SinkView.{SinkView}
use Rattle.qs_driver_steps.specs.Devices.{streams}
use Rattle.qs_driver_steps.specs.Reading.{IsOneOf}
use Rattle.qs_driver_session.specs.Due.{done_or_refused, EndsDone, IsWritten}
use Rattle.qs_driver_session.specs.Faults.{status_line}
use Rattle.qs_driver_session.specs.Names.{Names}
use Rattle.qs_driver_session.specs.declared.status.Status.{Status}
use Rattle.qs_driver_session.proofs.PieceLaws.{log_last}

-- the name of the file that is written isn't that of the one that is read
pub none_twice : (input out : List ℕ) → input ≢ out → IsOneOf out (input ∷ []) → ⊥
none_twice input out differ (inl e) = differ e
none_twice input out differ (inr never) = never

-- what is due was put
pub done_put : (names : Names) (work : Result Unit Status) (o v w : SinkView) (result : Status) → EndsDone names work v w result → IsWritten (done_or_refused names work) (streams o v) (streams o w) result
done_put names (Ok u) o v w result (e, same) = inl (e, ap (λ (x : SinkView). streams o x) same)
done_put names (Err status) o v w result h = log_last status (status_line names status) o v w result h
