-- How a count comes to be put, or the line of the fault.
use Rattle.std.proofs.Common.{Ok, Err}
use Rattle.qs_ports.specs.SinkView.{SinkView}
use Rattle.qs_report.specs.Lines.{count_line}
use Rattle.qs_report.specs.declared.fault_texts.Count.{Count}
use Rattle.qs_driver_session.specs.Names.{Names}
use Rattle.qs_driver_session.specs.Faults.{status_line}
use Rattle.qs_driver_steps.specs.Devices.{streams}
use Rattle.qs_driver_session.specs.Due.{EndsWith, IsWritten}
use Rattle.qs_driver_session.specs.Counts.{counted_or_refused}
use Rattle.qs_driver_session.specs.declared.status.Status.{Status}
use Rattle.qs_driver_session.specs.declared.status.Status.TheVariants.{Done}
use Rattle.qs_driver_session.proofs.PieceLaws.{log_last, out_last}

pub count_put : (names : Names) (count : Count) (l v w : SinkView) (result : Status) → EndsWith (count_line count) Done v w result → IsWritten (counted_or_refused names (Ok count)) (streams v l) (streams w l) result
count_put names count l v w result h = out_last Done (count_line count) l v w result h

pub fault_put : (names : Names) (status : Status) (o v w : SinkView) (result : Status) → EndsWith (status_line names status) status v w result → IsWritten (counted_or_refused names (Err status)) (streams o v) (streams o w) result
fault_put names status o v w result h = log_last status (status_line names status) o v w result h
