-- A line that is made in memory, as a sink.
use Rattle.std.specs.Prelude.{true}
use Rattle.qs_ports.specs.SinkView.{SinkView}
use Rattle.qs_report.specs.declared.taking.Taking.{Taking}

-- It tells its bytes; a failure is want of memory.
abbrev pub taking_view : Taking → SinkView
taking_view t = record { told = true; written = t.bytes.items; spare = 0; faults = t.faults; failed = t.failed }
