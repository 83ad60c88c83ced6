-- The output of a run, kept in memory.
use Rattle.std.specs.Prelude.{true}
use Rattle.qs_ports.specs.SinkView.{SinkView}
use Rattle.qs_driver_session.specs.declared.kept_output.KeptOutput.{KeptOutput}

-- as a sink: it tells its bytes, and a failure is want of memory
abbrev pub kept_view : KeptOutput → SinkView
kept_view k =
    record { told = true; written = k.bytes.items; spare = 0; faults = k.faults; failed = k.failed }
