use Rattle.std.proofs.Common.{flat_map, take}
use Rattle.qs_ports.specs.SinkView.{Appends}
use Rattle.qs_report.specs.Words.{spaced}
use Rattle.qs_report.proofs.derivation_faults.put_names.Given as goal

abbrev pub invariant-loop-name : goal.invariant-loop-name
invariant-loop-name g l = Appends (g.K.Sink.view l.fn.log) (g.K.Sink.view l.log) (flat_map spaced (take l.name-index l.names))
