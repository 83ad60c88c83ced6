use Rattle.std.proofs.Common.{flat_map, take}
use Rattle.qs_ports.specs.SinkView.{Appends}
use Rattle.qs_report.specs.Words.{step_text}
use Rattle.qs_report.proofs.derivation_faults.put_steps.Given as goal

abbrev pub invariant-loop-part : goal.invariant-loop-part
invariant-loop-part g l = Appends (g.K.Sink.view l.fn.log) (g.K.Sink.view l.log) (flat_map step_text (take l.part-index l.steps))
