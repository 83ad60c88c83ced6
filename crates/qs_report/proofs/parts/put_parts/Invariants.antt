use Rattle.std.proofs.Common.{flat_map, take}
use Rattle.qs_ports.specs.SinkView.{Appends}
use Rattle.qs_report.proofs.parts.put_parts.Given as goal

abbrev pub invariant-loop-part : goal.invariant-loop-part
invariant-loop-part g l = Appends (g.K.Sink.view l.fn.sink) (g.K.Sink.view l.sink) (flat_map (λ part. part.now) (take l.part-index l.parts))
