use Rattle.std.proofs.Common.{flat_map, take}
use Rattle.qs_ports.specs.SinkView.{Appends}
use Rattle.qs_driver_session.specs.Lines.{record_line}
use Rattle.qs_driver_session.proofs.lines.put_costs.Given as goal

abbrev pub invariant-loop-function : goal.invariant-loop-function
invariant-loop-function g l = Appends (g.K.Sink.view l.fn.out) (g.K.Sink.view l.out) (flat_map record_line (take l.function-index l.functions))
