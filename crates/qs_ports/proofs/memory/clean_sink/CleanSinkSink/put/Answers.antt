use Rattle.std.proofs.Common.{rules, arith, false, refl}
use Rattle.std.proofs.lemmas.Grind.{common_steps}
use Rattle.qs_ports.proofs.Sinks.{takes}
use Rattle.qs_ports.proofs.memory.clean_sink.CleanSinkSink.put.Goals as goal

pub returns-clause-puts : goal.returns-clause-puts
returns-clause-puts c = takes _ _ _ _ _ (grind (arith, common_steps)) (search rules) (c.add.ensures.appends 0 false false) refl
