use Rattle.std.proofs.Common.{rules, arith}
use Rattle.std.proofs.lemmas.Grind.{common_steps}
use Rattle.qs_ports.proofs.Sinks.{takes}
use Rattle.qs_ports.proofs.memory.mem_sink.MemSinkSink.put.Goals as goal

pub returns-clause-puts : goal.returns-clause-puts
returns-clause-puts c = takes _ _ _ _ _ (grind (arith, common_steps)) (grind arith) (c.add.ensures.appends c.args.self.now.faults c.args.self.now.failed c.contains-self.result) (search rules)
