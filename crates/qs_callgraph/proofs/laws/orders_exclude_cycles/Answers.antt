use Rattle.qs_callgraph.proofs.OrderLaws.{orders_exclude_cycles}
use Rattle.qs_callgraph.proofs.laws.orders_exclude_cycles.Goals as goal

pub returns : goal.returns
returns c = orders_exclude_cycles
