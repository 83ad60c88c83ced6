use Rattle.qs_callgraph.proofs.OrderLaws.{orders_exclude_recursion}
use Rattle.qs_callgraph.proofs.laws.orders_exclude_recursion.Goals as goal

pub returns : goal.returns
returns c = orders_exclude_recursion
