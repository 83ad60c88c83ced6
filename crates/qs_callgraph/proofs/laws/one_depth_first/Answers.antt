use Rattle.qs_callgraph.proofs.DepthLaws.{one_depth_first}
use Rattle.qs_callgraph.proofs.laws.one_depth_first.Goals as goal

pub returns : goal.returns
returns c = one_depth_first
