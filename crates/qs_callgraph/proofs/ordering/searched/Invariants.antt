use Rattle.std.proofs.Common.{◌≡◌, ◌<◌, ℕ, [], false}
use Rattle.qs_callgraph.specs.CallLists.{callees_in, flag, number_lists, numbers}
use Rattle.qs_callgraph.specs.Orders.{DepthFirst}
use Rattle.qs_core.specs.CallGraph.{below}
use Rattle.qs_callgraph.specs.Searches.{HoldsIn, is_new, progress_of}
use Rattle.qs_callgraph.proofs.ordering.searched.Given as goal

abbrev pub invariant-loop-i : goal.invariant-loop-i
invariant-loop-i l = record {
  holds : HoldsIn (number_lists l.graph) l.has_spec l.search;
  ended : numbers l.search.path.items ≡ [];
  begun : (h : ℕ) → h < l.i → flag l.has_spec h ≡ false → is_new (progress_of l.search.progress.items h) ≡ false;
  finds : DepthFirst (callees_in (number_lists l.graph)) (flag l.has_spec) [] (below l.i) (numbers l.search.order.items);
}
