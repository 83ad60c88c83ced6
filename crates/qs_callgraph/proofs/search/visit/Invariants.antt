use Rattle.std.proofs.Common.{◌≡◌, ℕ, false, List, [], ◌∷◌}
use Rattle.qs_callgraph.specs.CallLists.{callees_in, flag, number_lists, numbers}
use Rattle.qs_callgraph.specs.Orders.{DepthFirst}
use Rattle.qs_callgraph.specs.Searches.{FinishesIn, HoldsIn, Keeps, all_steps_left, is_new, progress_of}
use Rattle.qs_callgraph.proofs.search.visit.Given as goal

abbrev pub invariant-loop-f : goal.invariant-loop-f
invariant-loop-f l = record {
  holds : HoldsIn (number_lists l.graph) l.has_spec l.search;
  root_begun : is_new (progress_of l.search.progress.items l.fn.root.0) ≡ false;
  kept : Keeps l.fn.search.progress.items l.search.progress.items;
  finds :
      (all : List ℕ) → FinishesIn (number_lists l.graph) l.has_spec l.search all
      → DepthFirst (callees_in (number_lists l.graph)) (flag l.has_spec) (numbers l.fn.search.order.items) (l.fn.root.0 ∷ []) all;
}

abbrev pub decreases-loop-f : goal.decreases-loop-f
decreases-loop-f l = all_steps_left (number_lists l.graph) l.search.progress.items
