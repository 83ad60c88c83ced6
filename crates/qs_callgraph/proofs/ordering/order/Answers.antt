use Rattle.std.proofs.Common.{List, ℕ, length, sym, ap, ◌∙◌, subst}
use Rattle.std.proofs.lemmas.List.{length-map}
use Rattle.std.proofs.lemmas.Result.{IfErr-weaker, IfOk-weaker}
use Rattle.qs_core.specs.TreeOf.{function_tree}
use Rattle.qs_core.specs.UnitTrees.{unit_tree}
use Rattle.qs_callgraph.specs.CallLists.{number_lists, numbers, numbers_in, IsGraph}
use Rattle.qs_callgraph.specs.Searches.{IsOrderIn, Ends}
use Rattle.qs_callgraph.proofs.OrderLaws.{unit_order, unit_depth_first, true_cycle}
use Rattle.qs_callgraph.proofs.UnitCalls.{unit_graph}
use Rattle.qs_callgraph.proofs.ordering.order.Goals as goal

pub searched-requires : goal.searched-requires
searched-requires c =
    subst (λ (graph : List (List ℕ)). IsGraph graph c.args.has_spec.now) (sym (ap number_lists c.deref.ensures.value ∙ c.in_ok-graph.ensures))
    (unit_graph (unit_tree c.args.unit.now) c.args.has_spec.now (c.requires ∙ sym (length-map c.args.unit.now.functions.items function_tree)))

pub returns-clause-order : goal.returns-clause-order
returns-clause-order c =
    IfOk-weaker c.searched.result _ _ (λ fs o. unit_order (unit_tree c.args.unit.now) c.args.has_spec.now (numbers fs.items)
    (subst (λ (graph : List (List ℕ)). IsOrderIn graph c.args.has_spec.now (numbers fs.items)) (ap number_lists c.deref.ensures.value ∙ c.in_ok-graph.ensures) o)) c.searched.ensures.order

pub returns-clause-depth_first : goal.returns-clause-depth_first
returns-clause-depth_first c =
    let graph = number_lists c.deref.result.now in
    IfOk-weaker c.searched.result _ _ (λ fs d. unit_depth_first (unit_tree c.args.unit.now) graph c.args.has_spec.now (length c.deref.result.now) (numbers fs.items)
    (ap number_lists c.deref.ensures.value ∙ c.in_ok-graph.ensures) (sym (length-map c.deref.result.now numbers_in)) d) c.searched.ensures.depth_first

pub returns-clause-cycle : goal.returns-clause-cycle
returns-clause-cycle c =
    IfErr-weaker c.searched.result _ _ (λ fault e. true_cycle (unit_tree c.args.unit.now) c.args.has_spec.now fault
    (subst (λ (graph : List (List ℕ)). Ends graph c.args.has_spec.now fault) (ap number_lists c.deref.ensures.value ∙ c.in_ok-graph.ensures) e)) c.searched.ensures.cycle
