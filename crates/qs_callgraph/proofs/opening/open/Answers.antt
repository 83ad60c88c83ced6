use Rattle.std.proofs.Common.{◌≡◌, List, ℕ, length, map, true, sym, ap, ◌∙◌, subst, arith}
use Rattle.std.specs.Prelude.{not}
use Rattle.std.proofs.lemmas.List.{length-map}
use Rattle.std.proofs.lemmas.Result.{IfOk-weaker}
use Rattle.qs_core.specs.TreeOf.{function_tree}
use Rattle.qs_core.specs.UnitTrees.{unit_tree}
use Rattle.qs_core.specs.CallGraph.{is_member}
use Rattle.qs_callgraph.specs.CallLists.{call_lists, number_lists, numbers_in, callees_in}
use Rattle.qs_callgraph.specs.Opens.{AreCallers}
use Rattle.qs_callgraph.proofs.OpenLaws.{callers_graph, tells_open}
use Rattle.qs_callgraph.proofs.UnitCalls.{length-call_lists, unit_graph}
use Rattle.qs_callgraph.proofs.opening.open.Goals as goal

pub callers_in-requires : goal.callers_in-requires
callers_in-requires c =
    let u = unit_tree c.args.unit.now in
    let e = ap number_lists c.deref.ensures.value ∙ c.in_ok-graph.ensures in
    let is = unit_graph u c.args.has_spec.now (c.requires ∙ sym (length-map c.args.unit.now.functions.items function_tree)) in
    let l = length-map c.deref.result.now numbers_in in
    let n = ap length e in
    λ f g m. let b = is.within f g (subst (λ (graph : List (List ℕ)). is_member g (callees_in graph f) ≡ true) e m) in omega (arith, b, l, n)

pub closed_ones-requires : goal.closed_ones-requires
closed_ones-requires c =
    let u = unit_tree c.args.unit.now in
    let e = ap number_lists c.deref.ensures.value ∙ c.in_ok-graph.ensures in
    let d = ap number_lists c.deref-2.ensures.value in
    let are : AreCallers (call_lists u) (number_lists c.deref-2.result.now) =
    subst (λ (graph : List (List ℕ)). AreCallers graph (number_lists c.deref-2.result.now)) e (subst (AreCallers (number_lists c.deref.result.now)) (sym d) c.in_ok-callers.ensures) in
    callers_graph (call_lists u) (number_lists c.deref-2.result.now) c.args.has_spec.now are
    (c.requires ∙ sym (length-map c.args.unit.now.functions.items function_tree) ∙ sym (length-call_lists u))

pub returns-clause-as_many : goal.returns-clause-as_many
returns-clause-as_many c =
    let u = unit_tree c.args.unit.now in
    let e = ap number_lists c.deref.ensures.value ∙ c.in_ok-graph.ensures in
    let d = ap number_lists c.deref-2.ensures.value in
    let many = c.in_ok-closed.ensures.as_many ∙ ap length d ∙ c.in_ok-callers.ensures.as_many ∙ ap length e ∙ length-call_lists u ∙ length-map c.args.unit.now.functions.items function_tree in
    IfOk-weaker c.others.result _ _ (λ flags is. ap length is ∙ length-map c.deref-3.result.now not ∙ ap length c.deref-3.ensures.value ∙ many) c.others.ensures

pub returns-clause-open_ones : goal.returns-clause-open_ones
returns-clause-open_ones c =
    let u = unit_tree c.args.unit.now in
    let e = ap number_lists c.deref.ensures.value ∙ c.in_ok-graph.ensures in
    let d = ap number_lists c.deref-2.ensures.value in
    let are : AreCallers (call_lists u) (number_lists c.deref-2.result.now) =
    subst (λ (graph : List (List ℕ)). AreCallers graph (number_lists c.deref-2.result.now)) e (subst (AreCallers (number_lists c.deref.result.now)) (sym d) c.in_ok-callers.ensures) in
    IfOk-weaker c.others.result _ _ (λ flags is test of. tells_open u c.args.unit.now.fits (number_lists c.deref-2.result.now) are c.args.has_spec.now c.in_ok-closed.closed.items c.in_ok-closed.ensures test of flags.items
    (is ∙ ap (map not) c.deref-3.ensures.value)) c.others.ensures
