use Rattle.std.proofs.Common.{◌≡◌, ℕ, List, length, true, ap, ◌∙◌, subst, arith}
use Rattle.std.proofs.lemmas.List.{length-map}
use Rattle.qs_core.specs.CallGraph.{is_member}
use Rattle.qs_callgraph.specs.CallLists.{numbers, numbers_in, number_lists}
use Rattle.qs_callgraph.specs.Opens.{with_caller}
use Rattle.qs_callgraph.proofs.CallerLaws.{added_more, list_at}
use Rattle.qs_callgraph.proofs.MemberLaws.{written_back}
use Rattle.qs_callgraph.proofs.callers.callers_in.Goals as goal

pub add_caller-requires : goal.add_caller-requires
add_caller-requires c =
    let graph = number_lists c.args.graph.now in
    let here = ap numbers c.deref.ensures.value ∙ list_at c.args.graph.now c.loop-i.i c.index-graph-i.result c.loop-i-test.true c.index-graph-i.is in
    let many = c.loop-i.invariant.as_many in
    let now = length-map c.loop-i.callers.items numbers_in in
    let all = length-map c.args.graph.now numbers_in in
    let same = ap length c.deref_mut.ensures.value in
    λ g m. let b = c.requires c.loop-i.i g (subst (λ (xs : List ℕ). is_member g xs ≡ true) here m) in omega (arith, b, many, now, all, same)

pub loop-i-preserved : goal.loop-i-preserved
loop-i-preserved c =
    let graph = number_lists c.args.graph.now in
    let gs = numbers c.deref.result.now in
    let here = ap numbers c.deref.ensures.value ∙ list_at c.args.graph.now c.loop-i.i c.index-graph-i.result c.loop-i-test.true c.index-graph-i.is in
    let all = length-map c.args.graph.now numbers_in in
    added_more graph (number_lists c.loop-i.callers.items) _ c.loop-i.i gs c.loop-i.invariant here
    (λ g m. let b = c.requires c.loop-i.i g (subst (λ (xs : List ℕ). is_member g xs ≡ true) here m) in omega (arith, b, all))
    (ap number_lists (written_back c.loop-i.callers c.add_caller.new.callers c.deref_mut.result.now c.add_caller.auto.callers c.deref_mut.ensures.value)
    ∙ c.in_ok-add_caller.ensures ∙ ap (λ (f : ℕ). with_caller f gs (number_lists c.deref_mut.result.now)) c.in_ok-at.ensures
    ∙ ap (λ cs. with_caller c.loop-i.i gs (number_lists cs)) c.deref_mut.ensures.value)
