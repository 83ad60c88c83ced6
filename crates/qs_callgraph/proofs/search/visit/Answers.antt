use Rattle.std.proofs.Common.{◌<◌, ◌∙◌, ℕ, sym, ap, subst}
use Rattle.std.proofs.lemmas.List.{length-map}
use Rattle.qs_callgraph.specs.CallLists.{callees_in, flag, number_lists, numbers, numbers_in}
use Rattle.qs_callgraph.proofs.DepthLaws.{gone_back}
use Rattle.qs_callgraph.proofs.StepLaws.{root_begins}
use Rattle.qs_callgraph.proofs.search.visit.Goals as goal

pub loop-f-init : goal.loop-f-init
loop-f-init c =
    let r =
    root_begins (number_lists c.args.graph.now) c.args.has_spec.now c.args.search.now c.begin.new.search c.args.root.0 c.requires.holds c.requires.ended
    (subst (λ (n : ℕ). c.args.root.0 < n) (sym (length-map c.args.graph.now numbers_in)) c.requires.within) c.requires.free c.requires.new c.in_ok-begin.ensures in
    record { holds = r.holds; root_begun = r.root_begun; kept = r.kept; finds = r.finds }

pub returns : goal.returns
returns c =
    let ended = sym (ap numbers c.deref.ensures.value) ∙ c.in_default.ensures in
    record {
      holds = c.loop-f.invariant.holds;
      ended = ended;
      root_begun = c.loop-f.invariant.root_begun;
      kept = c.loop-f.invariant.kept;
      finds =
          c.loop-f.invariant.finds (numbers c.loop-f.search.order.items)
          (gone_back (callees_in (number_lists c.args.graph.now)) (flag c.args.has_spec.now) c.loop-f.search.progress.items (numbers c.loop-f.search.path.items)
          (numbers c.loop-f.search.order.items) ended);
    }
