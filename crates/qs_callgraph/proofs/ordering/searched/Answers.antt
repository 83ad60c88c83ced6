use Rattle.std.proofs.Common.{sym, arith}
use Rattle.std.proofs.lemmas.List.{length-map}
use Rattle.qs_callgraph.specs.CallLists.{number_lists, numbers_in}
use Rattle.qs_callgraph.proofs.StepLaws.{new_holds, none_found}
use Rattle.qs_callgraph.proofs.ordering.searched.Goals as goal

pub loop-i-init : goal.loop-i-init
loop-i-init c =
    let graph = number_lists c.args.graph.now in
    record {
      holds = new_holds graph c.args.has_spec.now _ c.in_ok-search.search (sym (length-map c.args.graph.now numbers_in)) c.in_ok-search.ensures;
      ended = c.in_ok-search.ensures.path;
      begun = λ h b free. absurd (omega (arith, b));
      finds = none_found graph c.args.has_spec.now c.in_ok-search.search c.in_ok-search.ensures.order;
    }
