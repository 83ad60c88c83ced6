use Rattle.std.proofs.Common.{List, sym, ap, ◌∙◌}
use Rattle.std.proofs.lemmas.List.{take_all}
use Rattle.qs_base.specs.declared.function.FnId.{FnId}
use Rattle.qs_core.specs.CallGraph.{is_member}
use Rattle.qs_callgraph.specs.CallLists.{numbers}
use Rattle.qs_callgraph.proofs.StepLaws.{no_path}
use Rattle.qs_callgraph.proofs.path.path_from.Goals as goal

pub returns : goal.returns
returns c =
    no_path (numbers c.args.path.now) c.args.g.0 (numbers c.new.result.items) (ap numbers c.new.ensures.items)
    (sym (ap (λ (fs : List FnId). is_member c.args.g.0 (numbers fs)) (take_all c.loop-i.i c.args.path.now c.loop-i-test.false)) ∙ c.loop-i.invariant)
