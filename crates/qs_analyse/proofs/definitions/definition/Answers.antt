use Rattle.std.proofs.Common.{◌≡◌, ◌<◌, ◌∙◌, ℕ, List, true, ap, subst}
use Rattle.std.proofs.lemmas.List.{length-map}
use Rattle.qs_core.specs.TreeOf.{function_tree}
use Rattle.qs_core.specs.UnitTrees.{unit_tree}
use Rattle.qs_core.specs.CallGraph.{is_member}
use Rattle.qs_callgraph.specs.CallLists.{numbers}
use Rattle.qs_callgraph.proofs.UnitCalls.{call_within}
use Rattle.qs_analyse.proofs.definitions.definition.Goals as goal

pub named_calls-requires : goal.named_calls-requires
named_calls-requires c =
    let callees = ap numbers c.deref.ensures.value ∙ c.in_ok-callees.ensures in
    λ g m. subst (λ (n : ℕ). g < n) (length-map c.args.unit.now.functions.items function_tree)
    (call_within (unit_tree c.args.unit.now) c.args.f.0 g (subst (λ (gs : List ℕ). is_member g gs ≡ true) callees m))
