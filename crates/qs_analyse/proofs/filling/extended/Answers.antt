use Rattle.std.proofs.Common.{◌≡◌, ◌<◌, ◌∙◌, ℕ, List, true, sym, ap, subst}
use Rattle.std.proofs.lemmas.Bool.{and_parts}
use Rattle.std.proofs.lemmas.List.{length-map}
use Rattle.qs_core.specs.TreeOf.{function_tree}
use Rattle.qs_core.specs.CallGraph.{is_member}
use Rattle.qs_callgraph.specs.CallLists.{flag, numbers}
use Rattle.qs_callgraph.proofs.MemberLaws.{member-filter}
use Rattle.qs_analyse.proofs.filling.extended.Goals as goal

pub definitions-requires : goal.definitions-requires
definitions-requires c =
    let is_open = flag c.args.added.now.is_open.items in
    let functions = numbers c.args.added.now.functions.items in
    let opened = ap numbers c.deref.ensures.value ∙ c.requires.opened in
    λ f m. subst (λ (n : ℕ). f < n) (length-map c.args.unit.now.functions.items function_tree)
    (c.requires.order.known f (and_parts (is_open f) (is_member f functions) (sym (member-filter is_open f functions) ∙ subst (λ (fs : List ℕ). is_member f fs ≡ true) opened m)).1)
