use Rattle.std.proofs.Common.{◌≡◌, ◌∙◌, List, map, subst}
use Rattle.qs_base.specs.declared.function.FnId.{FnId}
use Rattle.qs_core.specs.UnitTrees.{unit_tree}
use Rattle.qs_triples.specs.TreeOf.{entry_tree, proofs_tree}
use Rattle.qs_triples.specs.declared.derivation.FunctionProof.{FunctionProof}
use Rattle.qs_callgraph.specs.CallLists.{numbers}
use Rattle.qs_analyse.specs.Fillable.{entry_functions}
use Rattle.qs_certify.specs.Certification.{AreRight}
use Rattle.qs_certify.proofs.CompletedLaws.{within_all, completes}
use Rattle.qs_certify.proofs.certification.completed.Goals as goal

pub overflow_sub-result : goal.overflow_sub-result
overflow_sub-result c =
    within_all (unit_tree c.args.unit.now) (proofs_tree c.args.given) c.in_ok-proofs.proofs c.in_ok-proofs.ensures.all c.in_ok-functions.functions.items
    (subst (λ (entries : List FunctionProof). numbers c.in_ok-functions.functions.items ≡ entry_functions (map entry_tree entries)) c.deref.ensures.value c.in_ok-functions.ensures)
    c.len-3.result c.len-2.result (c.len-3.ensures ∙ c.in_ok-functions.functions.ok.0) (c.len-2.ensures ∙ c.in_ok-proofs.proofs.functions.ok.0)

pub returns-clause-completed : goal.returns-clause-completed
returns-clause-completed c =
    completes (unit_tree c.args.unit.now) c.args.unit.now.fits (proofs_tree c.args.given) c.requires c.in_ok-proofs.proofs c.in_ok-proofs.ensures.all c.in_ok-functions.functions.items
    (subst (λ (entries : List FunctionProof). numbers c.in_ok-functions.functions.items ≡ entry_functions (map entry_tree entries)) c.deref.ensures.value c.in_ok-functions.ensures)
    (subst (λ (fs : List FnId). AreRight (unit_tree c.args.unit.now) (proofs_tree c.in_ok-proofs.proofs) (numbers fs)) c.deref-2.ensures.value c.in_ok-check_proofs.ensures.right)
    c.len.result c.len-3.result c.len-2.result
    (c.len.ensures ∙ c.in_ok-functions.functions.ok.0) (c.len-3.ensures ∙ c.in_ok-functions.functions.ok.0) (c.len-2.ensures ∙ c.in_ok-proofs.proofs.functions.ok.0)
