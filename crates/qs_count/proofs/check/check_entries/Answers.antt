use Rattle.std.proofs.Common.{◌≡◌, List, map, subst}
use Rattle.std.proofs.lemmas.Result.{IfErr-weaker}
use Rattle.qs_base.specs.declared.function.FnId.{FnId}
use Rattle.qs_core.specs.UnitTrees.{unit_tree}
use Rattle.qs_triples.specs.TreeOf.{entry_tree, proofs_tree}
use Rattle.qs_triples.specs.declared.derivation.FunctionProof.{FunctionProof}
use Rattle.qs_triples.specs.declared.resource.Resource.TheVariants.{Calls}
use Rattle.qs_callgraph.specs.CallLists.{numbers}
use Rattle.qs_analyse.specs.Fillable.{entry_functions}
use Rattle.qs_certify.specs.Certification.{AreWrongFor}
use Rattle.qs_count.proofs.CheckLaws.{not_counted, faults_of_functions}
use Rattle.qs_count.proofs.check.check_entries.Goals as goal

pub returns-clause-told : goal.returns-clause-told
returns-clause-told c =
    let u = unit_tree c.args.unit.now in
    let proofs = proofs_tree c.args.proofs.now in
    let are = subst (λ (entries : List FunctionProof). numbers c.in_ok-functions.functions.items ≡ entry_functions (map entry_tree entries)) c.deref.ensures.value c.in_ok-functions.ensures in
    IfErr-weaker c.check_proofs.result _ _
    (λ fault wrong. faults_of_functions u c.args.unit.now.fits proofs c.requires.fillable c.requires.covered fault
    (not_counted u proofs c.in_ok-functions.functions.items are fault
    (subst (λ (fs : List FnId). AreWrongFor Calls u proofs (numbers fs) fault) c.deref-2.ensures.value wrong)))
    c.check_proofs.ensures.wrong
