use Rattle.std.proofs.Common.{List, map, subst}
use Rattle.std.proofs.lemmas.Result.{err_from_is_err_and}
use Rattle.qs_core.specs.UnitTrees.{unit_tree}
use Rattle.qs_triples.specs.Entries.{has_entry}
use Rattle.qs_triples.specs.TreeOf.{entry_tree, proofs_tree}
use Rattle.qs_triples.specs.declared.derivation.FunctionProof.{FunctionProof}
use Rattle.qs_callgraph.specs.CallLists.{numbers}
use Rattle.qs_callgraph.specs.Orders.{IsTrueCycle}
use Rattle.qs_callgraph.proofs.OrderLaws.{orders_exclude_cycles}
use Rattle.qs_analyse.specs.Additions.{AreAdditions}
use Rattle.qs_analyse.specs.Fillable.{entries_only}
use Rattle.qs_analyse.proofs.FillLaws.{filled_so, filling_so, derived_so}
use Rattle.qs_analyse.proofs.filling.fill.Goals as goal

pub returns-in_err-added-clause-cycle : goal.returns-in_err-added-clause-cycle
returns-in_err-added-clause-cycle c =
    let p = err_from_is_err_and c.from_residual.result c.from_residual.ensures.1 in
    rw (p.1, p.2) (subst (λ (entries : List FunctionProof). IsTrueCycle (unit_tree c.args.unit.now) (has_entry (entries_only (map entry_tree entries))) c.in_err-added.field-0.0) c.deref.ensures.value c.in_err-added.ensures.cycle)

pub returns-clause-filled : goal.returns-clause-filled
returns-clause-filled c =
    filled_so (unit_tree c.args.unit.now) c.args.unit.now.fits (proofs_tree c.args.proofs) c.requires c.in_ok-added.added
    (subst (λ (entries : List FunctionProof). AreAdditions (unit_tree c.args.unit.now) (entries_only (map entry_tree entries)) c.in_ok-added.added) c.deref.ensures.value c.in_ok-added.ensures.plan)
    (proofs_tree c.in_ok-extended.field-0) c.in_ok-extended.ensures

pub returns-clause-filling : goal.returns-clause-filling
returns-clause-filling c =
    filling_so (unit_tree c.args.unit.now) c.args.unit.now.fits (proofs_tree c.args.proofs) c.requires c.in_ok-added.added
    (subst (λ (entries : List FunctionProof). AreAdditions (unit_tree c.args.unit.now) (entries_only (map entry_tree entries)) c.in_ok-added.added) c.deref.ensures.value c.in_ok-added.ensures.plan)
    (proofs_tree c.in_ok-extended.field-0) c.in_ok-extended.ensures

pub returns-clause-derived : goal.returns-clause-derived
returns-clause-derived c =
    derived_so (unit_tree c.args.unit.now) c.args.unit.now.fits (proofs_tree c.args.proofs) c.requires c.in_ok-added.added
    (subst (λ (entries : List FunctionProof). AreAdditions (unit_tree c.args.unit.now) (entries_only (map entry_tree entries)) c.in_ok-added.added) c.deref.ensures.value c.in_ok-added.ensures.plan)
    (proofs_tree c.in_ok-extended.field-0) c.in_ok-extended.ensures

pub returns-clause-no_cycle : goal.returns-clause-no_cycle
returns-clause-no_cycle c =
    let plan = subst (λ (entries : List FunctionProof). AreAdditions (unit_tree c.args.unit.now) (entries_only (map entry_tree entries)) c.in_ok-added.added) c.deref.ensures.value c.in_ok-added.ensures.plan in
    λ fs cycle. orders_exclude_cycles (unit_tree c.args.unit.now) (has_entry (proofs_tree c.args.proofs)) (numbers c.in_ok-added.added.functions.items) fs plan.order cycle
