use Rattle.std.proofs.Common.{◌∙◌, sym, ap, subst, true, false, arith}
use Rattle.std.specs.Prelude.{Err}
use Rattle.std.proofs.lemmas.Result.{err_from_is_err_and}
use Rattle.qs_assert.specs.Trees.{not, natural, infinity}
use Rattle.qs_entail.proofs.Walks.{both_err, via_ok, via_of, split_known, split_err, split_of, drop_ok, drop_err, drop_of, says_failed, says_at_mark, node_onto, tried_failed, says_tried, each_goes_on, pair_goes_on}
use Rattle.qs_entail.specs.declared.fault.Rule.TheVariants as rules
use Rattle.qs_entail.specs.Faults.{part, branch, Guarded, guarded_of}
use Rattle.qs_entail.specs.Verdicts.{rest, fault}
use Rattle.qs_entail.specs.Pushing.{Known, with_polynomials, push}
use Rattle.qs_entail.specs.Extending.{with_fact}
use Rattle.qs_entail.specs.Checking.{part_fault, branch_fault}
use Rattle.qs_entail.specs.Facts.{added}
use Rattle.qs_entail.specs.View.{cert_tree, fact_tree, known_view}
use Rattle.qs_entail.specs.Walking.{place, Says}
use Rattle.qs_entail.proofs.walk.Walk.+check.Goals as goal

pub check_rest-returns-in_err-check_part-in-Via : goal.check_rest-returns-in_err-check_part-in-Via
check_rest-returns-in_err-check_part-in-Via t c =
    let p = err_from_is_err_and c.from_residual.result c.from_residual.ensures.1 in
    let h = rw (c.deref.ensures, c.view-middle.ensures) at c.in_err-check_part-in-Via.ensures in
    let e = ap cert_tree c.in-Via.is ∙ via_of c.in-Via.r c.in-Via.c c.in-Via.d in
    rw (p.1, p.2)
    (subst (λ z. Says (place c.args.self.now) (place c.check_part.new.self) (Err c.in_err-check_part-in-Via.field-0.0) (rest z c.args.defines.now (known_view c.args.self.now.known) c.args.p.now c.args.q.now)) (sym e)
    (both_err (place c.args.self.now) (place c.check_part.new.self) c.in_err-check_part-in-Via.field-0.0 _ _ h))

pub check_rest-returns-in_ok-check_part-in-Via : goal.check_rest-returns-in_ok-check_part-in-Via
check_rest-returns-in_ok-check_part-in-Via t c =
    let h = rw (c.deref.ensures, c.view-middle.ensures) at c.in_ok-check_part-in-Via.ensures in
    let k = rw (c.deref-in-Via.ensures, c.view-middle.ensures) at c.check_part-in-Via.ensures in
    let e = ap cert_tree c.in-Via.is ∙ via_of c.in-Via.r c.in-Via.c c.in-Via.d in
    subst (λ z. Says (place c.args.self.now) (place c.check_part-in-Via.new.self) c.check_part-in-Via.result (rest z c.args.defines.now (known_view c.args.self.now.known) c.args.p.now c.args.q.now)) (sym e)
    (via_ok (place c.args.self.now) (place c.check_part.new.self) (place c.check_part-in-Via.new.self) tt c.check_part-in-Via.result (part 0 (fault (cert_tree c.in-Via.c.value) c.args.defines.now (known_view c.args.self.now.known) c.args.p.now c.in-Via.r)) (λ k. part 1 (fault (cert_tree c.in-Via.d.value) c.args.defines.now k c.in-Via.r c.args.q.now)) h k)

pub check_rest-returns-in_ok-check_first-in-Split : goal.check_rest-returns-in_ok-check_first-in-Split
check_rest-returns-in_ok-check_first-in-Split t c =
    let h = rw (c.deref-in-Split.ensures, c.view-condition.ensures) at c.in_ok-check_first-in-Split.ensures in
    let k = rw (c.deref-in-Split-2.ensures, c.view-condition.ensures) at c.check_second.ensures in
    let e = ap cert_tree c.in-Split.is ∙ split_of c.in-Split.b c.in-Split.c c.in-Split.d in
    subst (λ z. Says (place c.args.self.now) (place c.check_second.new.self) c.check_second.result (rest z c.args.defines.now (known_view c.args.self.now.known) c.args.p.now c.args.q.now)) (sym e)
    (split_known (place c.args.self.now) (place c.check_first.new.self) (place c.check_second.new.self) tt c.check_second.result rules.Split (push c.in-Split.b (known_view c.args.self.now.known)) (λ k. push (not c.in-Split.b) k) (λ k. part 0 (fault (cert_tree c.in-Split.c.value) c.args.defines.now k (branch c.in-Split.b true c.args.p.now) (branch c.in-Split.b true c.args.q.now))) (λ k. part 1 (fault (cert_tree c.in-Split.d.value) c.args.defines.now k (branch c.in-Split.b false c.args.p.now) (branch c.in-Split.b false c.args.q.now))) h k)

pub check_rest-returns-in_err-check_first-in-Split : goal.check_rest-returns-in_err-check_first-in-Split
check_rest-returns-in_err-check_first-in-Split t c =
    let p = err_from_is_err_and c.from_residual-in_err-check_first-in-Split.result c.from_residual-in_err-check_first-in-Split.ensures.1 in
    let h = rw (c.deref-in-Split.ensures, c.view-condition.ensures) at c.in_err-check_first-in-Split.ensures in
    let e = ap cert_tree c.in-Split.is ∙ split_of c.in-Split.b c.in-Split.c c.in-Split.d in
    rw (p.1, p.2)
    (subst (λ z. Says (place c.args.self.now) (place c.check_first.new.self) (Err c.in_err-check_first-in-Split.field-0.0) (rest z c.args.defines.now (known_view c.args.self.now.known) c.args.p.now c.args.q.now)) (sym e)
    (split_err (place c.args.self.now) (place c.check_first.new.self) c.in_err-check_first-in-Split.field-0.0 rules.Split (push c.in-Split.b (known_view c.args.self.now.known)) (push (not c.in-Split.b) (known_view c.args.self.now.known)) (λ k. part 0 (fault (cert_tree c.in-Split.c.value) c.args.defines.now k (branch c.in-Split.b true c.args.p.now) (branch c.in-Split.b true c.args.q.now))) (λ k. part 1 (fault (cert_tree c.in-Split.d.value) c.args.defines.now k (branch c.in-Split.b false c.args.p.now) (branch c.in-Split.b false c.args.q.now))) h))

pub check_rest-returns-in_ok-check_contradiction-in-DropGuard : goal.check_rest-returns-in_ok-check_contradiction-in-DropGuard
check_rest-returns-in_ok-check_contradiction-in-DropGuard t c =
    let h = rw c.deref-in-DropGuard.ensures at c.in_ok-check_contradiction-in-DropGuard.ensures in
    let k = rw c.deref-in-DropGuard-2.ensures at c.check_body.ensures in
    let e = ap cert_tree c.in-DropGuard.is ∙ drop_of c.in-DropGuard.c c.in-DropGuard.d in
    subst (λ z. Says (place c.args.self.now) (place c.check_body.new.self) c.check_body.result (rest z c.args.defines.now (known_view c.args.self.now.known) c.args.p.now c.args.q.now)) (sym e)
    (drop_ok (place c.args.self.now) (place c.check_contradiction.new.self) (place c.check_body.new.self) tt c.check_body.result rules.DropGuard (guarded_of c.args.q.now) (λ (g : Guarded). push (not g.condition) (known_view c.args.self.now.known)) (λ k. part 0 (fault (cert_tree c.in-DropGuard.c.value) c.args.defines.now k (natural 0) infinity)) (λ (g : Guarded) (k : Known). part 1 (fault (cert_tree c.in-DropGuard.d.value) c.args.defines.now k c.args.p.now g.body)) h k)

pub check_rest-returns-in_err-check_contradiction-in-DropGuard : goal.check_rest-returns-in_err-check_contradiction-in-DropGuard
check_rest-returns-in_err-check_contradiction-in-DropGuard t c =
    let p = err_from_is_err_and c.from_residual-in_err-check_contradiction-in-DropGuard.result c.from_residual-in_err-check_contradiction-in-DropGuard.ensures.1 in
    let h = rw c.deref-in-DropGuard.ensures at c.in_err-check_contradiction-in-DropGuard.ensures in
    let e = ap cert_tree c.in-DropGuard.is ∙ drop_of c.in-DropGuard.c c.in-DropGuard.d in
    rw (p.1, p.2)
    (subst (λ z. Says (place c.args.self.now) (place c.check_contradiction.new.self) (Err c.in_err-check_contradiction-in-DropGuard.field-0.0) (rest z c.args.defines.now (known_view c.args.self.now.known) c.args.p.now c.args.q.now)) (sym e)
    (drop_err (place c.args.self.now) (place c.check_contradiction.new.self) c.in_err-check_contradiction-in-DropGuard.field-0.0 rules.DropGuard (guarded_of c.args.q.now) (λ (g : Guarded). push (not g.condition) (known_view c.args.self.now.known)) (λ k. part 0 (fault (cert_tree c.in-DropGuard.c.value) c.args.defines.now k (natural 0) infinity)) (λ (g : Guarded). part 1 (fault (cert_tree c.in-DropGuard.d.value) c.args.defines.now (known_view c.args.self.now.known) c.args.p.now g.body)) h))

-- a step of the node's rule gave nothing, or its part answers

pub check_first-returns-in_err-settle : goal.check_first-returns-in_err-settle
check_first-returns-in_err-settle t c =
    let p = err_from_is_err_and c.from_residual.result c.from_residual.ensures.1 in
    rw (p.1, p.2)
    (tried_failed (place c.args.self.now) (place c.tries_both.new.self) rules.Split c.tries_both.result c.in_err-settle.field-0.0 (push c.args.b.now (known_view c.args.self.now.known)) (push (not c.args.b.now) (known_view c.args.self.now.known)) (branch_fault c.args.b.now true c.args.part.now c.args.defines.now c.args.p.now c.args.q.now) c.in_err-settle.ensures c.tries_both.ensures.step c.tries_both.ensures.path)

pub check_first-returns : goal.check_first-returns
check_first-returns t c =
    says_tried (place c.args.self.now) (place c.tries_both.new.self) (place c.check_branch.new.self) rules.Split c.tries_both.result tt c.check_branch.result (push c.args.b.now) (push (not c.args.b.now) (known_view c.args.self.now.known)) (branch_fault c.args.b.now true c.args.part.now c.args.defines.now c.args.p.now c.args.q.now) c.in_ok-settle.ensures c.tries_both.ensures.step c.tries_both.ensures.back c.check_branch.ensures

pub check_fact-returns-in_err-mark : goal.check_fact-returns-in_err-mark
check_fact-returns-in_err-mark t c =
    let p = err_from_is_err_and c.from_residual.result c.from_residual.ensures.1 in
    let k = known_view c.args.self.now.known in
    rw (p.1, p.2)
    (subst (λ v. Says (place c.args.self.now) (place c.add.new.self) (Err c.in_err-mark.field-0.0) v) (node_onto rules.Fact (added (fact_tree c.args.fact.now) k) (λ ps. with_polynomials ps k) (part_fault 0 c.args.part.now c.args.defines.now c.args.p.now c.args.q.now))
    (says_failed (place c.args.self.now) (place c.add.new.self) rules.Fact c.add.result c.in_err-mark.field-0.0 (λ _. known_view c.add.new.self.known) (with_fact (fact_tree c.args.fact.now) k) (part_fault 0 c.args.part.now c.args.defines.now c.args.p.now c.args.q.now) c.in_err-mark.ensures c.add.ensures.step c.add.ensures.path))

pub check_fact-returns : goal.check_fact-returns
check_fact-returns t c =
    let k = known_view c.args.self.now.known in
    subst (λ v. Says (place c.args.self.now) (place c.check_until.new.self) c.check_until.result v) (node_onto rules.Fact (added (fact_tree c.args.fact.now) k) (λ ps. with_polynomials ps k) (part_fault 0 c.args.part.now c.args.defines.now c.args.p.now c.args.q.now))
    (says_at_mark (place c.args.self.now) (place c.add.new.self) (place c.check_until.new.self) rules.Fact c.add.result c.in_ok-mark.mark c.check_until.result (known_view c.add.new.self.known) (with_fact (fact_tree c.args.fact.now) k) (part_fault 0 c.args.part.now c.args.defines.now c.args.p.now c.args.q.now) c.in_ok-mark.ensures c.add.ensures.step c.add.ensures.back c.check_until.ensures)

pub check_each-loop-i-preserved : goal.check_each-loop-i-preserved
check_each-loop-i-preserved t c =
    let r = each_goes_on (place c.args.self.now) (place c.loop-i.self) (place c.check_part.new.self) tt c.args.parts.now c.loop-i.rest c.in-Some.others c.loop-i.i c.index-parts-i.result c.in-Some.member c.args.defines.now c.args.p.now _ c.loop-i.invariant.back (omega arith) c.index-parts-i.is c.in-Some.ensures c.in_ok-check_part.ensures c.loop-i.invariant.rest in
    record { back = r.0; rest = r.1 }

pub check_pairs-loop-i-preserved : goal.check_pairs-loop-i-preserved
check_pairs-loop-i-preserved t c =
    let r = pair_goes_on (place c.args.self.now) (place c.loop-i.self) (place c.check_part.new.self) tt c.args.parts.now c.loop-i.lefts c.loop-i.rights c.in-Some.other_lefts c.in-Some-split_first.other_rights c.loop-i.i c.index-parts-i.result c.in-Some.p c.in-Some-split_first.q c.args.defines.now _ c.loop-i.invariant.back (omega arith) c.index-parts-i.is c.in-Some.ensures c.in-Some-split_first.ensures c.in_ok-check_part.ensures c.loop-i.invariant.rest in
    record { back = r.0; rest = r.1 }
