use Rattle.std.proofs.Common.{◌≡◌, ℕ, ◌-◌, suc, List, [], ◌∷◌, length, reverse, sym, ap, ◌∙◌, subst, arith}
use Rattle.std.proofs.lemmas.List.{reverse-append}
use Rattle.std.proofs.lemmas.Result.{err_from_is_err_and}
use Rattle.qs_core.specs.TreeOf.{core_stmt}
use Rattle.qs_entail.specs.View.{cert_tree}
use Rattle.qs_triples.specs.Derivations.{DerivationTree}
use Rattle.qs_triples.specs.Nodes.{HasParts, HasNoParts, HasCases, HasNoCases}
use Rattle.qs_assert.specs.Trees.{AssertionTree}
use Rattle.qs_triples.specs.Rules.{before_part, pre}
use Rattle.qs_triples.specs.Told.{FailsAs, Follows}
use Rattle.qs_triples.specs.TreeOf.{derivation_tree}
use Rattle.qs_triples.specs.Views.{posts_view, scope_view}
use Rattle.qs_triples.proofs.NodeLaws.{no_parts, sequence_follows, no_cases, parts_fail, switch_is, no_turns, step_fails, body_fails, turns_follow, sequence_of, loop_of, switch_of}
use Rattle.qs_triples.proofs.Answers.{follows_by}
use Rattle.qs_triples.proofs.WalkLaws.{turn_fails, parts_turn, parts_turn_fails}
use Rattle.qs_triples.proofs.body.+pre.Goals as goal

-- ---- sequences

pub pre-returns-in_err-parts-in-Sequence : goal.pre-returns-in_err-parts-in-Sequence
pre-returns-in_err-parts-in-Sequence t c =
    let p = err_from_is_err_and c.from_residual.result c.from_residual.ensures.1 in
    let e = ap derivation_tree c.in-Sequence.is ∙ sequence_of c.in-Sequence.ds in
    let n : c.len.result ≡ length c.in-Sequence.ds.items = omega (arith, c.len.ensures, c.in-Sequence.ds.ok.0) in
    rw (p.1, p.2)
    (subst (λ (z : DerivationTree). FailsAs c.in_err-parts-in-Sequence.field-0.0 (pre z (scope_view c.args.c) (core_stmt c.args.s.now) (posts_view c.args.q))) (sym e)
    (no_parts c.in_err-parts-in-Sequence.field-0.0 c.in-Sequence.ds.items (scope_view c.args.c) (core_stmt c.args.s.now) (posts_view c.args.q)
    (subst (λ (m : ℕ). HasNoParts c.in_err-parts-in-Sequence.field-0.0 (core_stmt c.args.s.now) m) n c.in_err-parts-in-Sequence.ensures)))

pub pre-returns-in_ok-parts-in-Sequence : goal.pre-returns-in_ok-parts-in-Sequence
pre-returns-in_ok-parts-in-Sequence t c =
    let e = ap derivation_tree c.in-Sequence.is ∙ sequence_of c.in-Sequence.ds in
    let n : c.len.result ≡ length c.in-Sequence.ds.items = omega (arith, c.len.ensures, c.in-Sequence.ds.ok.0) in
    subst (λ (z : DerivationTree). Follows c.sequence_pre.result (pre z (scope_view c.args.c) (core_stmt c.args.s.now) (posts_view c.args.q))) (sym e)
    (sequence_follows c.sequence_pre.result c.in-Sequence.ds.items c.in_ok-parts-in-Sequence.parts.now (scope_view c.args.c) (core_stmt c.args.s.now) (posts_view c.args.q)
    (subst (λ (m : ℕ). HasParts c.in_ok-parts-in-Sequence.parts.now (core_stmt c.args.s.now) m) n c.in_ok-parts-in-Sequence.ensures)
    (rw c.deref.ensures.value at c.sequence_pre.ensures))

-- ---- loops

pub pre-returns-in_err-turns-in-Loop : goal.pre-returns-in_err-turns-in-Loop
pre-returns-in_err-turns-in-Loop t c =
    let p = err_from_is_err_and c.from_residual-in_err-turns-in-Loop.result c.from_residual-in_err-turns-in-Loop.ensures.1 in
    let e = ap derivation_tree c.in-Loop.is ∙ loop_of c.in-Loop.invariant c.in-Loop.certificate c.in-Loop.body c.in-Loop.step in
    rw (p.1, p.2)
    (subst (λ (z : DerivationTree). FailsAs c.in_err-turns-in-Loop.field-0.0 (pre z (scope_view c.args.c) (core_stmt c.args.s.now) (posts_view c.args.q))) (sym e)
    (no_turns c.in_err-turns-in-Loop.field-0.0 c.in-Loop.invariant (cert_tree c.in-Loop.certificate) (derivation_tree c.in-Loop.body.value) (derivation_tree c.in-Loop.step.value) (scope_view c.args.c) (core_stmt c.args.s.now) (posts_view c.args.q) c.in_err-turns-in-Loop.ensures))

pub pre-returns-in_err-j-in-Loop : goal.pre-returns-in_err-j-in-Loop
pre-returns-in_err-j-in-Loop t c =
    let p = err_from_is_err_and c.from_residual-in_err-j-in-Loop.result c.from_residual-in_err-j-in-Loop.ensures.1 in
    let e = ap derivation_tree c.in-Loop.is ∙ loop_of c.in-Loop.invariant c.in-Loop.certificate c.in-Loop.body c.in-Loop.step in
    let k = rw (c.step_posts.ensures, c.deref-in-Loop.ensures) at c.pre-in-Loop.ensures in
    rw (p.1, p.2)
    (subst (λ (z : DerivationTree). FailsAs c.in_err-j-in-Loop.field-0.0 (pre z (scope_view c.args.c) (core_stmt c.args.s.now) (posts_view c.args.q))) (sym e)
    (step_fails c.in_err-j-in-Loop.field-0.0 c.in_ok-turns-in-Loop.turns c.in-Loop.invariant (cert_tree c.in-Loop.certificate) (derivation_tree c.in-Loop.body.value) (derivation_tree c.in-Loop.step.value) (scope_view c.args.c) (core_stmt c.args.s.now) (posts_view c.args.q)
    c.in_ok-turns-in-Loop.ensures (c.in_err-j-in-Loop.ensures _ k)))

pub pre-returns-in_err-p-in-Loop : goal.pre-returns-in_err-p-in-Loop
pre-returns-in_err-p-in-Loop t c =
    let p = err_from_is_err_and c.from_residual-in_err-p-in-Loop.result c.from_residual-in_err-p-in-Loop.ensures.1 in
    let e = ap derivation_tree c.in-Loop.is ∙ loop_of c.in-Loop.invariant c.in-Loop.certificate c.in-Loop.body c.in-Loop.step in
    let k = rw (c.step_posts.ensures, c.deref-in-Loop.ensures) at c.pre-in-Loop.ensures in
    let l = rw (c.body_posts.ensures, c.deref-in-Loop-2.ensures) at c.pre-in-Loop-2.ensures in
    rw (p.1, p.2)
    (subst (λ (z : DerivationTree). FailsAs c.in_err-p-in-Loop.field-0.0 (pre z (scope_view c.args.c) (core_stmt c.args.s.now) (posts_view c.args.q))) (sym e)
    (body_fails c.in_err-p-in-Loop.field-0.0 c.in_ok-turns-in-Loop.turns c.in-Loop.invariant (cert_tree c.in-Loop.certificate) (derivation_tree c.in-Loop.body.value) (derivation_tree c.in-Loop.step.value) (scope_view c.args.c) (core_stmt c.args.s.now) (posts_view c.args.q) c.in_ok-j-in-Loop.j
    c.in_ok-turns-in-Loop.ensures (c.in_ok-j-in-Loop.ensures _ k) (c.in_err-p-in-Loop.ensures _ l)))

pub pre-returns-in_ok-p-in-Loop : goal.pre-returns-in_ok-p-in-Loop
pre-returns-in_ok-p-in-Loop t c =
    let e = ap derivation_tree c.in-Loop.is ∙ loop_of c.in-Loop.invariant c.in-Loop.certificate c.in-Loop.body c.in-Loop.step in
    let k = rw (c.step_posts.ensures, c.deref-in-Loop.ensures) at c.pre-in-Loop.ensures in
    let l = rw (c.body_posts.ensures, c.deref-in-Loop-2.ensures) at c.pre-in-Loop-2.ensures in
    subst (λ (z : DerivationTree). Follows c.concluded.result (pre z (scope_view c.args.c) (core_stmt c.args.s.now) (posts_view c.args.q))) (sym e)
    (turns_follow c.concluded.result c.in_ok-turns-in-Loop.turns c.in-Loop.invariant (cert_tree c.in-Loop.certificate) (derivation_tree c.in-Loop.body.value) (derivation_tree c.in-Loop.step.value) (scope_view c.args.c) (core_stmt c.args.s.now) (posts_view c.args.q) c.in_ok-j-in-Loop.j c.in_ok-p-in-Loop.p
    c.in_ok-turns-in-Loop.ensures (c.in_ok-j-in-Loop.ensures _ k) (c.in_ok-p-in-Loop.ensures _ l) c.concluded.ensures)

-- ---- switches

pub pre-returns-in_err-cases-in-Switch : goal.pre-returns-in_err-cases-in-Switch
pre-returns-in_err-cases-in-Switch t c =
    let p = err_from_is_err_and c.from_residual-in_err-cases-in-Switch.result c.from_residual-in_err-cases-in-Switch.ensures.1 in
    let e = ap derivation_tree c.in-Switch.is ∙ switch_of c.in-Switch.ds in
    let n : c.len-in-Switch.result ≡ length c.in-Switch.ds.items = omega (arith, c.len-in-Switch.ensures, c.in-Switch.ds.ok.0) in
    rw (p.1, p.2)
    (subst (λ (z : DerivationTree). FailsAs c.in_err-cases-in-Switch.field-0.0 (pre z (scope_view c.args.c) (core_stmt c.args.s.now) (posts_view c.args.q))) (sym e)
    (no_cases c.in_err-cases-in-Switch.field-0.0 c.in-Switch.ds.items (scope_view c.args.c) (core_stmt c.args.s.now) (posts_view c.args.q)
    (subst (λ (m : ℕ). HasNoCases c.in_err-cases-in-Switch.field-0.0 (core_stmt c.args.s.now) m) n c.in_err-cases-in-Switch.ensures)))

pub pre-returns-in_err-before-in-Switch : goal.pre-returns-in_err-before-in-Switch
pre-returns-in_err-before-in-Switch t c =
    let p = err_from_is_err_and c.from_residual-in_err-before-in-Switch.result c.from_residual-in_err-before-in-Switch.ensures.1 in
    let e = ap derivation_tree c.in-Switch.is ∙ switch_of c.in-Switch.ds in
    let n : c.len-in-Switch.result ≡ length c.in-Switch.ds.items = omega (arith, c.len-in-Switch.ensures, c.in-Switch.ds.ok.0) in
    let h = subst (λ (m : ℕ). HasCases c.in_ok-cases-in-Switch.cases (core_stmt c.args.s.now) m) n c.in_ok-cases-in-Switch.ensures in
    rw (p.1, p.2)
    (subst (λ (z : DerivationTree). FailsAs c.in_err-before-in-Switch.field-0.0 (pre z (scope_view c.args.c) (core_stmt c.args.s.now) (posts_view c.args.q))) (sym e)
    (parts_fail c.in_err-before-in-Switch.field-0.0 c.in_ok-cases-in-Switch.cases c.in-Switch.ds.items (scope_view c.args.c) (core_stmt c.args.s.now) (posts_view c.args.q) h
    (rw (c.deref-in-Switch.ensures.value, c.switch_posts.ensures) at c.in_err-before-in-Switch.ensures)))

pub pre-returns-in_ok-before-in-Switch : goal.pre-returns-in_ok-before-in-Switch
pre-returns-in_ok-before-in-Switch t c =
    let e = ap derivation_tree c.in-Switch.is ∙ switch_of c.in-Switch.ds in
    let n : c.len-in-Switch.result ≡ length c.in-Switch.ds.items = omega (arith, c.len-in-Switch.ensures, c.in-Switch.ds.ok.0) in
    let h = subst (λ (m : ℕ). HasCases c.in_ok-cases-in-Switch.cases (core_stmt c.args.s.now) m) n c.in_ok-cases-in-Switch.ensures in
    let k = rw (c.deref-in-Switch.ensures.value, c.switch_posts.ensures) at c.in_ok-before-in-Switch.ensures in
    let is = switch_is c.in_ok-cases-in-Switch.cases c.in-Switch.ds.items (scope_view c.args.c) (core_stmt c.args.s.now) (posts_view c.args.q) (reverse c.in_ok-before-in-Switch.before.items) h k in
    follows_by c.switched.result _ _ (ap (λ (z : DerivationTree). pre z (scope_view c.args.c) (core_stmt c.args.s.now) (posts_view c.args.q)) e ∙ is)
    (rw c.deref-in-Switch-2.ensures.value at c.switched.ensures)

-- ---- parts of a sequence

pub sequence_pre-returns-in_err-next-2 : goal.sequence_pre-returns-in_err-next-2
sequence_pre-returns-in_err-next-2 t c =
    let p = err_from_is_err_and c.from_residual-in_err-next-2.result c.from_residual-in_err-next-2.ensures.1 in
    let e : c.loop-i.i ≡ suc (c.loop-i.i - 1) = omega arith in
    let k = rw c.with_next.ensures at c.pre.ensures in
    rw (p.1, p.2)
    (turn_fails c.in_err-next-2.field-0.0 c.args.ds.now c.args.ss.now (scope_view c.args.c) (posts_view c.args.q) (c.loop-i.i - 1) c.loop-i.i c.index-ds-i.result c.index-ss-i.result c.loop-i.next
    c.loop-i.invariant.same e (omega arith) c.index-ds-i.is c.index-ss-i.is c.loop-i.invariant.needed (c.in_err-next-2.ensures _ k))

-- ---- parts of a switch

pub parts_pre-returns-in_err-p : goal.parts_pre-returns-in_err-p
parts_pre-returns-in_err-p t c =
    let p = err_from_is_err_and c.from_residual.result c.from_residual.ensures.1 in
    let e : c.loop-i.i ≡ suc (c.loop-i.i - 1) = omega arith in
    let b : c.before_part.result.now ≡ before_part c.args.q.next.now (reverse c.deref.result.now) 0 = c.before_part.ensures in
    let k = rw (c.with_next.ensures, b, c.deref.ensures.value) at c.pre.ensures in
    rw (p.1, p.2)
    (parts_turn_fails c.in_err-p.field-0.0 c.args.ds.now c.args.ss.now (scope_view c.args.c) (posts_view c.args.q) (c.loop-i.i - 1) c.loop-i.i c.index-ds-i.result c.index-ss-i.result (reverse c.loop-i.before.items)
    c.loop-i.invariant.same e (omega arith) c.index-ds-i.is c.index-ss-i.is c.loop-i.invariant.needed (c.in_err-p.ensures _ k))

pub parts_pre-loop-i-preserved : goal.parts_pre-loop-i-preserved
parts_pre-loop-i-preserved t c =
    let e : c.loop-i.i ≡ suc (c.loop-i.i - 1) = omega arith in
    let b : c.before_part.result.now ≡ before_part c.args.q.next.now (reverse c.deref.result.now) 0 = c.before_part.ensures in
    let k = rw (c.with_next.ensures, b, c.deref.ensures.value) at c.pre.ensures in
    let turned = ap (λ (l : List AssertionTree). reverse l) c.in_ok-put.ensures ∙ reverse-append c.loop-i.before.items (c.in_ok-p.p ∷ []) in
    record {
      within = omega arith;
      same = c.loop-i.invariant.same;
      needed = λ rule.
          parts_turn c.args.ds.now c.args.ss.now (scope_view c.args.c) (posts_view c.args.q) (c.loop-i.i - 1) c.loop-i.i c.index-ds-i.result c.index-ss-i.result (reverse c.loop-i.before.items) c.in_ok-p.p
          e (omega arith) (omega arith) c.index-ds-i.is c.index-ss-i.is c.loop-i.invariant.needed (c.in_ok-p.ensures _ k) rule
          ∙ ap rule (sym turned);
    }
