use Rattle.std.proofs.Common.{rules, ◌≡◌, ℕ, ◌<◌, ◌∙◌, Some, ⊎_elim, arith, sym, ap, get_or, true, length}
use Rattle.std.specs.Prelude.{slice_get}
use Rattle.std.proofs.lemmas.Bool.{cases_eq}
use Rattle.std.proofs.lemmas.List.Elements.{Contains-get_or}
use Rattle.std.proofs.lemmas.Option.{slice_get_read}
use Rattle.qs_tac.specs.declared.instruction.Instruction.{Instruction}
use Rattle.qs_tac.specs.TreeOf.{instruction_tree}
use Rattle.qs_tac.specs.Liveness.{is_call}
use Rattle.qs_alloc.proofs.RowLaws.{some_same}
use Rattle.qs_alloc.proofs.LiveLaws.{by_index}
use Rattle.qs_alloc.proofs.points.crosses.Goals as goal

pub bounds-code-p : goal.bounds-code-p
bounds-code-p c = c.requires.below.below _ (Contains-get_or c.args.live.now c.loop-p.p-index 0 c.loop-p-test.true)

pub returns-then-is_call : goal.returns-then-is_call
returns-then-is_call c =
    let p = get_or c.args.live.now c.loop-p.p-index 0 in
    let l : p < length c.args.code.now = c.requires.below.below p (Contains-get_or c.args.live.now c.loop-p.p-index 0 c.loop-p-test.true) in
    let here : slice_get c.args.code.now p ≡ Some c.index-code-p.result = search (slice_get_read, c.index-code-p.is) in (
      λ e. record { at = p; listed = Contains-get_or c.args.live.now c.loop-p.p-index 0 c.loop-p-test.true; instruction = c.index-code-p.result; here = here; call = sym c.is_call.ensures ∙ c.if-is_call.true },
      λ x. search rules,
    )

pub loop-p-preserved : goal.loop-p-preserved
loop-p-preserved c =
    let p = get_or c.args.live.now c.loop-p.p-index 0 in
    let l : p < length c.args.code.now = c.requires.below.below p (Contains-get_or c.args.live.now c.loop-p.p-index 0 c.loop-p-test.true) in
    let here : slice_get c.args.code.now p ≡ Some c.index-code-p.result = search (slice_get_read, c.index-code-p.is) in
    λ k i m at call. ⊎_elim
    (λ (e : k ≡ c.loop-p.p-index). absurd (cc (c.is_call.ensures, c.if-is_call.false, call, ap (λ (l : Instruction). is_call (instruction_tree l)) (some_same i c.index-code-p.result (sym at ∙ ap (λ (j : ℕ). slice_get c.args.code.now (get_or c.args.live.now j 0)) e ∙ here)))))
    (λ (ne : k ≡ c.loop-p.p-index → ⊥). c.loop-p.invariant k i (omega arith) at call)
    (cases_eq k c.loop-p.p-index)

pub returns : goal.returns
returns c = (
  λ e. absurd (cc (e)),
  λ x. absurd (by_index (λ q. (i : Instruction) → slice_get c.args.code.now q ≡ Some i → is_call (instruction_tree i) ≡ true → ⊥) c.args.live.now (λ k l i. c.loop-p.invariant k i (omega arith)) x.at x.listed x.instruction x.here x.call),
)
