use Rattle.std.proofs.Common.{◌≡◌, ℕ, ◌<◌, ◌∙◌, sym, subst, inl, inr, ⊎_elim, arith, length, List, get_or}
use Rattle.std.specs.Prelude.{Contains}
use Rattle.std.proofs.lemmas.List.Elements.{Contains-get_or}
use Rattle.qs_alloc.specs.Rows.{row}
use Rattle.qs_alloc.proofs.RowLaws.{get_below, row_read}
use Rattle.qs_alloc.proofs.live_ranges.reach_before.Goals as goal

pub reach-requires-clause-here : goal.reach-requires-clause-here
reach-requires-clause-here c =
    let enough = c.requires.before.enough in let here = c.requires.here in let l : c.args.q < length c.args.before.now = omega (arith, enough, here) in
    let at : row c.args.before.now c.args.q ≡ c.deref.result.now = row_read c.args.before.now c.args.q _ l c.index-before-q.is ∙ sym c.deref.ensures.value in
    record { below = λ k m. let n = c.requires.before.names c.args.q (get_or c.deref.result.now k 0) (subst (λ (xs : List ℕ). Contains xs (get_or c.deref.result.now k 0)) (sym at) (Contains-get_or c.deref.result.now k 0 m)) in let b = get_below c.args.code.now (get_or c.deref.result.now k 0) n.instruction n.here in omega arith }

pub returns : goal.returns
returns c =
    let enough = c.requires.before.enough in let here = c.requires.here in let l : c.args.q < length c.args.before.now = omega (arith, enough, here) in
    let at : row c.args.before.now c.args.q ≡ c.deref.result.now = row_read c.args.before.now c.args.q _ l c.index-before-q.is ∙ sym c.deref.ensures.value in
    let r = c.in_ok-reach.ensures in
    record {
      sees = r.sees;
      size = r.size ∙ c.requires.size;
      longer = r.longer;
      kept = r.kept;
      still = r.still;
      leads = record { each = λ p n. r.all p (subst (λ (xs : List ℕ). Contains xs p) at (c.requires.before.named c.args.q p n)) };
      from = λ p d. ⊎_elim (λ x. inl x) (λ x. inr (c.requires.before.names c.args.q p (subst (λ (xs : List ℕ). Contains xs p) (sym at) x))) (r.from p d);
    }
