use Rattle.std.proofs.Common.{◌≡◌, ℕ, ⊎_elim, arith, subst, get_or}
use Rattle.std.specs.Int.{bit_at}
use Rattle.std.proofs.lemmas.Bool.{cases_eq}
use Rattle.std.proofs.lemmas.List.Elements.{Contains-get_or}
use Rattle.qs_alloc.specs.Registers.{is_busy}
use Rattle.qs_alloc.proofs.LiveLaws.{by_index}
use Rattle.qs_alloc.proofs.RegisterLaws.{or_left, or_right, or_split}
use Rattle.qs_alloc.proofs.registers.taken_at.Goals as goal

pub loop-p-preserved : goal.loop-p-preserved
loop-p-preserved c =
    let points = c.args.points.now in
    let at = c.loop-p.p-index in
    let i = c.loop-p.invariant in
    record {
      from = λ r e. ⊎_elim (λ o. i.from r o) (λ n. record { at = get_or points at 0; listed = Contains-get_or points at 0 c.loop-p-test.true; busy_there = n }) (or_split c.loop-p.taken _ r e);
      all = λ k r l b. ⊎_elim
          (λ (e : k ≡ at). or_right c.loop-p.taken _ r (subst (λ (j : ℕ). is_busy c.args.busy.now (get_or points j 0) r ≡ 1) e b))
          (λ (ne : k ≡ at → ⊥). or_left c.loop-p.taken _ r (i.all k r (omega arith) b))
          (cases_eq k at);
    }

pub returns : goal.returns
returns c = record {
  from = c.loop-p.invariant.from;
  all = λ p r d. by_index (λ q. is_busy c.args.busy.now q r ≡ 1 → bit_at c.loop-p.taken r ≡ 1) c.args.points.now (λ k l. c.loop-p.invariant.all k r (omega arith)) p d;
}
