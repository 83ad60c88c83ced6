use Rattle.std.proofs.Common.{◌≡◌, ◌<◌, ◌∙◌, sym, subst, ⊎_elim, arith, length, get_or}
use borrow.Author.Count.{below_more}
use Rattle.qs_alloc.specs.LiveRanges.{Passes}
use Rattle.qs_alloc.proofs.LiveLaws.{any_default, by_index, must_on, leads_still, passes_still}
use Rattle.qs_alloc.proofs.live_ranges.spread.Goals as goal

pub pass-requires-clause-here : goal.pass-requires-clause-here
pass-requires-clause-here c =
    let l : c.loop-next.next < length c.loop-next.live.items = omega arith in
    let b = c.loop-next.invariant.started.sees.below c.index.result.now (c.loop-next.next, l, sym c.index.ensures) in
    omega arith

pub loop-next-preserved : goal.loop-next-preserved
loop-next-preserved c =
    let i = c.loop-next.invariant in
    let r = c.in_ok-pass.ensures in
    let l : c.loop-next.next < length c.loop-next.live.items = omega arith in
    let q = c.index.result.now in
    let now = c.pass.new.live.items in
    let at_next : q ≡ get_or now c.loop-next.next 0 = c.index.ensures ∙ any_default c.loop-next.live.items c.loop-next.next q 0 l ∙ sym (r.kept c.loop-next.next l) in
    record {
      started = record {
        sees = r.sees;
        size = r.size;
        must = λ p d. ⊎_elim (λ x. i.started.must p x) (λ x. must_on c.args.code.now p q c.args.t x.instruction x.here x.other x.leads (i.started.must q (c.loop-next.next, l, sym c.index.ensures))) (r.from p d);
        reads = λ p n. leads_still _ _ _ _ r.still (i.started.reads p n);
      };
      most = omega arith;
      passes = below_more _ _
          (λ k m. subst (Passes c.args.code.now c.args.t now) (sym (r.kept k (omega arith))) (passes_still _ _ _ _ _ r.still (i.passes k m)))
          (subst (Passes c.args.code.now c.args.t now) at_next r.passes);
    }

pub returns : goal.returns
returns c = record {
  started = c.loop-next.invariant.started;
  passes = λ q d. by_index (Passes c.args.code.now c.args.t c.loop-next.live.items) c.loop-next.live.items (λ k l. c.loop-next.invariant.passes k (omega arith)) q d;
}
