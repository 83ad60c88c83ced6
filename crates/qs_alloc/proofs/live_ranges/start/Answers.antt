use Rattle.std.proofs.Common.{⊎_elim, arith}
use borrow.Author.Count.{below_more}
use Rattle.std.proofs.lemmas.List.Elements.{Contains-get_or}
use Rattle.qs_alloc.specs.LiveRanges.{Leads}
use Rattle.qs_alloc.proofs.RowLaws.{get_below}
use Rattle.qs_alloc.proofs.LiveLaws.{by_index, must_read, leads_still}
use Rattle.qs_alloc.proofs.live_ranges.start.Goals as goal

pub reach_before-requires-clause-here : goal.reach_before-requires-clause-here
reach_before-requires-clause-here c =
    let n = c.requires.readers.names _ (Contains-get_or c.args.readers.now c.loop-q.q-index 0 c.loop-q-test.true) in
    get_below c.args.code.now _ n.instruction n.here

pub loop-q-preserved : goal.loop-q-preserved
loop-q-preserved c =
    let r = c.in_ok-reach_before.ensures in
    let i = c.loop-q.invariant in
    let n = c.requires.readers.names _ (Contains-get_or c.args.readers.now c.loop-q.q-index 0 c.loop-q-test.true) in
    record {
      sees = r.sees;
      size = r.size;
      must = λ p d. ⊎_elim (λ x. i.must p x) (λ x. must_read c.args.code.now p _ c.args.t n x) (r.from p d);
      reads = below_more _ _ (λ k l. leads_still _ _ _ _ r.still (i.reads k l)) r.leads;
    }

pub returns : goal.returns
returns c = record {
  sees = c.loop-q.invariant.sees;
  size = c.loop-q.invariant.size;
  must = c.loop-q.invariant.must;
  reads = λ q n. by_index (Leads c.args.code.now c.loop-q.live.items) c.args.readers.now (λ k l. c.loop-q.invariant.reads k (omega arith)) q (c.requires.readers.named q n);
}
