use Rattle.std.proofs.Common.{⊎_elim, inr, arith, subst, sym}
use borrow.Author.Count.{below_more}
use Rattle.std.specs.Prelude.{Contains}
use Rattle.std.proofs.lemmas.List.Elements.{Contains-get_or}
use Rattle.qs_alloc.specs.Rows.{row}
use Rattle.qs_alloc.proofs.LiveLaws.{by_index}
use Rattle.qs_alloc.proofs.lists.list_one.Goals as goal

pub loop-p-preserved : goal.loop-p-preserved
loop-p-preserved c =
    let n = c.in_ok-note.ensures in
    let i = c.loop-p.invariant in
    record {
      count = let e = n.size in let j = i.count in let b = c.requires.below c.loop-p.p-index c.loop-p-test.true in omega arith;
      there = below_more _ _ (λ k l. n.keeps _ _ (i.there k l)) n.there;
      keeps = λ p u d. n.keeps p u (i.keeps p u d);
      from = λ p u d. ⊎_elim (λ x. i.from p u x) (λ x. inr (x.1, subst (Contains c.args.live.now) (sym x.0) (Contains-get_or c.args.live.now c.loop-p.p-index 0 c.loop-p-test.true))) (n.from p u d);
    }

pub returns : goal.returns
returns c =
    let i = c.loop-p.invariant in
    record {
      count = i.count;
      there = λ p d. by_index (λ q. Contains (row c.loop-p.needed.items q) c.args.t) c.args.live.now (λ k l. i.there k (omega arith)) p d;
      keeps = i.keeps;
      from = i.from;
    }
