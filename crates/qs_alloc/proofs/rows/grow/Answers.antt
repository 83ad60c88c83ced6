use Rattle.std.proofs.Common.{◌∙◌, ap, arith, length}
use Rattle.std.proofs.lemmas.List.{length_push}
use Rattle.qs_alloc.proofs.RowLaws.{grown_more}
use Rattle.qs_alloc.proofs.rows.grow.Goals as goal

pub loop-alloc-preserved : goal.loop-alloc-preserved
loop-alloc-preserved c =
    let i = c.loop-alloc.invariant in
    let e = ap length c.in_ok-push.ensures.items ∙ length_push _ _ in
    record {
      low = let l = i.low in omega arith;
      high = let l = i.low in omega arith;
      rows = grown_more _ _ _ _ c.in_ok-push.ensures.items c.new.ensures.items i.rows;
    }

pub returns : goal.returns
returns c =
    let i = c.loop-alloc.invariant in
    record {
      size = let l = i.low in let h = i.high in omega arith;
      rows = i.rows;
    }
