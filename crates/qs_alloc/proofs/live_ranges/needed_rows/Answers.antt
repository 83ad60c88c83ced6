use Rattle.std.proofs.Common.{ℕ, ◌≡◌, ◌<◌, ◌≤◌, ◌+◌, ◌∙◌, sym, ap, subst, arith, length, ⊎_elim}
use borrow.Author.Count.{below_more}
use Rattle.std.proofs.lemmas.List.{length_push}
use Rattle.qs_alloc.specs.Rows.{row}
use Rattle.qs_alloc.specs.LiveRanges.{LiveAfter}
use Rattle.qs_alloc.proofs.Tests.{low_or_high}
use Rattle.qs_alloc.proofs.LiveLaws.{lists_row, live_nowhere}
use Rattle.qs_alloc.proofs.RowLaws.{row_read, row_push_old, row_push_new}
use Rattle.qs_alloc.proofs.live_ranges.needed_rows.Goals as goal

pub needed_after-requires-clause-readers : goal.needed_after-requires-clause-readers
needed_after-requires-clause-readers c =
    let r = c.in_ok-readers.ensures in
    let l : c.loop-t.t < length c.in_ok-readers.readers.items = omega arith in
    lists_row _ _ _ _ _ _ r (row_read c.in_ok-readers.readers.items c.loop-t.t c.index.result.now l c.index.ensures ∙ sym c.deref-in-loop-t.ensures.value)

pub loop-t-preserved : goal.loop-t-preserved
loop-t-preserved c =
    let i = c.loop-t.invariant in
    record {
      size = omega arith;
      fresh = c.in_ok-needed_after.ensures.stamps;
      count = ap length c.in_ok-push.ensures.items ∙ length_push _ _ ∙ ap (λ (n : ℕ). n + 1) i.count;
      each = below_more _ _
          (λ u l. subst (LiveAfter c.args.code.now u) (sym (ap (λ rows. row rows u) c.in_ok-push.ensures.items ∙ row_push_old _ _ u (omega arith))) (i.each u l))
          (subst (LiveAfter c.args.code.now c.loop-t.t) (sym (ap (λ rows. row rows c.loop-t.t) c.in_ok-push.ensures.items ∙ row_push_new _ _ c.loop-t.t i.count)) c.in_ok-needed_after.ensures.live);
    }

pub returns : goal.returns
returns c =
    let i = c.loop-t.invariant in
    let r = c.in_ok-readers.ensures in
    let n : length c.loop-t.rows.items ≡ length c.in_ok-readers.readers.items = omega arith in
    let enough = r.enough in
    record {
      enough = omega (arith, n, enough);
      each = λ t. ⊎_elim
          (λ (l : t < length c.loop-t.rows.items). i.each t (omega (arith, l)))
          (λ (l : length c.loop-t.rows.items ≤ t). live_nowhere c.args.code.now c.args.temporaries t c.in_ok-readers.readers.items c.loop-t.rows.items r n l)
          (low_or_high t (length c.loop-t.rows.items));
    }
