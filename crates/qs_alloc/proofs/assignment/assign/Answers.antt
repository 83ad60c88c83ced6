use Rattle.std.proofs.Common.{sym, subst}
use Rattle.qs_tac.specs.Places.{keep_values}
use Rattle.qs_alloc.specs.Rows.{RowsBelow}
use Rattle.qs_alloc.proofs.PackLaws.{packed_from, rows_below}
use Rattle.qs_alloc.proofs.assignment.assign.Goals as goal

pub turned-requires : goal.turned-requires
turned-requires c = subst (RowsBelow _) (sym c.deref-4.ensures.value) (rows_below _ _ _ c.in_ok-rows.ensures)

pub returns-clause-packed : goal.returns-clause-packed
returns-clause-packed c =
    packed_from c.args.f.now _ _ _ _ _ _ _ _ _ c.as_slice-code.ensures.value c.deref.ensures.value c.in_ok-rows.ensures c.deref-2.ensures.value c.in_ok-at.ensures
    c.deref-4.ensures.value c.in_ok-turned.ensures c.deref-3.ensures.value c.in_ok-numbered.ensures

pub returns-clause-accepted : goal.returns-clause-accepted
returns-clause-accepted c =
    keep_values
    (packed_from c.args.f.now _ _ _ _ _ _ _ _ _ c.as_slice-code.ensures.value c.deref.ensures.value c.in_ok-rows.ensures c.deref-2.ensures.value c.in_ok-at.ensures
    c.deref-4.ensures.value c.in_ok-turned.ensures c.deref-3.ensures.value c.in_ok-numbered.ensures).keep_values
