use Rattle.std.proofs.Common.{◌≡◌, ℕ, ◌<◌, ◌∙◌, sym, subst, arith, length, List}
use Rattle.std.specs.Prelude.{Contains}
use Rattle.qs_alloc.specs.Rows.{row}
use Rattle.qs_alloc.specs.Registers.{PointsOf, Crosses, TakenBy, MarkedBy}
use Rattle.qs_alloc.proofs.RowLaws.{row_read}
use Rattle.qs_alloc.proofs.LiveLaws.{lists_row}
use Rattle.qs_alloc.proofs.RegisterLaws.{points_below, settled_more, settled_slot}
use Rattle.qs_alloc.proofs.registers.settle.Goals as goal

pub points_of-requires-clause-writers : goal.points_of-requires-clause-writers
points_of-requires-clause-writers c =
    let enough = c.requires.writers.enough in let here = c.requires.here in let l : c.args.t < length c.args.writers.now = omega (arith, enough, here) in
    lists_row _ _ _ _ _ _ c.requires.writers (row_read c.args.writers.now c.args.t c.index-writers-t.result l c.index-writers-t.is ∙ sym c.deref-2.ensures.value)

pub crosses-requires : goal.crosses-requires
crosses-requires c =
    let enough = c.requires.rows.enough in let here = c.requires.here in let l : c.args.t < length c.args.rows.now = omega (arith, enough, here) in
    let at : row c.args.rows.now c.args.t ≡ c.deref-3.result.now = row_read c.args.rows.now c.args.t c.index-rows-t.result l c.index-rows-t.is ∙ sym c.deref-3.ensures.value in
    record { below = record { below = λ p d. (c.requires.rows.each c.args.t).below p (subst (λ (xs : List ℕ). Contains xs p) (sym at) d) } }

pub taken_at-requires : goal.taken_at-requires
taken_at-requires c =
    let enough = c.requires.rows.enough in let here = c.requires.here in let l : c.args.t < length c.args.rows.now = omega (arith, enough, here) in
    let at : row c.args.rows.now c.args.t ≡ c.deref.result.now = row_read c.args.rows.now c.args.t c.index-rows-t.result l c.index-rows-t.is ∙ sym c.deref.ensures.value in
    points_below _ _ _ (row c.args.rows.now c.args.t) _ _ (c.requires.rows.each c.args.t).below
    (subst (λ (live : List ℕ). PointsOf c.args.parameters.now c.args.code.now c.args.t live c.deref-4.result.now) (sym at)
    (subst (PointsOf c.args.parameters.now c.args.code.now c.args.t c.deref.result.now) (sym c.deref-4.ensures.value) c.in_ok-points.ensures))
    c.requires.filled.size

pub mark-requires-clause-here : goal.mark-requires-clause-here
mark-requires-clause-here c =
    let enough = c.requires.rows.enough in let here = c.requires.here in let l : c.args.t < length c.args.rows.now = omega (arith, enough, here) in
    let at : row c.args.rows.now c.args.t ≡ c.deref.result.now = row_read c.args.rows.now c.args.t c.index-rows-t.result l c.index-rows-t.is ∙ sym c.deref.ensures.value in
    points_below _ _ _ (row c.args.rows.now c.args.t) _ _ (c.requires.rows.each c.args.t).below
    (subst (λ (live : List ℕ). PointsOf c.args.parameters.now c.args.code.now c.args.t live c.deref-in-Some.result.now) (sym at)
    (subst (PointsOf c.args.parameters.now c.args.code.now c.args.t c.deref.result.now) (sym c.deref-in-Some.ensures.value) c.in_ok-points.ensures))
    c.requires.filled.size

pub returns-in-None : goal.returns-in-None
returns-in-None c =
    let enough = c.requires.rows.enough in let here = c.requires.here in let l : c.args.t < length c.args.rows.now = omega (arith, enough, here) in
    let at : row c.args.rows.now c.args.t ≡ c.deref.result.now = row_read c.args.rows.now c.args.t c.index-rows-t.result l c.index-rows-t.is ∙ sym c.deref.ensures.value in
    let also : row c.args.rows.now c.args.t ≡ c.deref-3.result.now = row_read c.args.rows.now c.args.t c.index-rows-t.result l c.index-rows-t.is ∙ sym c.deref-3.ensures.value in
    settled_slot _ _ _ _ _ _ c.taken_at.result c.crosses.result c.in_ok-points.points.items
    (subst (λ (live : List ℕ). PointsOf c.args.parameters.now c.args.code.now c.args.t live c.in_ok-points.points.items) (sym at) c.in_ok-points.ensures)
    (λ e. subst (Crosses c.args.code.now) (sym also) (c.crosses.ensures.0 e))
    (subst (λ (points : List ℕ). TakenBy points c.args.busy.now c.taken_at.result) c.deref-4.ensures.value c.taken_at.ensures)
    c.in-None.ensures
    c.requires.filled

pub returns-in-Some : goal.returns-in-Some
returns-in-Some c =
    let enough = c.requires.rows.enough in let here = c.requires.here in let l : c.args.t < length c.args.rows.now = omega (arith, enough, here) in
    let at : row c.args.rows.now c.args.t ≡ c.deref.result.now = row_read c.args.rows.now c.args.t c.index-rows-t.result l c.index-rows-t.is ∙ sym c.deref.ensures.value in
    let also : row c.args.rows.now c.args.t ≡ c.deref-3.result.now = row_read c.args.rows.now c.args.t c.index-rows-t.result l c.index-rows-t.is ∙ sym c.deref-3.ensures.value in
    settled_more _ _ _ _ _ _ _ c.in-Some.r c.taken_at.result c.crosses.result c.in_ok-points.points.items
    c.requires.here
    (c.is_slot.ensures.slot c.if-not-is_slot.false)
    (subst (λ (live : List ℕ). PointsOf c.args.parameters.now c.args.code.now c.args.t live c.in_ok-points.points.items) (sym at) c.in_ok-points.ensures)
    (λ x. c.crosses.ensures.1 (subst (Crosses c.args.code.now) also x))
    (subst (λ (points : List ℕ). TakenBy points c.args.busy.now c.taken_at.result) c.deref-4.ensures.value c.taken_at.ensures)
    c.in-Some.ensures
    (subst (λ (points : List ℕ). MarkedBy points c.in-Some.r c.args.busy.now c.mark.new.busy) c.deref-in-Some.ensures.value c.mark.ensures)
    c.requires.filled
