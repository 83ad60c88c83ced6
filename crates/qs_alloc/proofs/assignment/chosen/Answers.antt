use Rattle.std.proofs.Common.{◌≡◌, ℕ, ◌+◌, ◌∙◌, refl, sym, ap, subst, arith, length}
use Rattle.qs_alloc.specs.declared.rows.Side.TheVariants.{Written}
use Rattle.qs_alloc.specs.Rows.{RowsOf}
use Rattle.qs_alloc.specs.LiveRanges.{NeededRows}
use Rattle.qs_alloc.specs.Registers.{Chosen}
use Rattle.qs_alloc.proofs.OwnSlots.{slots_length}
use Rattle.qs_alloc.proofs.RegisterLaws.{filled_start}
use Rattle.qs_alloc.proofs.PackLaws.{take_front}
use Rattle.qs_alloc.proofs.assignment.chosen.Goals as goal

pub fill-requires-clause-rows : goal.fill-requires-clause-rows
fill-requires-clause-rows c =
    let size : length c.deref_mut.result.now ≡ c.args.temporaries =
    ap length c.deref_mut.ensures.value ∙ (ap length c.in_ok-at.ensures ∙ slots_length 0 c.args.temporaries) in
    subst (λ (n : ℕ). NeededRows c.args.code.now n c.args.rows.now) (sym size) c.requires.rows

pub fill-requires-clause-writers : goal.fill-requires-clause-writers
fill-requires-clause-writers c =
    let size : length c.deref_mut.result.now ≡ c.args.temporaries =
    ap length c.deref_mut.ensures.value ∙ (ap length c.in_ok-at.ensures ∙ slots_length 0 c.args.temporaries) in
    subst (λ (n : ℕ). RowsOf Written c.args.code.now n c.deref.result.now) (sym size)
    (subst (RowsOf Written c.args.code.now c.args.temporaries) (sym c.deref.ensures.value) c.in_ok-writers.ensures)

pub fill-requires-clause-filled : goal.fill-requires-clause-filled
fill-requires-clause-filled c =
    filled_start c.args.parameters.now c.args.code.now c.args.rows.now c.args.temporaries (length c.args.code.now + 1) _ _ _ _ c.deref_mut.ensures.value
    c.in_ok-at.ensures c.deref_mut-2.ensures.value (c.in_ok-busy.ensures.items_if_clones_equal (λ y h. h)) refl

pub returns : goal.returns
returns c =
    let f = c.in_ok-fill.ensures in
    let a : length c.in_ok-at.at.items ≡ c.args.temporaries = ap length c.in_ok-at.ensures ∙ slots_length 0 c.args.temporaries in
    let s = f.further.size in
    let e : length c.fill.new.at ≡ c.in_ok-at.at.len = omega arith in
    subst (Chosen c.args.parameters.now c.args.code.now c.args.temporaries c.args.rows.now) (sym (take_front c.fill.new.at _ c.in_ok-at.at.len e))
    (record {
      size = omega arith;
      busy = c.fill.new.busy;
      filled = f.filled;
      blocked = λ t l. f.blocked t (omega arith);
    })
