use Rattle.std.proofs.Common.{rules, ◌^◌, ◌∙◌, sym, arith}
use Rattle.std.specs.Prelude.{◌+ℤ◌, FitsSigned}
use Rattle.std.specs.Int.{w128}
use Rattle.std.proofs.lemmas.Int.{to_z-of_z}
use mir.Val.{SFits}
use Rattle.qs_poly.proofs.Bounds.{item_at_most, sum_fits}
use Rattle.qs_poly.proofs.Steps.{removed, changed, computed_sum, same_item, set_same}
use Rattle.qs_poly.proofs.terms.join.Goals as goal

pub overflow_add-sum : goal.overflow_add-sum
overflow_add-sum c =
    let d = c.index.result.now in
    let f : SFits w128 d.coefficient = search rules in
    let h = item_at_most (2 ^ 125) c.args.terms.now.items c.args.i d c.requires.within c.index.ensures c.requires.all_small in
    let s : FitsSigned w128 (c.args.coefficient +ℤ d.coefficient) = sum_fits (2 ^ 125) (2 ^ 125) c.args.coefficient d.coefficient c.requires.small h (omega arith) in
    rw (to_z-of_z w128 c.args.coefficient c.ranges.coefficient, to_z-of_z w128 d.coefficient f) s

pub returns-then-is_zero : goal.returns-then-is_zero
returns-then-is_zero c =
    let d = c.index.result.now in
    let f : SFits w128 d.coefficient = search rules in
    let h = item_at_most (2 ^ 125) c.args.terms.now.items c.args.i d c.requires.within c.index.ensures c.requires.all_small in
    let g : SFits w128 (c.args.coefficient +ℤ d.coefficient) = sum_fits (2 ^ 125) (2 ^ 125) c.args.coefficient d.coefficient c.requires.small h (omega arith) in
    let k = computed_sum c.args.coefficient d.coefficient c.ranges.coefficient f g in
    removed c.args.terms.now.items c.remove.new.self.items c.args.i c.args.coefficient d c.requires.within c.index.ensures (sym k ∙ c.if-is_zero.ensures) c.remove.ensures.items

pub returns-else-is_zero : goal.returns-else-is_zero
returns-else-is_zero c =
    let d = c.index.result.now in
    let f : SFits w128 d.coefficient = search rules in
    let h = item_at_most (2 ^ 125) c.args.terms.now.items c.args.i d c.requires.within c.index.ensures c.requires.all_small in
    let g : SFits w128 (c.args.coefficient +ℤ d.coefficient) = sum_fits (2 ^ 125) (2 ^ 125) c.args.coefficient d.coefficient c.requires.small h (omega arith) in
    let k = computed_sum c.args.coefficient d.coefficient c.ranges.coefficient f g in
    changed c.args.terms.now.items _ c.args.i c.args.coefficient d c.requires.within c.index.ensures (λ z. c.if-is_zero.ensures (k ∙ z))
    (set_same c.args.terms.now.items c.args.i _ _ c.index_mut.result.now d k (same_item c.args.terms.now.items c.args.i c.index_mut.result.now d c.requires.within c.index_mut.ensures.value c.index.ensures))
