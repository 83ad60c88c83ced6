use Rattle.std.proofs.Common.{ap, ◌∙◌, ◌-◌, sym, to_z-of_z, pos, ℤ}
use Rattle.std.specs.Prelude.{int_le}
use Rattle.std.specs.Int.{w128, leading_zeros}
use mir.Val.{of_z}
use Rattle.qs_assert.proofs.BitLengths.{not_positive, is_positive}
use Rattle.qs_assert.proofs.numbers.bit_length.Goals as goal

pub returns-then-z-le0 : goal.returns-then-z-le0
returns-then-z-le0 c =
    not_positive c.args.z (ap (λ (z : ℤ). int_le z (pos 0)) (sym (to_z-of_z c.ranges.z)) ∙ c.if-z-le0.true)

pub returns-else-z-le0 : goal.returns-else-z-le0
returns-else-z-le0 c =
    ap (λ n. 128 - n) (c.leading_zeros.ensures ∙ ap (λ (z : ℤ). leading_zeros w128 (of_z w128 z)) (to_z-of_z c.ranges.z)) ∙ is_positive c.args.z c.ranges.z (ap (λ (z : ℤ). int_le z (pos 0)) (sym (to_z-of_z c.ranges.z)) ∙ c.if-z-le0.false)
