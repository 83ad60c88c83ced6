use Rattle.std.proofs.Common.{ap, ◌≡◌, ℕ, drop, arith, ◌∙◌}
use Rattle.qs_compile.specs.Units.{set_of}
use Rattle.qs_compile.proofs.UnsignedLaws.{set_few, set_small}
use Rattle.qs_compile.proofs.parameters.unsigned_set.Goals as goal

pub overflow_mul-set : goal.overflow_mul-set
overflow_mul-set c =
    let few = set_few c.args.types.now c.loop-i.i c.requires in
    let is = c.loop-i.invariant.0 in
    omega (arith, few, is)

pub overflow_add-set : goal.overflow_add-set
overflow_add-set c =
    let few = set_few c.args.types.now c.loop-i.i c.requires in
    let is = c.loop-i.invariant.0 in
    let bit = c.bit.ensures.small in
    omega (arith, few, is, bit)

pub returns-clause-small : goal.returns-clause-small
returns-clause-small c =
    let small = set_small c.args.types.now in
    let is = c.loop-i.invariant.0 in
    let none : c.loop-i.i ≡ 0 = omega arith in
    let all : c.loop-i.set ≡ set_of c.args.types.now = is ∙ ap (λ (i : ℕ). set_of (drop i c.args.types.now)) none in
    omega (arith, all, small)
