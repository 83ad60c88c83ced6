use Rattle.std.proofs.Common.{arith, rules, ◌≡◌, ◌≤◌, ◌^◌, ◌<◌, ◌∙◌, ap, ℤ, negsuc}
use Rattle.std.proofs.lemmas.Int.{ints, to_z-of_z, fits_signed_mul}
use Rattle.std.specs.Prelude.{◌*ℤ◌, pos, unsigned_abs}
use Rattle.qs_base.specs.Words.{signed, upper}
use Rattle.qs_base.proofs.WordLaws.{signed-cast}
use Rattle.qs_machine.proofs.operations.mulh32.Goals as goal
use mir.Val.{SFits, of_z, to_z}
use mir.Syntax.{w32, w64}
use lib.Signed.{shr_z, mag}

-- the upper half of a product of 64 bits
shifted : (z : ℤ) → mag z < 2 ^ 63 → of_z w32 (to_z w32 (of_z w32 (to_z w64 (of_z w64 (shr_z z 4294967296))))) ≡ upper z
shifted (pos n) small = omega (arith, ints)
shifted (negsuc n) small = omega (arith, ints)

product : (x y : ℤ) → SFits w64 x → SFits w64 y → SFits w64 (x *ℤ y) → to_z w64 (of_z w64 (to_z w64 (of_z w64 x) *ℤ to_z w64 (of_z w64 y))) ≡ x *ℤ y
product x y a b p = rw (to_z-of_z w64 x a, to_z-of_z w64 y b) (to_z-of_z w64 (x *ℤ y) p)

mulh-of : (x y : ℤ) → SFits w64 x → SFits w64 y → unsigned_abs x ≤ 2 ^ 31 → unsigned_abs y ≤ 2 ^ 31 → of_z w32 (to_z w32 (of_z w32 (to_z w64 (of_z w64 (shr_z (to_z w64 (of_z w64 (to_z w64 (of_z w64 x) *ℤ to_z w64 (of_z w64 y)))) 4294967296))))) ≡ upper (x *ℤ y)
mulh-of x y f g a b =
    let p : SFits w64 (x *ℤ y) = fits_signed_mul w64 x y (2 ^ 31) (2 ^ 31) a b (omega arith) in
    ap (λ (z : ℤ). of_z w32 (to_z w32 (of_z w32 (to_z w64 (of_z w64 (shr_z z 4294967296)))))) (product x y f g p) ∙ shifted (x *ℤ y) (omega (arith, ints))

pub returns : goal.returns
returns c =
    let a : signed c.args.a ≡ c.from.result = omega (arith, ints, signed-cast c.args.a c.ranges.a.fits) in
    let b : signed c.args.b ≡ c.from-2.result = omega (arith, ints, signed-cast c.args.b c.ranges.b.fits) in
    let f : SFits w64 c.from.result = search rules in
    let g : SFits w64 c.from-2.result = search rules in
    rw (a, b) (c.cast_unsigned.ensures ∙ mulh-of c.from.result c.from-2.result f g (omega (arith, ints)) (omega (arith, ints)))
