-- Which numbers are wide.
use Rattle.std.proofs.Common.{◌≡◌, ◌≢◌, ◌≤◌, ◌<◌, zero, suc, ◌*◌, ◌^◌, ap, sym, refl, arith, Bool, pos, negsuc, ℤ, inl, inr, Some, None}
use Rattle.std.specs.Prelude.{◌*ℤ◌, unsigned_abs, if◌then◌else◌}
use Rattle.std.proofs.Math.Nat.{mul-le-mul_right}
use Rattle.std.proofs.lemmas.Bool.{cases_lt, le-leb, lt-leb}
use Rattle.std.proofs.lemmas.Int.{unsigned_abs-mul}
use Rattle.qs_assert.specs.Stacks.{known}

pub known_wide : (z : ℤ) → 2 ^ 127 ≤ unsigned_abs z → known z ≡ None
known_wide z h = ap (λ (b : Bool). if b then None else Some z) (le-leb _ _ h)

pub known_narrow : (z : ℤ) → unsigned_abs z < 2 ^ 127 → known z ≡ Some z
known_narrow z h = ap (λ (b : Bool). if b then None else Some z) (lt-leb _ _ h)

pub none_is_wide : (z : ℤ) → None ≡ known z → 2 ^ 127 ≤ unsigned_abs z
none_is_wide z e = elim (cases_lt (unsigned_abs z) (2 ^ 127)) [
  | inl narrow ↦ let f = known_narrow z narrow in absurd (cc)
  | inr wide ↦ wide
]

positive : (x : ℤ) → x ≢ pos 0 → 1 ≤ unsigned_abs x
positive (pos zero) h = absurd (h refl)
positive (pos (suc n)) h = omega arith
positive (negsuc n) h = omega arith

pub wide_product : (x y : ℤ) → x ≢ pos 0 → None ≡ known y → None ≡ known (x *ℤ y)
wide_product x y h e =
    let w : 2 ^ 127 ≤ unsigned_abs y = none_is_wide y e in
    let p : 1 * unsigned_abs y ≤ unsigned_abs x * unsigned_abs y = mul-le-mul_right (unsigned_abs y) (positive x h) in
    let q : unsigned_abs (x *ℤ y) ≡ unsigned_abs x * unsigned_abs y = unsigned_abs-mul x y in
    sym (known_wide (x *ℤ y) (omega arith))
