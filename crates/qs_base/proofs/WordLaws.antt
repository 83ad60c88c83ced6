-- Laws of the operations on words, for those who reason about the machine.
use Rattle.std.proofs.Common.{◌≡◌, ℕ, ◌/◌, ◌%◌, ◌^◌, ◌<◌, ℤ, pos, negsuc, Bool, true, false, cond, arith}
use Rattle.std.specs.Int.{cast_signed, w32}
use Rattle.std.proofs.lemmas.Int.{ints}
use Rattle.std.proofs.lemmas.Bool.Decides.{nat_tests}
use Rattle.std.proofs.lemmas.Nat.{and_le_l, or_lt, xor_lt}
use Rattle.std.proofs.Math.Nat.{div-le_self, mod-le}
use Rattle.qs_base.specs.Words.{signed, wrap, all_ones, add, sub, and, or, xor, sll, srl, sra, mul, div, rem, divu, remu}

-- the signed reading is the cast to `i32`
pub signed-cast : (a : ℕ) → a < 2 ^ 32 → signed a ≡ cast_signed w32 a
signed-cast a h = grind (arith, ints, nat_tests)

-- ---- every result is a word

pub wrap-below : (z : ℤ) → wrap z < 2 ^ 32
wrap-below (pos n) = omega arith
wrap-below (negsuc n) = omega arith

cond-below : (b : Bool) (m n k : ℕ) → m < k → n < k → cond b m n < k
cond-below true m n k hm hn = hm
cond-below false m n k hm hn = hn

pub add-below : (a b : ℕ) → add a b < 2 ^ 32
add-below a b = omega arith

pub sub-below : (a b : ℕ) → sub a b < 2 ^ 32
sub-below a b = omega arith

pub and-below : (a b : ℕ) → a < 2 ^ 32 → and a b < 2 ^ 32
and-below a b h = let e = and_le_l a b in omega arith

pub or-below : (a b : ℕ) → a < 2 ^ 32 → b < 2 ^ 32 → or a b < 2 ^ 32
or-below a b h k = or_lt 32 a b h k

pub xor-below : (a b : ℕ) → a < 2 ^ 32 → b < 2 ^ 32 → xor a b < 2 ^ 32
xor-below a b h k = xor_lt 32 a b h k

pub sll-below : (a b : ℕ) → sll a b < 2 ^ 32
sll-below a b = omega arith

pub srl-below : (a b : ℕ) → a < 2 ^ 32 → srl a b < 2 ^ 32
srl-below a b h = let e = div-le_self a (2 ^ (b % 32)) in omega arith

pub sra-below : (a b : ℕ) → sra a b < 2 ^ 32
sra-below a b = wrap-below _

pub mul-below : (a b : ℕ) → mul a b < 2 ^ 32
mul-below a b = omega arith

pub div-below : (a b : ℕ) → div a b < 2 ^ 32
div-below a b = cond-below _ all_ones _ (2 ^ 32) (omega arith) (wrap-below _)

pub rem-below : (a b : ℕ) → a < 2 ^ 32 → rem a b < 2 ^ 32
rem-below a b h = cond-below _ _ _ (2 ^ 32) h (wrap-below _)

pub divu-below : (a b : ℕ) → a < 2 ^ 32 → divu a b < 2 ^ 32
divu-below a b h = let e = div-le_self a b in cond-below _ all_ones (a / b) (2 ^ 32) (omega arith) (omega arith)

pub remu-below : (a b : ℕ) → a < 2 ^ 32 → remu a b < 2 ^ 32
remu-below a b h = let e = mod-le a b in cond-below _ a (a % b) (2 ^ 32) h (omega arith)
