-- The numbers of facts: parts, remainders, quotients and lengths in bits.
use Rattle.std.proofs.Common.{◌≡◌, ◌⊎◌, inl, inr, ℕ, zero, suc, ◌+◌, ◌*◌, ◌-◌, ◌/◌, ◌%◌, ◌^◌, ◌≤◌, ◌<◌, refl, ap, ◌∙◌, arith, true, false}
use Rattle.std.specs.Prelude.{ℤ, pos, negsuc, ◌+ℤ◌, ◌-ℤ◌, ◌*ℤ◌, ◌≤ℤ◌, Bool, if◌then◌else◌, int_lt}
use Rattle.std.proofs.lemmas.Int.{ints}
use Rattle.std.proofs.Math.Nat.{pow-le-pow_right}
use Rattle.qs_assert.specs.Values.{natural_part, wrapped_unsigned, wrapped_signed, quotient, bit_length}
use Rattle.qs_assert.proofs.BitLengths.{bit_length_is, bit_length_none}

-- ---- the greater of 0 and z

pub natural_part_same : (z : ℤ) → pos 0 ≤ℤ z → pos (natural_part z) ≡ z
natural_part_same (pos n) h = refl
natural_part_same (negsuc n) h = absurd (omega (arith, ints))

pub natural_part_above : (z : ℤ) → z ≤ℤ pos (natural_part z)
natural_part_above (pos n) = omega (arith, ints)
natural_part_above (negsuc n) = omega (arith, ints)

-- ---- modulo 2^32

pub unsigned_same : (z : ℤ) → pos 0 ≤ℤ z → z ≤ℤ pos 4294967295 → wrapped_unsigned z ≡ z
unsigned_same (pos n) h k = let b : n % (2 ^ 32) ≡ n = omega (arith, ints) in ap pos b
unsigned_same (negsuc n) h k = absurd (omega (arith, ints))

pub unsigned_least : (z : ℤ) → pos 0 ≤ℤ wrapped_unsigned z
unsigned_least (pos n) = omega (arith, ints)
unsigned_least (negsuc n) = omega (arith, ints)

pub unsigned_greatest : (z : ℤ) → wrapped_unsigned z ≤ℤ pos 4294967295
unsigned_greatest (pos n) = omega (arith, ints)
unsigned_greatest (negsuc n) = omega (arith, ints)

abbrev signed_from : Bool → ℤ → ℤ
signed_from b low = if b then low else low -ℤ pos (2 ^ 32)

lt_true : (a b : ℤ) → int_lt a b ≡ true → (a +ℤ pos 1) ≤ℤ b
lt_true a b h = grind (arith, ints)

lt_false : (a b : ℤ) → int_lt a b ≡ false → b ≤ℤ a
lt_false a b h = grind (arith, ints)

least_by : (b : Bool) (low : ℤ) → int_lt low (pos (2 ^ 31)) ≡ b → pos 0 ≤ℤ low → low ≤ℤ pos 4294967295 → pos 0 ≤ℤ (signed_from b low +ℤ pos 2147483648)
least_by true low e h k = omega (arith, ints)
least_by false low e h k = let f = lt_false low (pos (2 ^ 31)) e in omega (arith, ints)

greatest_by : (b : Bool) (low : ℤ) → int_lt low (pos (2 ^ 31)) ≡ b → pos 0 ≤ℤ low → low ≤ℤ pos 4294967295 → signed_from b low ≤ℤ pos 2147483647
greatest_by true low e h k = let f = lt_true low (pos (2 ^ 31)) e in omega (arith, ints)
greatest_by false low e h k = omega (arith, ints)

pub signed_least : (z : ℤ) → pos 0 ≤ℤ (wrapped_signed z +ℤ pos 2147483648)
signed_least z = least_by (int_lt (wrapped_unsigned z) (pos (2 ^ 31))) (wrapped_unsigned z) refl (unsigned_least z) (unsigned_greatest z)

pub signed_greatest : (z : ℤ) → wrapped_signed z ≤ℤ pos 2147483647
signed_greatest z = greatest_by (int_lt (wrapped_unsigned z) (pos (2 ^ 31))) (wrapped_unsigned z) refl (unsigned_least z) (unsigned_greatest z)

signed_pos : (b : Bool) (n : ℕ) → int_lt (pos n) (pos (2 ^ 31)) ≡ b → n ≤ 2147483647 → signed_from b (pos n) ≡ pos n
signed_pos true n e h = refl
signed_pos false n e h = let f = lt_false (pos n) (pos (2 ^ 31)) e in absurd (omega (arith, ints))

signed_neg : (b : Bool) (n : ℕ) → int_lt (pos (2 ^ 32 - 1 - n)) (pos (2 ^ 31)) ≡ b → n ≤ 2147483647 → signed_from b (pos (2 ^ 32 - 1 - n)) ≡ negsuc n
signed_neg true n e h = let f = lt_true (pos (2 ^ 32 - 1 - n)) (pos (2 ^ 31)) e in absurd (omega (arith, ints))
signed_neg false n e h = omega (arith, ints)

pub signed_same : (z : ℤ) → pos 0 ≤ℤ (z +ℤ pos 2147483648) → z ≤ℤ pos 2147483647 → wrapped_signed z ≡ z
signed_same (pos n) h k =
    let m : n ≤ 2147483647 = omega (arith, ints) in
    let b : n % (2 ^ 32) ≡ n = omega arith in
    ap (λ low. signed_from (int_lt (pos low) (pos (2 ^ 31))) (pos low)) b ∙ signed_pos (int_lt (pos n) (pos (2 ^ 31))) n refl m
signed_same (negsuc n) h k =
    let m : n ≤ 2147483647 = omega (arith, ints) in
    let b : 2 ^ 32 - 1 - n % (2 ^ 32) ≡ 2 ^ 32 - 1 - n = omega arith in
    ap (λ low. signed_from (int_lt (pos low) (pos (2 ^ 31))) (pos low)) b ∙ signed_neg (int_lt (pos (2 ^ 32 - 1 - n)) (pos (2 ^ 31))) n refl m

-- ---- quotients, rounded down

pub record IsQuotient (z q : ℤ) (k : ℕ) : Type 0 where
  pub at_least : (pos k *ℤ q) ≤ℤ z
  pub less : z ≤ℤ (pos k *ℤ q +ℤ (pos k -ℤ pos 1))

pub quotient_is : (z : ℤ) (k : ℕ) → 1 ≤ k → IsQuotient z (quotient z k) k
quotient_is (pos a) k h =
    let e : k * (a / k) + a % k ≡ a = omega arith in
    let f : a % k < k = omega arith in
    record { at_least = omega (arith, ints, e, f); less = omega (arith, ints, e, f) }
quotient_is (negsuc a) k h =
    let e : k * (a / k) + a % k ≡ a = omega arith in
    let f : a % k < k = omega arith in
    record { at_least = omega (arith, ints, e, f); less = omega (arith, ints, e, f) }

-- ---- lengths in bits

record IsLength (n m : ℕ) : Type 0 where
  above : n < 2 ^ m
  near : 2 ^ m ≤ 2 * n + 1

next_length : (n m : ℕ) → IsLength n m → (suc n < 2 ^ m) ⊎ (2 ^ m ≤ suc n) → (k : ℕ) × IsLength (suc n) k
next_length n m l (inl h) = let x = l.near in (m, record { above = h; near = omega arith })
next_length n m l (inr h) =
    let x = l.above in
    let y = l.near in
    (suc m, record { above = omega arith; near = omega arith })

length_of : (n : ℕ) → (m : ℕ) × IsLength n m
length_of zero = (0, record { above = omega arith; near = omega arith })
length_of (suc n) =
    let l = length_of n in
    let c : (suc n < 2 ^ l.0) ⊎ (2 ^ l.0 ≤ suc n) = grind arith in
    next_length n l.0 l.1 c

is_length : (n m : ℕ) → IsLength n m → bit_length (pos n) ≡ m
is_length n m l = bit_length_is n m l.above l.near

half_length : (n m : ℕ) → 1 ≤ n → IsLength (n / 2) m → IsLength n (suc m)
half_length n zero h l = let x = l.above in record { above = omega arith; near = omega arith }
half_length n (suc m) h l =
    let x = l.above in
    let y = l.near in
    record { above = omega arith; near = omega arith }

pub length_halves : (z : ℤ) → pos 1 ≤ℤ z → pos (bit_length z) ≡ pos (bit_length (quotient z 2)) +ℤ pos 1
length_halves (pos n) h =
    let one : 1 ≤ n = omega (arith, ints) in
    let l = length_of (n / 2) in
    let a = is_length (n / 2) l.0 l.1 in
    let b = is_length n (suc l.0) (half_length n l.0 one l.1) in
    omega (arith, ints, a, b)
length_halves (negsuc n) h = absurd (omega (arith, ints))

lengths_rise : (a b m n : ℕ) → a ≤ b → IsLength a m → IsLength b n → (m ≤ n) ⊎ (suc n ≤ m) → m ≤ n
lengths_rise a b m n h k l (inl c) = c
lengths_rise a b m n h k l (inr c) =
    let p : 2 ^ suc n ≤ 2 ^ m = pow-le-pow_right (omega arith) c in
    let q : 2 ^ suc n ≡ 2 * 2 ^ n = omega arith in
    let x = k.near in
    let y = l.above in
    absurd (omega arith)

pub length_rises : (x y : ℤ) → x ≤ℤ y → bit_length x ≤ bit_length y
length_rises (negsuc a) y h = let e = bit_length_none a in omega arith
length_rises (pos a) (negsuc b) h = absurd (omega (arith, ints))
length_rises (pos a) (pos b) h =
    let k = length_of a in
    let l = length_of b in
    let le : a ≤ b = omega (arith, ints) in
    let c : (k.0 ≤ l.0) ⊎ (suc l.0 ≤ k.0) = grind arith in
    let r = lengths_rise a b k.0 l.0 le k.1 l.1 c in
    let e = is_length a k.0 k.1 in
    let f = is_length b l.0 l.1 in
    omega arith
