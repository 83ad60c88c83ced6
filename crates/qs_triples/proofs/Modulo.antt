-- Numbers modulo 2 ^ 32.
use Rattle.std.proofs.Common.{◌≡◌, ℕ, ◌+◌, ◌/◌, ◌%◌, ◌^◌, sym, ap, ◌∙◌, subst, arith, true, false}
use Rattle.std.specs.Prelude.{ℤ, pos, negsuc, ◌+ℤ◌, ◌-ℤ◌, ◌*ℤ◌, Bool, if◌then◌else◌, int_lt, nat_lt}
use Rattle.std.proofs.lemmas.Int.{ints}
use Rattle.std.proofs.lemmas.Bool.Decides.{nat_tests}
use Rattle.std.proofs.Math.IntN.{*ℤ_comm}
use Rattle.qs_entail.proofs.Numbers.{unsigned_least, unsigned_greatest}
use Rattle.qs_base.specs.Words.{signed}
use Rattle.qs_poly.proofs.Ring.{mul_add, mul_assoc}
use Rattle.qs_assert.specs.Values.{wrapped_unsigned, wrapped_signed}

abbrev M : ℤ
M = pos 4294967296

-- they differ by a multiple of 2 ^ 32
pub record Like (a b : ℤ) : Type 0 where
  pub times : ℤ
  pub is : a ≡ b +ℤ times *ℤ M

unsigned_like : (z : ℤ) → Like (wrapped_unsigned z) z
unsigned_like (pos n) = record { times = negsuc (n / 4294967296) +ℤ pos 1; is = omega (arith, ints) }
unsigned_like (negsuc n) = record { times = pos (n / 4294967296 + 1); is = omega (arith, ints) }

pub unsigned_same : (a b : ℤ) → Like a b → wrapped_unsigned a ≡ wrapped_unsigned b
unsigned_same a b l =
    let i = unsigned_like a in
    let j = unsigned_like b in
    let al = unsigned_least a in
    let ah = unsigned_greatest a in
    let bl = unsigned_least b in
    let bh = unsigned_greatest b in
    let le = l.is in
    let ie = i.is in
    let je = j.is in
    omega (arith, ints, le, ie, je, al, ah, bl, bh)

pub signed_same : (a b : ℤ) → Like a b → wrapped_signed a ≡ wrapped_signed b
signed_same a b l =
    ap (λ z. if int_lt z (pos (2 ^ 31)) then z else z -ℤ pos (2 ^ 32)) (unsigned_same a b l)

-- ---- words

remainder_twice : (n : ℕ) → n % 4294967296 % 4294967296 ≡ n % 4294967296
remainder_twice n = omega arith

pub unsigned_word : (n : ℕ) → wrapped_unsigned (pos n) ≡ pos (n % 2 ^ 32 % 2 ^ 32)
unsigned_word n = ap pos (sym (remainder_twice n))

lt_same : (a b : ℕ) → int_lt (pos a) (pos b) ≡ nat_lt a b
lt_same a b = grind (arith, ints, nat_tests)

pub signed_word : (n : ℕ) → wrapped_signed (pos n) ≡ signed (n % 2 ^ 32 % 2 ^ 32)
signed_word n =
    ap (λ b. if b then pos (n % 4294967296) else pos (n % 4294967296) -ℤ pos 4294967296) (lt_same (n % 4294967296) 2147483648)
    ∙ ap signed (sym (remainder_twice n))

pub unsigned_reading_like : (n : ℕ) → Like (pos (n % 2 ^ 32)) (pos n)
unsigned_reading_like n = record { times = negsuc (n / 4294967296) +ℤ pos 1; is = omega (arith, ints) }

pub signed_reading_like : (n : ℕ) → Like (signed (n % 2 ^ 32)) (pos n)
signed_reading_like n = by (nat_lt (n % 4294967296) 2147483648)
  where
    by : (b : Bool) → Like (if b then pos (n % 4294967296) else pos (n % 4294967296) -ℤ pos 4294967296) (pos n)
    by true = record { times = negsuc (n / 4294967296) +ℤ pos 1; is = omega (arith, ints) }
    by false = record { times = negsuc (n / 4294967296); is = omega (arith, ints) }

-- ---- sums, differences, products

pub like_then : (a b c : ℤ) → Like a b → Like b c → Like a c
like_then a b c l m =
    let le = l.is in
    let me = m.is in
    record { times = l.times +ℤ m.times; is = omega (arith, ints, le, me) }

pub like_add : (a b c d : ℤ) → Like a c → Like b d → Like (a +ℤ b) (c +ℤ d)
like_add a b c d l m =
    let le = l.is in
    let me = m.is in
    record { times = l.times +ℤ m.times; is = omega (arith, ints, le, me) }

pub like_sub : (a b c d : ℤ) → Like a c → Like b d → Like (a -ℤ b) (c -ℤ d)
like_sub a b c d l m =
    let le = l.is in
    let me = m.is in
    record { times = l.times -ℤ m.times; is = omega (arith, ints, le, me) }

like_scale : (a c b : ℤ) → Like a c → Like (a *ℤ b) (c *ℤ b)
like_scale a c b l = record {
  times = l.times *ℤ b;
  is = ap (λ z. z *ℤ b) l.is
      ∙ mul_add c (l.times *ℤ M) b
      ∙ ap (λ z. c *ℤ b +ℤ z) (mul_assoc l.times M b ∙ ap (λ z. l.times *ℤ z) (*ℤ_comm M b) ∙ sym (mul_assoc l.times b M));
}

pub like_mul : (a b c d : ℤ) → Like a c → Like b d → Like (a *ℤ b) (c *ℤ d)
like_mul a b c d l m =
    like_then (a *ℤ b) (c *ℤ b) (c *ℤ d) (like_scale a c b l)
    (subst (λ z. Like z (c *ℤ d)) (*ℤ_comm b c) (subst (λ z. Like (b *ℤ c) z) (*ℤ_comm d c) (like_scale b d c m)))
