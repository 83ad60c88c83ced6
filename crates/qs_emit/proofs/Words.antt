-- What the machine computes on words.
use Rattle.std.proofs.Common.{◌≡◌, ⊎_elim, ℕ, suc, ◌+◌, ◌-◌, ◌*◌, ◌%◌, ◌^◌, ◌==◌, ◌<◌, ◌≤◌, Bool, true, false, not, Some, refl, sym, ap, ◌∙◌, arith}
use Rattle.std.specs.Prelude.{nat_lt, if◌then◌else◌, ℤ, pos, negsuc, ◌+ℤ◌, ◌-ℤ◌, ◌*ℤ◌, neg_ℤ, int_lt, int_div}
use Rattle.std.proofs.Math.Nat.{add-mul}
use Rattle.std.proofs.Math.IntN.{pos-*ℤ-pos, negsuc-*ℤ-pos}
use Rattle.std.proofs.lemmas.Bool.{cases_lt}
use Rattle.std.proofs.lemmas.Bool.Decides.{nat_tests}
use Rattle.std.proofs.lemmas.Int.{ints}
use Rattle.std.proofs.lemmas.Nat.{and_mask}
use Rattle.qs_base.specs.Words.{signed, wrap, add, sub, slt, sltu, and, xor, div}
use Rattle.qs_memory.specs.Integers.{reading, is_less, compares, calculate}
use Rattle.qs_memory.specs.declared.operation.Signedness.{Signedness}
use Rattle.qs_memory.specs.declared.operation.Signedness.TheVariants.{Signed, Unsigned}
use Rattle.qs_memory.specs.declared.operation.Arithmetic.{Arithmetic}
use Rattle.qs_memory.specs.declared.operation.Arithmetic.TheVariants as arithmetics
use Rattle.qs_memory.specs.declared.operation.Comparison.{Comparison}
use Rattle.qs_memory.specs.declared.operation.Comparison.TheVariants as comparisons
use Rattle.qs_memory.proofs.Options.{some_same, only_if_value}
use Rattle.qs_machine.specs.Step.{op_result}
use Rattle.qs_emit_selection.specs.Operations.{kind_of}

abbrev pub of_test : Bool → ℕ
of_test b = if b then 1 else 0

-- ---- integers

-- the instruction computes the operation
pub calculated : (op : Arithmetic) (s : Signedness) (x y n : ℕ) → calculate op s x y ≡ Some n → op_result (kind_of op s) x y ≡ n
calculated arithmetics.Add s x y n h = some_same _ n h
calculated arithmetics.Subtract s x y n h = some_same _ n h
calculated arithmetics.Multiply s x y n h = some_same _ n h
calculated arithmetics.Divide Signed x y n h = (only_if_value _ _ n h).1
calculated arithmetics.Divide Unsigned x y n h = (only_if_value _ _ n h).1
calculated arithmetics.Remainder Signed x y n h = (only_if_value _ _ n h).1
calculated arithmetics.Remainder Unsigned x y n h = (only_if_value _ _ n h).1
calculated arithmetics.ShiftLeft s x y n h = (only_if_value _ _ n h).1
calculated arithmetics.ShiftRight Signed x y n h = (only_if_value _ _ n h).1
calculated arithmetics.ShiftRight Unsigned x y n h = (only_if_value _ _ n h).1
calculated arithmetics.And s x y n h = some_same _ n h
calculated arithmetics.Or s x y n h = some_same _ n h
calculated arithmetics.Xor s x y n h = some_same _ n h

-- a number is subtracted by adding what is left to 2 ^ 32
pub negated_added : (x n : ℕ) → n < 2 ^ 32 → add x (sub 0 n) ≡ sub x n
negated_added x n h = omega (arith, h)

pub low_byte : (x : ℕ) → and x 255 ≡ x % 2 ^ 8
low_byte x = and_mask x 8

-- ---- tests

pub unsigned_less : (x y : ℕ) → int_lt (pos x) (pos y) ≡ nat_lt x y
unsigned_less x y = refl

-- what a comparison leaves in a register
abbrev pub less_word : Signedness → (x y : ℕ) → ℕ
less_word Signed x y = slt x y
less_word Unsigned x y = sltu x y

abbrev pub compared : Comparison → Signedness → (x y : ℕ) → ℕ
compared comparisons.Less s x y = less_word s x y
compared comparisons.Greater s x y = less_word s y x
compared comparisons.LessOrEqual s x y = xor (less_word s y x) 1
compared comparisons.GreaterOrEqual s x y = xor (less_word s x y) 1
compared comparisons.Equal s x y = sltu (sub x y) 1
compared comparisons.NotEqual s x y = sltu 0 (sub x y)

pub less_is : (s : Signedness) (x y : ℕ) → less_word s x y ≡ of_test (is_less s x y)
less_is Signed x y = refl
less_is Unsigned x y = ap of_test (sym (unsigned_less x y))

turned_is : (b : Bool) → xor (of_test b) 1 ≡ of_test (not b)
turned_is true = refl
turned_is false = refl

equal_is : (x y : ℕ) → x < 2 ^ 32 → y < 2 ^ 32 → nat_lt (sub x y) 1 ≡ (x == y)
equal_is x y hx hy = by (x == y) refl
  where
    by : (b : Bool) → (x == y) ≡ b → nat_lt (sub x y) 1 ≡ b
    by true e = let f : x ≡ y = grind (arith, nat_tests, e) in let d : sub x y ≡ 0 = omega (arith, f, hx) in rw d refl
    by false e =
        let f : x ≡ y → ⊥ = λ g. absurd (grind (arith, nat_tests, e, g)) in
        let d : sub x y ≡ 0 → ⊥ = λ g. f (omega (arith, g, hx, hy)) in
        grind (arith, nat_tests, d)

unequal_is : (x y : ℕ) → x < 2 ^ 32 → y < 2 ^ 32 → nat_lt 0 (sub x y) ≡ not (x == y)
unequal_is x y hx hy = opposite (sub x y) ∙ ap not (equal_is x y hx hy)
  where
    opposite : (n : ℕ) → nat_lt 0 n ≡ not (nat_lt n 1)
    opposite n = by (nat_lt n 1) refl
      where
        by : (b : Bool) → nat_lt n 1 ≡ b → nat_lt 0 n ≡ not b
        by true e = grind (arith, nat_tests, e)
        by false e = grind (arith, nat_tests, e)

pub compared_is : (op : Comparison) (s : Signedness) (x y : ℕ) → x < 2 ^ 32 → y < 2 ^ 32 → compared op s x y ≡ of_test (compares op s x y)
compared_is comparisons.Less s x y hx hy = less_is s x y
compared_is comparisons.Greater s x y hx hy = less_is s y x
compared_is comparisons.LessOrEqual s x y hx hy = ap (λ n. xor n 1) (less_is s y x) ∙ turned_is (is_less s y x)
compared_is comparisons.GreaterOrEqual s x y hx hy = ap (λ n. xor n 1) (less_is s x y) ∙ turned_is (is_less s x y)
compared_is comparisons.Equal s x y hx hy = ap of_test (equal_is x y hx hy)
compared_is comparisons.NotEqual s x y hx hy = ap of_test (unequal_is x y hx hy)

pub zero_is : (x : ℕ) → sltu x 1 ≡ of_test (x == 0)
zero_is x = ap of_test (by (x == 0) refl)
  where
    by : (b : Bool) → (x == 0) ≡ b → nat_lt x 1 ≡ b
    by true e = grind (arith, nat_tests, e)
    by false e = grind (arith, nat_tests, e)

pub not_zero_is : (x : ℕ) → sltu 0 x ≡ of_test (not (x == 0))
not_zero_is x = ap of_test (by (x == 0) refl)
  where
    by : (b : Bool) → (x == 0) ≡ b → nat_lt 0 x ≡ not b
    by true e = grind (arith, nat_tests, e)
    by false e = grind (arith, nat_tests, e)

-- ---- distances

-- a number as its type reads it, times a size: what the product of the words lacks is a multiple of 2 ^ 32
record IsProduct (s : Signedness) (n size : ℕ) : Type 0 where
  lacks : ℕ
  is : reading s n *ℤ pos size +ℤ pos (2 ^ 32 * lacks) ≡ pos (n * size)

signed_high : (n : ℕ) → 2 ^ 31 ≤ n → n < 2 ^ 32 → signed n ≡ negsuc (2 ^ 32 - 1 - n)
signed_high n h k = grind (arith, ints, nat_tests, h, k)

signed_low : (n : ℕ) → n < 2 ^ 31 → signed n ≡ pos n
signed_low n h = grind (arith, ints, nat_tests, h)

product_of : (s : Signedness) (n size : ℕ) → n < 2 ^ 32 → IsProduct s n size
product_of Unsigned n size h = record { lacks = 0; is = ap (λ z. z +ℤ pos (2 ^ 32 * 0)) (pos-*ℤ-pos n size) ∙ none (n * size) }
  where
    none : (k : ℕ) → pos k +ℤ pos 0 ≡ pos k
    none k = omega (arith, ints)
product_of Signed n size h = ⊎_elim low high (cases_lt n (2 ^ 31))
  where
    none : (k : ℕ) → pos k +ℤ pos 0 ≡ pos k
    none k = omega (arith, ints)

    low : n < 2 ^ 31 → IsProduct Signed n size
    low lt = record { lacks = 0; is = ap (λ z. z *ℤ pos size +ℤ pos (2 ^ 32 * 0)) (signed_low n lt) ∙ ap (λ z. z +ℤ pos (2 ^ 32 * 0)) (pos-*ℤ-pos n size) ∙ none (n * size) }

    both : (k : ℕ) → suc k + n ≡ 2 ^ 32 → suc k * size + n * size ≡ 2 ^ 32 * size
    both k e = sym (add-mul (suc k) n size) ∙ ap (λ j. j * size) e

    joined : (a b w : ℕ) → a + b ≡ w → neg_ℤ (pos a) +ℤ pos w ≡ pos b
    joined a b w e = omega (arith, ints, e)

    high : 2 ^ 31 ≤ n → IsProduct Signed n size
    high le =
        let k = 2 ^ 32 - 1 - n in
        let whole : suc k + n ≡ 2 ^ 32 = omega (arith, h) in
        record {
          lacks = size;
          is = ap (λ z. z *ℤ pos size +ℤ pos (2 ^ 32 * size)) (signed_high n le h)
              ∙ ap (λ z. z +ℤ pos (2 ^ 32 * size)) (negsuc-*ℤ-pos k size)
              ∙ joined (suc k * size) (n * size) (2 ^ 32 * size) (both k whole);
        }

-- an address goes up by as many elements
pub goes_up : (s : Signedness) (from old new n size : ℕ) → n < 2 ^ 32 → from + new ≤ 2 ^ 31 → pos old +ℤ reading s n *ℤ pos size ≡ pos new → (from + old + n * size) % 2 ^ 32 ≡ from + new
goes_up s from old new n size small low h =
    let p = product_of s n size small in
    let sum : old + n * size ≡ new + 2 ^ 32 * p.lacks = joined (reading s n *ℤ pos size) old new (2 ^ 32 * p.lacks) (n * size) h p.is in
    wrapped (n * size) p.lacks sum
  where
    joined : (z : ℤ) (old new w product : ℕ) → pos old +ℤ z ≡ pos new → z +ℤ pos w ≡ pos product → old + product ≡ new + w
    joined z old new w product e f = omega (arith, ints, e, f)

    wrapped : (product lacks : ℕ) → old + product ≡ new + 2 ^ 32 * lacks → (from + old + product) % 2 ^ 32 ≡ from + new
    wrapped product lacks e = omega (arith, e, low)

-- and down
pub goes_down : (s : Signedness) (from old new n size : ℕ) → n < 2 ^ 32 → from + new ≤ 2 ^ 31 → from + old ≤ 2 ^ 31 → pos old +ℤ neg_ℤ (reading s n *ℤ pos size) ≡ pos new → (from + old + 2 ^ 32 - n * size % 2 ^ 32) % 2 ^ 32 ≡ from + new
goes_down s from old new n size small low high h =
    let p = product_of s n size small in
    let sum : new + n * size ≡ old + 2 ^ 32 * p.lacks = joined (reading s n *ℤ pos size) old new (2 ^ 32 * p.lacks) (n * size) h p.is in
    wrapped (n * size) p.lacks sum
  where
    joined : (z : ℤ) (old new w product : ℕ) → pos old +ℤ neg_ℤ z ≡ pos new → z +ℤ pos w ≡ pos product → new + product ≡ old + w
    joined z old new w product e f = omega (arith, ints, e, f)

    wrapped : (product lacks : ℕ) → new + product ≡ old + 2 ^ 32 * lacks → (from + old + 2 ^ 32 - product % 2 ^ 32) % 2 ^ 32 ≡ from + new
    wrapped product lacks e = omega (arith, e, low, high)

-- the distance of two addresses
pub distance_signed : (from i j : ℕ) → from + i ≤ 2 ^ 31 → from + j ≤ 2 ^ 31 → 0 < from → signed (sub (from + i) (from + j)) ≡ pos i -ℤ pos j
distance_signed from i j hi hj positive = ⊎_elim less more (cases_lt i j)
  where
    less : i < j → signed (sub (from + i) (from + j)) ≡ pos i -ℤ pos j
    less lt =
        let d : sub (from + i) (from + j) ≡ 2 ^ 32 - (j - i) = omega (arith, hi, hj, lt) in
        ap signed d ∙ grind (arith, ints, nat_tests, hi, hj, lt, positive)

    more : j ≤ i → signed (sub (from + i) (from + j)) ≡ pos i -ℤ pos j
    more le =
        let d : sub (from + i) (from + j) ≡ i - j = omega (arith, hi, hj, le) in
        ap signed d ∙ grind (arith, ints, nat_tests, hi, hj, le, positive)

pub wrap_signed : (n : ℕ) → n < 2 ^ 32 → wrap (signed n) ≡ n
wrap_signed n h = ⊎_elim (λ lt. ap wrap (signed_low n lt) ∙ omega (arith, h)) (λ le. ap wrap (signed_high n le h) ∙ omega (arith, h, le)) (cases_lt n (2 ^ 31))

pub over_one : (z : ℤ) → int_div z (pos 1) ≡ z
over_one (pos n) = omega (arith, ints)
over_one (negsuc n) = omega (arith, ints)

-- division by the size of an element
pub divided : (distance size : ℕ) → 0 < size → size < 2 ^ 31 → div distance size ≡ wrap (int_div (signed distance) (pos size))
divided distance size positive small =
    let t : (size == 0) ≡ false = grind (arith, nat_tests, positive) in
    ap (λ b. if b then 4294967295 else wrap (int_div (signed distance) (signed size))) t ∙ ap (λ z. wrap (int_div (signed distance) z)) (signed_low size small)
