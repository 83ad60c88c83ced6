-- Operations on integers of 32 bits (C11 6.5.3.3, 6.5.5 to 6.5.12). Each is a number below 2 ^ 32, an `int` seen by its two's complement.
-- Sums, differences, products and left shifts wrap modulo 2 ^ 32, signed ones too.
use Rattle.std.specs.Prelude.{ℕ, ◌^◌, ◌==◌, ◌&&◌, not, nat_lt, Bool, false, Option, Some, ℤ, pos, int_lt}
use Rattle.qs_base.specs.Words.{signed, all_ones, add, sub, and, or, xor, sll, srl, sra, mul, div, rem, divu, remu}
use Rattle.qs_memory.specs.Partial.{only_if}
use Rattle.qs_memory.specs.declared.operation.Signedness.{Signedness}
use Rattle.qs_memory.specs.declared.operation.Signedness.TheVariants.{Signed, Unsigned}
use Rattle.qs_memory.specs.declared.operation.Arithmetic.{Arithmetic}
use Rattle.qs_memory.specs.declared.operation.Arithmetic.TheVariants as arithmetics
use Rattle.qs_memory.specs.declared.operation.Comparison.{Comparison}
use Rattle.qs_memory.specs.declared.operation.Comparison.TheVariants as comparisons

-- the number that a word stands for in an integer type
abbrev pub reading : Signedness → ℕ → ℤ
reading Signed x = signed x
reading Unsigned x = pos x

-- ---- 6.5.5: quotients are rounded toward zero, and (a/b)*b + a%b is a

abbrev pub quotient : Signedness → ℕ → ℕ → ℕ
quotient Signed x y = div x y
quotient Unsigned x y = divu x y

abbrev pub remainder : Signedness → ℕ → ℕ → ℕ
remainder Signed x y = rem x y
remainder Unsigned x y = remu x y

-- the least `int` by -1, whose quotient is no `int`
abbrev pub overflows : Signedness → ℕ → ℕ → Bool
overflows Signed x y = x == 2 ^ 31 && y == all_ones
overflows Unsigned x y = false

-- UNDEFINED 2 (6.5.5p5, p6): by zero, and the least `int` by -1, both for `/` and for `%`
abbrev pub divides : Signedness → ℕ → ℕ → Bool
divides s x y = not (y == 0) && not (overflows s x y)

-- ---- 6.5.7

-- UNDEFINED 3 (6.5.7p3): a count, read without a sign, of 32 or more
abbrev pub is_count : ℕ → Bool
is_count y = nat_lt y 32

-- 6.5.7p5: an `int` is shifted with copies of its sign
abbrev pub shifted_right : Signedness → ℕ → ℕ → ℕ
shifted_right Signed x y = sra x y
shifted_right Unsigned x y = srl x y

abbrev pub calculate : Arithmetic → Signedness → ℕ → ℕ → Option ℕ
calculate arithmetics.Add s x y = Some (add x y)
calculate arithmetics.Subtract s x y = Some (sub x y)
calculate arithmetics.Multiply s x y = Some (mul x y)
calculate arithmetics.Divide s x y = only_if (divides s x y) (Some (quotient s x y))
calculate arithmetics.Remainder s x y = only_if (divides s x y) (Some (remainder s x y))
calculate arithmetics.ShiftLeft s x y = only_if (is_count y) (Some (sll x y))
calculate arithmetics.ShiftRight s x y = only_if (is_count y) (Some (shifted_right s x y))
calculate arithmetics.And s x y = Some (and x y)
calculate arithmetics.Or s x y = Some (or x y)
calculate arithmetics.Xor s x y = Some (xor x y)

-- ---- 6.5.8, 6.5.9

abbrev pub is_less : Signedness → ℕ → ℕ → Bool
is_less s x y = int_lt (reading s x) (reading s y)

abbrev pub compares : Comparison → Signedness → ℕ → ℕ → Bool
compares comparisons.Less s x y = is_less s x y
compares comparisons.LessOrEqual s x y = not (is_less s y x)
compares comparisons.Greater s x y = is_less s y x
compares comparisons.GreaterOrEqual s x y = not (is_less s x y)
compares comparisons.Equal s x y = x == y
compares comparisons.NotEqual s x y = not (x == y)

-- ---- 6.5.3.3

abbrev pub minus : ℕ → ℕ
minus x = sub 0 x

abbrev pub complement : ℕ → ℕ
complement x = xor x all_ones
