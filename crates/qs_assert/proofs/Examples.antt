-- Rows computed from the definitions.
use Rattle.std.proofs.Common.{◌≡◌, ℕ, ◌-◌, ◌^◌, Bool, true, false, List, [], ◌∷◌, refl}
use Rattle.std.specs.Prelude.{ℤ, pos, negsuc, if◌then◌else◌, map, Some, None}
use Rattle.qs_assert.specs.declared.variable.Var.{Var}
use Rattle.qs_assert.specs.declared.variable.VarKind.TheVariants.{Plain}
use Rattle.qs_assert.specs.declared.variable.NumberType.{NumberType}
use Rattle.qs_assert.specs.declared.variable.NumberType.TheVariants.{Int, Unsigned}
use Rattle.qs_assert.specs.declared.define.Define.{Define}
use Rattle.qs_assert.specs.declared.define.Amount.{Amount}
use Rattle.qs_assert.specs.declared.define.Amount.TheVariants.{Finite, Infinite, Wide}
use Rattle.qs_assert.specs.declared.images.Image.{Image}
use Rattle.qs_assert.specs.declared.images.Others.TheVariants.{Stay, AreMissing}
use Rattle.qs_assert.specs.declared.images.Substituted.TheVariants.{Whole, Missing}
use Rattle.qs_assert.specs.Trees.{TermTree, number, variable, add, sub, mul, div, wrapu, wraps, bits, CondTree, lt, AssertionTree, natural, infinity, cost, num, total, greatest, product, guard, choose, named, terms_of, assertions_of}
use Rattle.qs_assert.specs.Values.{bit_length, least_power}
use Rattle.qs_assert.specs.Substitution.{in_assertion}
use Rattle.qs_assert.specs.Bounds.{amount_at, bound_at}
use Rattle.qs_assert.specs.Order.{order_fault}
use Rattle.qs_assert.specs.Simultaneous.{images, substituted}
use Rattle.qs_assert.specs.Variables.{mentions}

-- the parameter of number 0, and its type
abbrev x : NumberType → Var
x type = record { kind = Plain 0; number = type }

abbrev n : TermTree
n = variable (x Int)

abbrev finite_each : List ℕ → List Amount
finite_each = map (λ k. Finite k)

-- ---- terms

-- the greater of 0 and a term, where n is each of these numbers
abbrev at_each : TermTree → List ℤ → List Amount
at_each t = map (λ z. amount_at (num t) [] (z ∷ []) [])

lengths_in_bits : at_each (bits n) (negsuc 0 ∷ pos 0 ∷ pos 1 ∷ pos 2 ∷ pos 3 ∷ pos 4 ∷ pos 255 ∷ pos 256 ∷ pos 1234567890 ∷ pos 9223372036854775807 ∷ []) ≡ finite_each (0 ∷ 0 ∷ 1 ∷ 2 ∷ 2 ∷ 3 ∷ 8 ∷ 9 ∷ 31 ∷ 63 ∷ [])
unfolding bit_length least_power
lengths_in_bits = refl

unsigned_words : at_each (wrapu n) (pos 0 ∷ pos 4294967295 ∷ pos 4294967296 ∷ negsuc 0 ∷ negsuc 4294967295 ∷ negsuc 4294967296 ∷ []) ≡ finite_each (0 ∷ 4294967295 ∷ 0 ∷ 4294967295 ∷ 0 ∷ 4294967295 ∷ [])
unsigned_words = refl

-- how far the signed word is above -2^31
signed_words : at_each (sub (wraps n) (number (negsuc 2147483647))) (pos 0 ∷ pos 2147483647 ∷ pos 2147483648 ∷ negsuc 2147483647 ∷ negsuc 2147483648 ∷ pos 4294967295 ∷ []) ≡ finite_each (2147483648 ∷ 4294967295 ∷ 0 ∷ 0 ∷ 4294967295 ∷ 2147483647 ∷ [])
signed_words = refl

-- how far the half is above -10
halves : at_each (sub (div n 2) (number (negsuc 9))) (pos 7 ∷ pos 6 ∷ pos 1 ∷ pos 0 ∷ negsuc 0 ∷ negsuc 1 ∷ negsuc 6 ∷ []) ≡ finite_each (13 ∷ 13 ∷ 10 ∷ 10 ∷ 9 ∷ 9 ∷ 6 ∷ [])
halves = refl

-- 2^126 times each
abbrev large : ℤ → TermTree
large k = mul (terms_of (number (pos (2 ^ 42)) ∷ number (pos (2 ^ 42)) ∷ number (pos (2 ^ 42)) ∷ number k ∷ []))

-- the sum, less 1
abbrev sum_amount : List ℤ → Amount
sum_amount ks = amount_at (num (sub (add (terms_of (map large ks))) (number (pos 1)))) [] [] []

sums : map sum_amount ((pos 1 ∷ pos 0 ∷ []) ∷ (pos 1 ∷ pos 1 ∷ []) ∷ (negsuc 0 ∷ negsuc 0 ∷ []) ∷ (pos 1 ∷ pos 1 ∷ pos 1 ∷ negsuc 0 ∷ negsuc 0 ∷ []) ∷ (pos 2 ∷ negsuc 0 ∷ []) ∷ []) ≡ Finite (2 ^ 126 - 1) ∷ Wide ∷ Wide ∷ Finite (2 ^ 126 - 1) ∷ Wide ∷ []
sums = refl

abbrev product_amount : List ℤ → Amount
product_amount ks = amount_at (num (mul (terms_of (map large ks)))) [] [] []

-- a factor 0 hides that a product is wide, but not that a factor is
products : map product_amount ((pos 1 ∷ pos 0 ∷ []) ∷ (pos 1 ∷ pos 1 ∷ []) ∷ (pos 1 ∷ pos 1 ∷ pos 0 ∷ []) ∷ (pos 2 ∷ pos 0 ∷ []) ∷ []) ≡ Finite 0 ∷ Wide ∷ Finite 0 ∷ Wide ∷ []
products = refl

-- ---- assertions

abbrev plain : AssertionTree → Amount
plain a = amount_at a [] [] []

-- 2^126, and 2^127, which is wide
abbrev wide_half : AssertionTree
wide_half = num (large (pos 1))

abbrev wide_part : AssertionTree
wide_part = num (large (pos 2))

edges_of_wide : map (λ k. plain (natural k)) ((2 ^ 127 - 1) ∷ (2 ^ 127) ∷ []) ≡ Finite (2 ^ 127 - 1) ∷ Wide ∷ []
edges_of_wide = refl

-- infinity hides that a sum is wide, but not that a part is
abbrev part_lists : List (List AssertionTree)
part_lists = (natural 3 ∷ natural 4 ∷ []) ∷ (wide_half ∷ wide_half ∷ []) ∷ (infinity ∷ wide_half ∷ wide_half ∷ []) ∷ (infinity ∷ wide_part ∷ []) ∷ []

totals : map (λ parts. plain (total (assertions_of parts))) part_lists ≡ Finite 7 ∷ Wide ∷ Infinite ∷ Wide ∷ []
totals = refl

greatest_parts : map (λ parts. plain (greatest (assertions_of parts))) part_lists ≡ Finite 4 ∷ Finite (2 ^ 126) ∷ Infinite ∷ Wide ∷ []
greatest_parts = refl

-- 0 times infinity is 0
factors : map (λ parts. plain (product (assertions_of parts))) ((natural 0 ∷ infinity ∷ []) ∷ (infinity ∷ natural 0 ∷ []) ∷ (natural 1 ∷ infinity ∷ []) ∷ (natural 0 ∷ wide_part ∷ []) ∷ (wide_half ∷ wide_half ∷ infinity ∷ []) ∷ []) ≡ Finite 0 ∷ Finite 0 ∷ Infinite ∷ Wide ∷ Infinite ∷ []
factors = refl

-- 3 < 4, or 3 < 3
abbrev condition : Bool → CondTree
condition holds = lt (number (pos 3)) (number (if holds then pos 4 else pos 3))

-- what isn't evaluated isn't wide
guards : plain (guard (condition false) wide_part) ∷ plain (guard (condition true) wide_part) ∷ plain (guard (condition true) (natural 5)) ∷ [] ≡ Infinite ∷ Wide ∷ Finite 5 ∷ []
guards = refl

choices : plain (choose (condition true) (natural 5) wide_part) ∷ plain (choose (condition false) wide_part (natural 5)) ∷ plain (choose (condition false) (natural 5) wide_part) ∷ [] ≡ Finite 5 ∷ Finite 5 ∷ Wide ∷ []
choices = refl

-- ---- names

abbrev define : ℕ → AssertionTree → Define
define letter body = record { name = letter ∷ []; body = body }

-- e is f; f is (cost 1); g is f; f is 7; w is wide; h is w
abbrev definitions : List Define
definitions = define 101 (named (102 ∷ [])) ∷ define 102 (cost 1) ∷ define 103 (named (102 ∷ [])) ∷ define 102 (natural 7) ∷ define 119 wide_part ∷ define 104 (named (119 ∷ [])) ∷ []

-- e, f, g, h and n
abbrev letters : List ℕ
letters = 101 ∷ 102 ∷ 103 ∷ 104 ∷ 110 ∷ []

-- a name has the value of its first definition; what isn't defined, or not earlier, is infinite
values_of_names : map (λ letter. amount_at (named (letter ∷ [])) definitions [] (16 ∷ 40 ∷ [])) letters ≡ Infinite ∷ Finite 40 ∷ Finite 40 ∷ Wide ∷ Infinite ∷ []
values_of_names = refl

bounds_of_names : map (λ letter. bound_at (named (letter ∷ [])) definitions [] (16 ∷ 40 ∷ []) 0) letters ≡ Infinite ∷ Finite 56 ∷ Finite 56 ∷ Wide ∷ Infinite ∷ []
bounds_of_names = refl

-- ---- substitution

-- (wrapu (sub n 1))
abbrev one_less : TermTree
one_less = wrapu (sub n (number (pos 1)))

-- an int isn't replaced by what stands for an unsigned variable of its number
replaced : map (λ type. in_assertion (x type) one_less (num n)) (Int ∷ Unsigned ∷ []) ≡ num one_less ∷ num n ∷ []
replaced = refl

-- ---- the order of definitions

abbrev name : ℕ → AssertionTree
name letter = named (letter ∷ [])

in_order : map order_fault ([] ∷ (define 104 (natural 5) ∷ define 107 (name 104) ∷ []) ∷ (define 104 (natural 5) ∷ define 104 (name 104) ∷ []) ∷ []) ≡ None ∷ None ∷ None ∷ []
in_order = refl

-- a name that is defined later, its own name, and a name that isn't defined
out_of_order : map order_fault ((define 107 (name 104) ∷ define 104 (natural 5) ∷ []) ∷ (define 104 (name 104) ∷ []) ∷ (define 104 (natural 5) ∷ define 107 (name 104) ∷ define 109 (total (assertions_of (name 107 ∷ name 110 ∷ []))) ∷ []) ∷ []) ≡ Some 0 ∷ Some 0 ∷ Some 2 ∷ []
out_of_order = refl

-- ---- variables

-- the parameter of number 1
abbrev y : Var
y = record { kind = Plain 1; number = Int }

abbrev difference : AssertionTree
difference = num (sub n (variable y))

mentioned : map (mentions (guard (lt (variable y) n) (cost 0))) (x Int ∷ y ∷ x Unsigned ∷ []) ≡ true ∷ true ∷ false ∷ []
mentioned = refl

not_mentioned : map (λ a. mentions a y) (num n ∷ name 104 ∷ infinity ∷ difference ∷ []) ≡ false ∷ false ∷ false ∷ true ∷ []
not_mentioned = refl

-- ---- substitution of all at once

abbrev for : Var → TermTree → Image
for v t = record { variable = v; term = t }

-- x and y are exchanged
exchanged : substituted (images (for (x Int) (variable y) ∷ for y n ∷ []) AreMissing) difference ≡ Whole (num (sub (variable y) n))
exchanged = refl

-- the first image of a variable counts, and others stay or are missing
first_image : map (λ others. substituted (images (for y (number (pos 1)) ∷ for y (number (pos 2)) ∷ []) others) difference) (Stay ∷ AreMissing ∷ []) ≡ Whole (num (sub n (number (pos 1)))) ∷ Missing (x Int) ∷ []
first_image = refl

-- the first in the order of the text is told
first_missing : substituted (images [] AreMissing) (guard (lt (variable y) n) (num n)) ≡ Missing y
first_missing = refl
