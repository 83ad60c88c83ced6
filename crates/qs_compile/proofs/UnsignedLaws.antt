-- Which of main's parameters are `unsigned`.
use Rattle.std.proofs.Common.{◌≡◌, ℕ, zero, suc, ◌+◌, ◌*◌, ◌/◌, ◌%◌, ◌^◌, ◌<◌, ◌≤◌, Bool, true, false, List, [], ◌∷◌, length, drop, take, map, min, sym, ap, ◌∙◌, arith}
use Rattle.std.specs.Prelude.{◌==◌, if◌then◌else◌}
use Rattle.std.specs.List.{slice_get}
use Rattle.std.proofs.lemmas.Bool.Decides.{nat_tests}
use Rattle.std.proofs.Math.Nat.{pow-le-pow_right}
use Rattle.std.proofs.lemmas.List.{length-drop}
use Rattle.std.proofs.lemmas.Nat.{shr-shr, pow-add}
use Rattle.qs_memory.specs.Scalars.{same_scalar, is_type}
use Rattle.qs_memory.specs.declared.scalar.Scalar.{Scalar}
use Rattle.qs_memory.specs.declared.scalar.Scalar.TheVariants as scalars
use Rattle.qs_core.specs.declared.units.CoreParameter.{CoreParameter}
use Rattle.qs_core.specs.declared.units.CoreVariable.{CoreVariable}
use Rattle.qs_core.specs.TreeOf.{parameter_tree, variable_tree}
use Rattle.qs_core.specs.Interfaces.{types_of}
use Rattle.qs_compile.specs.Units.{set_of}

abbrev bit : Bool → ℕ
bit b = if b then 1 else 0

zero_bits : (i : ℕ) → (0 / 2 ^ i % 2 == 1) ≡ false
zero_bits i = let e : 0 / 2 ^ i ≡ 0 = omega arith in ap (λ (n : ℕ). n % 2 == 1) e

-- the bits of an even number and one more
first_bit : (b : Bool) (n : ℕ) → ((bit b + 2 * n) / 1 % 2 == 1) ≡ b
first_bit true n = grind (arith, nat_tests)
first_bit false n = grind (arith, nat_tests)

bit_small : (b : Bool) → bit b < 2
bit_small true = omega arith
bit_small false = omega arith

half : (b : Bool) (n : ℕ) → (bit b + 2 * n) / 2 ≡ n
half b n = let small = bit_small b in omega (arith, small)

pub set_holds : (types : List Scalar) (i : ℕ) → (set_of types / 2 ^ i % 2 == 1) ≡ is_type (slice_get types i) scalars.Unsigned
set_holds [] i = zero_bits i
set_holds (s ∷ types) zero = first_bit (same_scalar s scalars.Unsigned) (set_of types)
set_holds (s ∷ types) (suc i) =
    let b = same_scalar s scalars.Unsigned in
    let halved : (bit b + 2 * set_of types) / 2 ^ suc i ≡ set_of types / 2 ^ i = by_halves (bit b + 2 * set_of types) i ∙ ap (λ (n : ℕ). n / 2 ^ i) (half b (set_of types)) in
    ap (λ (n : ℕ). n % 2 == 1) halved ∙ set_holds types i
  where
    by_halves : (n i : ℕ) → n / 2 ^ suc i ≡ n / 2 / 2 ^ i
    by_halves n i = let one : 1 + i ≡ suc i = omega arith in sym (shr-shr n 1 i ∙ ap (λ (k : ℕ). n / 2 ^ k) one)

pub set_small : (types : List Scalar) → set_of types < 2 ^ length types
set_small [] = omega arith
set_small (s ∷ types) =
    let small = bit_small (same_scalar s scalars.Unsigned) in
    let rest = set_small types in
    let one : 1 + length types ≡ suc (length types) = omega arith in
    let doubled : 2 ^ suc (length types) ≡ 2 * 2 ^ length types = ap (λ (k : ℕ). 2 ^ k) (sym one) ∙ pow-add 2 1 (length types) in
    omega (arith, small, rest, doubled)

-- of at most eight types
pub set_few : (types : List Scalar) (i : ℕ) → length types ≤ 8 → set_of (drop i types) < 2 ^ 8
set_few types i few =
    let small = set_small (drop i types) in
    let fewer : length (drop i types) ≤ 8 = omega (arith, length-drop i types) in
    let most : 2 ^ length (drop i types) ≤ 2 ^ 8 = pow-le-pow_right (omega arith) fewer in
    omega (arith, small, most)

-- ---- types

abbrev pub scalars_of : List CoreVariable → List Scalar
scalars_of = map (λ v. v.scalar)

-- the first variables have the types of the parameters
pub types_taken : (ps : List CoreParameter) (vs : List CoreVariable) → scalars_of (take (min (length ps) (length vs)) vs) ≡ types_of (map parameter_tree ps) (map variable_tree vs)
types_taken [] vs = let none : min 0 (length vs) ≡ 0 = omega arith in ap (λ (n : ℕ). scalars_of (take n vs)) none
types_taken (p ∷ ps) [] = let none : min (suc (length ps)) 0 ≡ 0 = omega arith in ap (λ (n : ℕ). scalars_of (take n [])) none
types_taken (p ∷ ps) (v ∷ vs) =
    let more : min (suc (length ps)) (suc (length vs)) ≡ suc (min (length ps) (length vs)) = omega arith in
    ap (λ (n : ℕ). scalars_of (take n (v ∷ vs))) more ∙ ap (λ (types : List Scalar). v.scalar ∷ types) (types_taken ps vs)
