-- Main's arguments as values: the numbers of its parameters at the entry.
use Rattle.std.proofs.Common.{◌≡◌, ℕ, zero, suc, ◌+◌, ◌-◌, ◌<◌, ◌%◌, ◌^◌, true, false, if◌then◌else◌, ℤ, pos, negsuc, List, [], ◌∷◌, Option, Some, option_map, refl, sym, ap, ◌∙◌, arith}
use Rattle.std.specs.Prelude.{◌≤ℤ◌, ◌-ℤ◌, nat_lt, slice_index_or}
use Rattle.std.specs.List.{slice_get, list_all}
use Rattle.std.proofs.lemmas.Int.{ints}
use Rattle.std.proofs.lemmas.Bool.Decides.{nat_tests}
use Rattle.std.proofs.lemmas.Option.{slice_get-map, same_Some}
use Rattle.std.proofs.lemmas.Bool.{and_parts}
use Rattle.qs_base.specs.Words.{signed, wrap}
use Rattle.qs_base.proofs.WordLaws.{wrap-below}
use Rattle.qs_memory.specs.Memory.{Memory}
use Rattle.qs_memory.specs.Partial.{◌>>=◌}
use Rattle.qs_memory.specs.Values.{integer}
use Rattle.qs_memory.specs.Scalars.{is_promoted}
use Rattle.qs_memory.specs.declared.scalar.Scalar.{Scalar}
use Rattle.qs_memory.specs.declared.scalar.Scalar.TheVariants as scalars
use Rattle.qs_calls.specs.Starts.{IsOf, AreOf}
use Rattle.qs_assert.specs.Bounds.{argument}
use Rattle.qs_assert.specs.Substitution.{same_number_type}
use Rattle.qs_assert.specs.declared.variable.NumberType.{NumberType}
use Rattle.qs_assert.specs.declared.variable.NumberType.TheVariants as numbers
use Rattle.qs_assert.specs.declared.variable.VarKind.{VarKind}
use Rattle.qs_assert.specs.declared.variable.VarKind.TheVariants as kinds
use Rattle.qs_core.specs.Fits.{parameter_fits, parameters_fit}
use Rattle.qs_core.specs.Interfaces.{types_of, parameter_types}
use Rattle.qs_core.specs.Trees.{CoreParameterTree, CoreVariableTree, CoreFunctionTree}
use Rattle.qs_triples.specs.Mentions.{is_plain_parameter, in_pre}
use Rattle.qs_triples.specs.Valuations.{number_of, number_type, if_number, own_type, is_number_type, is_own, number_at, at_entry, entered}
use Rattle.qs_triples.proofs.ArgumentLaws.{entered_at}
use Rattle.qs_triples.proofs.ValuationLaws.{own_number}
use Rattle.qs_certify.specs.Bound.{values_of, IsNumberOf, AreNumbersOf}

-- ---- numbers and words

-- the word of a number of `int` stands for it again
signed_back : (z : ℤ) → negsuc (2 ^ 31 - 1) ≤ℤ z → z ≤ℤ pos (2 ^ 31 - 1) → signed (wrap z % 2 ^ 32) ≡ z
signed_back (pos n) low high =
    let small : n < 2 ^ 31 = omega (arith, ints) in
    let word : wrap (pos n) % 2 ^ 32 ≡ n = omega arith in
    let less : nat_lt n (2 ^ 31) ≡ true = grind (arith, nat_tests, small) in
    ap signed word ∙ ap (λ b. if b then pos n else pos n -ℤ pos (2 ^ 32)) less
signed_back (negsuc n) low high =
    let small : n < 2 ^ 31 = omega (arith, ints) in
    let word : wrap (negsuc n) % 2 ^ 32 ≡ 2 ^ 32 - 1 - n = omega arith in
    let more : nat_lt (2 ^ 32 - 1 - n) (2 ^ 31) ≡ false = grind (arith, nat_tests, small) in
    let back : pos (2 ^ 32 - 1 - n) -ℤ pos (2 ^ 32) ≡ negsuc n = omega (arith, ints) in
    ap signed word ∙ ap (λ b. if b then pos (2 ^ 32 - 1 - n) else pos (2 ^ 32 - 1 - n) -ℤ pos (2 ^ 32)) more ∙ back

unsigned_back : (z : ℤ) → pos 0 ≤ℤ z → z ≤ℤ pos (2 ^ 32 - 1) → pos (wrap z % 2 ^ 32) ≡ z
unsigned_back (pos n) low high =
    let small : n < 2 ^ 32 = omega (arith, ints) in
    let word : wrap (pos n) % 2 ^ 32 ≡ n = omega arith in
    ap pos word
unsigned_back (negsuc n) low high = absurd (let never : ⊥ = omega (arith, ints) in never)

byte_back : (z : ℤ) → pos 0 ≤ℤ z → z ≤ℤ pos 255 → pos (wrap z % 2 ^ 8) ≡ z
byte_back (pos n) low high =
    let small : n < 2 ^ 8 = omega (arith, ints) in
    let word : wrap (pos n) % 2 ^ 8 ≡ n = omega arith in
    ap pos word
byte_back (negsuc n) low high = absurd (let never : ⊥ = omega (arith, ints) in never)

number_back : (s : Scalar) (z : ℤ) → IsNumberOf s z → number_of (integer (wrap z)) (number_type s) ≡ z
number_back scalars.Char z h = byte_back z h.0 h.1
number_back scalars.Int z h = signed_back z h.0 h.1
number_back scalars.Unsigned z h = unsigned_back z h.0 h.1
number_back scalars.Pointer z h = signed_back z h.0 h.1

-- ---- the argument of a parameter

record Given (xs : List CoreVariableTree) (zs : List ℤ) (i : ℕ) : Type 0 where
  scalar : Scalar
  typed : option_map (λ (v : CoreVariableTree). v.scalar) (slice_get xs i) ≡ Some scalar
  number : ℤ
  is : slice_get zs i ≡ Some number
  range : IsNumberOf scalar number

given_at :
    (blocks : List ℕ) (n : ℕ) (ps : List CoreParameterTree) (xs : List CoreVariableTree) (zs : List ℤ) (i : ℕ) → parameters_fit blocks n ps xs ≡ true
    → AreNumbersOf (types_of ps xs) zs → is_plain_parameter (slice_get ps i) ≡ true → Given xs zs i
given_at blocks n [] xs zs i fit are plain = cc
given_at blocks n (p ∷ ps) [] zs i fit are plain = cc
given_at blocks n (p ∷ ps) (x ∷ xs) [] i fit are plain = absurd are
given_at blocks n (p ∷ ps) (x ∷ xs) (z ∷ zs) zero fit are plain =
    record { scalar = x.scalar; typed = refl; number = z; is = refl; range = are.0 }
given_at blocks n (p ∷ ps) (x ∷ xs) (z ∷ zs) (suc i) fit are plain =
    let g = given_at blocks (n + 1) ps xs zs i (and_parts (parameter_fits blocks n p x) (parameters_fit blocks (n + 1) ps xs) fit).1 are.1 plain in
    record { scalar = g.scalar; typed = g.typed; number = g.number; is = g.is; range = g.range }

index_is : (zs : List ℤ) (i : ℕ) (z : ℤ) → slice_get zs i ≡ Some z → slice_index_or zs i (pos 0) ≡ z
index_is [] i z h = cc
index_is (y ∷ zs) zero z h = same_Some y z h
index_is (y ∷ zs) (suc i) z h = index_is zs i z h

types_same : (n m : NumberType) → same_number_type n m ≡ true → n ≡ m
types_same numbers.Int numbers.Int h = refl
types_same numbers.Unsigned numbers.Unsigned h = refl
types_same numbers.Char numbers.Char h = refl
types_same _ _ h = cc

own_of : (s : Scalar) (n : NumberType) → is_number_type (if_number s) n ≡ true → (if_number s ≡ Some (number_type s)) × (number_type s ≡ n)
own_of scalars.Char n h = (refl, types_same numbers.Char n h)
own_of scalars.Int n h = (refl, types_same numbers.Int n h)
own_of scalars.Unsigned n h = (refl, types_same numbers.Unsigned n h)
own_of scalars.Pointer n h = cc

-- at the entry a parameter that a precondition may mention has the number of its argument
pub argument_number :
    (f : CoreFunctionTree) (zs : List ℤ) → parameters_fit f.blocks 0 f.parameters f.variables ≡ true → AreNumbersOf (parameter_types f) zs
    → (k : VarKind) (n : NumberType) → in_pre f k ≡ true → is_own f (record { kind = k; number = n }) ≡ true
    → argument zs k ≡ number_at f (at_entry f (values_of zs)) (record { kind = k; number = n })
argument_number f zs fit are (kinds.Plain i) n plain own =
    let a = given_at f.blocks 0 f.parameters f.variables zs i fit are plain in
    let here : is_number_type (if_number a.scalar) n ≡ true = ap (λ (o : Option Scalar). is_number_type (o >>= if_number) n) (sym a.typed) ∙ own in
    let types = own_of a.scalar n here in
    let typed : own_type f (kinds.Plain i) ≡ Some n = ap (λ (o : Option Scalar). o >>= if_number) a.typed ∙ types.0 ∙ ap Some types.1 in
    let value : slice_get (values_of zs) i ≡ Some (integer (wrap a.number)) =
    slice_get-map (λ (z : ℤ). integer (wrap z)) zs i ∙ ap (option_map (λ (z : ℤ). integer (wrap z))) a.is in
    let passed : entered f (values_of zs) i ≡ Some (integer (wrap a.number)) = entered_at f (values_of zs) i (integer (wrap a.number)) fit plain value in
    index_is zs i a.number a.is
    ∙ sym (number_back a.scalar a.number a.range)
    ∙ ap (number_of (integer (wrap a.number))) types.1
    ∙ sym (own_number f (at_entry f (values_of zs)) (kinds.Plain i) n (integer (wrap a.number)) typed passed)
argument_number f zs fit are (kinds.Temporary i) n plain own = cc
argument_number f zs fit are (kinds.Old i) n plain own = cc
argument_number f zs fit are kinds.Returned n plain own = cc

-- ---- the values of arguments

value_is : (m : Memory) (s : Scalar) (z : ℤ) → is_promoted s ≡ true → IsOf m s (integer (wrap z))
value_is m scalars.Int z h = record { typed = (let word = wrap-below z in grind (arith, nat_tests)); sound = wrap-below z }
value_is m scalars.Unsigned z h = record { typed = (let word = wrap-below z in grind (arith, nat_tests)); sound = wrap-below z }
value_is m scalars.Char z h = cc
value_is m scalars.Pointer z h = cc

pub values_are : (m : Memory) (types : List Scalar) (zs : List ℤ) → list_all is_promoted types ≡ true → AreNumbersOf types zs → AreOf m types (values_of zs)
values_are m [] [] promoted are = tt
values_are m [] (z ∷ zs) promoted are = are
values_are m (s ∷ types) [] promoted are = are
values_are m (s ∷ types) (z ∷ zs) promoted are =
    let p = and_parts (is_promoted s) (list_all is_promoted types) promoted in
    (value_is m s z p.0, values_are m types zs p.1 are.1)
