-- Steps on values of the types that they take are defined exactly where nothing of the nine cases is met.
use Rattle.std.proofs.Common.{◌≡◌, ◌↔◌, ℕ, ◌==◌, ◌&&◌, ◌||◌, not, nat_lt, nat_le, Bool, true, false, ℤ, pos, ◌-ℤ◌, ◌*ℤ◌, Option, Some, IsSome, refl, sym, ap, subst, arith}
use Rattle.std.proofs.lemmas.Bool.{eq-eqb, and_parts}
use Rattle.std.proofs.lemmas.Bool.Decides.{nat_tests}
use Rattle.qs_memory.specs.declared.scalar.Scalar.{Scalar}
use Rattle.qs_memory.specs.declared.scalar.Scalar.TheVariants as scalars
use Rattle.qs_memory.specs.declared.operation.Signedness.{Signedness}
use Rattle.qs_memory.specs.declared.operation.Signedness.TheVariants.{Signed, Unsigned}
use Rattle.qs_memory.specs.declared.operation.Arithmetic.{Arithmetic}
use Rattle.qs_memory.specs.declared.operation.Arithmetic.TheVariants as arithmetics
use Rattle.qs_memory.specs.declared.operation.Comparison.{Comparison}
use Rattle.qs_memory.specs.declared.operation.Comparison.TheVariants as comparisons
use Rattle.qs_memory.specs.declared.operation.UnaryOperation.{UnaryOperation}
use Rattle.qs_memory.specs.declared.operation.UnaryOperation.TheVariants as unaries
use Rattle.qs_memory.specs.declared.operation.BinaryOperation.{BinaryOperation}
use Rattle.qs_memory.specs.declared.operation.BinaryOperation.TheVariants as binaries
use Rattle.qs_memory.specs.Partial.{◌>>=◌, only_if}
use Rattle.qs_memory.specs.Values.{Pointer, null, into, Value, integer, address, as_integer, as_pointer, has_type, convert}
use Rattle.qs_memory.specs.Integers.{reading, quotient, remainder, shifted_right, calculate}
use Rattle.qs_memory.specs.Memory.{Memory, Target, target}
use Rattle.qs_memory.specs.Pointers.{moved, directed, in_one_block, elements, equal, compares_pointers, truth}
use Rattle.qs_memory.specs.Operations.{of_truth, integer_type, apply_unary, apply_binary}
use Rattle.qs_memory.specs.Soundness.{IsLive}
use Rattle.qs_memory.specs.Accesses.{AreInOneBlock}
use Rattle.qs_memory.specs.Scalars.{same_scalar, is_pointer, is_promoted}
use Rattle.qs_memory.specs.Operands.{unary_takes, right_takes, binary_takes}
use Rattle.qs_memory.proofs.ScalarLaws.{scalar_same}
use Rattle.qs_memory.proofs.Options.{followed, only_if_some, answer_of, some_is, some_then, then_some}
use Rattle.qs_memory.proofs.BlockLaws.{target_is}
use Rattle.qs_memory.proofs.DefinedLaws.{steps_are_defined}
use Rattle.qs_memory.proofs.PointerLaws.{pointers_are_defined}
use Rattle.qs_calls.specs.Starts.{IsOf}
use Rattle.qs_meaning.specs.Typed.{Conversion, unchanged, converted}
use Rattle.qs_meaning.specs.Fits.{conversion_fits}
use Rattle.qs_meaning.specs.States.{convert_by}
use Rattle.qs_meaning.specs.StepLaws.{calculates, IsTested, AreCompared, AreSubtracted, MovesTo, UnaryNeeds, BinaryNeeds, StepsOnTypesAreDefined}

-- ---- values of types

-- an integer type's values are integers
pub is_integer_at : (m : Memory) (s : Scalar) (p : Pointer) → is_pointer s ≡ false → has_type s (address p) ≡ true → false ≡ true
is_integer_at m scalars.Char p e h = h
is_integer_at m scalars.Int p e h = h
is_integer_at m scalars.Unsigned p e h = h
is_integer_at m scalars.Pointer p e h = sym e

pub word_is_integer : (s : Signedness) → is_pointer (integer_type s) ≡ false
word_is_integer Signed = refl
word_is_integer Unsigned = refl

-- an operand whose type is that of integers is an integer, one of a pointer's type is a pointer
no_address : (m : Memory) (s t : Scalar) (p : Pointer) → is_pointer t ≡ false → same_scalar s t ≡ true → has_type s (address p) ≡ true → false ≡ true
no_address m s t p e fit h = is_integer_at m t p e (subst (λ (z : Scalar). has_type z (address p) ≡ true) (scalar_same s t fit) h)

pub no_integer : (s : Scalar) (n : ℕ) → is_pointer s ≡ true → has_type s (integer n) ≡ true → false ≡ true
no_integer s n fit h = subst (λ (z : Scalar). has_type z (integer n) ≡ true) (scalar_same s scalars.Pointer fit) h

-- ---- conversions

converts_integer : (to : Scalar) (n : ℕ) → is_pointer to ≡ false → IsSome (convert to (integer n))
converts_integer scalars.Char n e = refl
converts_integer scalars.Int n e = refl
converts_integer scalars.Unsigned n e = refl
converts_integer scalars.Pointer n e = cc

neither : (a b : Bool) → (not a && (not b || false)) ≡ true → (a ≡ false) × (b ≡ false)
neither true b e = cc
neither false true e = cc
neither false false e = (refl, refl)

conversion_defined : (c : Conversion) (s : Scalar) (m : Memory) (x : Value) → conversion_fits c s false ≡ true → IsOf m s x → IsSome (convert_by c x)
conversion_defined unchanged s m x fit of = refl
conversion_defined (converted from to) s m (integer n) fit of =
    let two = and_parts (same_scalar from s) _ fit in converts_integer to n (neither (is_pointer from) (is_pointer to) two.1).1
conversion_defined (converted from to) s m (address p) fit of =
    let two = and_parts (same_scalar from s) _ fit in
    let none = is_integer_at m from p (neither (is_pointer from) (is_pointer to) two.1).0
    (subst (λ (t : Scalar). has_type t (address p) ≡ true) (sym (scalar_same from s two.0)) of.typed) in
    cc

null_defined : (c : Conversion) (s : Scalar) → conversion_fits c s true ≡ true → IsSome (convert_by c (integer 0))
null_defined unchanged s fit = refl
null_defined (converted from scalars.Char) s fit = refl
null_defined (converted from scalars.Int) s fit = refl
null_defined (converted from scalars.Unsigned) s fit = refl
null_defined (converted from scalars.Pointer) s fit = refl

pointer_defined : (m : Memory) (x : Value) → IsOf m scalars.Pointer x → IsSome (as_pointer x)
pointer_defined m (integer n) of = of.typed
pointer_defined m (address p) of = refl

-- ---- tests

tested : (m : Memory) (x : Value) → IsSome (truth m x) ↔ IsTested m x
tested m (integer n) = (λ h. tt, λ h. refl)
tested m (address p) = (
  λ h. (pointers_are_defined.compared m p null).0 (then_some (equal m p null) not h),
  λ h.
      some_then (equal m p null) not ((pointers_are_defined.compared m p null).1 h),
)

unary_defined : (op : UnaryOperation) (s : Scalar) (m : Memory) (x : Value) → unary_takes op s ≡ true → IsOf m s x → IsSome (apply_unary op m x) ↔ UnaryNeeds op m x
unary_defined (unaries.Plus t) s m (integer n) fit of = (λ h. tt, λ h. refl)
unary_defined (unaries.Minus t) s m (integer n) fit of = (λ h. tt, λ h. refl)
unary_defined (unaries.Complement t) s m (integer n) fit of = (λ h. tt, λ h. refl)
unary_defined (unaries.Plus t) s m (address p) fit of = let e = no_address m s (integer_type t) p (word_is_integer t) fit of.typed in cc
unary_defined (unaries.Minus t) s m (address p) fit of = let e = no_address m s (integer_type t) p (word_is_integer t) fit of.typed in cc
unary_defined (unaries.Complement t) s m (address p) fit of = let e = no_address m s (integer_type t) p (word_is_integer t) fit of.typed in cc
unary_defined unaries.Not s m x fit of =
    let t = tested m x in (λ h. t.0 (then_some (truth m x) (λ b. of_truth (not b)) h), λ h. some_then (truth m x) (λ b. of_truth (not b)) (t.1 h))
unary_defined unaries.Truth s m x fit of =
    let t = tested m x in (λ h. t.0 (then_some (truth m x) of_truth h), λ h. some_then (truth m x) of_truth (t.1 h))

-- ---- arithmetic

only_where : {A : Type 0} (b : Bool) (x : A) → IsSome (only_if b (Some x)) ↔ (b ≡ true)
only_where true x = (λ h. refl, λ h. refl)
only_where false x = (λ h. h, λ h. h)

calculate_defined : (op : Arithmetic) (s : Signedness) (x y : ℕ) → IsSome (calculate op s x y) ↔ (calculates op s x y ≡ true)
calculate_defined arithmetics.Add s x y = (λ h. refl, λ h. refl)
calculate_defined arithmetics.Subtract s x y = (λ h. refl, λ h. refl)
calculate_defined arithmetics.Multiply s x y = (λ h. refl, λ h. refl)
calculate_defined arithmetics.Divide s x y = only_where _ (quotient s x y)
calculate_defined arithmetics.Remainder s x y = only_where _ (remainder s x y)
calculate_defined arithmetics.ShiftLeft s x y = only_where _ _
calculate_defined arithmetics.ShiftRight s x y = only_where _ (shifted_right s x y)
calculate_defined arithmetics.And s x y = (λ h. refl, λ h. refl)
calculate_defined arithmetics.Or s x y = (λ h. refl, λ h. refl)
calculate_defined arithmetics.Xor s x y = (λ h. refl, λ h. refl)

arithmetic_defined : (op : Arithmetic) (s : Signedness) (m : Memory) (x y : ℕ)
    → IsSome (apply_binary (binaries.Arithmetic op s) m (integer x) (integer y)) ↔ (calculates op s x y ≡ true)
arithmetic_defined op s m x y =
    let d = calculate_defined op s x y in
    (λ h. d.0 (then_some (calculate op s x y) integer h), λ h. some_then (calculate op s x y) integer (d.1 h))

-- ---- pointers

moved_defined : (m : Memory) (p : Pointer) (bytes : ℤ) → IsSome (moved m p bytes) ↔ MovesTo m p bytes
moved_defined m p bytes = (
  λ h. let a = answer_of (moved m p bytes) h in (a.value, (pointers_are_defined.moved m p a.value bytes).0 a.is),
  λ h. some_is (moved m p bytes) h.0 ((pointers_are_defined.moved m p h.0 bytes).1 h.1),
)

move_defined : (m : Memory) (p : Pointer) (bytes : ℤ) → IsSome (moved m p bytes >>= λ q. Some (address q)) ↔ MovesTo m p bytes
move_defined m p bytes =
    let d = moved_defined m p bytes in
    (λ h. d.0 (then_some (moved m p bytes) address h), λ h. some_then (moved m p bytes) address (d.1 h))

target_live : (m : Memory) (b o : ℕ) → IsLive m b → target m (into b o) ≡ Some (record { block = b; offset = o })
target_live m b o live = ap (λ l. only_if l (Some (record { block = b; offset = o }))) live

-- what is done in one block
record InBlock {A : Type 0} (m : Memory) (p q : Pointer) (next : ℕ → ℕ → Option A) : Type 0 where
  at : AreInOneBlock m p q
  is : IsSome (next at.left at.right)

in_block_needs : {A : Type 0} (m : Memory) (p q : Pointer) (next : ℕ → ℕ → Option A) → IsSome (in_one_block m p q next) → InBlock m p q next
in_block_needs m p q next h =
    let a = answer_of (in_one_block m p q next) h in
    let t = followed (target m p) _ a.value a.is in
    let u = followed (target m q) _ a.value t.then in
    let both = only_if_some (t.value.block == u.value.block) (next t.value.offset u.value.offset) a.value u.then in
    let first = target_is m p t.value t.first in
    let second = target_is m q u.value u.first in
    let same : u.value.block ≡ t.value.block = blocks_same t.value.block u.value.block both.0 in
    record {
      at = record {
        block = t.value.block;
        left = t.value.offset;
        right = u.value.offset;
        first = first.is;
        second = subst (λ b. q ≡ into b u.value.offset) same second.is;
        live = first.live;
      };
      is = some_is (next t.value.offset u.value.offset) a.value both.1;
    }
  where
    blocks_same : (b c : ℕ) → (b == c) ≡ true → c ≡ b
    blocks_same b c e = grind (arith, nat_tests)

in_block_allowed : {A : Type 0} (m : Memory) (p q : Pointer) (next : ℕ → ℕ → Option A) → InBlock m p q next → IsSome (in_one_block m p q next)
in_block_allowed m p q next h =
    let a = h.at in
    subst (λ (z : Pointer). IsSome (in_one_block m z q next)) (sym a.first)
    (subst (λ (z : Pointer). IsSome (in_one_block m (into a.block a.left) z next)) (sym a.second)
    (subst (λ (o : Option Target). IsSome (o >>= λ t. target m (into a.block a.right) >>= λ u. only_if (t.block == u.block) (next t.offset u.offset)))
    (sym (target_live m a.block a.left a.live))
    (subst (λ (o : Option Target). IsSome (o >>= λ (u : Target). only_if (a.block == u.block) (next a.left u.offset))) (sym (target_live m a.block a.right a.live))
    (subst (λ (b : Bool). IsSome (only_if b (next a.left a.right))) (sym (eq-eqb a.block a.block refl)) h.is))))

difference_defined : (element : ℕ) (m : Memory) (p q : Pointer) → IsSome (in_one_block m p q (λ i j. elements element (pos i -ℤ pos j))) ↔ AreSubtracted element m p q
difference_defined element m p q = (
  λ h. let b = in_block_needs m p q (λ i j. elements element (pos i -ℤ pos j)) h in record { in_block = b.at; whole = (only_where _ _).0 b.is },
  λ h. in_block_allowed m p q (λ i j. elements element (pos i -ℤ pos j)) (record { at = h.in_block; is = (only_where _ _).1 h.whole }),
)

compared_defined : (op : Comparison) (m : Memory) (p q : Pointer) → IsSome (compares_pointers op m p q) ↔ AreCompared op m p q
compared_defined comparisons.Less m p q = pointers_are_defined.ordered m p q (λ i j. nat_lt i j)
compared_defined comparisons.LessOrEqual m p q = pointers_are_defined.ordered m p q (λ i j. nat_le i j)
compared_defined comparisons.Greater m p q = pointers_are_defined.ordered m p q (λ i j. nat_lt j i)
compared_defined comparisons.GreaterOrEqual m p q = pointers_are_defined.ordered m p q (λ i j. nat_le j i)
compared_defined comparisons.Equal m p q = pointers_are_defined.compared m p q
compared_defined comparisons.NotEqual m p q =
    let d = pointers_are_defined.compared m p q in
    (λ h. d.0 (then_some (equal m p q) not h), λ h. some_then (equal m p q) not (d.1 h))

comparison_defined : (op : Comparison) (m : Memory) (p q : Pointer) → IsSome (compares_pointers op m p q >>= λ b. Some (of_truth b)) ↔ AreCompared op m p q
comparison_defined op m p q =
    let d = compared_defined op m p q in
    (λ h. d.0 (then_some (compares_pointers op m p q) of_truth h), λ h. some_then (compares_pointers op m p q) of_truth (d.1 h))

-- ---- operands of the types that an operation takes

pub promoted_no_pointer : (t : Scalar) → is_promoted t ≡ true → is_pointer t ≡ false
promoted_no_pointer scalars.Char h = cc
promoted_no_pointer scalars.Int h = refl
promoted_no_pointer scalars.Unsigned h = refl
promoted_no_pointer scalars.Pointer h = cc

second_no_address : (op : Arithmetic) (m : Memory) (s : Signedness) (t : Scalar) (p : Pointer) → right_takes op s t ≡ true → has_type t (address p) ≡ true → false ≡ true
second_no_address arithmetics.Add m s t p fit h = no_address m t (integer_type s) p (word_is_integer s) fit h
second_no_address arithmetics.Subtract m s t p fit h = no_address m t (integer_type s) p (word_is_integer s) fit h
second_no_address arithmetics.Multiply m s t p fit h = no_address m t (integer_type s) p (word_is_integer s) fit h
second_no_address arithmetics.Divide m s t p fit h = no_address m t (integer_type s) p (word_is_integer s) fit h
second_no_address arithmetics.Remainder m s t p fit h = no_address m t (integer_type s) p (word_is_integer s) fit h
second_no_address arithmetics.ShiftLeft m s t p fit h = is_integer_at m t p (promoted_no_pointer t fit) h
second_no_address arithmetics.ShiftRight m s t p fit h = is_integer_at m t p (promoted_no_pointer t fit) h
second_no_address arithmetics.And m s t p fit h = no_address m t (integer_type s) p (word_is_integer s) fit h
second_no_address arithmetics.Or m s t p fit h = no_address m t (integer_type s) p (word_is_integer s) fit h
second_no_address arithmetics.Xor m s t p fit h = no_address m t (integer_type s) p (word_is_integer s) fit h

operand_defined : (s : Scalar) (m : Memory) (x : Value) → is_promoted s ≡ true → IsOf m s x → IsSome (as_integer x)
operand_defined s m (integer n) fit of = refl
operand_defined s m (address p) fit of = let e = is_integer_at m s p (promoted_no_pointer s fit) of.typed in cc

binary_defined : (op : BinaryOperation) (s t : Scalar) (m : Memory) (x y : Value) → binary_takes op s t ≡ true → IsOf m s x → IsOf m t y
    → IsSome (apply_binary op m x y) ↔ BinaryNeeds op m x y
binary_defined (binaries.Arithmetic op n) s t m (integer x) (integer y) fit of og = arithmetic_defined op n m x y
binary_defined (binaries.Arithmetic op n) s t m (integer x) (address q) fit of og =
    let e = second_no_address op m n t q (and_parts (same_scalar s (integer_type n)) _ fit).1 og.typed in cc
binary_defined (binaries.Arithmetic op n) s t m (address p) y fit of og =
    let e = no_address m s (integer_type n) p (word_is_integer n) (and_parts (same_scalar s (integer_type n)) _ fit).0 of.typed in cc
binary_defined (binaries.Compare op n) s t m (integer x) (integer y) fit of og = (λ h. tt, λ h. refl)
binary_defined (binaries.Compare op n) s t m (integer x) (address q) fit of og =
    let e = no_address m t (integer_type n) q (word_is_integer n) (and_parts (same_scalar s (integer_type n)) _ fit).1 og.typed in cc
binary_defined (binaries.Compare op n) s t m (address p) y fit of og =
    let e = no_address m s (integer_type n) p (word_is_integer n) (and_parts (same_scalar s (integer_type n)) _ fit).0 of.typed in cc
binary_defined (binaries.Move direction n element) s t m (integer x) y fit of og =
    let e = no_integer s x (and_parts (is_pointer s) _ (and_parts (is_pointer s && same_scalar t (integer_type n)) _ fit).0).0 of.typed in cc
binary_defined (binaries.Move direction n element) s t m (address p) (integer y) fit of og = move_defined m p (directed direction (reading n y *ℤ pos element))
binary_defined (binaries.Move direction n element) s t m (address p) (address q) fit of og =
    let e = no_address m t (integer_type n) q (word_is_integer n) (and_parts (is_pointer s) _ (and_parts (is_pointer s && same_scalar t (integer_type n)) _ fit).0).1 og.typed in cc
binary_defined (binaries.Difference element) s t m (integer x) y fit of og = let e = no_integer s x (and_parts (is_pointer s) _ (and_parts (is_pointer s && is_pointer t) _ fit).0).0 of.typed in cc
binary_defined (binaries.Difference element) s t m (address p) (integer y) fit of og =
    let e = no_integer t y (and_parts (is_pointer s) _ (and_parts (is_pointer s && is_pointer t) _ fit).0).1 og.typed in cc
binary_defined (binaries.Difference element) s t m (address p) (address q) fit of og = difference_defined element m p q
binary_defined (binaries.ComparePointers op) s t m (integer x) y fit of og = let e = no_integer s x (and_parts (is_pointer s) _ fit).0 of.typed in cc
binary_defined (binaries.ComparePointers op) s t m (address p) (integer y) fit of og = let e = no_integer t y (and_parts (is_pointer s) _ fit).1 og.typed in cc
binary_defined (binaries.ComparePointers op) s t m (address p) (address q) fit of og = comparison_defined op m p q

pub steps_on_types_are_defined : StepsOnTypesAreDefined
steps_on_types_are_defined = record {
  conversion = conversion_defined;
  null_constant = null_defined;
  pointer = pointer_defined;
  operand = operand_defined;
  unary = unary_defined;
  binary = binary_defined;
  tested = tested;
  member = λ m p offset. moved_defined m p (pos offset);
  store = λ s m p x of. (λ h. ((steps_are_defined.store s m p x).0 h).0, λ h. (steps_are_defined.store s m p x).1 (h, of.typed));
}
