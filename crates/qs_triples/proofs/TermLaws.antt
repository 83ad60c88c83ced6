-- The term of an expression has the number of the expression's value.
use Rattle.std.proofs.Common.{◌≡◌, ℕ, zero, suc, ◌+◌, ◌*◌, ◌-◌, ◌/◌, ◌%◌, ◌^◌, ◌<◌, ◌≤◌, ◌==◌, Bool, true, false, if◌then◌else◌, List, Option, Some, None, refl, sym, ap, ◌∙◌, subst, arith}
use Rattle.std.specs.Prelude.{ℤ, pos, negsuc, ◌+ℤ◌, ◌-ℤ◌, ◌*ℤ◌, ◌&&◌, nat_lt, nat_le, option_map}
use Rattle.std.proofs.lemmas.Int.{ints}
use Rattle.std.proofs.lemmas.Bool.Decides.{nat_tests}
use Rattle.std.proofs.Math.Nat.{div-le_self, mod-le, div-add-mod}
use Rattle.std.proofs.lemmas.Bool.{and_parts}
use Rattle.std.proofs.lemmas.Option.{same_Some}
use Rattle.qs_base.specs.Words.{signed}
use Rattle.qs_base.specs.Words as words
use Rattle.qs_memory.specs.Partial.{◌>>=◌, only_if}
use Rattle.qs_memory.specs.Values.{Value, integer, address, has_type, convert}
use Rattle.qs_memory.specs.Memory.{Memory}
use Rattle.qs_memory.specs.Integers.{calculate, divides, is_count, minus}
use Rattle.qs_memory.specs.Integers as integers
use Rattle.qs_memory.specs.Operations.{on_integer, on_integers, apply_unary, apply_binary, integer_type, unary_type, binary_type}
use Rattle.qs_memory.specs.Scalars.{same_scalar, is_integer, is_type, is_promoted}
use Rattle.qs_memory.specs.Operands.{unary_takes, right_takes, binary_takes, conversion_takes}
use Rattle.qs_memory.proofs.ScalarLaws.{scalar_same, type_is}
use Rattle.qs_memory.specs.declared.scalar.Scalar.{Scalar}
use Rattle.qs_memory.specs.declared.scalar.Scalar.TheVariants as scalars
use Rattle.qs_memory.specs.declared.operation.Signedness.{Signedness}
use Rattle.qs_memory.specs.declared.operation.Signedness.TheVariants.{Signed, Unsigned}
use Rattle.qs_memory.specs.declared.operation.Arithmetic.{Arithmetic}
use Rattle.qs_memory.specs.declared.operation.Arithmetic.TheVariants as arithmetics
use Rattle.qs_memory.specs.declared.operation.UnaryOperation.{UnaryOperation}
use Rattle.qs_memory.specs.declared.operation.UnaryOperation.TheVariants as unaries
use Rattle.qs_memory.specs.declared.operation.BinaryOperation.{BinaryOperation}
use Rattle.qs_memory.specs.declared.operation.BinaryOperation.TheVariants as binaries
use Rattle.qs_memory.proofs.Options.{followed, only_if_value}
use Rattle.qs_calls.specs.World.{World, Environment}
use Rattle.qs_assert.specs.declared.variable.VarKind.{VarKind}
use Rattle.qs_assert.specs.declared.variable.VarKind.TheVariants as kinds
use Rattle.qs_assert.specs.Trees.{TermTree, number}
use Rattle.qs_assert.specs.Values.{State, Extended, term_value, wrapped_unsigned, wrapped_signed, quotient}
use Rattle.qs_core.specs.Trees.{CoreExprTree, literal, null_pointer, variable, temporary, address_of, load, member, unary, binary, conversion, logical_and, logical_or, conditional, CoreFunctionTree, CoreUnitTree}
use Rattle.qs_core.specs.Expressions.{Locals, value, type_of}
use Rattle.qs_core.specs.Interfaces.{variable_type, temporary_type}
use Rattle.qs_core.specs.Fits.{expr_fits}
use Rattle.qs_core.specs.Ranges.{IsInRange}
use Rattle.qs_core.specs.TermTrees.{CoreTermTree, combined, wrapped}
use Rattle.qs_core.specs.TermTrees as core_terms
use Rattle.qs_core.specs.Terms.{literal_value, literal_of, divisor, power, times, remainder_of, wrapped_both, divided, remainder, multiple, arithmetic_term, binary_term, unary_term, converted_term, conversion_term, if_integer, term_of}
use Rattle.qs_core.specs.declared.term.TermOperation.{TermOperation}
use Rattle.qs_core.specs.declared.term.TermOperation.TheVariants.{Add, Subtract, Multiply}
use Rattle.qs_core.proofs.TypeLaws.{value_is_of}
use Rattle.qs_triples.specs.Valuations.{number_of, number_type, if_number, own_type, value_of, number_at, within}
use Rattle.qs_triples.specs.ExpressionTerms.{var, two_terms, operation_term, wrapped_term, term_tree, expression_term}
use Rattle.qs_triples.proofs.Modulo.{Like, unsigned_same, signed_same, unsigned_word, signed_word, unsigned_reading_like, signed_reading_like, like_then, like_add, like_sub, like_mul}
use Rattle.qs_triples.proofs.ValuationLaws.{own_number}

-- ---- numbers of values

-- the number of these bits at a type
abbrev pub numbered : Scalar → ℕ → ℤ
numbered s n = number_of (integer n) (number_type s)

abbrev pub size : Scalar → ℕ
size scalars.Char = 256
size scalars.Int = 4294967296
size scalars.Unsigned = 4294967296
size scalars.Pointer = 0

-- an integer of this type
pub record Bits (s : Scalar) (v : Value) : Type 0 where
  pub bits : ℕ
  pub is : v ≡ integer bits
  pub small : bits < size s

pub bits_of : (s : Scalar) (v : Value) → is_integer s ≡ true → has_type s v ≡ true → Bits s v
bits_of scalars.Char (integer n) i h = record { bits = n; is = refl; small = grind (arith, nat_tests, h) }
bits_of scalars.Int (integer n) i h = record { bits = n; is = refl; small = grind (arith, nat_tests, h) }
bits_of scalars.Unsigned (integer n) i h = record { bits = n; is = refl; small = grind (arith, nat_tests, h) }
bits_of scalars.Char (address p) i h = cc
bits_of scalars.Int (address p) i h = cc
bits_of scalars.Unsigned (address p) i h = cc
bits_of scalars.Pointer v i h = cc

pub wide_small : (s : Signedness) (n : ℕ) → n < size (integer_type s) → n < 4294967296
wide_small Signed n h = h
wide_small Unsigned n h = h

pub wide_integer : (s : Signedness) → is_integer (integer_type s) ≡ true
wide_integer Signed = refl
wide_integer Unsigned = refl

pub unsigned_numbered : (n : ℕ) → n < 4294967296 → numbered scalars.Unsigned n ≡ pos n
unsigned_numbered n h = let same : n % 4294967296 ≡ n = omega arith in ap pos same

pub signed_numbered : (n : ℕ) → n < 4294967296 → numbered scalars.Int n ≡ signed n
signed_numbered n h = let same : n % 4294967296 ≡ n = omega arith in ap signed same

pub char_numbered : (n : ℕ) → n < 256 → numbered scalars.Char n ≡ pos n
char_numbered n h = let same : n % 256 ≡ n = omega arith in ap pos same

low_signed : (n : ℕ) → n < 256 → signed n ≡ pos n
low_signed n h = ap (λ b. if b then pos n else pos n -ℤ pos 4294967296) below
  where
    below : nat_lt n 2147483648 ≡ true
    below = grind (arith, nat_tests, h)

-- ---- what wraps

abbrev wrapped_number : Signedness → ℤ → ℤ
wrapped_number Signed z = wrapped_signed z
wrapped_number Unsigned z = wrapped_unsigned z

wrapped_value : (s : Signedness) (t : TermTree) (st : State) → term_value (wrapped_term s t) st ≡ wrapped_number s (term_value t st)
wrapped_value Signed t st = refl
wrapped_value Unsigned t st = refl

wrapped_bits : (s : Signedness) (z : ℤ) (n : ℕ) → Like z (pos n) → wrapped_number s z ≡ numbered (integer_type s) (n % 4294967296)
wrapped_bits Signed z n l = signed_same z (pos n) l ∙ signed_word n
wrapped_bits Unsigned z n l = unsigned_same z (pos n) l ∙ unsigned_word n

numbered_like : (s : Signedness) (n : ℕ) → Like (numbered (integer_type s) n) (pos n)
numbered_like Signed n = signed_reading_like n
numbered_like Unsigned n = unsigned_reading_like n

-- ---- a term that stands for a value

pub record Stands (s : Scalar) (v : Value) (z : ℤ) : Type 0 where
  pub integer : is_integer s ≡ true
  pub number : z ≡ number_of v (number_type s)

stands_at : (s t : Scalar) (v w : Value) (z : ℤ) → s ≡ t → v ≡ w → Stands s v z → Stands t w z
stands_at s t v w z p q h = subst (λ (s : Scalar). Stands s w z) p (subst (λ (v : Value). Stands s v z) q h)

times_one : (z : ℤ) → z *ℤ pos 1 ≡ z
times_one z = omega (arith, ints)

plus_none : (z : ℤ) → z +ℤ pos 0 ≡ z
plus_none z = omega (arith, ints)

-- a result modulo 2 ^ 32
stands_wrapped :
    (s : Signedness) (t : TermTree) (st : State) (n : ℕ) → Like (term_value t st) (pos n)
    → Stands (integer_type s) (integer (n % 4294967296)) (term_value (wrapped_term s t) st)
stands_wrapped s t st n l =
    record { integer = wide_integer s; number = wrapped_value s t st ∙ wrapped_bits s (term_value t st) n l }

module _ (st : State) where
  -- a number of these bits
  abbrev Reads : Signedness → TermTree → ℕ → Type 0
  Reads s t n = term_value t st ≡ numbered (integer_type s) n

  reads_like : (s : Signedness) (t : TermTree) (n : ℕ) → Reads s t n → Like (term_value t st) (pos n)
  reads_like s t n h = subst (λ z. Like z (pos n)) (sym h) (numbered_like s n)

  abbrev Counts : TermTree → ℕ → Type 0
  Counts t n = Like (term_value t st) (pos n)

  added : (s : Signedness) (t u : TermTree) (x y : ℕ) → Counts t x → Counts u y → Stands (integer_type s) (integer (words.add x y)) (term_value (wrapped_term s (operation_term Add t u)) st)
  added s t u x y h k =
      stands_wrapped s (operation_term Add t u) st (x + y)
      (subst (λ z. Like (term_value t st +ℤ z) (pos x +ℤ pos y)) (sym (plus_none (term_value u st))) (like_add (term_value t st) (term_value u st) (pos x) (pos y) h k))

  subtracted : (s : Signedness) (t u : TermTree) (x y : ℕ) → y < 4294967296 → Counts t x → Counts u y → Stands (integer_type s) (integer (words.sub x y)) (term_value (wrapped_term s (operation_term Subtract t u)) st)
  subtracted s t u x y small h k =
      stands_wrapped s (operation_term Subtract t u) st (x + 4294967296 - y)
      (like_then (term_value t st -ℤ term_value u st) (pos x -ℤ pos y) (pos (x + 4294967296 - y))
      (like_sub (term_value t st) (term_value u st) (pos x) (pos y) h k)
      (record { times = negsuc 0; is = omega (arith, ints, small) }))

  multiplied : (s : Signedness) (t u : TermTree) (x y : ℕ) → Counts t x → Counts u y → Stands (integer_type s) (integer (words.mul x y)) (term_value (wrapped_term s (operation_term Multiply t u)) st)
  multiplied s t u x y h k =
      stands_wrapped s (operation_term Multiply t u) st (x * y)
      (subst (λ z. Like (term_value t st *ℤ z) (pos x *ℤ pos y)) (sym (times_one (term_value u st))) (like_mul (term_value t st) (term_value u st) (pos x) (pos y) h k))

  -- ---- quotients and remainders of unsigned numbers

  quotient_is : (x k : ℕ) → x < 4294967296 → Stands scalars.Unsigned (integer (x / k)) (quotient (pos x) k)
  quotient_is x k small = record {
    integer = refl;
    number = let le = div-le_self x k in sym (unsigned_numbered (x / k) (omega (arith, le, small)));
  }

  quotient_stands : (t : TermTree) (x k : ℕ) → x < 4294967296 → Reads Unsigned t x → Stands scalars.Unsigned (integer (x / k)) (term_value (TermTree.div t k) st)
  quotient_stands t x k small h =
      subst (λ z. Stands scalars.Unsigned (integer (x / k)) (quotient z k)) (sym (h ∙ unsigned_numbered x small)) (quotient_is x k small)

  remainder_number : (x k : ℕ) → pos x -ℤ pos k *ℤ pos (x / k) ≡ pos (x % k)
  remainder_number x k =
      let d = div-add-mod x k in
      let e : pos k *ℤ pos (x / k) ≡ pos (k * (x / k)) = refl in
      omega (arith, ints, d, e)

  remainder_stands : (t : TermTree) (x k : ℕ) → 0 < k → x < 4294967296 → Reads Unsigned t x → Stands scalars.Unsigned (integer (x % k)) (term_value (TermTree.sub t (TermTree.mul (two_terms (number (pos k)) (TermTree.div t k)))) st)
  remainder_stands t x k least small h = record {
    integer = refl;
    number =
        ap (λ z. z -ℤ pos k *ℤ (quotient z k *ℤ pos 1)) (h ∙ unsigned_numbered x small)
        ∙ ap (λ z. pos x -ℤ pos k *ℤ z) (times_one (pos (x / k)))
        ∙ remainder_number x k
        ∙ (let le = mod-le x k in sym (unsigned_numbered (x % k) (omega (arith, le, small))));
  }

  -- ---- conversions

  char_remainder : (z : ℤ) (n : ℕ) → Like z (pos n) → z -ℤ pos 256 *ℤ (quotient z 256 *ℤ pos 1) ≡ pos (n % 256 % 256)
  char_remainder (pos k) n l = let e = l.is in omega (arith, ints, e)
  char_remainder (negsuc k) n l = let e = l.is in omega (arith, ints, e)

  char_stands : (s : Signedness) (t : CoreTermTree) (x : ℕ) → Reads s (term_tree t) x → Stands scalars.Char (integer (x % 256)) (term_value (term_tree (remainder_of t 256)) st)
  char_stands s t x h = record { integer = refl; number = char_remainder (term_value (term_tree t) st) x (reads_like s (term_tree t) x h) }

  converted_stands :
      (from to : Scalar) (c r : CoreTermTree) (x : ℕ) (v : Value)
      → converted_term from to c ≡ Some r → x < size from → term_value (term_tree c) st ≡ numbered from x
      → convert to (integer x) ≡ Some v → Stands to v (term_value (term_tree r) st)
  converted_stands scalars.Char scalars.Char c r x v h small is j =
      stands_at _ _ (integer (x % 256)) v _ refl (same_Some _ v j) (record {
        integer = refl;
        number = sym (ap (λ (c : CoreTermTree). term_value (term_tree c) st) (same_Some c r h)) ∙ is ∙ (let e : x % 256 ≡ x % 256 % 256 = omega arith in ap pos e);
      })
  converted_stands scalars.Char scalars.Int c r x v h small is j =
      stands_at _ _ (integer x) v _ refl (same_Some _ v j) (record {
        integer = refl;
        number = sym (ap (λ (c : CoreTermTree). term_value (term_tree c) st) (same_Some c r h)) ∙ is ∙ char_numbered x small ∙ sym (low_signed x small) ∙ sym (signed_numbered x (omega (arith, small)));
      })
  converted_stands scalars.Char scalars.Unsigned c r x v h small is j =
      stands_at _ _ (integer x) v _ refl (same_Some _ v j) (record {
        integer = refl;
        number = sym (ap (λ (c : CoreTermTree). term_value (term_tree c) st) (same_Some c r h)) ∙ is ∙ char_numbered x small ∙ sym (unsigned_numbered x (omega (arith, small)));
      })
  converted_stands scalars.Char scalars.Pointer c r x v h small is j = cc
  converted_stands scalars.Int scalars.Char c r x v h small is j =
      subst (λ (c : CoreTermTree). Stands scalars.Char v (term_value (term_tree c) st)) (same_Some _ r h)
      (stands_at _ _ (integer (x % 256)) v _ refl (same_Some _ v j) (char_stands Signed c x is))
  converted_stands scalars.Int scalars.Int c r x v h small is j =
      stands_at _ _ (integer x) v _ refl (same_Some _ v j)
      (record { integer = refl; number = sym (ap (λ (c : CoreTermTree). term_value (term_tree c) st) (same_Some c r h)) ∙ is })
  converted_stands scalars.Int scalars.Unsigned c r x v h small is j =
      subst (λ (c : CoreTermTree). Stands scalars.Unsigned v (term_value (term_tree c) st)) (same_Some _ r h)
      (stands_at _ _ (integer x) v _ refl (same_Some _ v j) (record {
        integer = refl;
        number = wrapped_bits Unsigned (term_value (term_tree c) st) x (reads_like Signed (term_tree c) x is) ∙ again x;
      }))
    where
      again : (x : ℕ) → numbered scalars.Unsigned (x % 4294967296) ≡ numbered scalars.Unsigned x
      again x = let e : x % 4294967296 % 4294967296 ≡ x % 4294967296 = omega arith in ap pos e
  converted_stands scalars.Int scalars.Pointer c r x v h small is j = cc
  converted_stands scalars.Unsigned scalars.Char c r x v h small is j =
      subst (λ (c : CoreTermTree). Stands scalars.Char v (term_value (term_tree c) st)) (same_Some _ r h)
      (stands_at _ _ (integer (x % 256)) v _ refl (same_Some _ v j) (char_stands Unsigned c x is))
  converted_stands scalars.Unsigned scalars.Int c r x v h small is j =
      subst (λ (c : CoreTermTree). Stands scalars.Int v (term_value (term_tree c) st)) (same_Some _ r h)
      (stands_at _ _ (integer x) v _ refl (same_Some _ v j) (record {
        integer = refl;
        number = wrapped_bits Signed (term_value (term_tree c) st) x (reads_like Unsigned (term_tree c) x is) ∙ again x;
      }))
    where
      again : (x : ℕ) → numbered scalars.Int (x % 4294967296) ≡ numbered scalars.Int x
      again x = let e : x % 4294967296 % 4294967296 ≡ x % 4294967296 = omega arith in ap signed e
  converted_stands scalars.Unsigned scalars.Unsigned c r x v h small is j =
      stands_at _ _ (integer x) v _ refl (same_Some _ v j)
      (record { integer = refl; number = sym (ap (λ (c : CoreTermTree). term_value (term_tree c) st) (same_Some c r h)) ∙ is })
  converted_stands scalars.Unsigned scalars.Pointer c r x v h small is j = cc
  converted_stands scalars.Pointer to c r x v h small is j = cc

  -- ---- arithmetic

  -- the right operand: its bits, where it is a literal, are its value
  abbrev IsLiteral : Option ℕ → ℕ → Type 0
  IsLiteral bits y = (k : ℕ) → bits ≡ Some k → k ≡ y

  at_core : (s : Scalar) (v : Value) (c r : CoreTermTree) → c ≡ r → Stands s v (term_value (term_tree c) st) → Stands s v (term_value (term_tree r) st)
  at_core s v c r e h = subst (λ (c : CoreTermTree). Stands s v (term_value (term_tree c) st)) e h

  record Both (op : TermOperation) (s : Signedness) (left right : Option CoreTermTree) (r : CoreTermTree) : Type 0 where
    first : CoreTermTree
    second : CoreTermTree
    left_is : left ≡ Some first
    right_is : right ≡ Some second
    is : wrapped s (combined op first second) ≡ r

  both_terms : (op : TermOperation) (s : Signedness) (left right : Option CoreTermTree) (r : CoreTermTree) → wrapped_both op s left right ≡ Some r → Both op s left right r
  both_terms op s left right r h =
      let a = followed left _ r h in
      let b = followed right _ r a.then in
      record { first = a.value; second = b.value; left_is = a.first; right_is = b.first; is = same_Some _ r b.then }

  divisor_is : (bits : Option ℕ) (k y : ℕ) → IsLiteral bits y → divisor bits ≡ Some k → (k ≡ y) × (1 ≤ k)
  divisor_is bits k y is h =
      let a = followed bits _ k h in
      let b = only_if_value (nat_le 1 a.value) a.value k a.then in
      let one = b.0 in
      (sym b.1 ∙ is a.value a.first, subst (λ k. 1 ≤ k) b.1 (grind (arith, nat_tests, one)))

  power_is : (bits : Option ℕ) (k y : ℕ) → IsLiteral bits y → power bits ≡ Some k → (k ≡ 2 ^ y) × (y < 32)
  power_is bits k y is h =
      let a = followed bits _ k h in
      let b = only_if_value (nat_lt a.value 32) (2 ^ a.value) k a.then in
      let low = b.0 in
      (sym b.1 ∙ ap (λ n. 2 ^ n) (is a.value a.first), subst (λ n. n < 32) (is a.value a.first) (grind (arith, nat_tests, low)))

  -- the result of an operation that may be undefined
  calculated : (test : Bool) (n : ℕ) (v : Value) → (only_if test (Some n) >>= λ n. Some (integer n)) ≡ Some v → integer n ≡ v
  calculated true n v h = same_Some _ v h
  calculated false n v h = cc

  by_other : (y : ℕ) (a b : ℕ) → 1 ≤ y → (if y == 0 then a else b) ≡ b
  by_other zero a b h = absurd (omega arith)
  by_other (suc y) a b h = let no : (suc y == 0) ≡ false = grind arith in ap (λ t. if t then a else b) no

  count_same : (y : ℕ) → y < 32 → y % 32 ≡ y
  count_same y h = omega arith

  -- the reading of the left operand
  abbrev First : Signedness → Option CoreTermTree → ℕ → Type 0
  First s left x = (t : CoreTermTree) → left ≡ Some t → Reads s (term_tree t) x

  quotient_case :
      (s : Signedness) (left : Option CoreTermTree) (by : Option ℕ) (r : CoreTermTree) (x n : ℕ) (v : Value)
      → divided s left by ≡ Some r → x < 4294967296 → First s left x
      → ((k : ℕ) → by ≡ Some k → (s ≡ Unsigned) → integer (x / k) ≡ v)
      → Stands (integer_type s) v (term_value (term_tree r) st)
  quotient_case Signed left by r x n v h small reads e = cc
  quotient_case Unsigned left by r x n v h small reads e =
      let a = followed left _ r h in
      let b = followed by _ r a.then in
      at_core scalars.Unsigned v (core_terms.quotient a.value b.value) r (same_Some _ r b.then)
      (stands_at scalars.Unsigned scalars.Unsigned _ v _ refl (e b.value b.first refl) (quotient_stands (term_tree a.value) x b.value small (reads a.value a.first)))

  divide_case :
      (s : Signedness) (left : Option CoreTermTree) (bits : Option ℕ) (r : CoreTermTree) (x y : ℕ) (v : Value)
      → divided s left (divisor bits) ≡ Some r → x < 4294967296 → IsLiteral bits y → First s left x
      → (only_if (divides s x y) (Some (integers.quotient s x y)) >>= λ n. Some (integer n)) ≡ Some v
      → Stands (integer_type s) v (term_value (term_tree r) st)
  divide_case Signed left bits r x y v h small is reads j = cc
  divide_case Unsigned left bits r x y v h small is reads j =
      quotient_case Unsigned left (divisor bits) r x y v h small reads (λ k by _.
      let d = divisor_is bits k y is by in
      ap (λ k. integer (x / k)) d.0 ∙ sym (ap integer (by_other y 4294967295 (x / y) (subst (λ k. 1 ≤ k) d.0 d.1)))
      ∙ calculated (divides Unsigned x y) (integers.quotient Unsigned x y) v j)

  remainder_case :
      (s : Signedness) (left : Option CoreTermTree) (bits : Option ℕ) (r : CoreTermTree) (x y : ℕ) (v : Value)
      → remainder s left (divisor bits) ≡ Some r → x < 4294967296 → IsLiteral bits y → First s left x
      → (only_if (divides s x y) (Some (integers.remainder s x y)) >>= λ n. Some (integer n)) ≡ Some v
      → Stands (integer_type s) v (term_value (term_tree r) st)
  remainder_case Signed left bits r x y v h small is reads j = cc
  remainder_case Unsigned left bits r x y v h small is reads j =
      let a = followed left _ r h in
      let b = followed (divisor bits) _ r a.then in
      let d = divisor_is bits b.value y is b.first in
      let e : integer (x % b.value) ≡ v =
      ap (λ k. integer (x % k)) d.0 ∙ sym (ap integer (by_other y x (x % y) (subst (λ k. 1 ≤ k) d.0 d.1)))
      ∙ calculated (divides Unsigned x y) (integers.remainder Unsigned x y) v j in
      at_core scalars.Unsigned v (remainder_of a.value b.value) r (same_Some _ r b.then)
      (stands_at scalars.Unsigned scalars.Unsigned _ v _ refl e (remainder_stands (term_tree a.value) x b.value (let l = d.1 in omega (arith, l)) small (reads a.value a.first)))

  left_case :
      (s : Signedness) (left : Option CoreTermTree) (bits : Option ℕ) (r : CoreTermTree) (x y : ℕ) (v : Value)
      → multiple s left (power bits) ≡ Some r → IsLiteral bits y → First s left x
      → (only_if (is_count y) (Some (words.sll x y)) >>= λ n. Some (integer n)) ≡ Some v
      → Stands (integer_type s) v (term_value (term_tree r) st)
  left_case s left bits r x y v h is reads j =
      let a = followed left _ r h in
      let b = followed (power bits) _ r a.then in
      let d = power_is bits b.value y is b.first in
      let e : integer (words.mul x b.value) ≡ v =
      ap (λ k. integer (x * k % 4294967296)) (d.0 ∙ ap (λ n. 2 ^ n) (sym (count_same y d.1)))
      ∙ calculated (is_count y) (words.sll x y) v j in
      at_core (integer_type s) v (wrapped s (times a.value b.value)) r (same_Some _ r b.then)
      (stands_at (integer_type s) (integer_type s) _ v _ refl e
      (multiplied s (term_tree a.value) (number (pos b.value)) x b.value (reads_like s (term_tree a.value) x (reads a.value a.first)) (record { times = pos 0; is = omega (arith, ints) })))

  right_case :
      (s : Signedness) (left : Option CoreTermTree) (bits : Option ℕ) (r : CoreTermTree) (x y : ℕ) (v : Value)
      → divided s left (power bits) ≡ Some r → x < 4294967296 → IsLiteral bits y → First s left x
      → (only_if (is_count y) (Some (integers.shifted_right s x y)) >>= λ n. Some (integer n)) ≡ Some v
      → Stands (integer_type s) v (term_value (term_tree r) st)
  right_case Signed left bits r x y v h small is reads j = cc
  right_case Unsigned left bits r x y v h small is reads j =
      quotient_case Unsigned left (power bits) r x y v h small reads (λ k by _.
      let d = power_is bits k y is by in
      ap (λ k. integer (x / k)) (d.0 ∙ ap (λ n. 2 ^ n) (sym (count_same y d.1)))
      ∙ calculated (is_count y) (integers.shifted_right Unsigned x y) v j)

  -- the reading of the right operand, of its own type
  abbrev Second : Scalar → Option CoreTermTree → ℕ → Type 0
  Second tb right y = (t : CoreTermTree) → right ≡ Some t → term_value (term_tree t) st ≡ numbered tb y

  second_counts : (s : Signedness) (tb : Scalar) (right : Option CoreTermTree) (y : ℕ) → same_scalar tb (integer_type s) ≡ true → Second tb right y → (t : CoreTermTree) → right ≡ Some t → Counts (term_tree t) y
  second_counts s tb right y same reads t is =
      reads_like s (term_tree t) y (subst (λ (tb : Scalar). term_value (term_tree t) st ≡ numbered tb y) (scalar_same tb (integer_type s) same) (reads t is))

  arithmetic_stands :
      (op : Arithmetic) (s : Signedness) (tb : Scalar) (left right : Option CoreTermTree) (bits : Option ℕ) (r : CoreTermTree) (x y : ℕ) (v : Value)
      → arithmetic_term op s left right bits ≡ Some r → right_takes op s tb ≡ true
      → x < 4294967296 → y < 4294967296 → IsLiteral bits y → First s left x → Second tb right y
      → (calculate op s x y >>= λ n. Some (integer n)) ≡ Some v
      → Stands (integer_type s) v (term_value (term_tree r) st)
  arithmetic_stands arithmetics.Add s tb left right bits r x y v h takes xs ys is reads seconds j =
      let a = both_terms Add s left right r h in
      at_core (integer_type s) v _ r a.is (stands_at _ _ _ v _ refl (same_Some _ v j)
      (added s (term_tree a.first) (term_tree a.second) x y (reads_like s (term_tree a.first) x (reads a.first a.left_is)) (second_counts s tb right y takes seconds a.second a.right_is)))
  arithmetic_stands arithmetics.Subtract s tb left right bits r x y v h takes xs ys is reads seconds j =
      let a = both_terms Subtract s left right r h in
      at_core (integer_type s) v _ r a.is (stands_at _ _ _ v _ refl (same_Some _ v j)
      (subtracted s (term_tree a.first) (term_tree a.second) x y ys (reads_like s (term_tree a.first) x (reads a.first a.left_is)) (second_counts s tb right y takes seconds a.second a.right_is)))
  arithmetic_stands arithmetics.Multiply s tb left right bits r x y v h takes xs ys is reads seconds j =
      let a = both_terms Multiply s left right r h in
      at_core (integer_type s) v _ r a.is (stands_at _ _ _ v _ refl (same_Some _ v j)
      (multiplied s (term_tree a.first) (term_tree a.second) x y (reads_like s (term_tree a.first) x (reads a.first a.left_is)) (second_counts s tb right y takes seconds a.second a.right_is)))
  arithmetic_stands arithmetics.Divide s tb left right bits r x y v h takes xs ys is reads seconds j = divide_case s left bits r x y v h xs is reads j
  arithmetic_stands arithmetics.Remainder s tb left right bits r x y v h takes xs ys is reads seconds j = remainder_case s left bits r x y v h xs is reads j
  arithmetic_stands arithmetics.ShiftLeft s tb left right bits r x y v h takes xs ys is reads seconds j = left_case s left bits r x y v h is reads j
  arithmetic_stands arithmetics.ShiftRight s tb left right bits r x y v h takes xs ys is reads seconds j = right_case s left bits r x y v h xs is reads j
  arithmetic_stands arithmetics.And s tb left right bits r x y v h takes xs ys is reads seconds j = cc
  arithmetic_stands arithmetics.Or s tb left right bits r x y v h takes xs ys is reads seconds j = cc
  arithmetic_stands arithmetics.Xor s tb left right bits r x y v h takes xs ys is reads seconds j = cc

  -- ---- operations

  -- an operand: its type, its term, its value
  abbrev Operand : Scalar → Option CoreTermTree → Value → Type 0
  Operand s o p = (t : CoreTermTree) → o ≡ Some t → Stands s p (term_value (term_tree t) st)

  operand_reads : (s : Scalar) (o : Option CoreTermTree) (p : Value) (x : ℕ) → p ≡ integer x → Operand s o p → (t : CoreTermTree) → o ≡ Some t → term_value (term_tree t) st ≡ numbered s x
  operand_reads s o p x is h t j = (h t j).number ∙ ap (λ (v : Value). number_of v (number_type s)) is

  first_reads : (s : Signedness) (ta : Scalar) (o : Option CoreTermTree) (p : Value) (x : ℕ) → ta ≡ integer_type s → p ≡ integer x → Operand ta o p → First s o x
  first_reads s ta o p x type is h t j = operand_reads ta o p x is h t j ∙ ap (λ (s : Scalar). numbered s x) type

  same_integer : (s : Signedness) (ta : Scalar) (p : Value) → same_scalar ta (integer_type s) ≡ true → has_type ta p ≡ true → Bits ta p
  same_integer s ta p same typed = bits_of ta p (ap is_integer (scalar_same ta (integer_type s) same) ∙ wide_integer s) typed

  unary_stands :
      (op : UnaryOperation) (m : Memory) (ta : Scalar) (o : Option CoreTermTree) (c : CoreTermTree) (p v : Value)
      → unary_takes op ta ≡ true → unary_term op o ≡ Some c → has_type ta p ≡ true → Operand ta o p
      → apply_unary op m p ≡ Some v → Stands (unary_type op) v (term_value (term_tree c) st)
  unary_stands (unaries.Plus s) m ta o c p v takes h typed operand j =
      let b = same_integer s ta p takes typed in
      let same : p ≡ v = b.is ∙ same_Some (integer b.bits) v (ap (on_integer (λ x. x)) (sym b.is) ∙ j) in
      stands_at ta (integer_type s) p v _ (scalar_same ta (integer_type s) takes) same (operand c h)
  unary_stands (unaries.Minus s) m ta o c p v takes h typed operand j =
      let b = same_integer s ta p takes typed in
      let type = scalar_same ta (integer_type s) takes in
      let a = followed o _ c h in
      let same : integer (minus b.bits) ≡ v = same_Some (integer (minus b.bits)) v (ap (on_integer minus) (sym b.is) ∙ j) in
      let low = wide_small s b.bits (subst (λ (s : Scalar). b.bits < size s) type b.small) in
      at_core (integer_type s) v _ c (same_Some _ c a.then) (stands_at _ _ _ v _ refl same
      (subtracted s (number (pos 0)) (term_tree a.value) 0 b.bits low (record { times = pos 0; is = omega (arith, ints) })
      (reads_like s (term_tree a.value) b.bits (first_reads s ta o p b.bits type b.is operand a.value a.first))))
  unary_stands (unaries.Complement s) m ta o c p v takes h typed operand j = cc
  unary_stands unaries.Not m ta o c p v takes h typed operand j = cc
  unary_stands unaries.Truth m ta o c p v takes h typed operand j = cc

  promoted_integer : (t : Scalar) → is_promoted t ≡ true → is_integer t ≡ true
  promoted_integer scalars.Char h = cc
  promoted_integer scalars.Int h = refl
  promoted_integer scalars.Unsigned h = refl
  promoted_integer scalars.Pointer h = cc

  same_is_integer : (s : Signedness) (t : Scalar) → same_scalar t (integer_type s) ≡ true → is_integer t ≡ true
  same_is_integer s t h = ap is_integer (scalar_same t (integer_type s) h) ∙ wide_integer s

  right_integer : (op : Arithmetic) (s : Signedness) (t : Scalar) → right_takes op s t ≡ true → is_integer t ≡ true
  right_integer arithmetics.Add s t h = same_is_integer s t h
  right_integer arithmetics.Subtract s t h = same_is_integer s t h
  right_integer arithmetics.Multiply s t h = same_is_integer s t h
  right_integer arithmetics.Divide s t h = same_is_integer s t h
  right_integer arithmetics.Remainder s t h = same_is_integer s t h
  right_integer arithmetics.ShiftLeft s t h = promoted_integer t h
  right_integer arithmetics.ShiftRight s t h = promoted_integer t h
  right_integer arithmetics.And s t h = same_is_integer s t h
  right_integer arithmetics.Or s t h = same_is_integer s t h
  right_integer arithmetics.Xor s t h = same_is_integer s t h

  size_wide : (t : Scalar) (n : ℕ) → n < size t → n < 4294967296
  size_wide scalars.Char n h = omega arith
  size_wide scalars.Int n h = h
  size_wide scalars.Unsigned n h = h
  size_wide scalars.Pointer n h = absurd (omega arith)

  binary_stands :
      (op : BinaryOperation) (m : Memory) (ta tb : Scalar) (left right : Option CoreTermTree) (bits : Option ℕ) (c : CoreTermTree) (p q v : Value)
      → binary_takes op ta tb ≡ true → binary_term op left right bits ≡ Some c
      → has_type ta p ≡ true → has_type tb q ≡ true → ((k : ℕ) → bits ≡ Some k → integer k ≡ q)
      → Operand ta left p → Operand tb right q
      → apply_binary op m p q ≡ Some v → Stands (binary_type op) v (term_value (term_tree c) st)
  binary_stands (binaries.Arithmetic op s) m ta tb left right bits c p q v takes h ptyped qtyped lit first second j =
      let fit = and_parts (same_scalar ta (integer_type s)) (right_takes op s tb) takes in
      let a = same_integer s ta p fit.0 ptyped in
      let b = bits_of tb q (right_integer op s tb fit.1) qtyped in
      arithmetic_stands op s tb left right bits c a.bits b.bits v h fit.1 (size_wide ta a.bits a.small) (size_wide tb b.bits b.small)
      (λ k is. integer_same k b.bits (lit k is ∙ b.is))
      (first_reads s ta left p a.bits (scalar_same ta (integer_type s) fit.0) a.is first)
      (operand_reads tb right q b.bits b.is second)
      (ap (λ (p : Value). on_integers (λ x y. calculate op s x y >>= λ n. Some (integer n)) p (integer b.bits)) (sym a.is)
      ∙ ap (λ (q : Value). on_integers (λ x y. calculate op s x y >>= λ n. Some (integer n)) p q) (sym b.is) ∙ j)
    where
      integer_same : (x y : ℕ) → integer x ≡ integer y → x ≡ y
      integer_same x y h = cc
  binary_stands (binaries.Compare op s) m ta tb left right bits c p q v takes h ptyped qtyped lit first second j = cc
  binary_stands (binaries.Move direction s element) m ta tb left right bits c p q v takes h ptyped qtyped lit first second j = cc
  binary_stands (binaries.Difference element) m ta tb left right bits c p q v takes h ptyped qtyped lit first second j = cc
  binary_stands (binaries.ComparePointers op) m ta tb left right bits c p q v takes h ptyped qtyped lit first second j = cc

  conversion_stands :
      (ta to : Scalar) (o : Option CoreTermTree) (c : CoreTermTree) (p v : Value) → conversion_term ta to o ≡ Some c
      → has_type ta p ≡ true → Operand ta o p → convert to p ≡ Some v → Stands to v (term_value (term_tree c) st)
  conversion_stands ta to o c p v h typed operand j =
      let a = followed o (converted_term ta to) c h in
      let stand = operand a.value a.first in
      let b = bits_of ta p stand.integer typed in
      converted_stands ta to a.value c b.bits v a.then b.small (stand.number ∙ ap (λ (v : Value). number_of v (number_type ta)) b.is) (ap (convert to) (sym b.is) ∙ j)

pub literal_number : (s : Scalar) (n : ℕ) → is_integer s ≡ true → has_type s (integer n) ≡ true → literal_value s n ≡ numbered s n
literal_number scalars.Char n i h = sym (char_numbered n (grind (arith, nat_tests, h)))
literal_number scalars.Int n i h = sym (signed_numbered n (grind (arith, nat_tests, h)))
literal_number scalars.Unsigned n i h = sym (unsigned_numbered n (grind (arith, nat_tests, h)))
literal_number scalars.Pointer n i h = cc

literal_bits : (b : CoreExprTree) (l : Locals) (m : Memory) (q : Value) (k : ℕ) → value b l m ≡ Some q → literal_of b ≡ Some k → integer k ≡ q
literal_bits (literal s n) l m q k h is = ap integer (sym (same_Some n k is)) ∙ same_Some (integer n) q h
literal_bits _ l m q k h is = cc

-- ---- expressions

module _ (u : CoreUnitTree) (f : CoreFunctionTree) (l : Locals) (w : World) (range : IsInRange u f l w) (old : Environment) (costs : ℕ → ℕ) (names : List ℕ → Option Extended) where
  abbrev pub state : State
  state = record { at = number_at f (within old l); costs = costs; names = names }

  typed : (e : CoreExprTree) (v : Value) → expr_fits u f e ≡ true → value e l w.memory ≡ Some v → has_type (type_of e) v ≡ true
  typed e v fits h = (value_is_of u f e l w v fits range h).typed

  -- a variable or temporary of this type
  variable_stands : (k : VarKind) (s : Scalar) (o : Option Scalar) (v : Value) → is_type o s ≡ true → is_integer s ≡ true → own_type f k ≡ (o >>= if_number) → value_of k (within old l) ≡ Some v → Stands s v (number_at f (within old l) (var k s))
  variable_stands k s o v type i own is = record {
    integer = i;
    number = own_number f (within old l) k (number_type s) v
        (own ∙ ap (λ (o : Option Scalar). o >>= if_number) (type_is o s type) ∙ ap (λ b. only_if b (Some (number_type s))) i) is;
  }

  integer_only : (s : Scalar) (t c : CoreTermTree) → if_integer s t ≡ Some c → (is_integer s ≡ true) × (t ≡ c)
  integer_only s t c h = only_if_value (is_integer s) t c h

  pub stands : (e : CoreExprTree) (c : CoreTermTree) (v : Value) → expr_fits u f e ≡ true → term_of e ≡ Some c → value e l w.memory ≡ Some v → Stands (type_of e) v (term_value (term_tree c) state)
  stands (literal s n) c v fits h j =
      let k = integer_only s _ c h in
      at_core state s v _ c k.1 (stands_at s s _ v _ refl (same_Some (integer n) v j) (record { integer = k.0; number = literal_number s n k.0 fits }))
  stands null_pointer c v fits h j = cc
  stands (variable s x) c v fits h j =
      let k = integer_only s _ c h in
      at_core state s v _ c k.1 (variable_stands (kinds.Plain x) s (variable_type f x) v fits k.0 refl j)
  stands (temporary s x) c v fits h j =
      let k = integer_only s _ c h in
      at_core state s v _ c k.1 (variable_stands (kinds.Temporary x) s (temporary_type f x) v fits k.0 refl j)
  stands (address_of b) c v fits h j = cc
  stands (load s a) c v fits h j = cc
  stands (member offset a) c v fits h j = cc
  stands (unary op a) c v fits h j =
      let fit = and_parts (expr_fits u f a) (unary_takes op (type_of a)) fits in
      let p = followed (value a l w.memory) _ v j in
      unary_stands state op w.memory (type_of a) (term_of a) c p.value v fit.1 h (typed a p.value fit.0 p.first) (λ t is. stands a t p.value fit.0 is p.first) p.then
  stands (binary op a b) c v fits h j =
      let takes = and_parts (expr_fits u f a && expr_fits u f b) (binary_takes op (type_of a) (type_of b)) fits in
      let fit = and_parts (expr_fits u f a) (expr_fits u f b) takes.0 in
      let p = followed (value a l w.memory) _ v j in
      let q = followed (value b l w.memory) _ v p.then in
      binary_stands state op w.memory (type_of a) (type_of b) (term_of a) (term_of b) (literal_of b) c p.value q.value v takes.1 h
      (typed a p.value fit.0 p.first) (typed b q.value fit.1 q.first) (λ k is. literal_bits b l w.memory q.value k q.first is)
      (λ t is. stands a t p.value fit.0 is p.first) (λ t is. stands b t q.value fit.1 is q.first) q.then
  stands (conversion s a) c v fits h j =
      let fit = and_parts (expr_fits u f a) (conversion_takes s (type_of a)) fits in
      let p = followed (value a l w.memory) _ v j in
      conversion_stands state (type_of a) s (term_of a) c p.value v h (typed a p.value fit.0 p.first) (λ t is. stands a t p.value fit.0 is p.first) p.then
  stands (logical_and a b) c v fits h j = cc
  stands (logical_or a b) c v fits h j = cc
  stands (conditional e a b) c v fits h j = cc

  -- the term of an expression that has one
  pub expression_stands : (e : CoreExprTree) (t : TermTree) (v : Value) → expr_fits u f e ≡ true → expression_term e ≡ Some t → value e l w.memory ≡ Some v → Stands (type_of e) v (term_value t state)
  expression_stands e t v fits h j = by (term_of e) refl h
    where
      by : (o : Option CoreTermTree) → term_of e ≡ o → option_map term_tree o ≡ Some t → Stands (type_of e) v (term_value t state)
      by None is h = cc
      by (Some c) is h = subst (λ (t : TermTree). Stands (type_of e) v (term_value t state)) (same_Some (term_tree c) t h) (stands e c v fits is j)
