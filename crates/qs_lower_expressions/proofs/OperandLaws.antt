-- The operands that expressions are as they stand have the values of the expressions.
use Rattle.std.proofs.Common.{◌≡◌, ℕ, zero, suc, ◌+◌, ◌<◌, Bool, true, false, List, Option, Some, None, refl, sym, ap, ◌∙◌, subst, arith}
use Rattle.std.specs.Prelude.{◌==◌, ◌%◌, ◌^◌, not, if◌then◌else◌, ℤ, pos, ◌-ℤ◌, int_div, int_rem}
use Rattle.std.proofs.lemmas.Bool.Decides.{nat_tests}
use Rattle.std.proofs.lemmas.Nat.{and_comm, or_comm, xor_comm}
use Rattle.std.proofs.Math.Nat.{mul_comm}
use Rattle.std.specs.Ordering.{int_eq}
use Rattle.std.proofs.lemmas.Option.{same_Some}
use Rattle.std.specs.Cmp.{first_so, second_so}
use Rattle.qs_base.specs.Words.{wrap}
use Rattle.qs_memory.specs.Partial.{◌>>=◌, only_if}
use Rattle.qs_memory.specs.Values.{Pointer, Value, integer, address, as_integer, as_pointer, convert, pointer_of_integer}
use Rattle.qs_memory.specs.Memory.{Memory, Cell, value_of, number_of, pointer_of, range, target, cells_at}
use Rattle.qs_memory.specs.Memory as memory
use Rattle.qs_memory.specs.Integers.{calculate, compares}
use Rattle.qs_memory.specs.Pointers.{truth, elements, difference, compares_pointers, moved_by, member_of}
use Rattle.qs_memory.specs.Operations.{apply_unary, apply_binary, of_truth}
use Rattle.qs_memory.specs.Scalars.{is_integer, is_pointer}
use Rattle.qs_memory.specs.declared.scalar.Scalar.{Scalar}
use Rattle.qs_memory.specs.declared.scalar.Scalar.TheVariants as scalars
use Rattle.qs_memory.specs.declared.operation.Signedness.{Signedness}
use Rattle.qs_memory.specs.declared.operation.Arithmetic.{Arithmetic}
use Rattle.qs_memory.specs.declared.operation.Arithmetic.TheVariants as arithmetics
use Rattle.qs_memory.specs.declared.operation.UnaryOperation.{UnaryOperation}
use Rattle.qs_memory.specs.declared.operation.UnaryOperation.TheVariants as unaries
use Rattle.qs_memory.specs.declared.operation.BinaryOperation.{BinaryOperation}
use Rattle.qs_memory.specs.declared.operation.BinaryOperation.TheVariants as binaries
use Rattle.qs_core.specs.Trees as core
use Rattle.qs_core.specs.Trees.{CoreExprTree}
use Rattle.qs_core.specs.Expressions.{Locals, value, truth_value}
use Rattle.qs_tac.specs.Holders.{Holder}
use Rattle.qs_tac.specs.Values.{Activation, operand}
use Rattle.qs_tac.specs.declared.operands.Operand.{Operand}
use Rattle.qs_tac.specs.declared.operands.Operand.TheVariants.{Temporary, Integer, Byte, Constant, Null, Local, Data}
use Rattle.qs_lower_expressions.specs.Operands.{converted, truth_of, truth_operand, unary_of, binary_of, folded, gives_integer, gives_truth, unary_gives_truth, operation_gives_truth, gives_pointer, operation_gives_integer, commutes, is_idle}
use Rattle.qs_lower_expressions.specs.Operands as operands

-- ---- what gives an integer, if anything

abbrev pub IntegerOrNone : Option Value → Type 0
IntegerOrNone None = Unit {0}
IntegerOrNone (Some (integer n)) = Unit {0}
IntegerOrNone (Some (address p)) = ⊥

integer_bind : {A : Type 0} → (o : Option A) (f : A → Option Value) → ((a : A) → IntegerOrNone (f a)) → IntegerOrNone (o >>= f)
integer_bind None f h = tt
integer_bind (Some a) f h = h a

only_if_integer : (b : Bool) (o : Option Value) → IntegerOrNone o → IntegerOrNone (only_if b o)
only_if_integer true o h = h
only_if_integer false o h = tt

-- its conversion to an integer is itself
pub integer_stays : (o : Option Value) → IntegerOrNone o → (o >>= λ v. as_integer v >>= λ n. Some (integer n)) ≡ o
integer_stays None h = refl
integer_stays (Some (integer n)) h = refl
integer_stays (Some (address p)) h = absurd h

read_integer : (s : Scalar) (cells : List Cell) → is_integer s ≡ true → IntegerOrNone (value_of s cells)
read_integer scalars.Char cells h = integer_bind (number_of cells) _ (λ n. tt)
read_integer scalars.Int cells h = integer_bind (number_of cells) _ (λ n. tt)
read_integer scalars.Unsigned cells h = integer_bind (number_of cells) _ (λ n. tt)
read_integer scalars.Pointer cells h = absurd (cc)

loaded_integer : (s : Scalar) (m : Memory) (p : Pointer) → is_integer s ≡ true → IntegerOrNone (memory.load s m p)
loaded_integer s m p h = integer_bind (range m p _ _) _ (λ t. read_integer s _ h)

converted_integer : (s : Scalar) (v : Value) → is_integer s ≡ true → IntegerOrNone (convert s v)
converted_integer scalars.Char (integer n) h = tt
converted_integer scalars.Int (integer n) h = tt
converted_integer scalars.Unsigned (integer n) h = tt
converted_integer scalars.Pointer v h = absurd (cc)
converted_integer scalars.Char (address p) h = tt
converted_integer scalars.Int (address p) h = tt
converted_integer scalars.Unsigned (address p) h = tt

elements_integer : (element : ℕ) (bytes : ℤ) → IntegerOrNone (elements element bytes)
elements_integer element bytes =
    only_if_integer (int_eq (int_rem bytes (pos element)) (pos 0)) (Some (integer (wrap (int_div bytes (pos element))))) tt

difference_integer : (element : ℕ) (m : Memory) (p q : Pointer) → IntegerOrNone (difference element m p q)
difference_integer element m p q =
    integer_bind (target m p) _ (λ t. integer_bind (target m q) _ (λ u. only_if_integer (t.block == u.block) _ (elements_integer element (pos t.offset -ℤ pos u.offset))))

unary_integer : (op : UnaryOperation) (m : Memory) (v : Value) → IntegerOrNone (apply_unary op m v)
unary_integer (unaries.Plus s) m v = integer_bind (as_integer v) _ (λ n. tt)
unary_integer (unaries.Minus s) m v = integer_bind (as_integer v) _ (λ n. tt)
unary_integer (unaries.Complement s) m v = integer_bind (as_integer v) _ (λ n. tt)
unary_integer unaries.Not m v = integer_bind (truth m v) _ (λ b. tt)
unary_integer unaries.Truth m v = integer_bind (truth m v) _ (λ b. tt)

binary_integer : (op : BinaryOperation) (m : Memory) (v w : Value) → operation_gives_integer op ≡ true → IntegerOrNone (apply_binary op m v w)
binary_integer (binaries.Arithmetic op s) m v w h =
    integer_bind (as_integer v) _ (λ x. integer_bind (as_integer w) _ (λ y. integer_bind (calculate op s x y) _ (λ n. tt)))
binary_integer (binaries.Compare op s) m v w h = integer_bind (as_integer v) _ (λ x. integer_bind (as_integer w) _ (λ y. tt))
binary_integer (binaries.Move direction s element) m v w h = absurd (cc)
binary_integer (binaries.Difference element) m v w h = integer_bind (as_pointer v) _ (λ p. integer_bind (as_pointer w) _ (λ q. difference_integer element m p q))
binary_integer (binaries.ComparePointers op) m v w h =
    integer_bind (as_pointer v) _ (λ p. integer_bind (as_pointer w) _ (λ q. integer_bind (compares_pointers op m p q) _ (λ b. tt)))

if_integer : (b : Bool) (o p : Option Value) → IntegerOrNone o → IntegerOrNone p → IntegerOrNone (if b then o else p)
if_integer true o p h k = h
if_integer false o p h k = k

truth_integer : (m : Memory) (v : Value) → IntegerOrNone (truth_value m v)
truth_integer m v = integer_bind (truth m v) _ (λ b. tt)

pub gives_integer_is : (e : CoreExprTree) → gives_integer e ≡ true → (l : Locals) (m : Memory) → IntegerOrNone (value e l m)
gives_integer_is (core.literal s n) h l m = tt
gives_integer_is core.null_pointer h l m = absurd (cc)
gives_integer_is (core.variable s x) h l m = absurd (cc)
gives_integer_is (core.temporary s k) h l m = absurd (cc)
gives_integer_is (core.address_of b) h l m = absurd (cc)
gives_integer_is (core.load s a) h l m = integer_bind (value a l m) _ (λ v. integer_bind (as_pointer v) _ (λ p. loaded_integer s m p h))
gives_integer_is (core.member offset a) h l m = absurd (cc)
gives_integer_is (core.unary op a) h l m = integer_bind (value a l m) _ (λ v. unary_integer op m v)
gives_integer_is (core.binary op a b) h l m = integer_bind (value a l m) _ (λ v. integer_bind (value b l m) _ (λ w. binary_integer op m v w h))
gives_integer_is (core.conversion s a) h l m = integer_bind (value a l m) _ (λ v. converted_integer s v h)
gives_integer_is (core.logical_and a b) h l m =
    integer_bind (value a l m) _ (λ v. integer_bind (truth m v) _ (λ yes. if_integer yes _ _ (integer_bind (value b l m) _ (truth_integer m)) tt))
gives_integer_is (core.logical_or a b) h l m =
    integer_bind (value a l m) _ (λ v. integer_bind (truth m v) _ (λ yes. if_integer yes _ _ tt (integer_bind (value b l m) _ (truth_integer m))))
gives_integer_is (core.conditional c a b) h l m =
    integer_bind (value c l m) _
    (λ v. integer_bind (truth m v) _
    (λ yes. if_integer yes _ _ (gives_integer_is a (first_so _ _ h) l m) (gives_integer_is b (second_so (gives_integer a) _ h) l m)))

-- ---- what gives a pointer, if anything

abbrev pub PointerOrNone : Option Value → Type 0
PointerOrNone None = Unit {0}
PointerOrNone (Some (integer n)) = ⊥
PointerOrNone (Some (address p)) = Unit {0}

pointer_bind : {A : Type 0} → (o : Option A) (f : A → Option Value) → ((a : A) → PointerOrNone (f a)) → PointerOrNone (o >>= f)
pointer_bind None f h = tt
pointer_bind (Some a) f h = h a

pub pointer_stays : (o : Option Value) → PointerOrNone o → (o >>= convert scalars.Pointer) ≡ o
pointer_stays None h = refl
pointer_stays (Some (integer n)) h = absurd h
pointer_stays (Some (address p)) h = refl

loaded_pointer : (s : Scalar) (m : Memory) (p : Pointer) → is_pointer s ≡ true → PointerOrNone (memory.load s m p)
loaded_pointer scalars.Char m p h = absurd (cc)
loaded_pointer scalars.Int m p h = absurd (cc)
loaded_pointer scalars.Unsigned m p h = absurd (cc)
loaded_pointer scalars.Pointer m p h = pointer_bind (range m p _ _) _ (λ t. pointer_bind (pointer_of (cells_at m t 4)) _ (λ q. tt))

zero_pointer : (n : ℕ) → PointerOrNone (pointer_of_integer n)
zero_pointer zero = tt
zero_pointer (suc n) = tt

converted_pointer : (s : Scalar) (v : Value) → is_pointer s ≡ true → PointerOrNone (convert s v)
converted_pointer scalars.Char v h = absurd (cc)
converted_pointer scalars.Int v h = absurd (cc)
converted_pointer scalars.Unsigned v h = absurd (cc)
converted_pointer scalars.Pointer (integer n) h = zero_pointer n
converted_pointer scalars.Pointer (address p) h = tt

binary_pointer : (op : BinaryOperation) (m : Memory) (v w : Value) → not (operation_gives_integer op) ≡ true → PointerOrNone (apply_binary op m v w)
binary_pointer (binaries.Arithmetic op s) m v w h = absurd (cc)
binary_pointer (binaries.Compare op s) m v w h = absurd (cc)
binary_pointer (binaries.Move direction s element) m v w h =
    pointer_bind (as_pointer v) _ (λ p. pointer_bind (as_integer w) _ (λ n. pointer_bind (moved_by direction s element m p n) _ (λ q. tt)))
binary_pointer (binaries.Difference element) m v w h = absurd (cc)
binary_pointer (binaries.ComparePointers op) m v w h = absurd (cc)

if_pointer : (b : Bool) (o p : Option Value) → PointerOrNone o → PointerOrNone p → PointerOrNone (if b then o else p)
if_pointer true o p h k = h
if_pointer false o p h k = k

pub gives_pointer_is : (e : CoreExprTree) → gives_pointer e ≡ true → (l : Locals) (m : Memory) → PointerOrNone (value e l m)
gives_pointer_is (core.literal s n) h l m = absurd (cc)
gives_pointer_is core.null_pointer h l m = tt
gives_pointer_is (core.variable s x) h l m = absurd (cc)
gives_pointer_is (core.temporary s k) h l m = absurd (cc)
gives_pointer_is (core.address_of b) h l m = tt
gives_pointer_is (core.load s a) h l m = pointer_bind (value a l m) _ (λ v. pointer_bind (as_pointer v) _ (λ p. loaded_pointer s m p h))
gives_pointer_is (core.member offset a) h l m =
    pointer_bind (value a l m) _ (λ v. pointer_bind (as_pointer v) _ (λ p. pointer_bind (member_of m p offset) _ (λ q. tt)))
gives_pointer_is (core.unary op a) h l m = absurd (cc)
gives_pointer_is (core.binary op a b) h l m = pointer_bind (value a l m) _ (λ v. pointer_bind (value b l m) _ (λ w. binary_pointer op m v w h))
gives_pointer_is (core.conversion s a) h l m = pointer_bind (value a l m) _ (λ v. converted_pointer s v h)
gives_pointer_is (core.logical_and a b) h l m = absurd (cc)
gives_pointer_is (core.logical_or a b) h l m = absurd (cc)
gives_pointer_is (core.conditional c a b) h l m =
    pointer_bind (value c l m) _
    (λ v. pointer_bind (truth m v) _
    (λ yes. if_pointer yes _ _ (gives_pointer_is a (first_so _ _ h) l m) (gives_pointer_is b (second_so (gives_pointer a) _ h) l m)))

-- ---- conversions and operations on operands

int_same : (o : Option Value) → (o >>= λ v. as_integer v >>= λ n. Some (integer n)) ≡ (o >>= convert scalars.Int)
int_same None = refl
int_same (Some (integer n)) = refl
int_same (Some (address p)) = refl

unsigned_same : (o : Option Value) → (o >>= λ v. as_integer v >>= λ n. Some (integer n)) ≡ (o >>= convert scalars.Unsigned)
unsigned_same None = refl
unsigned_same (Some (integer n)) = refl
unsigned_same (Some (address p)) = refl

twice : (o : Option Value) → (o >>= λ v. as_integer v >>= λ n. Some (integer n)) ≡ ((o >>= λ v. as_integer v >>= λ n. Some (integer n)) >>= λ v. as_integer v >>= λ n. Some (integer n))
twice None = refl
twice (Some (integer n)) = refl
twice (Some (address p)) = refl

byte_same : (o : Option Value) → (o >>= convert scalars.Char) ≡ ((o >>= λ v. as_integer v >>= λ n. Some (integer n)) >>= convert scalars.Char)
byte_same None = refl
byte_same (Some (integer n)) = refl
byte_same (Some (address p)) = refl

byte_number : (n : ℕ) → ((n % 2 ^ 8) % 2 ^ 8) ≡ n % 2 ^ 8
byte_number n = omega arith

byte_twice : (o : Option Value) → (o >>= convert scalars.Char) ≡ ((o >>= convert scalars.Char) >>= convert scalars.Char)
byte_twice None = refl
byte_twice (Some (integer n)) = ap (λ k. Some (integer k)) (sym (byte_number n))
byte_twice (Some (address p)) = refl

byte_integer : (o : Option Value) → (o >>= convert scalars.Char) ≡ ((o >>= convert scalars.Char) >>= λ v. as_integer v >>= λ n. Some (integer n))
byte_integer None = refl
byte_integer (Some (integer n)) = refl
byte_integer (Some (address p)) = refl

module _ {S : Type 0} (h : Holder S) (a : Activation S) where
  same_operand : (o p : Operand) → Some o ≡ Some p → operand h p a ≡ operand h o a
  same_operand o p e = ap (λ x. operand h x a) (sym (same_Some o p e))

  integer_right : (o p : Operand) → operands.integer_operand o ≡ Some p → operand h p a ≡ (operand h o a >>= λ v. as_integer v >>= λ n. Some (integer n))
  integer_right (Temporary t) p e = same_operand (Integer t) p e
  integer_right (Integer t) p e = same_operand (Integer t) p e ∙ twice (h.read a.function a.held t)
  integer_right (Byte t) p e = same_operand (Byte t) p e ∙ byte_integer (h.read a.function a.held t)
  integer_right (Constant n) p e = same_operand (Constant n) p e
  integer_right Null p e = absurd (cc)
  integer_right (Local i) p e = absurd (cc)
  integer_right (Data i) p e = absurd (cc)

  constant_right :
      (f : ℕ → ℕ) (g : Value → Option Value) → ((n : ℕ) → g (integer n) ≡ Some (integer (f n))) → (o p : Operand)
      → operands.on_constant f o ≡ Some p → operand h p a ≡ (operand h o a >>= g)
  constant_right f g law (Temporary t) p e = absurd (cc)
  constant_right f g law (Integer t) p e = absurd (cc)
  constant_right f g law (Byte t) p e = absurd (cc)
  constant_right f g law (Constant n) p e = same_operand (Constant (f n)) p e ∙ sym (law n)
  constant_right f g law Null p e = absurd (cc)
  constant_right f g law (Local i) p e = absurd (cc)
  constant_right f g law (Data i) p e = absurd (cc)

  pointer_right : (o p : Operand) → operands.pointer_operand o ≡ Some p → operand h p a ≡ (operand h o a >>= convert scalars.Pointer)
  pointer_right (Temporary t) p e = absurd (cc)
  pointer_right (Integer t) p e = absurd (cc)
  pointer_right (Byte t) p e = absurd (cc)
  pointer_right (Constant n) p e = absurd (cc)
  pointer_right Null p e = same_operand Null p e
  pointer_right (Local i) p e = same_operand (Local i) p e
  pointer_right (Data i) p e = same_operand (Data i) p e

  byte_right : (o p : Operand) → operands.byte_operand o ≡ Some p → operand h p a ≡ (operand h o a >>= convert scalars.Char)
  byte_right (Temporary t) p e = same_operand (Byte t) p e
  byte_right (Integer t) p e = same_operand (Byte t) p e ∙ byte_same (h.read a.function a.held t)
  byte_right (Byte t) p e = same_operand (Byte t) p e ∙ byte_twice (h.read a.function a.held t)
  byte_right (Constant n) p e = same_operand (Constant (n % 2 ^ 8)) p e
  byte_right Null p e = absurd (cc)
  byte_right (Local i) p e = absurd (cc)
  byte_right (Data i) p e = absurd (cc)

  pub converted_right : (s : Scalar) (o p : Operand) → converted s o ≡ Some p → operand h p a ≡ (operand h o a >>= convert s)
  converted_right scalars.Char o p e = byte_right o p e
  converted_right scalars.Int o p e = integer_right o p e ∙ int_same (operand h o a)
  converted_right scalars.Unsigned o p e = integer_right o p e ∙ unsigned_same (operand h o a)
  converted_right scalars.Pointer o p e = pointer_right o p e

  -- an operand whose truth is known
  pub known_truth : (m : Memory) (o : Operand) (b : Bool) → truth_of o ≡ Some b → (operand h o a >>= truth m) ≡ Some b
  known_truth m (Temporary t) b e = absurd (cc)
  known_truth m (Integer t) b e = absurd (cc)
  known_truth m (Byte t) b e = absurd (cc)
  known_truth m (Constant n) b e = e
  known_truth m Null b e = e
  known_truth m (Local i) b e = absurd (cc)
  known_truth m (Data i) b e = absurd (cc)

  truth_right :
      (m : Memory) (f : Bool → Operand) (g : Bool → Value) → ((b : Bool) → operand h (f b) a ≡ Some (g b)) → (o p : Operand)
      → (truth_of o >>= λ b. Some (f b)) ≡ Some p
      → operand h p a ≡ (operand h o a >>= λ v. truth m v >>= λ b. Some (g b))
  truth_right m f g law (Temporary t) p e = absurd (cc)
  truth_right m f g law (Integer t) p e = absurd (cc)
  truth_right m f g law (Byte t) p e = absurd (cc)
  truth_right m f g law (Constant n) p e = same_operand _ p e ∙ law _
  truth_right m f g law Null p e = same_operand _ p e ∙ law _
  truth_right m f g law (Local i) p e = absurd (cc)
  truth_right m f g law (Data i) p e = absurd (cc)

  pub unary_right : (op : UnaryOperation) (m : Memory) (o p : Operand) → unary_of op o ≡ Some p → operand h p a ≡ (operand h o a >>= λ v. apply_unary op m v)
  unary_right (unaries.Plus s) m o p e = integer_right o p e
  unary_right (unaries.Minus s) m o p e = constant_right _ (apply_unary (unaries.Minus s) m) (λ n. refl) o p e
  unary_right (unaries.Complement s) m o p e = constant_right _ (apply_unary (unaries.Complement s) m) (λ n. refl) o p e
  unary_right unaries.Not m o p e = truth_right m (λ b. truth_operand (not b)) (λ b. of_truth (not b)) (λ b. refl) o p e
  unary_right unaries.Truth m o p e = truth_right m truth_operand of_truth (λ b. refl) o p e

  calculated : (c : Option ℕ) (r : Operand) → (c >>= λ k. Some (Constant k)) ≡ Some r → operand h r a ≡ (c >>= λ k. Some (integer k))
  calculated None r e = absurd (cc)
  calculated (Some k) r e = same_operand (Constant k) r e

  constants_right :
      (op : BinaryOperation) (m : Memory) (x y : ℕ) (r : Operand) → binary_of op x y ≡ Some r
      → operand h r a ≡ apply_binary op m (integer x) (integer y)
  constants_right (binaries.Arithmetic op s) m x y r e = calculated (calculate op s x y) r e
  constants_right (binaries.Compare op s) m x y r e = same_operand _ r e
  constants_right (binaries.Move direction s element) m x y r e = absurd (cc)
  constants_right (binaries.Difference element) m x y r e = absurd (cc)
  constants_right (binaries.ComparePointers op) m x y r e = absurd (cc)

  second_right :
      (op : BinaryOperation) (m : Memory) (x : ℕ) (p r : Operand) → (operands.constant p >>= λ n. binary_of op x n) ≡ Some r
      → operand h r a ≡ (operand h p a >>= λ w. apply_binary op m (integer x) w)
  second_right op m x (Temporary t) r e = absurd (cc)
  second_right op m x (Integer t) r e = absurd (cc)
  second_right op m x (Byte t) r e = absurd (cc)
  second_right op m x (Constant n) r e = constants_right op m x n r e
  second_right op m x Null r e = absurd (cc)
  second_right op m x (Local i) r e = absurd (cc)
  second_right op m x (Data i) r e = absurd (cc)

  pub folded_right :
      (op : BinaryOperation) (m : Memory) (o p r : Operand) → folded op (Some o) (Some p) ≡ Some r
      → operand h r a ≡ (operand h o a >>= λ v. operand h p a >>= λ w. apply_binary op m v w)
  folded_right op m (Temporary t) p r e = absurd (cc)
  folded_right op m (Integer t) p r e = absurd (cc)
  folded_right op m (Byte t) p r e = absurd (cc)
  folded_right op m (Constant n) p r e = second_right op m n p r e
  folded_right op m Null p r e = absurd (cc)
  folded_right op m (Local i) p r e = absurd (cc)
  folded_right op m (Data i) p r e = absurd (cc)

-- ---- what gives 1 or 0, if anything

abbrev pub TruthOrNone : Option Value → Type 0
TruthOrNone None = Unit {0}
TruthOrNone (Some (integer n)) = n < 2
TruthOrNone (Some (address p)) = ⊥

truth_bind : {A : Type 0} → (o : Option A) (f : A → Option Value) → ((a : A) → TruthOrNone (f a)) → TruthOrNone (o >>= f)
truth_bind None f h = tt
truth_bind (Some a) f h = h a

is_truth : (b : Bool) → TruthOrNone (Some (of_truth b))
is_truth true = omega arith
is_truth false = omega arith

if_truth : (b : Bool) (o p : Option Value) → TruthOrNone o → TruthOrNone p → TruthOrNone (if b then o else p)
if_truth true o p h k = h
if_truth false o p h k = k

value_truth : (m : Memory) (v : Value) → TruthOrNone (truth_value m v)
value_truth m v = truth_bind (truth m v) _ is_truth

unary_truth : (op : UnaryOperation) (m : Memory) (v : Value) → unary_gives_truth op ≡ true → TruthOrNone (apply_unary op m v)
unary_truth (unaries.Plus s) m v h = absurd (cc)
unary_truth (unaries.Minus s) m v h = absurd (cc)
unary_truth (unaries.Complement s) m v h = absurd (cc)
unary_truth unaries.Not m v h = truth_bind (truth m v) _ (λ b. is_truth (not b))
unary_truth unaries.Truth m v h = truth_bind (truth m v) _ is_truth

binary_truth : (op : BinaryOperation) (m : Memory) (v w : Value) → operation_gives_truth op ≡ true → TruthOrNone (apply_binary op m v w)
binary_truth (binaries.Arithmetic op s) m v w h = absurd (cc)
binary_truth (binaries.Compare op s) m v w h = truth_bind (as_integer v) _ (λ x. truth_bind (as_integer w) _ (λ y. is_truth (compares op s x y)))
binary_truth (binaries.Move direction s element) m v w h = absurd (cc)
binary_truth (binaries.Difference element) m v w h = absurd (cc)
binary_truth (binaries.ComparePointers op) m v w h =
    truth_bind (as_pointer v) _ (λ p. truth_bind (as_pointer w) _ (λ q. truth_bind (compares_pointers op m p q) _ is_truth))

small_byte : (n : ℕ) → n < 2 → n % 2 ^ 8 ≡ n
small_byte n h = omega (arith, h)

-- its conversion to any integer type is itself
pub truth_stays : (s : Scalar) → is_integer s ≡ true → (o : Option Value) → TruthOrNone o → (o >>= convert s) ≡ o
truth_stays s h None k = refl
truth_stays scalars.Char h (Some (integer n)) k = ap (λ i. Some (integer i)) (small_byte n k)
truth_stays scalars.Int h (Some (integer n)) k = refl
truth_stays scalars.Unsigned h (Some (integer n)) k = refl
truth_stays scalars.Pointer h (Some (integer n)) k = absurd (cc)
truth_stays s h (Some (address p)) k = absurd k

converted_truth : (s : Scalar) → is_integer s ≡ true → (o : Option Value) → TruthOrNone o → TruthOrNone (o >>= convert s)
converted_truth s h o k = subst TruthOrNone (sym (truth_stays s h o k)) k

pub gives_truth_is : (e : CoreExprTree) → gives_truth e ≡ true → (l : Locals) (m : Memory) → TruthOrNone (value e l m)
gives_truth_is (core.literal s n) h l m = grind (arith, nat_tests, h)
gives_truth_is core.null_pointer h l m = absurd (cc)
gives_truth_is (core.variable s x) h l m = absurd (cc)
gives_truth_is (core.temporary s k) h l m = absurd (cc)
gives_truth_is (core.address_of b) h l m = absurd (cc)
gives_truth_is (core.load s a) h l m = absurd (cc)
gives_truth_is (core.member offset a) h l m = absurd (cc)
gives_truth_is (core.unary op a) h l m = truth_bind (value a l m) _ (λ v. unary_truth op m v h)
gives_truth_is (core.binary op a b) h l m = truth_bind (value a l m) _ (λ v. truth_bind (value b l m) _ (λ w. binary_truth op m v w h))
gives_truth_is (core.conversion s a) h l m =
    converted_truth s (first_so _ _ h) (value a l m) (gives_truth_is a (second_so (is_integer s) _ h) l m)
gives_truth_is (core.logical_and a b) h l m =
    truth_bind (value a l m) _ (λ v. truth_bind (truth m v) _ (λ yes. if_truth yes _ _ (truth_bind (value b l m) _ (value_truth m)) (is_truth false)))
gives_truth_is (core.logical_or a b) h l m =
    truth_bind (value a l m) _ (λ v. truth_bind (truth m v) _ (λ yes. if_truth yes _ _ (is_truth true) (truth_bind (value b l m) _ (value_truth m))))
gives_truth_is (core.conditional c a b) h l m =
    truth_bind (value c l m) _
    (λ v. truth_bind (truth m v) _
    (λ yes. if_truth yes _ _ (gives_truth_is a (first_so _ _ h) l m) (gives_truth_is b (second_so (gives_truth a) _ h) l m)))

-- a number that is 1 or 0 is its own truth
small_truth : (n : ℕ) → n < 2 → of_truth (not (n == 0)) ≡ integer n
small_truth zero h = refl
small_truth (suc zero) h = refl
small_truth (suc (suc n)) h = absurd (omega (arith, h))

pub truth_again : (m : Memory) (o : Option Value) → TruthOrNone o → (o >>= λ v. apply_unary unaries.Truth m v) ≡ o
truth_again m None h = refl
truth_again m (Some (integer n)) h = ap Some (small_truth n h)
truth_again m (Some (address p)) h = absurd h

-- ---- conversions that change nothing

pub idle_stays : (s : Scalar) (e : CoreExprTree) → is_idle s e ≡ true → (l : Locals) (m : Memory) → (value e l m >>= convert s) ≡ value e l m
idle_stays scalars.Char e h l m = truth_stays scalars.Char refl (value e l m) (gives_truth_is e h l m)
idle_stays scalars.Int e h l m = sym (int_same (value e l m)) ∙ integer_stays (value e l m) (gives_integer_is e h l m)
idle_stays scalars.Unsigned e h l m = sym (unsigned_same (value e l m)) ∙ integer_stays (value e l m) (gives_integer_is e h l m)
idle_stays scalars.Pointer e h l m = pointer_stays (value e l m) (gives_pointer_is e h l m)

pub plus_stays :
    (e : CoreExprTree) → gives_integer e ≡ true → (l : Locals) (m : Memory) (s : Signedness)
    → (value e l m >>= λ v. apply_unary (unaries.Plus s) m v) ≡ value e l m
plus_stays e h l m s = integer_stays (value e l m) (gives_integer_is e h l m)

-- ---- operations whose operands may change places

calculated_alike : (op : Arithmetic) (s : Signedness) → commutes (binaries.Arithmetic op s) ≡ true → (x y : ℕ) → calculate op s y x ≡ calculate op s x y
calculated_alike arithmetics.Add s h x y = let same : y + x ≡ x + y = omega arith in ap (λ n. Some (n % 2 ^ 32)) same
calculated_alike arithmetics.Subtract s h x y = absurd (cc)
calculated_alike arithmetics.Multiply s h x y = ap (λ n. Some (n % 2 ^ 32)) (mul_comm y x)
calculated_alike arithmetics.Divide s h x y = absurd (cc)
calculated_alike arithmetics.Remainder s h x y = absurd (cc)
calculated_alike arithmetics.ShiftLeft s h x y = absurd (cc)
calculated_alike arithmetics.ShiftRight s h x y = absurd (cc)
calculated_alike arithmetics.And s h x y = ap Some (and_comm y x)
calculated_alike arithmetics.Or s h x y = ap Some (or_comm y x)
calculated_alike arithmetics.Xor s h x y = ap Some (xor_comm y x)

arithmetic_alike :
    (op : Arithmetic) (s : Signedness) (m : Memory) → commutes (binaries.Arithmetic op s) ≡ true → (v w : Value)
    → apply_binary (binaries.Arithmetic op s) m w v ≡ apply_binary (binaries.Arithmetic op s) m v w
arithmetic_alike op s m h (integer x) (integer y) = ap (λ o. o >>= λ n. Some (integer n)) (calculated_alike op s h x y)
arithmetic_alike op s m h (integer x) (address q) = refl
arithmetic_alike op s m h (address p) (integer y) = refl
arithmetic_alike op s m h (address p) (address q) = refl

applied_alike : (op : BinaryOperation) (m : Memory) → commutes op ≡ true → (v w : Value) → apply_binary op m w v ≡ apply_binary op m v w
applied_alike (binaries.Arithmetic op s) m h v w = arithmetic_alike op s m h v w
applied_alike (binaries.Compare op s) m h v w = absurd (cc)
applied_alike (binaries.Move direction s element) m h v w = absurd (cc)
applied_alike (binaries.Difference element) m h v w = absurd (cc)
applied_alike (binaries.ComparePointers op) m h v w = absurd (cc)

pub swapped :
    (op : BinaryOperation) → commutes op ≡ true → (m : Memory) (left right : Option Value)
    → (right >>= λ v. left >>= λ y. apply_binary op m v y) ≡ (left >>= λ v. right >>= λ y. apply_binary op m v y)
swapped op h m None None = refl
swapped op h m None (Some w) = refl
swapped op h m (Some v) None = refl
swapped op h m (Some v) (Some w) = applied_alike op m h v w
