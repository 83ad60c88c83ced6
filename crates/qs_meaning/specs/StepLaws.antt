-- What a step on values of the types that it takes needs besides these: where it is undefined, it is so for one of the nine reasons.
use Rattle.std.specs.Prelude.{◌≡◌, ◌↔◌, ℕ, Bool, true, false, ℤ, pos, ◌-ℤ◌, ◌*ℤ◌, int_rem, IsSome}
use Rattle.std.specs.Ordering.{int_eq}
use Rattle.qs_memory.specs.declared.scalar.Scalar.{Scalar}
use Rattle.qs_memory.specs.declared.scalar.Scalar.TheVariants as scalars
use Rattle.qs_memory.specs.declared.operation.Signedness.{Signedness}
use Rattle.qs_memory.specs.declared.operation.Arithmetic.{Arithmetic}
use Rattle.qs_memory.specs.declared.operation.Arithmetic.TheVariants as arithmetics
use Rattle.qs_memory.specs.declared.operation.Comparison.{Comparison}
use Rattle.qs_memory.specs.declared.operation.Comparison.TheVariants as comparisons
use Rattle.qs_memory.specs.declared.operation.UnaryOperation.{UnaryOperation}
use Rattle.qs_memory.specs.declared.operation.UnaryOperation.TheVariants as unaries
use Rattle.qs_memory.specs.declared.operation.BinaryOperation.{BinaryOperation}
use Rattle.qs_memory.specs.declared.operation.BinaryOperation.TheVariants as binaries
use Rattle.qs_memory.specs.Values.{Pointer, null, Value, integer, address, width, as_integer, as_pointer}
use Rattle.qs_memory.specs.Integers.{reading, divides, is_count}
use Rattle.qs_memory.specs.Memory.{Memory, store}
use Rattle.qs_memory.specs.Pointers.{directed, member_of, truth}
use Rattle.qs_memory.specs.Operations.{apply_unary, apply_binary}
use Rattle.qs_memory.specs.Accesses.{MayWrite, IsMoved, AreInOneBlock, AreComparable}
use Rattle.qs_memory.specs.Scalars.{is_promoted}
use Rattle.qs_memory.specs.Operands.{unary_takes, binary_takes}
use Rattle.qs_calls.specs.Starts.{IsOf}
use Rattle.qs_meaning.specs.Typed.{Conversion}
use Rattle.qs_meaning.specs.Fits.{conversion_fits}
use Rattle.qs_meaning.specs.States.{convert_by}

-- ---- operations

-- 2 and 3: no division that C11 leaves undefined, and no shift by 32 or more (6.5.5p5, p6, 6.5.7p3)
abbrev pub calculates : Arithmetic → Signedness → (x y : ℕ) → Bool
calculates arithmetics.Add s x y = true
calculates arithmetics.Subtract s x y = true
calculates arithmetics.Multiply s x y = true
calculates arithmetics.Divide s x y = divides s x y
calculates arithmetics.Remainder s x y = divides s x y
calculates arithmetics.ShiftLeft s x y = is_count y
calculates arithmetics.ShiftRight s x y = is_count y
calculates arithmetics.And s x y = true
calculates arithmetics.Or s x y = true
calculates arithmetics.Xor s x y = true

-- 7: a pointer that is tested is null or into a live block (6.2.4p2)
abbrev pub IsTested : Memory → Value → Type 0
IsTested m (integer n) = Unit {0}
IsTested m (address p) = AreComparable m p null

-- 6 and 7: two that are ordered are into one live block, and two that are compared for equality are null or into live blocks, and strictly
-- inside two different ones (6.5.8p5, 6.5.9p6)
abbrev pub AreCompared : Comparison → Memory → Pointer → Pointer → Type 0
AreCompared comparisons.Less m p q = AreInOneBlock m p q
AreCompared comparisons.LessOrEqual m p q = AreInOneBlock m p q
AreCompared comparisons.Greater m p q = AreInOneBlock m p q
AreCompared comparisons.GreaterOrEqual m p q = AreInOneBlock m p q
AreCompared comparisons.Equal m p q = AreComparable m p q
AreCompared comparisons.NotEqual m p q = AreComparable m p q

-- 6: two that are subtracted are into one live block, a whole number of elements apart (6.5.6p9)
pub record AreSubtracted (element : ℕ) (m : Memory) (p q : Pointer) : Type 0 where
  pub in_block : AreInOneBlock m p q
  pub whole : int_eq (int_rem (pos in_block.left -ℤ pos in_block.right) (pos element)) (pos 0) ≡ true

-- 5: a pointer that is moved is into a live block and stays in it or just past its end (6.5.6p8)
abbrev pub MovesTo : Memory → Pointer → (bytes : ℤ) → Type 0
MovesTo m p bytes = (q : Pointer) × IsMoved m p bytes q

abbrev pub UnaryNeeds : UnaryOperation → Memory → Value → Type 0
UnaryNeeds (unaries.Plus s) m x = Unit {0}
UnaryNeeds (unaries.Minus s) m x = Unit {0}
UnaryNeeds (unaries.Complement s) m x = Unit {0}
UnaryNeeds unaries.Not m x = IsTested m x
UnaryNeeds unaries.Truth m x = IsTested m x

-- nothing is said of operands of other kinds, which are none of the operation's types
abbrev pub BinaryNeeds : BinaryOperation → Memory → (x y : Value) → Type 0
BinaryNeeds (binaries.Arithmetic op s) m (integer x) (integer y) = calculates op s x y ≡ true
BinaryNeeds (binaries.Arithmetic op s) m (integer x) (address q) = ⊥
BinaryNeeds (binaries.Arithmetic op s) m (address p) y = ⊥
BinaryNeeds (binaries.Compare op s) m (integer x) (integer y) = Unit {0}
BinaryNeeds (binaries.Compare op s) m (integer x) (address q) = ⊥
BinaryNeeds (binaries.Compare op s) m (address p) y = ⊥
BinaryNeeds (binaries.Move direction s element) m (integer x) y = ⊥
BinaryNeeds (binaries.Move direction s element) m (address p) (integer n) = MovesTo m p (directed direction (reading s n *ℤ pos element))
BinaryNeeds (binaries.Move direction s element) m (address p) (address q) = ⊥
BinaryNeeds (binaries.Difference element) m (integer x) y = ⊥
BinaryNeeds (binaries.Difference element) m (address p) (integer n) = ⊥
BinaryNeeds (binaries.Difference element) m (address p) (address q) = AreSubtracted element m p q
BinaryNeeds (binaries.ComparePointers op) m (integer x) y = ⊥
BinaryNeeds (binaries.ComparePointers op) m (address p) (integer n) = ⊥
BinaryNeeds (binaries.ComparePointers op) m (address p) (address q) = AreCompared op m p q

-- ---- what is promised: on values of the types that they take, steps are defined exactly so

pub record StepsOnTypesAreDefined : Type 0 where
  -- 6.3: each conversion, and that of a null constant
  pub conversion : (c : Conversion) (s : Scalar) (m : Memory) (x : Value) → conversion_fits c s false ≡ true → IsOf m s x → IsSome (convert_by c x)
  pub null_constant : (c : Conversion) (s : Scalar) → conversion_fits c s true ≡ true → IsSome (convert_by c (integer 0))
  -- 6.3.2.3: a value of a pointer's type is a pointer
  pub pointer : (m : Memory) (x : Value) → IsOf m scalars.Pointer x → IsSome (as_pointer x)
  -- 6.8.4.2p1: the promoted operand of a switch is an integer
  pub operand : (s : Scalar) (m : Memory) (x : Value) → is_promoted s ≡ true → IsOf m s x → IsSome (as_integer x)
  pub unary :
      (op : UnaryOperation) (s : Scalar) (m : Memory) (x : Value) → unary_takes op s ≡ true → IsOf m s x
      → IsSome (apply_unary op m x) ↔ UnaryNeeds op m x
  pub binary :
      (op : BinaryOperation) (s t : Scalar) (m : Memory) (x y : Value) → binary_takes op s t ≡ true → IsOf m s x → IsOf m t y
      → IsSome (apply_binary op m x y) ↔ BinaryNeeds op m x y
  pub tested : (m : Memory) (x : Value) → IsSome (truth m x) ↔ IsTested m x
  pub member : (m : Memory) (p : Pointer) (offset : ℕ) → IsSome (member_of m p offset) ↔ MovesTo m p (pos offset)
  -- 4: what is stored is of its type, so a store needs a place to write to
  pub store :
      (s : Scalar) (m : Memory) (p : Pointer) (x : Value) → IsOf m s x → IsSome (store s m p x) ↔ MayWrite m p (width s) (width s)
