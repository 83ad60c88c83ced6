-- Values that are loaded, converted or computed are of their types.
use Rattle.std.proofs.Common.{◌≡◌, refl, ℕ, zero, suc, ◌%◌, ◌^◌, ◌<◌, ◌==◌, not, Bool, true, List, length, Option, Some, subst, arith, lt-ltb}
use Rattle.std.proofs.lemmas.Option.{same_Some}
use Rattle.qs_memory.specs.Partial.{◌>>=◌}
use Rattle.qs_memory.specs.Values.{Pointer, null, Value, integer, address, as_integer, width, has_type, pointer_of_integer, convert}
use Rattle.qs_memory.specs.Integers.{calculate, compares, minus, complement}
use Rattle.qs_memory.specs.Memory.{Cell, Memory, block_at, target, range, cells_at, number_of, pointer_of, value_of, load}
use Rattle.qs_memory.specs.Pointers.{moved_by, difference, compares_pointers, truth}
use Rattle.qs_memory.specs.Operations.{of_truth, apply_unary, apply_binary, integer_type, unary_type, binary_type}
use Rattle.qs_memory.specs.Soundness.{IsSoundValue, IsSoundCell, IsSound}
use Rattle.qs_memory.specs.Laws.{ValuesHaveTypes}
use Rattle.qs_memory.specs.declared.scalar.Scalar.{Scalar}
use Rattle.qs_memory.specs.declared.scalar.Scalar.TheVariants as scalars
use Rattle.qs_memory.specs.declared.operation.Signedness.{Signedness}
use Rattle.qs_memory.specs.declared.operation.Signedness.TheVariants.{Signed, Unsigned}
use Rattle.qs_memory.specs.declared.operation.UnaryOperation.{UnaryOperation}
use Rattle.qs_memory.specs.declared.operation.UnaryOperation.TheVariants as unaries
use Rattle.qs_memory.specs.declared.operation.BinaryOperation.{BinaryOperation}
use Rattle.qs_memory.specs.declared.operation.BinaryOperation.TheVariants as binaries
use Rattle.qs_memory.proofs.Options.{followed, only_if_some, only_if_value}
use Rattle.qs_memory.proofs.CellLaws.{Each, length-cells_from}
use Rattle.qs_memory.proofs.BlockLaws.{range_is}
use Rattle.qs_memory.proofs.SoundLaws.{sound_read}
use Rattle.qs_memory.proofs.ValueLaws.{number_small, unary_sound, binary_sound}

-- ---- loads

number_typed :
    (s : Scalar) (m : Memory) (cells : List Cell) (v : Value) → length cells ≡ width s → Each (IsSoundCell m) cells
    → ((n : ℕ) → n < 256 ^ width s → has_type s (integer n) ≡ true) → (number_of cells >>= λ n. Some (integer n)) ≡ Some v → has_type s v ≡ true
number_typed s m cells v long each small h =
    let a = followed (number_of cells) (λ n. Some (integer n)) v h in
    subst (λ (w : Value). has_type s w ≡ true) (same_Some (integer a.value) v a.then)
    (small a.value (subst (λ (k : ℕ). a.value < 256 ^ k) long (number_small m cells a.value each a.first)))

pub value_typed :
    (s : Scalar) (m : Memory) (cells : List Cell) (v : Value) → length cells ≡ width s → Each (IsSoundCell m) cells → value_of s cells ≡ Some v
    → has_type s v ≡ true
value_typed scalars.Char m cells v long each h = number_typed scalars.Char m cells v long each (λ n small. lt-ltb n 256 small) h
value_typed scalars.Int m cells v long each h = number_typed scalars.Int m cells v long each (λ n small. lt-ltb n 4294967296 small) h
value_typed scalars.Unsigned m cells v long each h = number_typed scalars.Unsigned m cells v long each (λ n small. lt-ltb n 4294967296 small) h
value_typed scalars.Pointer m cells v long each h =
    let a = followed (pointer_of cells) (λ p. Some (address p)) v h in
    subst (λ (w : Value). has_type scalars.Pointer w ≡ true) (same_Some (address a.value) v a.then) refl

pub loaded_typed : (s : Scalar) (m : Memory) (p : Pointer) (v : Value) → IsSound m → load s m p ≡ Some v → has_type s v ≡ true
loaded_typed s m p v sound h =
    let a = followed (range m p (width s) (width s)) _ v h in
    value_typed s m (cells_at m a.value (width s)) v (length-cells_from (block_at m a.value.block).cells a.value.offset (width s))
    (sound_read m p (width s) (width s) a.value sound (range_is m p (width s) (width s) a.value a.first)) a.then

-- ---- conversions

null_typed : (n : ℕ) (w : Value) → pointer_of_integer n ≡ Some w → has_type scalars.Pointer w ≡ true
null_typed zero w h = subst (λ (x : Value). has_type scalars.Pointer x ≡ true) (same_Some (address null) w h) refl
null_typed (suc n) w h = cc

pub converted_typed : (s : Scalar) (m : Memory) (v w : Value) → IsSoundValue m v → convert s v ≡ Some w → has_type s w ≡ true
converted_typed scalars.Char m (integer n) w sound h =
    subst (λ (x : Value). has_type scalars.Char x ≡ true) (same_Some (integer (n % 256)) w h) (lt-ltb (n % 256) 256 (omega arith))
converted_typed scalars.Int m (integer n) w sound h =
    subst (λ (x : Value). has_type scalars.Int x ≡ true) (same_Some (integer n) w h) (lt-ltb n 4294967296 sound)
converted_typed scalars.Unsigned m (integer n) w sound h =
    subst (λ (x : Value). has_type scalars.Unsigned x ≡ true) (same_Some (integer n) w h) (lt-ltb n 4294967296 sound)
converted_typed scalars.Pointer m (integer n) w sound h = null_typed n w h
converted_typed scalars.Char m (address p) w sound h = cc
converted_typed scalars.Int m (address p) w sound h = cc
converted_typed scalars.Unsigned m (address p) w sound h = cc
converted_typed scalars.Pointer m (address p) w sound h =
    subst (λ (x : Value). has_type scalars.Pointer x ≡ true) (same_Some (address p) w h) refl

-- ---- operations

-- the kind of a type's values
abbrev pub IsInteger : Value → Type 0
IsInteger (integer n) = Unit {0}
IsInteger (address p) = ⊥

pub integer_typed : (s : Signedness) (m : Memory) (v : Value) → IsSoundValue m v → IsInteger v → has_type (integer_type s) v ≡ true
integer_typed Signed m (integer n) sound is = lt-ltb n 4294967296 sound
integer_typed Unsigned m (integer n) sound is = lt-ltb n 4294967296 sound
integer_typed s m (address p) sound is = absurd is

truth_kind : (o : Option Bool) (f : Bool → Bool) (w : Value) → (o >>= λ b. Some (of_truth (f b))) ≡ Some w → IsInteger w
truth_kind o f w h =
    let a = followed o (λ b. Some (of_truth (f b))) w h in
    subst IsInteger (same_Some _ w a.then) tt

integer_kind : (f : ℕ → ℕ) (v w : Value) → (as_integer v >>= λ x. Some (integer (f x))) ≡ Some w → IsInteger w
integer_kind f (integer x) w h = subst IsInteger (same_Some (integer (f x)) w h) tt
integer_kind f (address p) w h = cc

pub unary_typed : (op : UnaryOperation) (m : Memory) (v w : Value) → IsSoundValue m v → apply_unary op m v ≡ Some w → has_type (unary_type op) w ≡ true
unary_typed (unaries.Plus s) m v w sound h = integer_typed s m w (unary_sound (unaries.Plus s) m v w sound h) (integer_kind (λ x. x) v w h)
unary_typed (unaries.Minus s) m v w sound h = integer_typed s m w (unary_sound (unaries.Minus s) m v w sound h) (integer_kind minus v w h)
unary_typed (unaries.Complement s) m v w sound h = integer_typed s m w (unary_sound (unaries.Complement s) m v w sound h) (integer_kind complement v w h)
unary_typed unaries.Not m v w sound h = integer_typed Signed m w (unary_sound unaries.Not m v w sound h) (truth_kind (truth m v) not w h)
unary_typed unaries.Truth m v w sound h = integer_typed Signed m w (unary_sound unaries.Truth m v w sound h) (truth_kind (truth m v) (λ b. b) w h)

difference_kind : (element : ℕ) (m : Memory) (p q : Pointer) (w : Value) → difference element m p q ≡ Some w → IsInteger w
difference_kind element m p q w h =
    let a = followed (target m p) _ w h in
    let b = followed (target m q) _ w a.then in
    let c = only_if_some (a.value.block == b.value.block) _ w b.then in
    let d = only_if_value _ _ w c.1 in
    subst IsInteger d.1 tt

pub binary_typed :
    (op : BinaryOperation) (m : Memory) (v w x : Value) → IsSoundValue m v → IsSoundValue m w → apply_binary op m v w ≡ Some x
    → has_type (binary_type op) x ≡ true
binary_typed (binaries.Arithmetic op s) m (integer a) (integer b) x sa sb h =
    let c = followed (calculate op s a b) _ x h in
    integer_typed s m x (binary_sound (binaries.Arithmetic op s) m (integer a) (integer b) x sa sb h) (subst IsInteger (same_Some (integer c.value) x c.then) tt)
binary_typed (binaries.Arithmetic op s) m (integer a) (address q) x sa sb h = cc
binary_typed (binaries.Arithmetic op s) m (address p) w x sa sb h = cc
binary_typed (binaries.Compare op s) m (integer a) (integer b) x sa sb h =
    integer_typed Signed m x (binary_sound (binaries.Compare op s) m (integer a) (integer b) x sa sb h)
    (subst IsInteger (same_Some (of_truth (compares op s a b)) x h) tt)
binary_typed (binaries.Compare op s) m (integer a) (address q) x sa sb h = cc
binary_typed (binaries.Compare op s) m (address p) w x sa sb h = cc
binary_typed (binaries.Move direction s element) m (address p) (integer n) x sa sb h =
    let c = followed (moved_by direction s element m p n) _ x h in
    subst (λ (y : Value). has_type scalars.Pointer y ≡ true) (same_Some (address c.value) x c.then) refl
binary_typed (binaries.Move direction s element) m (address p) (address q) x sa sb h = cc
binary_typed (binaries.Move direction s element) m (integer a) w x sa sb h = cc
binary_typed (binaries.Difference element) m (address p) (address q) x sa sb h =
    integer_typed Signed m x (binary_sound (binaries.Difference element) m (address p) (address q) x sa sb h) (difference_kind element m p q x h)
binary_typed (binaries.Difference element) m (address p) (integer n) x sa sb h = cc
binary_typed (binaries.Difference element) m (integer a) w x sa sb h = cc
binary_typed (binaries.ComparePointers op) m (address p) (address q) x sa sb h =
    integer_typed Signed m x (binary_sound (binaries.ComparePointers op) m (address p) (address q) x sa sb h)
    (truth_kind (compares_pointers op m p q) (λ b. b) x h)
binary_typed (binaries.ComparePointers op) m (address p) (integer n) x sa sb h = cc
binary_typed (binaries.ComparePointers op) m (integer a) w x sa sb h = cc

pub values_have_types : ValuesHaveTypes
values_have_types = record { loaded = loaded_typed; converted = converted_typed; unary = unary_typed; binary = binary_typed }
