-- Values that are loaded, converted or computed are sound.
use Rattle.std.proofs.Common.{◌≡◌, ℕ, zero, suc, ◌+◌, ◌*◌, ◌^◌, ◌<◌, ◌≤◌, ◌==◌, nat_le, not, Bool, true, false, List, [], ◌∷◌, length, Option, Some}
use Rattle.std.proofs.Common.{ℤ, pos, negsuc, ◌+ℤ◌, sym, subst, arith}
use Rattle.std.proofs.lemmas.Bool.Decides.{nat_tests}
use Rattle.std.proofs.lemmas.Option.{same_Some}
use Rattle.qs_base.proofs.WordLaws.{wrap-below, add-below, sub-below, and-below, or-below, xor-below, sll-below, srl-below, sra-below, mul-below}
use Rattle.qs_base.proofs.WordLaws.{div-below, rem-below, divu-below, remu-below}
use Rattle.qs_memory.specs.Partial.{◌>>=◌}
use Rattle.qs_memory.specs.Values.{Pointer, null, Value, integer, address, as_integer, width, pointer_of_integer, convert}
use Rattle.qs_memory.specs.Integers.{calculate, minus, complement}
use Rattle.qs_memory.specs.Memory.{Cell, unset, byte, part, Memory, block_at, target, range, cells_at, number_of, are_parts, pointer_of, value_of, load}
use Rattle.qs_memory.specs.Pointers.{within, moved, moved_by, difference, compares_pointers, truth}
use Rattle.qs_memory.specs.Operations.{of_truth, apply_unary, apply_binary}
use Rattle.qs_memory.specs.Soundness.{IsSoundPointer, IsSoundValue, IsSoundCell, IsSound}
use Rattle.qs_memory.specs.Laws.{ValuesAreSound}
use Rattle.qs_memory.specs.declared.scalar.Scalar.{Scalar}
use Rattle.qs_memory.specs.declared.scalar.Scalar.TheVariants as scalars
use Rattle.qs_memory.specs.declared.operation.Signedness.{Signedness}
use Rattle.qs_memory.specs.declared.operation.Signedness.TheVariants.{Signed, Unsigned}
use Rattle.qs_memory.specs.declared.operation.Arithmetic.{Arithmetic}
use Rattle.qs_memory.specs.declared.operation.Arithmetic.TheVariants as arithmetics
use Rattle.qs_memory.specs.declared.operation.UnaryOperation.{UnaryOperation}
use Rattle.qs_memory.specs.declared.operation.UnaryOperation.TheVariants as unaries
use Rattle.qs_memory.specs.declared.operation.BinaryOperation.{BinaryOperation}
use Rattle.qs_memory.specs.declared.operation.BinaryOperation.TheVariants as binaries
use Rattle.qs_memory.proofs.Options.{followed, only_if_some, only_if_value}
use Rattle.qs_memory.proofs.CellLaws.{Each, length-cells_from}
use Rattle.qs_memory.proofs.BlockLaws.{target_is, range_is, live_known}
use Rattle.qs_memory.proofs.SoundLaws.{sound_read}

-- ---- loads

pub number_small : (m : Memory) (cells : List Cell) (n : ℕ) → Each (IsSoundCell m) cells → number_of cells ≡ Some n → n < 256 ^ length cells
number_small m [] n each h = let e = same_Some 0 n h in omega arith
number_small m (unset ∷ cells) n each h = cc
number_small m (part p k ∷ cells) n each h = cc
number_small m (byte b ∷ cells) n each h =
    let a = followed (number_of cells) (λ r. Some (b + 256 * r)) n h in
    let rest : a.value < 256 ^ length cells = number_small m cells a.value each.1 a.first in
    let e = same_Some (b + 256 * a.value) n a.then in
    let low : b < 256 = each.0 in
    let small : n < 256 ^ suc (length cells) = omega arith in
    small

number_sound :
    (m : Memory) (cells : List Cell) (v : Value) → Each (IsSoundCell m) cells → 256 ^ length cells ≤ 2 ^ 32
    → (number_of cells >>= λ n. Some (integer n)) ≡ Some v → IsSoundValue m v
number_sound m cells v each few h =
    let a = followed (number_of cells) (λ n. Some (integer n)) v h in
    let small : a.value < 256 ^ length cells = number_small m cells a.value each a.first in
    subst (λ (w : Value). IsSoundValue m w) (same_Some (integer a.value) v a.then) (omega arith)

pointer_sound : (m : Memory) (cells : List Cell) (p : Pointer) → Each (IsSoundCell m) cells → pointer_of cells ≡ Some p → IsSoundPointer m p
pointer_sound m [] p each h = cc
pointer_sound m (unset ∷ cells) p each h = cc
pointer_sound m (byte b ∷ cells) p each h = cc
pointer_sound m (part q k ∷ cells) p each h =
    let c = only_if_value (are_parts q 0 (part q k ∷ cells)) q p h in
    subst (λ (r : Pointer). IsSoundPointer m r) c.1 each.0.pointer

value_sound :
    (s : Scalar) (m : Memory) (cells : List Cell) (v : Value) → length cells ≡ width s → Each (IsSoundCell m) cells → value_of s cells ≡ Some v
    → IsSoundValue m v
value_sound scalars.Char m cells v long each h = number_sound m cells v each (subst (λ (n : ℕ). 256 ^ n ≤ 2 ^ 32) (sym long) (omega arith)) h
value_sound scalars.Int m cells v long each h = number_sound m cells v each (subst (λ (n : ℕ). 256 ^ n ≤ 2 ^ 32) (sym long) (omega arith)) h
value_sound scalars.Unsigned m cells v long each h = number_sound m cells v each (subst (λ (n : ℕ). 256 ^ n ≤ 2 ^ 32) (sym long) (omega arith)) h
value_sound scalars.Pointer m cells v long each h =
    let a = followed (pointer_of cells) (λ p. Some (address p)) v h in
    subst (λ (w : Value). IsSoundValue m w) (same_Some (address a.value) v a.then) (pointer_sound m cells a.value each a.first)

pub loaded_sound : (s : Scalar) (m : Memory) (p : Pointer) (v : Value) → IsSound m → load s m p ≡ Some v → IsSoundValue m v
loaded_sound s m p v sound h =
    let a = followed (range m p (width s) (width s)) _ v h in
    value_sound s m (cells_at m a.value (width s)) v (length-cells_from (block_at m a.value.block).cells a.value.offset (width s))
    (sound_read m p (width s) (width s) a.value sound (range_is m p (width s) (width s) a.value a.first)) a.then

-- ---- conversions

null_sound : (m : Memory) (n : ℕ) (w : Value) → pointer_of_integer n ≡ Some w → IsSoundValue m w
null_sound m zero w h = subst (λ (x : Value). IsSoundValue m x) (same_Some (address null) w h) tt
null_sound m (suc n) w h = cc

pub converted_sound : (s : Scalar) (m : Memory) (v w : Value) → IsSoundValue m v → convert s v ≡ Some w → IsSoundValue m w
converted_sound scalars.Char m (integer n) w sound h = subst (λ (x : Value). IsSoundValue m x) (same_Some _ w h) (omega arith)
converted_sound scalars.Int m (integer n) w sound h = subst (λ (x : Value). IsSoundValue m x) (same_Some _ w h) sound
converted_sound scalars.Unsigned m (integer n) w sound h = subst (λ (x : Value). IsSoundValue m x) (same_Some _ w h) sound
converted_sound scalars.Pointer m (integer n) w sound h = null_sound m n w h
converted_sound scalars.Char m (address p) w sound h = cc
converted_sound scalars.Int m (address p) w sound h = cc
converted_sound scalars.Unsigned m (address p) w sound h = cc
converted_sound scalars.Pointer m (address p) w sound h = subst (λ (x : Value). IsSoundValue m x) (same_Some _ w h) sound

-- ---- operations

truth_small : (m : Memory) (b : Bool) → IsSoundValue m (of_truth b)
truth_small m true = omega arith
truth_small m false = omega arith

truth_sound : (m : Memory) (o : Option Bool) (f : Bool → Bool) (w : Value) → (o >>= λ b. Some (of_truth (f b))) ≡ Some w → IsSoundValue m w
truth_sound m o f w h =
    let a = followed o (λ b. Some (of_truth (f b))) w h in
    subst (λ (x : Value). IsSoundValue m x) (same_Some _ w a.then) (truth_small m (f a.value))

integer_sound :
    (m : Memory) (f : ℕ → ℕ) → ((x : ℕ) → x < 2 ^ 32 → f x < 2 ^ 32) → (v w : Value) → IsSoundValue m v
    → (as_integer v >>= λ x. Some (integer (f x))) ≡ Some w → IsSoundValue m w
integer_sound m f small (integer x) w sound h = subst (λ (y : Value). IsSoundValue m y) (same_Some _ w h) (small x sound)
integer_sound m f small (address p) w sound h = cc

pub unary_sound : (op : UnaryOperation) (m : Memory) (v w : Value) → IsSoundValue m v → apply_unary op m v ≡ Some w → IsSoundValue m w
unary_sound (unaries.Plus s) m v w sound h = integer_sound m (λ x. x) (λ x small. small) v w sound h
unary_sound (unaries.Minus s) m v w sound h = integer_sound m minus (λ x small. sub-below 0 x) v w sound h
unary_sound (unaries.Complement s) m v w sound h = integer_sound m complement (λ x small. xor-below x _ small (omega arith)) v w sound h
unary_sound unaries.Not m v w sound h = truth_sound m (truth m v) not w h
unary_sound unaries.Truth m v w sound h = truth_sound m (truth m v) (λ b. b) w h

calculated : (op : Arithmetic) (s : Signedness) (x y n : ℕ) → x < 2 ^ 32 → y < 2 ^ 32 → calculate op s x y ≡ Some n → n < 2 ^ 32
calculated arithmetics.Add s x y n hx hy h = subst (λ (k : ℕ). k < 2 ^ 32) (same_Some _ n h) (add-below x y)
calculated arithmetics.Subtract s x y n hx hy h = subst (λ (k : ℕ). k < 2 ^ 32) (same_Some _ n h) (sub-below x y)
calculated arithmetics.Multiply s x y n hx hy h = subst (λ (k : ℕ). k < 2 ^ 32) (same_Some _ n h) (mul-below x y)
calculated arithmetics.Divide Signed x y n hx hy h = subst (λ (k : ℕ). k < 2 ^ 32) (only_if_value _ _ n h).1 (div-below x y)
calculated arithmetics.Divide Unsigned x y n hx hy h = subst (λ (k : ℕ). k < 2 ^ 32) (only_if_value _ _ n h).1 (divu-below x y hx)
calculated arithmetics.Remainder Signed x y n hx hy h = subst (λ (k : ℕ). k < 2 ^ 32) (only_if_value _ _ n h).1 (rem-below x y hx)
calculated arithmetics.Remainder Unsigned x y n hx hy h = subst (λ (k : ℕ). k < 2 ^ 32) (only_if_value _ _ n h).1 (remu-below x y hx)
calculated arithmetics.ShiftLeft s x y n hx hy h = subst (λ (k : ℕ). k < 2 ^ 32) (only_if_value _ _ n h).1 (sll-below x y)
calculated arithmetics.ShiftRight Signed x y n hx hy h = subst (λ (k : ℕ). k < 2 ^ 32) (only_if_value _ _ n h).1 (sra-below x y)
calculated arithmetics.ShiftRight Unsigned x y n hx hy h = subst (λ (k : ℕ). k < 2 ^ 32) (only_if_value _ _ n h).1 (srl-below x y hx)
calculated arithmetics.And s x y n hx hy h = subst (λ (k : ℕ). k < 2 ^ 32) (same_Some _ n h) (and-below x y hx)
calculated arithmetics.Or s x y n hx hy h = subst (λ (k : ℕ). k < 2 ^ 32) (same_Some _ n h) (or-below x y hx hy)
calculated arithmetics.Xor s x y n hx hy h = subst (λ (k : ℕ). k < 2 ^ 32) (same_Some _ n h) (xor-below x y hx hy)

-- where a pointer may stand
within_size : (size offset : ℕ) (z : ℤ) → within size z ≡ Some offset → offset ≤ size
within_size size offset (pos n) h =
    let c = only_if_value (nat_le n size) n offset h in
    let e = c.1 in
    grind (arith, nat_tests, c.0, e)
within_size size offset (negsuc n) h = cc

pub moved_sound : (m : Memory) (p q : Pointer) (bytes : ℤ) → moved m p bytes ≡ Some q → IsSoundPointer m q
moved_sound m p q bytes h =
    let a = followed (target m p) _ q h in
    let is = target_is m p a.value a.first in
    let b = followed (within (block_at m a.value.block).size (pos a.value.offset +ℤ bytes)) _ q a.then in
    subst (λ (r : Pointer). IsSoundPointer m r) (same_Some _ q b.then)
    (record { made = live_known m a.value.block is.live; in_range = λ live. within_size _ b.value _ b.first })

difference_sound : (element : ℕ) (m : Memory) (p q : Pointer) (w : Value) → difference element m p q ≡ Some w → IsSoundValue m w
difference_sound element m p q w h =
    let a = followed (target m p) _ w h in
    let b = followed (target m q) _ w a.then in
    let c = only_if_some (a.value.block == b.value.block) _ w b.then in
    let d = only_if_value _ _ w c.1 in
    subst (λ (x : Value). IsSoundValue m x) d.1 (wrap-below _)

pub binary_sound : (op : BinaryOperation) (m : Memory) (v w x : Value) → IsSoundValue m v → IsSoundValue m w → apply_binary op m v w ≡ Some x → IsSoundValue m x
binary_sound (binaries.Arithmetic op s) m (integer a) (integer b) x sa sb h =
    let c = followed (calculate op s a b) _ x h in
    subst (λ (y : Value). IsSoundValue m y) (same_Some _ x c.then) (calculated op s a b c.value sa sb c.first)
binary_sound (binaries.Arithmetic op s) m (integer a) (address q) x sa sb h = cc
binary_sound (binaries.Arithmetic op s) m (address p) w x sa sb h = cc
binary_sound (binaries.Compare op s) m (integer a) (integer b) x sa sb h = subst (λ (y : Value). IsSoundValue m y) (same_Some _ x h) (truth_small m _)
binary_sound (binaries.Compare op s) m (integer a) (address q) x sa sb h = cc
binary_sound (binaries.Compare op s) m (address p) w x sa sb h = cc
binary_sound (binaries.Move direction s element) m (address p) (integer n) x sa sb h =
    let c = followed (moved_by direction s element m p n) _ x h in
    subst (λ (y : Value). IsSoundValue m y) (same_Some _ x c.then) (moved_sound m p c.value _ c.first)
binary_sound (binaries.Move direction s element) m (address p) (address q) x sa sb h = cc
binary_sound (binaries.Move direction s element) m (integer a) w x sa sb h = cc
binary_sound (binaries.Difference element) m (address p) (address q) x sa sb h = difference_sound element m p q x h
binary_sound (binaries.Difference element) m (address p) (integer n) x sa sb h = cc
binary_sound (binaries.Difference element) m (integer a) w x sa sb h = cc
binary_sound (binaries.ComparePointers op) m (address p) (address q) x sa sb h = truth_sound m (compares_pointers op m p q) (λ b. b) x h
binary_sound (binaries.ComparePointers op) m (address p) (integer n) x sa sb h = cc
binary_sound (binaries.ComparePointers op) m (integer a) w x sa sb h = cc

pub values_are_sound : ValuesAreSound
values_are_sound = record {
  loaded = loaded_sound;
  converted = converted_sound;
  member = λ m p q offset h. moved_sound m p q (pos offset) h;
  unary = unary_sound;
  binary = binary_sound;
}
