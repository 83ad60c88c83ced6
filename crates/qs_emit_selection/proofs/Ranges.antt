-- Registers and immediates are in their ranges.
use Rattle.std.proofs.Common.{◌≡◌, ◌⊎◌, inl, inr, ⊎_elim, ℕ, zero, suc, ◌+◌, ◌-◌, ◌*◌, ◌/◌, ◌%◌, ◌^◌, ◌==◌, ◌<◌, ◌≤◌, Bool, true, false, List, [], ◌∷◌, ◌++◌, length, Option, Some, None, refl, subst, arith}
use Rattle.std.specs.Prelude.{nat_lt, nat_le, ◌&&◌, ◌||◌, if◌then◌else◌, unwrap_or}
use Rattle.std.specs.List.{list_all}
use Rattle.std.proofs.lemmas.Bool.{cases_lt, and_parts}
use Rattle.std.proofs.lemmas.Bool.Decides.{nat_tests}
use Rattle.qs_base.specs.Words.{sign_extend}
use Rattle.qs_base.specs.Parameters.{stack_arguments}
use Rattle.qs_memory.specs.Partial.{◌>>=◌, only_if}
use Rattle.qs_memory.specs.Sizes.{blank_size, is_element}
use Rattle.qs_memory.specs.declared.scalar.Scalar.{Scalar}
use Rattle.qs_memory.specs.declared.scalar.Scalar.TheVariants as scalars
use Rattle.qs_memory.specs.declared.operation.Signedness.{Signedness}
use Rattle.qs_memory.specs.declared.operation.Signedness.TheVariants.{Signed, Unsigned}
use Rattle.qs_memory.specs.declared.operation.Direction.{Direction}
use Rattle.qs_memory.specs.declared.operation.Direction.TheVariants.{Up, Down}
use Rattle.qs_memory.proofs.Options.{only_if_value}
use Rattle.qs_memory.specs.declared.operation.Comparison.{Comparison}
use Rattle.qs_memory.specs.declared.operation.Comparison.TheVariants as comparisons
use Rattle.qs_memory.specs.declared.operation.UnaryOperation.{UnaryOperation}
use Rattle.qs_memory.specs.declared.operation.UnaryOperation.TheVariants as unaries
use Rattle.qs_memory.specs.declared.operation.BinaryOperation.{BinaryOperation}
use Rattle.qs_memory.specs.declared.operation.BinaryOperation.TheVariants as binaries
use Rattle.qs_memory.specs.declared.operation.Arithmetic.{Arithmetic}
use Rattle.qs_memory.specs.declared.operation.Arithmetic.TheVariants as arithmetics
use Rattle.qs_isa.specs.declared.instruction.Instr.{Instr}
use Rattle.qs_isa.specs.declared.instruction.Instr.TheVariants as instructions
use Rattle.qs_isa.specs.declared.instruction.LoadKind.{LoadKind}
use Rattle.qs_isa.specs.declared.instruction.LoadKind.TheVariants.{Lw}
use Rattle.qs_isa.specs.declared.instruction.StoreKind.{StoreKind}
use Rattle.qs_isa.specs.Ranges.{IsSigned, IsOffset, IsUpper}
use Rattle.qs_isa.specs.Encoding.{IsInstr}
use Rattle.qs_tac.specs.Places.{place_of}
use Rattle.qs_tac.specs.declared.places.Place.{Place}
use Rattle.qs_tac.specs.declared.places.Place.TheVariants.{Slot, Register}
use Rattle.qs_tac.specs.declared.operands.Operand.{Operand}
use Rattle.qs_tac.specs.declared.operands.Operand.TheVariants.{Temporary, Integer, Byte, Constant, Null, Local, Data}
use Rattle.qs_frames.specs.Layout.{is_among, used_among, saved_registers, used_registers, keeps_return_address, return_register, argument_at, register_at}
use Rattle.qs_tac.specs.Trees.{InstructionTree, move, unary, binary, convert, address_of, load, store}
use Rattle.qs_tac.specs.Trees.{copy, fill, call, jump, branch, return, TacUnitTree}
use Rattle.qs_tac.specs.Fits.{operand_fits, index_fits, address_fits, condition_fits, operation_fits, instruction_fits}
use Rattle.qs_tac.specs.Operands.{is_constant}
use Rattle.qs_tac.specs.declared.operands.Index.{Index}
use Rattle.qs_tac.specs.declared.operands.Address.{Address}
use Rattle.qs_tac.specs.declared.operands.Condition.{Condition}
use Rattle.qs_tac.specs.declared.operands.Condition.TheVariants.{NotZero, Zero, Compare, ComparePointers}
use Rattle.qs_frames.specs.Laws.{block}
use Rattle.qs_frames.proofs.FrameLaws.{frames_are_laid_out}
use Rattle.qs_emit_selection.specs.Pieces as pieces
use Rattle.qs_emit_selection.specs.Pieces.{is_small, low_part, high_part, constant, is_near, load_from, store_to, address_in_frame, move_stack, shift_among, shift_of, product_by, product, loop_end, copy_loop, fill_loop, zero_bytes}
use Rattle.qs_emit_selection.specs.Operands.{Context, stored, frame_of, local_offset, place_into, byte_into, into, register_of, stands_in, unless_there, operand_code, operand_register, put_place, put, result_register, result_code, move_to, Anchor, displacement, behind_frame, behind_pointer, based, add_elements, add_index, anchor_of, address_into, is_word_address}
use Rattle.qs_emit_selection.specs.Operations.{constant_of, negated, if_small, with_constant, or_code, kind_of, both, on_both, arithmetic, less_than, less_than_constant, less, apart, compare, directed, step, move_by, move_by_elements, moved, elements_between, unary_instruction, conversion}
use Rattle.qs_emit_selection.specs.Operations as operations
use Rattle.qs_emit_selection.specs.Emission.{save, restore, take_from_register, take_from_stack, take_parameter, take_parameters, enter, leave, result_into, has_one_epilogue, go_out, copy_code, unless_none, fill_code, stack_argument, register_argument, pass_on_stack, pass_in_registers, pass, take_result, Labels, goes_to, less_branch, not_less_branch, compare_branch, compare_items, branch_items, gives, instruction_items}
use Rattle.qs_emit_selection.proofs.Sizes.{few_stored}
use Rattle.qs_emit_selection.specs.Laws.{IsItem, AreItems, IsPlace, IsContext, HasFewArguments, AreSelectedWords}
use Rattle.qs_asm.specs.declared.item.Item.{Item}
use Rattle.qs_asm.specs.declared.item.Item.TheVariants as items
use Rattle.qs_asm.specs.Items.{plain}
use Rattle.qs_calls.specs.declared.callee.Callee.{Callee}
use Rattle.qs_calls.specs.declared.callee.Callee.TheVariants.{Function, PutChar, GetChar}
use Rattle.qs_calls.specs.declared.parameter.Parameter.{Parameter}
use Rattle.qs_calls.specs.declared.parameter.Parameter.TheVariants.{Plain, Placed}

-- each instruction has a word
abbrev pub AreInstrs : List Instr → Type 0
AreInstrs [] = Unit {0}
AreInstrs (i ∷ code) = IsInstr i × AreInstrs code

pub then_instrs : (a b : List Instr) → AreInstrs a → AreInstrs b → AreInstrs (a ++ b)
then_instrs [] b h k = k
then_instrs (i ∷ a) b h k = (h.0, then_instrs a b h.1 k)

pub either_instrs : (b : Bool) (x y : List Instr) → (b ≡ true → AreInstrs x) → (b ≡ false → AreInstrs y) → AreInstrs (if b then x else y)
either_instrs true x y h k = h refl
either_instrs false x y h k = k refl

-- ---- immediates

pub small_signed : (word : ℕ) → word < 2 ^ 32 → is_small word ≡ true → IsSigned 12 word
unfolding is_small
small_signed word h e = (h, last (nat_lt word 2048) (nat_le (2 ^ 32 - 2048) word) refl refl e)
  where
    last : (a b : Bool) → nat_lt word 2048 ≡ a → nat_le (2 ^ 32 - 2048) word ≡ b → a || b ≡ true → (word + 2 ^ (12 - 1)) % 2 ^ 32 < 2 ^ 12
    last true b p q r = let l : word < 2048 = grind (arith, nat_tests, p) in omega (arith, l)
    last false true p q r = let l : 2 ^ 32 - 2048 ≤ word = grind (arith, nat_tests, q) in omega (arith, l, h)
    last false false p q r = cc

pub low_signed : (word : ℕ) → IsSigned 12 (low_part word)
unfolding low_part
low_signed word = ⊎_elim small large (cases_lt (word % 2 ^ 12) 2048)
  where
    small : word % 2 ^ 12 < 2048 → IsSigned 12 (sign_extend 12 (word % 2 ^ 12))
    small h = let e : nat_lt (word % 2 ^ 12) (2 ^ (12 - 1)) ≡ true = grind (arith, nat_tests, h) in rw e (omega (arith, h), omega (arith, h))

    large : 2048 ≤ word % 2 ^ 12 → IsSigned 12 (sign_extend 12 (word % 2 ^ 12))
    large h = let e : nat_lt (word % 2 ^ 12) (2 ^ (12 - 1)) ≡ false = grind (arith, nat_tests, h) in rw e (omega (arith, h), omega (arith, h))

pub high_upper : (word : ℕ) → IsUpper (high_part word)
unfolding high_part
high_upper word = (omega arith, omega arith)

pub near_signed : (offset : ℕ) → is_near offset ≡ true → IsSigned 12 offset
unfolding is_near
near_signed offset e = let l : offset < 2048 = grind (arith, nat_tests, e) in (omega (arith, l), omega (arith, l))

pub below_signed : (n : ℕ) → n < 2048 → IsSigned 12 n
below_signed n h = (omega (arith, h), omega (arith, h))

-- ---- pieces

pub constant_instrs : (rd word : ℕ) → rd < 32 → word < 2 ^ 32 → AreInstrs (constant rd word)
constant_instrs rd word r w =
    either_instrs (is_small word) _ _ (λ e. ((r, omega arith, small_signed word w e), tt))
    (λ e. either_instrs (low_part word == 0) _ _ (λ z. ((r, high_upper word), tt)) (λ z. ((r, high_upper word), ((r, r, low_signed word), tt))))

pub load_instrs : (kind : LoadKind) (rd offset : ℕ) → rd < 32 → AreInstrs (load_from kind rd offset)
load_instrs kind rd offset r =
    either_instrs (is_near offset) _ _ (λ e. ((r, omega arith, near_signed offset e), tt))
    (λ e. ((r, high_upper offset), ((r, r, omega arith), ((r, r, low_signed offset), tt))))

pub store_instrs : (kind : StoreKind) (rs offset : ℕ) → rs < 32 → AreInstrs (store_to kind rs offset)
store_instrs kind rs offset r =
    either_instrs (is_near offset) _ _ (λ e. ((omega arith, r, near_signed offset e), tt))
    (λ e. ((omega arith, high_upper offset), ((omega arith, omega arith, omega arith), ((omega arith, r, low_signed offset), tt))))

pub address_instrs : (rd offset : ℕ) → rd < 32 → offset < 2 ^ 32 → AreInstrs (address_in_frame rd offset)
address_instrs rd offset r o =
    either_instrs (is_near offset) _ _ (λ e. ((r, omega arith, near_signed offset e), tt))
    (λ e. then_instrs (constant rd offset) _ (constant_instrs rd offset r o) ((r, r, omega arith), tt))

pub stack_instrs : (word : ℕ) → word < 2 ^ 32 → AreInstrs (move_stack word)
stack_instrs word w =
    either_instrs (is_small word) _ _ (λ e. ((omega arith, omega arith, small_signed word w e), tt))
    (λ e. then_instrs (constant 5 word) _ (constant_instrs 5 word (omega arith) w) ((omega arith, omega arith, omega arith), tt))

shift_small : (count exponent number k : ℕ) → shift_among count exponent number ≡ Some k → k < exponent + count
shift_small zero exponent number k h = cc
shift_small (suc count) exponent number k h = by (2 ^ exponent == number) (λ e. shift_small count (exponent + 1) number k e) h
  where
    by : (b : Bool) → (shift_among count (exponent + 1) number ≡ Some k → k < exponent + 1 + count) → (if b then Some exponent else shift_among count (exponent + 1) number) ≡ Some k → k < exponent + suc count
    by true more e = let s : exponent ≡ k = cc in omega (arith, s)
    by false more e = let s = more e in omega (arith, s)

product_by_instrs : (o : Option ℕ) (rd rs number : ℕ) → ((k : ℕ) → o ≡ Some k → k < 32) → rd < 32 → rs < 32 → number < 2 ^ 32 → AreInstrs (product_by o rd rs number)
product_by_instrs (Some k) rd rs number h r s n = ((r, s, h k refl), tt)
product_by_instrs None rd rs number h r s n = then_instrs (constant rd number) _ (constant_instrs rd number r n) ((r, r, s), tt)

pub product_instrs : (rd rs number : ℕ) → rd < 32 → rs < 32 → number < 2 ^ 32 → AreInstrs (product rd rs number)
unfolding shift_of
product_instrs rd rs number r s n = product_by_instrs (shift_among 31 1 number) rd rs number (λ k e. shift_small 31 1 number k e) r s n

pub loop_end_instrs : (size : ℕ) → size < 2 ^ 32 → AreInstrs (loop_end size)
loop_end_instrs size h = then_instrs (constant 17 size) _ (constant_instrs 17 size (omega arith) h) ((omega arith, omega arith, omega arith), tt)

-- backwards over four or two instructions
back_four : IsOffset 13 (2 ^ 32 - 16)
back_four = (omega arith, omega arith, refl)

back_two : IsOffset 13 (2 ^ 32 - 8)
back_two = (omega arith, omega arith, refl)

pub copy_loop_instrs : (from : LoadKind) (to : StoreKind) (width size : ℕ) → width < 2048 → size < 2 ^ 32 → AreInstrs (copy_loop from to width size)
copy_loop_instrs from to width size w h =
    then_instrs (loop_end size) _ (loop_end_instrs size h)
    ((omega arith, omega arith, below_signed 0 (omega arith)), ((omega arith, omega arith, below_signed width w), ((omega arith, omega arith, below_signed 0 (omega arith)), ((omega arith, omega arith, below_signed width w), ((omega arith, omega arith, back_four), tt)))))

pub fill_loop_instrs : (to : StoreKind) (width size : ℕ) → width < 2048 → size < 2 ^ 32 → AreInstrs (fill_loop to width size)
fill_loop_instrs to width size w h =
    then_instrs (loop_end size) _ (loop_end_instrs size h)
    ((omega arith, omega arith, below_signed 0 (omega arith)), ((omega arith, omega arith, below_signed width w), ((omega arith, omega arith, back_two), tt)))

pub zero_instrs : (count offset : ℕ) → offset + count < 2048 → AreInstrs (zero_bytes count offset)
zero_instrs zero offset h = tt
zero_instrs (suc count) offset h = ((omega arith, omega arith, below_signed offset (omega (arith, h))), zero_instrs count (offset + 1) (omega (arith, h)))

pub copy_instrs : (size alignment : ℕ) → size < 2 ^ 32 → AreInstrs (copy_code size alignment)
copy_instrs size alignment h =
    either_instrs (size == 0) _ _ (λ e. tt)
    (λ e. either_instrs (size % 4 == 0 && alignment % 4 == 0) _ _ (λ f. copy_loop_instrs _ _ 4 size (omega arith) h) (λ f. copy_loop_instrs _ _ 1 size (omega arith) h))

pub fill_instrs : (aligned : Bool) (size : ℕ) → size < 2 ^ 32 → AreInstrs (fill_code aligned size)
fill_instrs true size h =
    then_instrs (unless_none (size / 4) (fill_loop _ 4 (size / 4 * 4))) (zero_bytes (size % 4) 0)
    (either_instrs (size / 4 == 0) _ _ (λ e. tt) (λ e. fill_loop_instrs _ 4 (size / 4 * 4) (omega arith) (omega (arith, h)))) (zero_instrs (size % 4) 0 (omega arith))
fill_instrs false size h = either_instrs (size == 0) _ _ (λ e. tt) (λ e. fill_loop_instrs _ 1 size (omega arith) h)

-- ---- registers that are stored

abbrev pub IsIn : List ℕ → (r : ℕ) → Type 0
IsIn [] r = ⊥
IsIn (q ∷ registers) r = (r ≡ q) ⊎ IsIn registers r

save_instrs : (outgoing : ℕ) (registers : List ℕ) (i : ℕ) → outgoing ≤ 32 → ((r : ℕ) → IsIn registers r → r < 32) → i + length registers ≤ 13 → AreInstrs (save outgoing registers i)
save_instrs outgoing [] i o h n = tt
save_instrs outgoing (r ∷ registers) i o h n =
    ((omega arith, h r (inl refl), below_signed (register_at outgoing i) (omega (arith, o, n))), save_instrs outgoing registers (i + 1) o (λ q k. h q (inr k)) (omega (arith, n)))

restore_instrs : (outgoing : ℕ) (registers : List ℕ) (i : ℕ) → outgoing ≤ 32 → ((r : ℕ) → IsIn registers r → r < 32) → i + length registers ≤ 13 → AreInstrs (restore outgoing registers i)
restore_instrs outgoing [] i o h n = tt
restore_instrs outgoing (r ∷ registers) i o h n =
    then_instrs (restore outgoing registers (i + 1)) _ (restore_instrs outgoing registers (i + 1) o (λ q k. h q (inr k)) (omega (arith, n)))
    ((h r (inl refl), omega arith, below_signed (register_at outgoing i) (omega (arith, o, n))), tt)

-- ---- tests

word_small : (n : ℕ) → nat_lt n (2 ^ 32) ≡ true → n < 2 ^ 32
word_small n h = grind (arith, nat_tests, h)

element_small : (n : ℕ) → is_element n ≡ true → n < 2 ^ 32
element_small n h = let t = and_parts (nat_le 1 n) (nat_le n 16777216) h in let l : n ≤ 16777216 = grind (arith, nat_tests, t.1) in omega (arith, l)

negated_small : (n : ℕ) → negated n < 2 ^ 32
negated_small n = omega arith

-- ---- operations on a constant

small_instr : (word : ℕ) (i j : Instr) → if_small word i ≡ Some j → (is_small word ≡ true → IsInstr i) → IsInstr j
small_instr word i j h k = let c = only_if_value (is_small word) i j h in subst IsInstr c.1 (k c.0)

shift_instr : (n : ℕ) (i j : Instr) → only_if (nat_lt n 32) (Some i) ≡ Some j → (n < 32 → IsInstr i) → IsInstr j
shift_instr n i j h k = let c = only_if_value (nat_lt n 32) i j h in subst IsInstr c.1 (k (grind (arith, nat_tests, c.0)))

with_constant_instr : (op : Arithmetic) (s : Signedness) (rd rs n : ℕ) (i : Instr) → rd < 32 → rs < 32 → n < 2 ^ 32 → with_constant op s rd rs n ≡ Some i → IsInstr i
with_constant_instr arithmetics.Add s rd rs n i r q w h = small_instr n _ i h (λ e. (r, q, small_signed n w e))
with_constant_instr arithmetics.Subtract s rd rs n i r q w h = small_instr (negated n) _ i h (λ e. (r, q, small_signed (negated n) (negated_small n) e))
with_constant_instr arithmetics.Multiply s rd rs n i r q w h = cc
with_constant_instr arithmetics.Divide s rd rs n i r q w h = cc
with_constant_instr arithmetics.Remainder s rd rs n i r q w h = cc
with_constant_instr arithmetics.ShiftLeft s rd rs n i r q w h = shift_instr n _ i h (λ e. (r, q, e))
with_constant_instr arithmetics.ShiftRight Signed rd rs n i r q w h = shift_instr n _ i h (λ e. (r, q, e))
with_constant_instr arithmetics.ShiftRight Unsigned rd rs n i r q w h = shift_instr n _ i h (λ e. (r, q, e))
with_constant_instr arithmetics.And s rd rs n i r q w h = small_instr n _ i h (λ e. (r, q, small_signed n w e))
with_constant_instr arithmetics.Or s rd rs n i r q w h = small_instr n _ i h (λ e. (r, q, small_signed n w e))
with_constant_instr arithmetics.Xor s rd rs n i r q w h = small_instr n _ i h (λ e. (r, q, small_signed n w e))

less_constant_instr : (s : Signedness) (rd rs n : ℕ) (i : Instr) → rd < 32 → rs < 32 → n < 2 ^ 32 → less_than_constant s rd rs n ≡ Some i → IsInstr i
less_constant_instr Signed rd rs n i r q w h = small_instr n _ i h (λ e. (r, q, small_signed n w e))
less_constant_instr Unsigned rd rs n i r q w h = small_instr n _ i h (λ e. (r, q, small_signed n w e))

or_instrs : (o : Option Instr) (code : List Instr) → ((i : Instr) → o ≡ Some i → IsInstr i) → AreInstrs code → AreInstrs (or_code o code)
or_instrs (Some i) code h k = (h i refl, tt)
or_instrs None code h k = k

module _ (u : TacUnitTree) (c : Context) (ok : IsContext c) where
  local_small : (i : ℕ) → i < length c.function.blocks → local_offset c i < 2 ^ 32
  local_small i h =
      let inside = (frames_are_laid_out c.function c.places).inside (block i) h in
      let cost = ok.cost in
      omega (arith, inside, cost)

  -- ---- operands

  place_instrs : (rd : ℕ) (p : Place) → rd < 32 → IsPlace p → AreInstrs (place_into c rd p)
  place_instrs rd (Slot k) r h = load_instrs _ rd _ r
  place_instrs rd (Register q) r h = ((r, h, below_signed 0 (omega arith)), tt)

  byte_instrs : (rd : ℕ) (p : Place) → rd < 32 → IsPlace p → AreInstrs (byte_into c rd p)
  byte_instrs rd (Slot k) r h = load_instrs _ rd _ r
  byte_instrs rd (Register q) r h = ((r, h, below_signed 255 (omega arith)), tt)

  into_instrs : (rd : ℕ) (o : Operand) → rd < 32 → operand_fits u c.function o ≡ true → AreInstrs (into c rd o)
  into_instrs rd (Temporary t) r h = place_instrs rd _ r (ok.places t)
  into_instrs rd (Integer t) r h = place_instrs rd _ r (ok.places t)
  into_instrs rd (Byte t) r h = byte_instrs rd _ r (ok.places t)
  into_instrs rd (Constant n) r h = constant_instrs rd n r (word_small n h)
  into_instrs rd Null r h = ((r, omega arith, below_signed 0 (omega arith)), tt)
  into_instrs rd (Local i) r h = address_instrs rd _ r (local_small i (grind (arith, nat_tests, h)))
  into_instrs rd (Data i) r h = constant_instrs rd _ r (ok.data_at i)

  unless_instrs : (o : Option ℕ) (code : List Instr) → AreInstrs code → AreInstrs (unless_there o code)
  unless_instrs None code h = h
  unless_instrs (Some r) code h = tt

  operand_instrs : (free : ℕ) (o : Operand) → free < 32 → operand_fits u c.function o ≡ true → AreInstrs (operand_code c free o)
  operand_instrs free o r h = unless_instrs (stands_in c o) (into c free o) (into_instrs free o r h)

  in_place : (p : Place) (free : ℕ) → IsPlace p → free < 32 → unwrap_or (register_of p) free < 32
  in_place (Slot k) free h r = r
  in_place (Register q) free h r = h

  register_small : (free : ℕ) (o : Operand) → free < 32 → operand_register c free o < 32
  register_small free (Temporary t) r = in_place (place_of c.places t) free (ok.places t) r
  register_small free (Integer t) r = in_place (place_of c.places t) free (ok.places t) r
  register_small free (Byte t) r = r
  register_small free (Constant n) r = by (n == 0)
    where
      by : (b : Bool) → unwrap_or (if b then Some 0 else None) free < 32
      by true = omega arith
      by false = r
  register_small free Null r = omega arith
  register_small free (Local i) r = r
  register_small free (Data i) r = r

  -- ---- results

  result_small : (x : ℕ) → result_register c x < 32
  result_small x = in_place (place_of c.places x) 10 (ok.places x) (omega arith)

  put_place_instrs : (rs : ℕ) (p : Place) → rs < 32 → IsPlace p → AreInstrs (put_place c rs p)
  put_place_instrs rs (Slot k) r h = store_instrs _ rs _ r
  put_place_instrs rs (Register q) r h = ((h, r, below_signed 0 (omega arith)), tt)

  put_instrs : (rs x : ℕ) → rs < 32 → AreInstrs (put c rs x)
  put_instrs rs x r = put_place_instrs rs (place_of c.places x) r (ok.places x)

  result_instrs : (x : ℕ) → AreInstrs (result_code c x)
  result_instrs x = unless_instrs (register_of (place_of c.places x)) (put c 10 x) (put_instrs 10 x (omega arith))

  move_instrs : (o : Operand) (p : Place) → operand_fits u c.function o ≡ true → IsPlace p → AreInstrs (move_to c o p)
  move_instrs o (Slot k) h q = then_instrs (operand_code c 10 o) _ (operand_instrs 10 o (omega arith) h) (store_instrs _ (operand_register c 10 o) _ (register_small 10 o (omega arith)))
  move_instrs o (Register r) h q = into_instrs r o q h

  -- ---- addresses

  pub record IsAnchor (a : Anchor) : Type 0 where
    pub code_is : AreInstrs a.code
    pub register_is : a.register < 32
    pub immediate_is : IsSigned 12 a.immediate

  either_anchor : (b : Bool) (x y : Anchor) → (b ≡ true → IsAnchor x) → (b ≡ false → IsAnchor y) → IsAnchor (if b then x else y)
  either_anchor true x y h k = h refl
  either_anchor false x y h k = k refl

  pointer_anchor : (d : ℕ) (o : Operand) → d < 2 ^ 32 → operand_fits u c.function o ≡ true → IsAnchor (behind_pointer c d o)
  pointer_anchor d o w h =
      either_anchor (is_small d) _ _ (λ e. record { code_is = operand_instrs 10 o (omega arith) h; register_is = register_small 10 o (omega arith); immediate_is = small_signed d w e })
      (λ e. record {
        code_is = then_instrs (operand_code c 10 o) _ (operand_instrs 10 o (omega arith) h) ((omega arith, high_upper d), ((omega arith, omega arith, register_small 10 o (omega arith)), tt));
        register_is = omega arith;
        immediate_is = low_signed d;
      })

  based_anchor : (d : ℕ) (o : Operand) → d < 2 ^ 32 → operand_fits u c.function o ≡ true → IsAnchor (based c d o)
  based_anchor d (Temporary t) w h = pointer_anchor d (Temporary t) w h
  based_anchor d (Integer t) w h = pointer_anchor d (Integer t) w h
  based_anchor d (Byte t) w h = pointer_anchor d (Byte t) w h
  based_anchor d (Constant n) w h = pointer_anchor d (Constant n) w h
  based_anchor d Null w h = pointer_anchor d Null w h
  based_anchor d (Local i) w h = in_frame ((local_offset c i + d) % 2 ^ 32)
    where
      in_frame : (o : ℕ) → IsAnchor (behind_frame o)
      in_frame o = either_anchor (is_near o) _ _ (λ e. record { code_is = tt; register_is = omega arith; immediate_is = near_signed o e })
          (λ e. record { code_is = ((omega arith, high_upper o), ((omega arith, omega arith, omega arith), tt)); register_is = omega arith; immediate_is = low_signed o })
  based_anchor d (Data i) w h = record { code_is = ((omega arith, high_upper ((c.data_at i + d) % 2 ^ 32)), tt); register_is = omega arith; immediate_is = low_signed ((c.data_at i + d) % 2 ^ 32) }

  elements_instrs : (base count element : ℕ) → base < 32 → count < 32 → element < 2 ^ 32 → AreInstrs (add_elements base count element)
  elements_instrs base count element b r e =
      either_instrs (element == 1) _ _ (λ q. ((omega arith, r, b), tt))
      (λ q. then_instrs (product 13 count element) _ (product_instrs 13 count element (omega arith) r e) ((omega arith, omega arith, b), tt))

  index_anchor : (a : Anchor) (index : Option Index) → IsAnchor a → index_fits u c.function index ≡ true → IsAnchor (add_index c a index)
  index_anchor a None h k = h
  index_anchor a (Some index) h k =
      let t = and_parts (operand_fits u c.function index.count && is_element index.element) _ k in
      let v = and_parts (operand_fits u c.function index.count) (is_element index.element) t.0 in
      either_anchor (is_constant index.count) _ _ (λ e. h) (λ e. record {
        code_is = then_instrs a.code _ h.code_is (then_instrs (operand_code c 11 index.count) _ (operand_instrs 11 index.count (omega arith) v.0) (elements_instrs a.register (operand_register c 11 index.count) index.element h.register_is (register_small 11 index.count (omega arith)) (element_small index.element v.1)));
        register_is = omega arith;
        immediate_is = h.immediate_is;
      })

  anchor_is : (p : Address) → address_fits u c.function p ≡ true → IsAnchor (anchor_of c p)
  anchor_is p h =
      let t = and_parts (operand_fits u c.function p.base && index_fits u c.function p.index) _ h in
      let v = and_parts (operand_fits u c.function p.base) (index_fits u c.function p.index) t.0 in
      index_anchor (based c (displacement p) p.base) p.index (based_anchor (displacement p) p.base (omega arith) v.0) v.1

  address_into_instrs : (rd : ℕ) (p : Address) → rd < 32 → address_fits u c.function p ≡ true → AreInstrs (address_into c rd p)
  address_into_instrs rd p r h = let a = anchor_is p h in then_instrs (anchor_of c p).code _ a.code_is ((r, a.register_is, a.immediate_is), tt)

  -- ---- operations

  -- an instruction for a constant operand
  from_constant : (y : Operand) (f : ℕ → Option Instr) (i : Instr) → operand_fits u c.function y ≡ true → ((n : ℕ) → n < 2 ^ 32 → f n ≡ Some i → IsInstr i) → (constant_of y >>= f) ≡ Some i → IsInstr i
  from_constant (Temporary t) f i h k e = cc
  from_constant (Integer t) f i h k e = cc
  from_constant (Byte t) f i h k e = cc
  from_constant (Constant n) f i h k e = k n (word_small n h) e
  from_constant Null f i h k e = cc
  from_constant (Local j) f i h k e = cc
  from_constant (Data j) f i h k e = cc

  on_both_instrs : (x y : Operand) (of : ℕ → ℕ → Instr) → operand_fits u c.function y ≡ true → ((a b : ℕ) → a < 32 → b < 32 → IsInstr (of a b)) → AreInstrs (on_both c x y of)
  on_both_instrs x y of h k = then_instrs (operand_code c 11 y) _ (operand_instrs 11 y (omega arith) h) (k (operand_register c 10 x) (operand_register c 11 y) (register_small 10 x (omega arith)) (register_small 11 y (omega arith)), tt)

  arithmetic_instrs : (op : Arithmetic) (s : Signedness) (rd : ℕ) (x y : Operand) → rd < 32 → operand_fits u c.function x ≡ true → operand_fits u c.function y ≡ true → AreInstrs (arithmetic c op s rd x y)
  arithmetic_instrs op s rd x y r h k =
      then_instrs (operand_code c 10 x) _ (operand_instrs 10 x (omega arith) h)
      (or_instrs _ _ (λ i e. from_constant y (with_constant op s rd (operand_register c 10 x)) i k (λ n w f. with_constant_instr op s rd (operand_register c 10 x) n i r (register_small 10 x (omega arith)) w f) e)
      (on_both_instrs x y (λ left right. instructions.Op (kind_of op s) rd left right) k (λ a b p q. (r, p, q))))

  less_instr : (s : Signedness) (rd a b : ℕ) → rd < 32 → a < 32 → b < 32 → IsInstr (less_than s rd a b)
  less_instr Signed rd a b r p q = (r, p, q)
  less_instr Unsigned rd a b r p q = (r, p, q)

  less_instrs : (s : Signedness) (rd : ℕ) (x y : Operand) → rd < 32 → operand_fits u c.function x ≡ true → operand_fits u c.function y ≡ true → AreInstrs (less c s rd x y)
  less_instrs s rd x y r h k =
      then_instrs (operand_code c 10 x) _ (operand_instrs 10 x (omega arith) h)
      (or_instrs _ _ (λ i e. from_constant y (less_than_constant s rd (operand_register c 10 x)) i k (λ n w f. less_constant_instr s rd (operand_register c 10 x) n i r (register_small 10 x (omega arith)) w f) e)
      (on_both_instrs x y (λ left right. less_than s rd left right) k (λ a b p q. less_instr s rd a b r p q)))

  one_signed : IsSigned 12 1
  one_signed = below_signed 1 (omega arith)

  compare_instrs : (op : Comparison) (s : Signedness) (rd : ℕ) (x y : Operand) → rd < 32 → operand_fits u c.function x ≡ true → operand_fits u c.function y ≡ true → AreInstrs (compare c op s rd x y)
  compare_instrs comparisons.Less s rd x y r h k = less_instrs s rd x y r h k
  compare_instrs comparisons.Greater s rd x y r h k = less_instrs s rd y x r k h
  compare_instrs comparisons.LessOrEqual s rd x y r h k = then_instrs (less c s rd y x) _ (less_instrs s rd y x r k h) ((r, r, one_signed), tt)
  compare_instrs comparisons.GreaterOrEqual s rd x y r h k = then_instrs (less c s rd x y) _ (less_instrs s rd x y r h k) ((r, r, one_signed), tt)
  compare_instrs comparisons.Equal s rd x y r h k = then_instrs (apart c rd x y) _ (arithmetic_instrs arithmetics.Subtract Unsigned rd x y r h k) ((r, r, one_signed), tt)
  compare_instrs comparisons.NotEqual s rd x y r h k = then_instrs (apart c rd x y) _ (arithmetic_instrs arithmetics.Subtract Unsigned rd x y r h k) ((r, omega arith, r), tt)

  both_instrs : (x y : Operand) → operand_fits u c.function x ≡ true → operand_fits u c.function y ≡ true → AreInstrs (both c x y)
  both_instrs x y h k = then_instrs (operand_code c 10 x) _ (operand_instrs 10 x (omega arith) h) (operand_instrs 11 y (omega arith) k)

  move_by_instrs : (rd p bytes : ℕ) → rd < 32 → p < 32 → bytes < 2 ^ 32 → AreInstrs (move_by rd p bytes)
  move_by_instrs rd p bytes r q w =
      either_instrs (is_small bytes) _ _ (λ e. ((r, q, small_signed bytes w e), tt))
      (λ e. then_instrs (constant 12 bytes) _ (constant_instrs 12 bytes (omega arith) w) ((r, q, omega arith), tt))

  step_instr : (direction : Direction) (rd p bytes : ℕ) → rd < 32 → p < 32 → bytes < 32 → IsInstr (step direction rd p bytes)
  step_instr Up rd p bytes r q b = (r, q, b)
  step_instr Down rd p bytes r q b = (r, q, b)

  by_elements_instrs : (direction : Direction) (rd p count element : ℕ) → rd < 32 → p < 32 → count < 32 → element < 2 ^ 32 → AreInstrs (move_by_elements direction rd p count element)
  by_elements_instrs direction rd p count element r q n e =
      either_instrs (element == 1) _ _ (λ f. (step_instr direction rd p count r q n, tt))
      (λ f. then_instrs (product 13 count element) _ (product_instrs 13 count element (omega arith) n e) (step_instr direction rd p 13 r q (omega arith), tt))

  directed_small : (direction : Direction) (n : ℕ) → n < 2 ^ 32 → directed direction n < 2 ^ 32
  directed_small Up n h = h
  directed_small Down n h = negated_small n

  moved_instrs : (direction : Direction) (element rd : ℕ) (x y : Operand) (o : Option ℕ) → rd < 32 → operand_fits u c.function x ≡ true → operand_fits u c.function y ≡ true → element < 2 ^ 32 → AreInstrs (moved c direction element rd x y o)
  moved_instrs direction element rd x y (Some n) r h k e =
      then_instrs (operand_code c 10 x) _ (operand_instrs 10 x (omega arith) h)
      (move_by_instrs rd (operand_register c 10 x) _ r (register_small 10 x (omega arith)) (directed_small direction (n * element % 2 ^ 32) (omega arith)))
  moved_instrs direction element rd x y None r h k e =
      then_instrs (both c x y) _ (both_instrs x y h k)
      (by_elements_instrs direction rd (operand_register c 10 x) (operand_register c 11 y) element r (register_small 10 x (omega arith)) (register_small 11 y (omega arith)) e)

  between_instrs : (element rd a b : ℕ) → rd < 32 → a < 32 → b < 32 → element < 2 ^ 32 → AreInstrs (elements_between element rd a b)
  between_instrs element rd a b r p q e =
      either_instrs (element == 1) _ _ (λ f. ((r, p, q), tt))
      (λ f. ((omega arith, p, q), then_instrs (constant 12 element) _ (constant_instrs 12 element (omega arith) e) ((r, omega arith, omega arith), tt)))

  binary_instrs : (op : BinaryOperation) (rd : ℕ) (x y : Operand) → rd < 32 → operand_fits u c.function x ≡ true → operand_fits u c.function y ≡ true → operation_fits op ≡ true → AreInstrs (operations.binary c op rd x y)
  binary_instrs (binaries.Arithmetic op s) rd x y r h k e = arithmetic_instrs op s rd x y r h k
  binary_instrs (binaries.Compare op s) rd x y r h k e = compare_instrs op s rd x y r h k
  binary_instrs (binaries.Move direction s element) rd x y r h k e = moved_instrs direction element rd x y (constant_of y) r h k (element_small element e)
  binary_instrs (binaries.Difference element) rd x y r h k e =
      then_instrs (both c x y) _ (both_instrs x y h k) (between_instrs element rd (operand_register c 10 x) (operand_register c 11 y) r (register_small 10 x (omega arith)) (register_small 11 y (omega arith)) (element_small element e))
  binary_instrs (binaries.ComparePointers op) rd x y r h k e = compare_instrs op Unsigned rd x y r h k

  unary_instr : (op : UnaryOperation) (rd rs : ℕ) → rd < 32 → rs < 32 → IsInstr (unary_instruction op rd rs)
  unary_instr (unaries.Plus s) rd rs r q = (r, q, below_signed 0 (omega arith))
  unary_instr (unaries.Minus s) rd rs r q = (r, omega arith, q)
  unary_instr (unaries.Complement s) rd rs r q = (r, q, (omega arith, omega arith))
  unary_instr unaries.Not rd rs r q = (r, q, one_signed)
  unary_instr unaries.Truth rd rs r q = (r, omega arith, q)

  conversion_instr : (s : Scalar) (rd rs : ℕ) → rd < 32 → rs < 32 → IsInstr (conversion s rd rs)
  conversion_instr scalars.Char rd rs r q = (r, q, below_signed 255 (omega arith))
  conversion_instr scalars.Int rd rs r q = (r, q, below_signed 0 (omega arith))
  conversion_instr scalars.Unsigned rd rs r q = (r, q, below_signed 0 (omega arith))
  conversion_instr scalars.Pointer rd rs r q = (r, q, below_signed 0 (omega arith))

  -- ---- entry and return

  used_are : (places : List Place) (registers : List ℕ) → ((r : ℕ) → IsIn registers r → r < 32) → (r : ℕ) → IsIn (used_among places registers) r → r < 32
  used_are places [] h r k = absurd k
  used_are places (q ∷ registers) h r k = by (is_among places q) (λ m. used_are places registers (λ p l. h p (inr l)) r m) k
    where
      by : (b : Bool) → (IsIn (used_among places registers) r → r < 32) → IsIn (if b then q ∷ used_among places registers else used_among places registers) r → r < 32
      by true more (inl e) = h r (inl e)
      by true more (inr m) = more m
      by false more m = more m

  saved_are : (r : ℕ) → IsIn saved_registers r → r < 32
  saved_are r h = omega (arith, h)

  stored_are : (r : ℕ) → IsIn (stored c) r → r < 32
  stored_are r h = by (keeps_return_address c.function c.places) h
    where
      by : (b : Bool) → IsIn (return_register b ++ used_registers c.places) r → r < 32
      by true (inl e) = omega (arith, e)
      by true (inr m) = used_are c.places.at saved_registers saved_are r m
      by false m = used_are c.places.at saved_registers saved_are r m

  few : 0 + length (stored c) ≤ 13
  few = let f = few_stored c in omega (arith, f)

  cost_small : (frame_of c).cost < 2 ^ 32
  cost_small = let h = ok.cost in omega (arith, h)

  few_before : (frame_of c).outgoing ≤ 32
  few_before = let p = ok.passes in omega (arith, p)

  from_register_instrs : (register : ℕ) (p : Parameter) → register < 32 → AreInstrs (take_from_register c register p)
  from_register_instrs register (Plain x) r = put_instrs register x r
  from_register_instrs register (Placed i s) r = store_instrs _ register _ r

  from_stack_instrs : (offset : ℕ) (p : Parameter) → AreInstrs (take_from_stack c offset p)
  from_stack_instrs offset (Plain x) = then_instrs (load_from Lw (result_register c x) offset) _ (load_instrs Lw (result_register c x) offset (result_small x)) (result_instrs x)
  from_stack_instrs offset (Placed i s) = then_instrs (load_from Lw 10 offset) _ (load_instrs Lw 10 offset (omega arith)) (store_instrs _ 10 _ (omega arith))

  parameter_instrs : (i : ℕ) (p : Parameter) → AreInstrs (take_parameter c i p)
  parameter_instrs i p =
      either_instrs (nat_lt i 8) _ _ (λ t. let l : i < 8 = grind (arith, nat_tests, t) in from_register_instrs (10 + i) p (omega (arith, l)))
      (λ t. from_stack_instrs _ p)

  parameters_instrs : (i : ℕ) (ps : List Parameter) → AreInstrs (take_parameters c i ps)
  parameters_instrs i [] = tt
  parameters_instrs i (p ∷ ps) = then_instrs (take_parameter c i p) _ (parameter_instrs i p) (parameters_instrs (i + 1) ps)

  pub enter_instrs : AreInstrs (enter c)
  enter_instrs =
      then_instrs (move_stack (2 ^ 32 - (frame_of c).cost)) _ (stack_instrs _ down)
      (then_instrs (save (frame_of c).outgoing (stored c) 0) _ (save_instrs (frame_of c).outgoing (stored c) 0 few_before stored_are few) (parameters_instrs 0 c.function.parameters))
    where
      down : 2 ^ 32 - (frame_of c).cost < 2 ^ 32
      down = let p = (frames_are_laid_out c.function c.places).positive in omega (arith, p)

  leave_instrs : AreInstrs (leave c)
  leave_instrs =
      then_instrs (restore (frame_of c).outgoing (stored c) 0) _ (restore_instrs (frame_of c).outgoing (stored c) 0 few_before stored_are few)
      (then_instrs (move_stack (frame_of c).cost) _ (stack_instrs _ cost_small) ((omega arith, omega arith, below_signed 0 (omega arith)), tt))

  stack_argument_instrs : (i : ℕ) (o : Operand) → i < 16 → operand_fits u c.function o ≡ true → AreInstrs (stack_argument c i o)
  stack_argument_instrs i o n k =
      either_instrs (nat_lt i 8) _ _ (λ t. tt)
      (λ t. then_instrs (operand_code c 10 o) _ (operand_instrs 10 o (omega arith) k) ((omega arith, register_small 10 o (omega arith), below_signed (argument_at (stack_arguments i)) (omega (arith, n))), tt))

  register_argument_instrs : (i : ℕ) (o : Operand) → operand_fits u c.function o ≡ true → AreInstrs (register_argument c i o)
  register_argument_instrs i o k =
      either_instrs (nat_lt i 8) _ _ (λ t. let l : i < 8 = grind (arith, nat_tests, t) in into_instrs (10 + i) o (omega (arith, l)) k) (λ t. tt)

  on_stack_instrs : (i : ℕ) (os : List Operand) → i + length os ≤ 16 → list_all (operand_fits u c.function) os ≡ true → AreInstrs (pass_on_stack c i os)
  on_stack_instrs i [] h k = tt
  on_stack_instrs i (o ∷ os) h k =
      let t = and_parts (operand_fits u c.function o) (list_all (operand_fits u c.function) os) k in
      then_instrs (stack_argument c i o) _ (stack_argument_instrs i o (omega (arith, h)) t.0) (on_stack_instrs (i + 1) os (omega (arith, h)) t.1)

  in_registers_instrs : (i : ℕ) (os : List Operand) → list_all (operand_fits u c.function) os ≡ true → AreInstrs (pass_in_registers c i os)
  in_registers_instrs i [] k = tt
  in_registers_instrs i (o ∷ os) k =
      let t = and_parts (operand_fits u c.function o) (list_all (operand_fits u c.function) os) k in
      then_instrs (register_argument c i o) _ (register_argument_instrs i o t.0) (in_registers_instrs (i + 1) os t.1)

  pass_instrs : (os : List Operand) → length os ≤ 16 → list_all (operand_fits u c.function) os ≡ true → AreInstrs (pass c os)
  pass_instrs os h k = then_instrs (pass_on_stack c 0 os) _ (on_stack_instrs 0 os (omega (arith, h)) k) (in_registers_instrs 0 os k)

  taken_instrs : (x : Option ℕ) → AreInstrs (take_result c x)
  taken_instrs None = tt
  taken_instrs (Some x) = put_instrs 10 x (omega arith)

-- ---- items

then_items : (a b : List Item) → AreItems a → AreItems b → AreItems (a ++ b)
then_items [] b h k = k
then_items (i ∷ a) b h k = (h.0, then_items a b h.1 k)

pub plain_items : (code : List Instr) → AreInstrs code → AreItems (plain code)
plain_items [] h = tt
plain_items (i ∷ code) h = (h.0, plain_items code h.1)

less_item : (s : Signedness) (a b l : ℕ) → a < 32 → b < 32 → IsItem (less_branch s a b l)
less_item Signed a b l p q = (p, q)
less_item Unsigned a b l p q = (p, q)

not_less_item : (s : Signedness) (a b l : ℕ) → a < 32 → b < 32 → IsItem (not_less_branch s a b l)
not_less_item Signed a b l p q = (p, q)
not_less_item Unsigned a b l p q = (p, q)

branch_item : (op : Comparison) (s : Signedness) (a b l : ℕ) → a < 32 → b < 32 → IsItem (compare_branch op s a b l)
branch_item comparisons.Less s a b l p q = less_item s a b l p q
branch_item comparisons.LessOrEqual s a b l p q = not_less_item s b a l q p
branch_item comparisons.Greater s a b l p q = less_item s b a l q p
branch_item comparisons.GreaterOrEqual s a b l p q = not_less_item s a b l p q
branch_item comparisons.Equal s a b l p q = (p, q)
branch_item comparisons.NotEqual s a b l p q = (p, q)

module _ (u : TacUnitTree) (c : Context) (labels : Labels) (ok : IsContext c) where
  gives_items : (x : ℕ) (code : ℕ → List Instr) → ((rd : ℕ) → rd < 32 → AreInstrs (code rd)) → AreItems (gives c x code)
  gives_items x code h = plain_items _ (then_instrs (code (result_register c x)) (result_code c x) (h (result_register c x) (result_small u c ok x)) (result_instrs u c ok x))

  goes_items : (f : Callee) → AreItems (goes_to labels f)
  goes_items (Function f) = (omega arith, tt)
  goes_items PutChar = ((omega arith, omega arith, below_signed 1 (omega arith)), (tt, tt))
  goes_items GetChar = ((omega arith, omega arith, below_signed 2 (omega arith)), (tt, tt))

  compared_items : (op : Comparison) (s : Signedness) (x y : Operand) (l : ℕ) → operand_fits u c.function x && operand_fits u c.function y ≡ true → AreItems (compare_items c op s x y l)
  compared_items op s x y l h =
      let t = and_parts (operand_fits u c.function x) (operand_fits u c.function y) h in
      then_items (plain (both c x y)) _ (plain_items _ (both_instrs u c ok x y t.0 t.1)) (branch_item op s (operand_register c 10 x) (operand_register c 11 y) l (register_small u c ok 10 x (omega arith)) (register_small u c ok 11 y (omega arith)), tt)

  condition_items : (b : Condition) (l : ℕ) → condition_fits u c.function b ≡ true → AreItems (branch_items c b l)
  condition_items (NotZero o) l h = then_items (plain (operand_code c 10 o)) _ (plain_items _ (operand_instrs u c ok 10 o (omega arith) h)) ((register_small u c ok 10 o (omega arith), omega arith), tt)
  condition_items (Zero o) l h = then_items (plain (operand_code c 10 o)) _ (plain_items _ (operand_instrs u c ok 10 o (omega arith) h)) ((register_small u c ok 10 o (omega arith), omega arith), tt)
  condition_items (Compare op s x y) l h = compared_items op s x y l h
  condition_items (ComparePointers op x y) l h = compared_items op Unsigned x y l h

  instruction_are : (i : InstructionTree) → instruction_fits u c.function i ≡ true → HasFewArguments i → AreItems (instruction_items c labels i)
  instruction_are (move x o) h few =
      let t = and_parts _ (operand_fits u c.function o) h in
      plain_items _ (move_instrs u c ok o (place_of c.places x) t.1 (ok.places x))
  instruction_are (unary op x o) h few =
      let t = and_parts _ (operand_fits u c.function o) h in
      gives_items x _ (λ rd r. then_instrs (operand_code c 10 o) (unary_instruction op rd (operand_register c 10 o) ∷ []) (operand_instrs u c ok 10 o (omega arith) t.1) (unary_instr u c ok op rd _ r (register_small u c ok 10 o (omega arith)), tt))
  instruction_are (binary op x o p) h few =
      let t = and_parts _ (operation_fits op) h in
      let v = and_parts _ (operand_fits u c.function p) t.0 in
      let w = and_parts _ (operand_fits u c.function o) v.0 in
      gives_items x _ (λ rd r. binary_instrs u c ok op rd o p r w.1 v.1 t.1)
  instruction_are (convert s x o) h few =
      let t = and_parts _ (operand_fits u c.function o) h in
      gives_items x _ (λ rd r. then_instrs (operand_code c 10 o) (conversion s rd (operand_register c 10 o) ∷ []) (operand_instrs u c ok 10 o (omega arith) t.1) (conversion_instr u c ok s rd _ r (register_small u c ok 10 o (omega arith)), tt))
  instruction_are (address_of x p) h few =
      let t = and_parts _ (address_fits u c.function p) h in
      gives_items x _ (λ rd r. address_into_instrs u c ok rd p r t.1)
  instruction_are (load s x p) h few =
      let t = and_parts _ (address_fits u c.function p) h in
      let a = anchor_is u c ok p t.1 in
      gives_items x _ (λ rd r. then_instrs (anchor_of c p).code (pieces.load (pieces.load_kind s) rd (anchor_of c p).register (anchor_of c p).immediate ∷ []) a.code_is ((r, a.register_is, a.immediate_is), tt))
  instruction_are (store s p o) h few =
      let t = and_parts (address_fits u c.function p) (operand_fits u c.function o) h in
      let a = anchor_is u c ok p t.0 in
      plain_items _ (then_instrs (anchor_of c p).code _ a.code_is (then_instrs (operand_code c 14 o) _ (operand_instrs u c ok 14 o (omega arith) t.1) ((a.register_is, register_small u c ok 14 o (omega arith), a.immediate_is), tt)))
  instruction_are (copy size alignment p q) h few =
      let t = and_parts _ (address_fits u c.function q) h in
      let v = and_parts _ (address_fits u c.function p) t.0 in
      let w = and_parts (nat_lt size (2 ^ 32)) (nat_le 1 alignment) v.0 in
      plain_items _ (then_instrs (address_into c 15 p) _ (address_into_instrs u c ok 15 p (omega arith) v.1) (then_instrs (address_into c 16 q) _ (address_into_instrs u c ok 16 q (omega arith) t.1) (copy_instrs size alignment (word_small size w.0))))
  instruction_are (fill blank p) h few =
      let t = and_parts (nat_lt (blank_size blank) (2 ^ 32)) (address_fits u c.function p) h in
      plain_items _ (then_instrs (address_into c 15 p) _ (address_into_instrs u c ok 15 p (omega arith) t.1) (fill_instrs (is_word_address p) (blank_size blank) (word_small (blank_size blank) t.0)))
  instruction_are (call x f arguments) h few =
      let t = and_parts _ (list_all (operand_fits u c.function) arguments) h in
      let n = few x f arguments refl in
      then_items (plain (pass c arguments)) _ (plain_items _ (pass_instrs u c ok arguments n t.1)) (then_items (goes_to labels f) _ (goes_items f) (plain_items _ (taken_instrs u c ok x)))
  instruction_are (jump to) h few = (omega arith, tt)
  instruction_are (branch b to) h few = let t = and_parts (condition_fits u c.function b) _ h in condition_items b _ t.0
  instruction_are (return o) h few = then_items (plain (result_into c o)) (go_out c labels) (result_are o h) (out (has_one_epilogue c.function))
    where
      result_are : (o : Option Operand) → instruction_fits u c.function (return o) ≡ true → AreItems (plain (result_into c o))
      result_are None h = tt
      result_are (Some o) h = plain_items _ (into_instrs u c ok 10 o (omega arith) h)

      out : (b : Bool) → AreItems (if b then items.Jump 0 (labels.instruction (length c.function.code)) ∷ [] else plain (leave c))
      out true = (omega arith, tt)
      out false = plain_items (leave c) (leave_instrs u c ok)

pub what_is_selected : (u : TacUnitTree) (c : Context) (labels : Labels) → IsContext c → AreSelectedWords u c labels
what_is_selected u c labels ok = record {
  enter = plain_items _ (enter_instrs u c ok);
  instruction = instruction_are u c labels ok;
  leave = plain_items (leave c) (leave_instrs u c ok);
}
