-- How many words the code of each piece takes.
use Rattle.std.proofs.Common.{◌≡◌, ℕ, zero, suc, ◌+◌, ◌*◌, ◌%◌, ◌/◌, ◌^◌, ◌==◌, ◌≤◌, ◌⊎◌, inl, inr, ⊎_elim, Bool, true, false, List, [], ◌∷◌, ◌++◌, length, Option, Some, None, refl, sym, ap, ◌∙◌, subst, arith, length-append}
use Rattle.std.specs.Prelude.{◌-◌, nat_lt, ◌&&◌, if◌then◌else◌, is_some, sum_by, unwrap_or, slice_get, slice_index_or}
use Rattle.std.proofs.lemmas.Bool.{cases_lt}
use Rattle.std.proofs.lemmas.Bool.Decides.{nat_tests}
use Rattle.std.proofs.lemmas.List.Sums.{sum_by-cons, sum_by-append}
use Rattle.qs_base.specs.Parameters.{stack_arguments, most_stack_arguments}
use Rattle.qs_memory.specs.Sizes.{blank_size}
use Rattle.qs_memory.specs.declared.operation.Signedness.{Signedness}
use Rattle.qs_memory.specs.declared.operation.Signedness.TheVariants.{Signed, Unsigned}
use Rattle.qs_memory.specs.declared.operation.Direction.{Direction}
use Rattle.qs_memory.specs.declared.operation.Arithmetic.{Arithmetic}
use Rattle.qs_memory.specs.declared.operation.Arithmetic.TheVariants as arithmetics
use Rattle.qs_memory.specs.declared.operation.Comparison.{Comparison}
use Rattle.qs_memory.specs.declared.operation.Comparison.TheVariants as comparisons
use Rattle.qs_memory.specs.declared.operation.BinaryOperation.{BinaryOperation}
use Rattle.qs_memory.specs.declared.operation.BinaryOperation.TheVariants as binaries
use Rattle.qs_calls.specs.declared.callee.Callee.{Callee}
use Rattle.qs_calls.specs.declared.callee.Callee.TheVariants.{Function, PutChar, GetChar}
use Rattle.qs_calls.specs.declared.parameter.Parameter.{Parameter}
use Rattle.qs_calls.specs.declared.parameter.Parameter.TheVariants.{Plain, Placed}
use Rattle.qs_isa.specs.EnvironmentCalls.{exit_call}
use Rattle.qs_isa.specs.Registers.{x0, ra, sp, a0, a1, a4}
use Rattle.qs_isa.specs.declared.instruction.Instr.{Instr}
use Rattle.qs_isa.specs.declared.instruction.Instr.TheVariants as instructions
use Rattle.qs_isa.specs.declared.instruction.LoadKind.{LoadKind}
use Rattle.qs_isa.specs.declared.instruction.StoreKind.{StoreKind}
use Rattle.qs_isa.specs.declared.instruction.StoreKind.TheVariants.{Sw}
use Rattle.qs_frames.specs.Layout.{argument_at}
use Rattle.qs_asm.specs.declared.item.Item.{Item}
use Rattle.qs_asm.specs.declared.item.Item.TheVariants as items
use Rattle.qs_asm.specs.Items.{plain, item_words}
use Rattle.qs_asm.proofs.LaidLaws.{takes_words}
use Rattle.qs_tac.specs.Trees.{InstructionTree, move, unary, binary, convert, address_of, load, store}
use Rattle.qs_tac.specs.Trees.{copy, fill, call, jump, branch, return, TacFunctionTree, TacUnitTree}
use Rattle.qs_tac.specs.Places.{PlacesTree, place_of, no_places, Accepted}
use Rattle.qs_tac.specs.Laws.{AreAccepted}
use Rattle.qs_tac.specs.Sizes as sizes
use Rattle.qs_tac.specs.Sizes.{reach, slot_words, constant_words, operand_words, base_words, offset_words, address_words, operation_words, callee_words, taken_words, condition_words, parameter_words, enter_words, leave_words, returned_words, instruction_words, words, unit_words}
use Rattle.qs_tac.specs.Operands.{is_constant}
use Rattle.qs_tac.specs.declared.places.Place.{Place}
use Rattle.qs_tac.specs.declared.places.Place.TheVariants.{Slot, Register}
use Rattle.qs_tac.specs.declared.operands.Operand.{Operand}
use Rattle.qs_tac.specs.declared.operands.Operand.TheVariants.{Temporary, Integer, Byte, Constant, Null, Local, Data}
use Rattle.qs_tac.specs.declared.operands.Index.{Index}
use Rattle.qs_tac.specs.declared.operands.Address.{Address}
use Rattle.qs_tac.specs.declared.operands.Condition.{Condition}
use Rattle.qs_tac.specs.declared.operands.Condition.TheVariants.{NotZero, Zero, Compare, ComparePointers}
use Rattle.qs_frames.proofs.FrameLaws.{one_place_each, stored_words, slot_low, slot_past, fewer_slots}
use Rattle.qs_emit_selection.proofs.EntryLaws.{few_are_stored}
use Rattle.qs_emit_selection.specs.Pieces as pieces
use Rattle.qs_emit_selection.specs.Pieces.{sltiu, sltu, is_small, low_part, constant, is_near, load_from, store_to, address_in_frame, move_stack, shift_of, product_by, loop_end, copy_loop, fill_loop, zero_bytes}
use Rattle.qs_emit_selection.specs.Operands.{Context, frame_of, stored, slot_offset, constant_count, place_into, byte_into, into, register_of, stands_in, unless_there, operand_code, operand_register, put_place, put, result_register, result_code, move_to, Anchor, displacement, behind_frame, behind_pointer, based, add_elements, add_index, anchor_of, address_into, is_word_address}
use Rattle.qs_emit_selection.specs.Operations.{constant_of, or_code, both, on_both, arithmetic, less, apart, compare, move_by, move_by_elements, moved, elements_between}
use Rattle.qs_emit_selection.specs.Operations as operations
use Rattle.qs_emit_selection.specs.Emission.{copy_code, unless_none, fill_code, save, restore, take_from_register, take_from_stack, take_parameter, take_parameters, enter, leave, result_into, returned, ends_from, has_one_epilogue, epilogue, last_items, stack_argument, register_argument, pass_on_stack, pass_in_registers, pass, take_result, Labels, goes_to, compare_branch, compare_items, branch_items, gives, instruction_items, body_items, function_items, first_label, labels_of, functions_items, environment, start_items, unit_items}
use Rattle.qs_emit_selection.specs.Laws.{PassesFew, AllPassFew, KeepsWords, UnitKeepsWords}

-- from so many to so many instructions
pub record Long (low high : ℕ) (code : List Instr) : Type 0 where
  pub least : low ≤ length code
  pub most : length code ≤ high

then_long : {a b : List Instr} {l h k g : ℕ} → Long l h a → Long k g b → Long (l + k) (h + g) (a ++ b)
then_long {a} {b} x y =
    let e : length (a ++ b) ≡ length a + length b = length-append a b in
    let p = x.least in let q = x.most in let r = y.least in let s = y.most in
    record { least = omega (arith, e, p, r); most = omega (arith, e, q, s) }

either_long : {x y : List Instr} {l h : ℕ} → (b : Bool) → Long l h x → Long l h y → Long l h (if b then x else y)
either_long true x y = x
either_long false x y = y

wider : {a : List Instr} {l h k g : ℕ} → k ≤ l → h ≤ g → Long l h a → Long k g a
wider less more x = let p = x.least in let q = x.most in record { least = omega (arith, p, less); most = omega (arith, q, more) }

none : Long 0 0 []
none = record { least = omega arith; most = omega arith }

one : (i : Instr) → Long 1 1 (i ∷ [])
one i = record { least = omega arith; most = omega arith }

two : (i j : Instr) → Long 2 2 (i ∷ j ∷ [])
two i j = record { least = omega arith; most = omega arith }

three : (i j k : Instr) → Long 3 3 (i ∷ j ∷ k ∷ [])
three i j k = record { least = omega arith; most = omega arith }

five : (i j k m n : Instr) → Long 5 5 (i ∷ j ∷ k ∷ m ∷ n ∷ [])
five i j k m n = record { least = omega arith; most = omega arith }

-- one of two anchors
anchor_long : {l : ℕ} → (b : Bool) (x y : Anchor) (h k : ℕ) → Long l h x.code → Long l k y.code → Long l (if b then h else k) (Anchor.code (if b then x else y))
anchor_long true x y h k p q = p
anchor_long false x y h k p q = q

-- ---- pieces

constant_long : (rd word : ℕ) → Long 1 2 (constant rd word)
constant_long rd word =
    either_long (is_small word) (wider (omega arith) (omega arith) (one _))
    (either_long (low_part word == 0) (wider (omega arith) (omega arith) (one _)) (wider (omega arith) (omega arith) (two _ _)))

load_long : (kind : LoadKind) (rd offset : ℕ) → Long 1 3 (load_from kind rd offset)
load_long kind rd offset =
    either_long (is_near offset) (wider (omega arith) (omega arith) (one _)) (wider (omega arith) (omega arith) (three _ _ _))

store_long : (kind : StoreKind) (rs offset : ℕ) → Long 1 3 (store_to kind rs offset)
store_long kind rs offset =
    either_long (is_near offset) (wider (omega arith) (omega arith) (one _)) (wider (omega arith) (omega arith) (three _ _ _))

address_long : (rd offset : ℕ) → Long 1 3 (address_in_frame rd offset)
address_long rd offset =
    either_long (is_near offset) (wider (omega arith) (omega arith) (one _))
    (wider (omega arith) (omega arith) (then_long (constant_long rd offset) (one _)))

stack_long : (word : ℕ) → Long 1 3 (move_stack word)
stack_long word =
    either_long (is_small word) (wider (omega arith) (omega arith) (one _))
    (wider (omega arith) (omega arith) (then_long (constant_long _ word) (one _)))

product_by_long : (o : Option ℕ) (rd rs number : ℕ) → Long 1 3 (product_by o rd rs number)
product_by_long (Some k) rd rs number = wider (omega arith) (omega arith) (one _)
product_by_long None rd rs number = wider (omega arith) (omega arith) (then_long (constant_long rd number) (one _))

loop_end_long : (size : ℕ) → Long 2 3 (loop_end size)
loop_end_long size = then_long (constant_long _ size) (one _)

copy_loop_long : (from : LoadKind) (to : StoreKind) (width size : ℕ) → Long 0 8 (copy_loop from to width size)
copy_loop_long from to width size =
    wider (omega arith) (omega arith) (then_long (loop_end_long size) (five _ _ _ _ _))

fill_loop_long : (to : StoreKind) (width size : ℕ) → Long 0 6 (fill_loop to width size)
fill_loop_long to width size = wider (omega arith) (omega arith) (then_long (loop_end_long size) (three _ _ _))

zero_bytes_length : (count offset : ℕ) → length (zero_bytes count offset) ≡ count
zero_bytes_length zero offset = refl
zero_bytes_length (suc count) offset = ap suc (zero_bytes_length count (offset + 1))

-- ---- saved registers

save_length : (outgoing : ℕ) (registers : List ℕ) (i : ℕ) → length (save outgoing registers i) ≡ length registers
save_length outgoing [] i = refl
save_length outgoing (r ∷ registers) i = ap suc (save_length outgoing registers (i + 1))

restore_length : (outgoing : ℕ) (registers : List ℕ) (i : ℕ) → length (restore outgoing registers i) ≡ length registers
restore_length outgoing [] i = refl
restore_length outgoing (r ∷ registers) i =
    let e : length (restore outgoing (r ∷ registers) i) ≡ length (restore outgoing registers (i + 1)) + 1 = length-append (restore outgoing registers (i + 1)) _ in
    let f = restore_length outgoing registers (i + 1) in
    omega (arith, e, f)

module _ (c : Context) where
  pub few_stored : length (stored c) ≤ 13
  few_stored = few_are_stored c.function c.places

  save_long : Long 0 13 (save (frame_of c).outgoing (stored c) 0)
  save_long = let e = save_length (frame_of c).outgoing (stored c) 0 in let f = few_stored in record { least = omega arith; most = omega (arith, e, f) }

  restore_long : Long 0 13 (restore (frame_of c).outgoing (stored c) 0)
  restore_long = let e = restore_length (frame_of c).outgoing (stored c) 0 in let f = few_stored in record { least = omega arith; most = omega (arith, e, f) }

-- ---- operands and results

-- a constant below the reach is one word
small_constant : (rd word : ℕ) → nat_lt word reach ≡ true → Long 1 1 (constant rd word)
unfolding is_small
small_constant rd word h = rw h (one _)

constant_fits : (rd word : ℕ) → Long 1 (constant_words word) (constant rd word)
constant_fits rd word = by (nat_lt word reach) refl
  where
    by : (b : Bool) → nat_lt word reach ≡ b → Long 1 (if b then 1 else 2) (constant rd word)
    by true e = small_constant rd word e
    by false e = constant_long rd word

load_by : (kind : LoadKind) (rd offset : ℕ) (b : Bool) → (b ≡ true → is_near offset ≡ true) → Long 1 (if b then 1 else 3) (load_from kind rd offset)
load_by kind rd offset true h = let e : is_near offset ≡ true = h refl in rw e (one _)
load_by kind rd offset false h = load_long kind rd offset

store_by : (kind : StoreKind) (rs offset : ℕ) (b : Bool) → (b ≡ true → is_near offset ≡ true) → Long 1 (if b then 1 else 3) (store_to kind rs offset)
store_by kind rs offset true h = let e : is_near offset ≡ true = h refl in rw e (one _)
store_by kind rs offset false h = store_long kind rs offset

-- what the sizes have in reach is in reach
near_offset : (offset temporaries t : ℕ) → offset ≤ 4 * (most_stack_arguments + sizes.saved_registers + (temporaries - t)) ⊎ offset ≤ 84 → nat_lt (4 * (most_stack_arguments + sizes.saved_registers + (temporaries - t))) reach ≡ true → is_near offset ≡ true
unfolding is_near
near_offset offset temporaries t (inl e) h = grind (arith, nat_tests, e, h)
near_offset offset temporaries t (inr e) h = grind (arith, nat_tests, e)

-- what the sizes count on: places that are accepted, and calls that pass few words on the stack
pub record IsCounted (c : Context) : Type 0 where
  pub accepted : Accepted c.function c.places
  pub passes : PassesFew c.function

module _ (c : Context) (counts : IsCounted c) where
  slot_same : (k l : ℕ) → Slot k ≡ Slot l → k ≡ l
  slot_same k l e = cc

  -- the slot of a temporary lies before the words of those behind it, and behind the registers
  near_slot : (t k : ℕ) → place_of c.places t ≡ Slot k → sizes.is_near c.function t ≡ true → is_near (slot_offset c k) ≡ true
  near_slot t k is h =
      let count = one_place_each c.function c.places counts.accepted in
      let passes = counts.passes in
      let few = few_stored c in
      let words = stored_words c.function c.places in
      near_offset (slot_offset c k) c.function.temporaries t
      (⊎_elim
      (λ lt. let low = slot_low c.function c.places t k lt is in inl (omega (arith, low, count, few, words, lt, passes)))
      (λ ge. let past = slot_past c.function c.places k (let none : t ≡ k = slot_same t k (sym (outside c.places.at t ge) ∙ is) in let fewer = fewer_slots c.places in omega (arith, fewer, ge, none)) in inr (omega (arith, past, few, words, passes)))
      (cases_lt t (length c.places.at)))
      h
    where
      outside : (places : List Place) (t : ℕ) {p : Place} → length places ≤ t → slice_index_or places t p ≡ p
      outside [] t h = refl
      outside (q ∷ places) zero h = absurd (omega (arith, h))
      outside (q ∷ places) (suc t) h = outside places t (omega (arith, h))

  -- by where a temporary stands: a register is one word away, and so is a slot in reach
  by_place : (P : Place → Type 0) (t : ℕ) → ((k : ℕ) → (sizes.is_near c.function t ≡ true → is_near (slot_offset c k) ≡ true) → P (Slot k)) → ((r : ℕ) → P (Register r)) → P (place_of c.places t)
  by_place P t slot register = by (place_of c.places t) refl
    where
      by : (p : Place) → place_of c.places t ≡ p → P p
      by (Slot k) is = slot k (near_slot t k is)
      by (Register r) is = register r

  slot_some : (t : ℕ) → 1 ≤ slot_words c.function t
  slot_some t = by (sizes.is_near c.function t)
    where
      by : (b : Bool) → 1 ≤ (if b then 1 else 3)
      by true = omega arith
      by false = omega arith

  place_long : (rd t : ℕ) → Long 1 (slot_words c.function t) (place_into c rd (place_of c.places t))
  place_long rd t =
      by_place (λ p. Long 1 (slot_words c.function t) (place_into c rd p)) t
      (λ k near. load_by _ rd _ (sizes.is_near c.function t) near)
      (λ r. wider (omega arith) (slot_some t) (one _))

  byte_long : (rd t : ℕ) → Long 1 (slot_words c.function t) (byte_into c rd (place_of c.places t))
  byte_long rd t =
      by_place (λ p. Long 1 (slot_words c.function t) (byte_into c rd p)) t
      (λ k near. load_by _ rd _ (sizes.is_near c.function t) near)
      (λ r. wider (omega arith) (slot_some t) (one _))

  into_long : (rd : ℕ) (o : Operand) → Long 1 (operand_words c.function o) (into c rd o)
  into_long rd (Temporary t) = place_long rd t
  into_long rd (Integer t) = place_long rd t
  into_long rd (Byte t) = byte_long rd t
  into_long rd (Constant n) = constant_fits rd n
  into_long rd Null = one _
  into_long rd (Local i) = address_long rd _
  into_long rd (Data i) = constant_long rd _

  unless_long : {code : List Instr} {h : ℕ} → (o : Option ℕ) → Long 1 h code → Long 0 h (unless_there o code)
  unless_long None x = wider (omega arith) (omega arith) x
  unless_long (Some r) x = record { least = omega arith; most = omega arith }

  operand_long : (free : ℕ) (o : Operand) → Long 0 (operand_words c.function o) (operand_code c free o)
  operand_long free o = unless_long (stands_in c o) (into_long free o)

  put_long : (rs x : ℕ) → Long 1 (slot_words c.function x) (put c rs x)
  put_long rs x =
      by_place (λ p. Long 1 (slot_words c.function x) (put_place c rs p)) x
      (λ k near. store_by _ rs _ (sizes.is_near c.function x) near)
      (λ r. wider (omega arith) (slot_some x) (one _))

  result_long : (x : ℕ) → Long 0 (slot_words c.function x) (result_code c x)
  result_long x = unless_long (register_of (place_of c.places x)) (put_long _ x)

  move_long : (o : Operand) (x : ℕ) → Long 1 (operand_words c.function o + slot_words c.function x) (move_to c o (place_of c.places x))
  move_long o x =
      by_place (λ p. Long 1 (operand_words c.function o + slot_words c.function x) (move_to c o p)) x
      (λ k near. then_long (operand_long _ o) (store_by _ _ _ (sizes.is_near c.function x) near))
      (λ r. wider (omega arith) (omega arith) (into_long r o))

  -- ---- addresses

  abbrev pointer_most : (displacement : ℕ) → Operand → ℕ
  pointer_most d o = if is_small d then operand_words c.function o else operand_words c.function o + 2

  -- what an anchor takes at most
  abbrev pub based_most : (displacement : ℕ) → Operand → ℕ
  based_most d (Temporary t) = pointer_most d (Temporary t)
  based_most d (Integer t) = pointer_most d (Integer t)
  based_most d (Byte t) = pointer_most d (Byte t)
  based_most d (Constant n) = pointer_most d (Constant n)
  based_most d Null = pointer_most d Null
  based_most d (Local i) = 2
  based_most d (Data i) = 1

  pointer_long : (d : ℕ) (o : Operand) → Long 0 (pointer_most d o) (behind_pointer c d o).code
  pointer_long d o =
      anchor_long (is_small d) _ _ (operand_words c.function o) (operand_words c.function o + 2) (operand_long _ o)
      (wider (omega arith) (omega arith) (then_long (operand_long _ o) (two _ _)))

  frame_long : (offset : ℕ) → Long 0 2 (behind_frame offset).code
  frame_long offset = widest (is_near offset) (anchor_long (is_near offset) _ _ 0 2 none (wider (omega arith) (omega arith) (two _ _)))
    where
      widest : {code : List Instr} → (b : Bool) → Long 0 (if b then 0 else 2) code → Long 0 2 code
      widest true x = wider (omega arith) (omega arith) x
      widest false x = x

  based_long : (d : ℕ) (o : Operand) → Long 0 (based_most d o) (based c d o).code
  based_long d (Temporary t) = pointer_long d (Temporary t)
  based_long d (Integer t) = pointer_long d (Integer t)
  based_long d (Byte t) = pointer_long d (Byte t)
  based_long d (Constant n) = pointer_long d (Constant n)
  based_long d Null = pointer_long d Null
  based_long d (Local i) = frame_long _
  based_long d (Data i) = wider (omega arith) (omega arith) (one _)

  abbrev pub counted : (h : ℕ) → Option Index → ℕ
  counted h None = h
  counted h (Some index) = if is_constant index.count then h else h + (operand_words c.function index.count + 4)

  elements_long : (base count element : ℕ) → Long 1 4 (add_elements base count element)
  elements_long base count element =
      either_long (element == 1) (wider (omega arith) (omega arith) (one _))
      (wider (omega arith) (omega arith) (then_long (product_by_long (shift_of element) _ count element) (one _)))

  index_long : (h : ℕ) (anchor : Anchor) (index : Option Index) → Long 0 h anchor.code → Long 0 (counted h index) (add_index c anchor index).code
  index_long h anchor None x = x
  index_long h anchor (Some index) x =
      anchor_long (is_constant index.count) _ _ h (h + (operand_words c.function index.count + 4)) x
      (wider (omega arith) (omega arith) (then_long x (then_long (operand_long a1 index.count) (elements_long anchor.register (operand_register c a1 index.count) index.element))))

-- the sizes count no less
few_words : (base n d : ℕ) → (nat_lt n 2048 ≡ true → is_small d ≡ true) → (if is_small d then base else base + 2) ≤ base + (if nat_lt n 2048 then 0 else 2)
few_words base n d h = by (nat_lt n 2048) (is_small d) h
  where
    by : (near small : Bool) → (near ≡ true → small ≡ true) → (if small then base else base + 2) ≤ base + (if near then 0 else 2)
    by true true k = omega arith
    by true false k = let e : false ≡ true = k refl in cc
    by false true k = omega arith
    by false false k = omega arith

near_is_small : (n : ℕ) → nat_lt n 2048 ≡ true → is_small (n % 2 ^ 32) ≡ true
unfolding is_small
near_is_small n h = grind (arith, nat_tests)

-- no displacement takes more than two words
two_more : (d base : ℕ) → (if is_small d then base else base + 2) ≤ base + 2
two_more d base = by (is_small d)
  where
    by : (b : Bool) → (if b then base else base + 2) ≤ base + 2
    by true = omega arith
    by false = omega arith

module _ (c : Context) (counts : IsCounted c) where
  -- an anchor without a constant count: its displacement is the sum of its offsets
  based_fits : (o : Operand) (n : ℕ) → based_most c counts (n % 2 ^ 32) o ≤ base_words c.function o + offset_words o n
  based_fits (Temporary t) n = few_words (operand_words c.function (Temporary t)) n (n % 2 ^ 32) (near_is_small n)
  based_fits (Integer t) n = few_words (operand_words c.function (Integer t)) n (n % 2 ^ 32) (near_is_small n)
  based_fits (Byte t) n = few_words (operand_words c.function (Byte t)) n (n % 2 ^ 32) (near_is_small n)
  based_fits (Constant k) n = few_words (operand_words c.function (Constant k)) n (n % 2 ^ 32) (near_is_small n)
  based_fits Null n = few_words (operand_words c.function Null) n (n % 2 ^ 32) (near_is_small n)
  based_fits (Local i) n = omega arith
  based_fits (Data i) n = omega arith

  -- with one
  based_more : (o : Operand) (d : ℕ) → based_most c counts d o ≤ base_words c.function o + 2
  based_more (Temporary t) d = two_more d (operand_words c.function (Temporary t))
  based_more (Integer t) d = two_more d (operand_words c.function (Integer t))
  based_more (Byte t) d = two_more d (operand_words c.function (Byte t))
  based_more (Constant k) d = two_more d (operand_words c.function (Constant k))
  based_more Null d = two_more d (operand_words c.function Null)
  based_more (Local i) d = omega arith
  based_more (Data i) d = omega arith

  abbrev AnchorFits : Address → Type 0
  AnchorFits p = counted c counts (based_most c counts (displacement p) p.base) p.index ≤ address_words c.function p

  other_fits : (base : Operand) (offset : Option ℕ) (index : Index) → is_constant index.count ≡ false → constant_count index.count ≡ 0 → AnchorFits (record { base = base; offset = offset; index = Some index })
  other_fits base offset index k z =
      let n = unwrap_or offset 0 + unwrap_or index.offset 0 in
      let d : (unwrap_or offset 0 + (constant_count index.count * index.element + unwrap_or index.offset 0)) % 2 ^ 32 ≡ n % 2 ^ 32 = rw z (omega arith) in
      let most = based_fits base n in
      rw (k, d) (omega (arith, most))

  index_fits : (base : Operand) (offset : Option ℕ) (index : Index) (count : Operand) → index.count ≡ count → AnchorFits (record { base = base; offset = offset; index = Some index })
  index_fits base offset index (Constant n) e = constant_fits
    where
      constant_fits : AnchorFits (record { base = base; offset = offset; index = Some index })
      constant_fits =
          let k : is_constant index.count ≡ true = ap is_constant e in
          let most = based_more base (displacement (record { base = base; offset = offset; index = Some index })) in
          let more : base_words c.function base + 2 ≤ base_words c.function base + (operand_words c.function index.count + 4) + offset_words base (unwrap_or offset 0 + unwrap_or index.offset 0) = omega arith in
          rw k (omega (arith, most, more))
  index_fits base offset index (Temporary t) e = other_fits base offset index (ap is_constant e) (ap constant_count e)
  index_fits base offset index (Integer t) e = other_fits base offset index (ap is_constant e) (ap constant_count e)
  index_fits base offset index (Byte t) e = other_fits base offset index (ap is_constant e) (ap constant_count e)
  index_fits base offset index Null e = other_fits base offset index (ap is_constant e) (ap constant_count e)
  index_fits base offset index (Local i) e = other_fits base offset index (ap is_constant e) (ap constant_count e)
  index_fits base offset index (Data i) e = other_fits base offset index (ap is_constant e) (ap constant_count e)

  anchor_fits : (p : Address) → AnchorFits p
  anchor_fits p = by p.base p.offset p.index
    where
      by : (base : Operand) (offset : Option ℕ) (index : Option Index) → AnchorFits (record { base = base; offset = offset; index = index })
      by base offset None = let most = based_fits base (unwrap_or offset 0 + 0) in omega (arith, most)
      by base offset (Some index) = index_fits base offset index index.count refl

  pub anchor_is_long : (p : Address) → Long 0 (address_words c.function p) (anchor_of c p).code
  anchor_is_long p = wider (omega arith) (anchor_fits p) (index_long c counts _ (based c (displacement p) p.base) p.index (based_long c counts (displacement p) p.base))

  address_into_long : (rd : ℕ) (p : Address) → Long 1 (address_words c.function p + 1) (address_into c rd p)
  address_into_long rd p = then_long (anchor_is_long p) (one _)

  -- ---- operations

  or_long : {code : List Instr} {h : ℕ} → (o : Option Instr) → 1 ≤ h → Long 1 h code → Long 1 h (or_code o code)
  or_long (Some i) some x = wider (omega arith) some (one i)
  or_long None some x = x

  on_both_long : (x y : Operand) (of : ℕ → ℕ → Instr) → Long 1 (operand_words c.function y + 1) (on_both c x y of)
  on_both_long x y of = then_long (operand_long c counts a1 y) (one _)

  arithmetic_long : (op : Arithmetic) (s : Signedness) (rd : ℕ) (x y : Operand) → Long 1 (operand_words c.function x + (operand_words c.function y + 1)) (arithmetic c op s rd x y)
  arithmetic_long op s rd x y = then_long (operand_long c counts a0 x) (or_long _ (omega arith) (on_both_long x y (λ left right. instructions.Op (operations.kind_of op s) rd left right)))

  less_long : (s : Signedness) (rd : ℕ) (x y : Operand) → Long 1 (operand_words c.function x + (operand_words c.function y + 1)) (less c s rd x y)
  less_long s rd x y = then_long (operand_long c counts a0 x) (or_long _ (omega arith) (on_both_long x y (λ left right. operations.less_than s rd left right)))

  apart_long : (rd : ℕ) (x y : Operand) → Long 1 (operand_words c.function x + (operand_words c.function y + 1)) (apart c rd x y)
  apart_long rd x y = arithmetic_long arithmetics.Subtract Unsigned rd x y

  compare_long : (op : Comparison) (s : Signedness) (rd : ℕ) (x y : Operand) → Long 1 (operand_words c.function x + operand_words c.function y + 2) (compare c op s rd x y)
  compare_long comparisons.Less s rd x y = wider (omega arith) (omega arith) (less_long s rd x y)
  compare_long comparisons.Greater s rd x y = wider (omega arith) (omega arith) (less_long s rd y x)
  compare_long comparisons.LessOrEqual s rd x y = wider (omega arith) (omega arith) (then_long (less_long s rd y x) (one _))
  compare_long comparisons.GreaterOrEqual s rd x y = wider (omega arith) (omega arith) (then_long (less_long s rd x y) (one _))
  compare_long comparisons.Equal s rd x y = wider (omega arith) (omega arith) (then_long (apart_long rd x y) (one (sltiu rd rd 1)))
  compare_long comparisons.NotEqual s rd x y = wider (omega arith) (omega arith) (then_long (apart_long rd x y) (one (sltu rd x0 rd)))

  both_long : (x y : Operand) → Long 0 (operand_words c.function x + operand_words c.function y) (both c x y)
  both_long x y = then_long (operand_long c counts a0 x) (operand_long c counts a1 y)

  move_by_long : (rd p bytes : ℕ) → Long 1 3 (move_by rd p bytes)
  move_by_long rd p bytes =
      either_long (is_small bytes) (wider (omega arith) (omega arith) (one _))
      (wider (omega arith) (omega arith) (then_long (constant_long _ bytes) (one _)))

  by_elements_long : (direction : Direction) (rd p count element : ℕ) → Long 1 4 (move_by_elements direction rd p count element)
  by_elements_long direction rd p count element =
      either_long (element == 1) (wider (omega arith) (omega arith) (one _))
      (wider (omega arith) (omega arith) (then_long (product_by_long (shift_of element) _ count element) (one _)))

  moved_long : (direction : Direction) (element rd : ℕ) (x y : Operand) (o : Option ℕ) → Long 1 (operand_words c.function x + operand_words c.function y + 4) (moved c direction element rd x y o)
  moved_long direction element rd x y (Some n) = wider (omega arith) (omega arith) (then_long (operand_long c counts a0 x) (move_by_long rd _ _))
  moved_long direction element rd x y None = then_long (both_long x y) (by_elements_long direction rd _ _ element)

  between_long : (element rd left right : ℕ) → Long 1 4 (elements_between element rd left right)
  between_long element rd left right =
      either_long (element == 1) (wider (omega arith) (omega arith) (one _))
      (wider (omega arith) (omega arith) (then_long (one _) (then_long (constant_long _ element) (one _))))

  binary_long : (op : BinaryOperation) (rd : ℕ) (x y : Operand) → Long 1 (operand_words c.function x + operand_words c.function y + operation_words op) (operations.binary c op rd x y)
  binary_long (binaries.Arithmetic op s) rd x y = wider (omega arith) (omega arith) (arithmetic_long op s rd x y)
  binary_long (binaries.Compare op s) rd x y = compare_long op s rd x y
  binary_long (binaries.Move direction s element) rd x y = moved_long direction element rd x y (constant_of y)
  binary_long (binaries.Difference element) rd x y = then_long (both_long x y) (between_long element rd _ _)
  binary_long (binaries.ComparePointers op) rd x y = compare_long op Unsigned rd x y

  -- ---- objects

  copy_long : (size alignment : ℕ) → Long 0 8 (copy_code size alignment)
  copy_long size alignment =
      either_long (size == 0) (wider (omega arith) (omega arith) none)
      (either_long (size % 4 == 0 && alignment % 4 == 0) (copy_loop_long _ _ 4 size) (copy_loop_long _ _ 1 size))

  unless_none_long : {code : List Instr} {h : ℕ} → (size : ℕ) → Long 0 h code → Long 0 h (unless_none size code)
  unless_none_long {code} {h} size x = either_long (size == 0) (wider (omega arith) (omega arith) none) x

  zero_bytes_long : (count offset : ℕ) → Long 0 count (zero_bytes count offset)
  zero_bytes_long count offset = let e = zero_bytes_length count offset in record { least = omega arith; most = omega (arith, e) }

  fill_long : (words : Bool) (size : ℕ) → Long 0 (6 + size % 4) (fill_code words size)
  fill_long true size = then_long (unless_none_long (size / 4) (fill_loop_long _ 4 _)) (zero_bytes_long (size % 4) 0)
  fill_long false size = wider (omega arith) (omega arith) (unless_none_long size (fill_loop_long _ 1 size))

  -- ---- entry and return

  from_register_long : (register : ℕ) (p : Parameter) → Long 1 (parameter_words c.function p) (take_from_register c register p)
  from_register_long register (Plain x) = put_long c counts register x
  from_register_long register (Placed i s) = store_long _ register _

  from_stack_long : (offset : ℕ) (p : Parameter) → Long 1 (parameter_words c.function p + 3) (take_from_stack c offset p)
  from_stack_long offset (Plain x) = wider (omega arith) (omega arith) (then_long (load_long _ (result_register c x) offset) (result_long c counts x))
  from_stack_long offset (Placed i s) = wider (omega arith) (omega arith) (then_long (load_long _ a0 offset) (store_long _ a0 _))

  -- a load more where the stack passes it
  parameter_long : (i : ℕ) (p : Parameter) → Long 1 (parameter_words c.function p + 3 * (stack_arguments (i + 1) - stack_arguments i)) (take_parameter c i p)
  parameter_long i p = by (nat_lt i 8) refl
    where
      by : (b : Bool) → nat_lt i 8 ≡ b → Long 1 (parameter_words c.function p + 3 * (stack_arguments (i + 1) - stack_arguments i)) (if b then take_from_register c (a0 + i) p else take_from_stack c ((frame_of c).cost + argument_at (stack_arguments i)) p)
      by true t = wider (omega arith) (omega arith) (from_register_long (a0 + i) p)
      by false t = let past : 8 ≤ i = grind (arith, nat_tests, t) in wider (omega arith) (omega (arith, past)) (from_stack_long _ p)

  parameters_long : (i : ℕ) (ps : List Parameter) → Long 0 (sum_by (parameter_words c.function) ps + 3 * (stack_arguments (i + length ps) - stack_arguments i)) (take_parameters c i ps)
  parameters_long i [] = record { least = omega arith; most = omega arith }
  parameters_long i (p ∷ ps) =
      let e = sum_by-cons (parameter_words c.function) p ps in
      wider (omega arith) (omega (arith, e)) (then_long (parameter_long i p) (parameters_long (i + 1) ps))

  enter_long : Long 1 (enter_words c.function) (enter c)
  enter_long =
      wider (omega arith) (omega arith)
      (then_long (stack_long _) (then_long (save_long c) (parameters_long 0 c.function.parameters)))

  leave_long : Long 1 leave_words (leave c)
  leave_long =
      wider (omega arith) (omega arith) (then_long (restore_long c) (then_long (stack_long _) (one _)))

  returned_long : (o : Option Operand) → Long 0 (returned_words c.function o) (result_into c o)
  returned_long None = record { least = omega arith; most = omega arith }
  returned_long (Some o) = wider (omega arith) (omega arith) (into_long c counts a0 o)

  -- ---- calls

  -- an argument is brought either into its register or through one into its word
  argument_words : (i : ℕ) (o : Operand) → length (stack_argument c i o) + length (register_argument c i o) ≤ operand_words c.function o + (stack_arguments (i + 1) - stack_arguments i)
  argument_words i o = by (nat_lt i 8) refl
    where
      by : (b : Bool) → nat_lt i 8 ≡ b → length (if b then [] else operand_code c a0 o ++ pieces.store Sw (operand_register c a0 o) sp (argument_at (stack_arguments i)) ∷ []) + length (if b then into c (a0 + i) o else []) ≤ operand_words c.function o + (stack_arguments (i + 1) - stack_arguments i)
      by true t = let most = (into_long c counts (a0 + i) o).most in omega (arith, most)
      by false t =
          let past : 8 ≤ i = grind (arith, nat_tests, t) in
          let most = (then_long (operand_long c counts a0 o) (one (pieces.store Sw (operand_register c a0 o) sp (argument_at (stack_arguments i))))).most in
          omega (arith, most, past)

  passed_words : (i : ℕ) (os : List Operand) → length (pass_on_stack c i os) + length (pass_in_registers c i os) ≤ sum_by (operand_words c.function) os + (stack_arguments (i + length os) - stack_arguments i)
  passed_words i [] = omega arith
  passed_words i (o ∷ os) =
      let all = sum_by-cons (operand_words c.function) o os in
      let stack : length (pass_on_stack c i (o ∷ os)) ≡ length (stack_argument c i o) + length (pass_on_stack c (i + 1) os) = length-append (stack_argument c i o) (pass_on_stack c (i + 1) os) in
      let registers : length (pass_in_registers c i (o ∷ os)) ≡ length (register_argument c i o) + length (pass_in_registers c (i + 1) os) = length-append (register_argument c i o) (pass_in_registers c (i + 1) os) in
      let first = argument_words i o in
      let rest = passed_words (i + 1) os in
      omega (arith, all, stack, registers, first, rest)

  pass_long : (os : List Operand) → Long 0 (sum_by (operand_words c.function) os + stack_arguments (length os)) (pass c os)
  pass_long os =
      let both : length (pass c os) ≡ length (pass_on_stack c 0 os) + length (pass_in_registers c 0 os) = length-append (pass_on_stack c 0 os) (pass_in_registers c 0 os) in
      let most = passed_words 0 os in
      record { least = omega arith; most = omega (arith, both, most) }

  taken_long : (x : Option ℕ) → Long 0 (taken_words c.function x) (take_result c x)
  taken_long None = record { least = omega arith; most = omega arith }
  taken_long (Some x) = wider (omega arith) (omega arith) (put_long c counts a0 x)

-- ---- items

-- at least so many items, of at most so many words
pub record Items (low high : ℕ) (l : List Item) : Type 0 where
  pub least : low ≤ length l
  pub most : sum_by item_words l ≤ high

plain_length : (code : List Instr) → length (plain code) ≡ length code
plain_length [] = refl
plain_length (i ∷ code) = ap suc (plain_length code)

plain_sum : (code : List Instr) → sum_by item_words (plain code) ≡ length code
plain_sum [] = refl
plain_sum (i ∷ code) =
    let e : sum_by item_words (plain (i ∷ code)) ≡ 1 + sum_by item_words (plain code) = sum_by-cons item_words (items.Plain i) (plain code) in
    let f = plain_sum code in
    omega (arith, e, f)

plain_items : {l h : ℕ} {code : List Instr} → Long l h code → Items l h (plain code)
plain_items {l} {h} {code} x =
    let e = plain_length code in let f = plain_sum code in let p = x.least in let q = x.most in
    record { least = omega (arith, e, p); most = omega (arith, f, q) }

then_items : {a b : List Item} {l h k g : ℕ} → Items l h a → Items k g b → Items (l + k) (h + g) (a ++ b)
then_items {a} {b} x y =
    let e : length (a ++ b) ≡ length a + length b = length-append a b in
    let f : sum_by item_words (a ++ b) ≡ sum_by item_words a + sum_by item_words b = sum_by-append item_words a b in
    let p = x.least in let q = x.most in let r = y.least in let s = y.most in
    record { least = omega (arith, e, p, r); most = omega (arith, f, q, s) }

wider_items : {a : List Item} {l h k g : ℕ} → k ≤ l → h ≤ g → Items l h a → Items k g a
wider_items less more x = let p = x.least in let q = x.most in record { least = omega (arith, p, less); most = omega (arith, q, more) }

one_item : (i : Item) → Items 1 (item_words i) (i ∷ [])
one_item i = record { least = omega arith; most = let e = sum_by-cons item_words i [] in omega (arith, e) }

short_branch : (op : Comparison) (s : Signedness) (left right label : ℕ) → item_words (compare_branch op s left right label) ≡ 2
short_branch comparisons.Less Signed left right label = refl
short_branch comparisons.Less Unsigned left right label = refl
short_branch comparisons.LessOrEqual Signed left right label = refl
short_branch comparisons.LessOrEqual Unsigned left right label = refl
short_branch comparisons.Greater Signed left right label = refl
short_branch comparisons.Greater Unsigned left right label = refl
short_branch comparisons.GreaterOrEqual Signed left right label = refl
short_branch comparisons.GreaterOrEqual Unsigned left right label = refl
short_branch comparisons.Equal s left right label = refl
short_branch comparisons.NotEqual s left right label = refl

module _ (c : Context) (labels : Labels) (counts : IsCounted c) where
  gives_items : {h : ℕ} (x : ℕ) (code : ℕ → List Instr) → ((rd : ℕ) → Long 1 h (code rd)) → Items 1 (h + slot_words c.function x) (gives c x code)
  gives_items x code long = plain_items (wider (omega arith) (omega arith) (then_long (long (result_register c x)) (result_long c counts x)))

  goes_items : (f : Callee) → Items 1 (callee_words f) (goes_to labels f)
  goes_items (Function f) = one_item _
  goes_items PutChar = wider_items (omega arith) (omega arith) (plain_items (two _ _))
  goes_items GetChar = wider_items (omega arith) (omega arith) (plain_items (two _ _))

  compare_items_long : (op : Comparison) (s : Signedness) (x y : Operand) (label : ℕ) → Items 1 (operand_words c.function x + operand_words c.function y + 2) (compare_items c op s x y label)
  compare_items_long op s x y label =
      let e = short_branch op s (operand_register c a0 x) (operand_register c a1 y) label in
      wider_items (omega arith) (omega (arith, e)) (then_items (plain_items (both_long c counts x y)) (one_item (compare_branch op s (operand_register c a0 x) (operand_register c a1 y) label)))

  branch_items_long : (b : Condition) (label : ℕ) → Items 1 (condition_words c.function b) (branch_items c b label)
  branch_items_long (NotZero o) label = then_items (plain_items (operand_long c counts a0 o)) (one_item _)
  branch_items_long (Zero o) label = then_items (plain_items (operand_long c counts a0 o)) (one_item _)
  branch_items_long (Compare op s x y) label = compare_items_long op s x y label
  branch_items_long (ComparePointers op x y) label = compare_items_long op Unsigned x y label

  instruction_long : (i : InstructionTree) → Items 1 (instruction_words c.function i) (instruction_items c labels i)
  instruction_long (move x o) = plain_items (move_long c counts o x)
  instruction_long (unary op x o) =
      gives_items x _ (λ rd. then_long (operand_long c counts a0 o) (one (operations.unary_instruction op rd (operand_register c a0 o))))
  instruction_long (binary op x o p) = gives_items x _ (λ rd. binary_long c counts op rd o p)
  instruction_long (convert s x o) =
      gives_items x _ (λ rd. then_long (operand_long c counts a0 o) (one (operations.conversion s rd (operand_register c a0 o))))
  instruction_long (address_of x p) = gives_items x _ (λ rd. address_into_long c counts rd p)
  instruction_long (load s x p) =
      gives_items x _ (λ rd. then_long (anchor_is_long c counts p) (one (pieces.load (pieces.load_kind s) rd (anchor_of c p).register (anchor_of c p).immediate)))
  instruction_long (store s p o) =
      plain_items (wider (omega arith) (omega arith) (then_long (anchor_is_long c counts p) (then_long (operand_long c counts a4 o) (one _))))
  instruction_long (copy size alignment p q) =
      plain_items (wider (omega arith) (omega arith) (then_long (address_into_long c counts _ p) (then_long (address_into_long c counts _ q) (copy_long c counts size alignment))))
  instruction_long (fill blank p) =
      plain_items (wider (omega arith) (omega arith) (then_long (address_into_long c counts _ p) (fill_long c counts (is_word_address p) (blank_size blank))))
  instruction_long (call x f arguments) =
      wider_items (omega arith) (omega arith) (then_items (plain_items (pass_long c counts arguments)) (then_items (goes_items f) (plain_items (taken_long c counts x))))
  instruction_long (jump to) = one_item _
  instruction_long (branch b to) = branch_items_long b _
  instruction_long (return o) = wider_items (omega arith) (omega arith) (then_items (plain_items (returned_long c counts o)) (out (has_one_epilogue c.function)))
    where
      out : (b : Bool) → Items 1 leave_words (if b then items.Jump x0 (labels.instruction (length c.function.code)) ∷ [] else plain (leave c))
      out true = wider_items (omega arith) (omega arith) (one_item _)
      out false = plain_items (leave_long c counts)

pub words_are_kept : (c : Context) (labels : Labels) → Accepted c.function c.places → PassesFew c.function → KeepsWords c labels
words_are_kept c labels accepted passes =
    let counts : IsCounted c = record { accepted = accepted; passes = passes } in
    record {
      enter = (enter_long c counts).most;
      instruction = λ i. (instruction_long c labels counts i).most;
      some = λ i. (instruction_long c labels counts i).least;
    }

-- ---- functions and units

-- behind code that ends with a return there is room for the epilogue
abbrev epilogue_words : (is_return : Bool) → ℕ
epilogue_words is_return = if is_return then leave_words else 0

last_words : (c : Context) (labels : Labels) (i : InstructionTree) → IsCounted c → length (epilogue c) ≤ epilogue_words (is_some (returned i)) → sum_by item_words (last_items c labels i (returned i)) + length (epilogue c) ≤ instruction_words c.function i
last_words c labels (return o) counts room =
    let result = (returned_long c counts o).most in
    let e = plain_sum (result_into c o) in
    omega (arith, e, result, room)
last_words c labels (move x o) counts room = let most = (instruction_long c labels counts (move x o)).most in omega (arith, most, room)
last_words c labels (unary op x o) counts room = let most = (instruction_long c labels counts (unary op x o)).most in omega (arith, most, room)
last_words c labels (binary op x o p) counts room = let most = (instruction_long c labels counts (binary op x o p)).most in omega (arith, most, room)
last_words c labels (convert t x o) counts room = let most = (instruction_long c labels counts (convert t x o)).most in omega (arith, most, room)
last_words c labels (address_of x p) counts room = let most = (instruction_long c labels counts (address_of x p)).most in omega (arith, most, room)
last_words c labels (load t x p) counts room = let most = (instruction_long c labels counts (load t x p)).most in omega (arith, most, room)
last_words c labels (store t p o) counts room = let most = (instruction_long c labels counts (store t p o)).most in omega (arith, most, room)
last_words c labels (copy size alignment p q) counts room = let most = (instruction_long c labels counts (copy size alignment p q)).most in omega (arith, most, room)
last_words c labels (fill blank p) counts room = let most = (instruction_long c labels counts (fill blank p)).most in omega (arith, most, room)
last_words c labels (call x f arguments) counts room = let most = (instruction_long c labels counts (call x f arguments)).most in omega (arith, most, room)
last_words c labels (jump to) counts room = let most = (instruction_long c labels counts (jump to)).most in omega (arith, most, room)
last_words c labels (branch b to) counts room = let most = (instruction_long c labels counts (branch b to)).most in omega (arith, most, room)

body_words : (c : Context) (labels : Labels) (k : ℕ) (is_return : Bool) (code : List InstructionTree) → IsCounted c → length (epilogue c) ≤ epilogue_words (ends_from is_return code) → (code ≡ [] → length (epilogue c) ≡ 0) → sum_by item_words (body_items c labels k code) ≤ sum_by (instruction_words c.function) code
body_words c labels k is_return [] counts room none =
    let e = sum_by-cons item_words (items.Label (labels.instruction k)) (plain (epilogue c)) in
    let f = plain_sum (epilogue c) in
    let z = none refl in
    omega (arith, e, f, z)
body_words c labels k is_return (i ∷ []) counts room none =
    let most = last_words c labels i counts room in
    let e = sum_by-cons item_words (items.Label (labels.instruction k)) (last_items c labels i (returned i) ++ (items.Label (labels.instruction (k + 1)) ∷ plain (epilogue c))) in
    let f = sum_by-append item_words (last_items c labels i (returned i)) (items.Label (labels.instruction (k + 1)) ∷ plain (epilogue c)) in
    let g = sum_by-cons item_words (items.Label (labels.instruction (k + 1))) (plain (epilogue c)) in
    let j = plain_sum (epilogue c) in
    let all = sum_by-cons (instruction_words c.function) i [] in
    omega (arith, most, e, f, g, j, all)
body_words c labels k is_return (i ∷ d ∷ code) counts room none =
    let rest = body_items c labels (k + 1) (d ∷ code) in
    omega (
      arith,
      sum_by-cons item_words (items.Label (labels.instruction k)) (instruction_items c labels i ++ rest),
      sum_by-append item_words (instruction_items c labels i) rest,
      sum_by-cons (instruction_words c.function) i (d ∷ code),
      (instruction_long c labels counts i).most,
      body_words c labels (k + 1) (is_some (returned i)) (d ∷ code) counts room (λ e. cc),
    )

pub functions_keep_words : (c : Context) (labels : Labels) (f : ℕ) → Accepted c.function c.places → PassesFew c.function → sum_by item_words (function_items c labels f) ≤ words c.function
functions_keep_words c labels f accepted passes =
    omega (
      arith,
      sum_by-cons item_words (items.Label (labels.function f)) (plain (enter c) ++ body_items c labels 0 c.function.code),
      sum_by-append item_words (plain (enter c)) (body_items c labels 0 c.function.code),
      plain_sum (enter c),
      (enter_long c counts).most,
      body_words c labels 0 false c.function.code counts (room (has_one_epilogue c.function)) none,
    )
  where
    counts : IsCounted c
    counts = record { accepted = accepted; passes = passes }

    room : (b : Bool) → length (if b then leave c else []) ≤ (if b then leave_words else 0)
    room true = (leave_long c counts).most
    room false = omega arith

    none : c.function.code ≡ [] → length (epilogue c) ≡ 0
    none e = ap (λ (code : List InstructionTree). length (if ends_from false code then leave c else [])) e

module _ (u : TacUnitTree) (ps : List PlacesTree) (data_at : ℕ → ℕ) where
  -- the places of a function with this number are accepted, and its calls pass few words
  abbrev Counts : (f : ℕ) → TacFunctionTree → Type 0
  Counts f g = Accepted g (slice_index_or ps f no_places) × PassesFew g

  -- of these functions, the first of which has this number
  abbrev CountFrom : (f : ℕ) → List TacFunctionTree → Type 0
  CountFrom f [] = Unit {0}
  CountFrom f (g ∷ functions) = Counts f g × CountFrom (f + 1) functions

  functions_words : (f : ℕ) (functions : List TacFunctionTree) → CountFrom f functions → sum_by item_words (functions_items u ps data_at f functions) ≤ sum_by words functions
  functions_words f [] count = omega arith
  functions_words f (g ∷ functions) count =
      let c : Context = record { function = g; places = slice_index_or ps f no_places; data_at = data_at } in
      omega (
        arith,
        sum_by-append item_words (function_items c (labels_of u f) f) (functions_items u ps data_at (f + 1) functions),
        sum_by-cons words g functions,
        functions_keep_words c (labels_of u f) f count.0.0 count.0.1,
        functions_words (f + 1) functions count.1,
      )

  counts_from : (f : ℕ) (functions : List TacFunctionTree) → ((k : ℕ) (g : TacFunctionTree) → slice_get functions k ≡ Some g → Counts (f + k) g) → CountFrom f functions
  counts_from f [] h = tt
  counts_from f (g ∷ functions) h =
      let first : f + 0 ≡ f = omega arith in (
        subst (λ (n : ℕ). Counts n g) first (h 0 g refl),
        counts_from (f + 1) functions
            (λ k i e. let next : f + suc k ≡ f + 1 + k = omega arith in subst (λ (n : ℕ). Counts n i) next (h (suc k) i e)),
      )

  all_count : AreAccepted u ps → AllPassFew u → CountFrom 0 u.functions
  all_count h few = counts_from 0 u.functions (λ k g e. let same : k ≡ 0 + k = omega arith in subst (λ (n : ℕ). Counts n g) same (h k g e, few k g e))

  pub units_keep_words : AreAccepted u ps → AllPassFew u → UnitKeepsWords u ps data_at
  units_keep_words h passes = record {
    items = few;
    laid = λ at place from to l. let t = (takes_words at place from (unit_items u ps data_at) to l).most in omega (arith, t, few);
  }
    where
      few : sum_by item_words (unit_items u ps data_at) ≤ unit_words u
      few =
          omega (
            arith,
            sum_by-append item_words (start_items u) (functions_items u ps data_at 0 u.functions),
            sum_by-cons item_words (items.Jump ra (first_label u.functions u.main)) (plain (environment exit_call)),
            plain_sum (environment exit_call),
            functions_words 0 u.functions (all_count h passes),
          )
