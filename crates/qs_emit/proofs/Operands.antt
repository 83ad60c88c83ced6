-- Operands come into registers, and results go to their places.
use Rattle.std.proofs.Common.{◌≡◌, ◌⊎◌, inl, inr, ⊎_elim, ℕ, zero, suc, ◌+◌, ◌*◌, ◌%◌, ◌^◌, ◌==◌, ◌<◌, ◌≤◌, Bool, true, false, List, [], ◌∷◌, ◌++◌, length, map, Some, None, refl, sym, ap, ◌∙◌, subst, arith}
use Rattle.std.specs.Prelude.{if◌then◌else◌, unwrap_or}
use Rattle.std.proofs.lemmas.Bool.{cases_eq}
use Rattle.std.proofs.lemmas.Bool.Decides.{nat_tests}
use Rattle.qs_base.specs.Words as words
use Rattle.qs_memory.specs.Partial.{◌>>=◌}
use Rattle.qs_memory.specs.Values.{null, into, Value, integer, address, as_integer, convert}
use Rattle.qs_memory.specs.Memory.{Memory}
use Rattle.qs_memory.specs.declared.scalar.Scalar.TheVariants as scalars
use Rattle.qs_memory.proofs.Options.{some_same, followed}
use Rattle.qs_isa.specs.Registers.{x0, a0}
use Rattle.qs_isa.specs.declared.instruction.Instr.{Instr}
use Rattle.qs_isa.specs.declared.instruction.LoadKind.TheVariants.{Lw, Lbu}
use Rattle.qs_isa.specs.declared.instruction.StoreKind.TheVariants.{Sw}
use Rattle.qs_isa.specs.declared.instruction.OpImmKind.TheVariants.{Addi, Andi}
use Rattle.qs_machine.specs.State.{State, register, with_value, store_4, load_4}
use Rattle.qs_tac.specs.declared.places.Place.{Place}
use Rattle.qs_tac.specs.declared.places.Place.TheVariants.{Slot, Register}
use Rattle.qs_tac.specs.declared.operands.Operand.{Operand}
use Rattle.qs_tac.specs.declared.operands.Operand.TheVariants.{Temporary, Integer, Byte, Constant, Null, Local, Data}
use Rattle.qs_tac.specs.declared.units.TacData.{TacData}
use Rattle.qs_tac.specs.Holders.{Holder, File, places, with_place}
use Rattle.qs_tac.specs.Places.{place_of, place_in, is_for_values}
use Rattle.qs_tac.specs.Fits.{operand_fits}
use Rattle.qs_tac.specs.Units.{plain_of}
use Rattle.qs_tac.specs.Values.{Activation, operand}
use Rattle.qs_tac.specs.Steps.{Waiting}
use Rattle.std.specs.List.{slice_get}
use Rattle.qs_frames.specs.Layout.{offset, keeps_return_address}
use Rattle.qs_frames.proofs.FrameLaws as frame_laws
use Rattle.qs_frames.proofs.FrameLaws.{offset_inside, in_reach}
use Rattle.qs_emit_selection.specs.Pieces.{constant, is_near}
use Rattle.qs_emit_selection.specs.Operands.{Context, frame_of, slot_offset, local_offset, place_into, byte_into, into as operand_into, register_of, unless_there, operand_code, operand_register, result_register, put_place, result_code}
use Rattle.qs_emit_selection.specs.Data.{data_address}
use Rattle.qs_emit.specs.Machine.{Watched}
use Rattle.qs_emit.specs.Lies.{number_at, StandsFor, SameOwn}
use Rattle.qs_emit.specs.Surroundings.{Lay, ground}
use Rattle.qs_emit.specs.Relation.{Setup, data_end, context, function_at, HasPlace, IsRelated}
use Rattle.qs_emit.proofs.Bytes.{number_small}
use Rattle.qs_emit.proofs.Injection.{HaveWords, value_here, value_there, stored_other}
use Rattle.qs_emit.proofs.Steps.{Does, Gets, IsFree, does_with, does_then, does_is, does_none, op_imm_does}
use Rattle.qs_emit.proofs.Slots.{IsInFrame, Stores, word_at, reads_free, constant_does, load_from_does, store_to_does, address_does, gets_is}
use Rattle.qs_emit.proofs.FrameLaws.{is_given, is_steady, value_is_steady, value_link, SameValues, SameHolding, slot_inside, placed_inside, related_own, related_holding, related_slot, related_register}
use Rattle.qs_emit.proofs.Access.{have_words, stands_word}
use Rattle.qs_emit.proofs.Words.{low_byte}

-- what holds the values of a setup's functions
abbrev pub holder : Setup → Holder File
holder s = places (λ f. plain_of (slice_get s.unit.functions f)) (place_in s.places)

-- a register that holds no value of linear code, and is neither x1 nor x2: code may use it for its steps
pub record IsScratch (r : ℕ) : Type 0 where
  pub free : IsFree r
  pub steadyless : is_steady r ≡ false

-- a0 to a7
pub argument_scratch : (r : ℕ) → 10 ≤ r → r < 18 → IsScratch r
argument_scratch r lo hi = record {
  free = (λ e. absurd (omega (arith, e, lo)), λ e. absurd (omega (arith, e, lo)));
  steadyless = grind (arith, nat_tests, lo, hi);
}

pub given_apart : (q r : ℕ) → is_given q ≡ true → is_given r ≡ false → q ≡ r → ⊥
given_apart q r h k e = let no_way : true ≡ false = sym h ∙ ap is_given e ∙ k in cc

pub given_free : (q : ℕ) → is_given q ≡ true → IsFree q
given_free q h = (given_apart q 0 h refl, given_apart q 2 h refl)

pub value_apart : (q r : ℕ) → is_steady q ≡ true → is_steady r ≡ false → q ≡ r → ⊥
value_apart q r h k e = let no_way : true ≡ false = sym h ∙ ap is_steady e ∙ k in cc

pub value_free : (q : ℕ) → is_for_values q ≡ true → IsFree q
value_free q h = (value_apart q 0 (value_is_steady q h) refl, value_apart q 2 (value_is_steady q h) refl)

-- where an operand stands: in the register that was free for it, in x0, or in a register that holds a value
pub record IsThere (free r : ℕ) : Type 0 where
  pub is : (r ≡ free) ⊎ ((r ≡ 0) ⊎ (is_for_values r ≡ true))

-- other steps leave it there
pub there_apart : (free r q : ℕ) → IsThere free r → IsScratch q → (free ≡ q → ⊥) → r ≡ q → ⊥
there_apart free r q there scratch n e = by there.is
  where
    by : (r ≡ free) ⊎ ((r ≡ 0) ⊎ (is_for_values r ≡ true)) → ⊥
    by (inl k) = n (sym k ∙ e)
    by (inr (inl k)) = scratch.free.0 (sym e ∙ k)
    by (inr (inr k)) = value_apart r q (value_is_steady r k) scratch.steadyless e

-- and none stands in x1
pub there_beside : (free r : ℕ) → IsThere free r → (free ≡ 1 → ⊥) → r ≡ 1 → ⊥
there_beside free r there n e = by there.is
  where
    by : (r ≡ free) ⊎ ((r ≡ 0) ⊎ (is_for_values r ≡ true)) → ⊥
    by (inl k) = n (sym k ∙ e)
    by (inr (inl k)) = absurd (omega (arith, k, e))
    by (inr (inr k)) = value_link r k e

-- a register reads the same
pub reads_same : (m m1 : State) (r : ℕ) → m1.registers r ≡ m.registers r → register m1 r ≡ register m r
reads_same m m1 r e = by (r == 0) e
  where
    by : (b : Bool) → m1.registers r ≡ m.registers r → (if b then 0 else m1.registers r) ≡ (if b then 0 else m.registers r)
    by true e = refl
    by false e = e

near_below : (offset : ℕ) → offset < 2048 → is_near offset ≡ true
unfolding is_near
near_below offset h = grind (arith, nat_tests, h)

-- the data have addresses that are words
block_below : (data_blocks : List TacData) (i : ℕ) → i < length data_blocks → offset (map (λ (d : TacData). d.size) data_blocks) i ≤ data_end data_blocks
block_below [] i h = absurd (omega (arith, h))
block_below (d ∷ []) zero h = omega arith
block_below (d ∷ []) (suc i) h = absurd (omega (arith, h))
block_below (d ∷ e ∷ data_blocks) zero h = omega arith
block_below (d ∷ e ∷ data_blocks) (suc i) h = let k = block_below (e ∷ data_blocks) i (omega (arith, h)) in omega (arith, k)

pub data_word : (s : Setup) (i : ℕ) → i < length s.unit.data_blocks → data_address s.unit.data_blocks i < 2 ^ 32
data_word s i h = let k = block_below s.unit.data_blocks i h in let a = s.data_fits in let b = s.data_limit in omega (arith, k, a, b)

first_byte : (flat : ℕ → ℕ) (at : ℕ) → number_at 4 flat at ≡ flat at + 256 * number_at 3 flat (at + 1)
unfolding number_at
first_byte flat at = refl

module _ (s : Setup) (a : Activation File) (w : Memory) (stack : List (Waiting File)) (l : Lay) (sp : ℕ) where
  abbrev c : Context
  c = context s a.function

  -- in the middle of an instruction's code the relation still holds
  pub record IsAmid (m : Watched) : Type 0 where
    pub x2 : m.now.registers 2 ≡ sp
    pub related : IsRelated s a w stack l m.now.registers sp m.now.memory

  pub amid_on : (m m1 : Watched) → IsAmid m → m1.now.registers 2 ≡ m.now.registers 2 → SameValues m.now.registers m1.now.registers → SameOwn s.room (m.now.registers 2) m.now.memory m1.now.memory → IsAmid m1
  amid_on m m1 h x2 same bytes = record {
    x2 = x2 ∙ h.x2;
    related = related_own s a w stack l m.now.registers sp m.now.memory h.related m1.now.registers m1.now.memory same (subst (λ (p : ℕ). SameOwn s.room p m.now.memory m1.now.memory) h.x2 bytes);
  }

  pub gets_values : (m m1 : Watched) (r x : ℕ) → IsScratch r → Gets s m r x m1 → SameValues m.now.registers m1.now.registers
  gets_values m m1 r x scratch g = record { same = λ q h. g.others q (value_apart q r h scratch.steadyless) }

  pub amid_gets : (m m1 : Watched) (r x : ℕ) → IsScratch r → IsAmid m → m1.now.registers 2 ≡ m.now.registers 2 → Gets s m r x m1 → IsAmid m1
  amid_gets m m1 r x scratch h x2 g = amid_on m m1 h x2 (gets_values m m1 r x scratch g) g.bytes_same

  pub are_words : (m : Watched) → IsAmid m → HaveWords w l.address_of
  are_words m h = have_words s (ground w l m.now.memory) sp h.related.blocks h.related.in_room.above

  -- an operand has come into a register, and but for the one that was free all are the same
  pub record HasOperand (m : Watched) (free r : ℕ) (v : Value) (m1 : Watched) : Type 0 where
    pub word : ℕ
    pub got : register m1.now r ≡ word
    pub stands : StandsFor w l.address_of v word
    pub others : (q : ℕ) → (q ≡ free → ⊥) → m1.now.registers q ≡ m.now.registers q
    pub bytes : SameOwn s.room (m.now.registers 2) m.now.memory m1.now.memory
    pub there : IsThere free r
    pub amid : IsAmid m1

  -- an operand has come into a register, and nothing else is changed
  pub record IsInto (m : Watched) (rd : ℕ) (v : Value) (m1 : Watched) : Type 0 where
    pub word : ℕ
    pub stands : StandsFor w l.address_of v word
    pub small : word < 2 ^ 32
    pub gets : Gets s m rd word m1

  pub in_frame : (m : Watched) (at width : ℕ) → IsAmid m → at + width ≤ (frame_of c).cost → IsInFrame s m at width
  in_frame m at width h fits =
      let lo = h.related.in_room.above in let hi = h.related.in_room.below in let e = h.x2 in
      record { above = omega (arith, lo, e); below = omega (arith, hi, e, fits) }

  pub slot_aligned : (m : Watched) (k : ℕ) → IsAmid m → (m.now.registers 2 + slot_offset c k) % 4 ≡ 0
  slot_aligned m k h = let al = h.related.in_room.aligned in let e = h.x2 in let slot = frame_laws.slot_aligned c.function c.places k in omega (arith, al, e, slot)

  pub slot_fits : (k : ℕ) → HasPlace c (Slot k) → slot_offset c k + 4 ≤ (frame_of c).cost
  slot_fits k has = let x = slot_inside c k has in let y = placed_inside c in omega (arith, x, y)

  -- ---- from places

  place_into_does : (m : Watched) (rd : ℕ) (p : Place) (v : Value) → IsFree rd → IsAmid m → a.held p ≡ Some v → Does s m (place_into c rd p) (IsInto m rd v)
  place_into_does m rd (Slot k) v free h e =
      let held = h.related.frame.holds (Slot k) v e in
      let at : load_4 m.now.memory (m.now.registers 2 + slot_offset c k) ≡ number_at 4 m.now.memory (sp + slot_offset c k) = sym (word_at m.now.memory (m.now.registers 2 + slot_offset c k)) ∙ ap (λ (p : ℕ). number_at 4 m.now.memory (p + slot_offset c k)) h.x2 in
      does_with s m _ _ (λ bytes. does_is s m _ _ _ (load_from_does s m Lw rd (slot_offset c k) free (slot_aligned m k h) (in_frame m (slot_offset c k) 4 h (slot_fits k held.has)))
      (λ m1 x2 g. record { word = number_at 4 m.now.memory (sp + slot_offset c k); stands = held.stands; small = number_small m.now.memory (sp + slot_offset c k) (λ j lt. bytes (sp + slot_offset c k + j)); gets = gets_is s m m1 rd _ _ at g }))
  place_into_does m rd (Register r) v free h e =
      let held = h.related.frame.holds (Register r) v e in
      let at : words.add (register m.now r) 0 ≡ m.now.registers r % 2 ^ 32 = ap (λ (x : ℕ). words.add x 0) (reads_free s m.now r (value_free r held.has.0).0) ∙ omega arith in
      does_is s m _ _ _ (op_imm_does s m Addi rd r 0 free)
      (λ m1 x2 g. record { word = m.now.registers r % 2 ^ 32; stands = stands_word w l.address_of v (m.now.registers r) (are_words m h) held.stands; small = omega arith; gets = gets_is s m m1 rd _ _ at g })

  -- the low byte of an integer
  byte_does : (m : Watched) (rd : ℕ) (p : Place) (n : ℕ) → IsFree rd → IsAmid m → a.held p ≡ Some (integer n) → Does s m (byte_into c rd p) (IsInto m rd (integer (n % 2 ^ 8)))
  byte_does m rd (Slot k) n free h e =
      let held = h.related.frame.holds (Slot k) (integer n) e in
      let stands = held.stands.0 in
      does_with s m _ _ (λ bytes.
      let low = bytes (sp + slot_offset c k) in
      let first = first_byte m.now.memory (sp + slot_offset c k) in
      let at : m.now.memory (m.now.registers 2 + slot_offset c k) ≡ n % 2 ^ 8 = ap (λ (p : ℕ). m.now.memory (p + slot_offset c k)) h.x2 ∙ omega (arith, first, stands, low) in
      does_is s m _ _ _ (load_from_does s m Lbu rd (slot_offset c k) free (omega arith) (in_frame m (slot_offset c k) 1 h (let f = slot_fits k held.has in omega (arith, f))))
      (λ m1 x2 g. record { word = n % 2 ^ 8; stands = (refl, omega arith); small = omega arith; gets = gets_is s m m1 rd _ _ at g }))
  byte_does m rd (Register r) n free h e =
      let held = h.related.frame.holds (Register r) (integer n) e in
      let at : words.and (register m.now r) 255 ≡ n % 2 ^ 8 = ap (λ (x : ℕ). words.and x 255) (reads_free s m.now r (value_free r held.has.0).0 ∙ held.stands.0) ∙ low_byte n in
      does_is s m _ _ _ (op_imm_does s m Andi rd r 255 free)
      (λ m1 x2 g. record { word = n % 2 ^ 8; stands = (refl, omega arith); small = omega arith; gets = gets_is s m m1 rd _ _ at g })

  -- ---- operands

  integer_same : (u v : Value) → (as_integer u >>= λ n. Some (integer n)) ≡ Some v → u ≡ v
  integer_same (integer n) v e = some_same _ v e
  integer_same (address p) v e = cc

  record IsByteOf (u v : Value) : Type 0 where
    number : ℕ
    was : u ≡ integer number
    is : integer (number % 2 ^ 8) ≡ v

  byte_of : (u v : Value) → convert scalars.Char u ≡ Some v → IsByteOf u v
  byte_of (integer n) v e = record { number = n; was = refl; is = some_same _ v e }
  byte_of (address p) v e = cc

  -- the places of integers and bytes
  held_integer : (p : Place) (v : Value) → (a.held p >>= λ v. as_integer v >>= λ n. Some (integer n)) ≡ Some v → a.held p ≡ Some v
  held_integer p v e = let f = followed (a.held p) (λ v. as_integer v >>= λ n. Some (integer n)) v e in f.first ∙ ap Some (integer_same f.value v f.then)

  into_byte : (m : Watched) (rd : ℕ) (p : Place) (v : Value) → IsFree rd → IsAmid m → (a.held p >>= λ v. convert scalars.Char v) ≡ Some v → Does s m (byte_into c rd p) (IsInto m rd v)
  into_byte m rd p v free h e =
      let f = followed (a.held p) (λ v. convert scalars.Char v) v e in
      let b = byte_of f.value v f.then in
      subst (λ (u : Value). Does s m (byte_into c rd p) (IsInto m rd u)) b.is (byte_does m rd p b.number free h (f.first ∙ ap Some b.was))

  -- blocks of the call, and of the unit's data
  pub local_stands : (m : Watched) (i : ℕ) → IsAmid m → operand_fits s.unit (function_at s.unit a.function) (Local i) ≡ true → StandsFor w l.address_of (address (into (a.first_block + i) 0)) (sp + local_offset c i)
  local_stands m i h fits =
      let within : i < length (function_at s.unit a.function).blocks = grind (arith, nat_tests, fits) in
      let made = h.related.frame.made in
      let at = h.related.frame.placed i within in
      record { made = omega (arith, made, within); is = λ live. omega (arith, at); inside = λ live. omega arith }

  pub data_stands : (m : Watched) (i : ℕ) → IsAmid m → operand_fits s.unit (function_at s.unit a.function) (Data i) ≡ true → StandsFor w l.address_of (address (into i 0)) (c.data_at i)
  data_stands m i h fits =
      let within : i < length s.unit.data_blocks = grind (arith, nat_tests, fits) in
      let there = s.data_there in
      let made = h.related.blocks.made in
      let old : l.address_of i ≡ c.data_at i = h.related.blocks.old i (omega (arith, within, there)) ∙ s.data_lie i within in
      record { made = omega (arith, made, within, there); is = λ live. omega (arith, old); inside = λ live. omega arith }

  -- a word that stands for what an operand is
  known_word : (m m1 : Watched) (rd x : ℕ) (u v : Value) → Some u ≡ Some v → StandsFor w l.address_of u x → x < 2 ^ 32 → Gets s m rd x m1 → IsInto m rd v m1
  known_word m m1 rd x u v e stands small g = record { word = x; stands = subst (λ (t : Value). StandsFor w l.address_of t x) (some_same u v e) stands; small = small; gets = g }

  pub into_gets : (m : Watched) (rd : ℕ) (o : Operand) (v : Value) → IsFree rd → IsAmid m → operand_fits s.unit (function_at s.unit a.function) o ≡ true → operand (holder s) o a ≡ Some v → Does s m (operand_into c rd o) (IsInto m rd v)
  into_gets m rd (Temporary t) v free h fits e = place_into_does m rd (place_of c.places t) v free h e
  into_gets m rd (Integer t) v free h fits e = place_into_does m rd (place_of c.places t) v free h (held_integer (place_of c.places t) v e)
  into_gets m rd (Byte t) v free h fits e = into_byte m rd (place_of c.places t) v free h e
  into_gets m rd (Constant n) v free h fits e =
      let small : n < 2 ^ 32 = grind (arith, nat_tests, fits) in
      does_is s m _ _ _ (constant_does s m rd n free small) (λ m1 x2 g. known_word m m1 rd n (integer n) v e (refl, small) small g)
  into_gets m rd Null v free h fits e =
      does_is s m _ _ _ (op_imm_does s m Addi rd 0 0 free) (λ m1 x2 g. known_word m m1 rd 0 (address null) v e refl (omega arith) g)
  into_gets m rd (Local i) v free h fits e =
      let within : i < length (function_at s.unit a.function).blocks = grind (arith, nat_tests, fits) in
      let end = offset_inside c.function.blocks i within in
      let whole = placed_inside c in
      let at : m.now.registers 2 + local_offset c i ≡ sp + local_offset c i = ap (λ (p : ℕ). p + local_offset c i) h.x2 in
      let below = h.related.in_room.below in
      let top = s.ceiling in
      does_is s m _ _ _ (address_does s m rd (local_offset c i) free (in_frame m (local_offset c i) 0 h (omega (arith, end, whole))))
      (λ m1 x2 g. known_word m m1 rd (sp + local_offset c i) _ v e (local_stands m i h fits) (omega (arith, end, whole, below, top)) (gets_is s m m1 rd _ _ at g))
  into_gets m rd (Data i) v free h fits e =
      let within : i < length s.unit.data_blocks = grind (arith, nat_tests, fits) in
      let small = data_word s i within in
      does_is s m _ _ _ (constant_does s m rd (c.data_at i) free small) (λ m1 x2 g. known_word m m1 rd (c.data_at i) _ v e (data_stands m i h fits) small g)

  in_scratch : (m m1 : Watched) (r : ℕ) (v : Value) → IsScratch r → IsAmid m → m1.now.registers 2 ≡ m.now.registers 2 → IsInto m r v m1 → HasOperand m r r v m1
  in_scratch m m1 r v scratch h x2 i = record {
    word = i.word;
    got = reads_free s m1.now r scratch.free.0 ∙ i.gets.got;
    stands = i.stands;
    others = i.gets.others;
    bytes = i.gets.bytes_same;
    there = record { is = inl refl };
    amid = amid_gets m m1 r i.word scratch h x2 i.gets;
  }

  pub into_does : (m : Watched) (rd : ℕ) (o : Operand) (v : Value) → IsScratch rd → IsAmid m → operand_fits s.unit (function_at s.unit a.function) o ≡ true → operand (holder s) o a ≡ Some v → Does s m (operand_into c rd o) (HasOperand m rd rd v)
  into_does m rd o v scratch h fits e = does_is s m _ _ _ (into_gets m rd o v scratch.free h fits e) (λ m1 x2 i. in_scratch m m1 rd v scratch h x2 i)

  -- ---- operands where they stand

  -- nothing is done
  nothing_done : (m : Watched) (free r : ℕ) (v : Value) (x : ℕ) → IsAmid m → register m.now r ≡ x → StandsFor w l.address_of v x → IsThere free r → HasOperand m free r v m
  nothing_done m free r v x h got stands there = record {
    word = x;
    got = got;
    stands = stands;
    others = λ q n. refl;
    bytes = record { same = λ at own. refl };
    there = there;
    amid = h;
  }

  at_place : (m : Watched) (free : ℕ) (p : Place) (v : Value) → IsScratch free → IsAmid m → a.held p ≡ Some v → Does s m (unless_there (register_of p) (place_into c free p)) (HasOperand m free (unwrap_or (register_of p) free) v)
  at_place m free (Slot k) v scratch h e = does_is s m _ _ _ (place_into_does m free (Slot k) v scratch.free h e) (λ m1 x2 i. in_scratch m m1 free v scratch h x2 i)
  at_place m free (Register r) v scratch h e =
      let held = h.related.frame.holds (Register r) v e in
      does_none s m (HasOperand m free r v) (nothing_done m free r v (m.now.registers r) h (reads_free s m.now r (value_free r held.has.0).0) held.stands (record { is = inr (inr held.has.0) }))

  at_constant : (m : Watched) (free n : ℕ) (v : Value) (b : Bool) → (n == 0) ≡ b → IsScratch free → IsAmid m → operand_fits s.unit (function_at s.unit a.function) (Constant n) ≡ true → Some (integer n) ≡ Some v → Does s m (unless_there (if b then Some x0 else None) (constant free n)) (HasOperand m free (unwrap_or (if b then Some x0 else None) free) v)
  at_constant m free n v true t scratch h fits e =
      let z : n ≡ 0 = grind (arith, nat_tests, t) in
      does_none s m (HasOperand m free 0 v) (nothing_done m free 0 v 0 h refl (subst (λ (u : Value). StandsFor w l.address_of u 0) (some_same (integer n) v e) (sym z, omega (arith, z))) (record { is = inr (inl refl) }))
  at_constant m free n v false t scratch h fits e = into_does m free (Constant n) v scratch h fits e

  pub operand_does : (m : Watched) (free : ℕ) (o : Operand) (v : Value) → IsScratch free → IsAmid m → operand_fits s.unit (function_at s.unit a.function) o ≡ true → operand (holder s) o a ≡ Some v → Does s m (operand_code c free o) (HasOperand m free (operand_register c free o) v)
  operand_does m free (Temporary t) v scratch h fits e = at_place m free (place_of c.places t) v scratch h e
  operand_does m free (Integer t) v scratch h fits e = at_place m free (place_of c.places t) v scratch h (held_integer (place_of c.places t) v e)
  operand_does m free (Byte t) v scratch h fits e = into_does m free (Byte t) v scratch h fits e
  operand_does m free (Constant n) v scratch h fits e = at_constant m free n v (n == 0) refl scratch h fits e
  operand_does m free Null v scratch h fits e =
      does_none s m (HasOperand m free 0 v) (nothing_done m free 0 v 0 h refl (subst (λ (u : Value). StandsFor w l.address_of u 0) (some_same (address null) v e) refl) (record { is = inr (inl refl) }))
  operand_does m free (Local i) v scratch h fits e = into_does m free (Local i) v scratch h fits e
  operand_does m free (Data i) v scratch h fits e = into_does m free (Data i) v scratch h fits e

  -- ---- results

  -- a register has a word, and the other registers that hold values are the same
  pub record Makes (m : Watched) (rd x : ℕ) (m1 : Watched) : Type 0 where
    pub got : m1.now.registers rd ≡ x
    pub others : (q : ℕ) → is_steady q ≡ true → (q ≡ rd → ⊥) → m1.now.registers q ≡ m.now.registers q
    pub bytes : SameOwn s.room (m.now.registers 2) m.now.memory m1.now.memory

  -- the activation with a value in a place, before its next instruction
  abbrev pub holding : Place → Value → Activation File
  holding p v = record a { held = with_place a.held p (Some v) }

  -- where the return address stays in x1, the frame is in reach
  slot_near : (k : ℕ) → HasPlace c (Slot k) → keeps_return_address c.function c.places ≡ false → is_near (slot_offset c k) ≡ true
  slot_near k has e =
      let inside = slot_inside c k has in
      let reach = in_reach c.function c.places e in
      let none = reach.0 in
      let below = reach.1 in
      near_below (slot_offset c k) (omega (arith, inside, none, below))

  pub local_near : (i : ℕ) → i < length c.function.blocks → keeps_return_address c.function c.places ≡ false → is_near (local_offset c i) ≡ true
  local_near i h e =
      let inside = offset_inside c.function.blocks i h in
      let reach = in_reach c.function c.places e in
      let none = reach.0 in
      let below = reach.1 in
      near_below (local_offset c i) (omega (arith, inside, none, below))

  pub stores_hold : (m m1 : Watched) (offset : ℕ) (new : ℕ → ℕ) → (keeps_return_address c.function c.places ≡ false → is_near offset ≡ true) → Stores s m offset new m1 → SameHolding c m.now.registers m1.now.registers
  stores_hold m m1 offset new near g = record { values = λ q e. g.others q (value_link q e); link = λ e. g.near (near e) }

  pub related_stored : (m m1 : Watched) (r k x : ℕ) (v : Value) → IsAmid m → HasPlace c (Slot k) → register m.now r ≡ x → StandsFor w l.address_of v x → m1.now.registers 2 ≡ m.now.registers 2 → Stores s m (slot_offset c k) (store_4 m.now.memory (m.now.registers 2 + slot_offset c k) (register m.now r)) m1 → IsRelated s (holding (Slot k) v) w stack l m1.now.registers sp m1.now.memory
  related_stored m m1 r k x v h has got stands x2 g =
      let new = store_4 m.now.memory (sp + slot_offset c k) x in
      let related = related_slot s a w stack l m.now.registers sp m.now.memory h.related k x v has (stands_word w l.address_of v x (are_words m h) stands) in
      let as_new : store_4 m.now.memory (m.now.registers 2 + slot_offset c k) (register m.now r) ≡ new = ap (λ (p : ℕ). store_4 m.now.memory (p + slot_offset c k) (register m.now r)) h.x2 ∙ ap (λ (y : ℕ). store_4 m.now.memory (sp + slot_offset c k) y) got in
      let own : SameOwn s.room sp new m1.now.memory = subst (λ (p : ℕ). SameOwn s.room p new m1.now.memory) h.x2 (subst (λ (f : ℕ → ℕ). SameOwn s.room (m.now.registers 2) f m1.now.memory) as_new g.bytes_are) in
      related_holding s (holding (Slot k) v) w stack l m.now.registers sp new related m1.now.registers m1.now.memory (stores_hold m m1 (slot_offset c k) _ (slot_near k has) g) own

  -- a result that was made in a register that holds values is in its place
  pub related_made : (m m1 : Watched) (q x : ℕ) (v : Value) → IsAmid m → HasPlace c (Register q) → StandsFor w l.address_of v x → x < 2 ^ 32 → Makes m q x m1 → IsRelated s (holding (Register q) v) w stack l m1.now.registers sp m1.now.memory
  related_made m m1 q x v h has stands small g =
      let related = related_register s a w stack l m.now.registers sp m.now.memory h.related q x v has small stands in
      related_own s (holding (Register q) v) w stack l (with_value m.now.registers q x) sp m.now.memory related m1.now.registers m1.now.memory
      (record { same = λ z e. ⊎_elim (λ i. ap m1.now.registers i ∙ g.got ∙ sym (value_here m.now.registers q x z i)) (λ n. g.others z e n ∙ sym (value_there m.now.registers q x z n)) (cases_eq z q) })
      (subst (λ (p : ℕ). SameOwn s.room p m.now.memory m1.now.memory) h.x2 g.bytes)

module _ (s : Setup) (a : Activation File) (w : Memory) (stack : List (Waiting File)) (l : Lay) (sp : ℕ) where
  abbrev d : Context
  d = context s a.function

  -- the bytes behind the frame are as they were
  abbrev pub SameBehind : (m m1 : Watched) → Type 0
  SameBehind m m1 = (at : ℕ) → sp + (frame_of d).cost ≤ at → m1.now.memory at ≡ m.now.memory at

  pub own_behind : (m m1 : Watched) → m.now.registers 2 ≡ sp → SameOwn s.room (m.now.registers 2) m.now.memory m1.now.memory → SameBehind m m1
  own_behind m m1 x2 own at le = own.same at (inl (omega (arith, x2, le)))

  -- the place and the other registers, behind a result
  pub record IsPut (m : Watched) (p : Place) (v : Value) (m1 : Watched) : Type 0 where
    pub amid : IsAmid s (holding s a w stack l sp p v) w stack l sp m1
    pub others : (q : ℕ) → is_steady q ≡ false → m1.now.registers q ≡ m.now.registers q
    pub behind : SameBehind m m1

  -- a register's word into a place
  pub put_does : (m : Watched) (r x : ℕ) (p : Place) (v : Value) → IsAmid s a w stack l sp m → HasPlace d p → (r ≡ 1 → ⊥) → register m.now r ≡ x → StandsFor w l.address_of v x → Does s m (put_place d r p) (IsPut m p v)
  put_does m r x (Slot k) v h has not_ra got stands =
      does_is s m _ _ _ (store_to_does s m Sw r (slot_offset d k) not_ra (slot_aligned s a w stack l sp m k h) (in_frame s a w stack l sp m (slot_offset d k) 4 h (slot_fits s a w stack l sp k has)))
      (λ m1 x2 g. record {
        amid = record { x2 = x2 ∙ h.x2; related = related_stored s a w stack l sp m m1 r k x v h has got stands x2 g };
        others = λ q e. g.others q (λ i. value_apart 1 q refl e (sym i));
        behind = λ at le.
            let below = h.x2 in
            let fits = slot_fits s a w stack l sp k has in
            g.bytes_are.same at (inl (omega (arith, below, le))) ∙ stored_other Sw m.now.memory (m.now.registers 2 + slot_offset d k) (register m.now r) at (inr (omega (arith, below, le, fits)));
      })
  put_does m r x (Register q) v h has not_ra got stands =
      let small = are_words s a w stack l sp m h in
      let at : words.add (register m.now r) 0 ≡ x % 2 ^ 32 = ap (λ (y : ℕ). words.add y 0) got ∙ omega arith in
      does_is s m _ _ _ (op_imm_does s m Addi q r 0 (value_free q has.0)) (λ m1 x2 g. record {
        amid = record {
          x2 = x2 ∙ h.x2;
          related = related_made s a w stack l sp m m1 q (x % 2 ^ 32) v h has (stands_word w l.address_of v x small stands) (omega arith) (record { got = g.got ∙ at; others = λ z e n. g.others z n; bytes = g.bytes_same });
        };
        others = λ z e. g.others z (λ i. value_apart q z (value_is_steady q has.0) e (sym i));
        behind = own_behind m m1 h.x2 g.bytes_same;
      })

  -- where a result is made: in a0, or in the register that is its place
  pub record IsTarget (rd : ℕ) : Type 0 where
    pub free : IsFree rd
    pub is : (rd ≡ 10) ⊎ (is_for_values rd ≡ true)

  -- the word of a result
  pub record MakesValue (m : Watched) (rd : ℕ) (v : Value) (m1 : Watched) : Type 0 where
    pub word : ℕ
    pub makes : Makes s a w stack l sp m rd word m1
    pub stands : StandsFor w l.address_of v word
    pub small : word < 2 ^ 32

  abbrev result_in : Place → ℕ
  result_in p = unwrap_or (register_of p) a0

  -- a value is in its place
  pub record IsGiven (m : Watched) (p : Place) (v : Value) (m1 : Watched) : Type 0 where
    pub amid : IsAmid s (holding s a w stack l sp p v) w stack l sp m1
    pub behind : SameBehind m m1

  -- code that makes a value in a register, whichever it is, and then the value into its place
  result_into : (m : Watched) (p : Place) (v : Value) (code : ℕ → List Instr) → IsAmid s a w stack l sp m → HasPlace d p → ((rd : ℕ) → IsTarget rd → Does s m (code rd) (MakesValue m rd v)) → Does s m (code (result_in p) ++ unless_there (register_of p) (put_place d a0 p)) (IsGiven m p v)
  result_into m (Slot k) v code h has does =
      let target : IsTarget 10 = record { free = (λ e. absurd (omega (arith, e)), λ e. absurd (omega (arith, e))); is = inl refl } in
      does_then s m (code 10) (put_place d 10 (Slot k)) _ _ (does 10 target) (λ m1 x2 g.
      let h1 = amid_on s a w stack l sp m m1 h x2 (record { same = λ q e. g.makes.others q e (λ i. value_apart q 10 e refl i) }) g.makes.bytes in
      does_is s m1 _ _ _ (put_does m1 10 g.word (Slot k) v h1 has (λ e. absurd (omega (arith, e))) (reads_free s m1.now 10 (λ e. absurd (omega (arith, e))) ∙ g.makes.got) g.stands)
      (λ m2 y2 k. record { amid = k.amid; behind = λ at le. k.behind at le ∙ own_behind m m1 h.x2 g.makes.bytes at le }))
  result_into m (Register q) v code h has does =
      let target : IsTarget q = record { free = value_free q has.0; is = inr has.0 } in
      does_then s m (code q) [] _ _ (does q target) (λ m1 x2 g.
      does_none s m1 (IsGiven m (Register q) v) (record {
        amid = record { x2 = x2 ∙ h.x2; related = related_made s a w stack l sp m m1 q g.word v h has g.stands g.small g.makes };
        behind = own_behind m m1 h.x2 g.makes.bytes;
      }))

  pub gives_behind : (m : Watched) (x : ℕ) (v : Value) (code : ℕ → List Instr) → IsAmid s a w stack l sp m → HasPlace d (place_of d.places x) → ((rd : ℕ) → IsTarget rd → Does s m (code rd) (MakesValue m rd v)) → Does s m (code (result_register d x) ++ result_code d x) (IsGiven m (place_of d.places x) v)
  gives_behind m x v code h has does = result_into m (place_of d.places x) v code h has does

  pub gives_does : (m : Watched) (x : ℕ) (v : Value) (code : ℕ → List Instr) → IsAmid s a w stack l sp m → HasPlace d (place_of d.places x) → ((rd : ℕ) → IsTarget rd → Does s m (code rd) (MakesValue m rd v)) → Does s m (code (result_register d x) ++ result_code d x) (IsAmid s (holding s a w stack l sp (place_of d.places x) v) w stack l sp)
  gives_does m x v code h has does = does_is s m _ _ _ (gives_behind m x v code h has does) (λ m1 x2 g. g.amid)
