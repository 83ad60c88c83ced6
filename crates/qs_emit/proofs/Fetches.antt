-- Loads and stores of scalars.
use Rattle.std.proofs.Common.{◌≡◌, ◌⊎◌, inl, inr, ⊎_elim, ℕ, ◌+◌, ◌%◌, ◌^◌, ◌<◌, ◌≤◌, true, List, [], ◌∷◌, ◌++◌, length, Some, refl, sym, ap, ◌∙◌, subst, arith}
use Rattle.std.proofs.lemmas.Bool.{cases_lt}
use Rattle.qs_base.specs.Words as words
use Rattle.qs_memory.specs.Values.{Pointer, Value, width}
use Rattle.qs_memory.specs.Memory as memory
use Rattle.qs_memory.specs.Memory.{Cell, Memory, block_at, Target, with_cells}
use Rattle.qs_memory.specs.declared.scalar.Scalar.{Scalar}
use Rattle.qs_memory.specs.declared.scalar.Scalar.TheVariants as scalars
use Rattle.qs_memory.proofs.BlockLaws.{IsRange}
use Rattle.qs_memory.proofs.StoreLaws.{Wrote, stored}
use Rattle.qs_machine.specs.State.{register}
use Rattle.qs_machine.specs.Step as machine
use Rattle.qs_machine.specs.Step.{load_width, store_width, loaded}
use Rattle.qs_tac.specs.declared.operands.Operand.{Operand}
use Rattle.qs_tac.specs.declared.operands.Address.{Address}
use Rattle.qs_tac.specs.Holders.{File}
use Rattle.qs_tac.specs.Places.{place_of}
use Rattle.qs_tac.specs.Fits.{address_fits}
use Rattle.qs_tac.specs.Values.{Activation, pointer}
use Rattle.qs_tac.specs.Steps.{Waiting}
use Rattle.qs_emit_selection.specs.Pieces as pieces
use Rattle.qs_emit_selection.specs.Pieces.{load_kind, store_kind}
use Rattle.qs_emit_selection.specs.Operands.{Context, operand_code, operand_register, result_register, result_code, anchor_of}
use Rattle.qs_emit.specs.Machine.{Watched}
use Rattle.qs_emit.specs.Lies.{number_at, AreBytes, Points, StandsForPointer, HoldAll, IsOwn, SameOwn}
use Rattle.qs_emit.specs.Surroundings.{Lay, ground}
use Rattle.qs_emit.specs.Relation.{Setup, context, function_at, HasPlace}
use Rattle.qs_emit.proofs.Bytes.{number_small}
use Rattle.qs_emit.proofs.Injection.{load_held, store_holds, stored_other}
use Rattle.qs_emit.proofs.Steps.{Does, does_with, does_then, does_is, load_does, store_does}
use Rattle.qs_emit.proofs.Slots.{word_at, byte_at, gets_is}
use Rattle.qs_emit.proofs.FrameLaws.{SameHolding, related_holding}
use Rattle.qs_emit.proofs.Access.{have_words, may_read_block, may_write_block}
use Rattle.qs_emit.proofs.WriteLaws.{related_written}
use Rattle.qs_emit.proofs.Operands.{holder, argument_scratch, reads_same, IsAmid, operand_does, holding, gives_does}
use Rattle.qs_emit.proofs.OperationLaws.{IsOperand, makes_last}
use Rattle.qs_emit.proofs.Anchors.{anchor_does}

-- what a load's kind reads is the number of the bytes
pub loaded_number : (t : Scalar) (flat : ℕ → ℕ) (at : ℕ) → loaded (load_kind t) flat at ≡ number_at (width t) flat at
loaded_number scalars.Char flat at = sym (byte_at flat at)
loaded_number scalars.Int flat at = sym (word_at flat at)
loaded_number scalars.Unsigned flat at = sym (word_at flat at)
loaded_number scalars.Pointer flat at = sym (word_at flat at)

pub load_wide : (t : Scalar) → load_width (load_kind t) ≡ width t
load_wide scalars.Char = refl
load_wide scalars.Int = refl
load_wide scalars.Unsigned = refl
load_wide scalars.Pointer = refl

pub store_wide : (t : Scalar) → store_width (store_kind t) ≡ width t
store_wide scalars.Char = refl
store_wide scalars.Int = refl
store_wide scalars.Unsigned = refl
store_wide scalars.Pointer = refl

-- an access of a scalar lies at a multiple of its width
pub access_aligned : (t : Scalar) (from offset : ℕ) → from % 4 ≡ 0 → offset % width t ≡ 0 → (from + offset) % width t ≡ 0
access_aligned scalars.Char from offset h k = omega arith
access_aligned scalars.Int from offset h k = omega (arith, h, k)
access_aligned scalars.Unsigned from offset h k = omega (arith, h, k)
access_aligned scalars.Pointer from offset h k = omega (arith, h, k)

wide_small : (t : Scalar) (flat : ℕ → ℕ) (at : ℕ) → AreBytes flat → number_at (width t) flat at < 2 ^ 32
wide_small scalars.Char flat at bytes = let e = byte_at flat at in let b = bytes at in omega (arith, e, b)
wide_small scalars.Int flat at bytes = number_small flat at (λ j lt. bytes (at + j))
wide_small scalars.Unsigned flat at bytes = number_small flat at (λ j lt. bytes (at + j))
wide_small scalars.Pointer flat at bytes = number_small flat at (λ j lt. bytes (at + j))

-- an address outside a range
pub outside : (from size at : ℕ) → ((from ≤ at) × (at < from + size) → ⊥) → (at < from) ⊎ (from + size ≤ at)
outside from size at h = ⊎_elim (λ lt. inl lt) (λ ge. ⊎_elim (λ lt. absurd (h (ge, lt))) (λ far. inr far) (cases_lt at (from + size))) (cases_lt at from)

module _ (s : Setup) (a : Activation File) (w : Memory) (stack : List (Waiting File)) (l : Lay) (sp : ℕ) where
  abbrev c : Context
  c = context s a.function

  -- the word of a pointer to a range
  pub range_word : (p : Pointer) (size alignment word : ℕ) (t : Target) → IsRange w p size alignment t → StandsForPointer w l.address_of p word → word ≡ l.address_of t.block + t.offset
  range_word p size alignment word t is h = let q : Points w l.address_of t.block t.offset word = subst (λ (r : Pointer). StandsForPointer w l.address_of r word) is.is h in q.is is.live

  pub load_place_does : (m : Watched) (t : Scalar) (p : Address) (q : Pointer) (v : Value) (x : ℕ) → IsAmid s a w stack l sp m → address_fits s.unit (function_at s.unit a.function) p ≡ true → pointer (holder s) p a w ≡ Some q → memory.load t w q ≡ Some v → HasPlace c (place_of c.places x)
      → Does s m (((anchor_of c p).code ++ pieces.load (load_kind t) (result_register c x) (anchor_of c p).register (anchor_of c p).immediate ∷ []) ++ result_code c x) (IsAmid s (holding s a w stack l sp (place_of c.places x) v) w stack l sp)
  load_place_does m t p q v x h fits e loads has = gives_does s a w stack l sp m x v (λ rd. (anchor_of c p).code ++ pieces.load (load_kind t) rd (anchor_of c p).register (anchor_of c p).immediate ∷ []) h has (λ rd target.
      does_then s m (anchor_of c p).code _ _ _ (anchor_does s a w stack l sp m p q h fits e) (λ m1 x2 k.
      let g = ground w l m1.now.memory in
      let blocks = k.amid.related.blocks in
      let above = k.amid.related.in_room.above in
      let words_are = have_words s g sp blocks above in
      let is = load_held t w l.address_of l.owner m1.now.memory q v blocks.lies words_are loads in
      let at = l.address_of is.at.block + is.at.offset in
      let word = range_word q (width t) (width t) _ is.at is.range k.stands in
      let wide = load_wide t in
      let aligned : at % load_width (load_kind t) ≡ 0 = subst (λ (n : ℕ). at % n ≡ 0) (sym wide) (access_aligned t (l.address_of is.at.block) is.at.offset (blocks.lies.aligned is.at.block is.range.live) is.range.aligned) in
      let fits_in : is.at.offset + load_width (load_kind t) ≤ (block_at w is.at.block).size = subst (λ (n : ℕ). is.at.offset + n ≤ (block_at w is.at.block).size) (sym wide) is.range.fits in
      let may = may_read_block s g sp blocks above m1 k.amid.x2 is.at.block is.at.offset (load_width (load_kind t)) is.range.live fits_in in
      does_with s m1 _ _ (λ bytes. does_is s m1 _ _ _ (load_does s m1 (load_kind t) rd (anchor_of c p).register (anchor_of c p).immediate at target.free word aligned may) (λ m2 y2 j. record {
        word = number_at (width t) m1.now.memory at;
        makes = makes_last s a w stack l sp m m1 m2 rd _ k.leaves (gets_is s m1 m2 rd _ _ (loaded_number t m1.now.memory at) j);
        stands = is.gives;
        small = wide_small t m1.now.memory at bytes;
      }))))

  -- cells are written where a pointer points, and own bytes elsewhere are the same
  pub written_amid : (m m1 : Watched) (p : Pointer) (size alignment : ℕ) (new : List Cell) (later : Memory) (flat : ℕ → ℕ) → IsAmid s a w stack l sp m → (k : Wrote w p size alignment new later) → length new ≡ size → m1.now.registers 2 ≡ m.now.registers 2 → SameHolding (context s a.function) m.now.registers m1.now.registers
      → SameOwn s.room sp flat m1.now.memory → ((at : ℕ) → IsOwn s.room sp at → (at < l.address_of k.at.block + k.at.offset) ⊎ (l.address_of k.at.block + k.at.offset + size ≤ at) → flat at ≡ m.now.memory at) → HoldAll w l.address_of new flat (l.address_of k.at.block + k.at.offset)
      → IsAmid s a later stack l sp m1
  written_amid m m1 p size alignment new later flat h k long x2 saved own same held =
      let fits = k.is.fits in
      let inside : k.at.offset + length new ≤ (block_at w k.at.block).size = omega (arith, fits, long) in
      let from = l.address_of k.at.block + k.at.offset in
      let related = related_written w l m.now.memory flat k.at new k.is.live inside s a stack m.now.registers sp h.related
      (λ at o out. same at o (outside from size at (λ r. let lo = r.0 in let hi = r.1 in out (lo, omega (arith, hi, long))))) held in
      subst (λ (z : Memory). IsAmid s a z stack l sp m1) k.gives (record { x2 = x2 ∙ h.x2; related = related_holding s a (with_cells w k.at new) stack l m.now.registers sp flat related m1.now.registers m1.now.memory saved own })

  pub store_place_does : (m : Watched) (t : Scalar) (p : Address) (o : Operand) (q : Pointer) (v : Value) (later : Memory) → IsAmid s a w stack l sp m → address_fits s.unit (function_at s.unit a.function) p ≡ true → pointer (holder s) p a w ≡ Some q → IsOperand s a w stack l sp o v → memory.store t w q v ≡ Some later
      → Does s m ((anchor_of c p).code ++ (operand_code c 14 o ++ pieces.store (store_kind t) (operand_register c 14 o) (anchor_of c p).register (anchor_of c p).immediate ∷ [])) (IsAmid s a later stack l sp)
  store_place_does m t p o q v later h fits e io stores =
      let a4 = argument_scratch 14 (omega arith) (omega arith) in
      does_then s m (anchor_of c p).code _ _ _ (anchor_does s a w stack l sp m p q h fits e) (λ m1 x2 k.
      does_then s m1 (operand_code c 14 o) _ _ _ (operand_does s a w stack l sp m1 14 o v a4 k.amid io.fits io.is) (λ m2 y2 j.
      let g = ground w l m2.now.memory in
      let blocks = j.amid.related.blocks in
      let above = j.amid.related.in_room.above in
      let st = stored t w q v later stores in
      let wrote = st.wrote in
      let at = l.address_of wrote.at.block + wrote.at.offset in
      let same_register = reads_same m1.now m2.now (anchor_of c p).register (j.others (anchor_of c p).register (k.apart 14 (inl refl))) in
      let word : words.add (register m2.now (anchor_of c p).register) (anchor_of c p).immediate ≡ at = ap (λ (x : ℕ). words.add x (anchor_of c p).immediate) same_register ∙ range_word q (width t) (width t) _ wrote.at wrote.is k.stands in
      let wide = store_wide t in
      let aligned : at % store_width (store_kind t) ≡ 0 = subst (λ (n : ℕ). at % n ≡ 0) (sym wide) (access_aligned t (l.address_of wrote.at.block) wrote.at.offset (blocks.lies.aligned wrote.at.block wrote.is.live) wrote.is.aligned) in
      let fits_in : wrote.at.offset + store_width (store_kind t) ≤ (block_at w wrote.at.block).size = subst (λ (n : ℕ). wrote.at.offset + n ≤ (block_at w wrote.at.block).size) (sym wide) wrote.is.fits in
      let may = may_write_block s g sp blocks above m2 j.amid.x2 wrote.at.block wrote.at.offset (store_width (store_kind t)) wrote.is.live fits_in wrote.writable in
      let flat = machine.stored (store_kind t) m2.now.memory at j.word in
      does_is s m2 _ _ _ (store_does s m2 (store_kind t) (operand_register c 14 o) (anchor_of c p).register (anchor_of c p).immediate at word aligned may) (λ m3 z2 i.
      let as_word : machine.stored (store_kind t) m2.now.memory at (register m2.now (operand_register c 14 o)) ≡ flat = ap (λ (x : ℕ). machine.stored (store_kind t) m2.now.memory at x) j.got in
      let own : SameOwn s.room sp flat m3.now.memory = subst (λ (n : ℕ). SameOwn s.room n flat m3.now.memory) j.amid.x2 (subst (λ (f : ℕ → ℕ). SameOwn s.room (m2.now.registers 2) f m3.now.memory) as_word i.bytes_are) in
      written_amid m2 m3 q (width t) (width t) st.new later flat j.amid wrote st.are.long z2 (record { values = λ r e. i.registers r; link = λ e. i.registers 1 }) own
      (λ x o out. stored_other (store_kind t) m2.now.memory at j.word x (subst (λ (n : ℕ). (x < at) ⊎ (at + n ≤ x)) (sym wide) out))
      (store_holds t w l.address_of v st.new m2.now.memory at j.word st.cells j.stands))))
