-- Addresses: a register and an immediate whose sum stands for a pointer.
use Rattle.std.proofs.Common.{◌≡◌, ◌⊎◌, inl, inr, ℕ, ◌+◌, ◌*◌, ◌%◌, ◌^◌, ◌==◌, ◌<◌, ◌≤◌, Bool, true, false, List, [], ◌∷◌, ◌++◌, map, Option, Some, None, refl, sym, ap, ◌∙◌, subst, arith}
use Rattle.std.specs.Prelude.{◌&&◌, if◌then◌else◌, unwrap_or}
use Rattle.std.proofs.lemmas.Bool.Decides.{nat_tests}
use Rattle.qs_base.specs.Words as words
use Rattle.qs_memory.specs.Partial.{◌>>=◌}
use Rattle.qs_memory.specs.Values.{Pointer, Value, integer, address, as_pointer, into}
use Rattle.qs_memory.specs.Memory.{Memory}
use Rattle.qs_memory.specs.Soundness.{IsLive}
use Rattle.qs_frames.proofs.FrameLaws.{offset_aligned}
use Rattle.qs_tac.specs.declared.units.TacData.{TacData}
use Rattle.qs_memory.specs.Operations.{apply_binary}
use Rattle.qs_memory.specs.Pointers.{moved_by}
use Rattle.qs_memory.specs.Sizes.{is_element}
use Rattle.qs_memory.specs.declared.operation.Direction.TheVariants.{Up}
use Rattle.qs_memory.specs.declared.operation.BinaryOperation.TheVariants as binaries
use Rattle.qs_memory.proofs.Options.{some_same, followed}
use Rattle.qs_isa.specs.declared.instruction.OpKind.TheVariants.{Add}
use Rattle.qs_isa.specs.declared.instruction.OpImmKind.TheVariants.{Addi}
use Rattle.qs_machine.specs.State.{register}
use Rattle.qs_tac.specs.declared.operands.Operand.{Operand}
use Rattle.qs_tac.specs.declared.operands.Operand.TheVariants.{Temporary, Integer, Byte, Constant, Null, Local, Data}
use Rattle.qs_tac.specs.declared.operands.Index.{Index}
use Rattle.qs_tac.specs.declared.operands.Address.{Address}
use Rattle.qs_tac.specs.Holders.{File}
use Rattle.qs_tac.specs.Fits.{operand_fits, offset_fits, index_fits, address_fits}
use Rattle.qs_tac.specs.Values.{Activation, operand, member_at, indexed, pointer}
use Rattle.qs_tac.specs.Steps.{Waiting}
use Rattle.qs_tac.specs.Operands.{is_constant}
use Rattle.qs_emit_selection.specs.Pieces.{lui, addi, add, is_small, is_near, low_part, high_part, product}
use Rattle.qs_emit_selection.specs.Operands.{Context, local_offset, operand_code, operand_register, Anchor, constant_count, index_displacement, behind_frame, at_address, behind_pointer, based, add_elements, add_index, anchor_of, address_into, is_block, has_constant_index, is_word_address, displacement}
use Rattle.qs_emit.specs.Machine.{Watched}
use Rattle.qs_emit.specs.Lies.{Points, StandsForPointer, StandsFor, SameOwn}
use Rattle.qs_emit.specs.Surroundings.{Lay, ground}
use Rattle.qs_emit.specs.Relation.{Setup, context, function_at, IsAmong}
use Rattle.qs_emit.proofs.Steps.{Does, Gets, IsFree, does_then, does_is, does_none, op_does, op_imm_does, lui_does, same_on, gets_on}
use Rattle.qs_emit.proofs.Slots.{parts_sum, parts_behind, reads_free, gets_is, does_get, high_does}
use Rattle.qs_emit.proofs.FrameLaws.{is_steady, values_none}
use Rattle.qs_emit.proofs.Values.{member_word, moved_up, low_word}
use Rattle.qs_emit.proofs.Operands.{holder, IsScratch, argument_scratch, IsThere, there_apart, reads_same, local_stands, data_stands, IsAmid, amid_on, operand_does}
use Rattle.qs_emit.proofs.OperationLaws.{product_does, Leaves, leaves_on, leaves_operand, leaves_gets}

-- ---- what an address points to, as words

module _ (s : Setup) (a : Activation File) (w : Memory) (stack : List (Waiting File)) (l : Lay) (sp : ℕ) where
  abbrev c : Context
  c = context s a.function

  abbrev StandsAt : Pointer → ℕ → Type 0
  StandsAt p word = StandsForPointer w l.address_of p word

  abbrev fits : Operand → Type 0
  fits o = operand_fits s.unit (function_at s.unit a.function) o ≡ true

  -- a register and an immediate whose sum stands for a pointer. Other steps may use these registers
  pub record HasAnchor (m : Watched) (later : List ℕ) (r immediate : ℕ) (p : Pointer) (m1 : Watched) : Type 0 where
    pub stands : StandsAt p (words.add (register m1.now r) immediate)
    pub apart : (q : ℕ) → IsAmong later q → r ≡ q → ⊥
    pub others : (q : ℕ) → 14 ≤ q → m1.now.registers q ≡ m.now.registers q
    pub leaves : Leaves s a w stack l sp m m1
    pub amid : IsAmid s a w stack l sp m1

  scratch : (r : ℕ) → 10 ≤ r → r < 18 → IsScratch r
  scratch r lo hi = argument_scratch r lo hi

  -- to a member, if there is one
  member_stands : (m : Watched) → IsAmid s a w stack l sp m → (p q : Pointer) (offset : Option ℕ) (word : ℕ) → member_at w offset p ≡ Some q → StandsAt p word → StandsAt q ((word + unwrap_or offset 0) % 2 ^ 32)
  member_stands m h p q None word e stands =
      let same : p ≡ q = some_same p q e in
      let z : (word + 0) % 2 ^ 32 ≡ word % 2 ^ 32 = omega arith in
      subst (λ (x : ℕ). StandsAt q x) (sym z) (subst (λ (r : Pointer). StandsAt r (word % 2 ^ 32)) same (low_word s (ground w l m.now.memory) sp h.related.blocks h.related.in_room.above (address p) word stands))
  member_stands m h p q (Some offset) word e stands = member_word s (ground w l m.now.memory) sp h.related.blocks h.related.in_room.above p q offset word e stands

  -- an element, and there a member
  record IsElement (index : Index) (p q : Pointer) : Type 0 where
    value : Value
    is : operand (holder s) index.count a ≡ Some value
    number : ℕ
    integer_is : value ≡ integer number
    element : Pointer
    moved : moved_by Up index.signedness index.element w p number ≡ Some element
    member : member_at w index.offset element ≡ Some q

  counted : (index : Index) (p q : Pointer) (v : Value) → operand (holder s) index.count a ≡ Some v → (apply_binary (binaries.Move Up index.signedness index.element) w (address p) v >>= λ v. as_pointer v >>= λ r. member_at w index.offset r) ≡ Some q → IsElement index p q
  counted index p q (address o) is e = cc
  counted index p q (integer n) is e =
      let f = followed (apply_binary (binaries.Move Up index.signedness index.element) w (address p) (integer n)) (λ v. as_pointer v >>= λ r. member_at w index.offset r) q e in
      let k = followed (moved_by Up index.signedness index.element w p n) (λ r. Some (address r)) f.value f.first in
      let last : member_at w index.offset k.value ≡ Some q = subst (λ (u : Value). (as_pointer u >>= λ r. member_at w index.offset r) ≡ Some q) (sym (some_same (address k.value) f.value k.then)) f.then in
      record { value = integer n; is = is; number = n; integer_is = refl; element = k.value; moved = k.first; member = last }

  element_is : (index : Index) (p q : Pointer) → indexed (holder s) (Some index) p a w ≡ Some q → IsElement index p q
  element_is index p q e =
      let f = followed (operand (holder s) index.count a) (λ n. apply_binary (binaries.Move Up index.signedness index.element) w (address p) n >>= λ v. as_pointer v >>= λ r. member_at w index.offset r) q e in
      counted index p q f.value f.first f.then

  element_stands : (m : Watched) → IsAmid s a w stack l sp m → (index : Index) (p q : Pointer) (e : IsElement index p q) (word : ℕ) → e.number < 2 ^ 32 → StandsAt p word → StandsAt q (((word + e.number * index.element) % 2 ^ 32 + unwrap_or index.offset 0) % 2 ^ 32)
  element_stands m h index p q e word small stands =
      member_stands m h e.element q index.offset ((word + e.number * index.element) % 2 ^ 32) e.member
      (moved_up s (ground w l m.now.memory) sp h.related.blocks h.related.in_room.above index.signedness index.element p e.element e.number word small e.moved stands)

  -- ---- the base of an address, and what is known of it before the code

  -- the register of a base and its immediate make the base's word and the displacement
  record HasBase (m : Watched) (r immediate : ℕ) (p : Pointer) (far : ℕ) (m1 : Watched) : Type 0 where
    word : ℕ
    stands : StandsAt p word
    sum : words.add (register m1.now r) immediate ≡ (word + far) % 2 ^ 32
    apart : (q : ℕ) → IsAmong (11 ∷ 13 ∷ 14 ∷ []) q → r ≡ q → ⊥
    others : (q : ℕ) → 14 ≤ q → m1.now.registers q ≡ m.now.registers q
    leaves : Leaves s a w stack l sp m m1
    amid : IsAmid s a w stack l sp m1

  leaves_none : (m : Watched) → Leaves s a w stack l sp m m
  leaves_none m = record { x2 = refl; saved = values_none m.now.registers; bytes = record { same = λ at own. refl } }

  -- a register of these is none of those
  fixed_apart : (r : ℕ) → (r ≡ 2) ⊎ ((r ≡ 10) ⊎ (r ≡ 12)) → (q : ℕ) → IsAmong (11 ∷ 13 ∷ 14 ∷ []) q → r ≡ q → ⊥
  fixed_apart r h q among e = by h among
    where
      by : (r ≡ 2) ⊎ ((r ≡ 10) ⊎ (r ≡ 12)) → IsAmong (11 ∷ 13 ∷ 14 ∷ []) q → ⊥
      by (inl k) (inl i) = absurd (omega (arith, k, i, e))
      by (inl k) (inr (inl i)) = absurd (omega (arith, k, i, e))
      by (inl k) (inr (inr (inl i))) = absurd (omega (arith, k, i, e))
      by (inl k) (inr (inr (inr none))) = absurd none
      by (inr (inl k)) (inl i) = absurd (omega (arith, k, i, e))
      by (inr (inl k)) (inr (inl i)) = absurd (omega (arith, k, i, e))
      by (inr (inl k)) (inr (inr (inl i))) = absurd (omega (arith, k, i, e))
      by (inr (inl k)) (inr (inr (inr none))) = absurd none
      by (inr (inr k)) (inl i) = absurd (omega (arith, k, i, e))
      by (inr (inr k)) (inr (inl i)) = absurd (omega (arith, k, i, e))
      by (inr (inr k)) (inr (inr (inl i))) = absurd (omega (arith, k, i, e))
      by (inr (inr k)) (inr (inr (inr none))) = absurd none

  there_far : (r : ℕ) → IsThere 10 r → (q : ℕ) → IsAmong (11 ∷ 13 ∷ 14 ∷ []) q → r ≡ q → ⊥
  there_far r there q among e = by among
    where
      at : (k : ℕ) → 10 < k → k < 18 → q ≡ k → ⊥
      at k lo hi i = there_apart 10 r k there (scratch k (omega (arith, lo)) hi) (λ f. absurd (omega (arith, f, lo))) (e ∙ i)

      by : IsAmong (11 ∷ 13 ∷ 14 ∷ []) q → ⊥
      by (inl i) = at 11 (omega arith) (omega arith) i
      by (inr (inl i)) = at 13 (omega arith) (omega arith) i
      by (inr (inr (inl i))) = at 14 (omega arith) (omega arith) i
      by (inr (inr (inr none))) = absurd none

  amid_leaves : (m m1 : Watched) → IsAmid s a w stack l sp m → Leaves s a w stack l sp m m1 → IsAmid s a w stack l sp m1
  amid_leaves m m1 h k = amid_on s a w stack l sp m m1 h k.x2 k.saved k.bytes

  abbrev DoesBase : Watched → Anchor → Pointer → (far : ℕ) → Type 0
  DoesBase m anchor p far = Does s m anchor.code (HasBase m anchor.register anchor.immediate p far)

  base_either : (m : Watched) (b : Bool) (x y : Anchor) (p : Pointer) (far : ℕ) → (b ≡ true → DoesBase m x p far) → (b ≡ false → DoesBase m y p far) → DoesBase m (if b then x else y) p far
  base_either m true x y p far h k = h refl
  base_either m false x y p far h k = k refl

  frame_base : (m : Watched) (at far : ℕ) (p : Pointer) → IsAmid s a w stack l sp m → StandsAt p (sp + at) → DoesBase m (behind_frame ((at + far) % 2 ^ 32)) p far
  frame_base m at far p h stands = base_either m (is_near ((at + far) % 2 ^ 32)) _ _ p far (λ e. near) (λ e. beyond)
    where
      near : Does s m [] (HasBase m 2 ((at + far) % 2 ^ 32) p far)
      near = does_none s m _ (record {
        word = sp + at;
        stands = stands;
        sum = ap (λ (x : ℕ). words.add x ((at + far) % 2 ^ 32)) h.x2 ∙ omega arith;
        apart = fixed_apart 2 (inl refl);
        others = λ q le. refl;
        leaves = leaves_none m;
        amid = h;
      })

      beyond : Does s m (lui 10 (high_part ((at + far) % 2 ^ 32)) ∷ add 10 10 2 ∷ []) (HasBase m 10 (low_part ((at + far) % 2 ^ 32)) p far)
      beyond = does_is s m _ _ _ (high_does s m 10 ((at + far) % 2 ^ 32) (scratch 10 (omega arith) (omega arith)).free) (λ m1 x2 g.
          let e : register m1.now 10 ≡ (high_part ((at + far) % 2 ^ 32) + m.now.registers 2) % 2 ^ 32 = reads_free s m1.now 10 (scratch 10 (omega arith) (omega arith)).free.0 ∙ g.got in
          let k = leaves_gets s a w stack l sp m m1 10 _ (scratch 10 (omega arith) (omega arith)) x2 g in
          let below = h.x2 in
          record {
            word = sp + at;
            stands = stands;
            sum = ap (λ (x : ℕ). words.add x (low_part ((at + far) % 2 ^ 32))) e ∙ parts_behind ((at + far) % 2 ^ 32) (m.now.registers 2) ∙ omega (arith, below);
            apart = fixed_apart 10 (inr (inl refl));
            others = λ q le. g.others q (λ i. absurd (omega (arith, i, le)));
            leaves = k;
            amid = amid_leaves m m1 h k;
          })

  data_base : (m : Watched) (at far : ℕ) (p : Pointer) → IsAmid s a w stack l sp m → StandsAt p at → DoesBase m (at_address ((at + far) % 2 ^ 32)) p far
  data_base m at far p h stands = does_is s m _ _ _ (lui_does s m 10 (high_part ((at + far) % 2 ^ 32)) (scratch 10 (omega arith) (omega arith)).free) (λ m1 x2 g.
      let e : register m1.now 10 ≡ high_part ((at + far) % 2 ^ 32) = reads_free s m1.now 10 (scratch 10 (omega arith) (omega arith)).free.0 ∙ g.got in
      let k = leaves_gets s a w stack l sp m m1 10 _ (scratch 10 (omega arith) (omega arith)) x2 g in
      record {
        word = at;
        stands = stands;
        sum = ap (λ (x : ℕ). words.add x (low_part ((at + far) % 2 ^ 32))) e ∙ parts_sum ((at + far) % 2 ^ 32) (omega arith);
        apart = fixed_apart 10 (inr (inl refl));
        others = λ q le. g.others q (λ i. absurd (omega (arith, i, le)));
        leaves = k;
        amid = amid_leaves m m1 h k;
      })

  pointer_base : (m : Watched) (o : Operand) (far : ℕ) (p : Pointer) → IsAmid s a w stack l sp m → fits o → operand (holder s) o a ≡ Some (address p) → DoesBase m (behind_pointer c far o) p far
  pointer_base m o far p h fit e = base_either m (is_small far) _ _ p far (λ t. small) (λ t. large)
    where
      small : Does s m (operand_code c 10 o) (HasBase m (operand_register c 10 o) far p far)
      small = does_is s m _ _ _ (operand_does s a w stack l sp m 10 o (address p) (scratch 10 (omega arith) (omega arith)) h fit e) (λ m1 x2 k. record {
        word = k.word;
        stands = k.stands;
        sum = ap (λ (x : ℕ). words.add x far) k.got;
        apart = there_far (operand_register c 10 o) k.there;
        others = λ q le. k.others q (λ i. absurd (omega (arith, i, le)));
        leaves = leaves_operand s a w stack l sp m m1 10 (operand_register c 10 o) (address p) (scratch 10 (omega arith) (omega arith)) x2 k;
        amid = k.amid;
      })

      large : Does s m (operand_code c 10 o ++ lui 12 (high_part far) ∷ add 12 12 (operand_register c 10 o) ∷ []) (HasBase m 12 (low_part far) p far)
      large = does_then s m (operand_code c 10 o) _ _ _ (operand_does s a w stack l sp m 10 o (address p) (scratch 10 (omega arith) (omega arith)) h fit e) (λ m1 x2 k.
          does_then s m1 (lui 12 (high_part far) ∷ []) (add 12 12 (operand_register c 10 o) ∷ []) _ _ (lui_does s m1 12 (high_part far) (scratch 12 (omega arith) (omega arith)).free) (λ m2 y2 g.
          does_is s m2 _ _ _ (op_does s m2 Add 12 12 (operand_register c 10 o) (scratch 12 (omega arith) (omega arith)).free) (λ m3 z2 j.
          let high : register m2.now 12 ≡ high_part far = reads_free s m2.now 12 (scratch 12 (omega arith) (omega arith)).free.0 ∙ g.got in
          let apart = there_apart 10 (operand_register c 10 o) 12 k.there (scratch 12 (omega arith) (omega arith)) (λ i. absurd (omega (arith, i))) in
          let base : register m2.now (operand_register c 10 o) ≡ k.word = reads_same m1.now m2.now (operand_register c 10 o) (g.others (operand_register c 10 o) apart) ∙ k.got in
          let got : m3.now.registers 12 ≡ (high_part far + k.word) % 2 ^ 32 = j.got ∙ ap (λ (x : ℕ). words.add x (register m2.now (operand_register c 10 o))) high ∙ ap (λ (x : ℕ). words.add (high_part far) x) base in
          let e3 : register m3.now 12 ≡ (high_part far + k.word) % 2 ^ 32 = reads_free s m3.now 12 (scratch 12 (omega arith) (omega arith)).free.0 ∙ got in
          let left = leaves_operand s a w stack l sp m m1 10 (operand_register c 10 o) (address p) (scratch 10 (omega arith) (omega arith)) x2 k in
          let middle = leaves_gets s a w stack l sp m1 m2 12 _ (scratch 12 (omega arith) (omega arith)) y2 g in
          let last = leaves_gets s a w stack l sp m2 m3 12 _ (scratch 12 (omega arith) (omega arith)) z2 j in
          let all = leaves_on s a w stack l sp m m2 m3 (leaves_on s a w stack l sp m m1 m2 left middle) last in
          record {
            word = k.word;
            stands = k.stands;
            sum = ap (λ (x : ℕ). words.add x (low_part far)) e3 ∙ parts_behind far k.word;
            apart = fixed_apart 12 (inr (inr refl));
            others = λ q le. j.others q (λ i. absurd (omega (arith, i, le))) ∙ g.others q (λ i. absurd (omega (arith, i, le))) ∙ k.others q (λ i. absurd (omega (arith, i, le)));
            leaves = all;
            amid = amid_leaves m m3 h all;
          })))

  base_does : (m : Watched) (o : Operand) (far : ℕ) (p : Pointer) → IsAmid s a w stack l sp m → fits o → operand (holder s) o a ≡ Some (address p) → DoesBase m (based c far o) p far
  base_does m (Temporary t) far p h fit e = pointer_base m (Temporary t) far p h fit e
  base_does m (Integer t) far p h fit e = pointer_base m (Integer t) far p h fit e
  base_does m (Byte t) far p h fit e = pointer_base m (Byte t) far p h fit e
  base_does m (Constant n) far p h fit e = pointer_base m (Constant n) far p h fit e
  base_does m Null far p h fit e = pointer_base m Null far p h fit e
  base_does m (Local i) far p h fit e =
      let stands = local_stands s a w stack l sp m i h fit in
      frame_base m (local_offset c i) far p h (subst (λ (v : Value). StandsFor w l.address_of v (sp + local_offset c i)) (some_same _ (address p) e) stands)
  base_does m (Data i) far p h fit e =
      let stands = data_stands s a w stack l sp m i h fit in
      data_base m (c.data_at i) far p h (subst (λ (v : Value). StandsFor w l.address_of v (c.data_at i)) (some_same _ (address p) e) stands)

  -- ---- elements

  -- a3 becomes the base and so many elements
  elements_do : (m : Watched) (base count element : ℕ) → (base ≡ 13 → ⊥) → (count ≡ 13 → ⊥) → element < 2 ^ 32 → Does s m (add_elements base count element) (Gets s m 13 ((register m.now count * element + register m.now base) % 2 ^ 32))
  elements_do m base count element nb nc small = by (element == 1) refl
    where
      free : IsFree 13
      free = (scratch 13 (omega arith) (omega arith)).free

      by : (b : Bool) → (element == 1) ≡ b → Does s m (if b then add 13 count base ∷ [] else product 13 count element ++ add 13 13 base ∷ []) (Gets s m 13 ((register m.now count * element + register m.now base) % 2 ^ 32))
      by true t =
          let one : element ≡ 1 = grind (arith, nat_tests, t) in
          let product : register m.now count * element ≡ register m.now count = ap (λ (n : ℕ). register m.now count * n) one ∙ omega arith in
          does_get s m _ 13 _ _ (ap (λ (x : ℕ). (x + register m.now base) % 2 ^ 32) (sym product)) (op_does s m Add 13 count base free)
      by false t = does_then s m (product 13 count element) (add 13 13 base ∷ []) _ _ (product_does s m 13 count element free nc small) (λ m1 x2 g.
          let left : register m1.now 13 ≡ register m.now count * element % 2 ^ 32 = reads_free s m1.now 13 free.0 ∙ g.got in
          let right : register m1.now base ≡ register m.now base = reads_same m.now m1.now base (g.others base nb) in
          let at : words.add (register m1.now 13) (register m1.now base) ≡ (register m.now count * element + register m.now base) % 2 ^ 32 = ap (λ (x : ℕ). words.add x (register m1.now base)) left ∙ ap (λ (x : ℕ). words.add (register m.now count * element % 2 ^ 32) x) right ∙ wrapped (register m.now count * element) (register m.now base) in
          does_is s m1 _ _ _ (op_does s m1 Add 13 13 base free) (λ m2 y2 k. gets_on s m m1 m2 13 _ _ x2 g (gets_is s m1 m2 13 _ _ at k)))
        where
          wrapped : (x y : ℕ) → (x % 2 ^ 32 + y) % 2 ^ 32 ≡ (x + y) % 2 ^ 32
          wrapped x y = omega arith

  -- ---- whole addresses

  and_left : (x y : Bool) → x && y ≡ true → x ≡ true
  and_left true y e = refl
  and_left false y e = cc

  and_right : (x y : Bool) → x && y ≡ true → y ≡ true
  and_right true y e = e
  and_right false y e = cc

  constant_count_is : (o : Operand) → is_constant o ≡ true → o ≡ Constant (constant_count o)
  constant_count_is (Temporary t) e = cc
  constant_count_is (Integer t) e = cc
  constant_count_is (Byte t) e = cc
  constant_count_is (Constant n) e = refl
  constant_count_is Null e = cc
  constant_count_is (Local i) e = cc
  constant_count_is (Data i) e = cc

  no_constant_count : (o : Operand) → is_constant o ≡ false → constant_count o ≡ 0
  no_constant_count (Temporary t) e = refl
  no_constant_count (Integer t) e = refl
  no_constant_count (Byte t) e = refl
  no_constant_count (Constant n) e = cc
  no_constant_count Null e = refl
  no_constant_count (Local i) e = refl
  no_constant_count (Data i) e = refl

  number_same : (n k : ℕ) → integer n ≡ integer k → n ≡ k
  number_same n k e = cc

  abbrev DoesAnchor : Watched → Anchor → Pointer → Type 0
  DoesAnchor m anchor q = Does s m anchor.code (HasAnchor m (14 ∷ []) anchor.register anchor.immediate q)

  anchor_either : (m : Watched) (b : Bool) (x y : Anchor) (q : Pointer) → (b ≡ true → DoesAnchor m x q) → (b ≡ false → DoesAnchor m y q) → DoesAnchor m (if b then x else y) q
  anchor_either m true x y q h k = h refl
  anchor_either m false x y q h k = k refl

  -- where the sum is right, the base is the anchor
  base_alone : (m : Watched) (base : Anchor) (p q : Pointer) (far : ℕ) → DoesBase m base p far → ((word : ℕ) → StandsAt p word → StandsAt q ((word + far) % 2 ^ 32)) → DoesAnchor m base q
  base_alone m base p q far does stands = does_is s m _ _ _ does (λ m1 x2 k. record {
    stands = subst (λ (x : ℕ). StandsAt q x) (sym k.sum) (stands k.word k.stands);
    apart = λ r among e. k.apart r (last r among) e;
    others = k.others;
    leaves = k.leaves;
    amid = k.amid;
  })
    where
      last : (r : ℕ) → IsAmong (14 ∷ []) r → IsAmong (11 ∷ 13 ∷ 14 ∷ []) r
      last r (inl e) = inr (inr (inl e))
      last r (inr none) = absurd none

  fits_count : (index : Index) → index_fits s.unit (function_at s.unit a.function) (Some index) ≡ true → fits index.count
  fits_count index fit =
      let known = operand_fits s.unit (function_at s.unit a.function) index.count in
      and_left known (is_element index.element) (and_left (known && is_element index.element) (offset_fits index.offset) fit)

  -- a constant count is a part of the displacement
  constant_stands : (m : Watched) → IsAmid s a w stack l sp m → (index : Index) (q r : Pointer) (e : IsElement index q r) → index_fits s.unit (function_at s.unit a.function) (Some index) ≡ true → is_constant index.count ≡ true → (word first : ℕ) → StandsAt q ((word + first) % 2 ^ 32) → StandsAt r ((word + (first + index_displacement (Some index)) % 2 ^ 32) % 2 ^ 32)
  constant_stands m h index q r e fit t word first before =
      let k = constant_count_is index.count t in
      let n = constant_count index.count in
      let v : Some (integer n) ≡ Some e.value = subst (λ (o : Operand). operand (holder s) o a ≡ Some e.value) k e.is in
      let same : n ≡ e.number = number_same n e.number (some_same (integer n) e.value v ∙ e.integer_is) in
      let fit_n : fits (Constant n) = subst (λ (o : Operand). fits o) k (fits_count index fit) in
      let small : n < 2 ^ 32 = grind (arith, nat_tests, fit_n) in
      let at = element_stands m h index q r e ((word + first) % 2 ^ 32) (omega (arith, same, small)) before in
      subst (λ (x : ℕ). StandsAt r x) (sym (sum word first (n * index.element) (unwrap_or index.offset 0) ∙ ap (λ (i : ℕ). (((word + first) % 2 ^ 32 + i * index.element) % 2 ^ 32 + unwrap_or index.offset 0) % 2 ^ 32) same)) at
    where
      sum : (word first all last : ℕ) → (word + (first + (all + last)) % 2 ^ 32) % 2 ^ 32 ≡ (((word + first) % 2 ^ 32 + all) % 2 ^ 32 + last) % 2 ^ 32
      sum word first all last = omega arith

  -- the base and a count of elements
  index_does : (m : Watched) (base : Anchor) (p q r : Pointer) (index : Index) (first : ℕ) → IsAmid s a w stack l sp m → index_fits s.unit (function_at s.unit a.function) (Some index) ≡ true → DoesBase m base p ((first + index_displacement (Some index)) % 2 ^ 32)
      → ((word : ℕ) → StandsAt p word → StandsAt q ((word + first) % 2 ^ 32)) → IsElement index q r → DoesAnchor m (add_index c base (Some index)) r
  index_does m base p q r index first h fit does before e = anchor_either m (is_constant index.count) _ _ r constant variable
    where
      known : Bool
      known = operand_fits s.unit (function_at s.unit a.function) index.count

      both_fit : known && is_element index.element ≡ true
      both_fit = and_left (known && is_element index.element) (offset_fits index.offset) fit

      fit_count : fits index.count
      fit_count = and_left known (is_element index.element) both_fit

      element_small : index.element < 2 ^ 32
      element_small = let t : is_element index.element ≡ true = and_right known (is_element index.element) both_fit in grind (arith, nat_tests, t)

      constant : is_constant index.count ≡ true → DoesAnchor m base r
      constant t = base_alone m base p r _ does (λ word stands. constant_stands m h index q r e fit t word first (before word stands))

      variable : is_constant index.count ≡ false → Does s m (base.code ++ (operand_code c 11 index.count ++ add_elements base.register (operand_register c 11 index.count) index.element)) (HasAnchor m (14 ∷ []) 13 base.immediate r)
      variable t = does_then s m base.code _ _ _ does (λ m1 x2 b.
          does_then s m1 (operand_code c 11 index.count) _ _ _ (operand_does s a w stack l sp m1 11 index.count e.value (scratch 11 (omega arith) (omega arith)) b.amid fit_count e.is) (λ m2 y2 o.
          let not_count : operand_register c 11 index.count ≡ 13 → ⊥ = there_apart 11 (operand_register c 11 index.count) 13 o.there (scratch 13 (omega arith) (omega arith)) (λ i. absurd (omega (arith, i))) in
          let not_base : base.register ≡ 13 → ⊥ = b.apart 13 (inr (inl refl)) in
          does_is s m2 _ _ _ (elements_do m2 base.register (operand_register c 11 index.count) index.element not_base not_count element_small) (λ m3 z2 g.
          let n = e.number in
          let stands_n : StandsFor w l.address_of (integer n) o.word = subst (λ (v : Value). StandsFor w l.address_of v o.word) e.integer_is o.stands in
          let is_n = stands_n.0 in
          let small = stands_n.1 in
          let base_same : register m2.now base.register ≡ register m1.now base.register = reads_same m1.now m2.now base.register (o.others base.register (b.apart 11 (inl refl))) in
          let none = no_constant_count index.count t in
          let got : register m3.now 13 ≡ (n * index.element + register m1.now base.register) % 2 ^ 32 =
          reads_free s m3.now 13 (scratch 13 (omega arith) (omega arith)).free.0 ∙ g.got
          ∙ ap (λ (x : ℕ). (x * index.element + register m2.now base.register) % 2 ^ 32) (o.got ∙ is_n)
          ∙ ap (λ (x : ℕ). (n * index.element + x) % 2 ^ 32) base_same in
          let far : words.add (register m1.now base.register) base.immediate ≡ (b.word + (first + unwrap_or index.offset 0) % 2 ^ 32) % 2 ^ 32 = b.sum ∙ ap (λ (i : ℕ). (b.word + (first + (i * index.element + unwrap_or index.offset 0)) % 2 ^ 32) % 2 ^ 32) none ∙ ap (λ (i : ℕ). (b.word + (first + i) % 2 ^ 32) % 2 ^ 32) (no_elements index.element (unwrap_or index.offset 0)) in
          let total : words.add (register m3.now 13) base.immediate ≡ (((b.word + first) % 2 ^ 32 + n * index.element) % 2 ^ 32 + unwrap_or index.offset 0) % 2 ^ 32 =
          ap (λ (x : ℕ). words.add x base.immediate) got ∙ sum (n * index.element) (register m1.now base.register) base.immediate b.word first (unwrap_or index.offset 0) far in
          let left = leaves_on s a w stack l sp m m1 m2 b.leaves (leaves_operand s a w stack l sp m1 m2 11 (operand_register c 11 index.count) e.value (scratch 11 (omega arith) (omega arith)) y2 o) in
          let all = leaves_on s a w stack l sp m m2 m3 left (leaves_gets s a w stack l sp m2 m3 13 _ (scratch 13 (omega arith) (omega arith)) z2 g) in
          record {
            stands = subst (λ (x : ℕ). StandsAt r x) (sym total) (element_stands m h index q r e ((b.word + first) % 2 ^ 32) small (before b.word b.stands));
            apart = λ z among k. not_last z among k;
            others = λ z le. g.others z (λ i. absurd (omega (arith, i, le))) ∙ o.others z (λ i. absurd (omega (arith, i, le))) ∙ b.others z le;
            leaves = all;
            amid = amid_leaves m m3 h all;
          })))
        where
          sum : (all base immediate word first last : ℕ) → (base + immediate) % 2 ^ 32 ≡ (word + (first + last) % 2 ^ 32) % 2 ^ 32 → ((all + base) % 2 ^ 32 + immediate) % 2 ^ 32 ≡ (((word + first) % 2 ^ 32 + all) % 2 ^ 32 + last) % 2 ^ 32
          sum all base immediate word first last h = omega (arith, h)

          no_elements : (size last : ℕ) → 0 * size + last ≡ last
          no_elements size last = omega arith

          not_last : (z : ℕ) → IsAmong (14 ∷ []) z → 13 ≡ z → ⊥
          not_last z (inl i) k = absurd (omega (arith, i, k))
          not_last z (inr none) k = absurd none

  -- an address stands for the pointer that it is
  record IsPointer (p : Address) (q : Pointer) : Type 0 where
    base : Pointer
    is_base : operand (holder s) p.base a ≡ Some (address base)
    member : Pointer
    is_member : member_at w p.offset base ≡ Some member
    is_indexed : indexed (holder s) p.index member a w ≡ Some q

  pointer_value : (v : Value) (p : Pointer) → as_pointer v ≡ Some p → v ≡ address p
  pointer_value (integer n) p e = cc
  pointer_value (address o) p e = ap address (some_same o p e)

  pointer_is : (p : Address) (q : Pointer) → pointer (holder s) p a w ≡ Some q → IsPointer p q
  pointer_is p q e =
      let f = followed (operand (holder s) p.base a) (λ v. as_pointer v >>= λ o. member_at w p.offset o >>= λ r. indexed (holder s) p.index r a w) q e in
      let g = followed (as_pointer f.value) (λ o. member_at w p.offset o >>= λ r. indexed (holder s) p.index r a w) q f.then in
      let k = followed (member_at w p.offset g.value) (λ r. indexed (holder s) p.index r a w) q g.then in
      record {
        base = g.value;
        is_base = f.first ∙ ap Some (pointer_value f.value g.value g.first);
        member = k.value;
        is_member = k.first;
        is_indexed = k.then;
      }

  alone_sum : (word far : ℕ) → (word + (far + 0) % 2 ^ 32) % 2 ^ 32 ≡ (word + far) % 2 ^ 32
  alone_sum word far = omega arith

  -- where no count has to be computed, the word is that of the base and the displacement
  displaced : (m : Watched) (p : Address) (q : Pointer) → IsAmid s a w stack l sp m → address_fits s.unit (function_at s.unit a.function) p ≡ true → (is : IsPointer p q) → has_constant_index p.index ≡ true → (word : ℕ) → StandsAt is.base word → StandsAt q ((word + displacement p) % 2 ^ 32)
  displaced m p q h fit is t word stands = by p.index refl t
    where
      before : StandsAt is.member ((word + unwrap_or p.offset 0) % 2 ^ 32)
      before = member_stands m h is.base is.member p.offset word is.is_member stands

      fit_index : index_fits s.unit (function_at s.unit a.function) p.index ≡ true
      fit_index =
          let first = operand_fits s.unit (function_at s.unit a.function) p.base in
          let second = index_fits s.unit (function_at s.unit a.function) p.index in
          and_right first second (and_left (first && second) (offset_fits p.offset) fit)

      by : (index : Option Index) → p.index ≡ index → has_constant_index index ≡ true → StandsAt q ((word + (unwrap_or p.offset 0 + index_displacement index) % 2 ^ 32) % 2 ^ 32)
      by None i t =
          let same : is.member ≡ q = some_same is.member q (subst (λ (x : Option Index). indexed (holder s) x is.member a w ≡ Some q) i is.is_indexed) in
          subst (λ (x : ℕ). StandsAt q x) (sym (alone_sum word (unwrap_or p.offset 0))) (subst (λ (r : Pointer). StandsAt r ((word + unwrap_or p.offset 0) % 2 ^ 32)) same before)
      by (Some index) i t =
          let indexed_is : indexed (holder s) (Some index) is.member a w ≡ Some q = subst (λ (x : Option Index). indexed (holder s) x is.member a w ≡ Some q) i is.is_indexed in
          let fit_some : index_fits s.unit (function_at s.unit a.function) (Some index) ≡ true = subst (λ (x : Option Index). index_fits s.unit (function_at s.unit a.function) x ≡ true) i fit_index in
          constant_stands m h index is.member q (element_is index is.member q indexed_is) fit_some t word (unwrap_or p.offset 0) before

  -- a block with a displacement that is a multiple of 4 lies at one
  block_aligned : (m : Watched) (o : Operand) (b : Pointer) → IsAmid s a w stack l sp m → fits o → is_block o ≡ true → operand (holder s) o a ≡ Some (address b) → (word : ℕ) × (StandsAt b word × (word % 4 ≡ 0))
  block_aligned m (Temporary t) b h fit k e = cc
  block_aligned m (Integer t) b h fit k e = cc
  block_aligned m (Byte t) b h fit k e = cc
  block_aligned m (Constant n) b h fit k e = cc
  block_aligned m Null b h fit k e = cc
  block_aligned m (Local i) b h fit k e =
      let stands = subst (λ (v : Value). StandsFor w l.address_of v (sp + local_offset c i)) (some_same _ (address b) e) (local_stands s a w stack l sp m i h fit) in
      let x2 = h.related.in_room.aligned in
      let o = offset_aligned c.function.blocks i in
      (sp + local_offset c i, (stands, omega (arith, x2, o)))
  block_aligned m (Data i) b h fit k e =
      let stands = subst (λ (v : Value). StandsFor w l.address_of v (c.data_at i)) (some_same _ (address b) e) (data_stands s a w stack l sp m i h fit) in
      let o = offset_aligned (map (λ (d : TacData). d.size) s.unit.data_blocks) i in
      (c.data_at i, (stands, omega (arith, o)))

  pub word_address_aligned : (m : Watched) (p : Address) (q : Pointer) (block offset : ℕ) → IsAmid s a w stack l sp m → address_fits s.unit (function_at s.unit a.function) p ≡ true → pointer (holder s) p a w ≡ Some q → is_word_address p ≡ true → q ≡ into block offset → IsLive w block → (l.address_of block + offset) % 4 ≡ 0
  word_address_aligned m p q block offset h fit e t into_is live =
      let is = pointer_is p q e in
      let both = and_left (is_block p.base && has_constant_index p.index) (displacement p % 4 == 0) t in
      let block_base = and_left (is_block p.base) (has_constant_index p.index) both in
      let constant_index = and_right (is_block p.base) (has_constant_index p.index) both in
      let last = and_right (is_block p.base && has_constant_index p.index) (displacement p % 4 == 0) t in
      let four : displacement p % 4 ≡ 0 = grind (arith, nat_tests, last) in
      let first = operand_fits s.unit (function_at s.unit a.function) p.base in
      let second = index_fits s.unit (function_at s.unit a.function) p.index in
      let fit_base : fits p.base = and_left first second (and_left (first && second) (offset_fits p.offset) fit) in
      let base = block_aligned m p.base is.base h fit_base block_base is.is_base in
      let stands = displaced m p q h fit is constant_index base.0 base.1.0 in
      let points : Points w l.address_of block offset ((base.0 + displacement p) % 2 ^ 32) = subst (λ (r : Pointer). StandsAt r ((base.0 + displacement p) % 2 ^ 32)) into_is stands in
      let same = points.is live in
      let base_four = base.1.1 in
      omega (arith, same, base_four, four)

  pub anchor_does : (m : Watched) (p : Address) (q : Pointer) → IsAmid s a w stack l sp m → address_fits s.unit (function_at s.unit a.function) p ≡ true → pointer (holder s) p a w ≡ Some q → DoesAnchor m (anchor_of c p) q
  anchor_does m p q h fit e = by p.index refl
    where
      is : IsPointer p q
      is = pointer_is p q e

      fit_base : fits p.base
      fit_base = and_left _ _ (and_left _ _ fit)

      before : (word : ℕ) → StandsAt is.base word → StandsAt is.member ((word + unwrap_or p.offset 0) % 2 ^ 32)
      before word stands = member_stands m h is.base is.member p.offset word is.is_member stands

      by : (index : Option Index) → p.index ≡ index → DoesAnchor m (add_index c (based c ((unwrap_or p.offset 0 + index_displacement index) % 2 ^ 32) p.base) index) q
      by None i =
          let same : is.member ≡ q = some_same is.member q (subst (λ (x : Option Index). indexed (holder s) x is.member a w ≡ Some q) i is.is_indexed) in
          base_alone m _ is.base q _ (base_does m p.base ((unwrap_or p.offset 0 + 0) % 2 ^ 32) is.base h fit_base is.is_base) (λ word stands.
          subst (λ (x : ℕ). StandsAt q x) (sym (alone_sum word (unwrap_or p.offset 0))) (subst (λ (r : Pointer). StandsAt r ((word + unwrap_or p.offset 0) % 2 ^ 32)) same (before word stands)))
      by (Some index) i =
          let indexed_is : indexed (holder s) (Some index) is.member a w ≡ Some q = subst (λ (x : Option Index). indexed (holder s) x is.member a w ≡ Some q) i is.is_indexed in
          let fit_index : index_fits s.unit (function_at s.unit a.function) (Some index) ≡ true = subst (λ (x : Option Index). index_fits s.unit (function_at s.unit a.function) x ≡ true) i (and_right _ _ (and_left _ _ fit)) in
          index_does m _ is.base is.member q index (unwrap_or p.offset 0) h fit_index
          (base_does m p.base ((unwrap_or p.offset 0 + index_displacement (Some index)) % 2 ^ 32) is.base h fit_base is.is_base) before (element_is index is.member q indexed_is)

  -- an address in a register
  pub record HasAddress (m : Watched) (rd : ℕ) (q : Pointer) (m1 : Watched) : Type 0 where
    pub word : ℕ
    pub got : m1.now.registers rd ≡ word
    pub stands : StandsAt q word
    pub small : word < 2 ^ 32
    pub others : (z : ℕ) → 14 ≤ z → (z ≡ rd → ⊥) → m1.now.registers z ≡ m.now.registers z
    pub saved : (z : ℕ) → is_steady z ≡ true → (z ≡ rd → ⊥) → m1.now.registers z ≡ m.now.registers z
    pub bytes : SameOwn s.room (m.now.registers 2) m.now.memory m1.now.memory

  pub address_into_does : (m : Watched) (rd : ℕ) (p : Address) (q : Pointer) → IsFree rd → IsAmid s a w stack l sp m → address_fits s.unit (function_at s.unit a.function) p ≡ true → pointer (holder s) p a w ≡ Some q → Does s m (address_into c rd p) (HasAddress m rd q)
  address_into_does m rd p q free h fit e = does_then s m (anchor_of c p).code (addi rd (anchor_of c p).register (anchor_of c p).immediate ∷ []) _ _ (anchor_does m p q h fit e) (λ m1 x2 k.
      does_is s m1 _ _ _ (op_imm_does s m1 Addi rd (anchor_of c p).register (anchor_of c p).immediate free) (λ m2 y2 g. record {
        word = words.add (register m1.now (anchor_of c p).register) (anchor_of c p).immediate;
        got = g.got;
        stands = k.stands;
        small = omega arith;
        others = λ z le n. g.others z n ∙ k.others z le;
        saved = λ z t n. g.others z n ∙ k.leaves.saved.same z t;
        bytes = same_on s.room (m.now.registers 2) m.now.memory m1.now.memory m2.now.memory k.leaves.bytes (subst (λ (n : ℕ). SameOwn s.room n m1.now.memory m2.now.memory) k.leaves.x2 g.bytes_same);
      }))
