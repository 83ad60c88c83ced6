-- Bytes that are copied or become 0, in steps of a byte or of a word.
use Rattle.std.proofs.Common.{◌≡◌, ◌⊎◌, inl, inr, ⊎_elim, ℕ, zero, suc, ◌+◌, ◌-◌, ◌/◌, ◌%◌, ◌^◌, ◌<◌, ◌≤◌, List, [], ◌∷◌, ◌++◌, refl, sym, ap, ◌∙◌, subst, arith}
use Rattle.std.proofs.lemmas.Bool.{cases_lt}
use Rattle.qs_base.specs.Words as words
use Rattle.qs_isa.specs.declared.instruction.Instr.{Instr}
use Rattle.qs_isa.specs.declared.instruction.LoadKind.{LoadKind}
use Rattle.qs_isa.specs.declared.instruction.LoadKind.TheVariants.{Lw, Lbu}
use Rattle.qs_isa.specs.declared.instruction.StoreKind.{StoreKind}
use Rattle.qs_isa.specs.declared.instruction.StoreKind.TheVariants.{Sw, Sb}
use Rattle.qs_isa.specs.declared.instruction.OpImmKind.TheVariants.{Addi}
use Rattle.qs_machine.specs.State.{load_4, store_1}
use Rattle.qs_machine.specs.Step.{load_width, store_width, loaded, stored}
use Rattle.qs_emit_selection.specs.Pieces as pieces
use Rattle.qs_emit.specs.Machine.{Watched}
use Rattle.qs_emit.specs.Lies.{AreBytes, IsOwn, SameOwn}
use Rattle.qs_emit.specs.Relation.{Setup}
use Rattle.qs_emit.proofs.Injection.{stored_byte, stored_other, value_here}
use Rattle.qs_emit.proofs.Steps.{Does, does_with, does_then, does_is, op_imm_does, load_does, store_does, MayRead, MayWrite, same_on}
use Rattle.qs_emit.proofs.FrameLaws.{SameValues}
use Rattle.qs_emit.proofs.Operands.{argument_scratch, value_apart}
use Rattle.qs_emit.proofs.LoopSteps.{loop_does}

-- ---- a byte or a word at a time

pub record IsAccess (from : LoadKind) (to : StoreKind) (width : ℕ) : Type 0 where
  pub read : load_width from ≡ width
  pub write : store_width to ≡ width
  pub small : (width ≡ 1) ⊎ (width ≡ 4)
  pub moves : (flat other : ℕ → ℕ) (at source j : ℕ) → AreBytes flat → j < width → stored to other at (loaded from flat source) (at + j) ≡ flat (source + j)
  pub clears : (other : ℕ → ℕ) (at j : ℕ) → j < width → stored to other at 0 (at + j) ≡ 0

word_digit : (flat : ℕ → ℕ) (from j : ℕ) → AreBytes flat → j < 4 → load_4 flat from / 256 ^ j % 256 ≡ flat (from + j)
word_digit flat from j bytes lt =
    let b0 = bytes from in
    let b1 = bytes (from + 1) in
    let b2 = bytes (from + 2) in
    let b3 = bytes (from + 2 + 1) in
    by j lt b0 b1 b2 b3
  where
    by : (j : ℕ) → j < 4 → flat from < 2 ^ 8 → flat (from + 1) < 2 ^ 8 → flat (from + 2) < 2 ^ 8 → flat (from + 2 + 1) < 2 ^ 8 → load_4 flat from / 256 ^ j % 256 ≡ flat (from + j)
    by zero h b0 b1 b2 b3 = let e : flat (from + 0) ≡ flat from = ap flat (omega arith) in omega (arith, b0, b1, b2, b3, e)
    by (suc zero) h b0 b1 b2 b3 = omega (arith, b0, b1, b2, b3)
    by (suc (suc zero)) h b0 b1 b2 b3 = omega (arith, b0, b1, b2, b3)
    by (suc (suc (suc zero))) h b0 b1 b2 b3 = let e : flat (from + 3) ≡ flat (from + 2 + 1) = ap flat (omega arith) in omega (arith, b0, b1, b2, b3, e)
    by (suc (suc (suc (suc j)))) h b0 b1 b2 b3 = absurd (omega (arith, h))

pub words_are_accesses : IsAccess Lw Sw 4
words_are_accesses = record {
  read = refl;
  write = refl;
  small = inr refl;
  moves = λ flat other at source j bytes lt. stored_byte other at (load_4 flat source) j lt ∙ word_digit flat source j bytes lt;
  clears = λ other at j lt. stored_byte other at 0 j lt ∙ no_digit j lt;
}
  where
    no_digit : (j : ℕ) → j < 4 → 0 / 256 ^ j % 256 ≡ 0
    no_digit zero h = refl
    no_digit (suc zero) h = refl
    no_digit (suc (suc zero)) h = refl
    no_digit (suc (suc (suc zero))) h = refl
    no_digit (suc (suc (suc (suc j)))) h = absurd (omega (arith, h))

pub bytes_are_accesses : IsAccess Lbu Sb 1
bytes_are_accesses = record {
  read = refl;
  write = refl;
  small = inl refl;
  moves = λ flat other at source j bytes lt. one flat other at source j (bytes source) lt;
  clears = λ other at j lt. value_here other at (0 % 2 ^ 8) (at + j) (omega (arith, lt));
}
  where
    one : (flat other : ℕ → ℕ) (at source j : ℕ) → flat source < 2 ^ 8 → j < 1 → store_1 other at (flat source) (at + j) ≡ flat (source + j)
    one flat other at source j b lt =
        let place : source + j ≡ source = omega (arith, lt) in
        value_here other at (flat source % 2 ^ 8) (at + j) (omega (arith, lt)) ∙ omega (arith, b) ∙ sym (ap flat place)

aligned_on : (width at : ℕ) → (width ≡ 1) ⊎ (width ≡ 4) → at % width ≡ 0 → (at + width) % width ≡ 0
aligned_on width at (inl e) h = subst (λ (w : ℕ). (at + w) % w ≡ 0) (sym e) (omega arith)
aligned_on width at (inr e) h = let k : at % 4 ≡ 0 = subst (λ (w : ℕ). at % w ≡ 0) e h in subst (λ (w : ℕ). (at + w) % w ≡ 0) (sym e) (omega (arith, k))

width_positive : (width : ℕ) → (width ≡ 1) ⊎ (width ≡ 4) → (0 < width) × (width ≤ 4)
width_positive width (inl e) = (omega (arith, e), omega (arith, e))
width_positive width (inr e) = (omega (arith, e), omega (arith, e))

-- the bytes of so many turns
abbrev pub turn_bytes : (width turns : ℕ) → ℕ
turn_bytes width zero = 0
turn_bytes width (suc n) = turn_bytes width n + width

no_offset : (x at : ℕ) → x ≡ at → at < 2 ^ 32 → words.add x 0 ≡ at
no_offset x at e small = omega (arith, e, small)

goes_on : (x at width : ℕ) → x ≡ at → at + width < 2 ^ 32 → words.add x width ≡ at + width
goes_on x at width e small = omega (arith, e, small)

module _ (s : Setup) (sp to size width : ℕ) (start registers : ℕ → ℕ) where
  -- own bytes outside the ones that are done are as at the start
  abbrev SameOutside : (done : ℕ) (now : ℕ → ℕ) → Type 0
  SameOutside done now = (at : ℕ) → IsOwn s.room sp at → (at < to) ⊎ (to + done ≤ at) → now at ≡ start at

  -- a part of a loop's state: a5 and a7, and what is left
  pub record IsAt (done : ℕ) (turns : ℕ) (m : Watched) : Type 0 where
    pub x2 : m.now.registers 2 ≡ sp
    pub sum : done + turn_bytes width turns ≡ size
    pub a5 : m.now.registers 15 ≡ to + done
    pub a7 : m.now.registers 17 ≡ to + size
    pub saved : SameValues registers m.now.registers
    pub aligned : (to + done) % width ≡ 0

  -- ---- zeros

  pub record Filling (turns : ℕ) (m : Watched) : Type 0 where
    pub done : ℕ
    pub at : IsAt done turns m
    pub inside : (j : ℕ) → j < done → m.now.memory (to + j) ≡ 0
    pub outside : SameOutside done m.now.memory

  module _ (from_kind : LoadKind) (kind : StoreKind) (is : IsAccess from_kind kind width) (low : to + size ≤ 2 ^ 31) (own : (j : ℕ) → j < size → IsOwn s.room sp (to + j)) (may : (m : Watched) → m.now.registers 2 ≡ sp → (done : ℕ) → done + width ≤ size → MayWrite s m (to + done) width) where
    abbrev pub fill_body : List Instr
    fill_body = pieces.store kind 0 15 0 ∷ pieces.addi 15 15 width ∷ []

    at_stays : (done n : ℕ) (m m1 : Watched) → IsAt done n m → m1.now.registers ≡ m.now.registers → IsAt done n m1
    at_stays done n m m1 h e = record {
      x2 = ap (λ (r : ℕ → ℕ). r 2) e ∙ h.x2;
      sum = h.sum;
      a5 = ap (λ (r : ℕ → ℕ). r 15) e ∙ h.a5;
      a7 = ap (λ (r : ℕ → ℕ). r 17) e ∙ h.a7;
      saved = record { same = λ q b. ap (λ (r : ℕ → ℕ). r q) e ∙ h.saved.same q b };
      aligned = h.aligned;
    }

    at_last : (done : ℕ) (m : Watched) → IsAt done 0 m → m.now.registers 15 ≡ m.now.registers 17
    at_last done m h = let e = h.sum in let x = h.a5 in let y = h.a7 in omega (arith, e, x, y)

    at_more : (done n : ℕ) (m : Watched) → IsAt done (suc n) m → m.now.registers 15 ≡ m.now.registers 17 → ⊥
    at_more done n m h f = let e = h.sum in let x = h.a5 in let y = h.a7 in let w = (width_positive width is.small).0 in absurd (omega (arith, e, x, y, f, w))

    own_now : (flat later : ℕ → ℕ) (done j : ℕ) → SameOwn s.room sp flat later → done ≤ size → j < done → later (to + j) ≡ flat (to + j)
    own_now flat later done j same le lt = same.same (to + j) (own j (omega (arith, le, lt)))

    fill_stays : (n : ℕ) (m m1 : Watched) → Filling n m → m1.now.registers ≡ m.now.registers → SameOwn s.room (m.now.registers 2) m.now.memory m1.now.memory → Filling n m1
    fill_stays n m m1 h e same =
        let bytes : SameOwn s.room sp m.now.memory m1.now.memory = subst (λ (p : ℕ). SameOwn s.room p m.now.memory m1.now.memory) h.at.x2 same in
        let sum = h.at.sum in
        record {
          done = h.done;
          at = at_stays h.done n m m1 h.at e;
          inside = λ j lt. own_now m.now.memory m1.now.memory h.done j bytes (omega (arith, sum)) lt ∙ h.inside j lt;
          outside = λ x o out. bytes.same x o ∙ h.outside x o out;
        }

    fill_turn : (n : ℕ) (m : Watched) → Filling (suc n) m → Does s m fill_body (Filling n)
    fill_turn n m h =
        let done = h.done in
        let sum = h.at.sum in
        let positive = (width_positive width is.small).0 in
        let address = no_offset (m.now.registers 15) (to + done) h.at.a5 (omega (arith, low, sum)) in
        let wide = is.write in
        let aligned : (to + done) % store_width kind ≡ 0 = subst (λ (n : ℕ). (to + done) % n ≡ 0) (sym wide) h.at.aligned in
        let may_write : MayWrite s m (to + done) (store_width kind) = subst (λ (n : ℕ). MayWrite s m (to + done) n) (sym wide) (may m h.at.x2 done (omega (arith, sum))) in
        let a5 = argument_scratch 15 (omega arith) (omega arith) in
        let new = stored kind m.now.memory (to + done) 0 in
        does_then s m (pieces.store kind 0 15 0 ∷ []) (pieces.addi 15 15 width ∷ []) _ _ (store_does s m kind 0 15 0 (to + done) address aligned may_write) (λ m1 x2 g.
        does_is s m1 _ _ _ (op_imm_does s m1 Addi 15 15 width a5.free) (λ m2 y2 k.
        let b1 : SameOwn s.room sp new m1.now.memory = subst (λ (p : ℕ). SameOwn s.room p new m1.now.memory) h.at.x2 g.bytes_are in
        let b2 : SameOwn s.room sp m1.now.memory m2.now.memory = subst (λ (p : ℕ). SameOwn s.room p m1.now.memory m2.now.memory) (x2 ∙ h.at.x2) k.bytes_same in
        let all = same_on s.room sp new m1.now.memory m2.now.memory b1 b2 in
        let a5_is : m1.now.registers 15 ≡ to + done = g.registers 15 ∙ h.at.a5 in
        record {
          done = done + width;
          at = record {
            x2 = y2 ∙ x2 ∙ h.at.x2;
            sum = omega (arith, sum);
            a5 = k.got ∙ goes_on (m1.now.registers 15) (to + done) width a5_is (omega (arith, low, sum)) ∙ omega arith;
            a7 = k.others 17 (λ e. absurd (omega (arith, e))) ∙ g.registers 17 ∙ h.at.a7;
            saved = record { same = λ q b. k.others q (value_apart q 15 b refl) ∙ g.registers q ∙ h.at.saved.same q b };
            aligned = let f = aligned_on width (to + done) is.small h.at.aligned in let e : to + (done + width) ≡ to + done + width = omega arith in subst (λ (x : ℕ). x % width ≡ 0) (sym e) f;
          };
          inside = λ j lt. all.same (to + j) (own j (omega (arith, lt, sum))) ∙ filled m h j lt;
          outside = λ x o out. all.same x o ∙ stored_other kind m.now.memory (to + done) 0 x (beside x done out) ∙ h.outside x o (less x done out);
        }))
      where
        beside : (x done : ℕ) → (x < to) ⊎ (to + (done + width) ≤ x) → (x < to + done) ⊎ (to + done + store_width kind ≤ x)
        beside x done (inl e) = inl (omega (arith, e))
        beside x done (inr e) = let w = is.write in inr (omega (arith, e, w))

        less : (x done : ℕ) → (x < to) ⊎ (to + (done + width) ≤ x) → (x < to) ⊎ (to + done ≤ x)
        less x done (inl e) = inl e
        less x done (inr e) = inr (omega (arith, e))

        filled : (m : Watched) (h : Filling (suc n) m) (j : ℕ) → j < h.done + width → stored kind m.now.memory (to + h.done) 0 (to + j) ≡ 0
        filled m h j lt = ⊎_elim before here (cases_lt j h.done)
          where
            before : j < h.done → stored kind m.now.memory (to + h.done) 0 (to + j) ≡ 0
            before b = stored_other kind m.now.memory (to + h.done) 0 (to + j) (inl (omega (arith, b))) ∙ h.inside j b

            here : h.done ≤ j → stored kind m.now.memory (to + h.done) 0 (to + j) ≡ 0
            here b =
                let k = j - h.done in
                let e : to + h.done + k ≡ to + j = omega (arith, b) in
                subst (λ (x : ℕ). stored kind m.now.memory (to + h.done) 0 x ≡ 0) e (is.clears m.now.memory (to + h.done) k (omega (arith, b, lt)))

    pub fill_loop_does : (turns : ℕ) (m : Watched) → Filling (suc turns) m → Does s m (fill_body ++ pieces.bne 15 17 (2 ^ 32 - 8) ∷ []) (Filling 0)
    fill_loop_does turns m h = loop_does s fill_body Filling (record {
      stays = fill_stays;
      last = λ m h. at_last h.done m h.at;
      more = λ n m h e. at_more h.done n m h.at e;
      turn = fill_turn;
    }) (omega arith) turns m h

    -- ---- copies

    module _ (from : ℕ) (source_low : from + size ≤ 2 ^ 31) (source_own : (j : ℕ) → j < size → IsOwn s.room sp (from + j)) (may_read : (m : Watched) → m.now.registers 2 ≡ sp → (done : ℕ) → done + width ≤ size → MayRead s m (from + done) width) (apart : (to ≡ from) ⊎ ((to + size ≤ from) ⊎ (from + size ≤ to))) (source_aligned : (done : ℕ) → (to + done) % width ≡ 0 → (from + done) % width ≡ 0) where
      pub record Copying (turns : ℕ) (m : Watched) : Type 0 where
        pub done : ℕ
        pub at : IsAt done turns m
        pub a6 : m.now.registers 16 ≡ from + done
        pub inside : (j : ℕ) → j < done → m.now.memory (to + j) ≡ start (from + j)
        pub outside : SameOutside done m.now.memory

      abbrev pub copy_body : List Instr
      copy_body = pieces.load from_kind 14 16 0 ∷ pieces.addi 16 16 width ∷ pieces.store kind 14 15 0 ∷ pieces.addi 15 15 width ∷ []

      copy_stays : (n : ℕ) (m m1 : Watched) → Copying n m → m1.now.registers ≡ m.now.registers → SameOwn s.room (m.now.registers 2) m.now.memory m1.now.memory → Copying n m1
      copy_stays n m m1 h e same =
          let bytes : SameOwn s.room sp m.now.memory m1.now.memory = subst (λ (p : ℕ). SameOwn s.room p m.now.memory m1.now.memory) h.at.x2 same in
          let sum = h.at.sum in
          record {
            done = h.done;
            at = at_stays h.done n m m1 h.at e;
            a6 = ap (λ (r : ℕ → ℕ). r 16) e ∙ h.a6;
            inside = λ j lt. own_now m.now.memory m1.now.memory h.done j bytes (omega (arith, sum)) lt ∙ h.inside j lt;
            outside = λ x o out. bytes.same x o ∙ h.outside x o out;
          }

      -- what is read hasn't been written yet, or with what it is
      source_outside : (done j : ℕ) → done + j < size → (to ≡ from) ⊎ ((to + size ≤ from) ⊎ (from + size ≤ to)) → (from + (done + j) < to) ⊎ (to + done ≤ from + (done + j))
      source_outside done j lt (inl e) = inr (omega (arith, e))
      source_outside done j lt (inr (inl e)) = inr (omega (arith, e, lt))
      source_outside done j lt (inr (inr e)) = inl (omega (arith, e, lt))

      copy_turn : (n : ℕ) (m : Watched) → Copying (suc n) m → Does s m copy_body (Copying n)
      copy_turn n m h = does_with s m copy_body (Copying n) (λ bytes.
          let done = h.done in
          let sum = h.at.sum in
          let wide_read = is.read in
          let wide = is.write in
          let x = h.at.x2 in
          let a4 = argument_scratch 14 (omega arith) (omega arith) in
          let a5 = argument_scratch 15 (omega arith) (omega arith) in
          let a6 = argument_scratch 16 (omega arith) (omega arith) in
          let read_at = no_offset (m.now.registers 16) (from + done) h.a6 (omega (arith, source_low, sum)) in
          let read_aligned : (from + done) % load_width from_kind ≡ 0 = subst (λ (n : ℕ). (from + done) % n ≡ 0) (sym wide_read) (source_aligned done h.at.aligned) in
          let reads : MayRead s m (from + done) (load_width from_kind) = subst (λ (n : ℕ). MayRead s m (from + done) n) (sym wide_read) (may_read m x done (omega (arith, sum))) in
          let v = loaded from_kind m.now.memory (from + done) in
          does_then s m (pieces.load from_kind 14 16 0 ∷ []) (pieces.addi 16 16 width ∷ pieces.store kind 14 15 0 ∷ pieces.addi 15 15 width ∷ []) _ _ (load_does s m from_kind 14 16 0 (from + done) a4.free read_at read_aligned reads) (λ m1 x1 g1.
          does_then s m1 (pieces.addi 16 16 width ∷ []) (pieces.store kind 14 15 0 ∷ pieces.addi 15 15 width ∷ []) _ _ (op_imm_does s m1 Addi 16 16 width a6.free) (λ m2 x2 g2.
          let a5_two : m2.now.registers 15 ≡ to + done = g2.others 15 (λ e. absurd (omega (arith, e))) ∙ g1.others 15 (λ e. absurd (omega (arith, e))) ∙ h.at.a5 in
          let a4_two : m2.now.registers 14 ≡ v = g2.others 14 (λ e. absurd (omega (arith, e))) ∙ g1.got in
          let x_two : m2.now.registers 2 ≡ sp = x2 ∙ x1 ∙ x in
          let write_at = no_offset (m2.now.registers 15) (to + done) a5_two (omega (arith, low, sum)) in
          let write_aligned : (to + done) % store_width kind ≡ 0 = subst (λ (n : ℕ). (to + done) % n ≡ 0) (sym wide) h.at.aligned in
          let writes : MayWrite s m2 (to + done) (store_width kind) = subst (λ (n : ℕ). MayWrite s m2 (to + done) n) (sym wide) (may m2 x_two done (omega (arith, sum))) in
          does_then s m2 (pieces.store kind 14 15 0 ∷ []) (pieces.addi 15 15 width ∷ []) _ _ (store_does s m2 kind 14 15 0 (to + done) write_at write_aligned writes) (λ m3 x3 g3.
          does_is s m3 _ _ _ (op_imm_does s m3 Addi 15 15 width a5.free) (λ m4 x4 g4.
          let new = stored kind m2.now.memory (to + done) v in
          let b1 : SameOwn s.room sp m.now.memory m1.now.memory = subst (λ (p : ℕ). SameOwn s.room p m.now.memory m1.now.memory) x g1.bytes_same in
          let b2 : SameOwn s.room sp m1.now.memory m2.now.memory = subst (λ (p : ℕ). SameOwn s.room p m1.now.memory m2.now.memory) (x1 ∙ x) g2.bytes_same in
          let before = same_on s.room sp m.now.memory m1.now.memory m2.now.memory b1 b2 in
          let as_new : stored kind m2.now.memory (to + done) (m2.now.registers 14) ≡ new = ap (λ (y : ℕ). stored kind m2.now.memory (to + done) y) a4_two in
          let b3 : SameOwn s.room sp new m3.now.memory = subst (λ (f : ℕ → ℕ). SameOwn s.room sp f m3.now.memory) as_new (subst (λ (p : ℕ). SameOwn s.room p (stored kind m2.now.memory (to + done) (m2.now.registers 14)) m3.now.memory) x_two g3.bytes_are) in
          let b4 : SameOwn s.room sp m3.now.memory m4.now.memory = subst (λ (p : ℕ). SameOwn s.room p m3.now.memory m4.now.memory) (x3 ∙ x_two) g4.bytes_same in
          let all = same_on s.room sp new m3.now.memory m4.now.memory b3 b4 in
          let a5_three : m3.now.registers 15 ≡ to + done = g3.registers 15 ∙ a5_two in
          let a6_one : m1.now.registers 16 ≡ from + done = g1.others 16 (λ e. absurd (omega (arith, e))) ∙ h.a6 in
          record {
            done = done + width;
            at = record {
              x2 = x4 ∙ x3 ∙ x_two;
              sum = omega (arith, sum);
              a5 = g4.got ∙ goes_on (m3.now.registers 15) (to + done) width a5_three (omega (arith, low, sum)) ∙ omega arith;
              a7 = g4.others 17 (λ e. absurd (omega (arith, e))) ∙ g3.registers 17 ∙ g2.others 17 (λ e. absurd (omega (arith, e))) ∙ g1.others 17 (λ e. absurd (omega (arith, e))) ∙ h.at.a7;
              saved = record { same = λ q b. g4.others q (value_apart q 15 b refl) ∙ g3.registers q ∙ g2.others q (value_apart q 16 b refl) ∙ g1.others q (value_apart q 14 b refl) ∙ h.at.saved.same q b };
              aligned = let f = aligned_on width (to + done) is.small h.at.aligned in let e : to + (done + width) ≡ to + done + width = omega arith in subst (λ (y : ℕ). y % width ≡ 0) (sym e) f;
            };
            a6 = g4.others 16 (λ e. absurd (omega (arith, e))) ∙ g3.registers 16 ∙ g2.got ∙ goes_on (m1.now.registers 16) (from + done) width a6_one (omega (arith, source_low, sum)) ∙ omega arith;
            inside = λ j lt. all.same (to + j) (own j (omega (arith, lt, sum))) ∙ moved m m2 h bytes before j lt;
            outside = λ z o out. all.same z o ∙ stored_other kind m2.now.memory (to + done) v z (beside z done out) ∙ before.same z o ∙ h.outside z o (less z done out);
          })))))
        where
          beside : (x done : ℕ) → (x < to) ⊎ (to + (done + width) ≤ x) → (x < to + done) ⊎ (to + done + store_width kind ≤ x)
          beside x done (inl e) = inl (omega (arith, e))
          beside x done (inr e) = let w = is.write in inr (omega (arith, e, w))

          less : (x done : ℕ) → (x < to) ⊎ (to + (done + width) ≤ x) → (x < to) ⊎ (to + done ≤ x)
          less x done (inl e) = inl e
          less x done (inr e) = inr (omega (arith, e))

          moved : (m m2 : Watched) (h : Copying (suc n) m) → AreBytes m.now.memory → SameOwn s.room sp m.now.memory m2.now.memory → (j : ℕ) → j < h.done + width → stored kind m2.now.memory (to + h.done) (loaded from_kind m.now.memory (from + h.done)) (to + j) ≡ start (from + j)
          moved m m2 h bytes before j lt = ⊎_elim earlier here (cases_lt j h.done)
            where
              v : ℕ
              v = loaded from_kind m.now.memory (from + h.done)

              earlier : j < h.done → stored kind m2.now.memory (to + h.done) v (to + j) ≡ start (from + j)
              earlier b = let sum = h.at.sum in stored_other kind m2.now.memory (to + h.done) v (to + j) (inl (omega (arith, b))) ∙ before.same (to + j) (own j (omega (arith, sum, b))) ∙ h.inside j b

              here : h.done ≤ j → stored kind m2.now.memory (to + h.done) v (to + j) ≡ start (from + j)
              here b =
                  let sum = h.at.sum in
                  let k = j - h.done in
                  let whole : h.done + k ≡ j = omega (arith, b) in
                  let e : to + h.done + k ≡ to + j = omega (arith, b) in
                  let d : from + h.done + k ≡ from + j = omega (arith, b) in
                  let inside : j < size = omega (arith, lt, sum) in
                  let out = source_outside h.done k (omega (arith, whole, inside)) apart in
                  let out_at : (from + j < to) ⊎ (to + h.done ≤ from + j) = subst (λ (i : ℕ). (from + i < to) ⊎ (to + h.done ≤ from + i)) whole out in
                  let value = is.moves m.now.memory m2.now.memory (to + h.done) (from + h.done) k bytes (omega (arith, b, lt)) in
                  subst (λ (z : ℕ). stored kind m2.now.memory (to + h.done) v z ≡ start (from + j)) e
                  (value ∙ ap m.now.memory d ∙ h.outside (from + j) (source_own j inside) out_at)

      pub copy_loop_does : (turns : ℕ) (m : Watched) → Copying (suc turns) m → Does s m (copy_body ++ pieces.bne 15 17 (2 ^ 32 - 16) ∷ []) (Copying 0)
      copy_loop_does turns m h = loop_does s copy_body Copying (record {
        stays = copy_stays;
        last = λ m h. at_last h.done m h.at;
        more = λ n m h e. at_more h.done n m h.at e;
        turn = copy_turn;
      }) (omega arith) turns m h
