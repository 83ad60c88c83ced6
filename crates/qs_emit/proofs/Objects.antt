-- Whole objects: copies and fills.
use Rattle.std.proofs.Common.{◌≡◌, ◌⊎◌, inl, inr, ⊎_elim, ℕ, zero, suc, ◌+◌, ◌-◌, ◌*◌, ◌/◌, ◌%◌, ◌^◌, ◌==◌, ◌<◌, ◌≤◌, Bool, true, false, List, [], ◌∷◌, length, refl, sym, ap, ◌∙◌, subst, arith}
use Rattle.std.specs.Prelude.{if◌then◌else◌}
use Rattle.std.proofs.lemmas.Bool.{cases_lt, cases_eq}
use Rattle.std.proofs.lemmas.Bool.Decides.{nat_tests}
use Rattle.std.proofs.Math.Nat.{zero-div}
use Rattle.qs_base.specs.Words as words
use Rattle.qs_memory.specs.Values.{Pointer, null, into}
use Rattle.qs_memory.specs.Memory.{Cell, byte, part, Memory, Target, parts_of, BlankTree, zeros, nulls, repeated, nothing, joined, blank_cells}
use Rattle.qs_memory.specs.Accesses.{AreApart}
use Rattle.qs_memory.proofs.BlockLaws.{IsRange}
use Rattle.qs_memory.proofs.CellLaws.{Each}
use Rattle.qs_memory.proofs.SoundLaws.{each_append, each_times}
use Rattle.qs_isa.specs.declared.instruction.Instr.{Instr}
use Rattle.qs_isa.specs.declared.instruction.LoadKind.{LoadKind}
use Rattle.qs_isa.specs.declared.instruction.LoadKind.TheVariants.{Lw, Lbu}
use Rattle.qs_isa.specs.declared.instruction.StoreKind.{StoreKind}
use Rattle.qs_isa.specs.declared.instruction.StoreKind.TheVariants.{Sw, Sb}
use Rattle.qs_isa.specs.declared.instruction.OpKind.TheVariants.{Add}
use Rattle.qs_machine.specs.State.{register}
use Rattle.qs_machine.specs.Step.{stored}
use Rattle.qs_emit_selection.specs.Pieces as pieces
use Rattle.qs_emit_selection.specs.Pieces.{constant, loop_end, copy_loop, fill_loop, zero_bytes}
use Rattle.qs_emit_selection.specs.Emission.{unless_none, fill_code}
use Rattle.qs_emit.specs.Machine.{Watched}
use Rattle.qs_emit.specs.Lies.{Holds, HoldAll, Lies, IsOwn, SameOwn}
use Rattle.qs_emit.specs.Surroundings.{Lay}
use Rattle.qs_emit.specs.Relation.{Setup}
use Rattle.qs_emit.proofs.Injection.{value_here, stored_other}
use Rattle.qs_emit.proofs.Steps.{Does, Gets, does_is, does_then, does_none, op_does, store_does, MayRead, MayWrite, gets_on}
use Rattle.qs_emit.proofs.Slots.{constant_does, gets_is}
use Rattle.qs_emit.proofs.FrameLaws.{SameValues, values_none, values_on}
use Rattle.qs_emit.proofs.Values.{same_cell}
use Rattle.qs_emit.proofs.Operands.{argument_scratch, value_apart}
use Rattle.qs_emit.proofs.Loops.{IsAccess, words_are_accesses, bytes_are_accesses, turn_bytes, Filling, fill_loop_does, Copying, copy_loop_does}

-- ---- blanks

-- a byte 0 holds the cell
abbrev pub IsZero : Memory → (address_of : ℕ → ℕ) → Cell → Type 0
IsZero m address_of cell = (held : ℕ) → held ≡ 0 → Holds m address_of cell held

zero_part : (m : Memory) (address_of : ℕ → ℕ) (k : ℕ) → IsZero m address_of (part null k)
zero_part m address_of k held e = record { word = 0; stands = refl; is = e ∙ ap (λ (z : ℕ). z % 256) (sym (zero-div (256 ^ k))) }

pub zero_blank : (m : Memory) (address_of : ℕ → ℕ) (b : BlankTree) → Each (IsZero m address_of) (blank_cells b)
zero_blank m address_of (zeros n) = each_times (IsZero m address_of) n (byte 0 ∷ []) ((λ held e. (e, omega arith)), tt)
zero_blank m address_of (nulls n) = each_times (IsZero m address_of) n (parts_of null 0 4) (zero_part m address_of 0, (zero_part m address_of 1, (zero_part m address_of 2, (zero_part m address_of 3, tt))))
zero_blank m address_of (repeated n b) = each_times (IsZero m address_of) n (blank_cells b) (zero_blank m address_of b)
zero_blank m address_of nothing = tt
zero_blank m address_of (joined b d) = each_append (IsZero m address_of) (blank_cells b) (blank_cells d) (zero_blank m address_of b) (zero_blank m address_of d)

pub zeros_hold : (m : Memory) (address_of : ℕ → ℕ) (cells : List Cell) (flat : ℕ → ℕ) (from : ℕ) → Each (IsZero m address_of) cells → ((j : ℕ) → j < length cells → flat (from + j) ≡ 0) → HoldAll m address_of cells flat from
zeros_hold m address_of [] flat from each z = tt
zeros_hold m address_of (cell ∷ cells) flat from each z =
    let first : flat from ≡ 0 = ap flat (omega arith) ∙ z 0 (omega arith) in
    (each.0 (flat from) first, zeros_hold m address_of cells flat (from + 1) each.1 (λ j lt. ap flat (omega arith) ∙ z (suc j) (omega (arith, lt))))

-- ---- ranges of bytes

pub turns_of_bytes : (n : ℕ) → turn_bytes 1 n ≡ n
turns_of_bytes zero = refl
turns_of_bytes (suc n) = let k = turns_of_bytes n in omega (arith, k)

pub turns_of_words : (n : ℕ) → turn_bytes 4 n ≡ n * 4
turns_of_words zero = refl
turns_of_words (suc n) = let k = turns_of_words n in omega (arith, k)

-- ranges of live blocks that have no cell in common have no byte in common
pub ranges_apart : (m : Memory) (l : Lay) (flat : ℕ → ℕ) (size alignment : ℕ) (p q : Pointer) (t u : Target) → Lies m l.address_of l.owner flat → IsRange m p size alignment t → IsRange m q size alignment u → 0 < size
    → (into t.block t.offset ≡ into u.block u.offset) ⊎ AreApart (into t.block t.offset) size (into u.block u.offset) size
    → (l.address_of t.block + t.offset ≡ l.address_of u.block + u.offset) ⊎ ((l.address_of t.block + t.offset + size ≤ l.address_of u.block + u.offset) ⊎ (l.address_of u.block + u.offset + size ≤ l.address_of t.block + t.offset))
ranges_apart m l flat size alignment p q t u lies is other positive how = ⊎_elim in_one in_two (cases_eq t.block u.block)
  where
    place : Pointer → ℕ
    place null = 0
    place (into b o) = l.address_of b + o

    in_one : t.block ≡ u.block → (l.address_of t.block + t.offset ≡ l.address_of u.block + u.offset) ⊎ ((l.address_of t.block + t.offset + size ≤ l.address_of u.block + u.offset) ⊎ (l.address_of u.block + u.offset + size ≤ l.address_of t.block + t.offset))
    in_one e = by how
      where
        same : l.address_of t.block ≡ l.address_of u.block
        same = ap l.address_of e

        by : (into t.block t.offset ≡ into u.block u.offset) ⊎ AreApart (into t.block t.offset) size (into u.block u.offset) size → (l.address_of t.block + t.offset ≡ l.address_of u.block + u.offset) ⊎ ((l.address_of t.block + t.offset + size ≤ l.address_of u.block + u.offset) ⊎ (l.address_of u.block + u.offset + size ≤ l.address_of t.block + t.offset))
        by (inl k) = inl (ap place k)
        by (inr (inl differ)) = absurd (differ e)
        by (inr (inr (inl before))) = let a = same in inr (inl (omega (arith, before, a)))
        by (inr (inr (inr behind))) = let a = same in inr (inr (omega (arith, behind, a)))

    owned : (i j : ℕ) → i < size → j < size → l.address_of t.block + t.offset + i ≡ l.address_of u.block + u.offset + j → t.block ≡ u.block
    owned i j hi hj e =
        let fits = is.fits in
        let fits_too = other.fits in
        let a = lies.owned t.block (t.offset + i) is.live (omega (arith, fits, hi)) in
        let b = lies.owned u.block (u.offset + j) other.live (omega (arith, fits_too, hj)) in
        let same : l.address_of t.block + (t.offset + i) ≡ l.address_of u.block + (u.offset + j) = omega (arith, e) in
        same_cell t.block (t.offset + i) u.block (u.offset + j) (sym a ∙ ap l.owner same ∙ b)

    in_two : (t.block ≡ u.block → ⊥) → (l.address_of t.block + t.offset ≡ l.address_of u.block + u.offset) ⊎ ((l.address_of t.block + t.offset + size ≤ l.address_of u.block + u.offset) ⊎ (l.address_of u.block + u.offset + size ≤ l.address_of t.block + t.offset))
    in_two differ = inr (⊎_elim (λ lt. ⊎_elim (λ hi. absurd (differ (conflict lt hi))) (λ far. inr far) (cases_lt (l.address_of t.block + t.offset) (l.address_of u.block + u.offset + size))) (λ far. inl far) (cases_lt (l.address_of u.block + u.offset) (l.address_of t.block + t.offset + size)))
      where
        conflict : l.address_of u.block + u.offset < l.address_of t.block + t.offset + size → l.address_of t.block + t.offset < l.address_of u.block + u.offset + size → t.block ≡ u.block
        conflict lt hi = ⊎_elim
            (λ le. owned (l.address_of u.block + u.offset - (l.address_of t.block + t.offset)) 0 (omega (arith, lt, le)) positive (omega (arith, le)))
            (λ le. owned 0 (l.address_of t.block + t.offset - (l.address_of u.block + u.offset)) positive (omega (arith, hi, le)) (omega (arith, le)))
            (cases_lt (l.address_of t.block + t.offset) (l.address_of u.block + u.offset))

-- ---- bytes that become 0

module _ (s : Setup) (sp : ℕ) where
  -- so many bytes from where a5 points are 0, and a5 is behind them
  record IsCleared (m : Watched) (from size : ℕ) (m1 : Watched) : Type 0 where
    x2 : m1.now.registers 2 ≡ sp
    a5 : m1.now.registers 15 ≡ from + size
    saved : SameValues m.now.registers m1.now.registers
    inside : (j : ℕ) → j < size → m1.now.memory (from + j) ≡ 0
    outside : (at : ℕ) → IsOwn s.room sp at → (at < from) ⊎ (from + size ≤ at) → m1.now.memory at ≡ m.now.memory at

  abbrev MayFill : (to size width : ℕ) → Type 0
  MayFill to size width = (m : Watched) → m.now.registers 2 ≡ sp → (done : ℕ) → done + width ≤ size → MayWrite s m (to + done) width

  end_is : (size to : ℕ) → to + size ≤ 2 ^ 31 → (size + to) % 2 ^ 32 ≡ to + size
  end_is size to h = omega (arith, h)

  -- a7 is behind the range
  loop_end_does : (m : Watched) (to size : ℕ) → m.now.registers 15 ≡ to → to + size ≤ 2 ^ 31 → Does s m (loop_end size) (Gets s m 17 (to + size))
  loop_end_does m to size a5 low =
      let a7 = argument_scratch 17 (omega arith) (omega arith) in
      does_then s m (constant 17 size) (pieces.add 17 17 15 ∷ []) _ _ (constant_does s m 17 size a7.free (omega (arith, low))) (λ m1 x2 g.
      let left : register m1.now 17 ≡ size = g.got in
      let right : register m1.now 15 ≡ to = g.others 15 (λ e. absurd (omega (arith, e))) ∙ a5 in
      let at : words.add (register m1.now 17) (register m1.now 15) ≡ to + size = ap (λ (x : ℕ). words.add x (register m1.now 15)) left ∙ ap (λ (x : ℕ). words.add size x) right ∙ end_is size to low in
      does_is s m1 _ _ _ (op_does s m1 Add 17 17 15 a7.free) (λ m2 y2 k. gets_on s m m1 m2 17 _ _ x2 g (gets_is s m1 m2 17 _ _ at k)))

  fill_does : (m : Watched) (from_kind : LoadKind) (kind : StoreKind) (width to size turns : ℕ) → IsAccess from_kind kind width → m.now.registers 2 ≡ sp → m.now.registers 15 ≡ to → turn_bytes width (suc turns) ≡ size → to + size ≤ 2 ^ 31 → to % width ≡ 0 → ((j : ℕ) → j < size → IsOwn s.room sp (to + j)) → MayFill to size width → Does s m (fill_loop kind width size) (IsCleared m to size)
  fill_does m from_kind kind width to size turns is x2 a5 count low aligned own may =
      let a7 = argument_scratch 17 (omega arith) (omega arith) in
      does_then s m (loop_end size) _ _ _ (loop_end_does m to size a5 low) (λ m1 y2 g.
      let x : m1.now.registers 2 ≡ sp = y2 ∙ x2 in
      let saved : SameValues m.now.registers m1.now.registers = record { same = λ q b. g.others q (value_apart q 17 b refl) } in
      let none : to + 0 ≡ to = omega arith in
      let a5_one : m1.now.registers 15 ≡ to + 0 = g.others 15 (λ e. absurd (omega (arith, e))) ∙ a5 ∙ sym none in
      let start : Filling s sp to size width m1.now.memory m.now.registers (suc turns) m1 = record {
        done = 0;
        at = record { x2 = x; sum = omega (arith, count); a5 = a5_one; a7 = g.got; saved = saved; aligned = subst (λ (n : ℕ). n % width ≡ 0) (sym none) aligned };
        inside = λ j lt. absurd (omega (arith, lt));
        outside = λ at o out. refl;
      } in
      does_is s m1 _ _ _ (fill_loop_does s sp to size width m1.now.memory m.now.registers from_kind kind is low own may turns m1 start) (λ m2 z2 f.
      let sum = f.at.sum in
      let all : f.done ≡ size = omega (arith, sum) in
      let own_bytes : SameOwn s.room sp m.now.memory m1.now.memory = subst (λ (p : ℕ). SameOwn s.room p m.now.memory m1.now.memory) x2 g.bytes_same in
      record {
        x2 = f.at.x2;
        a5 = f.at.a5 ∙ ap (λ (n : ℕ). to + n) all;
        saved = f.at.saved;
        inside = λ j lt. f.inside j (omega (arith, lt, all));
        outside = λ at o out. f.outside at o (subst (λ (n : ℕ). (at < to) ⊎ (to + n ≤ at)) (sym all) out) ∙ own_bytes.same at o;
      }))

  cleared_none : (m : Watched) (to : ℕ) → m.now.registers 2 ≡ sp → m.now.registers 15 ≡ to → IsCleared m to 0 m
  cleared_none m to x2 a5 = record { x2 = x2; a5 = a5 ∙ omega arith; saved = values_none m.now.registers; inside = λ j lt. absurd (omega (arith, lt)); outside = λ at o out. refl }

  -- unless there are none
  cleared_unless : (m : Watched) (to count size : ℕ) (code : List Instr) → m.now.registers 2 ≡ sp → m.now.registers 15 ≡ to → (count ≡ 0 → size ≡ 0) → ((n : ℕ) → count ≡ suc n → Does s m code (IsCleared m to size)) → Does s m (unless_none count code) (IsCleared m to size)
  cleared_unless m to zero size code x2 a5 none some = does_none s m (IsCleared m to size) (subst (λ (n : ℕ). IsCleared m to n m) (sym (none refl)) (cleared_none m to x2 a5))
  cleared_unless m to (suc n) size code x2 a5 none some =
      let t : (suc n == 0) ≡ false = grind (arith, nat_tests) in
      subst (λ (b : Bool). Does s m (if b then [] else code) (IsCleared m to size)) (sym t) (some n refl)

  -- the bytes that are left, one store each
  record IsClearedFrom (m : Watched) (to offset count : ℕ) (m1 : Watched) : Type 0 where
    x2 : m1.now.registers 2 ≡ sp
    a5 : m1.now.registers 15 ≡ to
    saved : SameValues m.now.registers m1.now.registers
    inside : (j : ℕ) → offset ≤ j → j < offset + count → m1.now.memory (to + j) ≡ 0
    outside : (at : ℕ) → IsOwn s.room sp at → (at < to + offset) ⊎ (to + offset + count ≤ at) → m1.now.memory at ≡ m.now.memory at

  bytes_do : (m : Watched) (to size offset count : ℕ) → m.now.registers 2 ≡ sp → m.now.registers 15 ≡ to → offset + count ≤ size → to + size ≤ 2 ^ 31 → ((j : ℕ) → j < size → IsOwn s.room sp (to + j)) → MayFill to size 1 → Does s m (zero_bytes count offset) (IsClearedFrom m to offset count)
  bytes_do m to size offset zero x2 a5 fits low own may = does_none s m _ (record { x2 = x2; a5 = a5; saved = values_none m.now.registers; inside = λ j lo hi. absurd (omega (arith, lo, hi)); outside = λ at o out. refl })
  bytes_do m to size offset (suc count) x2 a5 fits low own may =
      let address : words.add (register m.now 15) offset ≡ to + offset = ap (λ (x : ℕ). words.add x offset) a5 ∙ omega (arith, low, fits) in
      let new = stored Sb m.now.memory (to + offset) 0 in
      does_then s m (pieces.store Sb 0 15 offset ∷ []) (zero_bytes count (offset + 1)) _ _ (store_does s m Sb 0 15 offset (to + offset) address (omega arith) (may m x2 offset (omega (arith, fits)))) (λ m1 y2 g.
      let x : m1.now.registers 2 ≡ sp = y2 ∙ x2 in
      let a5_one : m1.now.registers 15 ≡ to = g.registers 15 ∙ a5 in
      let bytes : SameOwn s.room sp new m1.now.memory = subst (λ (p : ℕ). SameOwn s.room p new m1.now.memory) x2 g.bytes_are in
      does_is s m1 _ _ _ (bytes_do m1 to size (offset + 1) count x a5_one (omega (arith, fits)) low own may) (λ m2 z2 k. record {
        x2 = k.x2;
        a5 = k.a5;
        saved = record { same = λ q b. k.saved.same q b ∙ g.registers q };
        inside = λ j lo hi. ⊎_elim
            (λ e. k.outside (to + j) (own j (omega (arith, hi, fits))) (inl (omega (arith, e))) ∙ bytes.same (to + j) (own j (omega (arith, hi, fits))) ∙ value_here m.now.memory (to + offset) (0 % 2 ^ 8) (to + j) (omega (arith, e)))
            (λ n. k.inside j (after j lo n) (omega (arith, hi)))
            (cases_eq j offset);
        outside = λ at o out. k.outside at o (wider at out) ∙ bytes.same at o ∙ stored_other Sb m.now.memory (to + offset) 0 at (beside at out);
      }))
    where
      after : (j : ℕ) → offset ≤ j → (j ≡ offset → ⊥) → offset + 1 ≤ j
      after j lo n = grind (arith, lo, n)

      wider : (at : ℕ) → (at < to + offset) ⊎ (to + offset + suc count ≤ at) → (at < to + (offset + 1)) ⊎ (to + (offset + 1) + count ≤ at)
      wider at (inl e) = inl (omega (arith, e))
      wider at (inr e) = inr (omega (arith, e))

      beside : (at : ℕ) → (at < to + offset) ⊎ (to + offset + suc count ≤ at) → (at < to + offset) ⊎ (to + offset + 1 ≤ at)
      beside at (inl e) = inl e
      beside at (inr e) = inr (omega (arith, e))

  -- what a fill leaves
  pub record IsFilled (m : Watched) (to size : ℕ) (m1 : Watched) : Type 0 where
    pub x2 : m1.now.registers 2 ≡ sp
    pub saved : SameValues m.now.registers m1.now.registers
    pub inside : (j : ℕ) → j < size → m1.now.memory (to + j) ≡ 0
    pub outside : (at : ℕ) → IsOwn s.room sp at → (at < to) ⊎ (to + size ≤ at) → m1.now.memory at ≡ m.now.memory at

  filled_on : (m m1 m2 : Watched) (to first count : ℕ) → ((j : ℕ) → j < first + count → IsOwn s.room sp (to + j)) → IsCleared m to first m1 → IsClearedFrom m1 (to + first) 0 count m2 → IsFilled m to (first + count) m2
  filled_on m m1 m2 to first count own h k = record {
    x2 = k.x2;
    saved = values_on m.now.registers m1.now.registers m2.now.registers h.saved k.saved;
    inside = λ j lt. ⊎_elim
        (λ lo. k.outside (to + j) (own j lt) (inl (omega (arith, lo))) ∙ h.inside j lo)
        (λ hi. let i = j - first in let e : to + first + i ≡ to + j = omega (arith, hi) in subst (λ (x : ℕ). m2.now.memory x ≡ 0) e (k.inside i (omega arith) (omega (arith, hi, lt))))
        (cases_lt j first);
    outside = λ at o out. k.outside at o (past at out) ∙ h.outside at o (less at out);
  }
    where
      past : (at : ℕ) → (at < to) ⊎ (to + (first + count) ≤ at) → (at < to + first + 0) ⊎ (to + first + 0 + count ≤ at)
      past at (inl e) = inl (omega (arith, e))
      past at (inr e) = inr (omega (arith, e))

      less : (at : ℕ) → (at < to) ⊎ (to + (first + count) ≤ at) → (at < to) ⊎ (to + first ≤ at)
      less at (inl e) = inl e
      less at (inr e) = inr (omega (arith, e))

  pub fill_code_does : (m : Watched) (aligned : Bool) (to size : ℕ) → (aligned ≡ true → to % 4 ≡ 0) → m.now.registers 2 ≡ sp → m.now.registers 15 ≡ to → to + size ≤ 2 ^ 31 → ((j : ℕ) → j < size → IsOwn s.room sp (to + j)) → MayFill to size 1 → MayFill to size 4 → Does s m (fill_code aligned size) (IsFilled m to size)
  fill_code_does m true to size al x2 a5 low own may_one may_four =
      let q = size / 4 in
      let whole : q * 4 + size % 4 ≡ size = omega arith in
      does_then s m (unless_none q (fill_loop Sw 4 (q * 4))) (zero_bytes (size % 4) 0) _ _
      (cleared_unless m to q (q * 4) (fill_loop Sw 4 (q * 4)) x2 a5 (λ e. omega (arith, e)) (λ n e.
      fill_does m Lw Sw 4 to (q * 4) n words_are_accesses x2 a5 (turns_of_words (suc n) ∙ ap (λ (k : ℕ). k * 4) (sym e)) (omega (arith, low)) (al refl) (λ j lt. own j (omega (arith, lt, whole))) (λ m1 y2 done fits. may_four m1 y2 done (omega (arith, fits, whole)))))
      (λ m1 y2 h. does_is s m1 _ _ _ (bytes_do m1 (to + q * 4) (size % 4) 0 (size % 4) h.x2 h.a5 (omega arith) (omega (arith, low, whole)) (λ j lt. let e : to + q * 4 + j ≡ to + (q * 4 + j) = omega arith in subst (λ (x : ℕ). IsOwn s.room sp x) (sym e) (own (q * 4 + j) (omega (arith, lt, whole))))
      (λ m2 z2 done fits. let e : to + q * 4 + done ≡ to + (q * 4 + done) = omega arith in subst (λ (x : ℕ). MayWrite s m2 x 1) (sym e) (may_one m2 z2 (q * 4 + done) (omega (arith, fits, whole)))))
      (λ m2 z2 k. subst (λ (n : ℕ). IsFilled m to n m2) whole (filled_on m m1 m2 to (q * 4) (size % 4) (λ j lt. own j (omega (arith, lt, whole))) h k)))
  fill_code_does m false to size al x2 a5 low own may_one may_four =
      does_is s m _ _ _ (cleared_unless m to size size (fill_loop Sb 1 size) x2 a5 (λ e. e) (λ n e.
      fill_does m Lbu Sb 1 to size n bytes_are_accesses x2 a5 (turns_of_bytes (suc n) ∙ sym e) low (omega arith) own may_one))
      (λ m1 y2 h. record { x2 = h.x2; saved = h.saved; inside = h.inside; outside = h.outside })

  -- ---- bytes that are copied

  pub record IsMoved (m : Watched) (to from size : ℕ) (m1 : Watched) : Type 0 where
    pub x2 : m1.now.registers 2 ≡ sp
    pub saved : SameValues m.now.registers m1.now.registers
    pub inside : (j : ℕ) → j < size → m1.now.memory (to + j) ≡ m.now.memory (from + j)
    pub outside : (at : ℕ) → IsOwn s.room sp at → (at < to) ⊎ (to + size ≤ at) → m1.now.memory at ≡ m.now.memory at

  abbrev MayFetch : (from size width : ℕ) → Type 0
  MayFetch from size width = (m : Watched) → m.now.registers 2 ≡ sp → (done : ℕ) → done + width ≤ size → MayRead s m (from + done) width

  pub copy_does : (m : Watched) (from_kind : LoadKind) (kind : StoreKind) (width to from size turns : ℕ) → IsAccess from_kind kind width → m.now.registers 2 ≡ sp → m.now.registers 15 ≡ to → m.now.registers 16 ≡ from → turn_bytes width (suc turns) ≡ size → to + size ≤ 2 ^ 31 → from + size ≤ 2 ^ 31 → to % width ≡ 0
      → ((j : ℕ) → j < size → IsOwn s.room sp (to + j)) → ((j : ℕ) → j < size → IsOwn s.room sp (from + j)) → MayFill to size width → MayFetch from size width
      → (to ≡ from) ⊎ ((to + size ≤ from) ⊎ (from + size ≤ to)) → ((done : ℕ) → (to + done) % width ≡ 0 → (from + done) % width ≡ 0) → Does s m (copy_loop from_kind kind width size) (IsMoved m to from size)
  copy_does m from_kind kind width to from size turns is x2 a5 a6 count low source_low aligned own source_own may may_read apart source_aligned =
      does_then s m (loop_end size) _ _ _ (loop_end_does m to size a5 low) (λ m1 y2 g.
      let x : m1.now.registers 2 ≡ sp = y2 ∙ x2 in
      let saved : SameValues m.now.registers m1.now.registers = record { same = λ q b. g.others q (value_apart q 17 b refl) } in
      let none : to + 0 ≡ to = omega arith in
      let a5_one : m1.now.registers 15 ≡ to + 0 = g.others 15 (λ e. absurd (omega (arith, e))) ∙ a5 ∙ sym none in
      let a6_one : m1.now.registers 16 ≡ from + 0 = g.others 16 (λ e. absurd (omega (arith, e))) ∙ a6 ∙ omega arith in
      let start : Copying s sp to size width m1.now.memory m.now.registers from_kind kind is low own may from source_low source_own may_read apart source_aligned (suc turns) m1 = record {
        done = 0;
        at = record { x2 = x; sum = omega (arith, count); a5 = a5_one; a7 = g.got; saved = saved; aligned = subst (λ (n : ℕ). n % width ≡ 0) (sym none) aligned };
        a6 = a6_one;
        inside = λ j lt. absurd (omega (arith, lt));
        outside = λ at o out. refl;
      } in
      does_is s m1 _ _ _ (copy_loop_does s sp to size width m1.now.memory m.now.registers from_kind kind is low own may from source_low source_own may_read apart source_aligned turns m1 start) (λ m2 z2 f.
      let sum = f.at.sum in
      let all : f.done ≡ size = omega (arith, sum) in
      let bytes : SameOwn s.room sp m.now.memory m1.now.memory = subst (λ (p : ℕ). SameOwn s.room p m.now.memory m1.now.memory) x2 g.bytes_same in
      record {
        x2 = f.at.x2;
        saved = f.at.saved;
        inside = λ j lt. f.inside j (omega (arith, lt, all)) ∙ bytes.same (from + j) (source_own j lt);
        outside = λ at o out. f.outside at o (subst (λ (n : ℕ). (at < to) ⊎ (to + n ≤ at)) (sym all) out) ∙ bytes.same at o;
      }))
