-- Cells are written: one law for stores, copies and fills.
use Rattle.std.proofs.Common.{◌≡◌, ◌⊎◌, inl, inr, ⊎_elim, ℕ, ◌+◌, ◌-◌, ◌==◌, ◌<◌, ◌≤◌, true, false, List, [], ◌∷◌, length, refl, sym, ap, ◌∙◌, subst, arith}
use Rattle.std.proofs.lemmas.Bool.{cases_eq, cases_lt}
use Rattle.std.proofs.lemmas.Bool.Decides.{nat_tests}
use Rattle.qs_memory.specs.Memory.{Cell, Block, Memory, block_at, Target, overlaid, with_cells}
use Rattle.qs_memory.specs.Soundness.{IsLive}
use Rattle.qs_memory.proofs.BlockLaws.{live_known, written, not_written, after_write, length-with_cells}
use Rattle.qs_memory.proofs.CellLaws.{overlaid-apart}
use Rattle.qs_tac.specs.Holders.{File}
use Rattle.qs_tac.specs.Values.{Activation}
use Rattle.qs_tac.specs.Steps.{Waiting}
use Rattle.qs_emit.specs.Lies.{Holds, HoldAll, cell_of, Lies, IsOwn}
use Rattle.qs_emit.specs.Lies.{frame as of_frame}
use Rattle.qs_emit.specs.Surroundings.{Lay, ground}
use Rattle.qs_emit.specs.Relation.{Setup, context, cost, caller_registers, IsRelated}
use Rattle.qs_emit.proofs.Injection.{Later, cell_kept}
use Rattle.qs_emit.proofs.FrameLaws.{Onward, kept_none, reach_onward, frame_onward, caller_same, stack_onward, cell_own, not_both}

overlaid_hold : (m : Memory) (address_of : ℕ → ℕ) (new : List Cell) (offset : ℕ) (old : ℕ → Cell) (flat : ℕ → ℕ) (from at : ℕ) → HoldAll m address_of new flat (from + offset) → offset ≤ at → at < offset + length new → Holds m address_of (overlaid new offset old at) (flat (from + at))
overlaid_hold m address_of [] offset old flat from at held le lt = absurd (omega (arith, le, lt))
overlaid_hold m address_of (cell ∷ new) offset old flat from at held le lt = ⊎_elim
    (λ (e : at ≡ offset). let t : (at == offset) ≡ true = grind (arith, nat_tests, e) in rw t (subst (λ (y : ℕ). Holds m address_of cell (flat (from + y))) (sym e) held.0))
    (λ n. let t : (at == offset) ≡ false = grind (arith, nat_tests, n) in
    let next : from + offset + 1 ≡ from + (offset + 1) = omega arith in
    let more : offset + 1 ≤ at = grind (arith, le, n) in
    rw t (overlaid_hold m address_of new (offset + 1) old flat from at (subst (λ (y : ℕ). HoldAll m address_of new flat y) next held.1) more (omega (arith, lt))))
    (cases_eq at offset)

module _ (m : Memory) (l : Lay) (flat later : ℕ → ℕ) (t : Target) (new : List Cell) (live : IsLive m t.block) (fits : t.offset + length new ≤ (block_at m t.block).size) where
  -- an address of one of the cells that are written
  abbrev pub IsWritten : ℕ → Type 0
  IsWritten at = (l.address_of t.block + t.offset ≤ at) × (at < l.address_of t.block + t.offset + length new)

  written_owner : Lies m l.address_of l.owner flat → (at : ℕ) → IsWritten at → l.owner at ≡ cell_of t.block (at - l.address_of t.block)
  written_owner lies at h =
      let lo = h.0 in let hi = h.1 in
      let place : l.address_of t.block + (at - l.address_of t.block) ≡ at = omega (arith, lo) in
      ap l.owner (sym place) ∙ lies.owned t.block (at - l.address_of t.block) live (omega (arith, lo, hi, fits))

  same_cell : (b i d j : ℕ) → cell_of b i ≡ cell_of d j → b ≡ d
  same_cell b i d j e = cc

  known : (b : ℕ) → IsLive (with_cells m t new) b → b < length m
  known b h = let k = live_known (with_cells m t new) b h in let n = length-with_cells m t new in omega (arith, k, n)

  lies_written :
      Lies m l.address_of l.owner flat
      → ((b i : ℕ) → IsLive m b → i < (block_at m b).size → (IsWritten (l.address_of b + i) → ⊥) → later (l.address_of b + i) ≡ flat (l.address_of b + i))
      → HoldAll m l.address_of new later (l.address_of t.block + t.offset) → Lies (with_cells m t new) l.address_of l.owner later
  lies_written lies same held =
      let after = after_write m t new live in
      record {
        owned = λ b i h lt. let k = known b h in let size = after.size b k in lies.owned b i (after.live b k h) (omega (arith, lt, size));
        holds = λ b i h lt. let k = known b h in let size = after.size b k in cell b i (after.live b k h) (omega (arith, lt, size));
        aligned = λ b h. lies.aligned b (after.live b (known b h) h);
      }
    where
      moved : Later m l.address_of (with_cells m t new) l.address_of
      moved = record { after = after_write m t new live; same = λ b h. refl }

      cell : (b i : ℕ) → IsLive m b → i < (block_at m b).size → Holds (with_cells m t new) l.address_of ((block_at (with_cells m t new) b).cells i) (later (l.address_of b + i))
      cell b i h lt = ⊎_elim (λ e. here e) (λ n. elsewhere n) (cases_eq b t.block)
        where
          old : (IsWritten (l.address_of b + i) → ⊥) → Holds (with_cells m t new) l.address_of ((block_at m b).cells i) (later (l.address_of b + i))
          old out = rw (same b i h lt out) (cell_kept m (with_cells m t new) l.address_of l.address_of ((block_at m b).cells i) (flat (l.address_of b + i)) moved (lies.holds b i h lt))

          elsewhere : (b ≡ t.block → ⊥) → Holds (with_cells m t new) l.address_of ((block_at (with_cells m t new) b).cells i) (later (l.address_of b + i))
          elsewhere n = rw (not_written m t new b n) (old (λ w. n (same_cell b i t.block _ (sym (lies.owned b i h lt) ∙ written_owner lies (l.address_of b + i) w))))

          here : b ≡ t.block → Holds (with_cells m t new) l.address_of ((block_at (with_cells m t new) b).cells i) (later (l.address_of b + i))
          here e = subst (λ (cells : ℕ → Cell). Holds (with_cells m t new) l.address_of (cells i) (later (l.address_of b + i))) (sym cells_are) either
            where
              cells_are : (block_at (with_cells m t new) b).cells ≡ overlaid new t.offset (block_at m b).cells
              cells_are =
                  ap (λ (k : ℕ). (block_at (with_cells m t new) k).cells) e ∙ ap (λ (k : Block). k.cells) (written m t new live)
                  ∙ ap (λ (k : ℕ). overlaid new t.offset (block_at m k).cells) (sym e)

              place : l.address_of b ≡ l.address_of t.block
              place = ap l.address_of e

              apart : (i < t.offset) ⊎ (t.offset + length new ≤ i) → Holds (with_cells m t new) l.address_of (overlaid new t.offset (block_at m b).cells i) (later (l.address_of b + i))
              apart o = rw (overlaid-apart new t.offset (block_at m b).cells i o) (old (out o))
                where
                  out : (i < t.offset) ⊎ (t.offset + length new ≤ i) → IsWritten (l.address_of b + i) → ⊥
                  out (inl q) w = let lo = w.0 in let p = place in absurd (omega (arith, q, lo, p))
                  out (inr q) w = let hi = w.1 in let p = place in absurd (omega (arith, q, hi, p))

              inside : t.offset ≤ i → i < t.offset + length new → Holds (with_cells m t new) l.address_of (overlaid new t.offset (block_at m b).cells i) (later (l.address_of b + i))
              inside ge hi = cell_kept m (with_cells m t new) l.address_of l.address_of (overlaid new t.offset (block_at m b).cells i) (later (l.address_of b + i)) moved
                  (overlaid_hold m l.address_of new t.offset (block_at m b).cells later (l.address_of b) i (subst (λ (k : ℕ). HoldAll m l.address_of new later (l.address_of k + t.offset)) (sym e) held) ge hi)

              either : Holds (with_cells m t new) l.address_of (overlaid new t.offset (block_at m b).cells i) (later (l.address_of b + i))
              either = ⊎_elim (λ lo. apart (inl lo)) (λ ge. ⊎_elim (λ hi. inside ge hi) (λ far. apart (inr far)) (cases_lt i (t.offset + length new))) (cases_lt i t.offset)

  -- the relation goes on where own bytes outside the cells that are written are the same
  pub related_written :
      (s : Setup) (a : Activation File) (stack : List (Waiting File)) (registers : ℕ → ℕ) (sp : ℕ) → IsRelated s a m stack l registers sp flat
      → ((at : ℕ) → IsOwn s.room sp at → (IsWritten at → ⊥) → later at ≡ flat at) → HoldAll m l.address_of new later (l.address_of t.block + t.offset)
      → IsRelated s a (with_cells m t new) stack l registers sp later
  related_written s a stack registers sp r same held =
      let f = a.function in
      let g = ground m l flat in
      let h = ground (with_cells m t new) l later in
      let after = after_write m t new live in
      let outside : (at : ℕ) → l.owner at ≡ of_frame → IsWritten at → ⊥ = λ at e w. not_both (l.owner at) t.block _ e (written_owner r.blocks.lies at w) in
      let o : Onward g h sp = record { after = record { after = after; same = λ b k. refl }; frames = λ at le e. e; same = λ at le e. same at (inl le) (outside at e) } in
      record {
        known = r.known;
        frame = frame_onward s g h f registers registers sp sp a.first_block a.held o (omega arith) (λ q e. refl) (λ q v e. refl) r.frame;
        in_room = r.in_room;
        above = stack_onward s g h stack (caller_registers (context s f) registers flat sp) (caller_registers (context s f) registers later sp) sp (sp + cost s f) o (omega arith) (caller_same s g h f registers registers sp sp o (omega arith) (kept_none (context s f) registers) r.frame.private) r.above;
        blocks = record {
          lies = lies_written r.blocks.lies (λ b i k lt out. same (l.address_of b + i) (cell_own s g sp b i r.blocks k lt) out) held;
          in_reach = λ b k. reach_onward s.image s.room g h sp sp b o (known b k) (r.blocks.in_reach b (after.live b (known b k) k));
          old = r.blocks.old;
          made = let made = r.blocks.made in let longer = after.longer in omega (arith, made, longer);
        };
        root = r.root;
      }
