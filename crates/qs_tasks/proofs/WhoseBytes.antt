-- Whose bytes of the data are whose: isolated tasks meet in none that one of them may change.
use Rattle.std.proofs.Common.{◌≡◌, ⊎_elim, ℕ, zero, suc, ◌+◌, ◌≤◌, ◌<◌, Bool, true, false, [], ◌∷◌, length, sym, ap, ◌∙◌, subst, arith}
use Rattle.std.specs.Prelude.{◌&&◌, ◌||◌, nat_le, nat_lt}
use Rattle.std.proofs.lemmas.Bool.{and_parts, and_from, or_cases, or_left, or_right, cases_eq, cases_Bool}
use Rattle.std.proofs.lemmas.Bool.Decides.{nat_tests}
use Rattle.qs_memory.specs.Memory.{Block, Memory, block_at}
use Rattle.qs_memory.specs.Soundness.{IsLive}
use Rattle.qs_emit.specs.Lies.{AreApart}
use Rattle.qs_tasks.specs.Isolated.{IsPartOf, AreIsolated}

abbrev pub is_in : (address size at : ℕ) → Bool
is_in address size at = nat_le address at && nat_lt at (address + size)

-- the bytes of blocks that are chosen, those here having numbers from this one on
abbrev pub bytes_of : (address_of : ℕ → ℕ) → (chosen : Block → Bool) → (number : ℕ) → Memory → (at : ℕ) → Bool
bytes_of address_of chosen number [] at = false
bytes_of address_of chosen number (b ∷ m) at =
    (chosen b && is_in (address_of number) b.size at) || bytes_of address_of chosen (number + 1) m at

abbrev pub lives : Block → Bool
lives b = b.is_live

abbrev pub can_change : Block → Bool
can_change b = b.is_live && b.is_writable

module _ (address_of : ℕ → ℕ) (chosen : Block → Bool) where
  -- the block to which such a byte belongs
  pub record IsOf (number : ℕ) (m : Memory) (at : ℕ) : Type 0 where
    pub block : ℕ
    pub there : block < length m
    pub is_chosen : chosen (block_at m block) ≡ true
    pub from : address_of (number + block) ≤ at
    pub to : at < address_of (number + block) + (block_at m block).size

  pub owner_of : (number : ℕ) (m : Memory) (at : ℕ) → bytes_of address_of chosen number m at ≡ true → IsOf number m at
  owner_of number [] at e = cc
  owner_of number (b ∷ m) at e =
      ⊎_elim here (λ q. later (owner_of (number + 1) m at q))
      (or_cases (chosen b && is_in (address_of number) b.size at) (bytes_of address_of chosen (number + 1) m at) e)
    where
      here : (chosen b && is_in (address_of number) b.size at) ≡ true → IsOf number (b ∷ m) at
      here q =
          let p = and_parts (chosen b) (is_in (address_of number) b.size at) q in
          let i = and_parts (nat_le (address_of number) at) (nat_lt at (address_of number + b.size)) p.1 in
          let lo = i.0 in
          let hi = i.1 in
          let z : number ≡ number + 0 = omega arith in
          record {
            block = 0;
            there = omega arith;
            is_chosen = p.0;
            from = subst (λ (n : ℕ). address_of n ≤ at) z (grind (arith, nat_tests, lo));
            to = subst (λ (n : ℕ). at < address_of n + b.size) z (grind (arith, nat_tests, hi));
          }

      later : IsOf (number + 1) m at → IsOf number (b ∷ m) at
      later f =
          let z : number + 1 + f.block ≡ number + suc f.block = omega arith in
          let lt = f.there in
          record {
            block = suc f.block;
            there = omega (arith, lt);
            is_chosen = f.is_chosen;
            from = subst (λ (n : ℕ). address_of n ≤ at) z f.from;
            to = subst (λ (n : ℕ). at < address_of n + (block_at m f.block).size) z f.to;
          }

  -- and the bytes of a block that is chosen
  pub chosen_bytes : (number : ℕ) (m : Memory) (block at : ℕ) → block < length m → chosen (block_at m block) ≡ true → address_of (number + block) ≤ at → at < address_of (number + block) + (block_at m block).size → bytes_of address_of chosen number m at ≡ true
  chosen_bytes number [] block at lt e lo hi = absurd (omega (arith, lt))
  chosen_bytes number (b ∷ m) zero at lt e lo hi =
      let z : number + 0 ≡ number = omega arith in
      let there = ap address_of z in
      let low : nat_le (address_of number) at ≡ true = grind (arith, nat_tests, lo, there) in
      let high : nat_lt at (address_of number + b.size) ≡ true = grind (arith, nat_tests, hi, there) in
      or_left (chosen b && is_in (address_of number) b.size at) (bytes_of address_of chosen (number + 1) m at)
      (and_from (chosen b) (is_in (address_of number) b.size at) e (and_from (nat_le (address_of number) at) (nat_lt at (address_of number + b.size)) low high))
  chosen_bytes number (b ∷ m) (suc block) at lt e lo hi =
      let z : number + suc block ≡ number + 1 + block = omega arith in
      or_right (chosen b && is_in (address_of number) b.size at) (bytes_of address_of chosen (number + 1) m at)
      (chosen_bytes (number + 1) m block at (omega (arith, lt)) e (subst (λ (n : ℕ). address_of n ≤ at) z lo) (subst (λ (n : ℕ). at < address_of n + (block_at m block).size) z hi))

-- ---- a live block has a number

pub live_there : (m : Memory) (block : ℕ) → IsLive m block → block < length m
live_there [] block live = cc
live_there (b ∷ m) zero live = omega arith
live_there (b ∷ m) (suc block) live = let lt = live_there m block live in omega (arith, lt)

-- ---- parts of a memory

pub part_live : (whole part : Memory) → IsPartOf whole part → (block : ℕ) → IsLive part block → IsLive whole block
part_live whole part h block live = ap (λ (b : Block). b.is_live) (sym (h.blocks block live)) ∙ live

-- the bytes of a block of a part lie where the whole has them
module _ (address_of : ℕ → ℕ) (whole part : Memory) (h : IsPartOf whole part) (chosen : Block → Bool) (only_live : (b : Block) → chosen b ≡ true → b.is_live ≡ true) where
  pub record IsOfWhole (at : ℕ) : Type 0 where
    pub block : ℕ
    pub live_part : IsLive part block
    pub live : IsLive whole block
    pub is_chosen : chosen (block_at part block) ≡ true
    pub from : address_of block ≤ at
    pub to : at < address_of block + (block_at whole block).size

  pub owner_in_whole : (at : ℕ) → bytes_of address_of chosen 0 part at ≡ true → IsOfWhole at
  owner_in_whole at e =
      let o = owner_of address_of chosen 0 part at e in
      let z : 0 + o.block ≡ o.block = omega arith in
      let live = only_live (block_at part o.block) o.is_chosen in
      record {
        block = o.block;
        live_part = live;
        live = part_live whole part h o.block live;
        is_chosen = o.is_chosen;
        from = subst (λ (n : ℕ). address_of n ≤ at) z o.from;
        to = subst (λ (b : Block). at < address_of o.block + b.size) (h.blocks o.block live) (subst (λ (n : ℕ). at < address_of n + (block_at part o.block).size) z o.to);
      }

pub live_lives : (b : Block) → lives b ≡ true → b.is_live ≡ true
live_lives b e = e

pub live_can_change : (b : Block) → can_change b ≡ true → b.is_live ≡ true
live_can_change b e = (and_parts b.is_live b.is_writable e).0

-- ---- isolated tasks

module _ (address_of : ℕ → ℕ) (whole part other : Memory) (a : IsPartOf whole part) (b : IsPartOf whole other) (apart : AreApart whole address_of) (isolated : AreIsolated part other) where
  meet : (at : ℕ) → bytes_of address_of lives 0 part at ≡ true → bytes_of address_of can_change 0 other at ≡ true → ⊥
  meet at e q = ⊎_elim same different (cases_eq x.block y.block)
    where
      x : IsOfWhole address_of whole part a lives live_lives at
      x = owner_in_whole address_of whole part a lives live_lives at e

      y : IsOfWhole address_of whole other b can_change live_can_change at
      y = owner_in_whole address_of whole other b can_change live_can_change at q

      same : x.block ≡ y.block → ⊥
      same s =
          let there : IsLive other x.block = subst (λ (n : ℕ). IsLive other n) (sym s) y.live_part in
          let no = isolated.isolated x.block x.live_part there in
          let in_whole = ap (λ (c : Block). c.is_writable) (a.blocks x.block x.live_part) in
          let in_other = ap (λ (c : Block). c.is_writable) (b.blocks x.block there) in
          let yes : (block_at other x.block).is_writable ≡ true = subst (λ (n : ℕ). (block_at other n).is_writable ≡ true) (sym s) (and_parts (block_at other y.block).is_live (block_at other y.block).is_writable y.is_chosen).1 in
          let z : true ≡ false = sym yes ∙ in_other ∙ sym in_whole ∙ no in
          cc

      different : (x.block ≡ y.block → ⊥) → ⊥
      different ne =
          let lo_x = x.from in
          let hi_x = x.to in
          let lo_y = y.from in
          let hi_y = y.to in
          ⊎_elim (λ le. omega (arith, le, lo_x, hi_x, lo_y, hi_y)) (λ le. omega (arith, le, lo_x, hi_x, lo_y, hi_y)) (apart.apart x.block y.block ne x.live y.live)

  -- what the one has the other can't change
  pub kept_unchanged : (at : ℕ) → bytes_of address_of lives 0 part at ≡ true → bytes_of address_of can_change 0 other at ≡ false
  kept_unchanged at e = ⊎_elim (λ q. absurd (meet at e q)) (λ q. q) (cases_Bool (bytes_of address_of can_change 0 other at))
