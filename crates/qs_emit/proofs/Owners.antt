-- Blocks whose ranges don't meet have owners of their bytes, and the other way round.
use Rattle.std.proofs.Common.{◌≡◌, ◌⊎◌, inl, inr, ℕ, zero, suc, ◌+◌, ◌-◌, ◌<◌, ◌≤◌, Bool, true, false, [], ◌∷◌, refl, sym, ap, ◌∙◌, subst, arith}
use Rattle.std.specs.Prelude.{◌&&◌, nat_lt, nat_le, if◌then◌else◌}
use Rattle.std.proofs.lemmas.Bool.Decides.{nat_tests}
use Rattle.qs_memory.specs.Memory.{Block, Memory, block_at}
use Rattle.qs_memory.specs.Soundness.{IsLive}
use Rattle.qs_emit.specs.Lies.{Owner, cell_of, owner_among}
use Rattle.qs_emit.specs.Laws.{BlocksApartHaveOwners, LyingBlocksDontMeet}

-- a byte of a block
found : (block : Block) (rest : Owner) (from number o : ℕ) → block.is_live ≡ true → o < block.size → (if block.is_live && nat_le from (from + o) && nat_lt (from + o) (from + block.size) then cell_of number (from + o - from) else rest) ≡ cell_of number o
found block rest from number o live lt =
    let t : nat_le from (from + o) ≡ true = grind (arith, nat_tests) in
    let u : nat_lt (from + o) (from + block.size) ≡ true = grind (arith, nat_tests, lt) in
    let e : from + o - from ≡ o = omega arith in
    rw (live, t, u, e) refl

-- a byte that lies outside of it
passed : (block : Block) (here rest : Owner) (from at : ℕ) → (block.is_live ≡ true → (from + block.size ≤ at) ⊎ (at < from)) → (if block.is_live && nat_le from at && nat_lt at (from + block.size) then here else rest) ≡ rest
passed block here rest from at h = by block.is_live refl
  where
    outside : (from + block.size ≤ at) ⊎ (at < from) → (nat_le from at && nat_lt at (from + block.size)) ≡ false
    outside (inl q) = grind (arith, nat_tests, q)
    outside (inr q) = grind (arith, nat_tests, q)

    by : (live : Bool) → block.is_live ≡ live → (if block.is_live && nat_le from at && nat_lt at (from + block.size) then here else rest) ≡ rest
    by false e = rw e refl
    by true e = rw e (ap (λ (t : Bool). if t then here else rest) (outside (h e)))

-- blocks with numbers from n on
owner_from : (m : Memory) (address_of : ℕ → ℕ) (n i o : ℕ) → ((i j : ℕ) → (i ≡ j → ⊥) → IsLive m i → IsLive m j → (address_of (n + i) + (block_at m i).size ≤ address_of (n + j)) ⊎ (address_of (n + j) + (block_at m j).size ≤ address_of (n + i))) → IsLive m i → o < (block_at m i).size → owner_among m address_of n (address_of (n + i) + o) ≡ cell_of (n + i) o
owner_from [] address_of n i o apart live lt = cc
owner_from (block ∷ m) address_of n zero o apart live lt =
    let z : n + 0 ≡ n = omega arith in
    subst (λ (b : ℕ). owner_among (block ∷ m) address_of n (address_of b + o) ≡ cell_of b o) (sym z) (found block (owner_among m address_of (n + 1) (address_of n + o)) (address_of n) n o live lt)
owner_from (block ∷ m) address_of n (suc i) o apart live lt =
    let at : (j : ℕ) → n + 1 + j ≡ n + suc j = λ j. omega arith in
    let z : n + 0 ≡ n = omega arith in
    let first = ap address_of z in
    let rest = owner_from m address_of (n + 1) i o (λ a b ne la lb. rw (at a, at b) (apart (suc a) (suc b) (λ e. ne (omega (arith, e))) la lb)) live lt in
    let far : block.is_live ≡ true → (address_of n + block.size ≤ address_of (n + suc i) + o) ⊎ (address_of (n + suc i) + o < address_of n) = λ l.
    elim (apart 0 (suc i) (omega arith) l live) [ inl q ↦ inl (omega (arith, first, q)) | inr q ↦ inr (omega (arith, first, q, lt)) ] in
    passed block (cell_of n (address_of (n + suc i) + o - address_of n)) (owner_among m address_of (n + 1) (address_of (n + suc i) + o)) (address_of n) (address_of (n + suc i) + o) far
    ∙ subst (λ (b : ℕ). owner_among m address_of (n + 1) (address_of b + o) ≡ cell_of b o) (at i) rest

pub blocks_apart_have_owners : BlocksApartHaveOwners
blocks_apart_have_owners m address_of h b o live lt =
    let z : (j : ℕ) → 0 + j ≡ j = λ j. omega arith in
    subst (λ (n : ℕ). owner_among m address_of 0 (address_of n + o) ≡ cell_of n o) (z b) (owner_from m address_of 0 b o (λ i j ne li lj. rw (z i, z j) (h.apart i j ne li lj)) live lt)

pub lying_blocks_dont_meet : LyingBlocksDontMeet
lying_blocks_dont_meet m address_of owner flat h block other offset place live_block live_other inside there same =
    let e : cell_of block offset ≡ cell_of other place = sym (h.owned block offset live_block inside) ∙ ap owner same ∙ h.owned other place live_other there in
    cc
