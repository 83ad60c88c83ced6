-- Where live blocks lie: their addresses are words, and accesses to them keep the rules.
use Rattle.std.proofs.Common.{◌≡◌, inl, inr, ℕ, zero, suc, ◌+◌, ◌%◌, ◌^◌, ◌<◌, ◌≤◌, Bool, true, refl, arith}
use Rattle.qs_memory.specs.Values.{null, into, Value, integer, address}
use Rattle.qs_memory.specs.Memory.{Memory, block_at}
use Rattle.qs_memory.specs.Soundness.{IsLive}
use Rattle.qs_emit.specs.Machine.{Watched, base, each}
use Rattle.qs_emit.specs.Lies.{StandsFor, IsInReach}
use Rattle.qs_emit.specs.Surroundings.{Ground, HasBlocks}
use Rattle.qs_emit.specs.Relation.{Setup, around}
use Rattle.qs_emit.proofs.Injection.{HaveWords}
use Rattle.qs_emit.proofs.Steps.{MayRead, MayWrite}

pub each_is : (is_such : ℕ → Bool) (from width : ℕ) → ((at : ℕ) → from ≤ at → at < from + width → is_such at ≡ true) → each is_such from width ≡ true
each_is is_such from zero h = refl
each_is is_such from (suc width) h = rw (h from (omega arith) (omega arith)) (each_is is_such (from + 1) width (λ at l u. h at (omega (arith, l)) (omega (arith, u))))

module _ (s : Setup) (g : Ground) (sp : ℕ) (blocks : HasBlocks (around s) g sp) (above : base s.room ≤ sp) where
  -- no live block lies at 0, and each ends in the lower half of all addresses
  pub record LiesLow (block : ℕ) : Type 0 where
    pub positive : 0 < g.address_of block
    pub end : g.address_of block + (block_at g.memory block).size ≤ 2 ^ 31

  pub lies_low : (block : ℕ) → IsLive g.memory block → LiesLow block
  lies_low block live = by (blocks.in_reach block live)
    where
      by : IsInReach s.image s.room sp (block_at g.memory block) (g.address_of block) → LiesLow block
      by (inl h) =
          let a = h.above in let b = h.below in let top = s.ceiling in let size = s.stack_fits in
          record { positive = omega (arith, above, a, size); end = omega (arith, b, top) }
      by (inr h) =
          let a = h.above in let b = h.below in let size = s.data_limit in
          record { positive = omega (arith, a); end = omega (arith, b, size) }

  pub have_words : HaveWords g.memory g.address_of
  have_words block offset live le = let e = (lies_low block live).end in omega (arith, e, le)

  -- accesses inside a live block
  module _ (m : Watched) (x2 : m.now.registers 2 ≡ sp) (block offset size : ℕ) (live : IsLive g.memory block) (inside : offset + size ≤ (block_at g.memory block).size) where
    pub may_read_block : MayRead s m (g.address_of block + offset) size
    may_read_block = by (blocks.in_reach block live)
      where
        by : IsInReach s.image s.room sp (block_at g.memory block) (g.address_of block) → MayRead s m (g.address_of block + offset) size
        by (inl h) = let a = h.above in let b = h.below in let top = s.ceiling in inl (omega (arith, a, x2), (omega (arith, a, above), omega (arith, b, inside, top)))
        by (inr h) = let a = h.above in let b = h.below in inr (omega (arith, a), omega (arith, b, inside))

    pub may_write_block : (block_at g.memory block).is_writable ≡ true → MayWrite s m (g.address_of block + offset) size
    may_write_block writable = by (blocks.in_reach block live)
      where
        by : IsInReach s.image s.room sp (block_at g.memory block) (g.address_of block) → MayWrite s m (g.address_of block + offset) size
        by (inl h) = let a = h.above in let b = h.below in inl (omega (arith, a, x2), (omega (arith, a, above), omega (arith, b, inside)))
        by (inr h) =
            let a = h.above in let b = h.below in
            inr (omega (arith, a), (omega (arith, b, inside), each_is s.room.may_change (g.address_of block + offset) size (λ at l u. h.changed writable at (omega (arith, l)) (omega (arith, u, inside)))))

-- what stands for a value is its word, and the rest of a word modulo 2 ^ 32
pub stands_word : (m : Memory) (address_of : ℕ → ℕ) (v : Value) (word : ℕ) → HaveWords m address_of → StandsFor m address_of v word → StandsFor m address_of v (word % 2 ^ 32)
stands_word m address_of (integer n) word small h = let e = h.0 in let lt = h.1 in (omega (arith, e, lt), lt)
stands_word m address_of (address null) word small h = omega (arith, h)
stands_word m address_of (address (into block offset)) word small h = record {
  made = h.made;
  is = λ live. let e = h.is live in let lt = small block offset live (h.inside live) in omega (arith, e, lt);
  inside = h.inside;
}
