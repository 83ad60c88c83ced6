-- Memories of which tasks touch parts that no other may change.
use Rattle.std.specs.Prelude.{◌≡◌, ℕ, length, false}
use Rattle.qs_memory.specs.Memory.{Memory, block_at}
use Rattle.qs_memory.specs.Soundness.{IsLive}

-- some of the blocks of a memory, each as it is there; the others are dead
pub record IsPartOf (whole part : Memory) : Type 0 where
  pub count : length part ≡ length whole
  pub blocks : (block : ℕ) → IsLive part block → block_at part block ≡ block_at whole block

-- the blocks that live in both can't be written
pub record AreIsolated (part other : Memory) : Type 0 where
  pub isolated : (block : ℕ) → IsLive part block → IsLive other block → (block_at part block).is_writable ≡ false
