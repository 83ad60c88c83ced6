-- What a run of a function finds: an image, a stack, where it returns to, and the blocks of the memory to start from.
use Rattle.std.specs.Prelude.{◌≡◌, ℕ, ◌<◌, ◌≤◌, length}
use Rattle.qs_memory.specs.Memory.{Memory, block_at}
use Rattle.qs_memory.specs.Soundness.{IsLive}
use Rattle.qs_events.specs.Weights.{Costs}
use Rattle.qs_image.specs.Image.{Image}
use Rattle.qs_emit.specs.Machine.{Room}
use Rattle.qs_emit.specs.Lies.{Owner, Lies, IsInReach}

pub record Surroundings : Type 0 where
  pub image : Image
  pub room : Room
  -- the bytes that a call of each function takes of the stack
  pub costs : Costs
  -- where the function returns to, and the registers that it gives back
  pub return_to : ℕ
  pub root_registers : ℕ → ℕ
  -- how many blocks the memory to start from has, and where they lie
  pub first : ℕ
  pub addresses : (block : ℕ) → ℕ

-- ---- block memory in the machine's

-- block memory, where it lies, and the machine's bytes
pub record Ground : Type 0 where
  pub memory : Memory
  pub address_of : ℕ → ℕ
  pub owner : ℕ → Owner
  pub flat : ℕ → ℕ

-- addresses and owners
pub record Lay : Type 0 where
  pub address_of : ℕ → ℕ
  pub owner : ℕ → Owner

abbrev pub ground : Memory → Lay → (flat : ℕ → ℕ) → Ground
ground m l flat = record { memory = m; address_of = l.address_of; owner = l.owner; flat = flat }

-- live blocks lie in the stack from x2 on, or in the data; those of the memory to start from lie where they lay
pub record HasBlocks (t : Surroundings) (g : Ground) (sp : ℕ) : Type 0 where
  pub lies : Lies g.memory g.address_of g.owner g.flat
  pub in_reach :
      (block : ℕ) → IsLive g.memory block
      → IsInReach t.image t.room sp (block_at g.memory block) (g.address_of block)
  pub old : (block : ℕ) → block < t.first → g.address_of block ≡ t.addresses block
  pub made : t.first ≤ length g.memory
