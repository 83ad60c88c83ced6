-- How block memory lies in the machine's: where each block lies, to whom each byte belongs, and what bytes stand for.
use Rattle.std.specs.Prelude.{◌≡◌, ◌⊎◌, ℕ, zero, suc, ◌+◌, ◌-◌, ◌*◌, ◌/◌, ◌%◌, ◌^◌, ◌<◌, ◌≤◌, ◌&&◌, nat_le, nat_lt, true}
use Rattle.std.specs.Prelude.{if◌then◌else◌, List, [], ◌∷◌, length}
use Rattle.qs_memory.specs.Values.{Pointer, null, into, Value, integer, address}
use Rattle.qs_memory.specs.Memory.{Cell, unset, byte, part, Block, Memory, block_at}
use Rattle.qs_memory.specs.Soundness.{IsLive}
use Rattle.qs_isa.specs.Addresses.{data_start}
use Rattle.qs_image.specs.Image.{Image}
use Rattle.qs_emit.specs.Machine.{Room}

-- ---- bytes

-- the number that so many bytes from an address on are, the lowest first
unfoldable pub number_at : (width : ℕ) → (flat : ℕ → ℕ) → (from : ℕ) → ℕ
number_at zero flat from = 0
number_at (suc width) flat from = flat from + 256 * number_at width flat (from + 1)

-- each is a byte
abbrev pub AreBytes : (flat : ℕ → ℕ) → Type 0
AreBytes flat = (at : ℕ) → flat at < 2 ^ 8

-- ---- values, and what stands for them

-- an address stands for a pointer into a block; where the block was released, any word does
pub record Points (m : Memory) (address_of : ℕ → ℕ) (block offset word : ℕ) : Type 0 where
  pub made : block < length m
  pub is : IsLive m block → word ≡ address_of block + offset
  pub inside : IsLive m block → offset ≤ (block_at m block).size

abbrev pub StandsForPointer : Memory → (address_of : ℕ → ℕ) → Pointer → (word : ℕ) → Type 0
StandsForPointer m address_of null word = word ≡ 0
StandsForPointer m address_of (into block offset) word = Points m address_of block offset word

abbrev pub StandsFor : Memory → (address_of : ℕ → ℕ) → Value → (word : ℕ) → Type 0
StandsFor m address_of (integer n) word = (word ≡ n) × (n < 2 ^ 32)
StandsFor m address_of (address p) word = StandsForPointer m address_of p word

-- ---- cells, and the bytes that hold them

-- one of the four bytes of a word that stands for a pointer
pub record IsPart (m : Memory) (address_of : ℕ → ℕ) (p : Pointer) (number held : ℕ) : Type 0 where
  pub word : ℕ
  pub stands : StandsForPointer m address_of p word
  pub is : held ≡ word / 256 ^ number % 256

abbrev pub Holds : Memory → (address_of : ℕ → ℕ) → Cell → (held : ℕ) → Type 0
Holds m address_of unset held = Unit {0}
Holds m address_of (byte b) held = (held ≡ b) × (b < 256)
Holds m address_of (part p k) held = IsPart m address_of p k held

-- bytes from an address on hold cells in order
abbrev pub HoldAll : Memory → (address_of : ℕ → ℕ) → List Cell → (flat : ℕ → ℕ) → (from : ℕ) → Type 0
HoldAll m address_of [] flat from = Unit {0}
HoldAll m address_of (cell ∷ cells) flat from =
    Holds m address_of cell (flat from) × HoldAll m address_of cells flat (from + 1)

-- ---- blocks

-- to whom a byte belongs: to nobody, to the frame of a call (an argument that it passes, a slot, a saved register, the
-- return address), or to a cell of a live block
pub data Owner : Type 0 where
  nobody : Owner
  frame : Owner
  cell_of : (block offset : ℕ) → Owner

-- live blocks lie at multiples of 4, no byte belongs to two of them, and their bytes hold their cells
pub record Lies (m : Memory) (address_of : ℕ → ℕ) (owner : ℕ → Owner) (flat : ℕ → ℕ) : Type 0 where
  pub owned :
      (block offset : ℕ) → IsLive m block → offset < (block_at m block).size
      → owner (address_of block + offset) ≡ cell_of block offset
  pub holds :
      (block offset : ℕ) → IsLive m block → offset < (block_at m block).size
      → Holds m address_of ((block_at m block).cells offset) (flat (address_of block + offset))
  pub aligned : (block : ℕ) → IsLive m block → address_of block % 4 ≡ 0

-- live blocks lie in ranges that don't meet
pub record AreApart (m : Memory) (address_of : ℕ → ℕ) : Type 0 where
  pub apart :
      (block other : ℕ) → (block ≡ other → ⊥) → IsLive m block → IsLive m other
      → (address_of block + (block_at m block).size ≤ address_of other)
      ⊎ (address_of other + (block_at m other).size ≤ address_of block)

-- to which of the blocks a byte belongs that have numbers from this one on
abbrev pub owner_among : Memory → (address_of : ℕ → ℕ) → (number at : ℕ) → Owner
owner_among [] address_of number at = nobody
owner_among (block ∷ blocks) address_of number at =
    if block.is_live && nat_le (address_of number) at && nat_lt at (address_of number + block.size)
    then cell_of number (at - address_of number)
    else owner_among blocks address_of (number + 1) at

-- a block in the image's data: nobody else changes its bytes, and they may be written where the block may
pub record IsInData (image : Image) (r : Room) (block : Block) (from : ℕ) : Type 0 where
  pub above : data_start ≤ from
  pub below : from + block.size ≤ data_start + length image.bytes
  pub kept : (at : ℕ) → from ≤ at → at < from + block.size → r.is_kept at ≡ true
  pub changed : block.is_writable ≡ true → (at : ℕ) → from ≤ at → at < from + block.size → r.may_change at ≡ true

-- a block in the stack from x2 on
pub record IsInStack (r : Room) (sp : ℕ) (block : Block) (from : ℕ) : Type 0 where
  pub above : sp ≤ from
  pub below : from + block.size ≤ r.ceiling

abbrev pub IsInReach : Image → Room → (sp : ℕ) → Block → (from : ℕ) → Type 0
IsInReach image r sp block from = IsInStack r sp block from ⊎ IsInData image r block from

-- ---- bytes that others leave alone

abbrev pub IsOwn : Room → (sp at : ℕ) → Type 0
IsOwn r sp at = (sp ≤ at) ⊎ (r.is_kept at ≡ true)

pub record SameOwn (r : Room) (sp : ℕ) (flat later : ℕ → ℕ) : Type 0 where
  pub same : (at : ℕ) → IsOwn r sp at → later at ≡ flat at
