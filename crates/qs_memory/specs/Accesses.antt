-- When an access may be made and what a write leaves, told block by block and cell by cell: the laws of steps are stated in these words.
use Rattle.std.specs.Prelude.{◌≡◌, ◌≢◌, ◌⊎◌, ℕ, ◌+◌, ◌*◌, ◌<◌, ◌≤◌, true, ℤ, pos, ◌+ℤ◌, List, [], length, slice_index_or}
use Rattle.qs_memory.specs.Values.{Pointer, null, into}
use Rattle.qs_memory.specs.Memory.{Cell, unset, byte, part, Memory, block_at, cells_from}
use Rattle.qs_memory.specs.Soundness.{IsLive}
use Rattle.qs_memory.specs.declared.scalar.Scalar.{Scalar}
use Rattle.qs_memory.specs.declared.scalar.Scalar.TheVariants as scalars

-- ---- where an access may be made

-- so many bytes of a live block, all inside it, at a multiple of the alignment
pub record IsAccess (m : Memory) (block offset size alignment : ℕ) : Type 0 where
  pub live : IsLive m block
  pub inside : offset + size ≤ (block_at m block).size
  pub multiple : ℕ
  pub aligned : offset ≡ multiple * alignment

abbrev pub MayRead : Memory → Pointer → (size alignment : ℕ) → Type 0
MayRead m null size alignment = ⊥
MayRead m (into block offset) size alignment = IsAccess m block offset size alignment

-- a string literal may be read and not written
abbrev pub IsWritable : Memory → Pointer → Type 0
IsWritable m null = ⊥
IsWritable m (into block offset) = (block_at m block).is_writable ≡ true

abbrev pub MayWrite : Memory → Pointer → (size alignment : ℕ) → Type 0
MayWrite m p size alignment = MayRead m p size alignment × IsWritable m p

-- accesses of so many bytes that have no byte in common
abbrev pub AreApart : (p : Pointer) (size : ℕ) (q : Pointer) (other : ℕ) → Type 0
AreApart null size q other = Unit {0}
AreApart (into b i) size null other = Unit {0}
AreApart (into b i) size (into c j) other = (b ≢ c) ⊎ (i + size ≤ j) ⊎ (j + other ≤ i)

-- ---- what a load needs

abbrev pub IsByte : Cell → Type 0
IsByte unset = ⊥
IsByte (byte b) = Unit {0}
IsByte (part p k) = ⊥

pub record AreBytes (cells : ℕ → Cell) (offset size : ℕ) : Type 0 where
  pub bytes : (i : ℕ) → i < size → IsByte (cells (offset + i))

-- parts 0 to 3 of one pointer, in order
pub record AreParts (cells : ℕ → Cell) (offset : ℕ) : Type 0 where
  pub pointer : Pointer
  pub parts : (i : ℕ) → i < 4 → cells (offset + i) ≡ part pointer i

-- the cells at an offset are those of a value of this type
abbrev pub HasValue : Scalar → (ℕ → Cell) → (offset : ℕ) → Type 0
HasValue scalars.Char cells offset = AreBytes cells offset 1
HasValue scalars.Int cells offset = AreBytes cells offset 4
HasValue scalars.Unsigned cells offset = AreBytes cells offset 4
HasValue scalars.Pointer cells offset = AreParts cells offset

abbrev pub HoldsValue : Scalar → Memory → Pointer → Type 0
HoldsValue s m null = ⊥
HoldsValue s m (into block offset) = HasValue s (block_at m block).cells offset

-- ---- what a write leaves

-- these cells stand at the offset of the block; its other cells, its marks, and all other blocks are as they were
pub record AreWritten (m : Memory) (block offset : ℕ) (new : List Cell) (after : Memory) : Type 0 where
  pub inside : (i : ℕ) → i < length new → (block_at after block).cells (offset + i) ≡ slice_index_or new i unset
  pub outside : (at : ℕ) → (at < offset) ⊎ (offset + length new ≤ at) → (block_at after block).cells at ≡ (block_at m block).cells at
  pub size : (block_at after block).size ≡ (block_at m block).size
  pub is_live : (block_at after block).is_live ≡ (block_at m block).is_live
  pub is_writable : (block_at after block).is_writable ≡ (block_at m block).is_writable
  pub others : (other : ℕ) → other ≢ block → block_at after other ≡ block_at m other
  pub count : length after ≡ length m

abbrev pub Writes : Memory → Pointer → List Cell → (after : Memory) → Type 0
Writes m null new after = ⊥
Writes m (into block offset) new after = AreWritten m block offset new after

-- so many cells from a pointer on
abbrev pub cells_behind : Memory → Pointer → (size : ℕ) → List Cell
cells_behind m null size = []
cells_behind m (into block offset) size = cells_from (block_at m block).cells offset size

-- ---- what operations on pointers need

-- a pointer into a live block, moved by so many bytes to another one into it or just past its end
pub record IsMoved (m : Memory) (p : Pointer) (bytes : ℤ) (q : Pointer) : Type 0 where
  pub block : ℕ
  pub old : ℕ
  pub new : ℕ
  pub begins : p ≡ into block old
  pub gives : q ≡ into block new
  pub live : IsLive m block
  pub inside : new ≤ (block_at m block).size
  pub distance : pos old +ℤ bytes ≡ pos new

-- both are into one live block
pub record AreInOneBlock (m : Memory) (p q : Pointer) : Type 0 where
  pub block : ℕ
  pub left : ℕ
  pub right : ℕ
  pub first : p ≡ into block left
  pub second : q ≡ into block right
  pub live : IsLive m block

-- each is null or into a live block, and two blocks are met strictly inside both
abbrev pub AreComparable : Memory → Pointer → Pointer → Type 0
AreComparable m null null = Unit {0}
AreComparable m null (into c j) = IsLive m c
AreComparable m (into b i) null = IsLive m b
AreComparable m (into b i) (into c j) =
    IsLive m b × (IsLive m c × ((b ≡ c) ⊎ ((i < (block_at m b).size) × (j < (block_at m c).size))))
