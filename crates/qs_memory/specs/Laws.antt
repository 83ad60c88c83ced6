-- What is promised of memories and values, once for all widths.
use Rattle.std.specs.Prelude.{◌≡◌, ℕ, ◌+◌, ◌%◌, ◌<◌, ◌≤◌, ◌⊎◌, ◌↔◌, Bool, true, ℤ, List, length, slice_index_or, Some, None, IsSome}
use Rattle.qs_memory.specs.Partial.{◌>>=◌}
use Rattle.qs_memory.specs.Values.{Pointer, into, Value, width, has_type, convert}
use Rattle.qs_memory.specs.Memory.{Cell, Memory, block_at, new_block, target, cells_of, load, store, copy, fill}
use Rattle.qs_memory.specs.Memory.{BlankTree, blank_cells, make, release}
use Rattle.qs_memory.specs.Pointers.{moved, member_of, in_one_block, equal}
use Rattle.qs_memory.specs.Operations.{apply_unary, apply_binary, unary_type, binary_type}
use Rattle.qs_memory.specs.Soundness.{IsSoundPointer, IsSoundValue, IsSound, ComesAfter}
use Rattle.qs_memory.specs.Accesses.{MayRead, MayWrite, AreApart, HoldsValue, Writes, cells_behind, IsMoved, AreInOneBlock, AreComparable}
use Rattle.qs_memory.specs.declared.scalar.Scalar.{Scalar}
use Rattle.qs_memory.specs.declared.operation.UnaryOperation.{UnaryOperation}
use Rattle.qs_memory.specs.declared.operation.BinaryOperation.{BinaryOperation}

-- ---- loads and stores

-- a load gives what was stored
abbrev pub LoadAfterStore : Type 0
LoadAfterStore = (s : Scalar) (m after : Memory) (p : Pointer) (v : Value) → store s m p v ≡ Some after → load s after p ≡ Some v

-- a store elsewhere changes no load
abbrev pub LoadElsewhere : Type 0
LoadElsewhere =
    (s t : Scalar) (m after : Memory) (p q : Pointer) (v : Value) → AreApart p (width s) q (width t)
    → store s m p v ≡ Some after → load t after q ≡ load t m q

-- stores that are apart give the same in either order, and are defined in both or in none
abbrev pub StoresCommute : Type 0
StoresCommute =
    (s t : Scalar) (m : Memory) (p q : Pointer) (v w : Value) → AreApart p (width s) q (width t)
    → (store s m p v >>= λ first. store t first q w) ≡ (store t m q w >>= λ second. store s second p v)

-- ---- when a step is defined, and what it writes

pub record StepsAreDefined : Type 0 where
  pub load : (s : Scalar) (m : Memory) (p : Pointer) → IsSome (load s m p) ↔ (MayRead m p (width s) (width s) × HoldsValue s m p)
  pub store :
      (s : Scalar) (m : Memory) (p : Pointer) (v : Value)
      → IsSome (store s m p v) ↔ (MayWrite m p (width s) (width s) × (has_type s v ≡ true))
  pub copy :
      (size alignment : ℕ) (m : Memory) (to from : Pointer)
      → IsSome (copy size alignment m to from)
      ↔ (MayWrite m to size alignment × (MayRead m from size alignment × ((to ≡ from) ⊎ AreApart to size from size)))
  pub fill : (blank : BlankTree) (m : Memory) (p : Pointer) → IsSome (fill blank m p) ↔ MayWrite m p (length (blank_cells blank)) 1

-- each step writes the cells of its value, of its source or of its blank, and nothing else
pub record WritesAreExact : Type 0 where
  pub store :
      (s : Scalar) (m after : Memory) (p : Pointer) (v : Value) (new : List Cell)
      → store s m p v ≡ Some after → cells_of s v ≡ Some new → Writes m p new after
  pub copy :
      (size alignment : ℕ) (m after : Memory) (to from : Pointer)
      → copy size alignment m to from ≡ Some after → Writes m to (cells_behind m from size) after
  pub fill : (blank : BlankTree) (m after : Memory) (p : Pointer) → fill blank m p ≡ Some after → Writes m p (blank_cells blank) after

-- when a pointer is moved, ordered with another and compared for equality, and that equal ones are the same
pub record PointersAreDefined : Type 0 where
  pub moved : (m : Memory) (p q : Pointer) (bytes : ℤ) → (moved m p bytes ≡ Some q) ↔ IsMoved m p bytes q
  pub ordered :
      (m : Memory) (p q : Pointer) (test : ℕ → ℕ → Bool)
      → IsSome (in_one_block m p q (λ i j. Some (test i j))) ↔ AreInOneBlock m p q
  pub compared : (m : Memory) (p q : Pointer) → IsSome (equal m p q) ↔ AreComparable m p q
  pub same : (m : Memory) (p q : Pointer) (answer : Bool) → equal m p q ≡ Some answer → (answer ≡ true) ↔ (p ≡ q)

-- a load after a copy is the load from its source, or, as after a fill, what it was if it is apart
pub record LoadsAfterWrites : Type 0 where
  pub copied :
      (s : Scalar) (size alignment : ℕ) (m after : Memory) (b i c j k : ℕ)
      → copy size alignment m (into b i) (into c j) ≡ Some after
      → k + width s ≤ size → (i + k) % width s ≡ 0 → (j + k) % width s ≡ 0
      → load s after (into b (i + k)) ≡ load s m (into c (j + k))
  pub apart_from_copy :
      (s : Scalar) (size alignment : ℕ) (m after : Memory) (to from q : Pointer) → AreApart to size q (width s)
      → copy size alignment m to from ≡ Some after → load s after q ≡ load s m q
  pub apart_from_fill :
      (s : Scalar) (blank : BlankTree) (m after : Memory) (p q : Pointer) → AreApart p (length (blank_cells blank)) q (width s)
      → fill blank m p ≡ Some after → load s after q ≡ load s m q

-- ---- lifetimes

-- blocks that are made have numbers that no block had, begin live, writable and unset, and leave the others as they are
pub record AreFresh (sizes : List ℕ) (m : Memory) : Type 0 where
  pub count : length (make sizes m) ≡ length m + length sizes
  pub old : (b : ℕ) → b < length m → block_at (make sizes m) b ≡ block_at m b
  pub new : (i : ℕ) → i < length sizes → block_at (make sizes m) (length m + i) ≡ new_block (slice_index_or sizes i 0)

-- blocks from this number on are released, and those below are as they were
pub record AreReleased (first : ℕ) (m : Memory) : Type 0 where
  pub count : length (release first m) ≡ length m
  pub old : (b : ℕ) → b < first → block_at (release first m) b ≡ block_at m b
  pub dead : (b o : ℕ) → first ≤ b → target (release first m) (into b o) ≡ None

abbrev pub BlocksAreFresh : Type 0
BlocksAreFresh = (sizes : List ℕ) (m : Memory) → AreFresh sizes m

abbrev pub BlocksAreReleased : Type 0
BlocksAreReleased = (first : ℕ) (m : Memory) → AreReleased first m

-- ---- every step

-- each step gives a memory that comes after
pub record MemoryGoesOn : Type 0 where
  pub store : (s : Scalar) (m after : Memory) (p : Pointer) (v : Value) → store s m p v ≡ Some after → ComesAfter m after
  pub copy :
      (size alignment : ℕ) (m after : Memory) (to from : Pointer)
      → copy size alignment m to from ≡ Some after → ComesAfter m after
  pub fill : (blank : BlankTree) (m after : Memory) (p : Pointer) → fill blank m p ≡ Some after → ComesAfter m after
  pub make : (sizes : List ℕ) (m : Memory) → ComesAfter m (make sizes m)
  pub release : (first : ℕ) (m : Memory) → ComesAfter m (release first m)
  pub same : (m : Memory) → ComesAfter m m
  pub next : (m middle after : Memory) → ComesAfter m middle → ComesAfter middle after → ComesAfter m after

-- what is sound stays so in every memory that comes after, and each step gives a sound memory
pub record SoundnessIsKept : Type 0 where
  pub pointer : (m after : Memory) (p : Pointer) → ComesAfter m after → IsSoundPointer m p → IsSoundPointer after p
  pub value : (m after : Memory) (v : Value) → ComesAfter m after → IsSoundValue m v → IsSoundValue after v
  pub store :
      (s : Scalar) (m after : Memory) (p : Pointer) (v : Value)
      → IsSound m → IsSoundValue m v → store s m p v ≡ Some after → IsSound after
  pub copy :
      (size alignment : ℕ) (m after : Memory) (to from : Pointer)
      → IsSound m → copy size alignment m to from ≡ Some after → IsSound after
  pub fill : (blank : BlankTree) (m after : Memory) (p : Pointer) → IsSound m → fill blank m p ≡ Some after → IsSound after
  pub make : (sizes : List ℕ) (m : Memory) → IsSound m → IsSound (make sizes m)
  pub release : (first : ℕ) (m : Memory) → IsSound m → IsSound (release first m)

-- ---- values

-- values that come from sound ones are sound
pub record ValuesAreSound : Type 0 where
  pub loaded : (s : Scalar) (m : Memory) (p : Pointer) (v : Value) → IsSound m → load s m p ≡ Some v → IsSoundValue m v
  pub converted : (s : Scalar) (m : Memory) (v w : Value) → IsSoundValue m v → convert s v ≡ Some w → IsSoundValue m w
  pub member : (m : Memory) (p q : Pointer) (offset : ℕ) → member_of m p offset ≡ Some q → IsSoundPointer m q
  pub unary : (op : UnaryOperation) (m : Memory) (v w : Value) → IsSoundValue m v → apply_unary op m v ≡ Some w → IsSoundValue m w
  pub binary :
      (op : BinaryOperation) (m : Memory) (v w x : Value)
      → IsSoundValue m v → IsSoundValue m w → apply_binary op m v w ≡ Some x → IsSoundValue m x

-- and each is one of its type, so a `char` is below 256
pub record ValuesHaveTypes : Type 0 where
  pub loaded : (s : Scalar) (m : Memory) (p : Pointer) (v : Value) → IsSound m → load s m p ≡ Some v → has_type s v ≡ true
  pub converted : (s : Scalar) (m : Memory) (v w : Value) → IsSoundValue m v → convert s v ≡ Some w → has_type s w ≡ true
  pub unary :
      (op : UnaryOperation) (m : Memory) (v w : Value)
      → IsSoundValue m v → apply_unary op m v ≡ Some w → has_type (unary_type op) w ≡ true
  pub binary :
      (op : BinaryOperation) (m : Memory) (v w x : Value)
      → IsSoundValue m v → IsSoundValue m w → apply_binary op m v w ≡ Some x → has_type (binary_type op) x ≡ true
