-- Rows of numbers, and what an instruction names.
use Rattle.std.specs.Prelude.{◌≡◌, ℕ, ◌+◌, ◌<◌, ◌≤◌, ◌⊎◌, max, List, length, Some, Vec, option_to_list, slice_index_or, Contains}
use Rattle.std.specs.List.{slice_get}
use Rattle.std.specs.declared.alloc.Global.{Global}
use Rattle.qs_tac.specs.TreeOf.{instruction_tree}
use Rattle.qs_tac.specs.Uses.{reads, writes}
use Rattle.qs_tac.specs.Liveness.{nexts, after}
use Rattle.qs_tac.specs.Places.{lists}
use Rattle.qs_tac.specs.declared.instruction.Instruction.{Instruction}
use Rattle.qs_alloc.specs.declared.rows.Side.{Side}
use Rattle.qs_alloc.specs.declared.rows.Side.TheVariants.{Next, Read, Written}

abbrev pub Rows : Type 0
Rows = List (Vec ℕ Global)

abbrev pub row : Rows → ℕ → List ℕ
row rows k = after (lists rows) k

pub record ListsBelow (n : ℕ) (list : List ℕ) : Type 0 where
  pub below : (k : ℕ) → k < length list → slice_index_or list k 0 < n

-- ---- what is named

abbrev pub keys_of : Side → (index : ℕ) → Instruction → List ℕ
keys_of Next p i = nexts (instruction_tree i) p
keys_of Read p i = reads (instruction_tree i)
keys_of Written p i = option_to_list (writes (instruction_tree i))

-- the instruction at p names k
pub record Names (side : Side) (code : List Instruction) (k p : ℕ) : Type 0 where
  pub instruction : Instruction
  pub here : slice_get code p ≡ Some instruction
  pub key : Contains (keys_of side p instruction) k

-- ---- rows that grow

pub record Grown (count : ℕ) (before now : Rows) : Type 0 where
  pub size : length now ≡ max (length before) count
  pub rows : (k : ℕ) → row now k ≡ row before k

-- row k has v too
pub record Noted (k v : ℕ) (before now : Rows) : Type 0 where
  pub size : length now ≡ max (length before) (k + 1)
  pub there : Contains (row now k) v
  pub keeps : (j w : ℕ) → Contains (row before j) w → Contains (row now j) w
  pub from : (j w : ℕ) → Contains (row now j) w → Contains (row before j) w ⊎ ((j ≡ k) × (w ≡ v))

-- the rows of these have v too
pub record NotedAll (keys : List ℕ) (v : ℕ) (before now : Rows) : Type 0 where
  pub longer : length before ≤ length now
  pub there : (k : ℕ) → Contains keys k → Contains (row now k) v
  pub keeps : (j w : ℕ) → Contains (row before j) w → Contains (row now j) w
  pub from : (j w : ℕ) → Contains (row now j) w → Contains (row before j) w ⊎ (Contains keys j × (w ≡ v))

-- row k lists the instructions that name k
pub record RowsOf (side : Side) (code : List Instruction) (count : ℕ) (rows : Rows) : Type 0 where
  pub enough : count ≤ length rows
  pub names : (k p : ℕ) → Contains (row rows k) p → Names side code k p
  pub named : (k p : ℕ) → Names side code k p → Contains (row rows k) p

pub record RowsBelow (count : ℕ) (rows : Rows) : Type 0 where
  pub below : (k p : ℕ) → Contains (row rows k) p → p < count
