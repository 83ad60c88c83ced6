-- Where a temporary is needed.
use Rattle.std.specs.Prelude.{◌≡◌, ℕ, ◌+◌, ◌<◌, ◌≤◌, ◌⊎◌, ◌==◌, Bool, true, false, List, [], ◌∷◌, length, map, Some, slice_index_or, Contains}
use Rattle.std.specs.List.{slice_get}
use Rattle.qs_tac.specs.TreeOf.{instruction_tree}
use Rattle.qs_tac.specs.Uses.{writes}
use Rattle.qs_tac.specs.Liveness.{after, IsClosed}
use Rattle.qs_tac.specs.declared.instruction.Instruction.{Instruction}
use Rattle.qs_alloc.specs.declared.rows.Side.{Side}
use Rattle.qs_alloc.specs.declared.rows.Side.TheVariants.{Next, Read}
use Rattle.qs_alloc.specs.Rows.{Rows, row, Names}

-- each closed certificate lists t after p
pub record MustNeed (code : List Instruction) (p t : ℕ) : Type 0 where
  pub must : (other : List (List ℕ)) → IsClosed (map instruction_tree code) other → Contains (after other p) t

-- stamps: an instruction with the stamp of t is in the list of t
pub record AllBelowStamp (stamp : ℕ) (seen : List ℕ) : Type 0 where
  pub below : (p : ℕ) → p < length seen → slice_index_or seen p 0 < stamp

abbrev pub one_unless : Bool → ℕ
one_unless true = 0
one_unless false = 1

abbrev pub unseen : ℕ → List ℕ → ℕ
unseen stamp [] = 0
unseen stamp (x ∷ seen) = one_unless (x == stamp) + unseen stamp seen

pub record Sees (stamp : ℕ) (seen live : List ℕ) : Type 0 where
  pub most : (p : ℕ) → p < length seen → slice_index_or seen p 0 ≤ stamp
  pub there : (p : ℕ) → p < length seen → slice_index_or seen p 0 ≡ stamp → Contains live p
  pub below : (p : ℕ) → Contains live p → p < length seen
  pub count : unseen stamp seen + length live ≡ length seen

-- the list goes on with those of these that weren't there
pub record Reached (stamp : ℕ) (these seen seen_now live live_now : List ℕ) : Type 0 where
  pub sees : Sees stamp seen_now live_now
  pub size : length seen_now ≡ length seen
  pub longer : length live ≤ length live_now
  pub kept : (k : ℕ) → k < length live → slice_index_or live_now k 0 ≡ slice_index_or live k 0
  pub still : (p : ℕ) → Contains live p → Contains live_now p
  pub all : (p : ℕ) → Contains these p → Contains live_now p
  pub from : (p : ℕ) → Contains live_now p → Contains live p ⊎ Contains these p

-- the list of the instructions that name k
pub record Lists (side : Side) (code : List Instruction) (k : ℕ) (list : List ℕ) : Type 0 where
  pub names : (p : ℕ) → Contains list p → Names side code k p
  pub named : (p : ℕ) → Names side code k p → Contains list p

-- what leads to q is listed
pub record Leads (code : List Instruction) (live : List ℕ) (q : ℕ) : Type 0 where
  pub each : (p : ℕ) → Names Next code q p → Contains live p

-- where q doesn't write t, what leads to it is listed
pub record Passes (code : List Instruction) (t : ℕ) (live : List ℕ) (q : ℕ) : Type 0 where
  pub on : (j : Instruction) → slice_get code q ≡ Some j → ¬ (writes (instruction_tree j) ≡ Some t) → Leads code live q

-- what leads to q is listed too
pub record ReachedBefore (code : List Instruction) (q stamp : ℕ) (seen_now live live_now : List ℕ) : Type 0 where
  pub sees : Sees stamp seen_now live_now
  pub size : length seen_now ≡ length code
  pub longer : length live ≤ length live_now
  pub kept : (k : ℕ) → k < length live → slice_index_or live_now k 0 ≡ slice_index_or live k 0
  pub still : (p : ℕ) → Contains live p → Contains live_now p
  pub leads : Leads code live_now q
  pub from : (p : ℕ) → Contains live_now p → Contains live p ⊎ Names Next code q p

-- p leads to q, which doesn't write t
pub record FlowsBack (code : List Instruction) (t q p : ℕ) : Type 0 where
  pub instruction : Instruction
  pub here : slice_get code q ≡ Some instruction
  pub other : ¬ (writes (instruction_tree instruction) ≡ Some t)
  pub leads : Names Next code q p

pub record Passed (code : List Instruction) (t q stamp : ℕ) (seen_now live live_now : List ℕ) : Type 0 where
  pub sees : Sees stamp seen_now live_now
  pub size : length seen_now ≡ length code
  pub longer : length live ≤ length live_now
  pub kept : (k : ℕ) → k < length live → slice_index_or live_now k 0 ≡ slice_index_or live k 0
  pub still : (p : ℕ) → Contains live p → Contains live_now p
  pub passes : Passes code t live_now q
  pub from : (p : ℕ) → Contains live_now p → Contains live p ⊎ FlowsBack code t q p

pub record Started (code : List Instruction) (t stamp : ℕ) (seen live : List ℕ) : Type 0 where
  pub sees : Sees stamp seen live
  pub size : length seen ≡ length code
  pub must : (p : ℕ) → Contains live p → MustNeed code p t
  pub reads : (q : ℕ) → Names Read code t q → Leads code live q

pub record Spread (code : List Instruction) (t stamp : ℕ) (seen live : List ℕ) : Type 0 where
  pub started : Started code t stamp seen live
  pub passes : (q : ℕ) → Contains live q → Passes code t live q

-- t is needed after these, and after no others
pub record LiveAfter (code : List Instruction) (t : ℕ) (live : List ℕ) : Type 0 where
  pub below : (p : ℕ) → Contains live p → p < length code
  pub must : (p : ℕ) → Contains live p → MustNeed code p t
  pub reads : (q : ℕ) → Names Read code t q → Leads code live q
  pub passes : (q : ℕ) → Contains live q → Passes code t live q

pub record NeededRows (code : List Instruction) (temporaries : ℕ) (rows : Rows) : Type 0 where
  pub enough : temporaries ≤ length rows
  pub each : (t : ℕ) → LiveAfter code t (row rows t)
