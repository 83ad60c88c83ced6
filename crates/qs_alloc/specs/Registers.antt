-- Registers that are free for a temporary.
use Rattle.std.specs.Prelude.{◌≡◌, ℕ, ◌+◌, ◌<◌, ◌⊎◌, ◌==◌, ◌&&◌, ◌||◌, not, Bool, true, false, List, length, Option, Some, None, slice_index_or, Contains}
use Rattle.std.specs.List.{slice_get, list_any}
use Rattle.std.specs.Int.{bit_at}
use Rattle.qs_calls.specs.declared.parameter.Parameter.{Parameter}
use Rattle.qs_calls.specs.declared.parameter.Parameter.TheVariants.{Plain, Placed}
use Rattle.qs_tac.specs.TreeOf.{instruction_tree}
use Rattle.qs_tac.specs.Holders.{is_saved_register}
use Rattle.qs_tac.specs.Uses.{reads, writes}
use Rattle.qs_tac.specs.Liveness.{is_call}
use Rattle.qs_tac.specs.Places.{is_for_values}
use Rattle.qs_tac.specs.declared.instruction.Instruction.{Instruction}
use Rattle.qs_tac.specs.declared.places.Place.{Place}
use Rattle.qs_tac.specs.declared.places.Place.TheVariants.{Slot, Register}
use Rattle.qs_alloc.specs.declared.rows.Side.TheVariants.{Written}
use Rattle.qs_alloc.specs.Verification.{is_among, is_written}
use Rattle.qs_alloc.specs.Rows.{Rows, row, Names}

abbrev pub place_of : List Place → (temporary : ℕ) → Place
place_of at t = slice_index_or at t (Slot 0)

-- ---- the entry

abbrev pub is_plain : (temporary : ℕ) → Parameter → Bool
is_plain t (Plain x) = x == t
is_plain t (Placed i s) = false

-- needed before the first instruction; live: the instructions after which it is needed
abbrev pub is_needed_first : Option Instruction → (temporary : ℕ) → (live : List ℕ) → Bool
is_needed_first None t live = false
is_needed_first (Some i) t live =
    is_among (reads (instruction_tree i)) t || (is_among live 0 && not (is_written (writes (instruction_tree i)) t))

abbrev pub is_held_at_entry : List Parameter → List Instruction → (temporary : ℕ) → (live : List ℕ) → Bool
is_held_at_entry parameters code t live = list_any (is_plain t) parameters || is_needed_first (slice_get code 0) t live

-- ---- points

-- t is held at a point: needed after an instruction, written by it, or held at the entry, whose number is the length of the code
pub record HeldAt (parameters : List Parameter) (code : List Instruction) (t : ℕ) (live : List ℕ) (p : ℕ) : Type 0 where
  pub why : Contains live p ⊎ (Names Written code t p ⊎ ((p ≡ length code) × (is_held_at_entry parameters code t live ≡ true)))

pub record PointsOf (parameters : List Parameter) (code : List Instruction) (t : ℕ) (live points : List ℕ) : Type 0 where
  pub held : (p : ℕ) → Contains points p → HeldAt parameters code t live p
  pub listed : (p : ℕ) → HeldAt parameters code t live p → Contains points p

pub record ListedBelow (n : ℕ) (live : List ℕ) : Type 0 where
  pub below : (p : ℕ) → Contains live p → p < n

pub record Crosses (code : List Instruction) (live : List ℕ) : Type 0 where
  pub at : ℕ
  pub listed : Contains live at
  pub instruction : Instruction
  pub here : slice_get code at ≡ Some instruction
  pub call : is_call (instruction_tree instruction) ≡ true

-- bit r of busy at p: the register r is held at p
abbrev pub is_busy : List ℕ → ℕ → ℕ → ℕ
is_busy busy p r = bit_at (slice_index_or busy p 0) r

pub record Busy (points busy : List ℕ) (r : ℕ) : Type 0 where
  pub at : ℕ
  pub listed : Contains points at
  pub busy_there : is_busy busy at r ≡ 1

pub record TakenBy (points busy : List ℕ) (taken : ℕ) : Type 0 where
  pub from : (r : ℕ) → bit_at taken r ≡ 1 → Busy points busy r
  pub all : (p r : ℕ) → Contains points p → is_busy busy p r ≡ 1 → bit_at taken r ≡ 1

pub record MarkedBy (points : List ℕ) (r : ℕ) (busy now : List ℕ) : Type 0 where
  pub size : length now ≡ length busy
  pub there : (p : ℕ) → Contains points p → is_busy now p r ≡ 1
  pub keeps : (p s : ℕ) → is_busy busy p s ≡ 1 → is_busy now p s ≡ 1
  pub from : (p s : ℕ) → is_busy now p s ≡ 1 → (is_busy busy p s ≡ 1) ⊎ ((s ≡ r) × Contains points p)

abbrev pub may_stand : (register : ℕ) → (crosses : Bool) → Bool
may_stand r crosses = is_for_values r && (not crosses || is_saved_register r)

pub record IsFree (r : ℕ) (crosses : Bool) (taken : ℕ) : Type 0 where
  pub below : r < 32
  pub allowed : may_stand r crosses ≡ true
  pub free : bit_at taken r ≡ 0

pub record IsTaken (r : ℕ) (crosses : Bool) (taken : ℕ) : Type 0 where
  pub taken_there : may_stand r crosses ≡ true → bit_at taken r ≡ 1

-- a temporary that holds r at p
pub record Holder (parameters : List Parameter) (code : List Instruction) (rows : Rows) (at : List Place) (r p : ℕ) : Type 0 where
  pub holder : ℕ
  pub below : holder < length at
  pub stands : place_of at holder ≡ Register r
  pub held : HeldAt parameters code holder (row rows holder) p

-- the registers so far keep points 2 and 3, and busy says where each is held
pub record Filled (parameters : List Parameter) (code : List Instruction) (rows : Rows) (at : List Place) (busy : List ℕ) : Type 0 where
  pub size : length busy ≡ length code + 1
  pub holders : (p r : ℕ) → is_busy busy p r ≡ 1 → Holder parameters code rows at r p
  pub busy_for : (t p r : ℕ) → place_of at t ≡ Register r → HeldAt parameters code t (row rows t) p → is_busy busy p r ≡ 1
  pub stands : (t r : ℕ) → place_of at t ≡ Register r → is_for_values r ≡ true
  pub kept : (t r : ℕ) → place_of at t ≡ Register r → Crosses code (row rows t) → is_saved_register r ≡ true
  pub apart : (t u p r : ℕ) → place_of at t ≡ Register r → place_of at u ≡ Register r → HeldAt parameters code t (row rows t) p → HeldAt parameters code u (row rows u) p → t ≡ u

-- a temporary holds r at a point where t is held
pub record Meets (parameters : List Parameter) (code : List Instruction) (rows : Rows) (at : List Place) (t r : ℕ) : Type 0 where
  pub point : ℕ
  pub held : HeldAt parameters code t (row rows t) point
  pub holds : Holder parameters code rows at r point

-- if t stands in a slot, no register is free for it
pub record Blocked (parameters : List Parameter) (code : List Instruction) (rows : Rows) (at : List Place) (t : ℕ) : Type 0 where
  pub each : (k r : ℕ) → place_of at t ≡ Slot k → is_for_values r ≡ true → (Crosses code (row rows t) → is_saved_register r ≡ true) → Meets parameters code rows at t r

-- temporaries move from slots into registers alone
pub record Further (at now : List Place) : Type 0 where
  pub size : length now ≡ length at
  pub registers : (t r : ℕ) → place_of at t ≡ Register r → place_of now t ≡ Register r
  pub slots : (t k : ℕ) → place_of now t ≡ Slot k → place_of at t ≡ Slot k

pub record Settled (parameters : List Parameter) (code : List Instruction) (rows : Rows) (t : ℕ) (at now : List Place) (busy_now : List ℕ) : Type 0 where
  pub filled : Filled parameters code rows now busy_now
  pub further : Further at now
  pub blocked : Blocked parameters code rows now t

-- so do all temporaries
pub record FilledAll (parameters : List Parameter) (code : List Instruction) (rows : Rows) (at now : List Place) (busy_now : List ℕ) : Type 0 where
  pub filled : Filled parameters code rows now busy_now
  pub further : Further at now
  pub blocked : (t : ℕ) → t < length at → Blocked parameters code rows now t

-- each temporary stands in a register, or no register is free for it
pub record Chosen (parameters : List Parameter) (code : List Instruction) (temporaries : ℕ) (rows : Rows) (at : List Place) : Type 0 where
  pub size : length at ≡ temporaries
  pub busy : List ℕ
  pub filled : Filled parameters code rows at busy
  pub blocked : (t : ℕ) → t < temporaries → Blocked parameters code rows at t
