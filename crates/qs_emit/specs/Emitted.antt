-- What the image of a unit of linear code does: all that is promised of it, by its records alone.
use Rattle.std.specs.Prelude.{◌≡◌, ℕ, ◌+◌, ◌%◌, ◌^◌, ◌<◌, ◌≤◌, List, length, map, All, Option, Some}
use Rattle.qs_memory.specs.Values.{Value, integer}
use Rattle.qs_memory.specs.Memory.{Memory, block_at}
use Rattle.qs_memory.specs.Soundness.{IsLive}
use Rattle.qs_events.specs.BoundedRun.{BoundedRun}
use Rattle.qs_events.specs.Runs.{Left, has_ended, ending_of, bounded}
use Rattle.qs_events.specs.Weights.{Costs, run_weight}
use Rattle.qs_calls.specs.World.{World, RootRun, status_of}
use Rattle.qs_isa.specs.Addresses.{data_start}
use Rattle.qs_image.specs.Image.{Image}
use Rattle.qs_machine.specs.State.{stack_top, stack_limit}
use Rattle.qs_machine.specs.Run.{start_memory, machine, least_stack_pointer}
use Rattle.qs_tac.specs.Trees.{TacUnitTree}
use Rattle.qs_tac.specs.Places.{PlacesTree}
use Rattle.qs_tac.specs.Units.{tac_run, world_after}
use Rattle.qs_emit.specs.Machine.{Watched}
use Rattle.qs_emit.specs.Lies.{AreBytes, Lies, AreApart, owner_among}
use Rattle.qs_emit.specs.Surroundings.{Surroundings, Lay}
use Rattle.qs_emit_selection.specs.Data.{data_address}
use Rattle.qs_emit.specs.Relation.{IsEmittable, function_at}
use Rattle.qs_emit.specs.Entries.{IsEntry, Follows}
use Rattle.qs_emit.specs.Agree.{Agree, Accounts}
use Rattle.qs_emit.specs.Images.{IsFirstMemory, record_at, AreCosts, IsImageOf, IsWithinLimits}

-- ---- every function as root

-- what a run of a function of the image finds
pub record AreSurroundings (u : TacUnitTree) (image : Image) (t : Surroundings) : Type 0 where
  pub here : t.image ≡ image
  pub costs : AreCosts image t.costs
  pub stack : t.room.size ≤ stack_limit
  pub ceiling : t.room.ceiling ≤ stack_top
  -- others leave bytes
  pub others : (time : ℕ) (flat : ℕ → ℕ) → AreBytes flat → AreBytes (t.room.others time flat)
  pub return_aligned : t.return_to % 4 ≡ 0
  pub return_word : t.return_to < 2 ^ 32
  -- the unit's data are the first blocks of the memory to start from, and lie where the image has them
  pub data_there : length u.data_blocks ≤ t.first
  pub data_lie : (block : ℕ) → block < length u.data_blocks → t.addresses block ≡ data_address u.data_blocks block

-- From every entry, and whatever others do: this holds also where the stack bytes below x2 and the data bytes outside the
-- live blocks are changed between any two instructions (`others`, which is any change of them; `stirred` of Machine).
abbrev pub FunctionsFollow : TacUnitTree → Image → Type 0
FunctionsFollow u image =
    (t : Surroundings) (root : ℕ) (arguments : List Value) (w : World) (l : Lay) (m : Watched) (n : ℕ)
    → AreSurroundings u image t → IsEntry u t (record_at image root).address root arguments w l m
    → Follows t n m (tac_run u root arguments w n) (world_after u root arguments w n)

-- ---- at the start

-- where the unit's data lie
abbrev pub data_lay : TacUnitTree → Memory → Lay
data_lay u first =
    record { address_of = data_address u.data_blocks; owner = owner_among first (data_address u.data_blocks) 0 }

-- the bytes that the machine starts with, whatever its arguments, its input and the size of its stack: the data hold the
-- blocks of the memory to start from
pub record Begins (u : TacUnitTree) (first : Memory) (image : Image) : Type 0 where
  pub count : length first ≡ length u.data_blocks
  pub live : (block : ℕ) → block < length first → IsLive first block
  pub lies : Lies first (data_lay u first).address_of (data_lay u first).owner (start_memory image)
  pub apart : AreApart first (data_lay u first).address_of
  pub above : (block : ℕ) → block < length first → data_start ≤ (data_lay u first).address_of block
  pub below :
      (block : ℕ) → block < length first
      → (data_lay u first).address_of block + (block_at first block).size ≤ data_start + length image.bytes
  pub bytes : AreBytes (start_memory image)

-- ---- from the start

-- the run of main from the memory to start from, its arguments given as words
abbrev pub start_run : TacUnitTree → Memory → (args input : List ℕ) → (n : ℕ) → RootRun
start_run u first args input n = tac_run u u.main (map integer args) (record { memory = first; input = input }) n

abbrev pub start_seen : TacUnitTree → Memory → (args input : List ℕ) → (n : ℕ) → BoundedRun
start_seen u first args input n = bounded status_of (start_run u first args input n)

abbrev pub IsInteger : Option Value → Type 0
IsInteger result = (v : ℕ) × (result ≡ Some (integer v))

-- main has its arguments, the stack has the weight of each run, and main returns an integer
pub record MayStart (u : TacUnitTree) (first : Memory) (costs : Costs) (args input : List ℕ) (size : ℕ) : Type 0 where
  pub count : length args ≡ length (function_at u u.main).parameters
  pub words : All (λ word. word < 2 ^ 32) args
  pub bytes : All (λ byte. byte < 256) input
  pub most : size ≤ stack_limit
  pub enough : (n : ℕ) → run_weight costs (start_run u first args input n) ≤ size
  pub returns :
      (n : ℕ) (left : Left Value Memory) → ending_of (start_run u first args input n) ≡ has_ended left
      → IsInteger left.result

pub record FollowsFrom (u : TacUnitTree) (first : Memory) (image : Image) (costs : Costs) (args input : List ℕ) (size : ℕ)
    : Type 0 where
  pub agree : Agree (start_seen u first args input) (machine image size args input)
  pub accounts :
      Accounts costs (start_seen u first args input) (machine image size args input)
      (least_stack_pointer image size args input)

abbrev pub StartFollows : TacUnitTree → Memory → Image → Type 0
StartFollows u first image =
    (costs : Costs) (args input : List ℕ) (size : ℕ) → AreCosts image costs → MayStart u first costs args input size
    → FollowsFrom u first image costs args input size

-- ---- all of it

pub record Emitted (u : TacUnitTree) (first : Memory) (image : Image) : Type 0 where
  pub count : length image.functions ≡ length u.functions
  pub functions : FunctionsFollow u image
  pub begins : Begins u first image
  pub start : StartFollows u first image

abbrev pub ImagesFollow : Type 0
ImagesFollow =
    (u : TacUnitTree) (ps : List PlacesTree) (first : Memory) (image : Image) → IsEmittable u ps
    → IsFirstMemory u first → IsImageOf u ps first image → IsWithinLimits image → Emitted u first image
