-- What is promised of emitted code.
use Rattle.std.specs.Prelude.{◌≡◌, ℕ, zero, suc, ◌+◌, ◌<◌, ◌≤◌, min, true, List, length, Some}
use Rattle.qs_memory.specs.Memory.{Memory, block_at}
use Rattle.qs_memory.specs.Soundness.{IsLive}
use Rattle.qs_isa.specs.declared.instruction.Instr.{Instr}
use Rattle.qs_image.specs.Image.{Image}
use Rattle.qs_machine.specs.State.{State, stack_pointer}
use Rattle.qs_machine.specs.Step.{Next, step}
use Rattle.qs_machine.specs.Run.{run, least_from}
use Rattle.qs_tac.specs.Trees.{TacUnitTree}
use Rattle.qs_tac.specs.Places.{PlacesTree}
use Rattle.qs_tac.specs.Sizes.{unit_words}
use Rattle.qs_emit.specs.Machine.{instruction_at, Room, keeps_to, is_set, stirred, Watched, goes, watch, watched}
use Rattle.qs_emit.specs.Machine.{IsQuiet, Refines}
use Rattle.qs_emit.specs.Lies.{Owner, cell_of, Lies, AreApart, owner_among}
use Rattle.qs_emit.specs.Relation.{IsEmittable}
use Rattle.qs_emit.specs.Images.{IsImageOf}

-- the machine that is watched is the machine, unless it stops for a rule
abbrev pub WatchingRefines : Type 0
WatchingRefines =
    (image : Image) (r : Room) (steps : ℕ) (w : Watched) → IsQuiet r → w.low ≤ stack_pointer w.now
    → Refines (watched image r steps w) (run image r.size steps w.now) (min w.low (least_from image r.size steps w.now))

-- a step that is watched is one of the machine, that of an instruction which keeps to the rules and leaves x2 as it is to
-- be; and then others change what isn't kept
pub record IsStep (image : Image) (r : Room) (w to : Watched) : Type 0 where
  pub next : State
  pub instruction : Instr
  pub is : instruction_at image w.now.pc ≡ Some instruction
  pub keeps : keeps_to r w.now instruction ≡ true
  pub steps : step image r.size w.now ≡ Next next
  pub set : is_set r next ≡ true
  pub stirs : to.now ≡ stirred r w.time next
  pub low : to.low ≡ min w.low (stack_pointer next)
  pub time : to.time ≡ w.time + 1

abbrev pub WatchingSteps : Type 0
WatchingSteps = (image : Image) (r : Room) (w to : Watched) → watch image r w ≡ goes to → IsStep image r w to

-- so many steps of the machine lead from one state to another
abbrev pub Leads : Image → (size steps : ℕ) → (from to : State) → Type 0
Leads image size zero from to = from ≡ to
Leads image size (suc steps) from to = (next : State) × ((step image size from ≡ Next next) × Leads image size steps next to)

-- where nobody changes anything, what is watched are the machine's states
abbrev pub WatchingLeads : Type 0
WatchingLeads =
    (image : Image) (r : Room) (steps : ℕ) (w to : Watched) → IsQuiet r → watched image r steps w ≡ goes to
    → Leads image r.size steps w.now to.now

-- ---- blocks

-- blocks that lie apart have owners of their bytes
abbrev pub BlocksApartHaveOwners : Type 0
BlocksApartHaveOwners =
    (m : Memory) (address_of : ℕ → ℕ) → AreApart m address_of
    → (block offset : ℕ) → IsLive m block → offset < (block_at m block).size
    → owner_among m address_of 0 (address_of block + offset) ≡ cell_of block offset

-- no byte is of two blocks that lie in the machine's memory
abbrev pub LyingBlocksDontMeet : Type 0
LyingBlocksDontMeet =
    (m : Memory) (address_of : ℕ → ℕ) (owner : ℕ → Owner) (flat : ℕ → ℕ) → Lies m address_of owner flat
    → (block other offset place : ℕ) → IsLive m block → IsLive m other → offset < (block_at m block).size
    → place < (block_at m other).size → address_of block + offset ≡ address_of other + place → block ≡ other

-- ---- the size of the code

abbrev pub CodeIsShort : Type 0
CodeIsShort =
    (u : TacUnitTree) (ps : List PlacesTree) (first : Memory) (image : Image) → IsEmittable u ps
    → IsImageOf u ps first image → length image.code ≤ unit_words u
