-- The machine as it is watched while emitted code runs: it stops where an instruction breaks a rule that emitted code
-- keeps, and between instructions others may change what isn't the code's own. Where it doesn't stop, and nobody changes
-- anything, it is the machine (`Refines`).
use Rattle.std.specs.Prelude.{◌≡◌, ℕ, zero, suc, ◌+◌, ◌%◌, ◌==◌, ◌&&◌, ◌||◌, not, nat_lt, nat_le, min, Bool, true, false}
use Rattle.std.specs.Prelude.{if◌then◌else◌, List, Option, Some, None}
use Rattle.qs_base.specs.Words.{add}
use Rattle.qs_memory.specs.Partial.{◌>>=◌}
use Rattle.qs_isa.specs.declared.instruction.Instr.{Instr}
use Rattle.qs_isa.specs.declared.instruction.Instr.TheVariants as instructions
use Rattle.qs_isa.specs.Table.{decode_of}
use Rattle.qs_image.specs.Image.{Image}
use Rattle.qs_machine.specs.declared.answers.Cause.{Cause}
use Rattle.qs_machine.specs.State.{State, register, stack_pointer, stack_base}
use Rattle.qs_machine.specs.Step.{StepResult, Next, Exits, Traps, load_width, store_width, act, fetch}
use Rattle.qs_machine.specs.Run.{Outcome, Exited, Trapped, Going}

-- the instruction that an image's code has at an address
abbrev pub instruction_at : Image → (address : ℕ) → Option Instr
instruction_at image address = fetch image address >>= decode_of

-- ---- what emitted code may do

-- Room is what a run is given: the stack below x2 as it was at the entry, and data.
pub record Room : Type 0 where
  -- the bytes of the stack
  pub size : ℕ
  -- x2 at the entry
  pub ceiling : ℕ
  -- the addresses of the bytes of live writable blocks in the data
  pub may_change : (address : ℕ) → Bool
  -- the addresses of the bytes of live blocks in the data: nobody else changes these
  pub is_kept : (address : ℕ) → Bool
  -- what others make of the other bytes, at each time
  pub others : (time : ℕ) → (memory : ℕ → ℕ) → ℕ → ℕ

-- the least address of the stack
abbrev pub base : Room → ℕ
base r = stack_base r.size

-- so many bytes, each of which is such
abbrev pub each : (ℕ → Bool) → (address width : ℕ) → Bool
each is_such address zero = true
each is_such address (suc width) = is_such address && each is_such (address + 1) width

-- no stack byte below x2 is read
abbrev pub may_read : Room → State → (address width : ℕ) → Bool
may_read r s address width = nat_le (stack_pointer s) address || nat_le (address + width) (base r)

-- none is written, nor one from x2 as it was at the entry on, nor a data byte outside live writable blocks
abbrev pub may_write : Room → State → (address width : ℕ) → Bool
may_write r s address width =
    (nat_le (stack_pointer s) address && nat_le (address + width) r.ceiling)
    || (nat_le (address + width) (base r) && each r.may_change address width)

abbrev pub keeps_to : Room → State → Instr → Bool
keeps_to r s (instructions.Lui rd immediate) = true
keeps_to r s (instructions.Auipc rd immediate) = true
keeps_to r s (instructions.Jal rd offset) = true
keeps_to r s (instructions.Jalr rd rs1 offset) = true
keeps_to r s (instructions.Branch kind rs1 rs2 offset) = true
keeps_to r s (instructions.Load kind rd rs1 offset) = may_read r s (add (register s rs1) offset) (load_width kind)
keeps_to r s (instructions.Store kind rs1 rs2 offset) = may_write r s (add (register s rs1) offset) (store_width kind)
keeps_to r s (instructions.OpImm kind rd rs1 immediate) = true
keeps_to r s (instructions.ShiftImm kind rd rs1 amount) = true
keeps_to r s (instructions.Op kind rd rs1 rs2) = true
keeps_to r s instructions.Fence = true
keeps_to r s instructions.Ecall = true
keeps_to r s instructions.Ebreak = true

-- between any two instructions x2 is a multiple of 16 and at most what it was at the entry
abbrev pub is_set : Room → State → Bool
is_set r s = nat_le (stack_pointer s) r.ceiling && stack_pointer s % 16 == 0

-- ---- what others do

-- below x2, but for the data that are kept, a byte may be another after an instruction
unfoldable pub stirred_byte : Room → (time sp : ℕ) → (memory : ℕ → ℕ) → ℕ → ℕ
stirred_byte r time sp memory address =
    if nat_lt address sp && not (r.is_kept address) then r.others time memory address else memory address

abbrev pub stirred : Room → (time : ℕ) → State → State
stirred r time s = record s { memory = stirred_byte r time (stack_pointer s) s.memory }

-- ---- runs

-- the state, the least x2 so far, and how many instructions were acted on
pub record Watched : Type 0 where
  pub now : State
  pub low : ℕ
  pub time : ℕ

pub data Sight : Type 0 where
  goes : Watched → Sight
  exits : (output : List ℕ) (status low : ℕ) → Sight
  traps : Cause → (pc : ℕ) (output : List ℕ) → Sight
  -- an instruction breaks a rule
  breaks : Sight

abbrev pub only : Bool → Sight → Sight
only true next = next
only false next = breaks

-- what follows an instruction
abbrev pub then_goes : Room → Watched → StepResult → Sight
then_goes r w (Next s) =
    only (is_set r s) (goes (record { now = stirred r w.time s; low = min w.low (stack_pointer s); time = w.time + 1 }))
then_goes r w (Exits status) = exits w.now.output status w.low
then_goes r w (Traps cause) = traps cause w.now.pc w.now.output

abbrev pub acts : Image → Room → Watched → Instr → Sight
acts image r w i = only (keeps_to r w.now i) (then_goes r w (act image r.size w.now i))

-- code has an instruction wherever emitted code goes
abbrev pub watch_on : Image → Room → Watched → Option Instr → Sight
watch_on image r w None = breaks
watch_on image r w (Some i) = acts image r w i

abbrev pub watch : Image → Room → Watched → Sight
watch image r w = watch_on image r w (instruction_at image w.now.pc)

abbrev pub after : Sight → (Watched → Sight) → Sight
after (goes w) next = next w
after (exits output status low) next = exits output status low
after (traps cause pc output) next = traps cause pc output
after breaks next = breaks

-- at most so many instructions
abbrev pub watched : Image → Room → (steps : ℕ) → Watched → Sight
watched image r zero w = goes w
watched image r (suc steps) w = after (watch image r w) (watched image r steps)

-- ---- and the machine itself

-- others change nothing
abbrev pub IsQuiet : Room → Type 0
IsQuiet r = r.others ≡ (λ time memory. memory)

-- what is seen is where the machine stands, and the least x2 is its least
abbrev pub Refines : Sight → Outcome → (least : ℕ) → Type 0
Refines (goes w) o least = (o ≡ Going w.now.output) × (w.low ≡ least)
Refines (exits output status low) o least = (o ≡ Exited output status) × (low ≡ least)
Refines (traps cause pc output) o least = o ≡ Trapped cause pc output
Refines breaks o least = Unit {0}
