-- The machine from its start: where it stands after so many steps, and how low its stack pointer went.
use Rattle.std.specs.Prelude.{ℕ, zero, suc, ◌-◌, ◌&&◌, ◌==◌, nat_le, min, List, [], slice_index, if◌then◌else◌}
use Rattle.qs_isa.specs.Addresses.{code_start, data_start}
use Rattle.qs_isa.specs.Registers.{sp, a0, a7}
use Rattle.qs_image.specs.Image.{Image, words_bytes}
use Rattle.qs_machine.specs.State.{State, stack_top, stack_pointer, is_code, is_data}
use Rattle.qs_machine.specs.declared.answers.Cause.{Cause}
use Rattle.qs_machine.specs.Step.{StepResult, Next, Exits, Traps, step}

-- At the start a0 to a7 hold the arguments, the stack pointer the stack's top, and all other registers 0.
abbrev pub start_registers : List ℕ → ℕ → ℕ
start_registers args n =
    if n == sp then stack_top
    else if nat_le a0 n && nat_le n a7 then slice_index args (n - a0)
    else 0

-- At the start memory holds the code's words, little-endian, and the data; all other bytes, the stack's too, are 0.
abbrev pub start_memory : Image → ℕ → ℕ
start_memory image address =
    if is_code image address 1 then slice_index (words_bytes image.code) (address - code_start)
    else if is_data image address 1 then slice_index image.bytes (address - data_start)
    else 0

abbrev pub start : Image → List ℕ → List ℕ → State
start image args input = record {
  pc = image.entry;
  registers = start_registers args;
  memory = start_memory image;
  input = input;
  output = [];
}

-- Where the machine stands: it has exited, it has trapped at this pc, or it goes on; always with its output so far.
pub data Outcome : Type 0 where
  Exited : (output : List ℕ) (status : ℕ) → Outcome
  Trapped : (cause : Cause) (pc : ℕ) (output : List ℕ) → Outcome
  Going : (output : List ℕ) → Outcome

-- the bytes on the output
abbrev pub output_so_far : Outcome → List ℕ
output_so_far (Exited output status) = output
output_so_far (Trapped cause pc output) = output
output_so_far (Going output) = output

abbrev pub outcome_after : State → StepResult → (State → Outcome) → Outcome
outcome_after s (Next t) go = go t
outcome_after s (Exits status) go = Exited s.output status
outcome_after s (Traps cause) go = Trapped cause s.pc s.output

-- after at most so many steps from a state; the one that exits or traps counts
abbrev pub run : Image → ℕ → ℕ → State → Outcome
run image size zero s = Going s.output
run image size (suc steps) s = outcome_after s (step image size s) (run image size steps)

-- from the start, on a stack of `size` bytes
abbrev pub machine : Image → ℕ → List ℕ → List ℕ → ℕ → Outcome
machine image size args input steps = run image size steps (start image args input)

abbrev pub least_after : StepResult → (State → ℕ) → ℕ → ℕ
least_after (Next t) go least = min least (go t)
least_after (Exits status) go least = least
least_after (Traps cause) go least = least

-- the least stack pointer of the states that so many steps reach, the first one included
abbrev pub least_from : Image → ℕ → ℕ → State → ℕ
least_from image size zero s = stack_pointer s
least_from image size (suc steps) s = least_after (step image size s) (least_from image size steps) (stack_pointer s)

abbrev pub least_stack_pointer : Image → ℕ → List ℕ → List ℕ → ℕ → ℕ
least_stack_pointer image size args input steps = least_from image size steps (start image args input)
