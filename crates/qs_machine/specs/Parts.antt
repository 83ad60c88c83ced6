-- Parts of the state at which a machine stands, as they are told and set.
use Rattle.std.specs.Prelude.{◌≡◌, ℕ, Bool, List, drop}
use Rattle.qs_machine.specs.declared.machine.Machine.{Machine}
use Rattle.qs_machine.specs.State.{State, is_inside}
use Rattle.qs_machine.specs.Hart.{registers_of, memory_of}
use Rattle.qs_machine.specs.Standing.{taken_of, end_of, state_of, StaysLoaded}

abbrev pub pc_of : Machine → ℕ
pc_of m = m.pc

abbrev pub registers_in : Machine → ℕ → ℕ
registers_in m = registers_of m.registers

abbrev pub memory_in : Machine → ℕ → ℕ
memory_in m = memory_of m.memory

-- a byte of the stack
abbrev pub is_in_stack : Machine → (address : ℕ) → Bool
is_in_stack m address = is_inside m.memory.stack.start m.memory.stack.end address 1

-- Whatever the input and the output are, the state is what the change makes of it. All else is as it was.
pub record Changes (m n : Machine) (change : State → State) : Type 0 where
  pub state : (input output : List ℕ) → state_of n input output ≡ change (state_of m input output)
  pub loaded : StaysLoaded m n
  pub taken : taken_of n ≡ taken_of m
  pub ended : end_of n ≡ end_of m

-- so many bytes of the input are taken
pub record HasTaken (m n : Machine) (count : ℕ) : Type 0 where
  pub state : (input output : List ℕ) → state_of n input output ≡ record (state_of m input output) { input = drop count input }
  pub loaded : StaysLoaded m n
  pub taken : taken_of n ≡ count
  pub ended : end_of n ≡ end_of m
