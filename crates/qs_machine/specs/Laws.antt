-- What a step keeps of a state, and what it does to the input and the output.
use Rattle.std.specs.Prelude.{◌≡◌, ℕ, ◌%◌, ◌^◌, ◌<◌, ◌≤◌, List, ◌++◌, length, All}
use Rattle.qs_isa.specs.Registers.{x0}
use Rattle.qs_image.specs.Image.{Image}
use Rattle.qs_image.specs.Limits.{most_code_words}
use Rattle.qs_machine.specs.State.{State}
use Rattle.qs_machine.specs.Step.{Next, step}

-- pc and the registers are words, pc is a multiple of 4, and neither x0 nor what is none of x1 to x31 is ever anything but 0
pub record IsProper (pc : ℕ) (registers : ℕ → ℕ) : Type 0 where
  pub aligned : pc % 4 ≡ 0
  pub small : pc < 2 ^ 32
  pub words : (r : ℕ) → registers r < 2 ^ 32
  pub x0_is_0 : registers x0 ≡ 0
  pub no_more : (r : ℕ) → 32 ≤ r → registers r ≡ 0

-- memory and input hold bytes
pub record IsState (s : State) : Type 0 where
  pub proper : IsProper s.pc s.registers
  pub bytes : (address : ℕ) → s.memory address < 2 ^ 8
  pub input : All (λ byte. byte < 2 ^ 8) s.input

-- the output only grows, and of the input a front is taken
pub record IsKept (s next : State) : Type 0 where
  pub state : IsState next
  pub puts : (bytes : List ℕ) × (next.output ≡ s.output ++ bytes)
  pub takes : (bytes : List ℕ) × (s.input ≡ bytes ++ next.input)

abbrev pub StepsKeepStates : Type 0
StepsKeepStates =
    (image : Image) (size : ℕ) (s next : State) → length image.code ≤ most_code_words → IsState s
    → step image size s ≡ Next next → IsKept s next
