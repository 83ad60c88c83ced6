-- Where a machine stands, and what a step of it does.
use Rattle.std.specs.Prelude.{◌≡◌, ℕ, ◌+◌, List, [], ◌∷◌, ◌++◌, length, map, drop, Option, Some, None, IfSome}
use Rattle.qs_isa.specs.Addresses.{data_start}
use Rattle.qs_isa.specs.Table.{decode_of}
use Rattle.qs_image.specs.Image.{Image, words_bytes}
use Rattle.qs_machine.specs.declared.answers.StepResult.{StepResult as Answer}
use Rattle.qs_machine.specs.declared.answers.StepResult.TheVariants.{Going, Put, Exited, Trapped}
use Rattle.qs_machine.specs.declared.answers.End.{End}
use Rattle.qs_machine.specs.declared.answers.End.TheVariants as end
use Rattle.qs_machine.specs.declared.machine.Machine.{Machine}
use Rattle.qs_machine.specs.State.{State, stack_base}
use Rattle.qs_machine.specs.Step.{StepResult, Next, Exits, Traps, step}
use Rattle.qs_machine.specs.Step.{answer as answered}
use Rattle.qs_machine.specs.Actions.{Action}
use Rattle.qs_machine.specs.Hart.{registers_of, memory_of}

-- how many bytes of the input it has taken
abbrev pub taken_of : Machine → ℕ
taken_of m = m.taken

-- how it ended, where it did
abbrev pub end_of : Machine → Option End
end_of m = m.ended

-- the machine with this end, and otherwise as it is
abbrev pub ended : Machine → End → Machine
ended m e = record m { ended = Some e }

-- the state, where this is the input and these bytes were put on the output
abbrev pub state_of : Machine → List ℕ → List ℕ → State
state_of m input output = record {
  pc = m.pc;
  registers = registers_of m.registers;
  memory = memory_of m.memory;
  input = drop m.taken input;
  output = output;
}

-- It has the code of the image, as many bytes of data, and a stack of `size` bytes. That data begins where it does, and
-- that the stack ends at its top, holds of every machine.
pub record IsLoaded (m : Machine) (image : Image) (size : ℕ) : Type 0 where
  pub instructions : m.instructions.items ≡ map decode_of image.code
  pub code : m.memory.code.items ≡ words_bytes image.code
  pub bytes : m.memory.data.end ≡ data_start + length image.bytes
  pub stack : m.memory.stack.start ≡ stack_base size

-- It runs the image on a stack of `size` bytes, stands at this state where `input` is the input, and goes on.
pub record Stands (m : Machine) (image : Image) (size : ℕ) (input : List ℕ) (s : State) : Type 0 where
  pub loaded : IsLoaded m image size
  pub at : s ≡ state_of m input s.output
  pub going : end_of m ≡ None

-- The machine `n` is what `m` became by a step whose result by the definition is the given one, from this state.
abbrev pub Did : Machine → Machine → Image → ℕ → List ℕ → State → StepResult → Answer → Type 0
Did m n image size input s r Going = (r ≡ Next (state_of n input s.output)) × IsLoaded n image size × (end_of n ≡ end_of m)
Did m n image size input s r (Put byte) = (r ≡ Next (state_of n input (s.output ++ byte ∷ []))) × IsLoaded n image size × (end_of n ≡ end_of m)
Did m n image size input s r (Exited status) = (r ≡ Exits status) × (n ≡ m)
Did m n image size input s r (Trapped cause pc) = (r ≡ Traps cause) × (pc ≡ s.pc) × (n ≡ m)

-- ---- what a step answers, and where the machine then stands

-- It goes on, and has put these bytes.
pub record GoesOn (n : Machine) (image : Image) (size : ℕ) (input : List ℕ) (s : State) (bytes : List ℕ) : Type 0 where
  pub next : State
  pub step_is : step image size s ≡ Next next
  pub puts : next.output ≡ s.output ++ bytes
  pub stands : Stands n image size input next

abbrev pub Steps : Machine → Machine → Image → ℕ → List ℕ → State → Answer → Type 0
Steps m n image size input s Going = GoesOn n image size input s []
Steps m n image size input s (Put byte) = GoesOn n image size input s (byte ∷ [])
Steps m n image size input s (Exited status) = (step image size s ≡ Exits status) × (n ≡ ended m (end.Exited status))
Steps m n image size input s (Trapped cause pc) = (step image size s ≡ Traps cause) × (pc ≡ s.pc) × (n ≡ ended m (end.Trapped cause pc))

-- the answer of a step of a machine that has ended
abbrev pub answer_of : End → Answer
answer_of (end.Exited status) = Exited status
answer_of (end.Trapped cause pc) = Trapped cause pc

-- the machine takes the step that the definition gives, wherever it stands
abbrev pub TakesStep : Machine → Machine → List ℕ → Answer → Type 0
TakesStep m n input answer =
    (image : Image) (size : ℕ) (s : State) → Stands m image size input s → Steps m n image size input s answer

-- where it has ended it answers as it did then, and nothing changes
abbrev pub AnswersAgain : Machine → Machine → Answer → Type 0
AnswersAgain m n answer = IfSome (end_of m) (λ e. (answer ≡ answer_of e) × (n ≡ m))

-- ---- parts of a step

-- The machine does what the action does, where this is the input.
abbrev pub Does : Machine → Machine → List ℕ → Action → Answer → Type 0
Does m n input action answer =
    (image : Image) (size : ℕ) (output : List ℕ) → IsLoaded m image size
    → Did m n image size input (state_of m input output) (action image size (state_of m input output)) answer

abbrev pub DoesForAnyInput : Machine → Machine → Action → Answer → Type 0
DoesForAnyInput m n action answer = (input : List ℕ) → Does m n input action answer

-- it puts a value into a0 and goes on
abbrev pub PutsAnswer : Machine → Machine → ℕ → Type 0
PutsAnswer m n value = (input output : List ℕ) → state_of n input output ≡ answered (state_of m input output) value

-- what was loaded stays loaded
abbrev pub StaysLoaded : Machine → Machine → Type 0
StaysLoaded m n = (image : Image) (size : ℕ) → IsLoaded m image size → IsLoaded n image size
