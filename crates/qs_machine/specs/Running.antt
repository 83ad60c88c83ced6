-- What a run of a machine does, and how it is loaded.
use Rattle.std.specs.Prelude.{◌≡◌, ◌≢◌, ℕ, ◌+◌, ◌<◌, ◌≤◌, List, [], ◌∷◌, ◌++◌, take, slice_index, Some, IfSome}
use Rattle.qs_image.specs.Image.{Image}
use Rattle.qs_ports.specs.SinkView.{SinkView, Appends, IsCut}
use Rattle.qs_machine.specs.declared.answers.RunEnd.{RunEnd}
use Rattle.qs_machine.specs.declared.answers.RunEnd.TheVariants as run_end
use Rattle.qs_machine.specs.declared.answers.Cause.{Cause}
use Rattle.qs_machine.specs.declared.answers.End.{End}
use Rattle.qs_machine.specs.declared.answers.End.TheVariants as end
use Rattle.qs_machine.specs.declared.machine.Machine.{Machine}
use Rattle.qs_machine.specs.declared.loading.LoadFault.{LoadFault}
use Rattle.qs_machine.specs.declared.loading.LoadFault.TheVariants.{StackTooLarge, ArgCount, NoMemory}
use Rattle.qs_machine.specs.State.{State, stack_limit}
use Rattle.qs_machine.specs.Run.{Outcome, Exited, Trapped, Going, start, run, output_so_far}
use Rattle.qs_machine.specs.Standing.{Stands, GoesOn, end_of}

-- So many steps lead from the state `s` to the state `next`, from which the run goes on.
abbrev pub LeadTo : Image → ℕ → State → ℕ → State → Type 0
LeadTo image size s steps next = (more : ℕ) → run image size (steps + more) s ≡ run image size more next

-- After so many steps from the state `s` the machine stands at the state `next`, from which the run goes on.
pub record Reached (n : Machine) (image : Image) (size : ℕ) (input : List ℕ) (s : State) (steps : ℕ) (next : State) : Type 0 where
  pub stands : Stands n image size input next
  pub ahead : LeadTo image size s steps next

-- ---- How a run of at most so many steps ended, which began at the state `s`. The sink was `v` and is `w`.

-- The program exited, and all that it put was appended to the sink.
pub record HasExited (n : Machine) (image : Image) (size : ℕ) (s : State) (steps : ℕ) (v w : SinkView) (status : ℕ) : Type 0 where
  pub bytes : List ℕ
  pub run_is : run image size steps s ≡ Exited (s.output ++ bytes) status
  pub appended : Appends v w bytes
  pub end_is : end_of n ≡ Some (end.Exited status)

-- A step trapped, and all that was put before was appended to the sink.
pub record HasTrapped (n : Machine) (image : Image) (size : ℕ) (s : State) (steps : ℕ) (v w : SinkView) (cause : Cause) (pc : ℕ) : Type 0 where
  pub bytes : List ℕ
  pub run_is : run image size steps s ≡ Trapped cause pc (s.output ++ bytes)
  pub appended : Appends v w bytes
  pub end_is : end_of n ≡ Some (end.Trapped cause pc)

-- All steps were taken, what was put was appended to the sink, and the program goes on.
pub record IsGoing (n : Machine) (image : Image) (size : ℕ) (input : List ℕ) (s : State) (steps : ℕ) (v w : SinkView) : Type 0 where
  pub bytes : List ℕ
  pub run_is : run image size steps s ≡ Going (s.output ++ bytes)
  pub appended : Appends v w bytes
  pub next : State
  pub reached : Reached n image size input s steps next

-- The sink failed: it took the first k bytes of what the run puts, and the last step that the machine took put the byte
-- that comes next. The machine stands behind that step, and its output has the byte that the sink did not take.
pub record IsCutOff (n : Machine) (image : Image) (size : ℕ) (input : List ℕ) (s : State) (steps : ℕ) (v w : SinkView) : Type 0 where
  pub bytes : List ℕ
  pub puts : output_so_far (run image size steps s) ≡ s.output ++ bytes
  pub k : ℕ
  pub cut : IsCut v w bytes k
  -- the steps before the last one that was taken, and where they lead
  pub before : ℕ
  pub within : before < steps
  pub last : State
  pub leads : LeadTo image size s before last
  pub taken_is : last.output ≡ s.output ++ take k bytes
  -- the last step puts byte k
  pub put : GoesOn n image size input last (slice_index bytes k ∷ [])
  pub reached : Reached n image size input s (before + 1) put.next
  pub output_is : put.next.output ≡ s.output ++ take (k + 1) bytes

abbrev pub RunsTo : Machine → Image → ℕ → List ℕ → State → ℕ → SinkView → SinkView → RunEnd → Type 0
RunsTo n image size input s steps v w (run_end.Exited status) = HasExited n image size s steps v w status
RunsTo n image size input s steps v w (run_end.Trapped cause pc) = HasTrapped n image size s steps v w cause pc
RunsTo n image size input s steps v w run_end.StepLimit = IsGoing n image size input s steps v w
RunsTo n image size input s steps v w run_end.SinkFailed = IsCutOff n image size input s steps v w

-- the answer of a run of a machine that has ended
abbrev pub run_end_of : End → RunEnd
run_end_of (end.Exited status) = run_end.Exited status
run_end_of (end.Trapped cause pc) = run_end.Trapped cause pc

-- where it has ended it answers as it did then, and nothing changes, the sink neither
abbrev pub EndsAgain : {Sink : Type 0} → Machine → Machine → Sink → Sink → RunEnd → Type 0
EndsAgain m n before after answer = IfSome (end_of m) (λ e. (answer ≡ run_end_of e) × (n ≡ m) × (after ≡ before))

-- wherever the machine stands, it runs from there
abbrev pub Runs : {Sink : Type 0} → (Sink → SinkView) → Machine → Machine → Sink → Sink → List ℕ → ℕ → RunEnd → Type 0
Runs view m n before after input steps answer =
    (image : Image) (size : ℕ) (s : State) → Stands m image size input s
    → RunsTo n image size input s steps (view before) (view after) answer

-- ---- Loading

-- it stands at the start of the program, whatever its input will be
abbrev pub StandsAtStart : Machine → Image → ℕ → List ℕ → Type 0
StandsAtStart m image size args = (input : List ℕ) → Stands m image size input (start image args input)

-- ---- Why an image is not loaded

-- an image with so many parameters, on a stack of so many bytes and with so many arguments
pub record MayLoad (stack parameters arguments : ℕ) : Type 0 where
  pub small : stack ≤ stack_limit
  pub same_count : arguments ≡ parameters

-- each fault is that of the first test that fails; memory may be wanting where none does
abbrev pub IsLoadFault : ℕ → ℕ → ℕ → LoadFault → Type 0
IsLoadFault stack parameters arguments StackTooLarge = stack_limit < stack
IsLoadFault stack parameters arguments (ArgCount expected) = (stack ≤ stack_limit) × (arguments ≢ parameters) × (expected ≡ parameters)
IsLoadFault stack parameters arguments NoMemory = MayLoad stack parameters arguments

-- ---- a run from the start

-- What a run answered and put on the sink, by the outcome that the definition gives.
abbrev pub Shows : Outcome → SinkView → SinkView → RunEnd → Type 0
Shows outcome v w (run_end.Exited status) = (outcome ≡ Exited (output_so_far outcome) status) × Appends v w (output_so_far outcome)
Shows outcome v w (run_end.Trapped cause pc) = (outcome ≡ Trapped cause pc (output_so_far outcome)) × Appends v w (output_so_far outcome)
Shows outcome v w run_end.StepLimit = (outcome ≡ Going (output_so_far outcome)) × Appends v w (output_so_far outcome)
Shows outcome v w run_end.SinkFailed = (k : ℕ) × IsCut v w (output_so_far outcome) k
