-- A run of an image on a stack, as several commands make one: the machine at its start, its input, and the line at its end.
use Rattle.std.specs.Prelude.{◌≡◌, ◌⊎◌, ℕ, ℤ, ◌<◌, ◌≤◌, List, [], Option, Some, None, Result, Ok, Err, Vec}
use Rattle.std.specs.declared.alloc.Global.{Global}
use Rattle.qs_assert.specs.declared.define.Amount.{Amount}
use Rattle.qs_assert.specs.declared.define.Amount.TheVariants.{Finite, Infinite, Wide}
use Rattle.qs_ports.specs.StoreView.{StoreView}
use Rattle.qs_ports.specs.SinkView.{SinkView}
use Rattle.qs_image.specs.Image.{Image, IsImage}
use Rattle.qs_image.specs.Faults.{first_fault}
use Rattle.qs_image.specs.declared.fault.ImageFault.{ImageFault}
use Rattle.qs_machine.specs.Arguments.{AreArguments, words_of}
use Rattle.qs_machine.specs.Run.{Outcome, Exited, Trapped as HasTrapped, Going, start}
use Rattle.qs_machine.specs.Standing.{Stands, taken_of}
use Rattle.qs_machine.specs.State.{stack_limit}
use Rattle.qs_machine.specs.declared.machine.Machine.{Machine}
use Rattle.qs_machine.specs.declared.answers.RunEnd.{RunEnd}
use Rattle.qs_machine.specs.declared.answers.RunEnd.TheVariants as end
use Rattle.qs_report.specs.Lines.{end_line}
use Rattle.qs_driver_session.specs.Limits.{input_limit}
use Rattle.qs_driver_session.specs.Names.{Names, no_names, or_empty, name_in}
use Rattle.qs_driver_session.specs.Faults.{status_line}
use Rattle.qs_driver_session.specs.Due.{EndsWith}
use Rattle.qs_driver_steps.specs.Files.{IsUntouched, HoldsContent}
use Rattle.qs_driver_session.specs.Files.{WasReadAs, ReadsFile}
use Rattle.qs_driver_session.specs.Arguments.{LacksWords}
use Rattle.qs_driver_session.specs.declared.starting.RunOrder.{RunOrder}
use Rattle.qs_driver_session.specs.declared.status.Status.{Status}
use Rattle.qs_driver_session.specs.declared.status.Status.TheVariants.{Done, Image as NotAnImage, Trapped, StepLimit, StackTooLarge, NoBound, SinkFailed, NoMemory}
use Rattle.qs_driver_session.specs.declared.status.FileKind.TheVariants as kinds

-- ---- the words

-- the files, the bytes of stack, the arguments, the most steps
pub record RunWords : Type 0 where
  pub image : List ℕ
  pub stack : ℕ
  pub args : List ℤ
  pub input : Option (List ℕ)
  pub steps : ℕ

abbrev pub run_words : List ℕ → ℕ → List ℤ → Option (List ℕ) → ℕ → RunWords
run_words image stack args input steps =
    record { image = image; stack = stack; args = args; input = input; steps = steps }

-- the words as the code holds them
abbrev pub words_in : RunOrder → RunWords
words_in order =
    run_words order.image.now order.stack order.args.now (name_in order.input) order.steps

abbrev pub names_of : RunWords → Names
names_of r = record no_names { image = r.image; input = or_empty r.input }

-- ---- what a run takes

-- the arguments and the stack are those that the image can be run with
pub record CanRun (r : RunWords) (image : Image) : Type 0 where
  pub arguments : AreArguments image r.args
  pub small : r.stack ≤ stack_limit

-- the input that is named is there, or none is named and the input is empty
abbrev pub HasInput : StoreView → Option (List ℕ) → List ℕ → Type 0
HasInput before None input = input ≡ []
HasInput before (Some name) input = HoldsContent (before.files name) input_limit input

-- these bytes were read as the input that is named, or none is named and the input is empty
abbrev pub ReadInput : StoreView → Option (List ℕ) → List ℕ → Type 0
ReadInput before None input = input ≡ []
ReadInput before (Some name) input = WasReadAs before name input_limit input

-- there is no stack of so many bytes
abbrev pub IsNoStack : Amount → Type 0
IsNoStack (Finite bytes) = stack_limit < bytes
IsNoStack Infinite = Unit {0}
IsNoStack Wide = Unit {0}

-- ---- how it ends

-- the status at an outcome
abbrev pub status_at : ℕ → Outcome → Status
status_at steps (Exited output status) = Done
status_at steps (HasTrapped cause pc output) = Trapped cause pc
status_at steps (Going output) = StepLimit steps

-- ---- what the parts of the code answer

-- the answer of `stack_of`
abbrev pub IsStackOf : Amount → Result ℕ Status → Type 0
IsStackOf amount (Ok stack) = (amount ≡ Finite stack) × (stack ≤ stack_limit)
IsStackOf amount (Err status) = (status ≡ NoBound amount) × IsNoStack amount

-- why bytes aren't loaded
pub data CannotLoad (bytes : List ℕ) (r : RunWords) (status : Status) : Type 0 where
  bad_image : (fault : ImageFault) → first_fault bytes ≡ Some fault → status ≡ NotAnImage fault
      → CannotLoad bytes r status
  no_words : (image : Image) → IsImage bytes image → LacksWords image r.args status
      → CannotLoad bytes r status
  too_large : (image : Image) → IsImage bytes image → AreArguments image r.args
      → stack_limit < r.stack
      → status ≡ StackTooLarge r.stack → CannotLoad bytes r status
  lacks_memory : status ≡ NoMemory → CannotLoad bytes r status

-- the machine stands at the start of the image that the bytes are
pub record WasLoaded (bytes : List ℕ) (r : RunWords) (machine : Machine) : Type 0 where
  pub image : Image
  pub is_image : IsImage bytes image
  pub can_run : CanRun r image
  pub none_taken : taken_of machine ≡ 0
  pub stands : (input : List ℕ)
      → Stands machine image r.stack input (start image (words_of r.args) input)

-- the answer of `load_bytes`
abbrev pub Loads : List ℕ → RunWords → Result Machine Status → Type 0
Loads bytes r (Ok machine) = WasLoaded bytes r machine
Loads bytes r (Err status) = CannotLoad bytes r status

-- the answer of `load_bytes` on the bytes of the image
pub record LoadsBytes (image : Image) (r : RunWords) (answer : Result Machine Status) : Type 0 where
  pub bytes : List ℕ
  pub is_image : IsImage bytes image
  pub loads : Loads bytes r answer

-- the answer of `loaded`: no memory was found for the bytes, or they were loaded or not
abbrev pub LoadsImage : Image → RunWords → Result Machine Status → Type 0
LoadsImage image r answer = (answer ≡ Err NoMemory) ⊎ LoadsBytes image r answer

-- the answer of `read_input`, where the input has this name or none
abbrev pub ReadsNamed :
    StoreView → StoreView → Option (List ℕ) → Result (Vec ℕ Global) Status → Type 0
ReadsNamed before after None (Ok input) = (input.items ≡ []) × IsUntouched before after
ReadsNamed before after None (Err status) = ⊥
ReadsNamed before after (Some name) (Ok input) =
    ReadsFile before after name kinds.Input input_limit (Ok input)
ReadsNamed before after (Some name) (Err status) =
    ReadsFile before after name kinds.Input input_limit (Err status)

abbrev pub ReadsInput : RunWords → StoreView → StoreView → Result (Vec ℕ Global) Status → Type 0
ReadsInput r before after answer = ReadsNamed before after r.input answer

-- the line at the end of a run was put on `log`
abbrev pub Finishes : RunWords → RunEnd → SinkView → SinkView → Status → Type 0
Finishes r (end.Exited status) v w result = EndsWith (end_line status) Done v w result
Finishes r (end.Trapped cause pc) v w result =
    EndsWith (status_line (names_of r) (Trapped cause pc)) (Trapped cause pc) v w result
Finishes r end.StepLimit v w result =
    EndsWith (status_line (names_of r) (StepLimit r.steps)) (StepLimit r.steps) v w result
Finishes r end.SinkFailed v w result = (result ≡ SinkFailed) × (w ≡ v)
