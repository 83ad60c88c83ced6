-- `sample`: a source of as many functions as asked for, each of which calls the one before. It is certified, compiled and
-- run on a stack of exactly its bound, and what it puts is counted.
use Rattle.std.specs.Prelude.{◌≡◌, ◌⊎◌, ℕ, ◌≤◌, List, [], ◌∷◌, ◌++◌, length, Option, Some, None, Result, Ok, Err}
use Rattle.qs_assert.specs.declared.define.Amount.TheVariants.{Finite}
use Rattle.qs_ports.specs.StoreView.{StoreView, HasSameCounts, HasFailed}
use Rattle.qs_ports.specs.Whole.{Stores, IsCutShort}
use Rattle.qs_image.specs.Image.{Image}
use Rattle.qs_machine.specs.Arguments.{AreArguments, words_of}
use Rattle.qs_machine.specs.declared.answers.Cause.{Cause}
use Rattle.qs_machine.specs.Run.{Outcome, Exited, Trapped as HasTrapped, Going, machine, start}
use Rattle.qs_machine.specs.Standing.{Stands, taken_of}
use Rattle.qs_machine.specs.State.{stack_limit}
use Rattle.qs_report.specs.Lines.{bound_line, count_line, end_line}
use Rattle.qs_report.specs.declared.fault_texts.Count.TheVariants.{Functions, Output}
use Rattle.qs_report.specs.declared.fault_texts.Shown.TheVariants as shown
use Rattle.qs_cli.specs.Numbers.{default_steps}
use Rattle.qs_driver_session.specs.Names.{Names, no_names, or_empty, name_in}
use Rattle.qs_driver_steps.specs.Pieces.{on_out}
use Rattle.qs_driver_session.specs.Due.{Due, refusal, IsRefusal}
use Rattle.qs_driver_steps.specs.Files.{IsUntouched}
use Rattle.qs_driver_session.specs.SampleSource.{sample_text}
use Rattle.qs_driver_session.specs.Starting.{status_at}
use Rattle.qs_driver_session.specs.Task.{Task}
use Rattle.qs_driver_session.specs.declared.status.Status.{Status}
use Rattle.qs_driver_session.specs.declared.status.Status.TheVariants.{Done, Trapped, StepLimit, StoreFailed, NoMemory}
use Rattle.qs_driver_session.specs.declared.status.FileKind.TheVariants as kinds
use Rattle.qs_driver.specs.Certified.{CertifiedSource, IsCertifiedAs}
use Rattle.qs_driver.specs.Bounds.{IsImageOf, bound_by, costs_in}
use Rattle.qs_driver.specs.SampleLaws.{IsGoodSource, HasSmallBound}
use Rattle.qs_driver.specs.commands.Exec.{ExecWords, exec_words, IsSourcesEnd}
use Rattle.qs_driver.specs.declared.commands.sample.SampleOrder.{SampleOrder}
use Rattle.qs_driver.specs.declared.commands.sample.SampleStart.{SampleStart}
use Rattle.qs_driver.specs.declared.commands.sample.SampleEnd.{SampleEnd}

-- ---- the words

-- how many functions, and the file that gets the source where one is named
pub record SampleWords : Type 0 where
  pub count : ℕ
  pub out : Option (List ℕ)

abbrev pub sample_words : ℕ → Option (List ℕ) → SampleWords
sample_words count out = record { count = count; out = out }

-- the words as the code holds them
abbrev pub words_in : SampleOrder → SampleWords
words_in order = sample_words order.count (name_in order.out)

-- those of its run: no arguments, no input and the default steps
abbrev pub as_exec : ExecWords
as_exec = exec_words [] None [] None default_steps

abbrev pub names_of : SampleWords → Names
names_of w = record no_names { output = or_empty w.out }

-- ---- what is due

-- The text is certified, an image is made of it, main takes no arguments, and there is a stack of exactly main's bound.
pub record HasStack (text : List ℕ) (s : CertifiedSource) (image : Image) (stack : ℕ) : Type 0 where
  pub certified : IsCertifiedAs text None s
  pub image_of : IsImageOf s image
  pub arguments : AreArguments image []
  pub bound : bound_by s (costs_in image.functions) [] ≡ Finite stack
  pub small : stack ≤ stack_limit

-- where the machine stands at the end, without input
abbrev pub outcome : Image → (stack : ℕ) → Outcome
outcome image stack = machine image stack (words_of []) [] default_steps

-- how many functions have a body, the bound, how many bytes were put, and the status of the run
abbrev pub sample_lines : (functions stack output status : ℕ) → List ℕ
sample_lines functions stack output status =
    count_line (Functions functions) ++ bound_line (shown.Number stack)
    ++ count_line (Output output) ++ end_line status

abbrev pub counted : (functions stack output status : ℕ) → Due
counted functions stack output status =
    record { status = Done; pieces = on_out (sample_lines functions stack output status) ∷ [] }

-- what is due at this outcome; the output is counted and not written
abbrev pub IsDueAt : SampleWords → Image → (stack : ℕ) → Outcome → Due → Type 0
IsDueAt w image stack (Exited output status) due =
    due ≡ counted (length image.functions) stack (length output) status
IsDueAt w image stack (HasTrapped cause pc output) due =
    IsRefusal (names_of w) (Trapped cause pc) due
IsDueAt w image stack (Going output) due = IsRefusal (names_of w) (StepLimit default_steps) due

-- where a file is named it holds the source, and no other file changed; where none is named no file changed
abbrev pub HasWritten : (out : Option (List ℕ)) → (text : List ℕ) → StoreView → StoreView → Type 0
HasWritten None text before after = IsUntouched before after
HasWritten (Some name) text before after =
    Stores before after name text × HasSameCounts before after

-- The sample was written where a file is named, certified, compiled, and run on a stack of exactly its bound.
pub record HasRun (w : SampleWords) (before after : StoreView) (due : Due) : Type 0 where
  pub source : CertifiedSource
  pub image : Image
  pub stack : ℕ
  pub has_stack : HasStack (sample_text w.count) source image stack
  pub written : HasWritten w.out (sample_text w.count) before after
  pub sources_end :
      IsSourcesEnd has_stack.image_of.compiled.program as_exec [] (outcome image stack)
  pub is_due : IsDueAt w image stack (outcome image stack) due

-- A call failed while the source was written: the out file holds some first bytes of it, or wasn't made.
pub record CouldNotWrite (w : SampleWords) (before after : StoreView) : Type 0 where
  pub name : List ℕ
  pub named : w.out ≡ Some name
  pub part : IsCutShort before after name (sample_text w.count)
  pub failed : HasFailed before after

-- no memory was found, before the source was written or after it
abbrev pub RanOut : SampleWords → StoreView → StoreView → Type 0
RanOut w before after =
    IsUntouched before after ⊎ HasWritten w.out (sample_text w.count) before after

-- Why the sample wasn't run, and the status at that.
pub data CannotSample (w : SampleWords) (before after : StoreView) (status : Status) : Type 0 where
  unwritable : CouldNotWrite w before after → status ≡ StoreFailed kinds.Output
      → CannotSample w before after status
  no_memory : RanOut w before after → status ≡ NoMemory → CannotSample w before after status

-- What is due to `sample`, and why.
pub data IsDueToSample (w : SampleWords) (before after : StoreView) (due : Due) : Type 0 where
  ran : HasRun w before after due → IsDueToSample w before after due
  refused : (status : Status) → CannotSample w before after status
      → IsRefusal (names_of w) status due
      → IsDueToSample w before after due

-- ---- what follows

-- the status is that of the machine's outcome on the image that is made of the sample, on a stack of its bound
pub record EndsAtOutcome (w : SampleWords) (status : Status) : Type 0 where
  pub source : CertifiedSource
  pub image : Image
  pub stack : ℕ
  pub has_stack : HasStack (sample_text w.count) source image stack
  pub is : status ≡ status_at default_steps (outcome image stack)

-- each sample is run to the outcome of its machine
abbrev pub Accepts : SampleWords → StoreView → Status → Type 0
Accepts w before status = EndsAtOutcome w status

-- the statuses with which `sample` ends where no call fails and memory is found
pub data IsOfSample : Status → Type 0 where
  done : IsOfSample Done
  trapped : (cause : Cause) (pc : ℕ) → IsOfSample (Trapped cause pc)
  step_limit : IsOfSample (StepLimit default_steps)

-- no refusal of another command comes
abbrev pub Refuses : SampleWords → StoreView → Status → Type 0
Refuses w before status = IsOfSample status

abbrev pub sample : SampleWords → Task
sample w = record { IsDue = IsDueToSample w; Accepts = Accepts w; Refuses = Refuses w }

-- the task of the words that the code holds
abbrev pub to_do : SampleOrder → Task
to_do order = sample (words_in order)

-- ---- what the parts of the code answer

-- the answer of `write_source`
abbrev pub WritesText :
    (out : Option (List ℕ)) → (text : List ℕ) → StoreView → StoreView → Result Unit Status → Type 0
WritesText out text before after (Ok t) = HasWritten out text before after
WritesText None text before after (Err status) = ⊥
WritesText (Some name) text before after (Err status) =
    (status ≡ StoreFailed kinds.Output) × HasFailed before after × IsCutShort before after name text

-- a machine at the start of the image of this text, on a stack of exactly its bound
pub record HasStarted (text : List ℕ) (started : SampleStart) : Type 0 where
  pub source : CertifiedSource
  pub image : Image
  pub has_stack : HasStack text source image started.stack
  pub functions_are : started.functions ≡ length image.functions
  pub none_taken : taken_of started.machine ≡ 0
  pub stands : Stands started.machine image started.stack [] (start image (words_of []) [])

-- the text is a good source, and there is a stack for each image of it
pub record CanStart (text : List ℕ) : Type 0 where
  pub good : IsGoodSource text
  pub stacks : (s : CertifiedSource) (image : Image) → IsCertifiedAs text None s → IsImageOf s image
      → HasSmallBound s image

-- the answer of `start_text`: where the text can be started only memory can be wanting
abbrev pub StartsText : (text : List ℕ) → Result SampleStart Status → Type 0
StartsText text (Ok started) = HasStarted text started
StartsText text (Err status) = CanStart text → status ≡ NoMemory

-- how a run ended that exited with this output
pub record IsEnd (started : SampleStart) (output : List ℕ) (status : ℕ) (end : SampleEnd)
    : Type 0 where
  pub functions_are : end.functions ≡ started.functions
  pub stack_is : end.stack ≡ started.stack
  pub output_is : end.output ≡ length output
  pub status_is : end.status ≡ status

-- what the run comes to at this outcome
abbrev pub ComesTo : SampleStart → Outcome → Result SampleEnd Status → Type 0
ComesTo started (Exited output status) (Ok end) = IsEnd started output status end
ComesTo started (Exited output status) (Err other) = ⊥
ComesTo started (HasTrapped cause pc output) (Ok end) = ⊥
ComesTo started (HasTrapped cause pc output) (Err other) = other ≡ Trapped cause pc
ComesTo started (Going output) (Ok end) = ⊥
ComesTo started (Going output) (Err other) = other ≡ StepLimit default_steps

-- the answer of `run_counted`: no memory was found for the output, or it is that of the machine's outcome
abbrev pub RunsCounted : (text : List ℕ) → SampleStart → Result SampleEnd Status → Type 0
RunsCounted text started answer =
    (h : HasStarted text started)
    → (answer ≡ Err NoMemory) ⊎ ComesTo started (outcome h.image started.stack) answer

-- the lines of a run that ended so
abbrev pub lines_of : SampleEnd → List ℕ
lines_of end = sample_lines end.functions end.stack end.output end.status

-- what is due after the work
abbrev pub due_of : SampleWords → Result SampleEnd Status → Due
due_of w (Ok end) = counted end.functions end.stack end.output end.status
due_of w (Err status) = refusal (names_of w) status

-- the same, where the code holds the words
abbrev pub due_to : SampleOrder → Result SampleEnd Status → Due
due_to order work = due_of (words_in order) work

-- the answer of `run_sample`
abbrev pub Samples : SampleWords → StoreView → StoreView → Result SampleEnd Status → Type 0
Samples w before after work = IsDueToSample w before after (due_of w work)
