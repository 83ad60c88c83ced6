-- `exec`: a source is certified and compiled, and its image is run on a stack of exactly its bound.
use Rattle.std.specs.Prelude.{◌≡◌, ◌⊎◌, ◌↔◌, ℕ, ◌≤◌, ℤ, List, [], ◌∷◌, IsTrue, Option, Some, None, Result, Ok, Err}
use Rattle.qs_assert.specs.declared.define.Amount.{Amount}
use Rattle.qs_assert.specs.declared.define.Amount.TheVariants.{Finite, Infinite, Wide}
use Rattle.qs_meaning.specs.Typed.{TypedProgram}
use Rattle.qs_ports.specs.StoreView.{StoreView}
use Rattle.qs_image.specs.Image.{Image}
use Rattle.qs_machine.specs.declared.answers.Cause.{Cause}
use Rattle.qs_machine.specs.Arguments.{words_of}
use Rattle.qs_machine.specs.Run.{Outcome, Exited, Trapped as HasTrapped, Going, machine, start}
use Rattle.qs_machine.specs.Standing.{Stands, taken_of}
use Rattle.qs_machine.specs.State.{stack_limit}
use Rattle.qs_events.specs.Events.{output_of}
use Rattle.qs_events.specs.BoundedRun.{trace_of}
use Rattle.qs_emit.specs.Agree.{Begins, HasEndedWith, IsUndefinedWithin}
use Rattle.qs_compile.specs.Agree.{IsInput}
use Rattle.qs_report.specs.Lines.{bound_line, end_line}
use Rattle.qs_report.specs.declared.fault_texts.Shown.TheVariants as shown
use Rattle.qs_driver_session.specs.Names.{Names, no_names, or_empty, name_in}
use Rattle.qs_driver_session.specs.Faults.{status_line}
use Rattle.qs_driver_session.specs.Limits.{input_limit}
use Rattle.qs_driver_steps.specs.Pieces.{on_out, on_log}
use Rattle.qs_driver_session.specs.Due.{Due, IsRefusal}
use Rattle.qs_driver_steps.specs.Files.{IsUntouched, IsTooLong}
use Rattle.qs_driver_session.specs.Files.{CannotRead}
use Rattle.qs_driver_session.specs.Starting.{RunWords, run_words, ReadInput, HasInput, IsNoStack, status_at}
use Rattle.qs_driver_session.specs.Task.{Task, Begun}
use Rattle.qs_driver_session.specs.declared.status.Status.{Status}
use Rattle.qs_driver_session.specs.declared.status.Status.TheVariants.{Done, Source, Missing, Trapped, StepLimit, NoBound, NoMemory}
use Rattle.qs_driver_session.specs.declared.status.SourceFault.TheVariants.{TooLong}
use Rattle.qs_driver_session.specs.declared.status.FileKind.TheVariants as kinds
use Rattle.qs_driver.specs.Certified.{certify_words}
use Rattle.qs_driver.specs.Made.{MakeWords, make_words, IsMade, CannotMake, FitsMain, IsOfMade, RefusesMade}
use Rattle.qs_driver.specs.Bounds.{seen_runs}
use Rattle.qs_driver.specs.declared.commands.exec.ExecOrder.{ExecOrder}
use Rattle.qs_driver.specs.declared.commands.exec.Started.{Started}

-- ---- the words

-- the source, its proof file and its input where they are named, main's arguments, and the most steps
pub record ExecWords : Type 0 where
  pub source : List ℕ
  pub proof : Option (List ℕ)
  pub args : List ℤ
  pub input : Option (List ℕ)
  pub steps : ℕ

abbrev pub exec_words : List ℕ → Option (List ℕ) → List ℤ → Option (List ℕ) → ℕ → ExecWords
exec_words source proof args input steps =
    record { source = source; proof = proof; args = args; input = input; steps = steps }

-- the words as the code holds them
abbrev pub words_in : ExecOrder → ExecWords
words_in order =
    exec_words order.source.now (name_in order.proof) order.args.now (name_in order.input)
    order.steps

-- those of what is made
abbrev pub to_make : ExecWords → MakeWords
to_make e = make_words (certify_words e.source e.proof) e.args

-- those of the run of an image on this stack
abbrev pub as_run : ExecWords → (stack : ℕ) → RunWords
as_run e stack = run_words [] stack e.args e.input e.steps

abbrev pub names_of : ExecWords → Names
names_of e = record no_names {
  source = e.source;
  derivation = or_empty e.proof;
  input = or_empty e.input;
}

-- ---- what is due

-- the source's image is made, and there is a stack of exactly its bound
pub record HasStack (e : ExecWords) (before : StoreView) (image : Image) (stack : ℕ) : Type 0 where
  pub is_made : IsMade (to_make e) before image (Finite stack)
  pub small : stack ≤ stack_limit

-- the bound on `log`, the output on `out`, then a line on `log`
abbrev pub after_run : (stack : ℕ) → List ℕ → Status → List ℕ → Due
after_run stack output status line = record {
  status = status;
  pieces = on_log (bound_line (shown.Number stack)) ∷ on_out output ∷ on_log line ∷ [];
}

-- the bound and the output, then the line of the fault
abbrev pub refused_after : (stack : ℕ) → List ℕ → ExecWords → Status → Due
refused_after stack output e status =
    after_run stack output status (status_line (names_of e) status)

-- what is due at this outcome of the machine
abbrev pub IsDueAt : ExecWords → (stack : ℕ) → Outcome → Due → Type 0
IsDueAt e stack (Exited output status) due = due ≡ after_run stack output Done (end_line status)
IsDueAt e stack (HasTrapped cause pc output) due =
    due ≡ refused_after stack output e (Trapped cause pc)
IsDueAt e stack (Going output) due = due ≡ refused_after stack output e (StepLimit e.steps)

-- Where the machine exits, the source has ended with the same output and status, or is undefined; where it traps, the source
-- is undefined; and where it goes on, the source has come as far, or is undefined.
abbrev pub IsSourcesEnd : TypedProgram → ExecWords → (input : List ℕ) → Outcome → Type 0
IsSourcesEnd program e input (Exited output status) =
    HasEndedWith (seen_runs program e.args input e.steps) output status
    ⊎ IsUndefinedWithin (seen_runs program e.args input e.steps) output
IsSourcesEnd program e input (HasTrapped cause pc output) =
    IsUndefinedWithin (seen_runs program e.args input e.steps) output
IsSourcesEnd program e input (Going output) =
    Begins (output_of (trace_of (seen_runs program e.args input e.steps))) output
    ⊎ IsUndefinedWithin (seen_runs program e.args input e.steps) output

-- The machine was run on the source's image, on a stack of exactly the bound.
pub record HasRun (e : ExecWords) (before after : StoreView) (due : Due) : Type 0 where
  pub image : Image
  pub input : List ℕ
  pub stack : ℕ
  pub has_stack : HasStack e before image stack
  pub input_read : ReadInput before e.input input
  pub untouched : IsUntouched before after
  pub sources_end :
      IsSourcesEnd has_stack.is_made.makes.image_of.compiled.program e input
      (machine image stack (words_of e.args) input e.steps)
  pub is_due : IsDueAt e stack (machine image stack (words_of e.args) input e.steps) due

-- the source's image is made, and there is no stack for its bound
pub record HasNoStack (e : ExecWords) (before : StoreView) (amount : Amount) : Type 0 where
  pub image : Image
  pub is_made : IsMade (to_make e) before image amount
  pub none : IsNoStack amount

-- the image can be run, and its input has this name
pub record ComesToInput (e : ExecWords) (before : StoreView) (name : List ℕ) : Type 0 where
  pub image : Image
  pub stack : ℕ
  pub has_stack : HasStack e before image stack
  pub named : e.input ≡ Some name

-- Why the machine wasn't run, and the status at that. The tests come in this order.
pub data CannotExec (e : ExecWords) (before after : StoreView) (status : Status) : Type 0 where
  not_made : CannotMake (to_make e) before after status → CannotExec e before after status
  no_stack : (amount : Amount) → IsUntouched before after → HasNoStack e before amount
      → status ≡ NoBound amount → CannotExec e before after status
  unread_input : (name : List ℕ) → ComesToInput e before name
      → CannotRead before after name kinds.Input input_limit status
      → CannotExec e before after status
  no_memory : IsUntouched before after → status ≡ NoMemory → CannotExec e before after status

-- What is due to `exec`, and why.
pub data IsDueToExec (e : ExecWords) (before after : StoreView) (due : Due) : Type 0 where
  ran : HasRun e before after due → IsDueToExec e before after due
  refused : (status : Status) → CannotExec e before after status
      → IsRefusal (names_of e) status due → IsDueToExec e before after due

-- ---- what follows

-- The source and its proofs are right, the arguments are main's, and the input is there.
pub record IsGood (e : ExecWords) (before : StoreView) : Type 0 where
  pub input : List ℕ
  pub told : IsTrue before.told
  pub fits : FitsMain (to_make e) before.files
  pub input_there : HasInput before e.input input

-- the status is that of the machine's outcome on the image that is made, on a stack of its bound
pub record EndsAtOutcome (e : ExecWords) (before : StoreView) (input : List ℕ) (status : Status)
    : Type 0 where
  pub image : Image
  pub stack : ℕ
  pub has_stack : HasStack e before image stack
  pub is : status ≡ status_at e.steps (machine image stack (words_of e.args) input e.steps)

-- there is no stack for the bound of the image that is made, and the status tells this bound
pub record LacksStack (e : ExecWords) (before : StoreView) (status : Status) : Type 0 where
  pub amount : Amount
  pub has_none : HasNoStack e before amount
  pub is : status ≡ NoBound amount

-- each good source is run to the outcome of its machine, unless there is no stack for its bound
abbrev pub Accepts : ExecWords → StoreView → Status → Type 0
Accepts e before status =
    (g : IsGood e before) → EndsAtOutcome e before g.input status ⊎ LacksStack e before status

-- there is a stack of exactly so many bytes
abbrev pub IsStack : Amount → Type 0
IsStack (Finite bytes) = bytes ≤ stack_limit
IsStack Infinite = ⊥
IsStack Wide = ⊥

-- an input is named, and of its file this is so
pub record OfInput (e : ExecWords) (before : StoreView) (IsSo : Option (List ℕ) → Type 0)
    : Type 0 where
  pub name : List ℕ
  pub named : e.input ≡ Some name
  pub so : IsSo (before.files name)

abbrev pub LacksInput : ExecWords → StoreView → Type 0
LacksInput e before = OfInput e before (λ file. file ≡ None)

abbrev pub HasLongInput : ExecWords → StoreView → Type 0
HasLongInput e before = OfInput e before (λ file. IsTooLong file input_limit)

-- How it ends where the source and its proofs are right and the arguments are main's: by the one image that this call
-- made, and its bound at the arguments. Another image of the source may have other costs, and another bound.
pub record Ends (e : ExecWords) (before : StoreView) (status : Status) : Type 0 where
  pub image : Image
  pub bound : Amount
  pub is_made : IsMade (to_make e) before image bound
  -- `no bound` tells this bound, exactly where there is no stack for it
  pub no_bound : (amount : Amount)
      → (status ≡ NoBound amount) ↔ ((amount ≡ bound) × IsNoStack bound)
  -- where there is one, the file of the input that is named is missing, or too long
  pub input_missing : (status ≡ Missing kinds.Input) ↔ (IsStack bound × LacksInput e before)
  pub input_long :
      (status ≡ Source (TooLong kinds.Input)) ↔ (IsStack bound × HasLongInput e before)
  -- where the input is there too, the status is that of the machine's outcome on this stack
  pub outcome :
      (stack : ℕ) (input : List ℕ) → bound ≡ Finite stack → IsStack bound
      → HasInput before e.input input
      → status ≡ status_at e.steps (machine image stack (words_of e.args) input e.steps)

-- the statuses with which `exec` ends where no call fails and memory is found
pub data IsOfExec (e : ExecWords) : Status → Type 0 where
  done : IsOfExec e Done
  of_made : {status : Status} → IsOfMade e.args status → IsOfExec e status
  no_bound : (amount : Amount) → IsNoStack amount → IsOfExec e (NoBound amount)
  missing_input : IsOfExec e (Missing kinds.Input)
  long_input : IsOfExec e (Source (TooLong kinds.Input))
  trapped : (cause : Cause) (pc : ℕ) → IsOfExec e (Trapped cause pc)
  step_limit : IsOfExec e (StepLimit e.steps)

-- Each refusal of `exec` comes exactly where its cause is, and no refusal of another command comes. What goes by the bound
-- goes by that of the image that this call made, and comes of no source, proofs or arguments that are refused.
pub record Refuses (e : ExecWords) (before : StoreView) (status : Status) : Type 0 where
  pub own : IsOfExec e status
  pub made : IsTrue before.told → RefusesMade (to_make e) before.files status
  -- no status but a refusal of them comes where the source, its proofs or the arguments aren't right
  pub right : IsTrue before.told → (IsOfMade e.args status → ⊥) → FitsMain (to_make e) before.files
  pub ends : IsTrue before.told → FitsMain (to_make e) before.files → Ends e before status

abbrev pub exec : ExecWords → Task
exec e = record { IsDue = IsDueToExec e; Accepts = Accepts e; Refuses = Refuses e }

-- the task of the words that the code holds
abbrev pub to_do : ExecOrder → Task
to_do order = exec (words_in order)

-- ---- what the parts of the code answer

-- a machine at the start of the source's image, on a stack of its bound, and the input
pub record HasStarted (e : ExecWords) (before after : StoreView) (started : Started) : Type 0 where
  pub image : Image
  pub has_stack : HasStack e before image started.stack
  pub input_read : ReadInput before e.input started.ready.input.items
  pub bytes : IsInput started.ready.input.items
  pub untouched : IsUntouched before after
  pub none_taken : taken_of started.ready.machine ≡ 0
  pub stands : Stands started.ready.machine image started.stack started.ready.input.items
      (start image (words_of e.args) started.ready.input.items)

-- the answer of `start_source`
abbrev pub Starts : ExecWords → StoreView → StoreView → Result Started Status → Type 0
Starts e before after (Ok started) = HasStarted e before after started
Starts e before after (Err status) = CannotExec e before after status

-- a machine that was started has taken no input yet
abbrev pub IsFresh : Result Started Status → Type 0
IsFresh (Ok started) = taken_of started.ready.machine ≡ 0
IsFresh (Err status) = Unit {0}

-- the task, where this came of the work on the files
abbrev pub begun : ExecOrder → Result Started Status → Begun
begun order started =
    record { task = to_do order; Known = λ v w. Starts (words_in order) v w started }
