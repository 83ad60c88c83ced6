-- What a run of tasks in code asks for, and what it answers and writes, by the outcome that the definition gives.
use Rattle.std.specs.Prelude.{◌≡◌, ℕ, ◌<◌, ◌≤◌, Bool, true, false, List, [], ◌∷◌, ◌++◌, length, map, All, slice_index, Option, Some, None, Result, Ok, Err}
use Rattle.qs_image.specs.Image.{Image}
use Rattle.qs_ports.specs.SinkView.{SinkView, Appends, IsCut}
use Rattle.qs_machine.specs.declared.answers.Cause.{Cause}
use Rattle.qs_machine.specs.declared.machine.Machine.{Machine}
use Rattle.qs_machine.specs.State.{stack_limit}
use Rattle.qs_machine.specs.Run.{start_memory}
use Rattle.qs_machine.specs.Standing.{end_of, IsLoaded}
use Rattle.qs_machine.specs.Parts.{memory_in}
use Rattle.qs_tasks_run.specs.declared.tasks.Task.{Task as DeclaredTask}
use Rattle.qs_tasks_run.specs.declared.tasks.Arrival.{Arrival as DeclaredArrival}
use Rattle.qs_tasks_run.specs.Tasks.{task_of}
use Rattle.qs_tasks_run.specs.TasksRun.{System, Put, Progress, Scene, Outcome, going, trapped, entry_of, instruct, is_over, progress_of, lines_of, start_context}
use Rattle.qs_tasks_machine.specs.declared.hart.Hart.{Hart}
use Rattle.qs_tasks_machine.specs.declared.hart.Trap.{Trap}
use Rattle.qs_tasks_machine.specs.declared.report.TasksEnd.{TasksEnd}
use Rattle.qs_tasks_machine.specs.declared.report.TasksEnd.TheVariants.{Done, Trapped, StepLimit, SinkFailed}
use Rattle.qs_tasks_machine.specs.declared.report.TasksReport.{TasksReport}
use Rattle.qs_tasks_machine.specs.Harts.{RunsTasks, context_in, progress_in, scene_of}

abbrev pub system_of : Image → (stack : ℕ) → List DeclaredTask → System
system_of image stack tasks = record { image = image; size = stack; tasks = map task_of tasks }

-- ---- what is asked for

-- each task has a function of the image
abbrev pub HaveFunctions : Image → List DeclaredTask → Type 0
HaveFunctions image tasks = All (λ (t : DeclaredTask). t.function.0 < length image.functions) tasks

-- and the stack isn't too large
pub record MayStart (image : Image) (stack : ℕ) (tasks : List DeclaredTask) : Type 0 where
  pub functions : HaveFunctions image tasks
  pub most : stack ≤ stack_limit

-- the arrivals are of tasks
abbrev pub AreArrivals : List DeclaredTask → List DeclaredArrival → Type 0
AreArrivals tasks arrivals = All (λ (a : DeclaredArrival). a.task < length tasks) arrivals

-- ---- the start

-- where the function of each task begins
pub record AreEntries (image : Image) (stack : ℕ) (tasks : List DeclaredTask) (entries : List ℕ) : Type 0 where
  pub each : length entries ≡ length tasks
  pub entry : (task : ℕ) → task < length tasks → slice_index entries task ≡ entry_of (system_of image stack tasks) task

-- a machine that has run nothing, and whose pc and registers but x2 are 0
pub record StandsReady (image : Image) (stack : ℕ) (m : Machine) : Type 0 where
  pub loaded : IsLoaded m image stack
  pub going : end_of m ≡ None
  pub context : context_in m ≡ start_context
  pub memory : memory_in m ≡ start_memory image

-- ---- an instruction

abbrev pub put_of : (task : ℕ) → Option ℕ → List Put
put_of task None = []
put_of task (Some byte) = record { task = task; byte = byte } ∷ []

-- behind an instruction of a task: it went on and put these bytes, or trapped
abbrev pub IsInstructed : System → List Put → (task : ℕ) → Hart → Hart → Outcome → Result (Option ℕ) Trap → Type 0
IsInstructed y puts task h k o (Ok byte) = RunsTasks k y × (o ≡ going (scene_of y k (puts ++ put_of task byte)))
IsInstructed y puts task h k o (Err trap) =
    (o ≡ trapped trap.task trap.cause trap.pc (progress_in y h puts)) × (k.returned.items ≡ h.returned.items)

-- it takes the instruction that the definition gives to the task that runs
abbrev pub Instructs : Hart → Hart → Result (Option ℕ) Trap → Type 0
Instructs h k result =
    (y : System) (puts : List Put) → RunsTasks h y
    → IsInstructed y puts (slice_index h.running.items 0) h k (instruct y (slice_index h.running.items 0) (scene_of y h puts)) result

-- ---- what a run answers

-- for each task this many activations have returned
pub record AreReturned (p : Progress) (count : ℕ) (returned : List ℕ) : Type 0 where
  pub each : length returned ≡ count
  pub is : (task : ℕ) → task < count → slice_index returned task ≡ p.returned task

-- all output was appended, and the counts are those of the run
pub record Wrote (y : System) (p : Progress) (v w : SinkView) (returned : List ℕ) : Type 0 where
  pub appended : Appends v w (lines_of y p.written)
  pub counts : AreReturned p (length y.tasks) returned

-- the run goes on, and is over or not
pub record Goes (over : Bool) (y : System) (o : Outcome) (v w : SinkView) (returned : List ℕ) : Type 0 where
  pub scene : Scene
  pub is : o ≡ going scene
  pub over_is : is_over scene ≡ over
  pub wrote : Wrote y scene.progress v w returned

pub record HasTrapped (y : System) (o : Outcome) (task : ℕ) (cause : Cause) (pc : ℕ) (v w : SinkView) (returned : List ℕ) : Type 0 where
  pub progress : Progress
  pub is : o ≡ trapped task cause pc progress
  pub wrote : Wrote y progress v w returned

-- the sink failed, and took a front of the output
abbrev pub IsCutOff : System → Outcome → SinkView → SinkView → Type 0
IsCutOff y o v w = (k : ℕ) × IsCut v w (lines_of y (progress_of o).written) k

abbrev pub EndsAs : System → Outcome → SinkView → SinkView → TasksEnd → List ℕ → Type 0
EndsAs y o v w Done returned = Goes true y o v w returned
EndsAs y o v w (Trapped task cause pc) returned = HasTrapped y o task cause pc v w returned
EndsAs y o v w StepLimit returned = Goes false y o v w returned
EndsAs y o v w SinkFailed returned = IsCutOff y o v w

abbrev pub Reports : System → Outcome → SinkView → SinkView → TasksReport → Type 0
Reports y o v w r = EndsAs y o v w r.end r.returned.items
