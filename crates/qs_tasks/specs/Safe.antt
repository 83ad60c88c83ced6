-- What is promised of tasks on one stack: none traps, and the output of each is that of its activations alone.
use Rattle.std.specs.Prelude.{◌≡◌, ◌⊎◌, ℕ, ◌+◌, ◌<◌, ◌≤◌, ◌==◌, true, List, [], ◌∷◌, ◌++◌, length, map, All, if◌then◌else◌}
use Rattle.std.specs.Prelude.{slice_index_or}
use Rattle.qs_events.specs.Events.{output_of}
use Rattle.qs_events.specs.Runs.{events_of}
use Rattle.qs_calls.specs.World.{World}
use Rattle.qs_image.specs.Image.{IsWellFormed}
use Rattle.qs_machine.specs.State.{stack_limit}
use Rattle.qs_emit.specs.Emitted.{Emitted}
use Rattle.qs_emit.specs.Relation.{function_at}
use Rattle.qs_tasks_run.specs.Tasks.{Task, Arrival}
use Rattle.qs_tasks_run.specs.TasksRun.{Scene, going, bytes_by, tasks_run, is_over}
use Rattle.qs_tasks_run.specs.StackSize.{Claim, stack_for}
use Rattle.qs_tasks.specs.Alone.{Program, function_of, activation, Alone, AreDefined}
use Rattle.qs_tasks.specs.Isolated.{IsPartOf, AreIsolated}

-- how often a task arrives
abbrev pub one_of : (task other : ℕ) → ℕ
one_of task other = if task == other then 1 else 0

abbrev pub arrivals_of : List Arrival → (task : ℕ) → ℕ
arrivals_of [] task = 0
arrivals_of (a ∷ arrivals) task = one_of a.task task + arrivals_of arrivals task

abbrev pub no_claim : Claim
no_claim = record { priority = 0; bound = 0 }

-- the most bytes of the stack that an activation takes, as is claimed
abbrev pub bound_of : List Claim → (task : ℕ) → ℕ
bound_of claims task = (slice_index_or claims task no_claim).bound

-- the image is that of the unit, and each task is a function of it without parameters
pub record AreTasks (p : Program) : Type 0 where
  pub emitted : Emitted p.unit p.first p.system.image
  pub well_formed : IsWellFormed p.system.image
  pub known : (task : ℕ) → task < length p.system.tasks → function_of p task < length p.unit.functions
  pub without_parameters :
      (task : ℕ) → task < length p.system.tasks → length (function_at p.unit (function_of p task)).parameters ≡ 0
  pub inputs : All (λ (t : Task). All (λ byte. byte < 256) t.input) p.system.tasks
  -- what they touch is of the memory that the image begins with, and no task may change what another touches
  pub parts : (task : ℕ) → task < length p.system.tasks → IsPartOf p.first (p.memory_of task)
  pub isolated :
      (task other : ℕ) → task < length p.system.tasks → other < length p.system.tasks → (task ≡ other → ⊥)
      → AreIsolated (p.memory_of task) (p.memory_of other)

-- the arrivals are of tasks, none of whose activations alone is undefined, and the stack has the sum over the levels
pub record MayRun (p : Program) (claims : List Claim) (arrivals : List Arrival) : Type 0 where
  pub arrive : All (λ (a : Arrival). a.task < length p.system.tasks) arrivals
  pub defined : (task : ℕ) → AreDefined p task (arrivals_of arrivals task) (bound_of claims task)
  pub priorities : map (λ (c : Claim). c.priority) claims ≡ map (λ (t : Task). t.priority) p.system.tasks
  pub low_priorities : All (λ (t : Task). t.priority < 256) p.system.tasks
  pub most : p.system.size ≤ stack_limit
  pub enough : stack_for claims ≤ p.system.size

-- Of so many arrivals, those whose activations returned gave all of their output. What the next one gave, if there is one,
-- is a front of its output alone.
pub record GaveSoFar (p : Program) (task times number : ℕ) (output : List ℕ) : Type 0 where
  pub few : number ≤ times
  pub whole : List ℕ
  pub world : World
  pub alone : Alone p task number whole world
  pub part : List ℕ
  pub is : output ≡ whole ++ part
  pub next : (part ≡ []) ⊎ (number < times)
  pub n : ℕ
  pub rest : List ℕ
  pub begins : output_of (events_of (activation p task world n)) ≡ part ++ rest

-- the run goes on, or is over, and then each activation has returned
pub record IsSafe (p : Program) (arrivals : List Arrival) (instructions : ℕ) : Type 0 where
  pub scene : Scene
  pub goes : tasks_run p.system arrivals instructions ≡ going scene
  pub gave :
      (task : ℕ) → task < length p.system.tasks
      → GaveSoFar p task (arrivals_of arrivals task) (scene.progress.returned task) (bytes_by task scene.progress.written)
  pub all : is_over scene ≡ true → (task : ℕ) → scene.progress.returned task ≡ arrivals_of arrivals task

abbrev pub TasksAreSafe : Type 0
TasksAreSafe =
    (p : Program) (claims : List Claim) (arrivals : List Arrival) (instructions : ℕ) → AreTasks p → MayRun p claims arrivals
    → IsSafe p arrivals instructions
