-- What is promised of the tasks of a source on one stack, by the source's meaning.
use Rattle.std.specs.Prelude.{◌≡◌, ℕ, ◌<◌, ◌≤◌, true, false, List, [], ◌++◌, length, map, All, Some}
use Rattle.std.specs.List.{slice_get}
use Rattle.qs_syntax.specs.Trees.{UnitTree}
use Rattle.qs_syntax.specs.Units.{IsRead}
use Rattle.qs_types.specs.Limits.{IsWithinLimits}
use Rattle.qs_types.specs.WellTyped.{WellTyped}
use Rattle.qs_memory.specs.Values.{Value}
use Rattle.qs_memory.specs.Memory.{Memory, block_at}
use Rattle.qs_events.specs.Runs.{Left, has_ended, ending_of}
use Rattle.qs_meaning.specs.Typed.{TypedProgram}
use Rattle.qs_meaning.specs.Units.{typed_of, initial_memory}
use Rattle.qs_hiding.specs.Hidden.{Reach, IsReach, IsClosed}
use Rattle.qs_core.specs.Trees.{CoreFunctionTree, CoreUnitTree}
use Rattle.qs_core.specs.Units as core
use Rattle.qs_elaborate_bodies.specs.Units.{core_of}
use Rattle.qs_assert.specs.Values.{finite, plus}
use Rattle.qs_triples.specs.Derivations.{EntryTree, ProofsTree, entry_of}
use Rattle.qs_triples.specs.Entries.{Covers}
use Rattle.qs_triples.specs.Valuations.{value_at_entry}
use Rattle.qs_image.specs.Image.{Image, IsWellFormed}
use Rattle.qs_machine.specs.State.{stack_limit}
use Rattle.qs_emit.specs.Emitted.{Emitted}
use Rattle.qs_compile.specs.Units.{linear}
use Rattle.qs_tasks_run.specs.Tasks.{Task, Arrival}
use Rattle.qs_tasks_run.specs.TasksRun.{System, task_at, Scene, going, bytes_by, tasks_run, is_over}
use Rattle.qs_tasks_run.specs.StackSize.{Claim, stack_for}
use Rattle.qs_tasks.specs.Alone.{costs_of}
use Rattle.qs_tasks.specs.Safe.{arrivals_of, bound_of}
use Rattle.qs_tasks_source.specs.Activations.{alone, output_alone, AreDefined}

-- ---- a source with tasks

-- a source, what it means, its core, its image, and its tasks
pub record Source : Type 0 where
  pub unit : UnitTree
  pub program : TypedProgram
  pub core : CoreUnitTree
  pub image : Image
  pub tasks : List Task
  -- of each task the variables that it touches, and the functions that it may call
  pub reach_of : (task : ℕ) → Reach

abbrev pub system_of : Source → (size : ℕ) → System
system_of s size = record { image = s.image; size = size; tasks = s.tasks }

abbrev pub task_of : Source → (task : ℕ) → Task
task_of s task = task_at s.tasks task

-- the unit is read, well typed and within the limits, this is its meaning and its core, and the image is that of its core
pub record IsBuilt (s : Source) : Type 0 where
  pub read : IsRead s.unit
  pub well_typed : WellTyped s.unit
  pub limits : IsWithinLimits s.unit
  pub meant : typed_of s.unit ≡ Some s.program
  pub core_is : core_of s.unit ≡ Some s.core
  pub emitted : Emitted (linear s.core) (core.initial_memory s.core) s.image
  pub well_formed : IsWellFormed s.image

-- ---- what tasks touch

-- a run of the function stays in the reach: what it can come to calls no other function and names no other variable, and
-- no initial pointer leads out
pub record StaysIn (u : TypedProgram) (function : ℕ) (r : Reach) : Type 0 where
  pub reach : IsReach r u.functions (length u.blocks)
  pub begins : r.may_call function ≡ true
  pub closed : IsClosed r (initial_memory u)

-- what both touch can't be written
abbrev pub AreApart : TypedProgram → Reach → Reach → Type 0
AreApart u r s =
    (block : ℕ) → block < length u.blocks → r.keeps block ≡ true → s.keeps block ≡ true
    → (block_at (initial_memory u) block).is_writable ≡ false

pub record AreIsolated (s : Source) : Type 0 where
  pub stay : (task : ℕ) → task < length s.tasks → StaysIn s.program (task_of s task).function (s.reach_of task)
  pub apart :
      (task other : ℕ) → task < length s.tasks → other < length s.tasks → (task ≡ other → ⊥)
      → AreApart s.program (s.reach_of task) (s.reach_of other)

-- ---- what tasks take of the stack

-- It is a function without parameters, and its cost by the image and the value of its precondition are this bound.
pub record IsBoundedBy (s : Source) (proofs : ProofsTree) (function bound : ℕ) : Type 0 where
  pub body : CoreFunctionTree
  pub is : slice_get s.core.functions function ≡ Some body
  pub without_parameters : body.parameters ≡ []
  pub entry : EntryTree
  pub stands : entry_of proofs function ≡ Some entry
  pub bound_is :
      plus (finite (costs_of s.image function)) (value_at_entry (costs_of s.image) proofs.defines body [] entry.spec.pre)
      ≡ finite bound

-- each task claims its priority and its bound, by proofs that cover the core
pub record AreClaims (s : Source) (claims : List Claim) : Type 0 where
  pub given : ProofsTree
  pub proofs : ProofsTree
  pub covers : Covers s.core given proofs
  pub bounded :
      (task : ℕ) → task < length s.tasks → IsBoundedBy s proofs (task_of s task).function (bound_of claims task)
  pub priorities : map (λ (c : Claim). c.priority) claims ≡ map (λ (t : Task). t.priority) s.tasks
  pub low_priorities : All (λ (t : Task). t.priority < 256) s.tasks

-- ---- what is promised

-- The arrivals are of tasks, none of which alone is undefined, and the stack has the sum over the levels.
pub record MayRun (s : Source) (claims : List Claim) (arrivals : List Arrival) (size : ℕ) : Type 0 where
  pub inputs : All (λ (t : Task). All (λ byte. byte < 256) t.input) s.tasks
  pub arrive : All (λ (a : Arrival). a.task < length s.tasks) arrivals
  pub defined : (task : ℕ) → task < length s.tasks → AreDefined s.program (task_of s task) (arrivals_of arrivals task)
  pub most : size ≤ stack_limit
  pub enough : stack_for claims ≤ size

-- Of so many arrivals of a task so many have returned, and all that the task put is this: all that these put alone, and what
-- the next one has put so far. It is a front of what all of them put alone.
pub record GaveSoFar (u : TypedProgram) (t : Task) (times returned : ℕ) (output : List ℕ) : Type 0 where
  pub few : returned ≤ times
  pub n : ℕ
  pub left : Left Value Memory
  pub ended : ending_of (alone u t n returned) ≡ has_ended left
  pub part : List ℕ
  pub is : output ≡ output_alone u t n returned ++ part
  pub rest : List ℕ
  pub front : output_alone u t n times ≡ output ++ rest

-- the run goes on, or is over, and then each activation has returned
pub record IsSafe (s : Source) (arrivals : List Arrival) (size instructions : ℕ) : Type 0 where
  pub scene : Scene
  pub goes : tasks_run (system_of s size) arrivals instructions ≡ going scene
  pub gave :
      (task : ℕ) → task < length s.tasks
      → GaveSoFar s.program (task_of s task) (arrivals_of arrivals task) (scene.progress.returned task)
      (bytes_by task scene.progress.written)
  pub all : is_over scene ≡ true → (task : ℕ) → scene.progress.returned task ≡ arrivals_of arrivals task

abbrev pub SourceTasksAreSafe : Type 0
SourceTasksAreSafe =
    (s : Source) (claims : List Claim) (arrivals : List Arrival) (size instructions : ℕ) → IsBuilt s → AreIsolated s
    → AreClaims s claims → MayRun s claims arrivals size → IsSafe s arrivals size instructions
