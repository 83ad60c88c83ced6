-- The hart of tasks in code, and the scene of a run at which it stands.
use Rattle.std.specs.Prelude.{◌≡◌, ℕ, ◌+◌, ◌-◌, ◌*◌, ◌^◌, ◌<◌, ◌≤◌, ◌==◌, ◌&&◌, ◌||◌, not, Bool, true, false, nat_le}
use Rattle.std.specs.Prelude.{List, [], length, map, drop, slice_index, All, Option, Some, None, Result, Ok, Err, vec_capacity}
use Rattle.std.specs.List.{remove}
use Rattle.qs_isa.specs.Registers.{ra, sp}
use Rattle.qs_image.specs.Image.{Image}
use Rattle.qs_machine.specs.declared.machine.Machine.{Machine}
use Rattle.qs_machine.specs.State.{State, with_value, stack_base, stack_top}
use Rattle.qs_machine.specs.Standing.{end_of, IsLoaded}
use Rattle.qs_machine.specs.Parts.{pc_of, registers_in, memory_in}
use Rattle.qs_tasks_run.specs.declared.tasks.Arrival.{Arrival as DeclaredArrival}
use Rattle.qs_tasks_run.specs.declared.tasks.Task.{Task as DeclaredTask}
use Rattle.qs_tasks_run.specs.Tasks.{task_of, arrival_of}
use Rattle.qs_tasks_run.specs.Contexts.{Context, context_bytes, stored, taken_back}
use Rattle.qs_tasks_run.specs.TasksRun.{System, task_at, entry_of, Put, Progress, Scene, Outcome, going, trapped, choice, due}
use Rattle.qs_tasks_machine.specs.declared.hart.Hart.{Hart}
use Rattle.qs_tasks_machine.specs.declared.hart.Trap.{Trap}

-- ---- contexts on the stack of a machine

abbrev pub context_in : Machine → Context
context_in m = record { pc = pc_of m; registers = registers_in m }

abbrev pub context_of : State → Context
context_of s = record { pc = s.pc; registers = s.registers }

abbrev pub stack_pointer_in : Machine → ℕ
stack_pointer_in m = registers_in m sp

-- so many bytes from an address on are of the stack
pub record HasStackFrom (m : Machine) (from bytes : ℕ) : Type 0 where
  pub image : Image
  pub size : ℕ
  pub loaded : IsLoaded m image size
  pub low : stack_base size ≤ from
  pub high : from + bytes ≤ stack_top

-- the context is stored at an address
abbrev pub storing : (from : ℕ) → State → State
storing from s = record s { memory = stored (context_of s) from s.memory }

-- the context is stored below x2, and a function is entered with x1 = 0
abbrev pub entering : (entry : ℕ) → State → State
entering entry s = record {
  pc = entry;
  registers = with_value (with_value s.registers ra 0) sp (s.registers sp - context_bytes);
  memory = stored (context_of s) (s.registers sp - context_bytes) s.memory;
  input = s.input;
  output = s.output;
}

-- the context at an address is taken back
abbrev pub taking_back : (from : ℕ) → State → State
taking_back from s = record s { pc = (taken_back s.memory from).pc; registers = (taken_back s.memory from).registers }

-- ---- the hart

abbrev pub count_of : Hart → ℕ
count_of h = length h.tasks.now

-- what has come about, where these bytes were put
abbrev pub progress_in : System → Hart → List Put → Progress
progress_in y h puts = record {
  memory = memory_in h.machine;
  inputs = λ task. drop (slice_index h.taken.items task) (task_at y.tasks task).input;
  written = puts;
  returned = λ task. slice_index h.returned.items task;
}

-- where everything stands
abbrev pub scene_of : System → Hart → List Put → Scene
scene_of y h puts = record {
  context = context_in h.machine;
  progress = progress_in y h puts;
  running = h.running.items;
  waiting = h.waiting.items;
  coming = map arrival_of h.coming.now;
  time = h.time;
}

-- the machine has the image and the stack of the system, and goes on; x2 stands in the stack, and there are no registers
-- but x0 to x31
pub record StandsFor (m : Machine) (base : ℕ) (y : System) : Type 0 where
  pub loaded : IsLoaded m y.image y.size
  pub going : end_of m ≡ None
  pub base_is : base ≡ stack_base y.size
  pub low : base ≤ stack_pointer_in m
  pub high : stack_pointer_in m ≤ stack_top
  pub no_more : (r : ℕ) → 32 ≤ r → registers_in m r ≡ 0

-- the tasks of the system, and where their functions begin
pub record AreTasks (tasks : List DeclaredTask) (entries : List ℕ) (y : System) : Type 0 where
  pub tasks_are : map task_of tasks ≡ y.tasks
  pub each : length entries ≡ length tasks
  pub entry : (task : ℕ) → task < length tasks → slice_index entries task ≡ entry_of y task

-- what each of so many tasks has taken of its input, and how often it has returned
pub record AreCounts (count : ℕ) (taken returned : List ℕ) (y : System) : Type 0 where
  pub each_taken : length taken ≡ count
  pub each_returned : length returned ≡ count
  pub within : (task : ℕ) → task < count → slice_index taken task ≤ length (task_at y.tasks task).input

-- all that run, wait or are to come are of so many tasks
pub record AreKnown (count : ℕ) (running waiting : List ℕ) (coming : List DeclaredArrival) : Type 0 where
  pub run : All (λ (task : ℕ). task < count) running
  pub wait : All (λ (task : ℕ). task < count) waiting
  pub come : All (λ (a : DeclaredArrival). a.task < count) coming

-- it runs the tasks of the system, and goes on
pub record RunsTasks (h : Hart) (y : System) : Type 0 where
  pub machine : StandsFor h.machine h.base y
  pub tasks : AreTasks h.tasks.now h.entries.items y
  pub counts : AreCounts (count_of h) h.taken.items h.returned.items y
  pub known : AreKnown (count_of h) h.running.items h.waiting.items h.coming.now

-- it runs the tasks of some system
pub record RunsSome (h : Hart) : Type 0 where
  pub system : System
  pub is : RunsTasks h system

-- the activations that run, wait or are to come
abbrev pub ahead : Hart → ℕ
ahead h = length h.running.items + (length h.waiting.items + length h.coming.now)

-- there is room for so many more that run or wait, and each task's count may rise by one for each
pub record HasRoom (h : Hart) (more : ℕ) : Type 0 where
  pub running : ahead h + more ≤ vec_capacity h.running
  pub waiting : ahead h + more ≤ vec_capacity h.waiting
  pub returned : (task : ℕ) → task < count_of h → slice_index h.returned.items task + (ahead h + more) < 2 ^ 63

-- the outcome, as the code shows it
abbrev pub IsOutcome : System → List Put → Outcome → Hart → Result Unit Trap → Type 0
IsOutcome y puts o h (Ok t) = o ≡ going (scene_of y h puts)
IsOutcome y puts o h (Err trap) = o ≡ trapped trap.task trap.cause trap.pc (progress_in y h puts)

-- the outcome, behind which the hart runs the tasks further or they trap; no byte is put
pub record Follows (y : System) (puts : List Put) (o : Outcome) (h : Hart) (result : Result Unit Trap) : Type 0 where
  pub tasks : RunsTasks h y
  pub outcome : IsOutcome y puts o h result

-- it does what the definition says, whatever was put before
abbrev pub Acts : Hart → Hart → (System → Scene → Outcome) → Result Unit Trap → Type 0
Acts h k act result = (y : System) (puts : List Put) → RunsTasks h y → Follows y puts (act y (scene_of y h puts)) k result

-- ---- choices

-- the place of the one that is chosen
abbrev pub IsChosen : System → List ℕ → Option ℕ → Type 0
IsChosen y waiting None = choice y waiting ≡ None
IsChosen y waiting (Some place) =
    (place < length waiting)
    × (choice y waiting ≡ Some (record { task = slice_index waiting place; others = remove waiting place }))

-- ---- what comes before an instruction

abbrev pub HasActed : System → List Put → Scene → Hart → Result Unit Trap → Type 0
HasActed y puts s h result = (o : Outcome) × (due y s ≡ Some o) × Follows y puts o h result

-- one return or arrival, or nothing where none is due
abbrev pub IsTurn : System → List Put → Hart → Hart → Result Bool Trap → Type 0
IsTurn y puts h k (Ok true) = HasActed y puts (scene_of y h puts) k (Ok tt)
IsTurn y puts h k (Ok false) = (due y (scene_of y h puts) ≡ None) × (k ≡ h)
IsTurn y puts h k (Err trap) = HasActed y puts (scene_of y h puts) k (Err trap)

abbrev pub Turns : Hart → Hart → Result Bool Trap → Type 0
Turns h k result = (y : System) (puts : List Put) → RunsTasks h y → IsTurn y puts h k result

-- as many returns and arrivals as there can be
abbrev pub left : Hart → ℕ
left h = 3 * length h.coming.now + 2 * length h.waiting.items + length h.running.items

-- fewer are left, where there was one
abbrev pub IsFewer : Hart → Hart → Result Bool Trap → Type 0
IsFewer h k (Ok true) = left k < left h
IsFewer h k (Ok false) = Unit {0}
IsFewer h k (Err trap) = Unit {0}

-- the one that runs has returned
abbrev pub has_returned : Hart → Bool
has_returned h = not (length h.running.items == 0) && pc_of h.machine == 0

-- an arrival after so many instructions is due
abbrev pub is_due : Hart → (at : ℕ) → Bool
is_due h at = length h.running.items == 0 || nat_le at h.time

-- no activation runs or waits yet, and there was no instruction
pub record IsFresh (h : Hart) : Type 0 where
  pub running : h.running.items ≡ []
  pub waiting : h.waiting.items ≡ []
  pub time : h.time ≡ 0
