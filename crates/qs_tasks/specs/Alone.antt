-- Tasks alone: the activations of one task, one after the other, as its linear code says.
use Rattle.std.specs.Prelude.{◌≡◌, ℕ, zero, suc, ◌<◌, ◌≤◌, List, [], ◌++◌}
use Rattle.qs_memory.specs.Values.{Value}
use Rattle.qs_memory.specs.Memory.{Memory}
use Rattle.qs_events.specs.Events.{output_of}
use Rattle.qs_events.specs.Runs.{Left, has_ended, is_undefined, events_of, ending_of}
use Rattle.qs_events.specs.Weights.{Costs, run_weight}
use Rattle.qs_calls.specs.World.{World, RootRun}
use Rattle.qs_image.specs.Image.{Image}
use Rattle.qs_tac.specs.Trees.{TacUnitTree}
use Rattle.qs_tac.specs.Units.{tac_run}
use Rattle.qs_emit.specs.Images.{record_at}
use Rattle.qs_tasks_run.specs.TasksRun.{System, task_at}

-- a system of tasks, the linear code of its image, and the memory that the image begins with
pub record Program : Type 0 where
  pub system : System
  pub unit : TacUnitTree
  pub first : Memory
  -- of each task the memory that its first activation begins with: of `first` what the task touches lives
  pub memory_of : (task : ℕ) → Memory

abbrev pub function_of : Program → (task : ℕ) → ℕ
function_of p task = (task_at p.system.tasks task).function

-- the world that the first activation of a task finds
abbrev pub first_world : Program → (task : ℕ) → World
first_world p task = record { memory = p.memory_of task; input = (task_at p.system.tasks task).input }

-- an activation alone, within n steps
abbrev pub activation : Program → (task : ℕ) → World → (n : ℕ) → RootRun
activation p task w n = tac_run p.unit (function_of p task) [] w n

abbrev pub left_world : Left Value Memory → World
left_world left = record { memory = left.memory; input = left.input }

-- So many activations alone, one after the other, each of which has ended: all that they put, and the world that they leave.
pub data Alone (p : Program) (task : ℕ) : (number : ℕ) → (output : List ℕ) → World → Type 0 where
  none_yet : Alone p task zero [] (first_world p task)
  and_another :
      (number n : ℕ) (before : List ℕ) (w : World) (left : Left Value Memory) → Alone p task number before w
      → ending_of (activation p task w n) ≡ has_ended left
      → Alone p task (suc number) (before ++ output_of (events_of (activation p task w n))) (left_world left)

-- what a call of a function takes of the stack, by its record
abbrev pub costs_of : Image → Costs
costs_of image f = (record_at image f).cost

-- Each of so many activations alone is defined, and takes no more of the stack than the bound.
pub record AreDefined (p : Program) (task times bound : ℕ) : Type 0 where
  pub defined :
      (number n : ℕ) (before : List ℕ) (w : World) → number < times → Alone p task number before w
      → ending_of (activation p task w n) ≡ is_undefined → ⊥
  pub weighs :
      (number n : ℕ) (before : List ℕ) (w : World) → number < times → Alone p task number before w
      → run_weight (costs_of p.system.image) (activation p task w n) ≤ bound
