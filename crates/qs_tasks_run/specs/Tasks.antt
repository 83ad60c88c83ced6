-- Tasks and arrivals, as they are given.
use Rattle.std.specs.Prelude.{ℕ, List}
use Rattle.qs_tasks_run.specs.declared.tasks.Task.{Task as DeclaredTask}
use Rattle.qs_tasks_run.specs.declared.tasks.Arrival.{Arrival as DeclaredArrival}

-- a function that activations run, with a priority, and an input that they take one after the other
pub record Task : Type 0 where
  -- the number of the function among those with a body, in the order of definition
  pub function : ℕ
  pub name : List ℕ
  -- the greater comes first
  pub priority : ℕ
  pub input : List ℕ

-- an activation of a task begins, or waits to begin
pub record Arrival : Type 0 where
  -- how many instructions of the whole run come before it
  pub at : ℕ
  -- the number of the task in the list
  pub task : ℕ

abbrev pub task_of : DeclaredTask → Task
task_of t = record { function = t.function.0; name = t.name; priority = t.priority; input = t.input.items }

abbrev pub arrival_of : DeclaredArrival → Arrival
arrival_of a = record { at = a.at; task = a.task }
