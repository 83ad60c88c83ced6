-- Tasks that share no variable, and else the first conflict.
use Rattle.std.specs.Prelude.{◌≡◌, ℕ, ◌<◌, ◌≤◌, List, Some}
use Rattle.std.specs.List.{slice_get}
use Rattle.qs_isolation.specs.Links.{Links}
use Rattle.qs_isolation.specs.Touches.{Touches}

-- the task at this place of the list touches the variable; each task is the number of its function
pub record TaskTouches (l : Links) (tasks : List ℕ) (task variable : ℕ) : Type 0 where
  pub root : ℕ
  pub is : slice_get tasks task ≡ Some root
  pub touches : Touches l root variable

-- two tasks touch the variable
pub record AreInConflict (l : Links) (tasks : List ℕ) (variable first second : ℕ) : Type 0 where
  pub in_order : first < second
  pub by_first : TaskTouches l tasks first variable
  pub by_second : TaskTouches l tasks second variable

-- no variable is touched by two tasks
pub record AreIsolated (l : Links) (tasks : List ℕ) : Type 0 where
  pub apart : (variable first second : ℕ) → AreInConflict l tasks variable first second → ⊥

-- the first variable that two tasks touch, and the first two tasks that do
pub record IsFirstConflict (l : Links) (tasks : List ℕ) (variable first second : ℕ) : Type 0 where
  pub conflict : AreInConflict l tasks variable first second
  pub least_variable : (other i j : ℕ) → AreInConflict l tasks other i j → variable ≤ other
  pub least_tasks : (i j : ℕ) → AreInConflict l tasks variable i j → (first ≤ i) × (second ≤ j)
