-- The stack that tasks need: for each priority the greatest bound of its tasks, and the bytes of a context.
use Rattle.std.specs.Prelude.{ℕ, zero, suc, ◌+◌, ◌==◌, max, List, [], ◌∷◌, if◌then◌else◌}
use Rattle.qs_tasks_run.specs.Contexts.{context_bytes}

-- a task's priority, and the most bytes of the stack that an activation of it takes
pub record Claim : Type 0 where
  pub priority : ℕ
  pub bound : ℕ

-- what the tasks of this priority need; a priority that no task has needs nothing
abbrev pub level : List Claim → (priority : ℕ) → ℕ
level [] priority = 0
level (c ∷ claims) priority =
    if c.priority == priority then max (c.bound + context_bytes) (level claims priority) else level claims priority

-- what the tasks of all lesser priorities need
abbrev pub levels_below : List Claim → (priority : ℕ) → ℕ
levels_below claims zero = 0
levels_below claims (suc priority) = levels_below claims priority + level claims priority

-- priorities are at most 255
abbrev pub priorities : ℕ
priorities = 256

abbrev pub stack_for : List Claim → ℕ
stack_for claims = levels_below claims priorities
