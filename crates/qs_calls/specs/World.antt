-- What a run goes through, and what it leaves.
use Rattle.std.specs.Prelude.{ℕ, ◌%◌, ◌^◌, ◌==◌, List, Option, Some, None, if◌then◌else◌}
use Rattle.qs_memory.specs.Values.{Value, integer, address}
use Rattle.qs_memory.specs.Memory.{Memory}
use Rattle.qs_events.specs.Runs.{Run, Left, ended}

-- the memory, and the bytes of the input that weren't taken yet
pub record World : Type 0 where
  pub memory : Memory
  pub input : List ℕ

abbrev pub with_memory : World → Memory → World
with_memory w m = record w { memory = m }

-- a run of a root function over block memory
abbrev pub RootRun : Type 0
RootRun = Run (Left Value Memory)

-- what follows where a function has ended, with its result if it returned one
abbrev pub Return : Type 0
Return = Option Value → World → RootRun

-- nothing follows where the root function has ended
abbrev pub leaves : Return
leaves result w = ended (record { result = result; memory = w.memory; input = w.input })

-- the status of a program that has ended is main's result modulo 256; main returns an `int` always,
-- so the other lines are never met
abbrev pub status_of_result : Option Value → ℕ
status_of_result (Some (integer n)) = n % 2 ^ 8
status_of_result (Some (address p)) = 0
status_of_result None = 0

abbrev pub status_of : Left Value Memory → ℕ
status_of left = status_of_result left.result

-- the values of variables by their numbers; a variable may have none
abbrev pub Environment : Type 0
Environment = (variable : ℕ) → Option Value

abbrev pub no_values : Environment
no_values x = None

abbrev pub with_value : Environment → (variable : ℕ) → Value → Environment
with_value e x v y = if y == x then Some v else e y
