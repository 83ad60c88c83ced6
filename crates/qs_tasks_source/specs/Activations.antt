-- The activations of a task alone, one after the other, as the source means them.
use Rattle.std.specs.Prelude.{◌≡◌, ℕ, zero, suc, List, [], None}
use Rattle.qs_events.specs.Events.{output_of}
use Rattle.qs_events.specs.Runs.{Left, events_of, ending_of, is_undefined, followed_by}
use Rattle.qs_memory.specs.Values.{Value}
use Rattle.qs_memory.specs.Memory.{Memory}
use Rattle.qs_calls.specs.World.{World, RootRun, leaves}
use Rattle.qs_meaning.specs.Typed.{TypedProgram}
use Rattle.qs_meaning.specs.Runs.{run_of, start_world}
use Rattle.qs_tasks_run.specs.Tasks.{Task}
use Rattle.qs_tasks.specs.Alone.{left_world}

-- So many activations of a function from this world, each within n; each finds what the one before left.
abbrev pub activations : TypedProgram → (function : ℕ) → World → (n count : ℕ) → RootRun
activations u function w n zero = leaves None w
activations u function w n (suc count) =
    followed_by (activations u function w n count) (λ (left : Left Value Memory). run_of u function [] (left_world left) n)

-- those of a task, from the initial variables and the whole of its input
abbrev pub alone : TypedProgram → Task → (n count : ℕ) → RootRun
alone u t n count = activations u t.function (start_world u t.input) n count

abbrev pub output_alone : TypedProgram → Task → (n count : ℕ) → List ℕ
output_alone u t n count = output_of (events_of (alone u t n count))

-- so many activations of a task have a meaning, within each n
abbrev pub AreDefined : TypedProgram → Task → (count : ℕ) → Type 0
AreDefined u t count = (n : ℕ) → ending_of (alone u t n count) ≡ is_undefined → ⊥
