-- The image does what the source does.
use Rattle.std.specs.Prelude.{◌≡◌, ℕ, ◌<◌, ◌≤◌, ℤ, List, All, Option, Some}
use Rattle.qs_image.specs.Image.{Image}
use Rattle.qs_events.specs.BoundedRun.{BoundedRun}
use Rattle.qs_machine.specs.Arguments.{AreArguments, words_of}
use Rattle.qs_machine.specs.State.{stack_limit}
use Rattle.qs_machine.specs.Run.{machine}
use Rattle.qs_emit.specs.Agree.{Agree}

-- the runs of a source, for each list of arguments of main, each input and each bound
abbrev pub Runs : Type 0
Runs = List ℤ → List ℕ → ℕ → BoundedRun

-- the bytes of stack that a source is certified to need, for each list of arguments of main, where there is such a number
abbrev pub Bound : Type 0
Bound = List ℤ → Option ℕ

-- the input is a list of bytes
abbrev pub IsInput : List ℕ → Type 0
IsInput input = All (λ byte. byte < 256) input

-- Where the arguments are main's and their bound is this number, on each stack of at least so many bytes, up to the largest, and on each
-- input the image does what the source does.
pub record AgreesFrom (bound : Bound) (runs : Runs) (image : Image) : Type 0 where
  pub agree : (args : List ℤ) (input : List ℕ) (least size : ℕ) → AreArguments image args → IsInput input → bound args ≡ Some least
      → least ≤ size → size ≤ stack_limit → Agree (runs args input) (machine image size (words_of args) input)
