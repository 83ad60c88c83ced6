-- What the words of a call ask of the tool: a row for each command.
use Rattle.std.specs.Prelude.{◌≡◌, ℕ, List, map, Option, Some, None, string_bytes}
use Rattle.std.specs.declared.alloc.Global.{Global}
use Rattle.std.specs.declared.string.String.{String}
use Rattle.qs_cli.specs.Reading.{command_of}
use Rattle.qs_cli.specs.declared.commands.Command as code
use Rattle.qs_cli.specs.Commands.{Command, meaning, Build, Check, Bound, Calls, Derive, Outline, Run, Exec, Sample, Elf, Unelf}
use Rattle.qs_driver_session.specs.commands.Run as run
use Rattle.qs_driver_session.specs.commands.Usage.{none}
use Rattle.qs_driver_session.specs.Starting.{run_words}
use Rattle.qs_driver_elf.specs.Elf as elf
use Rattle.qs_driver_elf.specs.Unelf as unelf
use Rattle.qs_driver_calls.specs.Calls as calls
use Rattle.qs_driver.specs.Asked.{Asked, by_steps, by_task}
use Rattle.qs_driver.specs.Certified.{certify_words}
use Rattle.qs_driver.specs.commands.Build.{build, build_words}
use Rattle.qs_driver.specs.commands.Bound.{bound, bound_words}
use Rattle.qs_driver.specs.commands.Check as check
use Rattle.qs_driver.specs.commands.Derive.{derive, derive_words}
use Rattle.qs_driver.specs.commands.Outline as outline
use Rattle.qs_driver.specs.commands.Exec.{exec, exec_words}
use Rattle.qs_driver.specs.commands.Sample.{sample, sample_words}

-- some words mean this command
pub record IsMeant (command : Command) : Type 0 where
  pub words : List (List ℕ)
  pub means : meaning words ≡ Some command

abbrev pub task_of : Option Command → Asked
task_of None = by_steps none
task_of (Some (Build source proof out)) = by_task (build (build_words source proof out))
task_of (Some (Check source proof)) = by_steps (check.order_of (certify_words source proof))
task_of (Some (Bound source proof args)) = by_task (bound (bound_words source proof args))
task_of (Some (Calls words)) = by_steps (calls.order_of words)
task_of (Some (Derive source out)) = by_task (derive (derive_words source out))
task_of (Some (Outline source)) = by_steps (outline.order_of (outline.outline_words source))
task_of (Some (Run image stack args input steps)) =
    by_steps (run.order_of (run_words image stack args input steps))
task_of (Some (Exec source proof args input steps)) =
    by_task (exec (exec_words source proof args input steps))
task_of (Some (Sample count out)) = by_task (sample (sample_words count out))
task_of (Some (Elf words)) = by_steps (elf.order_of words)
task_of (Some (Unelf words)) = by_steps (unelf.order_of words)

-- what a command asks, as the code holds it
abbrev pub to_do : code.Command → Asked
to_do command = task_of (Some (command_of command))

-- what the words of a call ask
abbrev pub task : List (List ℕ) → Asked
task words = task_of (meaning words)

-- the same, where the code holds the words
abbrev pub task_in : List (String Global) → Asked
task_in words = task (map string_bytes words)
