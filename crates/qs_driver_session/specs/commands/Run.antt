-- `run`: an image on a stack of a given size.
use Rattle.std.specs.Prelude.{◌≡◌, ℕ, List, [], ◌∷◌, None, false, Result, Ok, Err}
use Rattle.qs_ports.specs.StoreView.{StoreView}
use Rattle.qs_image.specs.Image.{Image}
use Rattle.qs_machine.specs.Arguments.{words_of}
use Rattle.qs_machine.specs.Run.{Outcome, Exited, Trapped as HasTrapped, Going, machine, start}
use Rattle.qs_machine.specs.Standing.{Stands, taken_of}
use Rattle.qs_report.specs.Lines.{end_line}
use Rattle.qs_driver_steps.specs.Promises.{Order, Begun}
use Rattle.qs_driver_steps.specs.Runs.{Halted, Passed}
use Rattle.qs_driver_steps.specs.Steps.{Steps, Command, gives, first, then}
use Rattle.qs_driver_session.specs.Due.{Due}
use Rattle.qs_driver_session.specs.Faults.{status_line}
use Rattle.qs_driver_session.specs.Limits.{image_limit}
use Rattle.qs_driver_session.specs.Names.{file_name}
use Rattle.qs_driver_session.specs.Shared.{reading_file, imaging, fitting, fitting_stack, input_of}
use Rattle.qs_driver_session.specs.Starting.{RunWords, words_in, names_of}
use Rattle.qs_driver_session.specs.Statuses.{tool}
use Rattle.qs_driver_steps.specs.Pieces.{on_out, on_log}
use Rattle.qs_driver_session.specs.declared.starting.Ready.{Ready}
use Rattle.qs_driver_session.specs.declared.starting.RunOrder.{RunOrder}
use Rattle.qs_driver_session.specs.declared.status.FileKind.TheVariants as kinds
use Rattle.qs_driver_session.specs.declared.status.Status.{Status}
use Rattle.qs_driver_session.specs.declared.status.Status.TheVariants.{Done, Trapped, StepLimit}

-- ---- the steps

-- an image that can be run with the words, and its input
pub record Prepared : Type 0 where
  pub image : Image
  pub input : List ℕ

abbrev pub with_input : Image → (input : List ℕ) → Steps tool Prepared
with_input image input = gives (record { image = image; input = input })

abbrev pub of_image : RunWords → Image → Steps tool Prepared
of_image r image =
    first (fitting image r.args)
    (λ u. first (fitting_stack r.stack) (λ v. then (input_of r.input) (with_input image)))

abbrev pub of_content : RunWords → (content : List ℕ) → Steps tool Prepared
of_content r content = first (imaging content) (of_image r)

abbrev pub prepared : RunWords → Steps tool Prepared
prepared r = first (reading_file kinds.Image image_limit r.image) (of_content r)

-- ---- the end

-- the output on `out`, then a line on `log`
abbrev pub after_output : List ℕ → Status → List ℕ → Due
after_output output status line =
    record { status = status; pieces = on_out output ∷ on_log line ∷ [] }

-- the output on `out`, then the line of the fault
abbrev pub refused_after : List ℕ → RunWords → Status → Due
refused_after output r status = after_output output status (status_line (names_of r) status)

-- what is due at this outcome of the machine
abbrev pub due_at : RunWords → Outcome → Due
due_at r (Exited output status) = after_output output Done (end_line status)
due_at r (HasTrapped cause pc output) = refused_after output r (Trapped cause pc)
due_at r (Going output) = refused_after output r (StepLimit r.steps)

abbrev pub outcome_of : RunWords → Prepared → Outcome
outcome_of r p = machine p.image r.stack (words_of r.args) p.input r.steps

abbrev pub run_end : RunWords → Prepared → Command tool
run_end r p = gives (record { output = None; due = due_at r (outcome_of r p); late = false })

abbrev pub run : RunWords → Command tool
run r = then (prepared r) (run_end r)

abbrev pub order_of : RunWords → Order tool
order_of r = record { command = run r; names = file_name (names_of r) }

-- the same of the words that the code holds
abbrev pub to_do : RunOrder → Order tool
to_do order = order_of (words_in order)

-- ---- what the parts of the code answer

-- a machine at the start of the image that was prepared, and its input
pub record IsReady (r : RunWords) (before after : StoreView) (ready : Ready) : Type 0 where
  pub image : Image
  pub passed :
      Passed (prepared r) before after (record { image = image; input = ready.input.items })
  pub none_taken : taken_of ready.machine ≡ 0
  pub stands :
      Stands ready.machine image r.stack ready.input.items
      (start image (words_of r.args) ready.input.items)

-- the answer of `prepare`
abbrev pub Prepares : RunWords → StoreView → StoreView → Result Ready Status → Type 0
Prepares r before after (Ok ready) = IsReady r before after ready
Prepares r before after (Err status) = Halted (prepared r) before after status

-- a machine that was prepared has taken no input yet
abbrev pub IsFresh : Result Ready Status → Type 0
IsFresh (Ok ready) = taken_of ready.machine ≡ 0
IsFresh (Err status) = Unit {0}

-- the command, where this came of the work on the files
abbrev pub begun : RunOrder → Result Ready Status → Begun tool
begun order work =
    record { order = to_do order; Known = λ v w. Prepares (words_in order) v w work }
