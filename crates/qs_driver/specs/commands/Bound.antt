-- `bound`: what each function of a source costs, and the bound of main at some arguments.
use Rattle.std.specs.Prelude.{◌≡◌, ℕ, ℤ, List, [], ◌∷◌, ◌++◌, IsTrue, Option, Result, Ok, Err}
use Rattle.qs_assert.specs.declared.define.Amount.{Amount}
use Rattle.qs_ports.specs.StoreView.{StoreView}
use Rattle.qs_image.specs.Image.{Image, FunctionRecord}
use Rattle.qs_report.specs.Lines.{bound_line}
use Rattle.qs_driver_session.specs.Names.{Names, no_names, or_empty, name_in}
use Rattle.qs_driver_session.specs.Faults.{shown_of}
use Rattle.qs_driver_session.specs.Lines.{cost_lines}
use Rattle.qs_driver_steps.specs.Pieces.{on_out}
use Rattle.qs_driver_session.specs.Due.{Due, refusal, IsRefusal}
use Rattle.qs_driver_steps.specs.Files.{IsUntouched}
use Rattle.qs_driver_session.specs.Task.{Task}
use Rattle.qs_driver_session.specs.declared.status.Status.{Status}
use Rattle.qs_driver_session.specs.declared.status.Status.TheVariants.{Done}
use Rattle.qs_driver.specs.Certified.{certify_words}
use Rattle.qs_driver.specs.Made.{MakeWords, make_words, IsMade, CannotMake, FitsMain, IsOfMade, RefusesMade}
use Rattle.qs_driver.specs.declared.commands.bound.BoundOrder.{BoundOrder}
use Rattle.qs_driver.specs.declared.made.Made.{Made}

-- ---- the words

-- the source, its proof file where one is named, and main's arguments
pub record BoundWords : Type 0 where
  pub source : List ℕ
  pub proof : Option (List ℕ)
  pub args : List ℤ

abbrev pub bound_words : List ℕ → Option (List ℕ) → List ℤ → BoundWords
bound_words source proof args = record { source = source; proof = proof; args = args }

-- the words as the code holds them
abbrev pub words_in : BoundOrder → BoundWords
words_in order = bound_words order.source.now (name_in order.proof) order.args.now

-- those of what is made
abbrev pub to_make : BoundWords → MakeWords
to_make b = make_words (certify_words b.source b.proof) b.args

abbrev pub names_of : BoundWords → Names
names_of b = record no_names { source = b.source; derivation = or_empty b.proof }

-- ---- what is due

-- the cost of each function, and then the bound
abbrev pub bounded_lines : List FunctionRecord → Amount → List ℕ
bounded_lines functions bound = cost_lines functions ++ bound_line (shown_of bound)

abbrev pub costs_and_bound : List FunctionRecord → Amount → Due
costs_and_bound functions bound =
    record { status = Done; pieces = on_out (bounded_lines functions bound) ∷ [] }

-- `out` gets the costs of the image's records, and what main costs with the value of its precondition at the arguments.
pub record HasBound (b : BoundWords) (before after : StoreView) (due : Due) : Type 0 where
  pub image : Image
  pub bound : Amount
  pub is_made : IsMade (to_make b) before image bound
  pub untouched : IsUntouched before after
  pub is_due : due ≡ costs_and_bound image.functions bound

-- What is due to `bound`, and why.
pub data IsDueToBound (b : BoundWords) (before after : StoreView) (due : Due) : Type 0 where
  bounded : HasBound b before after due → IsDueToBound b before after due
  refused : (status : Status) → CannotMake (to_make b) before after status
      → IsRefusal (names_of b) status due
      → IsDueToBound b before after due

-- ---- what follows

-- the source is there and well typed and within limits, its proofs are right, and the arguments are main's
pub record IsGood (b : BoundWords) (before : StoreView) : Type 0 where
  pub told : IsTrue before.told
  pub fits : FitsMain (to_make b) before.files

-- each good source has its bound told
abbrev pub Accepts : BoundWords → StoreView → Status → Type 0
Accepts b before status = IsGood b before → status ≡ Done

-- the statuses with which `bound` ends where no call fails and memory is found
pub data IsOfBound (b : BoundWords) : Status → Type 0 where
  done : IsOfBound b Done
  of_made : {status : Status} → IsOfMade b.args status → IsOfBound b status

-- Each refusal of `bound` comes exactly where its cause is, and no refusal of another command comes.
pub record Refuses (b : BoundWords) (before : StoreView) (status : Status) : Type 0 where
  pub own : IsOfBound b status
  pub made : IsTrue before.told → RefusesMade (to_make b) before.files status

abbrev pub bound : BoundWords → Task
bound b = record { IsDue = IsDueToBound b; Accepts = Accepts b; Refuses = Refuses b }

-- the task of the words that the code holds
abbrev pub to_do : BoundOrder → Task
to_do order = bound (words_in order)

-- ---- what the parts of the code answer

-- what is due after the work on the store
abbrev pub due_of : BoundWords → Result Made Status → Due
due_of b (Ok made) = costs_and_bound made.image.functions made.bound
due_of b (Err status) = refusal (names_of b) status

-- the same, where the code holds the words
abbrev pub due_to : BoundOrder → Result Made Status → Due
due_to order work = due_of (words_in order) work
