-- `outline`: from the source in the store to the outline of its core on standard output.
use Rattle.std.specs.Prelude.{ℕ, List, [], ◌∷◌, None, false, Result, Ok, Err, Vec}
use Rattle.std.specs.declared.alloc.Global.{Global}
use Rattle.qs_ports.specs.StoreView.{StoreView}
use Rattle.qs_syntax.specs.Trees.{UnitTree}
use Rattle.qs_core.specs.Outline as core
use Rattle.qs_core.specs.Trees.{CoreUnitTree}
use Rattle.qs_driver_steps.specs.Pieces.{on_out}
use Rattle.qs_driver_steps.specs.Promises.{Order}
use Rattle.qs_driver_steps.specs.Runs.{Runs}
use Rattle.qs_driver_steps.specs.Steps.{End, Command, gives, first, then}
use Rattle.qs_driver_session.specs.Due.{Due, refusal}
use Rattle.qs_driver_session.specs.Names.{Names, no_names, file_name}
use Rattle.qs_driver_session.specs.Origin.{origin}
use Rattle.qs_driver_session.specs.Statuses.{tool}
use Rattle.qs_driver_session.specs.declared.status.Status.{Status}
use Rattle.qs_driver_session.specs.declared.status.Status.TheVariants.{Done}
use Rattle.qs_driver_proofs.specs.Steps.{coring}
use Rattle.qs_driver.specs.declared.commands.outline.OutlineOrder.{OutlineOrder}

-- ---- the words

-- the source
pub record OutlineWords : Type 0 where
  pub source : List ℕ

abbrev pub outline_words : List ℕ → OutlineWords
outline_words source = record { source = source }

-- the words as the code holds them
abbrev pub words_in : OutlineOrder → OutlineWords
words_in order = outline_words order.source.now

abbrev pub names_of : OutlineWords → Names
names_of o = record no_names { source = o.source }

-- ---- the steps

-- this text on standard output
abbrev pub printed : List ℕ → Due
printed text = record { status = Done; pieces = on_out text ∷ [] }

abbrev pub outline_end : CoreUnitTree → End tool
outline_end unit = record { output = None; due = printed (core.outline unit); late = false }

abbrev pub outlined : CoreUnitTree → Command tool
outlined unit = gives (outline_end unit)

abbrev pub outline_unit : UnitTree → Command tool
outline_unit unit = first (coring unit) outlined

-- the unit of the source has a core, and `out` gets its outline
abbrev pub outline : OutlineWords → Command tool
outline o = then (origin o.source) outline_unit

abbrev pub order_of : OutlineWords → Order tool
order_of o = record { command = outline o; names = file_name (names_of o) }

-- the same of the words that the code holds
abbrev pub to_do : OutlineOrder → Order tool
to_do order = order_of (words_in order)

-- ---- what the parts of the code answer

-- what is due after the work on the store
abbrev pub due_of : OutlineWords → Result (Vec ℕ Global) Status → Due
due_of o (Ok text) = printed text.items
due_of o (Err status) = refusal (names_of o) status

-- the same, where the code holds the words
abbrev pub due_to : OutlineOrder → Result (Vec ℕ Global) Status → Due
due_to order work = due_of (words_in order) work

-- the answer of `outline_text`
abbrev pub Outlines : OutlineWords → StoreView → StoreView → Result (Vec ℕ Global) Status → Type 0
Outlines o before after work =
    Runs (outline o) (file_name (names_of o)) before after (due_of o work)
