-- The end of a command that counts entries.
use Rattle.std.specs.Prelude.{[], ◌∷◌, Result, Ok, Err}
use Rattle.qs_report.specs.Lines.{count_line}
use Rattle.qs_report.specs.declared.fault_texts.Count.{Count}
use Rattle.qs_driver_session.specs.Names.{Names, names_in}
use Rattle.qs_driver_steps.specs.Pieces.{on_out}
use Rattle.qs_driver_session.specs.Due.{Due, refusal}
use Rattle.qs_driver_session.specs.declared.names.FileNames.{FileNames}
use Rattle.qs_driver_session.specs.declared.status.Status.{Status}
use Rattle.qs_driver_session.specs.declared.status.Status.TheVariants.{Done}

-- how many they are
abbrev pub counted : Count → Due
counted count = record { status = Done; pieces = on_out (count_line count) ∷ [] }

-- what is due after the work on the store: the count, or the line of the fault
abbrev pub counted_or_refused : Names → Result Count Status → Due
counted_or_refused names (Ok count) = counted count
counted_or_refused names (Err status) = refusal names status

-- the same, where the code holds the names
abbrev pub due_to : FileNames → Result Count Status → Due
due_to names work = counted_or_refused (names_in names) work
