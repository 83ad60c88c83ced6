-- Words that mean no command: a step that always refuses.
use Rattle.qs_driver_steps.specs.Promises.{Order}
use Rattle.qs_driver_steps.specs.Reading.{refusing}
use Rattle.qs_driver_steps.specs.Statuses.{no_names}
use Rattle.qs_driver_steps.specs.Steps.{Command, gives, first}
use Rattle.std.specs.Prelude.{None, false}
use Rattle.qs_driver_session.specs.Due.{done}
use Rattle.qs_driver_session.specs.Statuses.{tool}
use Rattle.qs_driver_session.specs.declared.status.Status.TheVariants.{Words}
use Rattle.qs_driver_session.specs.declared.status.WordsFault.TheVariants.{Usage}

-- nothing is due behind it
abbrev pub nothing : Command tool
nothing = gives (record { output = None; due = done; late = false })

abbrev pub usage : Command tool
usage = first (refusing 1 (Unit {0}) (Words Usage)) (λ u. nothing)

abbrev pub none : Order tool
none = record { command = usage; names = no_names tool }
