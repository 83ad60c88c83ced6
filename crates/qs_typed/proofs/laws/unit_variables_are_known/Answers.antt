use Rattle.qs_typed.proofs.UnitWhole.{variables_are}
use Rattle.qs_typed.proofs.laws.unit_variables_are_known.Goals as goal

pub returns : goal.returns
returns c = λ unit u t h. variables_are unit u.well_typed u.types u.referents t h
