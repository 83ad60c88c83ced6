use Rattle.qs_typed.proofs.UnitWhole.{typed_are}
use Rattle.qs_typed.proofs.laws.unit_functions_are_typed.Goals as goal

pub returns : goal.returns
returns c = λ unit u t h fs e p q. typed_are unit u.well_typed u.types u.referents t h fs e p q
