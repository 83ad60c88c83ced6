use Rattle.qs_sexpr.proofs.PlaceLaws.{parts_lie, fault_lies}
use Rattle.qs_sexpr.proofs.laws.each_place.Goals as goal

pub returns-clause-parts_lie : goal.returns-clause-parts_lie
returns-clause-parts_lie c = parts_lie

pub returns-clause-fault_lies : goal.returns-clause-fault_lies
returns-clause-fault_lies c = fault_lies
