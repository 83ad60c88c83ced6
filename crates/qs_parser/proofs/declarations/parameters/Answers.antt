use Rattle.std.proofs.Common.{arith}
use Rattle.qs_parser.proofs.CodeDeclarations.{parameter_steps}
use Rattle.qs_parser.proofs.declarations.parameters.Goals as goal

pub returns-in_err-item-clause-gives : goal.returns-in_err-item-clause-gives
returns-in_err-item-clause-gives c = grind (arith, parameter_steps)

pub returns-in_err-rest-clause-gives : goal.returns-in_err-rest-clause-gives
returns-in_err-rest-clause-gives c = grind (arith, parameter_steps)

pub returns-clause-gives : goal.returns-clause-gives
returns-clause-gives c = grind (arith, parameter_steps)

pub loop-preserved : goal.loop-preserved
loop-preserved c = record { same = grind (arith, parameter_steps); low = grind (arith, parameter_steps) }
