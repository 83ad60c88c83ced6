use Rattle.std.proofs.Common.{arith}
use Rattle.qs_parser.proofs.CodeDeclarations.{length_steps}
use Rattle.qs_parser.proofs.declarations.given_lengths.Goals as goal

pub returns-in_default-clause-gives : goal.returns-in_default-clause-gives
returns-in_default-clause-gives c = grind (arith, length_steps)

pub returns-in_err-item-clause-gives : goal.returns-in_err-item-clause-gives
returns-in_err-item-clause-gives c = grind (arith, length_steps)

pub returns-in_err-item-2-clause-gives : goal.returns-in_err-item-2-clause-gives
returns-in_err-item-2-clause-gives c = grind (arith, length_steps)

pub returns-clause-gives : goal.returns-clause-gives
returns-clause-gives c = grind (arith, length_steps)

pub loop-preserved : goal.loop-preserved
loop-preserved c = record { same = grind (arith, length_steps); low = grind (arith, length_steps) }
