use Rattle.std.proofs.Common.{arith}
use Rattle.qs_parser.proofs.CodeDeclarations.{group_steps}
use Rattle.qs_parser.proofs.declarations.groups.Goals as goal

pub returns-in_err-group-clause-gives : goal.returns-in_err-group-clause-gives
returns-in_err-group-clause-gives c = grind (arith, group_steps)

pub returns-clause-gives : goal.returns-clause-gives
returns-clause-gives c = grind (arith, group_steps)

pub loop-preserved : goal.loop-preserved
loop-preserved c = record { same = grind (arith, group_steps); low = grind (arith, group_steps) }
