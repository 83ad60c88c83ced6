use Rattle.std.proofs.Common.{arith}
use Rattle.qs_parser.proofs.CodeDeclarations.{initialiser_steps}
use Rattle.qs_parser.proofs.declarations.+initialiser.Goals as goal

pub initialisers-returns-in_err-item-clause-gives : goal.initialisers-returns-in_err-item-clause-gives
initialisers-returns-in_err-item-clause-gives t c = grind (arith, initialiser_steps)

pub initialisers-returns-clause-gives : goal.initialisers-returns-clause-gives
initialisers-returns-clause-gives t c = grind (arith, initialiser_steps)

pub initialisers-loop-preserved : goal.initialisers-loop-preserved
initialisers-loop-preserved t c = record { same = grind (arith, initialiser_steps); low = grind (arith, initialiser_steps) }
