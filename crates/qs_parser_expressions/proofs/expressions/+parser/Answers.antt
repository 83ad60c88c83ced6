use Rattle.std.proofs.Common.{arith}
use Rattle.qs_parser_expressions.proofs.CodeExpressions.{argument_steps, comma_steps, suffix_steps}
use Rattle.qs_parser_expressions.proofs.CodeOperations.{operation_steps}
use Rattle.qs_parser_expressions.proofs.expressions.+parser.Goals as goal

pub arguments-returns-in_err-item-clause-gives : goal.arguments-returns-in_err-item-clause-gives
arguments-returns-in_err-item-clause-gives t c = grind (arith, argument_steps)

pub arguments-returns-in_err-rest-clause-gives : goal.arguments-returns-in_err-rest-clause-gives
arguments-returns-in_err-rest-clause-gives t c = grind (arith, argument_steps)

pub arguments-returns-clause-gives : goal.arguments-returns-clause-gives
arguments-returns-clause-gives t c = grind (arith, argument_steps)

pub arguments-loop-preserved : goal.arguments-loop-preserved
arguments-loop-preserved t c = record { same = grind (arith, argument_steps); low = grind (arith, argument_steps) }

pub suffixes-returns-then-not-starts_suffix-clause-gives : goal.suffixes-returns-then-not-starts_suffix-clause-gives
suffixes-returns-then-not-starts_suffix-clause-gives t c = grind (arith, suffix_steps)

pub suffixes-returns-then-height-from-clause-gives : goal.suffixes-returns-then-height-from-clause-gives
suffixes-returns-then-height-from-clause-gives t c = grind (arith, suffix_steps)

pub suffixes-returns-in_err-node-clause-gives : goal.suffixes-returns-in_err-node-clause-gives
suffixes-returns-in_err-node-clause-gives t c = grind (arith, suffix_steps)

pub suffixes-returns-clause-gives : goal.suffixes-returns-clause-gives
suffixes-returns-clause-gives t c = grind (arith, suffix_steps)

pub suffixes-loop-preserved : goal.suffixes-loop-preserved
suffixes-loop-preserved t c = record { same = grind (arith, suffix_steps); low = grind (arith, suffix_steps) }

pub operations-returns-in_default-clause-gives : goal.operations-returns-in_default-clause-gives
operations-returns-in_default-clause-gives t c = grind (arith, operation_steps)

pub operations-returns-then-height-from-clause-gives : goal.operations-returns-then-height-from-clause-gives
operations-returns-then-height-from-clause-gives t c = grind (arith, operation_steps)

pub operations-returns-in_err-right-clause-gives : goal.operations-returns-in_err-right-clause-gives
operations-returns-in_err-right-clause-gives t c = grind (arith, operation_steps)

pub operations-returns-clause-gives : goal.operations-returns-clause-gives
operations-returns-clause-gives t c = grind (arith, operation_steps)

pub operations-loop-preserved : goal.operations-loop-preserved
operations-loop-preserved t c = record { same = grind (arith, operation_steps); low = grind (arith, operation_steps) }

pub commas-returns-in_default-clause-gives : goal.commas-returns-in_default-clause-gives
commas-returns-in_default-clause-gives t c = grind (arith, comma_steps)

pub commas-returns-then-height-from-clause-gives : goal.commas-returns-then-height-from-clause-gives
commas-returns-then-height-from-clause-gives t c = grind (arith, comma_steps)

pub commas-returns-in_err-right-clause-gives : goal.commas-returns-in_err-right-clause-gives
commas-returns-in_err-right-clause-gives t c = grind (arith, comma_steps)

pub commas-returns-clause-gives : goal.commas-returns-clause-gives
commas-returns-clause-gives t c = grind (arith, comma_steps)

pub commas-loop-preserved : goal.commas-loop-preserved
commas-loop-preserved t c = record { same = grind (arith, comma_steps); low = grind (arith, comma_steps) }
