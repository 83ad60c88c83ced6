use Rattle.std.proofs.Common.{arith, rules}
use Rattle.std.proofs.lemmas.Result.{err_from_is_err_and}
use Rattle.qs_parser.proofs.CodeStatements.{for_ends, for_fails, item_steps, switch_steps}
use Rattle.qs_parser.proofs.statements.+statement.Goals as goal

pub items-returns-in_err-found-clause-gives : goal.items-returns-in_err-found-clause-gives
items-returns-in_err-found-clause-gives t c = grind (arith, item_steps)

pub items-returns-clause-gives : goal.items-returns-clause-gives
items-returns-clause-gives t c = grind (arith, item_steps)

pub items-loop-preserved : goal.items-loop-preserved
items-loop-preserved t c = record { same = grind (arith, item_steps); low = grind (arith, item_steps) }

pub after_for-returns-in_err-turn-clause-gives : goal.after_for-returns-in_err-turn-clause-gives
after_for-returns-in_err-turn-clause-gives t c =
    let p = err_from_is_err_and c.from_residual-in_err-turn.result c.from_residual-in_err-turn.ensures.1 in
    rw (p.1, p.2) (search (rules, for_fails, c.in_ok-rest.ensures, c.in_ok-start.ensures.gives, c.in_err-turn.ensures.gives))

pub after_for-returns-clause-gives : goal.after_for-returns-clause-gives
after_for-returns-clause-gives t c = search (rules, for_ends, c.in_ok-rest.ensures, c.in_ok-start.ensures.gives, c.in_ok-turn.ensures.gives, c.for_loop-node.ensures, c.max.ensures)

pub switch_items-returns-in_err-found-clause-gives : goal.switch_items-returns-in_err-found-clause-gives
switch_items-returns-in_err-found-clause-gives t c = grind (arith, switch_steps)

pub switch_items-returns-clause-gives : goal.switch_items-returns-clause-gives
switch_items-returns-clause-gives t c = grind (arith, switch_steps)

pub switch_items-loop-preserved : goal.switch_items-loop-preserved
switch_items-loop-preserved t c = record { same = grind (arith, switch_steps); low = grind (arith, switch_steps) }
