use Rattle.std.proofs.Common.{◌≡◌, ◌≤◌, length, map, ◌+◌, ◌-◌, ◌*◌, [], false}
use Rattle.qs_syntax.specs.TreeOf.{stmt_tree}
use Rattle.qs_parser_grammar.specs.ParseStatements.{items, switch_items, statement}
use Rattle.qs_parser.proofs.statements.+statement.Given as goal

abbrev pub decreases-statement : goal.decreases-statement
decreases-statement l = 64 * l.context.room

abbrev pub decreases-boxed : goal.decreases-boxed
decreases-boxed l = 64 * l.context.room + 1

abbrev pub decreases-item : goal.decreases-item
decreases-item l = 64 * l.context.room + 1

abbrev pub decreases-items : goal.decreases-items
decreases-items l = 64 * l.context.room + 2

abbrev pub decreases-in_block : goal.decreases-in_block
decreases-in_block l = 64 * l.context.room + 3

abbrev pub decreases-switch_item : goal.decreases-switch_item
decreases-switch_item l = 64 * l.context.room + 2

abbrev pub decreases-switch_items : goal.decreases-switch_items
decreases-switch_items l = 64 * l.context.room + 3

abbrev pub decreases-switch_block : goal.decreases-switch_block
decreases-switch_block l = 64 * l.context.room

abbrev pub decreases-after_switch : goal.decreases-after_switch
decreases-after_switch l = 64 * l.context.room + 1

abbrev pub decreases-otherwise : goal.decreases-otherwise
decreases-otherwise l = 64 * l.context.room + 2

abbrev pub decreases-after_if : goal.decreases-after_if
decreases-after_if l = 64 * l.context.room + 3

abbrev pub decreases-after_while : goal.decreases-after_while
decreases-after_while l = 64 * l.context.room + 2

abbrev pub decreases-after_do : goal.decreases-after_do
decreases-after_do l = 64 * l.context.room + 2

abbrev pub decreases-step_and_body : goal.decreases-step_and_body
decreases-step_and_body l = 64 * l.context.room + 2

abbrev pub decreases-turn_of : goal.decreases-turn_of
decreases-turn_of l = 64 * l.context.room + 3

abbrev pub decreases-after_for : goal.decreases-after_for
decreases-after_for l = 64 * l.context.room + 4

abbrev pub decreases-keyword_statement : goal.decreases-keyword_statement
decreases-keyword_statement l = 64 * l.context.room + 6

abbrev pub decreases-statement_at : goal.decreases-statement_at
decreases-statement_at l = 64 * l.context.room + 60

abbrev pub invariant-items-loop : goal.invariant-items-loop
invariant-items-loop l = record {
  same : items l.context.room (statement l.context.room) (length l.fn.tokens - l.counter) (map stmt_tree l.items.items) l.height l.rest ≡ items l.context.room (statement l.context.room) (length l.fn.tokens) [] 0 l.fn.tokens;
  low : l.height ≤ l.context.room;
}

abbrev pub invariant-switch_items-loop : goal.invariant-switch_items-loop
invariant-switch_items-loop l = record {
  same : switch_items l.context.room (statement l.context.room) (length l.fn.tokens - l.counter) l.labelled (map stmt_tree l.items.items) l.height l.rest ≡ switch_items l.context.room (statement l.context.room) (length l.fn.tokens) false [] 0 l.fn.tokens;
  low : l.height ≤ l.context.room;
}
