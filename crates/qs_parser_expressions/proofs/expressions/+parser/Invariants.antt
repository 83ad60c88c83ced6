use Rattle.std.proofs.Common.{◌≡◌, ◌≤◌, length, map, ◌+◌, ◌-◌, ◌*◌, []}
use Rattle.qs_syntax.specs.TreeOf.{expr_tree}
use Rattle.qs_parser_grammar.specs.Parse.{part, arguments, suffixes, operations, commas}
use Rattle.qs_parser_expressions.proofs.expressions.+parser.Given as goal

abbrev pub decreases-part : goal.decreases-part
decreases-part l = 1024 * l.context.room

abbrev pub decreases-expression : goal.decreases-expression
decreases-expression l = 1024 * l.context.room + 1000

abbrev pub decreases-boxed : goal.decreases-boxed
decreases-boxed l = 1024 * l.context.room + 1

abbrev pub decreases-arguments : goal.decreases-arguments
decreases-arguments l = 1024 * l.context.room + 1

abbrev pub decreases-call_of : goal.decreases-call_of
decreases-call_of l = 1024 * l.context.room + 2

abbrev pub decreases-after_name : goal.decreases-after_name
decreases-after_name l = 1024 * l.context.room + 3

abbrev pub decreases-in_parentheses : goal.decreases-in_parentheses
decreases-in_parentheses l = 1024 * l.context.room + 1

abbrev pub decreases-primary : goal.decreases-primary
decreases-primary l = 1024 * l.context.room + 4

abbrev pub decreases-index_of : goal.decreases-index_of
decreases-index_of l = 1024 * l.context.room + 2

abbrev pub decreases-suffix : goal.decreases-suffix
decreases-suffix l = 1024 * l.context.room + 3

abbrev pub decreases-suffixes : goal.decreases-suffixes
decreases-suffixes l = 1024 * l.context.room + 4

abbrev pub decreases-postfix : goal.decreases-postfix
decreases-postfix l = 1024 * l.context.room + 5

abbrev pub decreases-step_of : goal.decreases-step_of
decreases-step_of l = 1024 * l.context.room + 2

abbrev pub decreases-operator_of : goal.decreases-operator_of
decreases-operator_of l = 1024 * l.context.room + 2

abbrev pub decreases-size_of : goal.decreases-size_of
decreases-size_of l = 1024 * l.context.room + 2

abbrev pub decreases-unary_at_punctuator : goal.decreases-unary_at_punctuator
decreases-unary_at_punctuator l = 1024 * l.context.room + 6

abbrev pub decreases-unary : goal.decreases-unary
decreases-unary l = 1024 * l.context.room + 7

abbrev pub decreases-cast_of : goal.decreases-cast_of
decreases-cast_of l = 1024 * l.context.room + 2

abbrev pub decreases-cast_or_unary : goal.decreases-cast_or_unary
decreases-cast_or_unary l = 1024 * l.context.room + 8

abbrev pub decreases-right_operand : goal.decreases-right_operand
decreases-right_operand l = 1024 * l.context.room + 1

abbrev pub decreases-operations : goal.decreases-operations
decreases-operations l = 1024 * l.context.room + 2

abbrev pub decreases-climb : goal.decreases-climb
decreases-climb l = 1024 * l.context.room + 3 + l.level

abbrev pub decreases-after_or : goal.decreases-after_or
decreases-after_or l = 1024 * l.context.room + 2

abbrev pub decreases-after_operand : goal.decreases-after_operand
decreases-after_operand l = 1024 * l.context.room + 600

abbrev pub decreases-assignment_of : goal.decreases-assignment_of
decreases-assignment_of l = 1024 * l.context.room + 601

abbrev pub decreases-after_unary : goal.decreases-after_unary
decreases-after_unary l = 1024 * l.context.room + 602

abbrev pub decreases-assignment : goal.decreases-assignment
decreases-assignment l = 1024 * l.context.room + 900

abbrev pub decreases-commas : goal.decreases-commas
decreases-commas l = 1024 * l.context.room + 2

abbrev pub invariant-arguments-loop : goal.invariant-arguments-loop
invariant-arguments-loop l = record {
  same : arguments l.context.room (part l.context.room) (length l.fn.tokens - l.counter) (map expr_tree l.items.items) l.height l.rest ≡ arguments l.context.room (part l.context.room) (length l.fn.tokens) [] 0 l.fn.tokens;
  low : l.height ≤ l.context.room;
}

abbrev pub invariant-suffixes-loop : goal.invariant-suffixes-loop
invariant-suffixes-loop l = record {
  same : suffixes l.context.room (part l.context.room) (length l.fn.tokens - l.counter) l.start (expr_tree l.left, l.height) l.rest ≡ suffixes l.context.room (part l.context.room) (length l.fn.tokens) l.start (expr_tree l.fn.left, l.fn.height) l.fn.tokens;
  low : l.height ≤ l.context.room + 1;
}

abbrev pub invariant-operations-loop : goal.invariant-operations-loop
invariant-operations-loop l = record {
  same : operations l.context.room (part l.context.room) (length l.fn.tokens - l.counter) l.level l.start (expr_tree l.left, l.height) l.rest ≡ operations l.context.room (part l.context.room) (length l.fn.tokens) l.level l.start (expr_tree l.fn.left, l.fn.height) l.fn.tokens;
  low : l.height ≤ l.context.room + 1;
}

abbrev pub invariant-commas-loop : goal.invariant-commas-loop
invariant-commas-loop l = record {
  same : commas l.context.room (part l.context.room) (length l.fn.tokens - l.counter) l.start (expr_tree l.left, l.height) l.rest ≡ commas l.context.room (part l.context.room) (length l.fn.tokens) l.start (expr_tree l.fn.left, l.fn.height) l.fn.tokens;
  low : l.height ≤ l.context.room + 1;
}
