use Rattle.std.proofs.Common.{◌≡◌, ◌≤◌, length, map, ◌+◌, ◌-◌, []}
use Rattle.qs_syntax.specs.TreeOf.{variable_tree}
use Rattle.qs_parser_grammar.specs.ParseDeclarations.{variables}
use Rattle.qs_parser.proofs.declarations.variables.Given as goal

abbrev pub invariant-loop : goal.invariant-loop
invariant-loop l = record {
  same : variables l.context.room (length l.fn.tokens - l.counter) (map variable_tree l.variables.items) l.height l.rest ≡ variables l.context.room (length l.fn.tokens) [] 0 l.fn.tokens;
  low : l.height ≤ l.context.room + 1;
}
