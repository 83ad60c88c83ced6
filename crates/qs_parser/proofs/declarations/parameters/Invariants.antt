use Rattle.std.proofs.Common.{◌≡◌, ◌≤◌, length, map, ◌+◌, ◌-◌, []}
use Rattle.qs_syntax.specs.TreeOf.{parameter_tree}
use Rattle.qs_parser_grammar.specs.ParseDeclarations.{parameters}
use Rattle.qs_parser.proofs.declarations.parameters.Given as goal

abbrev pub invariant-loop : goal.invariant-loop
invariant-loop l = record {
  same : parameters l.context.room (length l.fn.tokens - l.counter) (map parameter_tree l.parameters.items) l.height l.rest ≡ parameters l.context.room (length l.fn.tokens) [] 0 l.fn.tokens;
  low : l.height ≤ l.context.room + 1;
}
