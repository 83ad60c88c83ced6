use Rattle.std.proofs.Common.{◌≡◌, ◌≤◌, length, map, ◌-◌, []}
use Rattle.qs_syntax.specs.TreeOf.{expr_tree}
use Rattle.qs_parser_grammar.specs.ParseDeclarations.{given_lengths}
use Rattle.qs_parser.proofs.declarations.given_lengths.Given as goal

abbrev pub invariant-loop : goal.invariant-loop
invariant-loop l = record {
  same : given_lengths l.context.room (length l.fn.tokens - l.counter) (map expr_tree l.given.items) l.height l.rest ≡ given_lengths l.context.room (length l.fn.tokens) [] 0 l.fn.tokens;
  low : l.height ≤ l.context.room;
}
