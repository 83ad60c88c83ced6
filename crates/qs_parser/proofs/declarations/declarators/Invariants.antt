use Rattle.std.proofs.Common.{◌≡◌, ◌≤◌, length, map, ◌+◌, ◌-◌, []}
use Rattle.qs_syntax.specs.TreeOf.{declarator_tree}
use Rattle.qs_parser_grammar.specs.ParseDeclarations.{declarators}
use Rattle.qs_parser.proofs.declarations.declarators.Given as goal

abbrev pub invariant-loop : goal.invariant-loop
invariant-loop l = record {
  same : declarators l.context.room (length l.fn.tokens - l.counter) (map declarator_tree l.declarators.items) l.height l.rest ≡ declarators l.context.room (length l.fn.tokens) [] 0 l.fn.tokens;
  low : l.height ≤ l.context.room + 1;
}
