use Rattle.std.proofs.Common.{◌≡◌, ◌≤◌, length, map, ◌+◌, ◌-◌, []}
use Rattle.qs_syntax.specs.TreeOf.{members_tree}
use Rattle.qs_parser_grammar.specs.ParseDeclarations.{groups}
use Rattle.qs_parser.proofs.declarations.groups.Given as goal

abbrev pub invariant-loop : goal.invariant-loop
invariant-loop l = record {
  same : groups l.context.room (length l.fn.tokens - l.counter) (map members_tree l.groups.items) l.height l.rest ≡ groups l.context.room (length l.fn.tokens) [] 0 l.fn.tokens;
  low : l.height ≤ l.context.room + 1;
}
