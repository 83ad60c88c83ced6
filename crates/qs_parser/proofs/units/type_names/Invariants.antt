use Rattle.std.proofs.Common.{◌≡◌, ◌≤◌, length, map, ◌+◌, ◌-◌, []}
use Rattle.qs_syntax.specs.TreeOf.{declarator_tree}
use Rattle.qs_parser_grammar.specs.ParseMarked.{last, type_names}
use Rattle.qs_parser.proofs.units.type_names.Given as goal

abbrev pub invariant-loop : goal.invariant-loop
invariant-loop l = record {
  same : type_names l.context.room (l.left - l.counter) (map declarator_tree l.names.items) l.height (last l.behind l.tokens.tokens.items) ≡ type_names l.context.room l.left [] 0 (last l.left l.fn.tokens.tokens.items);
  within : l.behind ≤ l.left;
  as_many : length l.tokens.tokens.items ≡ length l.fn.tokens.tokens.items;
  low : l.height ≤ l.context.room + 1;
}
