use Rattle.std.proofs.Common.{◌≡◌, ◌≤◌, length, map, ◌+◌, ◌-◌, []}
use Rattle.qs_syntax.specs.TreeOf.{decl_tree}
use Rattle.qs_parser_grammar.specs.ParseMarked.{last, externals}
use Rattle.qs_parser.proofs.units.externals.Given as goal

abbrev pub invariant-loop : goal.invariant-loop
invariant-loop l = record {
  same : externals l.context.room (length l.fn.tokens.tokens.items - l.counter) (map decl_tree l.found.items) l.height (last l.left l.tokens.tokens.items) ≡ externals l.context.room (length l.fn.tokens.tokens.items) [] 0 l.fn.tokens.tokens.items;
  within : l.left ≤ length l.tokens.tokens.items;
  low : l.height ≤ l.context.room + 2;
}
