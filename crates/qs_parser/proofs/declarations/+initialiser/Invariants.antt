use Rattle.std.proofs.Common.{◌≡◌, ◌≤◌, length, map, ◌+◌, ◌-◌, ◌*◌, []}
use Rattle.qs_syntax.specs.TreeOf.{initialiser_tree}
use Rattle.qs_parser_grammar.specs.ParseDeclarations.{initialisers, initialiser}
use Rattle.qs_parser.proofs.declarations.+initialiser.Given as goal

abbrev pub decreases-initialisers : goal.decreases-initialisers
decreases-initialisers l = 2 * l.context.room + 1

abbrev pub decreases-initialiser : goal.decreases-initialiser
decreases-initialiser l = 2 * l.context.room

abbrev pub invariant-initialisers-loop : goal.invariant-initialisers-loop
invariant-initialisers-loop l = record {
  same : initialisers (initialiser l.context.room) (length l.fn.tokens - l.counter) (map initialiser_tree l.items.items) l.height l.rest ≡ initialisers (initialiser l.context.room) (length l.fn.tokens) [] 0 l.fn.tokens;
  low : l.height ≤ l.context.room;
}
