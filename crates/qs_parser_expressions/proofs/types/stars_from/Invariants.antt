use Rattle.std.proofs.Common.{◌≡◌, length}
use Rattle.qs_parser_grammar.specs.Parse.{stars_from}
use Rattle.qs_parser_expressions.proofs.types.stars_from.Given as goal

abbrev pub invariant-loop-rest : goal.invariant-loop-rest
invariant-loop-rest l = stars_from l.count l.rest ≡ stars_from 0 l.fn.tokens

abbrev pub decreases-loop-rest : goal.decreases-loop-rest
decreases-loop-rest l = length l.rest
