use Rattle.std.proofs.Common.{◌≡◌, length}
use Rattle.qs_parser_grammar.specs.Parse.{skip_consts}
use Rattle.qs_parser_expressions.proofs.types.skip_consts.Given as goal

abbrev pub invariant-loop-rest : goal.invariant-loop-rest
invariant-loop-rest l = skip_consts l.rest ≡ skip_consts l.fn.tokens

abbrev pub decreases-loop-rest : goal.decreases-loop-rest
decreases-loop-rest l = length l.rest
