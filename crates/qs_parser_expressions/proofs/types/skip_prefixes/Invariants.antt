use Rattle.std.proofs.Common.{◌≡◌, length}
use Rattle.qs_parser_grammar.specs.ParseDeclarations.{skip_prefixes}
use Rattle.qs_parser_expressions.proofs.types.skip_prefixes.Given as goal

abbrev pub invariant-loop-rest : goal.invariant-loop-rest
invariant-loop-rest l = skip_prefixes l.rest ≡ skip_prefixes l.fn.tokens

abbrev pub decreases-loop-rest : goal.decreases-loop-rest
decreases-loop-rest l = length l.rest
