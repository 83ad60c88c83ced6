use Rattle.std.proofs.Common.{◌≡◌, length}
use Rattle.qs_parser_grammar.specs.Parse.{texts_from}
use Rattle.qs_parser_expressions.proofs.expressions.texts_from.Given as goal

abbrev pub invariant-loop-rest : goal.invariant-loop-rest
invariant-loop-rest l = texts_from l.bytes.items l.rest ≡ texts_from l.fn.first l.fn.tokens

abbrev pub decreases-loop-rest : goal.decreases-loop-rest
decreases-loop-rest l = length l.rest
