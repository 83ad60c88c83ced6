use Rattle.qs_lexer.proofs.TokenLaws.{in_order, tokens_of}
use Rattle.qs_lexer.proofs.laws.each_token.Goals as goal

pub returns-clause-tokens_of : goal.returns-clause-tokens_of
returns-clause-tokens_of c = tokens_of

pub returns-clause-in_order : goal.returns-clause-in_order
returns-clause-in_order c = in_order
