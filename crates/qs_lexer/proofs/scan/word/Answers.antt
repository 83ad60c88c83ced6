use Rattle.std.proofs.Common.{ap, ◌∙◌}
use Rattle.qs_lexer.specs.Pieces.{token_or_fault}
use Rattle.qs_lexer.proofs.ScanTokens.{word_stands}
use Rattle.qs_lexer.proofs.scan.word.Goals as goal

pub returns : goal.returns
returns c = λ fresh. word_stands fresh c.args.rest.now c.word_length-n.result c.token_or_fault.result c.requires c.word_length-n.ensures (c.token_or_fault.ensures ∙ ap (token_or_fault c.word_length-n.result) c.word_of.ensures)
