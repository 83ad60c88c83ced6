use Rattle.std.proofs.Common.{ap, ◌∙◌}
use Rattle.qs_lexer.specs.Pieces.{token_or_fault}
use Rattle.qs_lexer.proofs.ScanTokens.{number_stands}
use Rattle.qs_lexer.proofs.scan.number.Goals as goal

pub returns : goal.returns
returns c = λ fresh. number_stands fresh c.args.rest.now c.number_length-n.result c.token_or_fault.result c.requires c.number_length-n.ensures (c.token_or_fault.ensures ∙ ap (token_or_fault c.number_length-n.result) c.number_of.ensures)
