use Rattle.std.proofs.Common.{refl, false}
use Rattle.qs_lexer.specs.declared.pieces.Piece.TheVariants.{White}
use Rattle.qs_lexer.proofs.ScanWhiteSpace.{line_stands}
use Rattle.qs_lexer.proofs.scan.line_comment.Goals as goal

pub returns : goal.returns
returns c = λ fresh. line_stands fresh c.args.rest.now c.line_length.result (White c.line_length.result false) c.requires c.line_length.ensures refl
