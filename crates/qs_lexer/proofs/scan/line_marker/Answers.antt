use Rattle.std.proofs.Common.{refl, false, sym, ◌∙◌}
use Rattle.qs_lexer.specs.declared.pieces.Piece.TheVariants.{White, Fault}
use Rattle.qs_lexer.specs.declared.fault.FaultKind.TheVariants.{Directive}
use Rattle.qs_lexer.proofs.ScanWhiteSpace.{marker_stands, directive_stands}
use Rattle.qs_lexer.proofs.scan.line_marker.Goals as goal

pub returns-then-blanks_then_digit : goal.returns-then-blanks_then_digit
returns-then-blanks_then_digit c = λ fresh. marker_stands fresh c.args.rest.now c.split_at.result.1.now c.line_length.result (White c.line_length.result false) c.requires c.split_at.ensures.back
    (sym c.blanks_then_digit.ensures ∙ c.if-blanks_then_digit.true) c.line_length.ensures refl

pub returns-else-blanks_then_digit : goal.returns-else-blanks_then_digit
returns-else-blanks_then_digit c = λ fresh. directive_stands fresh c.args.rest.now c.split_at.result.1.now (Fault Directive) c.split_at.ensures.back (sym c.blanks_then_digit.ensures ∙ c.if-blanks_then_digit.false) refl
