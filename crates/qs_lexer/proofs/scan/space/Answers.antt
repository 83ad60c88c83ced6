use Rattle.std.proofs.Common.{[], refl, get_or, ap, ◌∙◌, ◌∷◌}
use Rattle.qs_lexer.specs.Pieces.{still_fresh}
use Rattle.qs_lexer.specs.declared.pieces.Piece.TheVariants.{White}
use Rattle.qs_lexer.proofs.ScanWhiteSpace.{space_stands}
use Rattle.qs_lexer.proofs.scan.space.Goals as goal

pub returns-in-len1-up : goal.returns-in-len1-up
returns-in-len1-up c = space_stands c.args.fresh c.args.rest.now c.still_fresh.result (White 1 c.still_fresh.result) c.requires
    (λ a tail e. c.still_fresh.ensures ∙ ap (λ t. still_fresh c.args.fresh (get_or t 0 0 ∷ [])) e) refl
