use Rattle.std.proofs.Common.{refl, sym, ◌∙◌}
use Rattle.qs_lexer.specs.declared.pieces.Piece.TheVariants.{Token, Fault}
use Rattle.qs_lexer.specs.declared.fault.FaultKind.TheVariants.{BadByte}
use Rattle.qs_syntax_vocabulary.specs.declared.tokens.TokenKind.TheVariants.{Punctuator}
use Rattle.qs_lexer.proofs.ScanTokens.{punctuator_3, punctuator_2, punctuator_1, punctuator_0}
use Rattle.qs_lexer.proofs.scan.punctuator.Goals as goal

pub returns-in-Some : goal.returns-in-Some
returns-in-Some c = λ fresh. punctuator_3 fresh c.args.rest.now c.in-Some.punctuator (Token 3 (Punctuator c.in-Some.punctuator)) (sym c.punctuator_front.ensures ∙ c.in-Some.is) refl

pub returns-in-Some-punctuator_front : goal.returns-in-Some-punctuator_front
returns-in-Some-punctuator_front c = λ fresh. punctuator_2 fresh c.args.rest.now c.in-Some-punctuator_front.punctuator (Token 2 (Punctuator c.in-Some-punctuator_front.punctuator)) (sym c.punctuator_front.ensures ∙ c.in-None.is)
    (sym c.punctuator_front-in-None.ensures ∙ c.in-Some-punctuator_front.is) refl

pub returns-in-Some-punctuator_front-2 : goal.returns-in-Some-punctuator_front-2
returns-in-Some-punctuator_front-2 c = λ fresh. punctuator_1 fresh c.args.rest.now c.in-Some-punctuator_front-2.punctuator (Token 1 (Punctuator c.in-Some-punctuator_front-2.punctuator)) (sym c.punctuator_front.ensures ∙ c.in-None.is)
    (sym c.punctuator_front-in-None.ensures ∙ c.in-None-punctuator_front.is) (sym c.punctuator_front-in-None-punctuator_front.ensures ∙ c.in-Some-punctuator_front-2.is) refl

pub returns-in-None-punctuator_front-2 : goal.returns-in-None-punctuator_front-2
returns-in-None-punctuator_front-2 c = λ fresh. punctuator_0 fresh c.args.rest.now (Fault BadByte) (sym c.punctuator_front.ensures ∙ c.in-None.is)
    (sym c.punctuator_front-in-None.ensures ∙ c.in-None-punctuator_front.is) (sym c.punctuator_front-in-None-punctuator_front.ensures ∙ c.in-None-punctuator_front-2.is) refl
