-- The precedence of punctuators: those that bind most strongly first.
use Rattle.std.proofs.Common.{◌≡◌, [], ◌∷◌, refl}
use Rattle.std.specs.Prelude.{map}
use Rattle.qs_syntax_vocabulary.specs.declared.punctuator.Punctuator.TheVariants as punctuators
use Rattle.qs_parser_grammar.specs.Stops.{punctuator_precedence, precedence_at}

operators : map punctuator_precedence (
    punctuators.Star ∷ punctuators.Minus ∷ punctuators.ShiftLeft ∷ punctuators.Less ∷ punctuators.NotEqual
    ∷ punctuators.Ampersand ∷ punctuators.Caret ∷ punctuators.Bar ∷ punctuators.AndAnd ∷ punctuators.OrOr ∷ [])
    ≡ 1 ∷ 2 ∷ 3 ∷ 4 ∷ 5 ∷ 6 ∷ 7 ∷ 8 ∷ 9 ∷ 10 ∷ []
operators = refl

behind_them : map punctuator_precedence (punctuators.Question ∷ punctuators.Assign ∷ punctuators.AddAssign ∷ punctuators.Comma ∷ []) ≡ 11 ∷ 12 ∷ 12 ∷ 13 ∷ []
behind_them = refl

goes_on_with_an_operand : map punctuator_precedence (punctuators.OpenBracket ∷ punctuators.OpenParenthesis ∷ punctuators.Dot ∷ punctuators.Increment ∷ []) ≡ 0 ∷ 0 ∷ 0 ∷ 0 ∷ []
goes_on_with_an_operand = refl

ends : map punctuator_precedence (punctuators.Semicolon ∷ punctuators.CloseParenthesis ∷ punctuators.Tilde ∷ []) ≡ 14 ∷ 14 ∷ 14 ∷ []
ends = refl

at_the_end : precedence_at [] ≡ 14
at_the_end = refl
