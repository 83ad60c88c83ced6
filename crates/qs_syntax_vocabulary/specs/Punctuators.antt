-- The punctuators (C11 6.4.6).
use Rattle.std.specs.Prelude.{ℕ, Bool, List, [], ◌∷◌, bytes_eq, codes, Option}
use Rattle.std.specs.List.{find}
use denote.Enum.Bare.{sameb}
use Rattle.qs_syntax_vocabulary.specs.contracts.punctuator.Punctuator.{the_type}
use Rattle.qs_syntax_vocabulary.specs.declared.punctuator.Punctuator.{Punctuator}
use Rattle.qs_syntax_vocabulary.specs.declared.punctuator.Punctuator.TheVariants as punctuator

-- how each is spelled
abbrev pub punctuator_spelling : Punctuator → List ℕ
punctuator_spelling punctuator.OpenBracket = codes "["
punctuator_spelling punctuator.CloseBracket = codes "]"
punctuator_spelling punctuator.OpenParenthesis = codes "("
punctuator_spelling punctuator.CloseParenthesis = codes ")"
punctuator_spelling punctuator.OpenBrace = codes "{"
punctuator_spelling punctuator.CloseBrace = codes "}"
punctuator_spelling punctuator.Dot = codes "."
punctuator_spelling punctuator.Arrow = codes "->"
punctuator_spelling punctuator.Increment = codes "++"
punctuator_spelling punctuator.Decrement = codes "--"
punctuator_spelling punctuator.Ampersand = codes "&"
punctuator_spelling punctuator.Star = codes "*"
punctuator_spelling punctuator.Plus = codes "+"
punctuator_spelling punctuator.Minus = codes "-"
punctuator_spelling punctuator.Tilde = codes "~"
punctuator_spelling punctuator.Exclamation = codes "!"
punctuator_spelling punctuator.Slash = codes "/"
punctuator_spelling punctuator.Percent = codes "%"
punctuator_spelling punctuator.ShiftLeft = codes "<<"
punctuator_spelling punctuator.ShiftRight = codes ">>"
punctuator_spelling punctuator.Less = codes "<"
punctuator_spelling punctuator.Greater = codes ">"
punctuator_spelling punctuator.LessEqual = codes "<="
punctuator_spelling punctuator.GreaterEqual = codes ">="
punctuator_spelling punctuator.Equal = codes "=="
punctuator_spelling punctuator.NotEqual = codes "!="
punctuator_spelling punctuator.Caret = codes "^"
punctuator_spelling punctuator.Bar = codes "|"
punctuator_spelling punctuator.AndAnd = codes "&&"
punctuator_spelling punctuator.OrOr = codes "||"
punctuator_spelling punctuator.Question = codes "?"
punctuator_spelling punctuator.Colon = codes ":"
punctuator_spelling punctuator.Semicolon = codes ";"
punctuator_spelling punctuator.Assign = codes "="
punctuator_spelling punctuator.MultiplyAssign = codes "*="
punctuator_spelling punctuator.DivideAssign = codes "/="
punctuator_spelling punctuator.RemainderAssign = codes "%="
punctuator_spelling punctuator.AddAssign = codes "+="
punctuator_spelling punctuator.SubtractAssign = codes "-="
punctuator_spelling punctuator.ShiftLeftAssign = codes "<<="
punctuator_spelling punctuator.ShiftRightAssign = codes ">>="
punctuator_spelling punctuator.AndAssign = codes "&="
punctuator_spelling punctuator.XorAssign = codes "^="
punctuator_spelling punctuator.OrAssign = codes "|="
punctuator_spelling punctuator.Comma = codes ","

-- all of them, in the standard's order
abbrev pub punctuators : List Punctuator
punctuators =
    punctuator.OpenBracket
    ∷ punctuator.CloseBracket
    ∷ punctuator.OpenParenthesis
    ∷ punctuator.CloseParenthesis
    ∷ punctuator.OpenBrace
    ∷ punctuator.CloseBrace
    ∷ punctuator.Dot
    ∷ punctuator.Arrow
    ∷ punctuator.Increment
    ∷ punctuator.Decrement
    ∷ punctuator.Ampersand
    ∷ punctuator.Star
    ∷ punctuator.Plus
    ∷ punctuator.Minus
    ∷ punctuator.Tilde
    ∷ punctuator.Exclamation
    ∷ punctuator.Slash
    ∷ punctuator.Percent
    ∷ punctuator.ShiftLeft
    ∷ punctuator.ShiftRight
    ∷ punctuator.Less
    ∷ punctuator.Greater
    ∷ punctuator.LessEqual
    ∷ punctuator.GreaterEqual
    ∷ punctuator.Equal
    ∷ punctuator.NotEqual
    ∷ punctuator.Caret
    ∷ punctuator.Bar
    ∷ punctuator.AndAnd
    ∷ punctuator.OrOr
    ∷ punctuator.Question
    ∷ punctuator.Colon
    ∷ punctuator.Semicolon
    ∷ punctuator.Assign
    ∷ punctuator.MultiplyAssign
    ∷ punctuator.DivideAssign
    ∷ punctuator.RemainderAssign
    ∷ punctuator.AddAssign
    ∷ punctuator.SubtractAssign
    ∷ punctuator.ShiftLeftAssign
    ∷ punctuator.ShiftRightAssign
    ∷ punctuator.AndAssign
    ∷ punctuator.XorAssign
    ∷ punctuator.OrAssign
    ∷ punctuator.Comma
    ∷ []

-- the punctuator that is spelled so
unfoldable pub punctuator_of : List ℕ → Option Punctuator
punctuator_of spelling = find (λ punctuator. bytes_eq (punctuator_spelling punctuator) spelling) punctuators

abbrev pub same_punctuator : Punctuator → Punctuator → Bool
same_punctuator = sameb the_type
