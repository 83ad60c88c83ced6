-- What words (C11 6.4.1, 6.4.2.1) and punctuators (C11 6.4.6) are as tokens.
use Rattle.std.specs.Prelude.{ℕ, List, Option, Some, None, Result, Ok, Err}
use Rattle.qs_base.specs.Keywords.{keyword_of}
use Rattle.qs_base.specs.declared.keyword.Keyword.{Keyword}
use Rattle.qs_lexer.specs.declared.fault.FaultKind.{FaultKind}
use Rattle.qs_lexer.specs.declared.fault.FaultKind.TheVariants as faults
use Rattle.qs_syntax_vocabulary.specs.declared.punctuator.Punctuator.{Punctuator}
use Rattle.qs_syntax_vocabulary.specs.declared.tokens.TokenKind.{TokenKind}
use Rattle.qs_syntax_vocabulary.specs.declared.tokens.TokenKind.TheVariants as kinds

abbrev pub word_with : Option Keyword → TokenKind
word_with None = kinds.Name
word_with (Some keyword) = kinds.Keyword keyword

-- a word is a keyword where it has that spelling, and else a name
abbrev pub word_of : List ℕ → Result TokenKind FaultKind
word_of word = Ok (word_with (keyword_of word))

abbrev pub punctuator_with : Option Punctuator → Result TokenKind FaultKind
punctuator_with None = Err faults.BadByte
punctuator_with (Some punctuator) = Ok (kinds.Punctuator punctuator)
