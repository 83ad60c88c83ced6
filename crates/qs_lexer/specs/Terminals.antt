-- The tokens of a text as the grammar sees them.
use Rattle.std.specs.Prelude.{◌≡◌, ℕ, ◌+◌, true, false, List, [], ◌∷◌, length}
use Rattle.std.specs.List.{list_all}
use Rattle.qs_lexer.specs.Laws.{spelling}
use Rattle.qs_lexer.specs.Literals.{elements}
use Rattle.qs_syntax_vocabulary.specs.WellFormed.{is_byte, is_well_formed}
use Rattle.qs_syntax_vocabulary.specs.declared.terminal.Terminal.{Terminal}
use Rattle.qs_syntax_vocabulary.specs.declared.terminal.Terminal.TheVariants.{Name, Keyword, Constant, Text, Punctuator}
use Rattle.qs_syntax_vocabulary.specs.declared.tokens.Token.{Token}
use Rattle.qs_syntax_vocabulary.specs.declared.tokens.TokenKind.{TokenKind}
use Rattle.qs_syntax_vocabulary.specs.declared.tokens.TokenKind.TheVariants as kinds

-- the token with this number, of these bytes: a character is an `int` (C11 6.4.4.4), and a text is the bytes that it stands for (C11 6.4.5)
abbrev pub terminal_of : ℕ → List ℕ → TokenKind → Terminal
terminal_of at bytes kinds.Name = Name at bytes
terminal_of at bytes (kinds.Keyword keyword) = Keyword at keyword
terminal_of at bytes (kinds.Number value unsigned) = Constant at value unsigned
terminal_of at bytes (kinds.Character value) = Constant at value false
terminal_of at bytes kinds.Text = Text at (elements bytes)
terminal_of at bytes (kinds.Punctuator punctuator) = Punctuator at punctuator

abbrev pub terminal : List ℕ → ℕ → Token → Terminal
terminal text at token = terminal_of at (spelling text token) token.kind

-- those of tokens that stand one behind the other, the first of which has this number
abbrev pub terminals : List ℕ → ℕ → List Token → List Terminal
terminals text at [] = []
terminals text at (token ∷ tokens) = terminal text at token ∷ terminals text (at + 1) tokens

-- there are as many terminals as tokens
abbrev pub AreAsMany : List ℕ → Type 0
AreAsMany text = (at : ℕ) (tokens : List Token) → length (terminals text at tokens) ≡ length tokens

-- the terminals of a text of bytes are well-formed
abbrev pub AreWellFormed : List ℕ → List Token → Type 0
AreWellFormed text tokens = list_all is_byte text ≡ true → list_all is_well_formed (terminals text 0 tokens) ≡ true
