-- The terminals of a text that terminals are printed as.
use Rattle.std.specs.Prelude.{◌≡◌, ℕ, ◌+◌, List, [], ◌∷◌}
use Rattle.qs_lexer.specs.Terminals.{terminals}
use Rattle.qs_lexer.specs.Tokens.{Tokens}
use Rattle.qs_print.specs.Spelling.{joined}
use Rattle.qs_syntax_vocabulary.specs.declared.terminal.Terminal.{Terminal}
use Rattle.qs_syntax_vocabulary.specs.declared.terminal.Terminal.TheVariants as terminals
use Rattle.qs_syntax_vocabulary.specs.declared.tokens.Token.{Token}

-- the same token under this number, where no name is a type's
abbrev pub numbered : ℕ → Terminal → Terminal
numbered at (terminals.Name old x) = terminals.Name at x
numbered at (terminals.TypeName old x) = terminals.Name at x
numbered at (terminals.Keyword old keyword) = terminals.Keyword at keyword
numbered at (terminals.Constant old value unsigned) = terminals.Constant at value unsigned
numbered at (terminals.Text old bytes) = terminals.Text at bytes
numbered at (terminals.Punctuator old punctuator) = terminals.Punctuator at punctuator

-- the same tokens, their numbers counted from this one
abbrev pub renumbered : ℕ → List Terminal → List Terminal
renumbered at [] = []
renumbered at (l ∷ ls) = numbered at l ∷ renumbered (at + 1) ls

-- the text of these terminals has tokens, which are these terminals again, their numbers and marks aside
pub record LexedBack (ls : List Terminal) : Type 0 where
  pub tokens : List Token
  pub are_tokens : Tokens (joined ls) tokens
  pub same : terminals (joined ls) 0 tokens ≡ renumbered 0 ls
