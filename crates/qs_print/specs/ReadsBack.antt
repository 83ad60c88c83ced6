-- What is printed is read as the same unit again.
use Rattle.std.specs.Prelude.{◌≡◌, ℕ, ◌≤◌, List}
use Rattle.qs_lexer.specs.Terminals.{terminals}
use Rattle.qs_lexer.specs.Tokens.{Tokens}
use Rattle.qs_syntax.specs.WithoutTokens.{without_tokens}
use Rattle.qs_syntax_vocabulary.specs.declared.tokens.Token.{Token}
use Rattle.qs_syntax.specs.ReadsUnits.{ReadsUnit}
use Rattle.qs_syntax.specs.Trees.{DeclTree}
use Rattle.qs_syntax.specs.Units.{height_limit}

-- The text has tokens, and these are read, not too high, as a unit that is the same as `ds` but for the numbers of tokens and nodes.
pub record ReadsBack (text : List ℕ) (ds : List DeclTree) : Type 0 where
  pub tokens : List Token
  pub height : ℕ
  pub unit : List DeclTree
  pub are_tokens : Tokens text tokens
  pub reads : ReadsUnit height (terminals text 0 tokens) unit
  pub low : height ≤ height_limit
  pub same : without_tokens unit ≡ without_tokens ds
