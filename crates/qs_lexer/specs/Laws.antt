-- What holds of the tokens of every text.
use Rattle.std.specs.Prelude.{◌≡◌, ℕ, ◌-◌, ◌<◌, ◌≤◌, true, List, [], ◌∷◌, length, take, drop, Ok}
use Rattle.qs_base.specs.Names.{is_name}
use Rattle.qs_base.specs.Characters.{double_quote}
use Rattle.qs_lexer.specs.Literals.{text_of}
use Rattle.qs_lexer.specs.Pieces.{Longest, is_quoted, is_token}
use Rattle.qs_lexer.specs.Tokens.{LexFaultAt, Tokens}
use Rattle.qs_lexer.specs.declared.fault.FaultKind.{FaultKind}
use Rattle.qs_syntax_vocabulary.specs.declared.tokens.Token.{Token}
use Rattle.qs_syntax_vocabulary.specs.declared.tokens.TokenKind.TheVariants as kinds

-- the bytes of a token: those from its start to its end
abbrev pub spelling : List ℕ → Token → List ℕ
spelling text token = take (token.end - token.start) (drop token.start text)

-- a text literal: quoted, and each of its elements is a byte
pub record IsTextLiteral (literal : List ℕ) : Type 0 where
  pub quoted : is_quoted double_quote literal ≡ true
  pub valid : text_of literal ≡ Ok kinds.Text

-- A token lies in the text and has at least one byte, no more bytes that begin at its start are a token, a name is a name of the language, and a text is a text literal.
pub record IsTokenOf (text : List ℕ) (token : Token) : Type 0 where
  pub some : token.start < token.end
  pub within : token.end ≤ length text
  pub longest : Longest is_token (drop token.start text) (token.end - token.start)
  pub name : token.kind ≡ kinds.Name → is_name (spelling text token) ≡ true
  pub literal : token.kind ≡ kinds.Text → IsTextLiteral (spelling text token)

-- the tokens stand one behind the other, from `from` on up to `to`
abbrev pub InOrder : ℕ → List Token → ℕ → Type 0
InOrder from [] to = from ≤ to
InOrder from (token ∷ tokens) to = (from ≤ token.start) × InOrder token.end tokens to

-- the tokens stand in order in the text
abbrev pub IsInOrder : List ℕ → List Token → Type 0
IsInOrder text tokens = InOrder 0 tokens (length text)

-- the text consists of one list of tokens at most
abbrev pub HasOneList : List ℕ → Type 0
HasOneList text = (tokens others : List Token) → Tokens text tokens → Tokens text others → tokens ≡ others

-- the faults of the text are of one kind
abbrev pub HasOneKind : List ℕ → Type 0
HasOneKind text = (kind other : FaultKind) (at place : ℕ) → LexFaultAt text kind at → LexFaultAt text other place → kind ≡ other

-- the faults of the text are at one place
abbrev pub HasOnePlace : List ℕ → Type 0
HasOnePlace text = (kind other : FaultKind) (at place : ℕ) → LexFaultAt text kind at → LexFaultAt text other place → at ≡ place

-- a text that consists of tokens has no fault
abbrev pub NotBoth : List ℕ → Type 0
NotBoth text = (tokens : List Token) (kind : FaultKind) (at : ℕ) → Tokens text tokens → LexFaultAt text kind at → ⊥
