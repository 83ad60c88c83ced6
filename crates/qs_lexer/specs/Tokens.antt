-- The tokens of a text (C11 6.4), and the places of its faults.
use Rattle.std.specs.Prelude.{ℕ, ◌+◌, Bool, true, false, List, [], ◌∷◌, ◌++◌, length, drop}
use Rattle.qs_lexer.specs.Pieces.{Next}
use Rattle.qs_lexer.specs.declared.fault.FaultKind.{FaultKind}
use Rattle.qs_lexer.specs.declared.pieces.Piece.TheVariants as pieces
use Rattle.qs_syntax_vocabulary.specs.declared.tokens.Token.{Token}
use Rattle.qs_syntax_vocabulary.specs.declared.tokens.TokenKind.{TokenKind}

abbrev pub token_at : ℕ → ℕ → TokenKind → Token
token_at at n kind = record { kind = kind; start = at; end = at + n }

-- The bytes before `at` are an alternation of white space and these tokens. `fresh`: only blanks and tabs stand before `at` on its line, and the line began outside comments.
pub data ReadsTo (text : List ℕ) : List Token → Bool → ℕ → Type 0 where
  start : ReadsTo text [] true 0
  white_space : {tokens : List Token} {fresh : Bool} {at : ℕ} (n : ℕ) (still : Bool)
      → ReadsTo text tokens fresh at → Next fresh (drop at text) (pieces.White n still) → ReadsTo text tokens still (at + n)
  token : {tokens : List Token} {fresh : Bool} {at : ℕ} (n : ℕ) (kind : TokenKind)
      → ReadsTo text tokens fresh at → Next fresh (drop at text) (pieces.Token n kind) → ReadsTo text (tokens ++ token_at at n kind ∷ []) false (at + n)

-- the whole text is an alternation of white space and these tokens
pub record Tokens (text : List ℕ) (tokens : List Token) : Type 0 where
  pub fresh : Bool
  pub reads : ReadsTo text tokens fresh (length text)

-- the bytes before `at` are an alternation of white space and tokens, and what begins at `at` has the form of this fault
pub record LexFaultAt (text : List ℕ) (kind : FaultKind) (at : ℕ) : Type 0 where
  pub tokens : List Token
  pub fresh : Bool
  pub reads : ReadsTo text tokens fresh at
  pub stands : Next fresh (drop at text) (pieces.Fault kind)

-- it holds of each list of tokens that the text consists of
abbrev pub EachReading : List ℕ → (List Token → Type 0) → Type 0
EachReading text holds = (tokens : List Token) → Tokens text tokens → holds tokens

-- it holds of each fault of the text
abbrev pub EachFault : List ℕ → (FaultKind → ℕ → Type 0) → Type 0
EachFault text holds = (kind : FaultKind) (at : ℕ) → LexFaultAt text kind at → holds kind at
