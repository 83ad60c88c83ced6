-- How the rest of a text is lexed, wherever it stands.
use Rattle.std.proofs.Common.{◌≡◌, ℕ, ◌+◌, ◌-◌, Bool, true, false, List, [], ◌∷◌, ◌++◌, length, take, drop, refl, ap, sym, ◌∙◌, subst, arith}
use Rattle.std.proofs.Math.Seq.{drop-append_seam, take-append_seam}
use Rattle.std.proofs.lemmas.List.{append-nil, append_assoc, drop-drop, length-append}
use Rattle.std.proofs.lemmas.Bool.{cond-true}
use Rattle.qs_lexer.specs.Bytes.{is_space}
use Rattle.qs_lexer.specs.Laws as laws
use Rattle.qs_lexer.specs.Terminals.{terminal_of, terminals}
use Rattle.qs_lexer.specs.Pieces.{Next, class_of, still_fresh}
use Rattle.qs_lexer.specs.Tokens.{ReadsTo, Tokens, start, white_space, token, token_at}
use Rattle.qs_lexer.specs.declared.pieces.Class.TheVariants.{Space}
use Rattle.qs_lexer.specs.declared.pieces.Piece.{Piece}
use Rattle.qs_lexer.specs.declared.pieces.Piece.TheVariants as pieces
use Rattle.qs_lexer.proofs.PieceClasses.{next_is}
use Rattle.qs_lexer.proofs.ScanWhiteSpace.{space_stands}
use Rattle.qs_syntax_vocabulary.specs.declared.terminal.Terminal.{Terminal}
use Rattle.qs_syntax_vocabulary.specs.declared.tokens.Token.{Token}
use Rattle.qs_syntax_vocabulary.specs.declared.tokens.TokenKind.{TokenKind}

-- what the text has from `at` on
record Left (text : List ℕ) (at : ℕ) (rest : List ℕ) : Type 0 where
  is : drop at text ≡ rest
  whole : at + length rest ≡ length text

-- behind these tokens the text has others, which are these terminals, the first of which has this number
record Goes (text : List ℕ) (done : List Token) (number : ℕ) (ls : List Terminal) : Type 0 where
  more : List Token
  are_tokens : Tokens text (done ++ more)
  seen : terminals text number more ≡ ls

-- where a text has these bytes left, they are these terminals
pub record LexesAs (fresh : Bool) (rest : List ℕ) (number : ℕ) (ls : List Terminal) : Type 0 where
  goes : (text : List ℕ) (done : List Token) (at : ℕ) → ReadsTo text done fresh at → Left text at rest → Goes text done number ls

passed : (text word rest : List ℕ) (at : ℕ) → Left text at (word ++ rest) → Left text (at + length word) rest
passed text word rest at l = record {
  is = sym (drop-drop (length word) at text) ∙ ap (drop (length word)) l.is ∙ drop-append_seam word rest;
  whole = omega (arith, length-append word rest, l.whole);
}

there : (fresh : Bool) (text rest : List ℕ) (at : ℕ) (piece : Piece) → Left text at rest → Next fresh rest piece → Next fresh (drop at text) piece
there fresh text rest at piece l n = let P : List ℕ → Type 0 = λ r. Next fresh r piece in subst P (sym l.is) n

-- ---- the end

all_read : (text : List ℕ) (done : List Token) (fresh : Bool) (at : ℕ) → ReadsTo text done fresh at → at ≡ length text → Tokens text (done ++ [])
all_read text done fresh at r e =
    let P : List Token → Type 0 = λ ts. Tokens text ts in
    let Q : ℕ → Type 0 = λ k. ReadsTo text done fresh k in
    subst P (sym (append-nil done)) (record { fresh = fresh; reads = subst Q e r })

pub nothing_left : (fresh : Bool) (number : ℕ) → LexesAs fresh [] number []
nothing_left fresh number = record { goes = λ text done at r l. record { more = []; are_tokens = all_read text done fresh at r (omega (arith, l.whole)); seen = refl } }

-- ---- a blank or a line feed

pub white_then : (fresh still : Bool) (a : ℕ) {rest : List ℕ} {number : ℕ} {ls : List Terminal} → is_space a ≡ true → still ≡ still_fresh fresh (a ∷ []) → LexesAs still rest number ls → LexesAs fresh (a ∷ rest) number ls
white_then fresh still a {rest} h s on = record {
  goes = λ text done at r l.
      on.goes text done (at + 1) (white_space 1 still r (there fresh text (a ∷ rest) at (pieces.White 1 still) l next)) (passed text (a ∷ []) rest at l);
}
  where
    same : (b : ℕ) (tail : List ℕ) → a ∷ rest ≡ b ∷ tail → still ≡ still_fresh fresh (b ∷ [])
    same b tail e = let first : a ≡ b = cc in s ∙ ap (λ x. still_fresh fresh (x ∷ [])) first

    next : Next fresh (a ∷ rest) (pieces.White 1 still)
    next = next_is fresh (a ∷ rest) Space (class_of fresh (a ∷ rest)) (pieces.White 1 still) refl (cond-true (is_space a) Space _ h) (space_stands fresh (a ∷ rest) still (pieces.White 1 still) h same refl)

-- ---- a token

spelled : (text word rest : List ℕ) (at : ℕ) (kind : TokenKind) → Left text at (word ++ rest) → laws.spelling text (token_at at (length word) kind) ≡ word
spelled text word rest at kind l =
    let n : at + length word - at ≡ length word = omega arith in
    ap (λ k. take k (drop at text)) n ∙ ap (take (length word)) l.is ∙ take-append_seam word rest

pub token_then : (fresh : Bool) (word : List ℕ) (kind : TokenKind) {rest : List ℕ} {number : ℕ} {ls : List Terminal} → Next fresh (word ++ rest) (pieces.Token (length word) kind) → LexesAs false rest (number + 1) ls
    → LexesAs fresh (word ++ rest) number (terminal_of number word kind ∷ ls)
token_then fresh word kind {rest} {number} {ls} next on = record {
  goes = λ text done at r l.
      let t : Token = token_at at (length word) kind in
      let r' : ReadsTo text (done ++ t ∷ []) false (at + length word) = token (length word) kind r (there fresh text (word ++ rest) at (pieces.Token (length word) kind) l next) in
      let g : Goes text (done ++ t ∷ []) (number + 1) ls = on.goes text (done ++ t ∷ []) (at + length word) r' (passed text word rest at l) in
      let P : List Token → Type 0 = λ ts. Tokens text ts in
      record {
        more = t ∷ g.more;
        are_tokens = subst P (append_assoc done (t ∷ []) g.more) g.are_tokens;
        seen = ap (λ bytes. terminal_of number bytes kind ∷ terminals text (number + 1) g.more) (spelled text word rest at kind l) ∙ ap (λ xs. terminal_of number word kind ∷ xs) g.seen;
      };
}

-- ---- a whole text

pub record Lexed (text : List ℕ) (ls : List Terminal) : Type 0 where
  pub tokens : List Token
  pub are_tokens : Tokens text tokens
  pub seen : terminals text 0 tokens ≡ ls

pub lexed : (text : List ℕ) (ls : List Terminal) → LexesAs true text 0 ls → Lexed text ls
lexed text ls h =
    let g : Goes text [] 0 ls = h.goes text [] 0 start (record { is = refl; whole = omega arith }) in
    record { tokens = g.more; are_tokens = g.are_tokens; seen = g.seen }
