-- A word with a gap behind it.
use Rattle.std.proofs.Common.{◌≡◌, ℕ, Bool, true, false, not, ◌||◌, List, ◌∷◌, ◌++◌, Option, Some, None, is_some, Ok, length, refl, ap, arith, ◌==◌}
use Rattle.std.proofs.lemmas.Bool.Decides.{nat_tests}
use Rattle.std.proofs.lemmas.Bool.{and_parts, not-true}
use Rattle.qs_base.specs.Bytes.{is_word_byte}
use Rattle.qs_base.specs.Keywords.{is_keyword, keyword_of, keyword_spelling}
use Rattle.qs_base.specs.Names.{is_name, is_word}
use Rattle.qs_base.specs.declared.keyword.Keyword.{Keyword}
use Rattle.qs_lexer.specs.Pieces.{Next}
use Rattle.qs_lexer.specs.Words.{word_with}
use Rattle.qs_lexer.specs.declared.pieces.Piece.TheVariants as pieces
use Rattle.qs_syntax_vocabulary.specs.declared.tokens.TokenKind.TheVariants as kinds
use Rattle.qs_base.proofs.KeywordLaws.{each_keyword, keyword_of-spelling}
use Rattle.qs_lexer.proofs.TokenEnds.{word_next}

-- ---- tests

-- ---- what stands behind a word: a blank or the end of a line

abbrev pub is_gap : ℕ → Bool
is_gap byte = byte == 32 || byte == 10

gap_no_word : (byte : ℕ) → is_gap byte ≡ true → is_word_byte byte ≡ false
gap_no_word byte h = grind (arith, nat_tests)

-- ---- names

no_some : {A : Type 0} (o : Option A) → is_some o ≡ false → o ≡ None
no_some None h = refl
no_some (Some x) h = cc

name_parts : (word : List ℕ) → is_name word ≡ true → (is_word word ≡ true) × (keyword_of word ≡ None)
unfolding is_name is_keyword
name_parts word h =
    let b : (is_word word ≡ true) × (not (is_some (keyword_of word)) ≡ true) = and_parts (is_word word) (not (is_some (keyword_of word))) h in
    (b.0, no_some (keyword_of word) (not-true (is_some (keyword_of word)) b.1))

pub name_next : (fresh : Bool) (word : List ℕ) (gap : ℕ) (rest : List ℕ) → is_name word ≡ true → is_gap gap ≡ true → Next fresh (word ++ gap ∷ rest) (pieces.Token (length word) kinds.Name)
name_next fresh word gap rest h g =
    let p : (is_word word ≡ true) × (keyword_of word ≡ None) = name_parts word h in
    word_next fresh word kinds.Name gap rest p.0 (ap (λ o. Ok (word_with o)) p.1) (gap_no_word gap g)

-- ---- keywords

keyword_word : (k : Keyword) → is_word (keyword_spelling k) ≡ true
keyword_word = each_keyword (λ k. is_word (keyword_spelling k)) refl

pub keyword_next : (fresh : Bool) (k : Keyword) (gap : ℕ) (rest : List ℕ) → is_gap gap ≡ true → Next fresh (keyword_spelling k ++ gap ∷ rest) (pieces.Token (length (keyword_spelling k)) (kinds.Keyword k))
keyword_next fresh k gap rest g = word_next fresh (keyword_spelling k) (kinds.Keyword k) gap rest (keyword_word k) (ap (λ o. Ok (word_with o)) (keyword_of-spelling k)) (gap_no_word gap g)
