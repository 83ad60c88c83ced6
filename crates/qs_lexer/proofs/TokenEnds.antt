-- A word or a number, and behind it a byte that ends it.
use Rattle.std.proofs.Common.{◌≡◌, ℕ, Bool, true, false, ◌&&◌, List, [], ◌∷◌, ◌++◌, Ok, length, take, refl, ap, sym, ◌∙◌, arith, ◌==◌}
use Rattle.std.proofs.Math.Seq.{take-append_seam}
use Rattle.std.proofs.lemmas.Bool.Decides.{nat_tests}
use Rattle.std.specs.Cmp.{first_so, second_so}
use Rattle.std.specs.List.{list_all, prefix_len}
use Rattle.std.proofs.lemmas.Bool.{and_right}
use Rattle.qs_base.specs.Bytes.{is_digit, is_letter, is_word_byte}
use Rattle.qs_base.specs.Names.{is_word}
use Rattle.qs_lexer.specs.Bytes.{is_number_byte, is_space, starts}
use Rattle.qs_lexer.specs.Numbers.{number_of}
use Rattle.qs_lexer.specs.Pieces.{Next, class_of, token_or_fault}
use Rattle.qs_lexer.specs.Words.{word_of}
use Rattle.qs_lexer.specs.declared.pieces.Class.TheVariants.{Word, Number}
use Rattle.qs_lexer.specs.declared.pieces.Piece.TheVariants as pieces
use Rattle.qs_syntax_vocabulary.specs.declared.tokens.TokenKind.{TokenKind}
use Rattle.qs_lexer.proofs.PieceClasses.{next_is}
use Rattle.qs_lexer.proofs.ScanTokens.{number_stands, word_stands}

prefix_all : (p : ℕ → Bool) (word : List ℕ) (stop : ℕ) (rest : List ℕ) → list_all p word ≡ true → p stop ≡ false → prefix_len p (word ++ stop ∷ rest) ≡ length word
prefix_all p [] stop rest h g = rw g refl
prefix_all p (x ∷ xs) stop rest h g = rw (first_so (p x) (list_all p xs) h, prefix_all p xs stop rest (second_so (p x) (list_all p xs) h) g) (omega arith)

letter_class : (fresh : Bool) (a : ℕ) (others : List ℕ) → is_letter a ≡ true → class_of fresh (a ∷ others) ≡ Word
letter_class fresh a others h =
    let space : is_space a ≡ false = grind (arith, nat_tests) in
    let slash : (a == 47) ≡ false = grind (arith, nat_tests) in
    let hash : (fresh && a == 35) ≡ false = and_right fresh (a == 35) (grind (arith, nat_tests)) in
    rw (space, slash, hash, h) refl

pub word_next : (fresh : Bool) (word : List ℕ) (kind : TokenKind) (stop : ℕ) (rest : List ℕ) → is_word word ≡ true → word_of word ≡ Ok kind → is_word_byte stop ≡ false → Next fresh (word ++ stop ∷ rest) (pieces.Token (length word) kind)
word_next fresh [] kind stop rest w e g = cc
word_next fresh (a ∷ xs) kind stop rest w e g =
    let letter : is_letter a ≡ true = first_so (is_letter a) (list_all is_word_byte xs) w in
    let bytes : list_all is_word_byte (a ∷ xs) ≡ true = rw letter (second_so (is_letter a) (list_all is_word_byte xs) w) in
    let is : token_or_fault (length (a ∷ xs)) (word_of (take (length (a ∷ xs)) ((a ∷ xs) ++ stop ∷ rest))) ≡ pieces.Token (length (a ∷ xs)) kind = ap (token_or_fault (length (a ∷ xs))) (ap word_of (take-append_seam (a ∷ xs) (stop ∷ rest)) ∙ e) in
    next_is fresh ((a ∷ xs) ++ stop ∷ rest) Word (class_of fresh ((a ∷ xs) ++ stop ∷ rest)) (pieces.Token (length (a ∷ xs)) kind) refl (letter_class fresh a (xs ++ stop ∷ rest) letter)
    (word_stands fresh ((a ∷ xs) ++ stop ∷ rest) (length (a ∷ xs)) (pieces.Token (length (a ∷ xs)) kind) letter (sym (prefix_all is_word_byte (a ∷ xs) stop rest bytes g)) (sym is))

digit_class : (fresh : Bool) (a : ℕ) (others : List ℕ) → is_digit a ≡ true → class_of fresh (a ∷ others) ≡ Number
digit_class fresh a others h =
    let space : is_space a ≡ false = grind (arith, nat_tests) in
    let slash : (a == 47) ≡ false = grind (arith, nat_tests) in
    let hash : (fresh && a == 35) ≡ false = and_right fresh (a == 35) (grind (arith, nat_tests)) in
    let letter : is_letter a ≡ false = grind (arith, nat_tests) in
    rw (space, slash, hash, letter, h) refl

-- a number of these bytes, whatever its value
pub number_next : (fresh : Bool) (word : List ℕ) (kind : TokenKind) (stop : ℕ) (rest : List ℕ) → starts is_digit word ≡ true → list_all is_number_byte word ≡ true → number_of word ≡ Ok kind → is_number_byte stop ≡ false
    → Next fresh (word ++ stop ∷ rest) (pieces.Token (length word) kind)
number_next fresh [] kind stop rest s b e g = cc
number_next fresh (a ∷ xs) kind stop rest s b e g =
    let is : token_or_fault (length (a ∷ xs)) (number_of (take (length (a ∷ xs)) ((a ∷ xs) ++ stop ∷ rest))) ≡ pieces.Token (length (a ∷ xs)) kind = ap (token_or_fault (length (a ∷ xs))) (ap number_of (take-append_seam (a ∷ xs) (stop ∷ rest)) ∙ e) in
    next_is fresh ((a ∷ xs) ++ stop ∷ rest) Number (class_of fresh ((a ∷ xs) ++ stop ∷ rest)) (pieces.Token (length (a ∷ xs)) kind) refl (digit_class fresh a (xs ++ stop ∷ rest) s)
    (number_stands fresh ((a ∷ xs) ++ stop ∷ rest) (length (a ∷ xs)) (pieces.Token (length (a ∷ xs)) kind) s (sym (prefix_all is_number_byte (a ∷ xs) stop rest b g)) (sym is))
