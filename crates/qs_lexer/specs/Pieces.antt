-- What stands first in the rest of a text (C11 6.4): white space, a token or a fault.
use Rattle.std.specs.Prelude.{◌≡◌, ℕ, ◌<◌, ◌≤◌, ◌⊎◌, Bool, true, false, ◌&&◌, ◌||◌, List, [], ◌∷◌, length, take, drop, ◌==◌, if◌then◌else◌, is_some, Result, Ok, Err}
use Rattle.std.specs.List.{list_all}
use Rattle.qs_base.specs.Bytes.{is_digit, is_in_line, is_letter}
use Rattle.qs_base.specs.Names.{is_word}
use Rattle.qs_lexer.specs.Bytes.{blanks_then_digit, first_then, is_blank, is_empty, is_number_byte, is_space, starts, starts_with}
use Rattle.qs_base.specs.Characters.{asterisk, double_quote, new_line, number_sign, single_quote, slash}
use Rattle.qs_lexer.specs.Ends.{closes, comment_turn, quote_turn}
use Rattle.qs_lexer.specs.Literals.{character_of, text_of}
use Rattle.qs_lexer.specs.Numbers.{number_of}
use Rattle.qs_lexer.specs.Words.{punctuator_with, word_of}
use Rattle.qs_syntax_vocabulary.specs.Punctuators.{punctuator_of}
use Rattle.qs_lexer.specs.declared.fault.FaultKind.{FaultKind}
use Rattle.qs_lexer.specs.declared.fault.FaultKind.TheVariants as faults
use Rattle.qs_lexer.specs.declared.pieces.Class.{Class}
use Rattle.qs_lexer.specs.declared.pieces.Class.TheVariants.{End, Space, LineComment, BlockComment, LineMarker, Word, Number, Character, Text, Other}
use Rattle.qs_lexer.specs.declared.pieces.Piece.{Piece}
use Rattle.qs_lexer.specs.declared.pieces.Piece.TheVariants as pieces
use Rattle.qs_syntax_vocabulary.specs.declared.tokens.TokenKind.{TokenKind}

-- ---- the class is fixed by the first bytes

-- `fresh`: only blanks and tabs stand before on the line, and the line began outside comments
abbrev pub class_with : Bool → ℕ → List ℕ → Class
class_with fresh first others =
    if is_space first then Space
    else if first == slash && starts_with slash others then LineComment
    else if first == slash && starts_with asterisk others then BlockComment
    else if fresh && first == number_sign then LineMarker
    else if is_letter first then Word
    else if is_digit first then Number
    else if first == single_quote then Character
    else if first == double_quote then Text
    else Other

abbrev pub class_of : Bool → List ℕ → Class
class_of fresh [] = End
class_of fresh (first ∷ others) = class_with fresh first others

-- ---- which bytes have the form of the class

abbrev pub is_one_space : List ℕ → Bool
is_one_space bytes = starts is_space bytes && is_empty (drop 1 bytes)

-- `//` up to the line's end (C11 6.4.9)
abbrev pub is_line_comment : List ℕ → Bool
is_line_comment bytes = starts_with slash bytes && starts_with slash (drop 1 bytes) && list_all is_in_line bytes

-- `/*` up to the first `*/` (C11 6.4.9)
abbrev pub is_block_comment : List ℕ → Bool
is_block_comment bytes = starts_with slash bytes && starts_with asterisk (drop 1 bytes) && closes comment_turn false (drop 2 bytes)

-- `#`, blanks or tabs, a digit, and all up to the line's end
abbrev pub is_line_marker : List ℕ → Bool
is_line_marker bytes = starts_with number_sign bytes && blanks_then_digit (drop 1 bytes) && list_all is_in_line bytes

abbrev pub is_number : List ℕ → Bool
is_number bytes = first_then is_digit is_number_byte bytes

-- from a quote up to the next on the line, backslashes taking the byte behind them
abbrev pub is_quoted : ℕ → List ℕ → Bool
is_quoted quote bytes = starts_with quote bytes && closes (quote_turn quote) false (drop 1 bytes)

abbrev pub is_punctuator : List ℕ → Bool
is_punctuator bytes = is_some (punctuator_of bytes)

abbrev pub has_form : Class → List ℕ → Bool
has_form End bytes = false
has_form Space bytes = is_one_space bytes
has_form LineComment bytes = is_line_comment bytes
has_form BlockComment bytes = is_block_comment bytes
has_form LineMarker bytes = is_line_marker bytes
has_form Word bytes = is_word bytes
has_form Number bytes = is_number bytes
has_form Character bytes = is_quoted single_quote bytes
has_form Text bytes = is_quoted double_quote bytes
has_form Other bytes = is_punctuator bytes

-- the bytes of a token, whatever its class
abbrev pub is_token : List ℕ → Bool
is_token bytes = is_word bytes || is_number bytes || is_quoted single_quote bytes || is_quoted double_quote bytes || is_punctuator bytes

-- ---- what the bytes of a form are

abbrev pub token_or_fault : ℕ → Result TokenKind FaultKind → Piece
token_or_fault n (Ok kind) = pieces.Token n kind
token_or_fault n (Err fault) = pieces.Fault fault

-- whether what follows a byte of white space is fresh
abbrev pub still_fresh : Bool → List ℕ → Bool
still_fresh fresh bytes = starts_with new_line bytes || (fresh && starts is_blank bytes)

abbrev pub piece_of : Bool → Class → List ℕ → Piece
piece_of fresh End bytes = pieces.End
piece_of fresh Space bytes = pieces.White (length bytes) (still_fresh fresh bytes)
piece_of fresh LineComment bytes = pieces.White (length bytes) false
piece_of fresh BlockComment bytes = pieces.White (length bytes) false
piece_of fresh LineMarker bytes = pieces.White (length bytes) false
piece_of fresh Word bytes = token_or_fault (length bytes) (word_of bytes)
piece_of fresh Number bytes = token_or_fault (length bytes) (number_of bytes)
piece_of fresh Character bytes = token_or_fault (length bytes) (character_of bytes)
piece_of fresh Text bytes = token_or_fault (length bytes) (text_of bytes)
piece_of fresh Other bytes = token_or_fault (length bytes) (punctuator_with (punctuator_of bytes))

-- what stands there where no first bytes have the form; a space, a word and a number always have theirs
abbrev pub piece_without : Class → Piece
piece_without End = pieces.End
piece_without Space = pieces.Fault faults.BadByte
piece_without LineComment = pieces.Fault faults.BadByte
piece_without BlockComment = pieces.Fault faults.OpenComment
piece_without LineMarker = pieces.Fault faults.Directive
piece_without Word = pieces.Fault faults.BadByte
piece_without Number = pieces.Fault faults.BadByte
piece_without Character = pieces.Fault faults.OpenText
piece_without Text = pieces.Fault faults.OpenText
piece_without Other = pieces.Fault faults.BadByte

-- ---- what stands first

-- the first n bytes have the form, and no more of them have it
pub record Longest (form : List ℕ → Bool) (rest : List ℕ) (n : ℕ) : Type 0 where
  pub within : n ≤ length rest
  pub has : form (take n rest) ≡ true
  pub no_longer : (m : ℕ) → n < m → m ≤ length rest → form (take m rest) ≡ false

abbrev pub NoFront : (List ℕ → Bool) → List ℕ → Type 0
NoFront form rest = (m : ℕ) → m ≤ length rest → form (take m rest) ≡ false

-- the longest first bytes of the class are this piece
pub record IsFront (fresh : Bool) (class : Class) (rest : List ℕ) (piece : Piece) : Type 0 where
  pub n : ℕ
  pub longest : Longest (has_form class) rest n
  pub is : piece ≡ piece_of fresh class (take n rest)

-- no first bytes have the form of the class
pub record IsAbsent (class : Class) (rest : List ℕ) (piece : Piece) : Type 0 where
  pub none : NoFront (has_form class) rest
  pub is : piece ≡ piece_without class

abbrev pub Stands : Bool → Class → List ℕ → Piece → Type 0
Stands fresh class rest piece = IsFront fresh class rest piece ⊎ IsAbsent class rest piece

-- this piece stands first in the rest
abbrev pub Next : Bool → List ℕ → Piece → Type 0
Next fresh rest piece = Stands fresh (class_of fresh rest) rest piece
