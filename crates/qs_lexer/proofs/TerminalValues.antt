-- The value of each constant is one of its type.
use Rattle.std.proofs.Common.{◌≡◌, ℕ, ◌-◌, ◌^◌, inl, inr, zero, suc, Bool, true, false, cond, not, ◌&&◌, ◌||◌, List, [], ◌∷◌, ◌++◌, Option, Some, None, option_map, Result, Ok, Err, length, take, drop, refl, ap, sym, ◌∙◌, arith, nat_lt, ◌==◌}
use Rattle.std.proofs.lemmas.Bool.Decides.{nat_tests}
use Rattle.std.specs.List.{find, list_all, list_any}
use Rattle.std.specs.Cmp.{first_so}
use Rattle.std.proofs.lemmas.Bool.{and_parts}
use Rattle.qs_lexer.specs.Bytes.{starts_with}
use Rattle.qs_lexer.specs.Literals.{byte_values, character_of, character_of_elements, character_with, element_length, elements, elements_behind, elements_of, escape, first_element, hexadecimal_count, is_bad, is_wide, hexadecimal_escape, inside, octal_count, octal_escape, simple, simple_escape, simple_escapes, simple_with, text_of, valued}
use Rattle.qs_lexer.specs.Numbers.{are_digits, base_of, digits_of, has_suffix, number_of, number_without_suffix, typed, value_of, without_suffix}
use Rattle.qs_lexer.specs.Pieces.{Next, class_of, piece_of, piece_without, token_or_fault}
use Rattle.qs_lexer.specs.Tokens.{ReadsTo, start, white_space, token, token_at}
use Rattle.qs_base.specs.Keywords.{keyword_of}
use Rattle.qs_lexer.specs.Words.{punctuator_with, word_of, word_with}
use Rattle.qs_syntax_vocabulary.specs.Punctuators.{punctuator_of}
use Rattle.qs_lexer.specs.declared.fault.FaultKind.{FaultKind}
use Rattle.qs_lexer.specs.declared.fault.FaultKind.TheVariants as faults
use Rattle.qs_lexer.specs.declared.literals.Element.{Element}
use Rattle.qs_lexer.specs.declared.literals.Element.TheVariants as item
use Rattle.qs_lexer.specs.declared.pieces.Class.{Class}
use Rattle.qs_lexer.specs.declared.pieces.Class.TheVariants.{End, Space, LineComment, BlockComment, LineMarker, Word, Number, Character, Text, Other}
use Rattle.qs_lexer.specs.declared.pieces.Piece.TheVariants as pieces
use Rattle.qs_syntax_vocabulary.specs.WellFormed.{is_byte}
use Rattle.qs_base.specs.declared.keyword.Keyword.{Keyword}
use Rattle.qs_syntax_vocabulary.specs.declared.punctuator.Punctuator.{Punctuator}
use Rattle.qs_syntax_vocabulary.specs.declared.tokens.Token.{Token}
use Rattle.qs_syntax_vocabulary.specs.declared.tokens.TokenKind.{TokenKind}
use Rattle.qs_syntax_vocabulary.specs.declared.tokens.TokenKind.TheVariants as kinds
use Rattle.qs_lexer.proofs.TokenLaws.{IsPiece, is_piece, is_ok, absent_no_token}

-- the value of a constant is one of its type
abbrev pub is_valued : TokenKind → Bool
is_valued kinds.Name = true
is_valued (kinds.Keyword keyword) = true
is_valued (kinds.Number value unsigned) = nat_lt value (cond unsigned (2 ^ 32) (2 ^ 31))
is_valued (kinds.Character value) = nat_lt value (2 ^ 31)
is_valued kinds.Text = true
is_valued (kinds.Punctuator punctuator) = true

abbrev GivesValued : Result TokenKind FaultKind → Type 0
GivesValued (Ok kind) = is_valued kind ≡ true
GivesValued (Err fault) = Unit {0}

-- ---- numbers

int_fits : (value : ℕ) (unsigned : Bool) → nat_lt value (2 ^ 31) ≡ true → nat_lt value (cond unsigned (2 ^ 32) (2 ^ 31)) ≡ true
int_fits value true h = grind (arith, nat_tests)
int_fits value false h = h

valued_if : (b : Bool) (x y : Result TokenKind FaultKind) → (b ≡ true → GivesValued x) → GivesValued y → GivesValued (cond b x y)
valued_if true x y p q = p refl
valued_if false x y p q = q

typed_valued : (base : ℕ) (suffix : Bool) (value : ℕ) → GivesValued (typed base suffix value)
typed_valued base suffix value =
    let wider : Result TokenKind FaultKind = cond (nat_lt value (2 ^ 32) && (suffix || not (base == 10))) (Ok (kinds.Number value true)) (Err faults.WideLiteral) in
    valued_if (nat_lt value (2 ^ 31)) (Ok (kinds.Number value suffix)) wider (int_fits value suffix)
    (valued_if (nat_lt value (2 ^ 32) && (suffix || not (base == 10))) (Ok (kinds.Number value true)) (Err faults.WideLiteral) (first_so (nat_lt value (2 ^ 32)) (suffix || not (base == 10))) tt)

without_valued : (literal : List ℕ) (suffix : Bool) → GivesValued (number_without_suffix literal suffix)
without_valued literal suffix =
    valued_if (nat_lt 0 (length (digits_of literal)) && are_digits (base_of literal) (digits_of literal)) (typed (base_of literal) suffix (value_of (base_of literal) (digits_of literal))) (Err faults.BadLiteral)
    (λ h. typed_valued (base_of literal) suffix (value_of (base_of literal) (digits_of literal))) tt

number_valued : (literal : List ℕ) → GivesValued (number_of literal)
number_valued literal = without_valued (without_suffix literal) (has_suffix literal)

-- ---- characters: an element of bytes is a byte

abbrev is_low : Element → Bool
is_low (item.Byte value) = is_byte value
is_low item.Wide = true
is_low item.Bad = true

low_if : (b : Bool) (x y : Element) → (b ≡ true → is_low x ≡ true) → is_low y ≡ true → is_low (cond b x y) ≡ true
low_if true x y p q = p refl
low_if false x y p q = q

valued_low : (value : ℕ) → is_low (valued value) ≡ true
valued_low value = low_if (nat_lt value 256) (item.Byte value) item.Wide (λ h. h) refl

found_low : (rows : List (ℕ × ℕ)) (byte : ℕ) → list_all (λ row. is_byte row.1) rows ≡ true → is_low (simple_with (option_map (λ row. row.1) (find (λ row. row.0 == byte) rows))) ≡ true
found_low [] byte h = refl
found_low (row ∷ rows) byte h =
    let b : (is_byte row.1 ≡ true) × (list_all (λ row. is_byte row.1) rows ≡ true) = and_parts (is_byte row.1) (list_all (λ row. is_byte row.1) rows) h in
    by (row.0 == byte) b.0 (found_low rows byte b.1)
  where
    by : (x : Bool) → is_byte row.1 ≡ true → is_low (simple_with (option_map (λ row. row.1) (find (λ row. row.0 == byte) rows))) ≡ true → is_low (simple_with (option_map (λ row. row.1) (cond x (Some row) (find (λ row. row.0 == byte) rows)))) ≡ true
    by true p q = p
    by false p q = q

simple_low : (bytes : List ℕ) → is_low (simple bytes) ≡ true
unfolding simple_escape
simple_low [] = refl
simple_low (byte ∷ bytes) = found_low simple_escapes byte refl

escape_low : (bytes : List ℕ) → is_low (escape bytes) ≡ true
escape_low bytes =
    low_if (starts_with 120 bytes) (hexadecimal_escape (drop 1 bytes)) (cond (nat_lt 0 (octal_count bytes)) (octal_escape bytes) (simple bytes))
    (λ h. low_if (nat_lt 0 (hexadecimal_count (drop 1 bytes))) (valued (value_of 16 (take (hexadecimal_count (drop 1 bytes)) (drop 1 bytes)))) item.Bad (λ h. valued_low (value_of 16 (take (hexadecimal_count (drop 1 bytes)) (drop 1 bytes)))) refl)
    (low_if (nat_lt 0 (octal_count bytes)) (octal_escape bytes) (simple bytes) (λ h. valued_low (value_of 8 (take (octal_count bytes) bytes))) (simple_low bytes))

first_low : (bytes : List ℕ) → list_all is_byte bytes ≡ true → is_low (first_element bytes) ≡ true
first_low [] h = refl
first_low (byte ∷ bytes) h = low_if (byte == 92) (escape bytes) (item.Byte byte) (λ e. escape_low bytes) (and_parts (is_byte byte) (list_all is_byte bytes) h).0

low_character : (first : Element) → is_low first ≡ true → GivesValued (character_with first)
low_character item.Bad h = tt
low_character item.Wide h = tt
low_character (item.Byte value) h = grind (arith, nat_tests)

one_character : (first : Element) (others : List Element) → is_low first ≡ true → GivesValued (character_of_elements (first ∷ others))
one_character first [] h = low_character first h
one_character first (second ∷ others) h = tt

body_valued : (body : List ℕ) → list_all is_byte body ≡ true → GivesValued (character_of_elements (elements_behind 0 body))
body_valued [] h = tt
body_valued (byte ∷ bytes) h = one_character (first_element (byte ∷ bytes)) (elements_behind (element_length (byte ∷ bytes) - 1) bytes) (first_low (byte ∷ bytes) h)

pub bytes_take : (n : ℕ) (bytes : List ℕ) → list_all is_byte bytes ≡ true → list_all is_byte (take n bytes) ≡ true
bytes_take zero bytes h = refl
bytes_take (suc n) [] h = refl
bytes_take (suc n) (byte ∷ bytes) h =
    let b : (is_byte byte ≡ true) × (list_all is_byte bytes ≡ true) = and_parts (is_byte byte) (list_all is_byte bytes) h in
    rw (b.0) (bytes_take n bytes b.1)

pub bytes_drop : (n : ℕ) (bytes : List ℕ) → list_all is_byte bytes ≡ true → list_all is_byte (drop n bytes) ≡ true
bytes_drop zero bytes h = h
bytes_drop (suc n) [] h = refl
bytes_drop (suc n) (byte ∷ bytes) h = bytes_drop n bytes (and_parts (is_byte byte) (list_all is_byte bytes) h).1

character_valued : (literal : List ℕ) → list_all is_byte literal ≡ true → GivesValued (character_of literal)
character_valued literal h = body_valued (inside literal) (bytes_drop 1 (take (length literal - 1) literal) (bytes_take (length literal - 1) literal h))

-- ---- texts: their elements are bytes

elements_low : (taken : ℕ) (bytes : List ℕ) → list_all is_byte bytes ≡ true → list_all is_low (elements_behind taken bytes) ≡ true
elements_low taken [] h = refl
elements_low zero (byte ∷ bytes) h =
    rw (first_low (byte ∷ bytes) h) (elements_low (element_length (byte ∷ bytes) - 1) bytes (and_parts (is_byte byte) (list_all is_byte bytes) h).1)
elements_low (suc taken) (byte ∷ bytes) h = elements_low taken bytes (and_parts (is_byte byte) (list_all is_byte bytes) h).1

values_low : (list : List Element) → list_all is_low list ≡ true → list_all is_byte (byte_values list) ≡ true
values_low [] h = refl
values_low (item.Byte value ∷ others) h =
    let b : (is_byte value ≡ true) × (list_all is_low others ≡ true) = and_parts (is_byte value) (list_all is_low others) h in
    rw (b.0) (values_low others b.1)
values_low (item.Wide ∷ others) h = values_low others h
values_low (item.Bad ∷ others) h = values_low others h

pub text_low : (literal : List ℕ) → list_all is_byte literal ≡ true → list_all is_byte (elements literal) ≡ true
text_low literal h = values_low (elements_of literal) (elements_low 0 (inside literal) (bytes_drop 1 (take (length literal - 1) literal) (bytes_take (length literal - 1) literal h)))

-- ---- the other classes

word_valued : (o : Option Keyword) → GivesValued (Ok (word_with o))
word_valued None = refl
word_valued (Some keyword) = refl

text_valued : (x y : Bool) → GivesValued (cond x (Err faults.BadLiteral) (cond y (Err faults.WideLiteral) (Ok kinds.Text)))
text_valued true y = tt
text_valued false true = tt
text_valued false false = refl

punctuator_valued : (o : Option Punctuator) → GivesValued (punctuator_with o)
punctuator_valued None = tt
punctuator_valued (Some punctuator) = refl

-- ---- each token of a text

given : (k n : ℕ) (kind : TokenKind) (r : Result TokenKind FaultKind) → GivesValued r → r ≡ Ok kind → is_valued kind ≡ true
given k n kind (Ok other) g e = let same : other ≡ kind = cc in sym (ap is_valued same) ∙ g
given k n kind (Err fault) g e = cc

from_result : (k n : ℕ) (kind : TokenKind) (r : Result TokenKind FaultKind) → GivesValued r → IsPiece (token_or_fault k r) n kind → is_valued kind ≡ true
from_result k n kind r g h = given k n kind r g (is_ok k r n kind h).is

class_valued : (fresh : Bool) (c : Class) (p : List ℕ) (n : ℕ) (kind : TokenKind) → list_all is_byte p ≡ true → IsPiece (piece_of fresh c p) n kind → is_valued kind ≡ true
class_valued fresh End p n kind b h = absurd h
class_valued fresh Space p n kind b h = absurd h
class_valued fresh LineComment p n kind b h = absurd h
class_valued fresh BlockComment p n kind b h = absurd h
class_valued fresh LineMarker p n kind b h = absurd h
class_valued fresh Word p n kind b h = from_result (length p) n kind (word_of p) (word_valued (keyword_of p)) h
class_valued fresh Number p n kind b h = from_result (length p) n kind (number_of p) (number_valued p) h
class_valued fresh Character p n kind b h = from_result (length p) n kind (character_of p) (character_valued p b) h
class_valued fresh Text p n kind b h = from_result (length p) n kind (text_of p) (text_valued (list_any is_bad (elements_of p)) (list_any is_wide (elements_of p))) h
class_valued fresh Other p n kind b h = from_result (length p) n kind (punctuator_with (punctuator_of p)) (punctuator_valued (punctuator_of p)) h

next_valued : (fresh : Bool) (rest : List ℕ) (n : ℕ) (kind : TokenKind) → list_all is_byte rest ≡ true → Next fresh rest (pieces.Token n kind) → is_valued kind ≡ true
next_valued fresh rest n kind b (inl a) =
    class_valued fresh (class_of fresh rest) (take a.n rest) n kind (bytes_take a.n rest b) (is_piece (piece_of fresh (class_of fresh rest) (take a.n rest)) n kind a.is)
next_valued fresh rest n kind b (inr a) = absurd (absent_no_token (class_of fresh rest) n kind (is_piece (piece_without (class_of fresh rest)) n kind a.is))

abbrev pub all_valued : List Token → Bool
all_valued tokens = list_all (λ t. is_valued t.kind) tokens

with_valued : (tokens : List Token) (t : Token) → all_valued tokens ≡ true → is_valued t.kind ≡ true → all_valued (tokens ++ t ∷ []) ≡ true
with_valued [] t h k = rw k refl
with_valued (x ∷ xs) t h k =
    let b : (is_valued x.kind ≡ true) × (all_valued xs ≡ true) = and_parts (is_valued x.kind) (all_valued xs) h in
    rw (b.0) (with_valued xs t b.1 k)

pub read_valued : (text : List ℕ) (tokens : List Token) (fresh : Bool) (at : ℕ) → list_all is_byte text ≡ true → ReadsTo text tokens fresh at → all_valued tokens ≡ true
read_valued text _ _ _ b start = refl
read_valued text tokens _ _ b (white_space {fresh = f} {at = a} n still d next) = read_valued text tokens f a b d
read_valued text _ _ _ b (token {tokens = ts} {fresh = f} {at = a} n kind d next) =
    with_valued ts (token_at a n kind) (read_valued text ts f a b d) (next_valued f (drop a text) n kind (bytes_drop a text b) next)
