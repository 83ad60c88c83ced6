-- A text as one literal, each of its bytes in octal, with a gap behind it.
use Rattle.std.proofs.Common.{◌≡◌, ℕ, ◌+◌, ◌-◌, ◌*◌, ◌/◌, ◌%◌, ◌<◌, suc, Bool, true, false, cond, List, [], ◌∷◌, ◌++◌, Some, Ok, length, take, drop, refl, ap, sym, ◌∙◌, arith, nat_lt, ◌==◌, flat_map}
use Rattle.std.proofs.Math.Seq.{take-append_seam}
use Rattle.std.proofs.lemmas.List.{append_assoc, length-append}
use Rattle.std.proofs.lemmas.List.Concat.{flat_map-cons}
use Rattle.std.proofs.lemmas.Bool.Decides.{nat_tests}
use Rattle.std.specs.List.{list_all, list_any}
use Rattle.std.proofs.lemmas.Bool.{and_parts}
use Rattle.qs_lexer.specs.Ends.{Goes, Ends, Fails, end_of, quote_turn}
use Rattle.qs_lexer.specs.Literals.{byte_values, element_length, elements, elements_behind, elements_of, first_element, inside, is_bad, is_wide, octal_count, octal_escape, text_of, text_with, valued}
use Rattle.qs_lexer.specs.Numbers.{digit_value, value_of}
use Rattle.qs_lexer.specs.Pieces.{Next, class_of, token_or_fault}
use Rattle.qs_lexer.specs.declared.literals.Element.{Element}
use Rattle.qs_lexer.specs.declared.literals.Element.TheVariants as item
use Rattle.qs_lexer.specs.declared.pieces.Class.TheVariants.{Text}
use Rattle.qs_lexer.specs.declared.pieces.Piece.TheVariants as pieces
use Rattle.qs_syntax_vocabulary.specs.WellFormed.{is_byte}
use Rattle.qs_syntax_vocabulary.specs.declared.tokens.TokenKind.TheVariants as kinds
use Rattle.qs_lexer.proofs.PieceClasses.{next_is}
use Rattle.qs_lexer.proofs.LiteralElements.{first_and_others}
use Rattle.qs_lexer.proofs.ScanTokens.{text_ends}
use Rattle.qs_print.specs.Spelling.{octal}

-- ---- the bytes of a text in octal

abbrev octals : List ℕ → List ℕ
octals bytes = flat_map octal bytes

digit_is : (d : ℕ) → d < 8 → digit_value (48 + d) ≡ d
digit_is d h = grind (arith, nat_tests)

octal_digit : (d : ℕ) → d < 8 → nat_lt (digit_value (48 + d)) 8 ≡ true
octal_digit d h = rw (digit_is d h) (grind (arith, nat_tests))

record Low (byte : ℕ) : Type 0 where
  one : byte / 64 < 8
  two : byte / 8 % 8 < 8
  three : byte % 8 < 8
  sum : ((0 * 8 + byte / 64) * 8 + byte / 8 % 8) * 8 + byte % 8 ≡ byte

low : (byte : ℕ) → byte < 256 → Low byte
low byte h = record { one = omega arith; two = omega arith; three = omega arith; sum = omega arith }

below : (byte : ℕ) → is_byte byte ≡ true → byte < 256
below byte h = grind (arith, nat_tests)

-- ---- the quote behind them is the first that closes

turn_digit : (d : ℕ) → d < 8 → quote_turn 34 false (48 + d) ≡ Goes false
turn_digit d h =
    by (48 + d == 10) (48 + d == 92) (48 + d == 34) (grind (arith, nat_tests)) (grind (arith, nat_tests)) (grind (arith, nat_tests))
  where
    by : (x y z : Bool) → x ≡ false → y ≡ false → z ≡ false → cond x Fails (cond y (Goes true) (cond z Ends (Goes false))) ≡ Goes false
    by x y z p q r = rw (p, q, r) refl

turn_taken : (d : ℕ) → d < 8 → quote_turn 34 true (48 + d) ≡ Goes false
turn_taken d h =
    by (48 + d == 10) (grind (arith, nat_tests))
  where
    by : (x : Bool) → x ≡ false → cond x Fails (Goes false) ≡ Goes false
    by x p = rw p refl

end_octal : (byte n : ℕ) (rest : List ℕ) → byte < 256 → end_of (quote_turn 34) false rest ≡ Some n → end_of (quote_turn 34) false (octal byte ++ rest) ≡ Some (1 + (1 + (1 + (1 + n))))
end_octal byte n rest h e =
    let l : Low byte = low byte h in
    rw (turn_taken (byte / 64) l.one, turn_digit (byte / 8 % 8) l.two, turn_digit (byte % 8) l.three, e) refl

end_octals : (bytes rest : List ℕ) → list_all is_byte bytes ≡ true → end_of (quote_turn 34) false (octals bytes ++ 34 ∷ rest) ≡ Some (length (octals bytes) + 1)
end_octals [] rest h = refl
end_octals (b ∷ bs) rest h =
    let p : (is_byte b ≡ true) × (list_all is_byte bs ≡ true) = and_parts (is_byte b) (list_all is_byte bs) h in
    let split : octals (b ∷ bs) ≡ octal b ++ octals bs = flat_map-cons octal b bs in
    let i : end_of (quote_turn 34) false (octals bs ++ 34 ∷ rest) ≡ Some (length (octals bs) + 1) = end_octals bs rest p.1 in
    let l : length (octals (b ∷ bs)) ≡ suc (suc (suc (suc (length (octals bs))))) = ap length split in
    ap (λ xs. end_of (quote_turn 34) false (xs ++ 34 ∷ rest)) split
    ∙ end_octal b (length (octals bs) + 1) (octals bs ++ 34 ∷ rest) (below b p.0) i
    ∙ ap Some (omega arith)

-- ---- the elements are those bytes

no_x : (d : ℕ) → d < 8 → (48 + d == 120) ≡ false
no_x d h = grind (arith, nat_tests)

three_digits : (x y z : ℕ) (rest : List ℕ) → nat_lt (digit_value x) 8 ≡ true → nat_lt (digit_value y) 8 ≡ true → nat_lt (digit_value z) 8 ≡ true → octal_count (x ∷ y ∷ z ∷ rest) ≡ 3
three_digits x y z rest p q r = rw (p, q, r) refl

when_octal : (x : Bool) (n : ℕ) (e f g : Element) → x ≡ false → n ≡ 3 → cond x e (cond (nat_lt 0 n) f g) ≡ f
when_octal x n e f g p q = rw (p, q) refl

when_octal_length : (x : Bool) (n m : ℕ) → x ≡ false → n ≡ 3 → cond x m (cond (nat_lt 0 n) n 1) ≡ 3
when_octal_length x n m p q = rw (p, q) refl

value_three : (x y z : ℕ) (rest : List ℕ) (n : ℕ) → n ≡ 3 → value_of 8 (take n (x ∷ y ∷ z ∷ rest)) ≡ ((0 * 8 + digit_value x) * 8 + digit_value y) * 8 + digit_value z
value_three x y z rest n h = rw h refl

octal_count_is : (byte : ℕ) (rest : List ℕ) → byte < 256 → octal_count (drop 1 (octal byte) ++ rest) ≡ 3
octal_count_is byte rest h =
    let l : Low byte = low byte h in
    three_digits (48 + byte / 64) (48 + byte / 8 % 8) (48 + byte % 8) rest (octal_digit (byte / 64) l.one) (octal_digit (byte / 8 % 8) l.two) (octal_digit (byte % 8) l.three)

octal_value : (byte : ℕ) (rest : List ℕ) → byte < 256 → value_of 8 (take (octal_count (drop 1 (octal byte) ++ rest)) (drop 1 (octal byte) ++ rest)) ≡ byte
octal_value byte rest h =
    let l : Low byte = low byte h in
    value_three (48 + byte / 64) (48 + byte / 8 % 8) (48 + byte % 8) rest (octal_count (drop 1 (octal byte) ++ rest)) (octal_count_is byte rest h)
    ∙ rw (digit_is (byte / 64) l.one, digit_is (byte / 8 % 8) l.two, digit_is (byte % 8) l.three) l.sum

valued_byte : (byte value : ℕ) → value ≡ byte → byte < 256 → valued value ≡ item.Byte byte
valued_byte byte value e h = ap valued e ∙ by (nat_lt byte 256) (grind (arith, nat_tests))
  where
    by : (b : Bool) → b ≡ true → cond b (item.Byte byte) item.Wide ≡ item.Byte byte
    by b p = rw p refl

first_octal : (byte : ℕ) (rest : List ℕ) → byte < 256 → first_element (octal byte ++ rest) ≡ item.Byte byte
first_octal byte rest h =
    let l : Low byte = low byte h in
    when_octal (48 + byte / 64 == 120) (octal_count (drop 1 (octal byte) ++ rest)) _ (octal_escape (drop 1 (octal byte) ++ rest)) _ (no_x (byte / 64) l.one) (octal_count_is byte rest h)
    ∙ valued_byte byte (value_of 8 (take (octal_count (drop 1 (octal byte) ++ rest)) (drop 1 (octal byte) ++ rest))) (octal_value byte rest h) h

octal_length : (byte : ℕ) (rest : List ℕ) → byte < 256 → element_length (octal byte ++ rest) ≡ 4
octal_length byte rest h =
    let l : Low byte = low byte h in
    ap (λ n. 1 + n) (when_octal_length (48 + byte / 64 == 120) (octal_count (drop 1 (octal byte) ++ rest)) _ (no_x (byte / 64) l.one) (octal_count_is byte rest h))

octal_elements : (byte : ℕ) (rest : List ℕ) → byte < 256 → elements_behind 0 (octal byte ++ rest) ≡ item.Byte byte ∷ elements_behind 0 rest
octal_elements byte rest h =
    first_and_others (octal byte ++ rest) (omega arith)
    ∙ ap (λ e. e ∷ elements_behind 0 (drop (element_length (octal byte ++ rest)) (octal byte ++ rest))) (first_octal byte rest h)
    ∙ ap (λ n. item.Byte byte ∷ elements_behind 0 (drop n (octal byte ++ rest))) (octal_length byte rest h)

abbrev as_elements : List ℕ → List Element
as_elements [] = []
as_elements (b ∷ bs) = item.Byte b ∷ as_elements bs

all_elements : (bytes : List ℕ) → list_all is_byte bytes ≡ true → elements_behind 0 (octals bytes) ≡ as_elements bytes
all_elements [] h = refl
all_elements (b ∷ bs) h =
    let p : (is_byte b ≡ true) × (list_all is_byte bs ≡ true) = and_parts (is_byte b) (list_all is_byte bs) h in
    ap (elements_behind 0) (flat_map-cons octal b bs) ∙ octal_elements b (octals bs) (below b p.0) ∙ ap (λ es. item.Byte b ∷ es) (all_elements bs p.1)

values_back : (bytes : List ℕ) → byte_values (as_elements bytes) ≡ bytes
values_back [] = refl
values_back (b ∷ bs) = ap (λ xs. b ∷ xs) (values_back bs)

none_bad : (bytes : List ℕ) → list_any is_bad (as_elements bytes) ≡ false
none_bad [] = refl
none_bad (b ∷ bs) = none_bad bs

none_wide : (bytes : List ℕ) → list_any is_wide (as_elements bytes) ≡ false
none_wide [] = refl
none_wide (b ∷ bs) = none_wide bs

text_with_bytes : (bytes : List ℕ) → text_with (as_elements bytes) ≡ Ok kinds.Text
text_with_bytes bytes = rw (none_bad bytes, none_wide bytes) refl

-- ---- the literal

abbrev quoted : List ℕ → List ℕ
quoted bytes = 34 ∷ (octals bytes ++ 34 ∷ [])

inside_quoted : (xs : List ℕ) → inside (34 ∷ (xs ++ 34 ∷ [])) ≡ xs
inside_quoted xs =
    let l : length (xs ++ 34 ∷ []) ≡ length xs + 1 = length-append xs (34 ∷ []) in
    let m : suc (length (xs ++ 34 ∷ [])) - 1 ≡ suc (length xs) = omega arith in
    ap (λ n. drop 1 (take n (34 ∷ (xs ++ 34 ∷ [])))) m ∙ take-append_seam xs (34 ∷ [])

literal_elements : (bytes : List ℕ) → list_all is_byte bytes ≡ true → elements_of (quoted bytes) ≡ as_elements bytes
literal_elements bytes h = ap (elements_behind 0) (inside_quoted (octals bytes)) ∙ all_elements bytes h

-- the literal stands for the bytes
pub text_back : (bytes : List ℕ) → list_all is_byte bytes ≡ true → elements (34 ∷ (flat_map octal bytes ++ 34 ∷ [])) ≡ bytes
text_back bytes h = ap byte_values (literal_elements bytes h) ∙ values_back bytes

text_kind : (bytes : List ℕ) → list_all is_byte bytes ≡ true → text_of (quoted bytes) ≡ Ok kinds.Text
text_kind bytes h = ap text_with (literal_elements bytes h) ∙ text_with_bytes bytes

text_class : (fresh : Bool) (others : List ℕ) → class_of fresh (34 ∷ others) ≡ Text
text_class true others = refl
text_class false others = refl

pub text_next : (fresh : Bool) (bytes : List ℕ) (gap : ℕ) (rest : List ℕ) → list_all is_byte bytes ≡ true
    → Next fresh ((34 ∷ (flat_map octal bytes ++ 34 ∷ [])) ++ gap ∷ rest) (pieces.Token (length (34 ∷ (flat_map octal bytes ++ 34 ∷ []))) kinds.Text)
text_next fresh bytes gap rest h =
    let whole : List ℕ = quoted bytes ++ gap ∷ rest in
    let l : length (octals bytes ++ 34 ∷ []) ≡ length (octals bytes) + 1 = length-append (octals bytes) (34 ∷ []) in
    let n : length (octals bytes) + 1 + 1 ≡ length (quoted bytes) = omega arith in
    let ends : end_of (quote_turn 34) false (drop 1 whole) ≡ Some (length (octals bytes) + 1) =
    ap (end_of (quote_turn 34) false) (append_assoc (octals bytes) (34 ∷ []) (gap ∷ rest)) ∙ end_octals bytes (gap ∷ rest) h in
    let taken : take (length (octals bytes) + 1 + 1) whole ≡ quoted bytes = ap (λ k. take k whole) n ∙ take-append_seam (quoted bytes) (gap ∷ rest) in
    let is : pieces.Token (length (quoted bytes)) kinds.Text ≡ token_or_fault (length (octals bytes) + 1 + 1) (text_of (take (length (octals bytes) + 1 + 1) whole)) =
    sym (ap (λ xs. token_or_fault (length (octals bytes) + 1 + 1) (text_of xs)) taken ∙ ap (token_or_fault (length (octals bytes) + 1 + 1)) (text_kind bytes h) ∙ ap (λ k. pieces.Token k kinds.Text) n) in
    next_is fresh whole Text (class_of fresh whole) (pieces.Token (length (quoted bytes)) kinds.Text) refl (text_class fresh (octals bytes ++ 34 ∷ [] ++ gap ∷ rest))
    (text_ends fresh whole (length (octals bytes) + 1) (pieces.Token (length (quoted bytes)) kinds.Text) refl ends is)
