-- The first byte decides which form a token can have.
use Rattle.std.proofs.Common.{◌≡◌, ℕ, ◌<◌, zero, suc, Bool, true, false, cond, not, ◌&&◌, ◌||◌, List, [], ◌∷◌, is_some, take, refl, ap, sym, arith, ◌==◌}
use Rattle.std.proofs.lemmas.Bool.Decides.{nat_tests}
use Rattle.std.proofs.lemmas.Bool.{and_left}
use Rattle.qs_base.specs.Bytes.{is_digit, is_letter}
use Rattle.qs_base.specs.Names.{is_word}
use Rattle.qs_lexer.specs.Bytes.{is_space, starts, starts_with}
use Rattle.qs_lexer.specs.Pieces.{Longest, class_of, has_form, is_punctuator, is_number, is_quoted, is_token}
use Rattle.qs_syntax_vocabulary.specs.Punctuators.{punctuator_of}
use Rattle.qs_lexer.specs.declared.pieces.Class.{Class}
use Rattle.qs_lexer.specs.declared.pieces.Class.TheVariants.{End, Space, LineComment, BlockComment, LineMarker, Word, Number, Character, Text, Other}
use Rattle.qs_lexer.proofs.Fronts.{longest_same}
use Rattle.qs_syntax_vocabulary.proofs.PunctuatorLaws.{no_punctuator}

-- ---- punctuators begin with no letter, digit or quote

abbrev begins_no_punctuator : ℕ → Bool
begins_no_punctuator byte = is_letter byte || is_digit byte || byte == 39 || byte == 34

no_punctuator_begins : (a : ℕ) (xs : List ℕ) → begins_no_punctuator a ≡ true → is_punctuator (a ∷ xs) ≡ false
no_punctuator_begins a xs h = ap is_some (no_punctuator (starts (λ byte. not (begins_no_punctuator byte))) refl (a ∷ xs) (ap not h))

-- ---- of five tests all but one fail

only_first : (x y z v w : Bool) → y ≡ false → z ≡ false → v ≡ false → w ≡ false → (x || y || z || v || w) ≡ x
only_first true y z v w p q r s = refl
only_first false y z v w p q r s = rw (p, q, r, s) refl

only_second : (x y z v w : Bool) → x ≡ false → z ≡ false → v ≡ false → w ≡ false → (x || y || z || v || w) ≡ y
only_second x true z v w p q r s = rw p refl
only_second x false z v w p q r s = rw (p, q, r, s) refl

only_third : (x y z v w : Bool) → x ≡ false → y ≡ false → v ≡ false → w ≡ false → (x || y || z || v || w) ≡ z
only_third x y true v w p q r s = rw (p, q) refl
only_third x y false v w p q r s = rw (p, q, r, s) refl

only_fourth : (x y z v w : Bool) → x ≡ false → y ≡ false → z ≡ false → w ≡ false → (x || y || z || v || w) ≡ v
only_fourth x y z true w p q r s = rw (p, q, r) refl
only_fourth x y z false w p q r s = rw (p, q, r, s) refl

only_fifth : (x y z v w : Bool) → x ≡ false → y ≡ false → z ≡ false → v ≡ false → (x || y || z || v || w) ≡ w
only_fifth x y z v w p q r s = rw (p, q, r, s) refl

-- ---- what the first byte excludes

letter_no_digit : (a : ℕ) → is_letter a ≡ true → is_digit a ≡ false
letter_no_digit a h = grind (arith, nat_tests)

letter_no : (a x : ℕ) → is_letter a ≡ true → x < 65 → (a == x) ≡ false
letter_no a x h l = grind (arith, nat_tests)

digit_no_letter : (a : ℕ) → is_digit a ≡ true → is_letter a ≡ false
digit_no_letter a h = grind (arith, nat_tests)

digit_no : (a x : ℕ) → is_digit a ≡ true → x < 48 → (a == x) ≡ false
digit_no a x h l = grind (arith, nat_tests)

byte_no_letter : (a x : ℕ) → (a == x) ≡ true → x < 65 → is_letter a ≡ false
byte_no_letter a x h l = grind (arith, nat_tests)

byte_no_digit : (a x : ℕ) → (a == x) ≡ true → x < 48 → is_digit a ≡ false
byte_no_digit a x h l = grind (arith, nat_tests)

byte_no_byte : (a x y : ℕ) → (a == x) ≡ true → x < y → (a == y) ≡ false
byte_no_byte a x y h l = grind (arith, nat_tests)

byte_no_less : (a x y : ℕ) → (a == x) ≡ true → y < x → (a == y) ≡ false
byte_no_less a x y h l = grind (arith, nat_tests)

or_1 : (x y z v : Bool) → x ≡ true → (x || y || z || v) ≡ true
or_1 x y z v p = rw p refl

or_2 : (x y z v : Bool) → y ≡ true → (x || y || z || v) ≡ true
or_2 true y z v p = refl
or_2 false y z v p = rw p refl

or_3 : (x y z v : Bool) → z ≡ true → (x || y || z || v) ≡ true
or_3 true y z v p = refl
or_3 false true z v p = refl
or_3 false false z v p = rw p refl

or_4 : (x y z v : Bool) → v ≡ true → (x || y || z || v) ≡ true
or_4 true y z v p = refl
or_4 false true z v p = refl
or_4 false false true v p = refl
or_4 false false false v p = p

-- ---- a token's form is that of its class

abbrev Firsts : Class → ℕ → Type 0
Firsts End a = ⊥
Firsts Space a = ⊥
Firsts LineComment a = ⊥
Firsts BlockComment a = ⊥
Firsts LineMarker a = ⊥
Firsts Word a = is_letter a ≡ true
Firsts Number a = is_digit a ≡ true
Firsts Character a = (a == 39) ≡ true
Firsts Text a = (a == 34) ≡ true
Firsts Other a = (is_letter a ≡ false) × (is_digit a ≡ false) × ((a == 39) ≡ false) × ((a == 34) ≡ false)

form_cons : (c : Class) (a : ℕ) (xs : List ℕ) → Firsts c a → has_form c (a ∷ xs) ≡ is_token (a ∷ xs)
form_cons End a xs h = absurd h
form_cons Space a xs h = absurd h
form_cons LineComment a xs h = absurd h
form_cons BlockComment a xs h = absurd h
form_cons LineMarker a xs h = absurd h
form_cons Word a xs h = sym (only_first (is_word (a ∷ xs)) (is_number (a ∷ xs)) (is_quoted 39 (a ∷ xs)) (is_quoted 34 (a ∷ xs)) (is_punctuator (a ∷ xs))
    (and_left (is_digit a) _ (letter_no_digit a h)) (and_left (a == 39) _ (letter_no a 39 h (omega arith))) (and_left (a == 34) _ (letter_no a 34 h (omega arith)))
    (no_punctuator_begins a xs (or_1 (is_letter a) (is_digit a) (a == 39) (a == 34) h)))
form_cons Number a xs h = sym (only_second (is_word (a ∷ xs)) (is_number (a ∷ xs)) (is_quoted 39 (a ∷ xs)) (is_quoted 34 (a ∷ xs)) (is_punctuator (a ∷ xs))
    (and_left (is_letter a) _ (digit_no_letter a h)) (and_left (a == 39) _ (digit_no a 39 h (omega arith))) (and_left (a == 34) _ (digit_no a 34 h (omega arith)))
    (no_punctuator_begins a xs (or_2 (is_letter a) (is_digit a) (a == 39) (a == 34) h)))
form_cons Character a xs h = sym (only_third (is_word (a ∷ xs)) (is_number (a ∷ xs)) (is_quoted 39 (a ∷ xs)) (is_quoted 34 (a ∷ xs)) (is_punctuator (a ∷ xs))
    (and_left (is_letter a) _ (byte_no_letter a 39 h (omega arith))) (and_left (is_digit a) _ (byte_no_digit a 39 h (omega arith))) (and_left (a == 34) _ (byte_no_less a 39 34 h (omega arith)))
    (no_punctuator_begins a xs (or_3 (is_letter a) (is_digit a) (a == 39) (a == 34) h)))
form_cons Text a xs h = sym (only_fourth (is_word (a ∷ xs)) (is_number (a ∷ xs)) (is_quoted 39 (a ∷ xs)) (is_quoted 34 (a ∷ xs)) (is_punctuator (a ∷ xs))
    (and_left (is_letter a) _ (byte_no_letter a 34 h (omega arith))) (and_left (is_digit a) _ (byte_no_digit a 34 h (omega arith))) (and_left (a == 39) _ (byte_no_byte a 34 39 h (omega arith)))
    (no_punctuator_begins a xs (or_4 (is_letter a) (is_digit a) (a == 39) (a == 34) h)))
form_cons Other a xs h = sym (only_fifth (is_word (a ∷ xs)) (is_number (a ∷ xs)) (is_quoted 39 (a ∷ xs)) (is_quoted 34 (a ∷ xs)) (is_punctuator (a ∷ xs))
    (and_left (is_letter a) _ h.0) (and_left (is_digit a) _ h.1) (and_left (a == 39) _ h.2) (and_left (a == 34) _ h.3))

-- ---- which first bytes a class of tokens has

abbrev pub is_token_class : Class → Bool
is_token_class End = false
is_token_class Space = false
is_token_class LineComment = false
is_token_class BlockComment = false
is_token_class LineMarker = false
is_token_class Word = true
is_token_class Number = true
is_token_class Character = true
is_token_class Text = true
is_token_class Other = true

-- where no earlier test holds
last_first : (a : ℕ) → is_letter a ≡ false → is_digit a ≡ false → (a == 39) ≡ false → (b : Bool) → (a == 34) ≡ b → is_token_class (cond b Text Other) ≡ true → Firsts (cond b Text Other) a
last_first a p q r true s h = s
last_first a p q r false s h = (p, q, r, s)

from_quote : (a : ℕ) → is_letter a ≡ false → is_digit a ≡ false → (b : Bool) → (a == 39) ≡ b → is_token_class (cond b Character (cond (a == 34) Text Other)) ≡ true → Firsts (cond b Character (cond (a == 34) Text Other)) a
from_quote a p q true r h = r
from_quote a p q false r h = last_first a p q r (a == 34) refl h

from_digit : (a : ℕ) → is_letter a ≡ false → (b : Bool) → is_digit a ≡ b → (c : Class) → is_token_class (cond b Number c) ≡ true → (is_digit a ≡ false → is_token_class c ≡ true → Firsts c a) → Firsts (cond b Number c) a
from_digit a p true q c h k = q
from_digit a p false q c h k = k q h

from_letter : (a : ℕ) → (b : Bool) → is_letter a ≡ b → (c : Class) → is_token_class (cond b Word c) ≡ true → (is_letter a ≡ false → is_token_class c ≡ true → Firsts c a) → Firsts (cond b Word c) a
from_letter a true q c h k = q
from_letter a false q c h k = k q h

passed : (a : ℕ) (b : Bool) (x c : Class) → is_token_class x ≡ false → is_token_class (cond b x c) ≡ true → (is_token_class c ≡ true → Firsts c a) → Firsts (cond b x c) a
passed a true x c n h k = cc
passed a false x c n h k = k h

class_firsts : (fresh : Bool) (a : ℕ) (bs : List ℕ) → is_token_class (class_of fresh (a ∷ bs)) ≡ true → Firsts (class_of fresh (a ∷ bs)) a
class_firsts fresh a bs h =
    passed a (is_space a) Space _ refl h (λ h.
    passed a (a == 47 && starts_with 47 bs) LineComment _ refl h (λ h.
    passed a (a == 47 && starts_with 42 bs) BlockComment _ refl h (λ h.
    passed a (fresh && a == 35) LineMarker _ refl h (λ h.
    from_letter a (is_letter a) refl _ h (λ p h.
    from_digit a p (is_digit a) refl _ h (λ q h.
    from_quote a p q (a == 39) refl h))))))

no_empty_punctuator : is_punctuator [] ≡ false
unfolding punctuator_of
no_empty_punctuator = refl

empty_token : (c : Class) → is_token_class c ≡ true → has_form c [] ≡ is_token []
empty_token End h = cc
empty_token Space h = cc
empty_token LineComment h = cc
empty_token BlockComment h = cc
empty_token LineMarker h = cc
empty_token Word h = sym no_empty_punctuator
empty_token Number h = sym no_empty_punctuator
empty_token Character h = sym no_empty_punctuator
empty_token Text h = sym no_empty_punctuator
empty_token Other h = refl

-- the longest front of the class is the longest of all tokens
pub longest_token : (fresh : Bool) (rest : List ℕ) (n : ℕ) → is_token_class (class_of fresh rest) ≡ true → Longest (has_form (class_of fresh rest)) rest n → Longest is_token rest n
longest_token fresh [] n t l = cc
longest_token fresh (a ∷ bs) n t l = longest_same (has_form (class_of fresh (a ∷ bs))) is_token (a ∷ bs) n same l
  where
    same : (m : ℕ) → has_form (class_of fresh (a ∷ bs)) (take m (a ∷ bs)) ≡ is_token (take m (a ∷ bs))
    same zero = empty_token (class_of fresh (a ∷ bs)) t
    same (suc m) = form_cons (class_of fresh (a ∷ bs)) a (take m bs) (class_firsts fresh a bs t)
