-- What the code finds stands there: words, numbers, literals and punctuators.
use Rattle.std.proofs.Common.{◌≡◌, ℕ, ◌+◌, ◌<◌, ◌≤◌, inl, inr, zero, suc, Bool, true, false, cond, ◌||◌, List, [], ◌∷◌, Some, None, is_some, length, take, drop, refl, ap, sym, ◌∙◌, arith, nat_le, ◌==◌}
use Rattle.std.proofs.lemmas.List.{length-take-le}
use Rattle.std.proofs.lemmas.Bool.Decides.{nat_tests}
use Rattle.std.specs.List.{list_all, prefix_len}
use Rattle.std.proofs.lemmas.List.Sums.{prefix_len-le-length}
use Rattle.std.proofs.lemmas.Bool.{and_right, cond-true}
use Rattle.qs_base.specs.Bytes.{is_digit, is_letter, is_word_byte}
use Rattle.qs_base.specs.Names.{is_word}
use Rattle.qs_lexer.specs.Bytes.{first_then, is_number_byte, starts, starts_with}
use Rattle.qs_lexer.specs.Ends.{closes, end_of, quote_turn}
use Rattle.qs_lexer.specs.Scan.{punctuator_front}
use Rattle.qs_lexer.specs.Literals.{character_of, text_of}
use Rattle.qs_lexer.specs.Numbers.{number_of}
use Rattle.qs_lexer.specs.Pieces.{Longest, NoFront, Stands, has_form, is_quoted, piece_without, token_or_fault}
use Rattle.qs_lexer.specs.Words.{punctuator_with, word_of}
use Rattle.qs_syntax_vocabulary.specs.Punctuators.{punctuator_of}
use Rattle.qs_lexer.specs.declared.pieces.Class.TheVariants.{Word, Number, Character, Text, Other}
use Rattle.qs_lexer.specs.declared.pieces.Piece.{Piece}
use Rattle.qs_lexer.specs.declared.pieces.Piece.TheVariants as pieces
use Rattle.qs_syntax_vocabulary.specs.declared.punctuator.Punctuator.{Punctuator}
use Rattle.qs_syntax_vocabulary.specs.declared.tokens.TokenKind.TheVariants as kinds
use Rattle.qs_lexer.proofs.Fronts.{list_all_take, closes_take, end_within, longest_of_le, longest_of_at, longest_same}
use Rattle.qs_syntax_vocabulary.proofs.PunctuatorLaws.{no_punctuator}
use Rattle.qs_lexer.proofs.Conjunctions.{and_true, at_none, at_some}

-- ---- words and numbers: a byte of the one class, and bytes of the other

first_then_take : (f g : ℕ → Bool) (a : ℕ) (bs : List ℕ) → f a ≡ true → (m : ℕ) → m ≤ suc (length bs) → 1 ≤ m → first_then f g (take m (a ∷ bs)) ≡ nat_le m (1 + prefix_len g bs)
first_then_take f g a bs h zero w l = absurd (omega arith)
first_then_take f g a bs h (suc m) w l = and_true (f a) (list_all g (take m bs)) h ∙ list_all_take g bs m (omega arith) ∙ grind (arith, nat_tests)

first_then_longest : (f g : ℕ → Bool) (rest : List ℕ) → starts f rest ≡ true → ((b : ℕ) → f b ≡ true → g b ≡ true) → Longest (first_then f g) rest (prefix_len g rest)
first_then_longest f g [] h i = cc
first_then_longest f g (a ∷ bs) h i =
    let e : prefix_len g (a ∷ bs) ≡ 1 + prefix_len g bs = cond-true (g a) (1 + prefix_len g bs) 0 (i a h) in
    let w : prefix_len g bs ≤ length bs = prefix_len-le-length g bs in
    rw e (longest_of_le (first_then f g) (a ∷ bs) (1 + prefix_len g bs) (omega arith) (λ m b l. first_then_take f g a bs h m b (omega arith)))

letter_goes : (b : ℕ) → is_letter b ≡ true → is_word_byte b ≡ true
letter_goes b h = rw h refl

or_true : (x y z : Bool) → y ≡ true → ((x || y) || z) ≡ true
or_true true y z h = refl
or_true false true z h = refl
or_true false false z h = cc

digit_goes : (b : ℕ) → is_digit b ≡ true → is_number_byte b ≡ true
digit_goes b h = or_true (is_letter b) (is_digit b) (b == 46) h

same_word : (bytes : List ℕ) → first_then is_letter is_word_byte bytes ≡ is_word bytes
same_word [] = refl
same_word (b ∷ bs) = refl

pub word_stands : (fresh : Bool) (rest : List ℕ) (n : ℕ) (piece : Piece) → starts is_letter rest ≡ true → n ≡ prefix_len is_word_byte rest → piece ≡ token_or_fault n (word_of (take n rest)) → Stands fresh Word rest piece
word_stands fresh rest n piece h e s =
    let l : Longest (first_then is_letter is_word_byte) rest (prefix_len is_word_byte rest) = first_then_longest is_letter is_word_byte rest h letter_goes in
    let i : Longest (has_form Word) rest (prefix_len is_word_byte rest) = longest_same (first_then is_letter is_word_byte) is_word rest (prefix_len is_word_byte rest) (λ m. same_word (take m rest)) l in
    let w : n ≤ length rest = omega arith in
    inl (record { n = n; longest = rw e i; is = s ∙ ap (λ k. token_or_fault k (word_of (take n rest))) (sym (length-take-le n rest w)) })

pub number_stands : (fresh : Bool) (rest : List ℕ) (n : ℕ) (piece : Piece) → starts is_digit rest ≡ true → n ≡ prefix_len is_number_byte rest → piece ≡ token_or_fault n (number_of (take n rest)) → Stands fresh Number rest piece
number_stands fresh rest n piece h e s =
    let l : Longest (first_then is_digit is_number_byte) rest (prefix_len is_number_byte rest) = first_then_longest is_digit is_number_byte rest h digit_goes in
    let w : n ≤ length rest = omega arith in
    inl (record { n = n; longest = rw e l; is = s ∙ ap (λ k. token_or_fault k (number_of (take n rest))) (sym (length-take-le n rest w)) })

-- ---- literals

quoted_longest : (quote : ℕ) (rest : List ℕ) (n : ℕ) → starts_with quote rest ≡ true → end_of (quote_turn quote) false (drop 1 rest) ≡ Some n → Longest (is_quoted quote) rest (n + 1)
quoted_longest quote [] n h e = cc
quoted_longest quote (a ∷ tail) n h e =
    let w : n ≤ length tail = end_within (quote_turn quote) false tail n e in
    longest_of_at (is_quoted quote) (a ∷ tail) (n + 1) (omega arith) each
  where
    each : (m : ℕ) → m ≤ suc (length tail) → n + 1 ≤ m → is_quoted quote (take m (a ∷ tail)) ≡ (m == n + 1)
    each zero b l = absurd (omega arith)
    each (suc k) b l = and_true (a == quote) (closes (quote_turn quote) false (take k tail)) h ∙ closes_take (quote_turn quote) false tail k (omega arith) ∙ at_some (end_of (quote_turn quote) false tail) k n e ∙ grind (arith, nat_tests)

not_quoted : (quote : ℕ) (rest : List ℕ) → end_of (quote_turn quote) false (drop 1 rest) ≡ None → NoFront (is_quoted quote) rest
not_quoted quote rest e zero b = refl
not_quoted quote [] e (suc k) b = absurd (omega arith)
not_quoted quote (a ∷ tail) e (suc k) b = and_right (a == quote) (closes (quote_turn quote) false (take k tail)) (closes_take (quote_turn quote) false tail k (omega arith) ∙ at_none (end_of (quote_turn quote) false tail) k e)

pub character_ends : (fresh : Bool) (rest : List ℕ) (n : ℕ) (piece : Piece) → starts_with 39 rest ≡ true → end_of (quote_turn 39) false (drop 1 rest) ≡ Some n → piece ≡ token_or_fault (n + 1) (character_of (take (n + 1) rest)) → Stands fresh Character rest piece
character_ends fresh rest n piece h e s =
    let l : Longest (is_quoted 39) rest (n + 1) = quoted_longest 39 rest n h e in
    inl (record { n = n + 1; longest = l; is = s ∙ ap (λ k. token_or_fault k (character_of (take (n + 1) rest))) (sym (length-take-le (n + 1) rest l.within)) })

pub character_open : (fresh : Bool) (rest : List ℕ) (piece : Piece) → end_of (quote_turn 39) false (drop 1 rest) ≡ None → piece ≡ piece_without Character → Stands fresh Character rest piece
character_open fresh rest piece e s = inr (record { none = not_quoted 39 rest e; is = s })

pub text_ends : (fresh : Bool) (rest : List ℕ) (n : ℕ) (piece : Piece) → starts_with 34 rest ≡ true → end_of (quote_turn 34) false (drop 1 rest) ≡ Some n → piece ≡ token_or_fault (n + 1) (text_of (take (n + 1) rest)) → Stands fresh Text rest piece
text_ends fresh rest n piece h e s =
    let l : Longest (is_quoted 34) rest (n + 1) = quoted_longest 34 rest n h e in
    inl (record { n = n + 1; longest = l; is = s ∙ ap (λ k. token_or_fault k (text_of (take (n + 1) rest))) (sym (length-take-le (n + 1) rest l.within)) })

pub text_open : (fresh : Bool) (rest : List ℕ) (piece : Piece) → end_of (quote_turn 34) false (drop 1 rest) ≡ None → piece ≡ piece_without Text → Stands fresh Text rest piece
text_open fresh rest piece e s = inr (record { none = not_quoted 34 rest e; is = s })

-- ---- punctuators have three bytes at most

no_long_punctuator : (rest : List ℕ) (m : ℕ) → 3 < m → m ≤ length rest → is_some (punctuator_of (take m rest)) ≡ false
no_long_punctuator rest m h w =
    let l : length (take m rest) ≡ m = length-take-le m rest w in
    let long : nat_le (length (take m rest)) 3 ≡ false = grind (arith, nat_tests) in
    ap is_some (no_punctuator (λ spelling. nat_le (length spelling) 3) refl (take m rest) long)

punctuator_stands : (fresh : Bool) (rest : List ℕ) (n : ℕ) (punctuator : Punctuator) (piece : Piece) → n ≤ length rest → punctuator_of (take n rest) ≡ Some punctuator → ((m : ℕ) → n < m → m ≤ 3 → m ≤ length rest → punctuator_of (take m rest) ≡ None)
    → piece ≡ pieces.Token n (kinds.Punctuator punctuator) → Stands fresh Other rest piece
punctuator_stands fresh rest n punctuator piece w e none s =
    inl (record {
      n = n;
      longest = record { within = w; has = ap is_some e; no_longer = λ m l b. longer m l b (nat_le m 3) refl };
      is = s ∙ sym (ap (token_or_fault (length (take n rest))) (ap punctuator_with e) ∙ ap (λ k. pieces.Token k (kinds.Punctuator punctuator)) (length-take-le n rest w));
    })
  where
    longer : (m : ℕ) → n < m → m ≤ length rest → (b : Bool) → nat_le m 3 ≡ b → is_some (punctuator_of (take m rest)) ≡ false
    longer m l b true h = ap is_some (none m l (grind (arith, nat_tests)) b)
    longer m l b false h = no_long_punctuator rest m (grind (arith, nat_tests)) b

no_empty_punctuator : punctuator_of [] ≡ None
unfolding punctuator_of
no_empty_punctuator = refl

punctuator_none : (fresh : Bool) (rest : List ℕ) (piece : Piece) → ((m : ℕ) → 0 < m → m ≤ 3 → m ≤ length rest → punctuator_of (take m rest) ≡ None) → piece ≡ piece_without Other → Stands fresh Other rest piece
punctuator_none fresh rest piece none s = inr (record { none = λ m b. each m b (nat_le m 3) refl; is = s })
  where
    each : (m : ℕ) → m ≤ length rest → (b : Bool) → nat_le m 3 ≡ b → is_some (punctuator_of (take m rest)) ≡ false
    each zero b x h = ap is_some no_empty_punctuator
    each (suc m) b true h = ap is_some (none (suc m) (omega arith) (grind (arith, nat_tests)) b)
    each (suc m) b false h = no_long_punctuator rest (suc m) (grind (arith, nat_tests)) b

-- what the three tries say
front_none : (n : ℕ) (rest : List ℕ) → punctuator_front n rest ≡ None → n ≤ length rest → punctuator_of (take n rest) ≡ None
front_none n rest h w = by (nat_le n (length rest)) (grind (arith, nat_tests)) h
  where
    by : (b : Bool) → b ≡ true → cond b (punctuator_of (take n rest)) None ≡ None → punctuator_of (take n rest) ≡ None
    by true e h = h
    by false e h = cc

record IsPunctuatorFront (n : ℕ) (rest : List ℕ) (punctuator : Punctuator) : Type 0 where
  within : n ≤ length rest
  is : punctuator_of (take n rest) ≡ Some punctuator

front_some : (n : ℕ) (rest : List ℕ) (punctuator : Punctuator) → punctuator_front n rest ≡ Some punctuator → IsPunctuatorFront n rest punctuator
front_some n rest punctuator h = by (nat_le n (length rest)) refl h
  where
    by : (b : Bool) → nat_le n (length rest) ≡ b → cond b (punctuator_of (take n rest)) None ≡ Some punctuator → IsPunctuatorFront n rest punctuator
    by true e h = record { within = grind (arith, nat_tests); is = h }
    by false e h = cc

three : (P : ℕ → Type 0) → P 1 → P 2 → P 3 → (m : ℕ) → 0 < m → m ≤ 3 → P m
three P a b c zero l w = absurd (omega arith)
three P a b c (suc zero) l w = a
three P a b c (suc (suc zero)) l w = b
three P a b c (suc (suc (suc zero))) l w = c
three P a b c (suc (suc (suc (suc m)))) l w = absurd (omega arith)

pub punctuator_3 : (fresh : Bool) (rest : List ℕ) (punctuator : Punctuator) (piece : Piece) → punctuator_front 3 rest ≡ Some punctuator → piece ≡ pieces.Token 3 (kinds.Punctuator punctuator) → Stands fresh Other rest piece
punctuator_3 fresh rest punctuator piece h s = let f : IsPunctuatorFront 3 rest punctuator = front_some 3 rest punctuator h in punctuator_stands fresh rest 3 punctuator piece f.within f.is (λ m l w b. absurd (omega arith)) s

pub punctuator_2 : (fresh : Bool) (rest : List ℕ) (punctuator : Punctuator) (piece : Piece) → punctuator_front 3 rest ≡ None → punctuator_front 2 rest ≡ Some punctuator → piece ≡ pieces.Token 2 (kinds.Punctuator punctuator) → Stands fresh Other rest piece
punctuator_2 fresh rest punctuator piece g h s =
    let f : IsPunctuatorFront 2 rest punctuator = front_some 2 rest punctuator h in
    punctuator_stands fresh rest 2 punctuator piece f.within f.is (λ m l w. three (λ m. 2 < m → m ≤ length rest → punctuator_of (take m rest) ≡ None) (λ l b. absurd (omega arith)) (λ l b. absurd (omega arith)) (λ l b. front_none 3 rest g b) m (omega arith) w l) s

pub punctuator_1 : (fresh : Bool) (rest : List ℕ) (punctuator : Punctuator) (piece : Piece) → punctuator_front 3 rest ≡ None → punctuator_front 2 rest ≡ None → punctuator_front 1 rest ≡ Some punctuator → piece ≡ pieces.Token 1 (kinds.Punctuator punctuator) → Stands fresh Other rest piece
punctuator_1 fresh rest punctuator piece g i h s =
    let f : IsPunctuatorFront 1 rest punctuator = front_some 1 rest punctuator h in
    punctuator_stands fresh rest 1 punctuator piece f.within f.is (λ m l w. three (λ m. 1 < m → m ≤ length rest → punctuator_of (take m rest) ≡ None) (λ l b. absurd (omega arith)) (λ l b. front_none 2 rest i b) (λ l b. front_none 3 rest g b) m (omega arith) w l) s

pub punctuator_0 : (fresh : Bool) (rest : List ℕ) (piece : Piece) → punctuator_front 3 rest ≡ None → punctuator_front 2 rest ≡ None → punctuator_front 1 rest ≡ None → piece ≡ piece_without Other → Stands fresh Other rest piece
punctuator_0 fresh rest piece g i h s = punctuator_none fresh rest piece (three (λ m. m ≤ length rest → punctuator_of (take m rest) ≡ None) (λ b. front_none 1 rest h b) (λ b. front_none 2 rest i b) (λ b. front_none 3 rest g b)) s
