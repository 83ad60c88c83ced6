-- A constant in decimal with a gap behind it.
use Rattle.std.proofs.Common.{◌≡◌, ℕ, ◌+◌, ◌-◌, ◌*◌, ◌/◌, ◌%◌, ◌^◌, ◌<◌, ◌≤◌, zero, suc, Bool, true, false, cond, ◌&&◌, ◌||◌, List, [], ◌∷◌, ◌++◌, Result, Ok, Err, length, take, get_or, slice_index, refl, ap, ◌∙◌, arith, nat_lt, ◌==◌}
use Rattle.std.proofs.Math.Seq.{take-append_seam, get_or-append_seam}
use Rattle.std.proofs.lemmas.List.{append-nil, length-append}
use Rattle.std.proofs.lemmas.Fmt.{decimal_by_steps, first_decimal}
use Rattle.std.proofs.lemmas.Bool.Decides.{nat_tests}
use Rattle.std.specs.Fmt.{decimal}
use Rattle.std.specs.List.{list_all}
use Rattle.std.proofs.lemmas.Bool.{and_right, and_parts, and_from}
use Rattle.qs_base.specs.Bytes.{is_digit}
use Rattle.qs_lexer.specs.Bytes.{is_number_byte, starts, starts_with}
use Rattle.qs_lexer.specs.Numbers.{are_digits, base_of, digit_value, digits_of, has_suffix, is_hexadecimal, number_of, number_without_suffix, typed, value_from, value_of, without_suffix}
use Rattle.qs_lexer.specs.Pieces.{Next}
use Rattle.qs_lexer.specs.declared.fault.FaultKind.{FaultKind}
use Rattle.qs_lexer.specs.declared.fault.FaultKind.TheVariants as faults
use Rattle.qs_lexer.specs.declared.pieces.Piece.TheVariants as pieces
use Rattle.qs_syntax_vocabulary.specs.declared.tokens.TokenKind.{TokenKind}
use Rattle.qs_syntax_vocabulary.specs.declared.tokens.TokenKind.TheVariants as kinds
use Rattle.qs_lexer.proofs.TokenEnds.{number_next}
use Rattle.qs_print.specs.Spelling.{suffix}
use Rattle.qs_print.proofs.LexedWords.{is_gap}

-- ---- the last byte

last_byte : (xs : List ℕ) (x : ℕ) → slice_index (xs ++ x ∷ []) (length (xs ++ x ∷ []) - 1) ≡ x
last_byte xs x =
    let l : length (xs ++ x ∷ []) ≡ length xs + 1 = length-append xs (x ∷ []) in
    let m : length (xs ++ x ∷ []) - 1 ≡ length xs = omega arith in
    rw m (get_or-append_seam xs x [] 0)

without_last : (xs : List ℕ) (x : ℕ) → take (length (xs ++ x ∷ []) - 1) (xs ++ x ∷ []) ≡ xs
without_last xs x =
    let l : length (xs ++ x ∷ []) ≡ length xs + 1 = length-append xs (x ∷ []) in
    let m : length (xs ++ x ∷ []) - 1 ≡ length xs = omega arith in
    rw m (take-append_seam xs (x ∷ []))

-- ---- the digits of a number

digit_is : (d : ℕ) → d < 10 → digit_value (48 + d) ≡ d
digit_is d h = grind (arith, nat_tests)

digit_below : (base x : ℕ) → is_digit x ≡ true → 10 ≤ base → nat_lt (digit_value x) base ≡ true
digit_below base x h l = grind (arith, nat_tests)

digit_digit : (d : ℕ) → d < 10 → is_digit (48 + d) ≡ true
digit_digit d h = grind (arith, nat_tests)

digit_no_suffix : (d : ℕ) → d < 10 → (48 + d == 117 || 48 + d == 85) ≡ false
digit_no_suffix d h = grind (arith, nat_tests)

value_append : (base v : ℕ) (xs : List ℕ) (x : ℕ) → value_from base v (xs ++ x ∷ []) ≡ value_from base v xs * base + digit_value x
value_append base v [] x = refl
value_append base v (y ∷ ys) x = value_append base (v * base + digit_value y) ys x

all_append : (p : ℕ → Bool) (xs : List ℕ) (x : ℕ) → list_all p xs ≡ true → p x ≡ true → list_all p (xs ++ x ∷ []) ≡ true
all_append p [] x h e = rw e refl
all_append p (y ∷ ys) x h e =
    let b : (p y ≡ true) × (list_all p ys ≡ true) = and_parts (p y) (list_all p ys) h in
    rw (b.0) (all_append p ys x b.1 e)

record Digits (n : ℕ) (ds : List ℕ) : Type 0 where
  all : list_all is_digit ds ≡ true
  value : value_of 10 ds ≡ n
  some : 0 < length ds
  plain : has_suffix ds ≡ false
  zeros : n ≡ 0 → ds ≡ 48 ∷ []

one_digit : (n : ℕ) → n < 10 → Digits n ((48 + n) ∷ [])
one_digit n h = record {
  all = rw (digit_digit n h) refl;
  value = let e : digit_value (48 + n) ≡ n = digit_is n h in rw e (omega arith);
  some = omega arith;
  plain = digit_no_suffix n h;
  zeros = λ z. rw z refl;
}

more_digits : (n : ℕ) (ds : List ℕ) → 10 ≤ n → Digits (n / 10) ds → Digits n (ds ++ (48 + n % 10) ∷ [])
more_digits n ds h d =
    let low : n % 10 < 10 = omega arith in
    let l : length (ds ++ (48 + n % 10) ∷ []) ≡ length ds + 1 = length-append ds ((48 + n % 10) ∷ []) in
    let e : digit_value (48 + n % 10) ≡ n % 10 = digit_is (n % 10) low in
    let v : value_of 10 ds ≡ n / 10 = d.value in
    record {
      all = all_append is_digit ds (48 + n % 10) d.all (digit_digit (n % 10) low);
      value = value_append 10 0 ds (48 + n % 10) ∙ rw (v, e) (omega arith);
      some = omega arith;
      plain = rw (last_byte ds (48 + n % 10)) (digit_no_suffix (n % 10) low);
      zeros = λ z. absurd (omega arith);
    }

digits_of_number : (n : ℕ) → n < 2 ^ 64 → Digits n (decimal n)
digits_of_number n h = decimal_by_steps Digits one_digit more_digits n h

-- ---- what they are

no_hexadecimal : (ds : List ℕ) → list_all is_digit ds ≡ true → is_hexadecimal ds ≡ false
no_hexadecimal [] h = refl
no_hexadecimal (a ∷ []) h = and_right (a == 48) false refl
no_hexadecimal (a ∷ b ∷ bs) h =
    let p : (is_digit a ≡ true) × (list_all is_digit (b ∷ bs) ≡ true) = and_parts (is_digit a) (list_all is_digit (b ∷ bs)) h in
    let q : (is_digit b ≡ true) × (list_all is_digit bs ≡ true) = and_parts (is_digit b) (list_all is_digit bs) p.1 in
    and_right (a == 48) (b == 120 || b == 88) (no_x b q.0)
  where
    no_x : (b : ℕ) → is_digit b ≡ true → (b == 120 || b == 88) ≡ false
    no_x b h = grind (arith, nat_tests)

all_below : (base : ℕ) (ds : List ℕ) → list_all is_digit ds ≡ true → 10 ≤ base → are_digits base ds ≡ true
all_below base [] h l = refl
all_below base (x ∷ xs) h l =
    let b : (is_digit x ≡ true) × (list_all is_digit xs ≡ true) = and_parts (is_digit x) (list_all is_digit xs) h in
    and_from (nat_lt (digit_value x) base) (are_digits base xs) (digit_below base x b.0 l) (all_below base xs b.1 l)

when_true : (b : Bool) (x y : Result TokenKind FaultKind) → b ≡ true → cond b x y ≡ x
when_true true x y h = refl
when_true false x y h = cc

-- the type and the value of a decimal number
abbrev is_value : ℕ → Bool → Bool
is_value n unsigned = nat_lt n (cond unsigned (2 ^ 32) (2 ^ 31))

typed_back : (n : ℕ) (unsigned : Bool) → is_value n unsigned ≡ true → typed 10 unsigned n ≡ Ok (kinds.Number n unsigned)
typed_back n true h = by (nat_lt n (2 ^ 31)) (nat_lt n (2 ^ 32)) h
  where
    by : (low fit : Bool) → fit ≡ true → cond low (Ok (kinds.Number n true)) (cond (fit && true) (Ok (kinds.Number n true)) (Err faults.WideLiteral)) ≡ Ok (kinds.Number n true)
    by true fit e = refl
    by false fit e = rw e refl
typed_back n false h = when_true (nat_lt n (2 ^ 31)) (Ok (kinds.Number n false)) (cond (nat_lt n (2 ^ 32) && false) (Ok (kinds.Number n true)) (Err faults.WideLiteral)) h

pub value_low : (n : ℕ) (unsigned : Bool) → is_value n unsigned ≡ true → n < 2 ^ 32
value_low n true h = grind (arith, nat_tests)
value_low n false h = grind (arith, nat_tests)

-- what these digits are in this base
abbrev judged : ℕ → List ℕ → Bool → Result TokenKind FaultKind
judged base ds unsigned = cond (nat_lt 0 (length ds) && are_digits base ds) (typed base unsigned (value_of base ds)) (Err faults.BadLiteral)

plain_number : (n : ℕ) (ds : List ℕ) (unsigned : Bool) → Digits n ds → starts_with 48 ds ≡ false → is_value n unsigned ≡ true → number_without_suffix ds unsigned ≡ Ok (kinds.Number n unsigned)
plain_number n ds unsigned d nonzero h =
    let x : is_hexadecimal ds ≡ false = no_hexadecimal ds d.all in
    let base : base_of ds ≡ 10 = rw (x, nonzero) refl in
    let digits : digits_of ds ≡ ds = rw x refl in
    let some : nat_lt 0 (length ds) ≡ true = let l : 0 < length ds = d.some in grind (arith, nat_tests) in
    let good : (nat_lt 0 (length ds) && are_digits 10 ds) ≡ true = and_from (nat_lt 0 (length ds)) (are_digits 10 ds) some (all_below 10 ds d.all (omega arith)) in
    ap (λ b. judged b (digits_of ds) unsigned) base ∙ ap (λ xs. judged 10 xs unsigned) digits
    ∙ when_true (nat_lt 0 (length ds) && are_digits 10 ds) (typed 10 unsigned (value_of 10 ds)) (Err faults.BadLiteral) good
    ∙ ap (typed 10 unsigned) d.value ∙ typed_back n unsigned h

zero_number : (ds : List ℕ) (unsigned : Bool) → ds ≡ 48 ∷ [] → number_without_suffix ds unsigned ≡ Ok (kinds.Number 0 unsigned)
zero_number ds unsigned h = ap (λ xs. number_without_suffix xs unsigned) h

no_zero_first : (ds : List ℕ) → 48 < get_or ds 0 0 → starts_with 48 ds ≡ false
no_zero_first [] h = refl
no_zero_first (x ∷ xs) h = grind (arith, nat_tests)

number_back : (n : ℕ) (unsigned : Bool) → is_value n unsigned ≡ true → number_without_suffix (decimal n) unsigned ≡ Ok (kinds.Number n unsigned)
number_back zero unsigned h = zero_number (decimal 0) unsigned ((digits_of_number 0 (omega arith)).zeros refl)
number_back (suc m) unsigned h =
    let l : suc m < 2 ^ 32 = value_low (suc m) unsigned h in
    plain_number (suc m) (decimal (suc m)) unsigned (digits_of_number (suc m) (omega arith)) (no_zero_first (decimal (suc m)) (first_decimal (suc m) (omega arith) (omega arith))) h

-- ---- with its suffix

with_suffix : (literal ds : List ℕ) (unsigned : Bool) → has_suffix literal ≡ unsigned → without_suffix literal ≡ ds → number_of literal ≡ number_without_suffix ds unsigned
with_suffix literal ds unsigned h e = ap (λ xs. number_without_suffix xs (has_suffix literal)) e ∙ ap (number_without_suffix ds) h

when_suffix : (b c : Bool) (xs ys : List ℕ) → b ≡ c → cond b xs ys ≡ cond c xs ys
when_suffix b c xs ys h = ap (λ x. cond x xs ys) h

suffixed : (n : ℕ) (ds : List ℕ) (unsigned : Bool) → Digits n ds → number_of (ds ++ suffix unsigned) ≡ number_without_suffix ds unsigned
suffixed n ds true d =
    let h : has_suffix (ds ++ 117 ∷ []) ≡ true = rw (last_byte ds 117) refl in
    with_suffix (ds ++ 117 ∷ []) ds true h (when_suffix (has_suffix (ds ++ 117 ∷ [])) true (take (length (ds ++ 117 ∷ []) - 1) (ds ++ 117 ∷ [])) (ds ++ 117 ∷ []) h ∙ without_last ds 117)
suffixed n ds false d =
    ap number_of (append-nil ds) ∙ with_suffix ds ds false d.plain (when_suffix (has_suffix ds) false (take (length ds - 1) ds) ds d.plain)

-- ---- they are a front

digit_number : (x : ℕ) → is_digit x ≡ true → is_number_byte x ≡ true
digit_number x h = grind (arith, nat_tests)

number_bytes : (ds : List ℕ) → list_all is_digit ds ≡ true → list_all is_number_byte ds ≡ true
number_bytes [] h = refl
number_bytes (x ∷ xs) h =
    let b : (is_digit x ≡ true) × (list_all is_digit xs ≡ true) = and_parts (is_digit x) (list_all is_digit xs) h in
    and_from (is_number_byte x) (list_all is_number_byte xs) (digit_number x b.0) (number_bytes xs b.1)

literal_bytes : (ds : List ℕ) (unsigned : Bool) → list_all is_digit ds ≡ true → list_all is_number_byte (ds ++ suffix unsigned) ≡ true
literal_bytes ds true h = all_append is_number_byte ds 117 (number_bytes ds h) refl
literal_bytes ds false h = ap (list_all is_number_byte) (append-nil ds) ∙ number_bytes ds h

gap_no_number : (gap : ℕ) → is_gap gap ≡ true → is_number_byte gap ≡ false
gap_no_number gap h = grind (arith, nat_tests)

number_starts : (ds rest : List ℕ) → 0 < length ds → list_all is_digit ds ≡ true → starts is_digit (ds ++ rest) ≡ true
number_starts [] rest l h = absurd (omega arith)
number_starts (x ∷ xs) rest l h = (and_parts (is_digit x) (list_all is_digit xs) h).0

pub constant_next : (fresh : Bool) (n : ℕ) (unsigned : Bool) (gap : ℕ) (rest : List ℕ) → is_value n unsigned ≡ true → is_gap gap ≡ true
    → Next fresh ((decimal n ++ suffix unsigned) ++ gap ∷ rest) (pieces.Token (length (decimal n ++ suffix unsigned)) (kinds.Number n unsigned))
constant_next fresh n unsigned gap rest h g =
    let l : n < 2 ^ 32 = value_low n unsigned h in
    let d : Digits n (decimal n) = digits_of_number n (omega arith) in
    number_next fresh (decimal n ++ suffix unsigned) (kinds.Number n unsigned) gap rest (number_starts (decimal n) (suffix unsigned) d.some d.all) (literal_bytes (decimal n) unsigned d.all) (suffixed n (decimal n) unsigned d ∙ number_back n unsigned h) (gap_no_number gap g)
