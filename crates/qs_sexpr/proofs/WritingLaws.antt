-- Atoms that are written read as what they are.
use Rattle.std.proofs.Common.{arith, ◌≡◌, ℕ, suc, ◌+◌, ◌*◌, ◌-◌, ◌/◌, ◌%◌, ◌^◌, ◌<◌, ◌≤◌, ℤ, pos, negsuc, Bool, true, false, ◌==◌, cond, List, [], ◌∷◌, ◌++◌, length, take, drop, refl, sym, ap, subst, ◌∙◌, if◌then◌else◌, not, Some, None, lt-ltb, eq-eqb, le-leb}
use Rattle.std.proofs.lemmas.Bool.Decides.{nat_tests}
use Rattle.std.proofs.lemmas.List.{append-nil}
use Rattle.std.proofs.Math.Seq.{take-append_seam, drop-append_seam}
use Rattle.std.specs.List.{prefix_len, list_all}
use Rattle.qs_base.specs.Bytes.{is_digit}
use Rattle.qs_sexpr.specs.Bytes.{is_atom_byte, is_space, is_symbol_byte, starts_number, starts_symbol}
use Rattle.qs_base.specs.Characters.{digit_zero, hyphen, left_parenthesis, right_parenthesis, semicolon}
use Rattle.qs_sexpr.specs.Numbers.{are_digits, is_empty, magnitude, negative, number_of, positive, value_from, value_of}
use Rattle.std.specs.Fmt.{decimal, signed_decimal}
use Rattle.std.proofs.lemmas.Fmt.{decimal_by_steps}
use Rattle.std.specs.Cmp.{first_so, second_so}
use Rattle.qs_sexpr.specs.Pieces.{atom, first_piece, number, symbol}
use Rattle.qs_sexpr.specs.Reading.{Reads, a_number, a_symbol}
use Rattle.qs_sexpr.specs.Trees as trees
use Rattle.qs_sexpr.specs.Trees.{Sexps, part_and}
use Rattle.qs_sexpr.specs.Writing.{is_symbol, IsInRange}
use Rattle.qs_sexpr.specs.declared.pieces.Piece.TheVariants.{Number, Symbol, BadByte}

-- no atom goes on with this text
abbrev pub Delimited : List ℕ → Type 0
Delimited text = prefix_len is_atom_byte text ≡ 0

-- ---- an atom stands first

not_space : (byte : ℕ) → is_atom_byte byte ≡ true → is_space byte ≡ false
not_space byte h = grind (arith, nat_tests, h)

not_semicolon : (byte : ℕ) → is_atom_byte byte ≡ true → (byte == semicolon) ≡ false
not_semicolon byte h = grind (arith, nat_tests, h)

not_open : (byte : ℕ) → is_atom_byte byte ≡ true → (byte == left_parenthesis) ≡ false
not_open byte h = grind (arith, nat_tests, h)

not_close : (byte : ℕ) → is_atom_byte byte ≡ true → (byte == right_parenthesis) ≡ false
not_close byte h = grind (arith, nat_tests, h)

number_starts_atom : (byte : ℕ) → starts_number byte ≡ true → is_atom_byte byte ≡ true
number_starts_atom byte h = grind (arith, nat_tests, h)

symbol_starts_atom : (byte : ℕ) → starts_symbol byte ≡ true → is_atom_byte byte ≡ true
symbol_starts_atom byte h = grind (arith, nat_tests, h)

symbol_no_number : (byte : ℕ) → starts_symbol byte ≡ true → starts_number byte ≡ false
symbol_no_number byte h = grind (arith, nat_tests, h)

symbol_byte_in_atom : (byte : ℕ) → is_symbol_byte byte ≡ true → is_atom_byte byte ≡ true
symbol_byte_in_atom byte h = grind (arith, nat_tests, h)

digit_in_atom : (byte : ℕ) → is_digit byte ≡ true → is_atom_byte byte ≡ true
digit_in_atom byte h = grind (arith, nat_tests, h)

atom_first : (byte : ℕ) (bytes : List ℕ) → is_atom_byte byte ≡ true → first_piece byte bytes ≡ atom byte (take (prefix_len is_atom_byte bytes) bytes)
atom_first byte bytes h = rw (not_space byte h, not_semicolon byte h, not_open byte h, not_close byte h, h) refl

pub true_no_false : false ≡ true → ⊥
true_no_false e = grind (arith, e)

-- ---- runs of bytes

all_weaker : (p q : ℕ → Bool) → ((byte : ℕ) → p byte ≡ true → q byte ≡ true) → (bytes : List ℕ) → list_all p bytes ≡ true → list_all q bytes ≡ true
all_weaker p q w [] h = refl
all_weaker p q w (byte ∷ bytes) h = rw (w byte (first_so (p byte) (list_all p bytes) h)) (all_weaker p q w bytes (second_so (p byte) (list_all p bytes) h))

runs : (p : ℕ → Bool) (bytes text : List ℕ) → list_all p bytes ≡ true → prefix_len p text ≡ 0 → prefix_len p (bytes ++ text) ≡ length bytes
runs p [] text h d = d
runs p (byte ∷ bytes) text h d =
    let r = runs p bytes text (second_so (p byte) (list_all p bytes) h) d in
    ap (λ (b : Bool). cond b (1 + prefix_len p (bytes ++ text)) 0) (first_so (p byte) (list_all p bytes) h) ∙ omega (arith, r)

run_is : (p : ℕ → Bool) (bytes : List ℕ) → list_all p bytes ≡ true → prefix_len p bytes ≡ length bytes
run_is p bytes h = ap (λ (xs : List ℕ). prefix_len p xs) (sym (append-nil bytes)) ∙ runs p bytes [] h refl

-- an atom of these bytes before other text
atom_before : (byte : ℕ) (bytes text : List ℕ) → is_atom_byte byte ≡ true → list_all is_atom_byte bytes ≡ true → Delimited text → first_piece byte (bytes ++ text) ≡ atom byte bytes
atom_before byte bytes text h a d =
    atom_first byte (bytes ++ text) h ∙ (ap (λ (n : ℕ). atom byte (take n (bytes ++ text))) (runs is_atom_byte bytes text a d) ∙ ap (λ (xs : List ℕ). atom byte xs) (take-append_seam bytes text))

-- the bytes are this number
pub record IsNumber (byte : ℕ) (bytes : List ℕ) (value : ℤ) : Type 0 where
  pub first : starts_number byte ≡ true
  pub others : are_digits bytes ≡ true
  pub value_is : number_of (byte ∷ bytes) ≡ Some value

symbol_before : (byte : ℕ) (bytes text : List ℕ) → starts_symbol byte ≡ true → list_all is_symbol_byte bytes ≡ true → Delimited text → first_piece byte (bytes ++ text) ≡ Symbol (length bytes)
symbol_before byte bytes text f o d =
    let s : (prefix_len is_symbol_byte bytes == length bytes) ≡ true = eq-eqb (prefix_len is_symbol_byte bytes) (length bytes) (run_is is_symbol_byte bytes o) in
    atom_before byte bytes text (symbol_starts_atom byte f) (all_weaker is_symbol_byte is_atom_byte symbol_byte_in_atom bytes o) d
    ∙ (ap (λ (b : Bool). if b then number (length bytes) (number_of (byte ∷ bytes)) else if not (starts_symbol byte) then BadByte 0 else symbol bytes) (symbol_no_number byte f)
    ∙ (ap (λ (b : Bool). if not b then BadByte 0 else symbol bytes) f
    ∙ ap (λ (b : Bool). if b then Symbol (length bytes) else BadByte (prefix_len is_symbol_byte bytes + 1)) s))

number_before : (byte : ℕ) (bytes text : List ℕ) (value : ℤ) → IsNumber byte bytes value → Delimited text → first_piece byte (bytes ++ text) ≡ Number (length bytes) value
number_before byte bytes text value w d =
    atom_before byte bytes text (number_starts_atom byte w.first) (all_weaker is_digit is_atom_byte digit_in_atom bytes w.others) d
    ∙ (ap (λ (b : Bool). if b then number (length bytes) (number_of (byte ∷ bytes)) else if not (starts_symbol byte) then BadByte 0 else symbol bytes) w.first
    ∙ ap (number (length bytes)) w.value_is)

-- ---- numbers in decimal

record IsDecimal (n : ℕ) (digits : List ℕ) : Type 0 where
  some : is_empty digits ≡ false
  are : are_digits digits ≡ true
  value_is : value_of digits ≡ n

value_from-append : (value digit : ℕ) (digits : List ℕ) → value_from value (digits ++ digit ∷ []) ≡ value_from value digits * 10 + (digit - digit_zero)
value_from-append value digit [] = refl
value_from-append value digit (first ∷ digits) = value_from-append (value * 10 + (first - digit_zero)) digit digits

are_digits-append : (digit : ℕ) (digits : List ℕ) → are_digits digits ≡ true → is_digit digit ≡ true → are_digits (digits ++ digit ∷ []) ≡ true
are_digits-append digit [] h d = rw d refl
are_digits-append digit (first ∷ digits) h d = rw (first_so (is_digit first) (are_digits digits) h) (are_digits-append digit digits (second_so (is_digit first) (are_digits digits) h) d)

some-append : (digit : ℕ) (digits : List ℕ) → is_empty (digits ++ digit ∷ []) ≡ false
some-append digit [] = refl
some-append digit (first ∷ digits) = refl

a_digit : (n : ℕ) → n < 10 → is_digit (digit_zero + n) ≡ true
a_digit n h = grind (arith, nat_tests, h)

one_digit : (n : ℕ) → n < 10 → IsDecimal n ((digit_zero + n) ∷ [])
one_digit n h = record { some = refl; are = are_digits-append (digit_zero + n) [] refl (a_digit n h); value_is = omega arith }

more_digits : (n : ℕ) (digits : List ℕ) → 10 ≤ n → IsDecimal (n / 10) digits → IsDecimal n (digits ++ ((digit_zero + n % 10) ∷ []))
more_digits n digits h d =
    let v = value_from-append 0 (digit_zero + n % 10) digits in
    let w = d.value_is in
    let m : n % 10 < 10 = omega arith in
    record { some = some-append (digit_zero + n % 10) digits; are = are_digits-append (digit_zero + n % 10) digits d.are (a_digit (n % 10) m); value_is = omega (arith, v, w) }

decimal_is : (n : ℕ) → n < 2 ^ 64 → IsDecimal n (decimal n)
decimal_is n h = decimal_by_steps (λ (m : ℕ) (ds : List ℕ). IsDecimal m ds) one_digit more_digits n h

magnitude_of : (n : ℕ) (digits : List ℕ) → IsDecimal n digits → n ≤ 2 ^ 63 → magnitude digits ≡ Some n
magnitude_of n digits d h = rw (d.some, d.are, d.value_is, le-leb n (2 ^ 63) h) refl

no_sign : (byte : ℕ) → is_digit byte ≡ true → (byte == hyphen) ≡ false
no_sign byte h = grind (arith, nat_tests, h)

digit_starts : (byte : ℕ) → is_digit byte ≡ true → starts_number byte ≡ true
digit_starts byte h = grind (arith, nat_tests, h)

abbrev pub IsWord : List ℕ → ℤ → Type 0
IsWord [] value = ⊥
IsWord (byte ∷ bytes) value = IsNumber byte bytes value

no_digits : (n : ℕ) → IsDecimal n [] → ⊥
no_digits n d = true_no_false (sym d.some)

positive_word : (n : ℕ) (digits : List ℕ) → IsDecimal n digits → n < 2 ^ 63 → IsWord digits (pos n)
positive_word n [] d h = no_digits n d
positive_word n (byte ∷ bytes) d h =
    let b : is_digit byte ≡ true = first_so (is_digit byte) (are_digits bytes) d.are in
    record {
      first = digit_starts byte b;
      others = second_so (is_digit byte) (are_digits bytes) d.are;
      value_is =
          ap (λ (t : Bool). if t then negative (magnitude bytes) else positive (magnitude (byte ∷ bytes))) (no_sign byte b)
          ∙ (ap positive (magnitude_of n (byte ∷ bytes) d (omega (arith, h))) ∙ ap (λ (t : Bool). if t then Some (pos n) else None) (lt-ltb n (2 ^ 63) h));
    }

negative_word : (n : ℕ) (digits : List ℕ) → IsDecimal (suc n) digits → n < 2 ^ 63 → IsWord (hyphen ∷ digits) (negsuc n)
negative_word n digits d h = record { first = refl; others = d.are; value_is = ap negative (magnitude_of (suc n) digits d (omega (arith, h))) }

pub signed_word : (value : ℤ) → IsInRange value → IsWord (signed_decimal value) value
signed_word (pos n) h = positive_word n (decimal n) (decimal_is n (omega (arith, h))) h
signed_word (negsuc n) h = negative_word n (decimal (suc n)) (decimal_is (suc n) (omega (arith, h))) h

-- ---- atoms

pub moved : (depth at now end : ℕ) (text rest : List ℕ) (parts : Sexps) → at ≡ now → Reads depth at text parts end rest → Reads depth now text parts end rest
moved depth at now end text rest parts e r = let P : ℕ → Type 0 = λ n. Reads depth n text parts end rest in subst P e r

dropped : (depth at end : ℕ) (bytes text rest : List ℕ) (parts : Sexps) → Reads depth (at + suc (length bytes)) text parts end rest → Reads depth (at + 1 + length bytes) (drop (length bytes) (bytes ++ text)) parts end rest
dropped depth at end bytes text rest parts r =
    let P : List ℕ → Type 0 = λ xs. Reads depth (at + 1 + length bytes) xs parts end rest in
    subst P (sym (drop-append_seam bytes text)) (moved depth (at + suc (length bytes)) (at + 1 + length bytes) end text rest parts (omega arith) r)

pub symbol_reads : (depth at end : ℕ) (word text rest : List ℕ) (parts : Sexps) → is_symbol word ≡ true → Delimited text → Reads depth (at + length word) text parts end rest
    → Reads depth at (word ++ text) (part_and (trees.symbol at word) parts) end rest
symbol_reads depth at end [] text rest parts w d r = absurd (true_no_false w)
symbol_reads depth at end (byte ∷ bytes) text rest parts w d r =
    let P : List ℕ → Type 0 = λ xs. Reads depth at (byte ∷ bytes ++ text) (part_and (trees.symbol at (byte ∷ xs)) parts) end rest in
    let f = first_so (starts_symbol byte) (list_all is_symbol_byte bytes) w in
    let o = second_so (starts_symbol byte) (list_all is_symbol_byte bytes) w in
    subst P (take-append_seam bytes text) (a_symbol (symbol_before byte bytes text f o d) (dropped depth at end bytes text rest parts r))

pub number_reads : (depth at end : ℕ) (word text rest : List ℕ) (value : ℤ) (parts : Sexps) → IsWord word value → Delimited text → Reads depth (at + length word) text parts end rest
    → Reads depth at (word ++ text) (part_and (trees.number at value) parts) end rest
number_reads depth at end [] text rest value parts w d r = absurd w
number_reads depth at end (byte ∷ bytes) text rest value parts w d r = a_number (number_before byte bytes text value w d) (dropped depth at end bytes text rest parts r)
