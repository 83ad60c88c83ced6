-- What is read can be written.
use Rattle.std.proofs.Common.{arith, ◌≡◌, ℕ, zero, suc, ◌+◌, ◌<◌, ◌≤◌, ◌^◌, ℤ, pos, Bool, true, false, ◌==◌, ◌&&◌, nat_le, nat_lt, not, if◌then◌else◌, cond, List, [], ◌∷◌, length, take, Option, Some, None, refl, sym, ap, subst, ◌∙◌}
use Rattle.std.specs.List.{prefix_len, list_all}
use Rattle.std.proofs.lemmas.Bool.Decides.{nat_tests}
use Rattle.std.proofs.lemmas.List.Folds.{length-prefix_len}
use Rattle.std.specs.Cmp.{second_so}
use Rattle.qs_sexpr.specs.Bytes.{is_atom_byte, is_space, is_symbol_byte, starts_number, starts_symbol}
use Rattle.qs_base.specs.Characters.{hyphen, left_parenthesis, right_parenthesis, semicolon}
use Rattle.qs_sexpr.specs.Numbers.{are_digits, is_empty, magnitude, negated, negative, number_of, positive, value_of}
use Rattle.qs_sexpr.specs.Pieces.{atom, first_piece, number, symbol}
use Rattle.qs_sexpr.specs.Reading.{Reads, nothing, white_space, a_number, a_symbol, a_list, Reading}
use Rattle.qs_sexpr.specs.Trees.{Sexps}
use Rattle.qs_sexpr.specs.Writing.{forms_of_parts, is_symbol, IsInRange, AreWritable}
use Rattle.qs_sexpr.specs.declared.pieces.Piece.{Piece}
use Rattle.qs_sexpr.specs.declared.pieces.Piece.TheVariants.{White, Open, Close, Number, Symbol, BadByte}

-- ---- numbers

positive_in : (o : Option ℕ) (v : ℤ) → positive o ≡ Some v → IsInRange v
positive_in None v e = cc
positive_in (Some n) v e = by (nat_lt n (2 ^ 63)) refl e
  where
    by : (b : Bool) → nat_lt n (2 ^ 63) ≡ b → (if b then Some (pos n) else None) ≡ Some v → IsInRange v
    by true is f = let same : pos n ≡ v = cc in let below : n < 2 ^ 63 = grind (arith, nat_tests, is) in subst IsInRange same below
    by false is f = cc

negated_in : (n : ℕ) → n ≤ 2 ^ 63 → IsInRange (negated n)
negated_in zero h = omega arith
negated_in (suc n) h = omega (arith, h)

negative_in : (o : Option ℕ) (v : ℤ) → ((n : ℕ) → o ≡ Some n → n ≤ 2 ^ 63) → negative o ≡ Some v → IsInRange v
negative_in None v within e = cc
negative_in (Some n) v within e = let same : negated n ≡ v = cc in subst IsInRange same (negated_in n (within n refl))

magnitude_in : (bytes : List ℕ) (n : ℕ) → magnitude bytes ≡ Some n → n ≤ 2 ^ 63
magnitude_in bytes n e = by (not (is_empty bytes) && (are_digits bytes && nat_le (value_of bytes) (2 ^ 63))) refl e
  where
    by : (b : Bool) → (not (is_empty bytes) && (are_digits bytes && nat_le (value_of bytes) (2 ^ 63))) ≡ b → (if b then Some (value_of bytes) else None) ≡ Some n → n ≤ 2 ^ 63
    by true is f =
        let same : value_of bytes ≡ n = cc in
        let few = second_so (are_digits bytes) (nat_le (value_of bytes) (2 ^ 63)) (second_so (not (is_empty bytes)) (are_digits bytes && nat_le (value_of bytes) (2 ^ 63)) is) in
        let within : value_of bytes ≤ 2 ^ 63 = grind (arith, nat_tests, few) in
        subst (λ (m : ℕ). m ≤ 2 ^ 63) same within
    by false is f = cc

number_in : (bytes : List ℕ) (v : ℤ) → number_of bytes ≡ Some v → IsInRange v
number_in [] v e = cc
number_in (byte ∷ bytes) v e = by (byte == hyphen) e
  where
    by : (b : Bool) → (if b then negative (magnitude bytes) else positive (magnitude (byte ∷ bytes))) ≡ Some v → IsInRange v
    by true f = negative_in (magnitude bytes) v (magnitude_in bytes) f
    by false f = positive_in (magnitude (byte ∷ bytes)) v f

-- ---- pieces

-- the bytes of an atom behind its first
abbrev others : List ℕ → List ℕ
others bytes = take (prefix_len is_atom_byte bytes) bytes

record IsAtom (p : Piece) : Type 0 where
  no_white : (n : ℕ) → White n ≡ p → ⊥
  no_open : Open ≡ p → ⊥
  no_close : Close ≡ p → ⊥
  no_bad : (n : ℕ) → BadByte n ≡ p → ⊥

is_atom : (byte : ℕ) (bytes : List ℕ) (p : Piece) → IsAtom p → first_piece byte bytes ≡ p → atom byte (others bytes) ≡ p
is_atom byte bytes p h e = by (is_space byte) (byte == semicolon) (byte == left_parenthesis) (byte == right_parenthesis) (is_atom_byte byte) _ (atom byte (others bytes)) e
  where
    by : (a b c d f : Bool) (k : ℕ) (q : Piece) → (if a then White 0 else if b then White k else if c then Open else if d then Close else if f then q else BadByte 0) ≡ p → q ≡ p
    by true b c d f k q e = absurd (h.no_white 0 e)
    by false true c d f k q e = absurd (h.no_white k e)
    by false false true d f k q e = absurd (h.no_open e)
    by false false false true f k q e = absurd (h.no_close e)
    by false false false false true k q e = e
    by false false false false false k q e = absurd (h.no_bad 0 e)

number_piece : (more : ℕ) (v : ℤ) → IsAtom (Number more v)
number_piece more v = record { no_white = λ n e. cc; no_open = λ e. cc; no_close = λ e. cc; no_bad = λ n e. cc }

symbol_piece : (more : ℕ) → IsAtom (Symbol more)
symbol_piece more = record { no_white = λ n e. cc; no_open = λ e. cc; no_close = λ e. cc; no_bad = λ n e. cc }

is_number : (k more : ℕ) (o : Option ℤ) (v : ℤ) → number k o ≡ Number more v → o ≡ Some v
is_number k more None v e = cc
is_number k more (Some n) v e = let same : n ≡ v = cc in ap Some same

no_number : (k more : ℕ) (o : Option ℤ) → number k o ≡ Symbol more → ⊥
no_number k more None e = cc
no_number k more (Some n) e = cc

no_symbol : (k m more : ℕ) (v : ℤ) (b : Bool) → (if b then Symbol k else BadByte m) ≡ Number more v → ⊥
no_symbol k m more v true e = cc
no_symbol k m more v false e = cc

atom_number : (byte : ℕ) (bytes : List ℕ) (more : ℕ) (v : ℤ) → atom byte bytes ≡ Number more v → IsInRange v
atom_number byte bytes more v e = by (starts_number byte) (starts_symbol byte) e
  where
    by : (a b : Bool) → (if a then number (length bytes) (number_of (byte ∷ bytes)) else if not b then BadByte 0 else symbol bytes) ≡ Number more v → IsInRange v
    by true b f = number_in (byte ∷ bytes) v (is_number (length bytes) more (number_of (byte ∷ bytes)) v f)
    by false true f = absurd (no_symbol (length bytes) (prefix_len is_symbol_byte bytes + 1) more v (prefix_len is_symbol_byte bytes == length bytes) f)
    by false false f = cc

number_first : (byte : ℕ) (bytes : List ℕ) (more : ℕ) (v : ℤ) → first_piece byte bytes ≡ Number more v → IsInRange v
number_first byte bytes more v e = atom_number byte (others bytes) more v (is_atom byte bytes (Number more v) (number_piece more v) e)

-- all bytes pass where the run of those that do is as long as they are
all_pass : (p : ℕ → Bool) (bytes : List ℕ) → prefix_len p bytes ≡ length bytes → list_all p bytes ≡ true
all_pass p [] e = refl
all_pass p (byte ∷ bytes) e = by (p byte) e (all_pass p bytes)
  where
    by : (b : Bool) → cond b (1 + prefix_len p bytes) 0 ≡ length (byte ∷ bytes) → (prefix_len p bytes ≡ length bytes → list_all p bytes ≡ true) → (b && list_all p bytes) ≡ true
    by true e more = more (omega (arith, e))
    by false e more = absurd (omega (arith, e))

-- so many bytes behind the first, all of symbols
record IsWord (byte : ℕ) (bytes : List ℕ) (more : ℕ) : Type 0 where
  starts : starts_symbol byte ≡ true
  many : length bytes ≡ more
  all : list_all is_symbol_byte bytes ≡ true

symbol_bytes : (byte : ℕ) (bytes : List ℕ) (more : ℕ) → starts_symbol byte ≡ true → symbol bytes ≡ Symbol more → IsWord byte bytes more
symbol_bytes byte bytes more starts e = by (prefix_len is_symbol_byte bytes == length bytes) refl e
  where
    by : (b : Bool) → (prefix_len is_symbol_byte bytes == length bytes) ≡ b → (if b then Symbol (length bytes) else BadByte (prefix_len is_symbol_byte bytes + 1)) ≡ Symbol more → IsWord byte bytes more
    by true is f = record { starts = starts; many = (let same : length bytes ≡ more = cc in same); all = all_pass is_symbol_byte bytes (grind (arith, is)) }
    by false is f = cc

atom_symbol : (byte : ℕ) (bytes : List ℕ) (more : ℕ) → atom byte bytes ≡ Symbol more → IsWord byte bytes more
atom_symbol byte bytes more e = by (starts_number byte) (starts_symbol byte) refl e
  where
    by : (a b : Bool) → starts_symbol byte ≡ b → (if a then number (length bytes) (number_of (byte ∷ bytes)) else if not b then BadByte 0 else symbol bytes) ≡ Symbol more → IsWord byte bytes more
    by true b is f = absurd (no_number (length bytes) more (number_of (byte ∷ bytes)) f)
    by false true is f = symbol_bytes byte bytes more is f
    by false false is f = cc

symbol_first : (byte : ℕ) (bytes : List ℕ) (more : ℕ) → first_piece byte bytes ≡ Symbol more → is_symbol (byte ∷ take more bytes) ≡ true
symbol_first byte bytes more e =
    let w = atom_symbol byte (others bytes) more (is_atom byte bytes (Symbol more) (symbol_piece more) e) in
    let same : others bytes ≡ take more bytes = ap (λ (n : ℕ). take n bytes) (sym (length-prefix_len is_atom_byte bytes) ∙ w.many) in
    (λ i. w.starts i && list_all is_symbol_byte (sym same i)) ∙ w.all

-- ---- texts

parts_low : {depth at end : ℕ} {text rest : List ℕ} {parts : Sexps} (n : ℕ) → Reads depth at text parts end rest → depth + n ≡ 1024 → AreWritable n (forms_of_parts parts)
parts_low n nothing h = tt
parts_low n (white_space e r) h = parts_low n r h
parts_low n (a_number {more = more} {byte = byte} {value = v} {bytes = bytes} e r) h = (number_first byte bytes more v e, parts_low n r h)
parts_low n (a_symbol {more = more} {byte = byte} {bytes = bytes} e r) h = (symbol_first byte bytes more e, parts_low n r h)
parts_low zero (a_list e deep inner c r) h = absurd (omega (arith, deep, h))
parts_low (suc n) (a_list e deep inner c r) h = (parts_low n inner (omega (arith, h)), parts_low (suc n) r h)

pub read_is_writable : (text : List ℕ) (parts : Sexps) → Reading text parts → AreWritable 1024 (forms_of_parts parts)
read_is_writable text parts r = parts_low 1024 r.reads refl
