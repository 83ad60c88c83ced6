-- How the scan goes over a piece.
use Rattle.std.proofs.Common.{arith, ◌≡◌, ℕ, zero, suc, ◌+◌, ◌≤◌, Bool, true, false, List, [], ◌∷◌, length, drop, take, refl, sym, ap, ◌∙◌, add-one, if◌then◌else◌, Option, Some, None, ℤ, ◌==◌, not, ◌<◌, Err, ◌-◌, ◌*◌, get_or, drop-cons, lt-ltb}
use Rattle.std.proofs.lemmas.List.{length-take}
use Rattle.std.proofs.lemmas.List.Sums.{prefix_len-le-length}
use Rattle.std.specs.List.{prefix_len}
use Rattle.qs_base.specs.Bytes.{is_in_line}
use Rattle.qs_sexpr.specs.Bytes.{is_atom_byte, is_space, is_symbol_byte, starts_number, starts_symbol}
use Rattle.qs_base.specs.Characters.{digit_zero, left_parenthesis, right_parenthesis, semicolon}
use Rattle.qs_sexpr.specs.Numbers.{number_of, value_from}
use Rattle.qs_sexpr.specs.Pieces.{atom, first_piece, number, symbol}
use Rattle.qs_sexpr.specs.Trees.{Sexp}
use Rattle.qs_sexpr.specs.Scan.{Layer, Rest, act, scan}
use Rattle.qs_sexpr.specs.declared.fault.SexprFault.TheVariants.{TooDeep}
use Rattle.qs_sexpr.specs.declared.pieces.Piece.{Piece}
use Rattle.qs_sexpr.specs.declared.pieces.Piece.TheVariants.{White, Open, Close, Number, Symbol, BadByte, BadNumber}

-- the bytes of the piece after its first are there
abbrev pub IsIn : ℕ → Piece → Type 0
IsIn n (White more) = more ≤ n
IsIn n Open = Unit {0}
IsIn n Close = Unit {0}
IsIn n (Number more value) = more ≤ n
IsIn n (Symbol more) = more ≤ n
IsIn n (BadByte more) = more ≤ n
IsIn n BadNumber = Unit {0}

either : (n : ℕ) (b : Bool) (x y : Piece) → (b ≡ true → IsIn n x) → (b ≡ false → IsIn n y) → IsIn n (if b then x else y)
either n true x y h g = h refl
either n false x y h g = g refl

number_in : (n k : ℕ) (value : Option ℤ) → k ≤ n → IsIn n (number k value)
number_in n k None h = tt
number_in n k (Some value) h = h

length-take-le : {A : Type 0} (k : ℕ) (xs : List A) → length (take k xs) ≤ length xs
length-take-le k xs = let l = length-take k xs in omega (arith, l)

part_of_run : (k l : ℕ) → k ≤ l → (k == l) ≡ false → k + 1 ≤ l
part_of_run k l h e = grind (arith, h, e)

symbol_in : (n : ℕ) (bytes : List ℕ) → length bytes ≤ n → IsIn n (symbol bytes)
symbol_in n bytes h =
    let k = prefix_len-le-length is_symbol_byte bytes in
    either n (prefix_len is_symbol_byte bytes == length bytes) (Symbol (length bytes)) (BadByte (prefix_len is_symbol_byte bytes + 1)) (λ e. h)
    (λ e. let m = part_of_run (prefix_len is_symbol_byte bytes) (length bytes) k e in omega (arith, m, h))

atom_in : (n byte : ℕ) (bytes : List ℕ) → length bytes ≤ n → IsIn n (atom byte bytes)
atom_in n byte bytes h =
    either n (starts_number byte) (number (length bytes) (number_of (byte ∷ bytes))) (if not (starts_symbol byte) then BadByte 0 else symbol bytes)
    (λ e. number_in n (length bytes) (number_of (byte ∷ bytes)) h)
    (λ e. either n (not (starts_symbol byte)) (BadByte 0) (symbol bytes) (λ e. omega arith) (λ e. symbol_in n bytes h))

pub piece_in : (byte : ℕ) (bytes : List ℕ) → IsIn (length bytes) (first_piece byte bytes)
piece_in byte bytes =
    let n : ℕ = length bytes in
    let a : Piece = atom byte (take (prefix_len is_atom_byte bytes) bytes) in
    let l = length-take-le (prefix_len is_atom_byte bytes) bytes in
    either n (is_space byte) (White 0) (if byte == semicolon then White (prefix_len is_in_line bytes) else if byte == left_parenthesis then Open else if byte == right_parenthesis then Close else if is_atom_byte byte then a else BadByte 0) (λ e. omega arith)
    (λ e. either n (byte == semicolon) (White (prefix_len is_in_line bytes)) (if byte == left_parenthesis then Open else if byte == right_parenthesis then Close else if is_atom_byte byte then a else BadByte 0) (λ e. prefix_len-le-length is_in_line bytes)
    (λ e. either n (byte == left_parenthesis) Open (if byte == right_parenthesis then Close else if is_atom_byte byte then a else BadByte 0) (λ e. tt)
    (λ e. either n (byte == right_parenthesis) Close (if is_atom_byte byte then a else BadByte 0) (λ e. tt)
    (λ e. either n (is_atom_byte byte) a (BadByte 0) (λ e. atom_in n byte (take (prefix_len is_atom_byte bytes) bytes) l) (λ e. omega arith)))))

pub skipped : (outer : List Layer) (done : List Sexp) (at k : ℕ) (bytes : List ℕ) → k ≤ length bytes → scan outer done at k bytes ≡ scan outer done (at + k) 0 (drop k bytes)
skipped outer done at zero bytes h = ap (λ (n : ℕ). scan outer done n 0 bytes) (omega arith)
skipped outer done at (suc k) [] h = absurd (omega (arith, h))
skipped outer done at (suc k) (byte ∷ bytes) h =
    skipped outer done (at + 1) k bytes (omega (arith, h)) ∙ ap (λ (n : ℕ). scan outer done n 0 (drop k bytes)) (omega arith)

-- the scan acts on the first piece
pub acts : (outer : List Layer) (done : List Sexp) (at : ℕ) (rest : List ℕ) (byte : ℕ) (bytes : List ℕ) (p : Piece) → rest ≡ byte ∷ bytes → p ≡ first_piece byte bytes → scan outer done at 0 rest ≡ act p outer done at byte bytes (λ o d more. scan o d (at + 1) more bytes)
acts outer done at rest byte bytes p e f =
    ap (λ (xs : List ℕ). scan outer done at 0 xs) e ∙ ap (λ (q : Piece). act q outer done at byte bytes (λ o d more. scan o d (at + 1) more bytes)) (sym f)

drop_more : (more : ℕ) (rest : List ℕ) (byte : ℕ) (bytes : List ℕ) → rest ≡ byte ∷ bytes → drop more bytes ≡ drop (more + 1) rest
drop_more more rest byte bytes e = rw e (rw (add-one more) refl)

pub goes : (outer : List Layer) (done : List Sexp) (at more : ℕ) (rest : List ℕ) (byte : ℕ) (bytes : List ℕ) → rest ≡ byte ∷ bytes → more ≤ length bytes → scan outer done (at + 1) more bytes ≡ scan outer done (at + (more + 1)) 0 (drop (more + 1) rest)
goes outer done at more rest byte bytes e h =
    let same : at + 1 + more ≡ at + (more + 1) = omega arith in
    skipped outer done (at + 1) more bytes h ∙ (λ i. scan outer done (same i) 0 (drop_more more rest byte bytes e i))

-- a list is opened, where fewer than 1,024 are open
pub open_acts : (outer : List Layer) (done : List Sexp) (at byte : ℕ) (bytes : List ℕ) (go : Rest) → length outer < 1024 → act Open outer done at byte bytes go ≡ go (record { place = at; before = done } ∷ outer) [] 0
open_acts outer done at byte bytes go h = ap (λ (b : Bool). if b then go (record { place = at; before = done } ∷ outer) [] 0 else Err (TooDeep at)) (lt-ltb (length outer) 1024 h)

-- ---- the number that digits write

pub value_goes : (v : ℕ) (text : List ℕ) (i : ℕ) → i < length text → value_from v (drop i text) ≡ value_from (v * 10 + (get_or text i 0 - digit_zero)) (drop (i + 1) text)
value_goes v text i h = rw (add-one, drop-cons text i 0 h) refl

pub value_grows : (v : ℕ) (text : List ℕ) → v ≤ value_from v text
value_grows v [] = omega arith
value_grows v (b ∷ bs) = let g : v * 10 + (b - digit_zero) ≤ value_from (v * 10 + (b - digit_zero)) bs = value_grows (v * 10 + (b - digit_zero)) bs in omega arith
