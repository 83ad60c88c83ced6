-- Integer literals (C11 6.4.4.1): decimal ones without a leading zero, octal ones with a leading `0`, hexadecimal ones behind `0x` or `0X`, each with at most one suffix `u` or `U`.
use Rattle.std.specs.Prelude.{ℕ, ◌+◌, ◌*◌, ◌-◌, ◌^◌, Bool, true, false, ◌&&◌, ◌||◌, not, List, [], ◌∷◌, length, take, drop, slice_index, nat_lt, ◌==◌, if◌then◌else◌, Result, Ok, Err}
use Rattle.std.specs.List.{list_all}
use Rattle.qs_base.specs.Bytes.{is_between, is_digit}
use Rattle.qs_lexer.specs.Bytes.{starts_with}
use Rattle.qs_base.specs.Characters.{digit_zero, lowercase_a, lowercase_f, lowercase_u, lowercase_x, uppercase_a, uppercase_f, uppercase_u, uppercase_x}
use Rattle.qs_lexer.specs.declared.fault.FaultKind.{FaultKind}
use Rattle.qs_lexer.specs.declared.fault.FaultKind.TheVariants as faults
use Rattle.qs_syntax_vocabulary.specs.declared.tokens.TokenKind.{TokenKind}
use Rattle.qs_syntax_vocabulary.specs.declared.tokens.TokenKind.TheVariants as kinds

-- the value of a digit, `a` to `f` and `A` to `F` among them; 16, which is the value of none, for another byte
abbrev pub digit_value : ℕ → ℕ
digit_value byte =
    if is_digit byte then byte - digit_zero
    else if is_between lowercase_a lowercase_f byte then byte - (lowercase_a - 10)
    else if is_between uppercase_a uppercase_f byte then byte - (uppercase_a - 10)
    else 16

abbrev pub are_digits : ℕ → List ℕ → Bool
are_digits base bytes = list_all (λ byte. nat_lt (digit_value byte) base) bytes

-- the value of the digits behind digits of this value
abbrev pub value_from : ℕ → ℕ → List ℕ → ℕ
value_from base value [] = value
value_from base value (byte ∷ bytes) = value_from base (value * base + digit_value byte) bytes

abbrev pub value_of : ℕ → List ℕ → ℕ
value_of base digits = value_from base 0 digits

-- ---- the parts of a literal

abbrev pub has_suffix : List ℕ → Bool
has_suffix literal = slice_index literal (length literal - 1) == lowercase_u || slice_index literal (length literal - 1) == uppercase_u

abbrev pub without_suffix : List ℕ → List ℕ
without_suffix literal = if has_suffix literal then take (length literal - 1) literal else literal

-- it begins with `0x` or `0X`
abbrev pub is_hexadecimal : List ℕ → Bool
is_hexadecimal [] = false
is_hexadecimal (byte ∷ bytes) = byte == digit_zero && (starts_with lowercase_x bytes || starts_with uppercase_x bytes)

abbrev pub base_of : List ℕ → ℕ
base_of literal = if is_hexadecimal literal then 16 else if starts_with digit_zero literal then 8 else 10

abbrev pub digits_of : List ℕ → List ℕ
digits_of literal = if is_hexadecimal literal then drop 2 literal else literal

-- ---- its type and its value

-- `int` where it fits and no suffix stands there, and `unsigned` where it fits and a suffix stands there or the base is not 10
abbrev pub typed : ℕ → Bool → ℕ → Result TokenKind FaultKind
typed base suffix value =
    if nat_lt value (2 ^ 31) then Ok (kinds.Number value suffix)
    else if nat_lt value (2 ^ 32) && (suffix || not (base == 10)) then Ok (kinds.Number value true)
    else Err faults.WideLiteral

abbrev pub number_without_suffix : List ℕ → Bool → Result TokenKind FaultKind
number_without_suffix literal suffix =
    if nat_lt 0 (length (digits_of literal)) && are_digits (base_of literal) (digits_of literal)
    then typed (base_of literal) suffix (value_of (base_of literal) (digits_of literal))
    else Err faults.BadLiteral

abbrev pub number_of : List ℕ → Result TokenKind FaultKind
number_of literal = number_without_suffix (without_suffix literal) (has_suffix literal)
