-- Numbers: an optional `-` and one decimal digit or more, from -2^63 to 2^63 - 1.
use Rattle.std.specs.Prelude.{ℕ, zero, suc, ◌+◌, ◌*◌, ◌-◌, ◌^◌, ℤ, pos, negsuc, Bool, true, false, ◌&&◌, not, List, [], ◌∷◌, nat_le, nat_lt, ◌==◌, if◌then◌else◌, Option, Some, None}
use Rattle.std.specs.List.{list_all}
use Rattle.qs_base.specs.Bytes.{is_digit}
use Rattle.qs_base.specs.Characters.{digit_zero, hyphen}

-- the value of these digits behind digits of this value
abbrev pub value_from : ℕ → List ℕ → ℕ
value_from value [] = value
value_from value (digit ∷ digits) = value_from (value * 10 + (digit - digit_zero)) digits

abbrev pub value_of : List ℕ → ℕ
value_of digits = value_from 0 digits

abbrev pub is_empty : {A : Type 0} → List A → Bool
is_empty [] = true
is_empty (x ∷ xs) = false

abbrev pub are_digits : List ℕ → Bool
are_digits bytes = list_all is_digit bytes

-- the value of one digit or more, where it is at most 2^63
abbrev pub magnitude : List ℕ → Option ℕ
magnitude bytes = if not (is_empty bytes) && (are_digits bytes && nat_le (value_of bytes) (2 ^ 63)) then Some (value_of bytes) else None

-- behind no sign it is below 2^63
abbrev pub positive : Option ℕ → Option ℤ
positive None = None
positive (Some value) = if nat_lt value (2 ^ 63) then Some (pos value) else None

abbrev pub negated : ℕ → ℤ
negated zero = pos 0
negated (suc n) = negsuc n

abbrev pub negative : Option ℕ → Option ℤ
negative None = None
negative (Some value) = Some (negated value)

-- the number that these bytes are
abbrev pub number_of : List ℕ → Option ℤ
number_of [] = None
number_of (byte ∷ bytes) = if byte == hyphen then negative (magnitude bytes) else positive (magnitude (byte ∷ bytes))
