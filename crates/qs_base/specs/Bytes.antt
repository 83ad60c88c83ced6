-- Classes of bytes (C11 5.2.1).
use Rattle.std.specs.Prelude.{ℕ, Bool, ◌&&◌, ◌||◌, not, List, nat_le, ◌==◌}
use Rattle.std.specs.Cmp.Lexicographic.{pointwise}

abbrev pub is_between : ℕ → ℕ → ℕ → Bool
is_between low high byte = nat_le low byte && nat_le byte high

-- `0` to `9`
abbrev pub is_digit : ℕ → Bool
is_digit byte = is_between 48 57 byte

-- `a` to `z`, `A` to `Z` and `_`
abbrev pub is_letter : ℕ → Bool
is_letter byte = is_between 97 122 byte || is_between 65 90 byte || byte == 95

abbrev pub is_word_byte : ℕ → Bool
is_word_byte byte = is_letter byte || is_digit byte

-- any byte but 0x0A, which ends a line
abbrev pub is_in_line : ℕ → Bool
is_in_line byte = not (byte == 10)

abbrev pub same_bytes : List ℕ → List ℕ → Bool
same_bytes = pointwise ◌==◌
