-- Classes of bytes (C11 5.2.1), and lists of bytes that begin or are built in a certain way.
use Rattle.std.specs.Prelude.{ℕ, Bool, true, false, ◌&&◌, ◌||◌, List, [], ◌∷◌, ◌==◌, if◌then◌else◌}
use Rattle.std.specs.List.{list_all}
use Rattle.qs_base.specs.Bytes.{is_between, is_digit, is_word_byte}
use Rattle.qs_base.specs.Characters.{carriage_return, horizontal_tab, period, space}

-- a letter, a digit, `_` or `.`
abbrev pub is_number_byte : ℕ → Bool
is_number_byte byte = is_word_byte byte || byte == period

-- blank or tab
abbrev pub is_blank : ℕ → Bool
is_blank byte = byte == space || byte == horizontal_tab

-- blank, tab, 0x0A, 0x0B, 0x0C, 0x0D
abbrev pub is_space : ℕ → Bool
is_space byte = byte == space || is_between horizontal_tab carriage_return byte

abbrev pub is_empty : List ℕ → Bool
is_empty [] = true
is_empty (byte ∷ bytes) = false

abbrev pub starts : (ℕ → Bool) → List ℕ → Bool
starts first [] = false
starts first (byte ∷ bytes) = first byte

abbrev pub starts_with : ℕ → List ℕ → Bool
starts_with first [] = false
starts_with first (byte ∷ bytes) = byte == first

-- the first byte has the one class, and the others have the other
abbrev pub first_then : (ℕ → Bool) → (ℕ → Bool) → List ℕ → Bool
first_then first others [] = false
first_then first others (byte ∷ bytes) = first byte && list_all others bytes

-- blanks and tabs, and then a digit
abbrev pub digit_after_blanks : List ℕ → Bool
digit_after_blanks [] = false
digit_after_blanks (byte ∷ bytes) = if is_blank byte then digit_after_blanks bytes else is_digit byte

-- at least one blank or tab, and behind all of them a digit
abbrev pub blanks_then_digit : List ℕ → Bool
blanks_then_digit bytes = starts is_blank bytes && digit_after_blanks bytes
