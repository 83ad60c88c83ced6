-- Classes of bytes.
use Rattle.std.specs.Prelude.{ℕ, Bool, ◌||◌, ◌==◌}
use Rattle.qs_base.specs.Bytes.{is_digit, is_letter}
use Rattle.qs_base.specs.Characters.{carriage_return, dollar_sign, horizontal_tab, hyphen, new_line, number_sign, space}

-- white space
abbrev pub is_space : ℕ → Bool
is_space byte = byte == space || byte == horizontal_tab || byte == carriage_return || byte == new_line

-- a digit or `-`
abbrev pub starts_number : ℕ → Bool
starts_number byte = is_digit byte || byte == hyphen

-- a letter, `_` or `$`
abbrev pub starts_symbol : ℕ → Bool
starts_symbol byte = is_letter byte || byte == dollar_sign

-- a letter, `_`, `$`, a digit or `#`
abbrev pub is_symbol_byte : ℕ → Bool
is_symbol_byte byte = starts_symbol byte || is_digit byte || byte == number_sign

-- a byte of symbols, or `-`
abbrev pub is_atom_byte : ℕ → Bool
is_atom_byte byte = is_symbol_byte byte || byte == hyphen
