-- Lines and columns of a text, both from 1. Each line feed ends a line.
use Rattle.std.specs.Prelude.{ℕ, Bool, ◌+◌, ◌==◌, not, List, take, reverse}
use Rattle.std.specs.List.{count_by, prefix_len}

abbrev pub is_line_feed : ℕ → Bool
is_line_feed byte = byte == 10

-- one more than the line feeds before the place
abbrev pub line_at : List ℕ → ℕ → ℕ
line_at text at = 1 + count_by is_line_feed (take at text)

-- one more than the bytes between the last line feed before the place and the place
abbrev pub column_at : List ℕ → ℕ → ℕ
column_at text at = 1 + prefix_len (λ byte. not (is_line_feed byte)) (reverse (take at text))
