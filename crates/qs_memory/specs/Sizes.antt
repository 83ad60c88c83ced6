-- Sizes in bytes.
use Rattle.std.specs.Prelude.{ℕ, ◌+◌, ◌*◌, ◌&&◌, nat_le, Bool}
use Rattle.qs_memory.specs.Memory.{BlankTree, zeros, nulls, repeated, nothing, joined}

-- no type is larger
abbrev pub largest_size : ℕ
largest_size = 16777216

-- the size of the elements among which a pointer moves (6.5.6p2: their type is complete)
abbrev pub is_element : (size : ℕ) → Bool
is_element size = nat_le 1 size && nat_le size largest_size

-- the bytes of a blank
abbrev pub blank_size : BlankTree → ℕ
blank_size (zeros n) = n
blank_size (nulls n) = 4 * n
blank_size (repeated n b) = n * blank_size b
blank_size nothing = 0
blank_size (joined b c) = blank_size b + blank_size c
