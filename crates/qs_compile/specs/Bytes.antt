-- The bytes of what a block of data begins with.
use Rattle.std.specs.Prelude.{ℕ, ◌+◌, ◌%◌, ◌^◌, List, [], ◌∷◌, ◌++◌, replicate}
use Rattle.qs_core.specs.Trees.{PieceTree, blank, bytes, pointer}
use Rattle.qs_memory.specs.Sizes.{blank_size}
use Rattle.qs_image.specs.Image.{word_bytes}

-- a pointer is the word of its target's address
abbrev pub piece_bytes : (address_of : ℕ → ℕ) → PieceTree → List ℕ
piece_bytes address_of (blank b) = replicate (blank_size b) 0
piece_bytes address_of (bytes bs) = bs
piece_bytes address_of (pointer block offset) = word_bytes ((address_of block + offset) % 2 ^ 32)

abbrev pub pieces_bytes : (address_of : ℕ → ℕ) → List PieceTree → List ℕ
pieces_bytes address_of [] = []
pieces_bytes address_of (p ∷ ps) = piece_bytes address_of p ++ pieces_bytes address_of ps
