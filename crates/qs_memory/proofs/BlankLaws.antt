-- How many cells a blank has.
use Rattle.std.proofs.Common.{◌≡◌, ℕ, zero, suc, ◌+◌, ◌*◌, List, [], ◌∷◌, length, length-append, ap, refl, ◌∙◌, arith}
use Rattle.qs_memory.specs.Values.{null}
use Rattle.qs_memory.specs.Memory.{Cell, byte, parts_of, BlankTree, zeros, nulls, repeated, nothing, joined, times, blank_cells}
use Rattle.qs_memory.specs.Sizes.{blank_size}

times_length : (n : ℕ) (cells : List Cell) → length (times n cells) ≡ n * length cells
times_length zero cells = grind arith
times_length (suc n) cells =
    length-append cells (times n cells) ∙ ap (λ (k : ℕ). length cells + k) (times_length n cells) ∙ grind arith

pub blank_length : (b : BlankTree) → length (blank_cells b) ≡ blank_size b
blank_length (zeros n) = times_length n (byte 0 ∷ []) ∙ grind arith
blank_length (nulls n) = times_length n (parts_of null 0 4) ∙ grind arith
blank_length (repeated n b) = times_length n (blank_cells b) ∙ ap (λ (k : ℕ). n * k) (blank_length b)
blank_length nothing = refl
blank_length (joined b c) =
    length-append (blank_cells b) (blank_cells c)
    ∙ ap (λ (k : ℕ). k + length (blank_cells c)) (blank_length b)
    ∙ ap (λ (k : ℕ). blank_size b + k) (blank_length c)
