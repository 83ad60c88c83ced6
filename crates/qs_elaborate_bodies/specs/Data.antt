-- What the blocks of a unit begin with, in core: piece by piece, as few as can be.
use Rattle.std.specs.Prelude.{ℕ, zero, suc, ◌+◌, List, [], ◌∷◌}
use Rattle.qs_memory.specs.Values.{Pointer, null, into}
use Rattle.qs_memory.specs.Memory.{Cell, unset, byte, part, BlankTree, zeros, nulls, repeated, nothing, joined}
use Rattle.qs_core.specs.Trees.{PieceTree, blank, bytes, pointer, DataBlockTree}
use Rattle.qs_meaning.specs.Typed.{StaticBlock}

-- ---- a piece in front of others; neighbours of one kind are one piece

abbrev pub with_byte : ℕ → List PieceTree → List PieceTree
with_byte b [] = bytes (b ∷ []) ∷ []
with_byte b (bytes bs ∷ ps) = bytes (b ∷ bs) ∷ ps
with_byte b (blank c ∷ ps) = bytes (b ∷ []) ∷ blank c ∷ ps
with_byte b (pointer block offset ∷ ps) = bytes (b ∷ []) ∷ pointer block offset ∷ ps

abbrev pub with_null_before : BlankTree → List PieceTree → List PieceTree
with_null_before (nulls n) ps = blank (nulls (n + 1)) ∷ ps
with_null_before (zeros n) ps = blank (nulls 1) ∷ blank (zeros n) ∷ ps
with_null_before (repeated n b) ps = blank (nulls 1) ∷ blank (repeated n b) ∷ ps
with_null_before nothing ps = blank (nulls 1) ∷ blank nothing ∷ ps
with_null_before (joined b c) ps = blank (nulls 1) ∷ blank (joined b c) ∷ ps

abbrev pub with_null : List PieceTree → List PieceTree
with_null [] = blank (nulls 1) ∷ []
with_null (blank b ∷ ps) = with_null_before b ps
with_null (bytes bs ∷ ps) = blank (nulls 1) ∷ bytes bs ∷ ps
with_null (pointer block offset ∷ ps) = blank (nulls 1) ∷ pointer block offset ∷ ps

abbrev pub with_pointer : Pointer → List PieceTree → List PieceTree
with_pointer null ps = with_null ps
with_pointer (into block offset) ps = pointer block offset ∷ ps

-- ---- cells; the parts of a pointer follow one another

-- the pieces behind so many cells
abbrev pub pieces_behind : ℕ → List Cell → List PieceTree
pieces_behind skipped [] = []
pieces_behind zero (unset ∷ cells) = with_byte 0 (pieces_behind zero cells)
pieces_behind zero (byte b ∷ cells) = with_byte b (pieces_behind zero cells)
pieces_behind zero (part p k ∷ cells) = with_pointer p (pieces_behind 3 cells)
pieces_behind (suc skipped) (cell ∷ cells) = pieces_behind skipped cells

abbrev pub data_core : StaticBlock → DataBlockTree
data_core b = record { is_writable = b.writable; pieces = pieces_behind 0 b.cells }
