-- Blocks in core hold what they hold in the source.
use Rattle.std.proofs.Common.{◌≡◌, ℕ, suc, ◌+◌, true, List, [], ◌∷◌, ◌++◌, All, length, map, slice_index_or, refl, ap, ◌∙◌, arith}
use Rattle.qs_memory.specs.Values.{Pointer, null, into}
use Rattle.qs_memory.specs.Memory.{Cell, unset, byte, parts_of, BlankTree, zeros, nulls, repeated, nothing, joined, times, blank_cells}
use Rattle.qs_core.specs.Trees.{PieceTree, blank, bytes, pointer}
use Rattle.qs_core.specs.Units.{cells_of_pieces, data_block}
use Rattle.qs_meaning.specs.Typed.{StaticBlock}
use Rattle.qs_meaning.specs.Units.{block_of}
use Rattle.qs_elaborate_bodies.specs.Data.{with_byte, with_null_before, with_null, with_pointer, pieces_behind, data_core}
use Rattle.qs_meaning.specs.Whole.{AreWhole, no_cells, byte_before, pointer_before}

-- ---- one piece in front of others

byte_in_front : (b : ℕ) (ps : List PieceTree) → cells_of_pieces (with_byte b ps) ≡ byte b ∷ cells_of_pieces ps
byte_in_front b [] = refl
byte_in_front b (bytes bs ∷ ps) = refl
byte_in_front b (blank c ∷ ps) = refl
byte_in_front b (pointer block offset ∷ ps) = refl

one_more : (n : ℕ) (cells : List Cell) → times (n + 1) cells ≡ cells ++ times n cells
one_more n cells = let e : n + 1 ≡ suc n = omega arith in ap (λ m. times m cells) e

null_before : (b : BlankTree) (ps : List PieceTree) → cells_of_pieces (with_null_before b ps) ≡ parts_of null 0 4 ++ (blank_cells b ++ cells_of_pieces ps)
null_before (nulls n) ps = ap (λ cells. cells ++ cells_of_pieces ps) (one_more n (parts_of null 0 4))
null_before (zeros n) ps = refl
null_before (repeated n b) ps = refl
null_before nothing ps = refl
null_before (joined b c) ps = refl

null_in_front : (ps : List PieceTree) → cells_of_pieces (with_null ps) ≡ parts_of null 0 4 ++ cells_of_pieces ps
null_in_front [] = refl
null_in_front (blank b ∷ ps) = null_before b ps
null_in_front (bytes bs ∷ ps) = refl
null_in_front (pointer block offset ∷ ps) = refl

pointer_in_front : (p : Pointer) (ps : List PieceTree) → cells_of_pieces (with_pointer p ps) ≡ parts_of p 0 4 ++ cells_of_pieces ps
pointer_in_front null ps = null_in_front ps
pointer_in_front (into block offset) ps = refl

-- ---- blocks

pub cells_kept : (cells : List Cell) → AreWhole cells → cells_of_pieces (pieces_behind 0 cells) ≡ cells
cells_kept _ no_cells = refl
cells_kept _ (byte_before b cells h) = byte_in_front b (pieces_behind 0 cells) ∙ ap (λ rest. byte b ∷ rest) (cells_kept cells h)
cells_kept _ (pointer_before p cells h) = pointer_in_front p (pieces_behind 0 cells) ∙ ap (λ rest. parts_of p 0 4 ++ rest) (cells_kept cells h)

pub block_kept : (b : StaticBlock) → AreWhole b.cells → data_block (data_core b) ≡ block_of b
block_kept b h = ap (λ (cells : List Cell). record { size = length cells; is_live = true; is_writable = b.writable; cells = λ offset. slice_index_or cells offset unset }) (cells_kept b.cells h)

pub memory_kept : (blocks : List StaticBlock) → All (λ b. AreWhole b.cells) blocks → map data_block (map data_core blocks) ≡ map block_of blocks
memory_kept [] h = refl
memory_kept (b ∷ blocks) h = ap (λ c. c ∷ map data_block (map data_core blocks)) (block_kept b (h 0 b (omega arith))) ∙ ap (λ rest. block_of b ∷ rest) (memory_kept blocks (λ k d lt. h (suc k) d (omega arith)))
