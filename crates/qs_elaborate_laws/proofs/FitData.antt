-- Blocks of data fit: bytes are below 256, pointers into blocks or just past their ends.
use Rattle.std.proofs.Common.{◌≡◌, ℕ, zero, suc, ◌<◌, ◌≤◌, nat_le, Bool, true, List, [], ◌∷◌, All, length, map, slice_index_or, Option, Some, option_map, refl, sym, ap, ◌∙◌, subst, arith}
use Rattle.std.specs.List.{slice_get, list_all}
use Rattle.std.proofs.lemmas.Bool.Decides.{nat_tests}
use Rattle.std.proofs.lemmas.Option.{slice_get-map}
use Rattle.std.proofs.lemmas.List.{length-map}
use Rattle.std.proofs.lemmas.Bool.{and_parts, and_from}
use Rattle.qs_memory.specs.Values.{Pointer, null, into}
use Rattle.qs_memory.specs.Memory.{Cell, unset, BlankTree, zeros, nulls, repeated, nothing, joined, Block, block_at}
use Rattle.qs_memory.specs.Soundness.{IsLive, IsSoundInto, IsSoundPointer, IsSoundCell}
use Rattle.qs_memory.specs.Sizes.{largest_size}
use Rattle.qs_memory.proofs.CellLaws.{Each}
use Rattle.qs_core.specs.Trees.{PieceTree, blank, bytes, pointer, DataBlockTree, CoreUnitTree}
use Rattle.qs_core.specs.Units.{data_block}
use Rattle.qs_core.specs.Fits.{is_in_data, piece_fits, data_fits}
use Rattle.qs_core.proofs.FitLaws.{all_at}
use Rattle.qs_meaning.specs.Typed.{StaticBlock, TypedProgram}
use Rattle.qs_meaning.specs.Units.{block_of, initial_memory}
use Rattle.qs_elaborate_bodies.specs.Names.{FunctionNames}
use Rattle.qs_elaborate_bodies.specs.Data.{with_byte, with_null_before, with_null, with_pointer, pieces_behind, data_core}
use Rattle.qs_elaborate_bodies.specs.Units.{unit_core}
use Rattle.qs_meaning.specs.Whole.{AreWhole, no_cells, byte_before, pointer_before}
use Rattle.qs_elaborate_laws.specs.FitLaws.{AreBlocks}
use Rattle.qs_elaborate_laws.proofs.Data.{cells_kept}

-- ---- blocks by their numbers

same_block : (a b : StaticBlock) → Some a ≡ Some b → a ≡ b
same_block a b h = cc

static_at : (bs : List StaticBlock) (k : ℕ) (b : StaticBlock) → slice_get bs k ≡ Some b → block_at (map block_of bs) k ≡ block_of b
static_at [] k b h = cc
static_at (c ∷ bs) zero b h = ap block_of (same_block c b h)
static_at (c ∷ bs) (suc k) b h = static_at bs k b h

whole_at : (bs : List StaticBlock) → All (λ b. AreWhole b.cells) bs → (k : ℕ) (b : StaticBlock) → slice_get bs k ≡ Some b → AreWhole b.cells
whole_at [] all k b h = cc
whole_at (c ∷ bs) all zero b h = subst (λ (d : StaticBlock). AreWhole d.cells) (same_block c b h) (all 0 c (omega arith))
whole_at (c ∷ bs) all (suc k) b h = whole_at bs (λ j d lt. all (suc j) d (omega arith)) k b h

pub record FoundBlock (bs : List StaticBlock) (k : ℕ) : Type 0 where
  pub block : StaticBlock
  pub is : slice_get bs k ≡ Some block

found_block : (bs : List StaticBlock) (k : ℕ) → k < length bs → FoundBlock bs k
found_block [] k h = absurd (omega arith)
found_block (b ∷ bs) zero h = record { block = b; is = refl }
found_block (b ∷ bs) (suc k) h = let r = found_block bs k (omega arith) in record { block = r.block; is = r.is }

each_cell : (P : Cell → Type 0) (cells : List Cell) → ((o : ℕ) → o < length cells → P (slice_index_or cells o unset)) → Each P cells
each_cell P [] h = tt
each_cell P (c ∷ cells) h = (h 0 (omega arith), each_cell P cells (λ o lt. h (suc o) (omega arith)))

all_blocks : (test : DataBlockTree → Bool) (bs : List StaticBlock) → ((k : ℕ) (b : StaticBlock) → slice_get bs k ≡ Some b → test (data_core b) ≡ true) → list_all test (map data_core bs) ≡ true
all_blocks test [] h = refl
all_blocks test (b ∷ bs) h = and_from _ _ (h 0 b refl) (all_blocks test bs (λ k c is. h (suc k) c is))

module _ (names : List FunctionNames) (p : TypedProgram) (main : ℕ) (blocks : AreBlocks p) where
  abbrev unit : CoreUnitTree
  unit = unit_core names p main

  -- the size of a block in core is that of its cells
  size_kept : (k : ℕ) (b : StaticBlock) → slice_get p.blocks k ≡ Some b → (data_block (data_core b)).size ≡ length b.cells
  size_kept k b is = ap (λ (cells : List Cell). length cells) (cells_kept b.cells (whole_at p.blocks blocks.are_whole.whole k b is))

  core_at : (k : ℕ) (b : StaticBlock) → slice_get p.blocks k ≡ Some b → slice_get (map data_core p.blocks) k ≡ Some (data_core b)
  core_at k b is = slice_get-map data_core p.blocks k ∙ ap (option_map data_core) is

  pointer_kept : (k offset : ℕ) → IsSoundInto (initial_memory p) k offset → is_in_data (slice_get unit.data_blocks k) offset ≡ true
  pointer_kept k offset h =
      let long = length-map p.blocks block_of in
      let made = h.made in
      let found = found_block p.blocks k (omega (arith, long, made)) in
      let at = static_at p.blocks k found.block found.is in
      let inside : offset ≤ length found.block.cells =
      subst (λ (c : Block). offset ≤ c.size) at (h.in_range (subst (λ (c : Block). c.is_live ≡ true) (sym at) refl)) in
      ap (λ (o : Option DataBlockTree). is_in_data o offset) (core_at k found.block found.is)
      ∙ ap (nat_le offset) (size_kept k found.block found.is) ∙ grind (arith, nat_tests, inside)

  -- ---- pieces

  abbrev Fit : List PieceTree → Type 0
  Fit ps = list_all (piece_fits unit) ps ≡ true

  byte_kept : (b : ℕ) → b < 256 → (ps : List PieceTree) → Fit ps → Fit (with_byte b ps)
  byte_kept b small [] h = and_from _ _ (and_from _ _ (grind (arith, nat_tests, small)) refl) refl
  byte_kept b small (bytes bs ∷ ps) h =
      let two = and_parts (piece_fits unit (bytes bs)) _ h in and_from _ _ (and_from _ _ (grind (arith, nat_tests, small)) two.0) two.1
  byte_kept b small (blank c ∷ ps) h = and_from _ _ (and_from _ _ (grind (arith, nat_tests, small)) refl) h
  byte_kept b small (pointer block offset ∷ ps) h = and_from _ _ (and_from _ _ (grind (arith, nat_tests, small)) refl) h

  null_before_kept : (b : BlankTree) (ps : List PieceTree) → Fit ps → Fit (with_null_before b ps)
  null_before_kept (nulls n) ps h = h
  null_before_kept (zeros n) ps h = h
  null_before_kept (repeated n b) ps h = h
  null_before_kept nothing ps h = h
  null_before_kept (joined b c) ps h = h

  null_kept : (ps : List PieceTree) → Fit ps → Fit (with_null ps)
  null_kept [] h = refl
  null_kept (blank b ∷ ps) h = null_before_kept b ps h
  null_kept (bytes bs ∷ ps) h = h
  null_kept (pointer block offset ∷ ps) h = h

  piece_kept : (q : Pointer) → IsSoundPointer (initial_memory p) q → (ps : List PieceTree) → Fit ps → Fit (with_pointer q ps)
  piece_kept null sound ps h = null_kept ps h
  piece_kept (into block offset) sound ps h = and_from _ _ (pointer_kept block offset sound) h

  pieces_fit : (cells : List Cell) → AreWhole cells → Each (IsSoundCell (initial_memory p)) cells → Fit (pieces_behind 0 cells)
  pieces_fit _ no_cells each = refl
  pieces_fit _ (byte_before b cells whole) each = byte_kept b each.0 (pieces_behind 0 cells) (pieces_fit cells whole each.1)
  pieces_fit _ (pointer_before q cells whole) each =
      piece_kept q each.0.pointer (pieces_behind 0 cells) (pieces_fit cells whole each.1.1.1.1)

  block_fits : (k : ℕ) (b : StaticBlock) → slice_get p.blocks k ≡ Some b → data_fits unit (data_core b) ≡ true
  block_fits k b is =
      let at = static_at p.blocks k b is in
      let live : IsLive (initial_memory p) k = subst (λ (c : Block). c.is_live ≡ true) (sym at) refl in
      let cells = each_cell (IsSoundCell (initial_memory p)) b.cells (λ o lt.
      subst (λ (c : Block). IsSoundCell (initial_memory p) (c.cells o)) at (blocks.sound.cells k o live (subst (λ (c : Block). o < c.size) (sym at) lt))) in
      let small = all_at (λ n. nat_le n largest_size) (map (λ (c : StaticBlock). length c.cells) p.blocks) k (length b.cells) blocks.are_whole.small
      (slice_get-map (λ (c : StaticBlock). length c.cells) p.blocks k ∙ ap (option_map (λ (c : StaticBlock). length c.cells)) is) in
      and_from _ _ (pieces_fit b.cells (whole_at p.blocks blocks.are_whole.whole k b is) cells) (ap (λ (n : ℕ). nat_le n largest_size) (size_kept k b is) ∙ small)

  pub blocks_fit : list_all (data_fits unit) unit.data_blocks ≡ true
  blocks_fit = all_blocks (data_fits unit) p.blocks block_fits
