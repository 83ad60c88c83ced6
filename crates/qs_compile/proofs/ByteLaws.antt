-- The bytes of a unit's data: those of its pieces, block by block, are those of the memory to start from.
use Rattle.std.proofs.Common.{◌≡◌, ℕ, zero, suc, ◌+◌, ◌-◌, ◌/◌, ◌%◌, ◌^◌, ◌<◌, List, [], ◌∷◌, ◌++◌, length, map, refl, sym, ap, ◌∙◌, subst, arith, append_assoc, length-append, drop, get_or, add-one}
use Rattle.std.proofs.Math.Path.{fun_ext}
use Rattle.std.specs.Prelude.{replicate, slice_index_or}
use Rattle.std.proofs.Math.Seq.{drop-cons}
use Rattle.std.proofs.lemmas.List.{length-map, length-replicate, map-append}
use Rattle.qs_memory.specs.Values.{null}
use Rattle.qs_memory.specs.Memory.{Cell, unset, byte, parts_of, Memory, cells_from, BlankTree, zeros, nulls, repeated, nothing, joined, times, blank_cells}
use Rattle.qs_memory.specs.Sizes.{blank_size}
use Rattle.qs_memory.proofs.BlankLaws.{blank_length}
use Rattle.qs_core.specs.Trees.{PieceTree, blank, bytes, pointer, DataBlockTree}
use Rattle.qs_core.specs.declared.units.DataBlock.{DataBlock}
use Rattle.qs_core.specs.TreeOf.{data_block_tree}
use Rattle.qs_core.specs.Units.{piece_cells, cells_of_pieces, data_block}
use Rattle.qs_image.specs.Image.{word_bytes}
use Rattle.qs_frames.specs.Layout.{rounded}
use Rattle.qs_frames.proofs.FrameLaws.{is_rounded}
use Rattle.qs_emit.specs.Images.{cell_byte, block_bytes, gap, data_bytes}
use Rattle.qs_compile.specs.Bytes.{piece_bytes, pieces_bytes}

-- ---- gaps

pub no_gap : (size : ℕ) → size % 4 ≡ 0 → 0 ≡ rounded size - size
no_gap size h =
    let r = is_rounded size in
    let aligned = r.aligned in
    let enough = r.enough in
    let least = r.least in
    omega (arith, h, aligned, enough, least)

pub some_gap : (size : ℕ) → (size % 4 ≡ 0 → ⊥) → 4 - size % 4 ≡ rounded size - size
some_gap size h =
    let r = is_rounded size in
    let aligned = r.aligned in
    let enough = r.enough in
    let least = r.least in
    omega (arith, h, aligned, enough, least)

-- ---- zeros

abbrev AreZeros : List ℕ → Type 0
AreZeros [] = Unit {0}
AreZeros (x ∷ xs) = (x ≡ 0) × AreZeros xs

both_zeros : (xs ys : List ℕ) → AreZeros xs → AreZeros ys → AreZeros (xs ++ ys)
both_zeros [] ys h k = k
both_zeros (x ∷ xs) ys h k = (h.0, both_zeros xs ys h.1 k)

zeros_are : (xs : List ℕ) → AreZeros xs → xs ≡ replicate (length xs) 0
zeros_are [] h = refl
zeros_are (x ∷ xs) h = let first : x ≡ 0 = h.0 in let rest : xs ≡ replicate (length xs) 0 = zeros_are xs h.1 in cc

module _ (address_of : ℕ → ℕ) where
  abbrev bytes_of : List Cell → List ℕ
  bytes_of cells = map (cell_byte address_of) cells

  both_cells : (a b : List Cell) → bytes_of (a ++ b) ≡ bytes_of a ++ bytes_of b
  both_cells a b = map-append (cell_byte address_of) a b

  times_zeros : (n : ℕ) (cells : List Cell) → AreZeros (bytes_of cells) → AreZeros (bytes_of (times n cells))
  times_zeros zero cells h = tt
  times_zeros (suc n) cells h = subst AreZeros (sym (both_cells cells (times n cells))) (both_zeros (bytes_of cells) (bytes_of (times n cells)) h (times_zeros n cells h))

  blank_zeros : (b : BlankTree) → AreZeros (bytes_of (blank_cells b))
  blank_zeros (zeros n) = times_zeros n (byte 0 ∷ []) (refl, tt)
  blank_zeros (nulls n) = times_zeros n (parts_of null 0 4) (refl, (refl, (refl, (refl, tt))))
  blank_zeros (repeated n b) = times_zeros n (blank_cells b) (blank_zeros b)
  blank_zeros nothing = tt
  blank_zeros (joined b c) =
      subst AreZeros (sym (both_cells (blank_cells b) (blank_cells c)))
      (both_zeros (bytes_of (blank_cells b)) (bytes_of (blank_cells c)) (blank_zeros b) (blank_zeros c))

  -- ---- pieces

  blank_is : (b : BlankTree) → bytes_of (blank_cells b) ≡ replicate (blank_size b) 0
  blank_is b =
      zeros_are (bytes_of (blank_cells b)) (blank_zeros b)
      ∙ ap (λ (n : ℕ). replicate n 0) (length-map (blank_cells b) (cell_byte address_of) ∙ blank_length b)

  bytes_are : (bs : List ℕ) → bytes_of (map byte bs) ≡ bs
  bytes_are [] = refl
  bytes_are (b ∷ bs) = ap (λ (xs : List ℕ). b ∷ xs) (bytes_are bs)

  word_parts : (w : ℕ) → w / 256 ^ 0 % 256 ∷ w / 256 ^ 1 % 256 ∷ w / 256 ^ 2 % 256 ∷ w / 256 ^ 3 % 256 ∷ [] ≡ word_bytes (w % 2 ^ 32)
  word_parts w =
      let a : w / 256 ^ 0 % 256 ≡ w % 2 ^ 32 % 256 = omega arith in
      let b : w / 256 ^ 1 % 256 ≡ w % 2 ^ 32 / 256 % 256 = omega arith in
      let c : w / 256 ^ 2 % 256 ≡ w % 2 ^ 32 / 65536 % 256 = omega arith in
      let d : w / 256 ^ 3 % 256 ≡ w % 2 ^ 32 / 16777216 % 256 = omega arith in
      cc

  piece_is : (p : PieceTree) → bytes_of (piece_cells p) ≡ piece_bytes address_of p
  piece_is (blank b) = blank_is b
  piece_is (bytes bs) = bytes_are bs
  piece_is (pointer block offset) = word_parts (address_of block + offset)

  pieces_are : (ps : List PieceTree) → bytes_of (cells_of_pieces ps) ≡ pieces_bytes address_of ps
  pieces_are [] = refl
  pieces_are (p ∷ ps) =
      both_cells (piece_cells p) (cells_of_pieces ps)
      ∙ ap (λ (xs : List ℕ). xs ++ bytes_of (cells_of_pieces ps)) (piece_is p)
      ∙ ap (λ (xs : List ℕ). piece_bytes address_of p ++ xs) (pieces_are ps)

  -- ---- blocks

  cells_listed : (cells : List Cell) (at : ℕ → Cell) (from : ℕ) → ((o : ℕ) → o < length cells → at (from + o) ≡ slice_index_or cells o unset) → cells_from at from (length cells) ≡ cells
  cells_listed [] at from h = refl
  cells_listed (c ∷ cells) at from h =
      let none : from ≡ from + 0 = omega arith in
      let first : at from ≡ c = ap at none ∙ h 0 (omega arith) in
      let rest : cells_from at (from + 1) (length cells) ≡ cells = cells_listed cells at (from + 1) (λ o lt. let e : from + 1 + o ≡ from + suc o = omega arith in ap at e ∙ h (suc o) (omega (arith, lt))) in
      cc

  block_is : (d : DataBlockTree) → block_bytes address_of (data_block d) ≡ pieces_bytes address_of d.pieces
  block_is d =
      ap bytes_of (cells_listed (cells_of_pieces d.pieces) (λ o. slice_index_or (cells_of_pieces d.pieces) o unset) 0 (λ o lt. let none : 0 + o ≡ o = omega arith in ap (λ (k : ℕ). slice_index_or (cells_of_pieces d.pieces) k unset) none))
      ∙ pieces_are d.pieces

  -- these bytes, and behind them the blocks that are left
  abbrev pub behind : List ℕ → Memory → List ℕ
  behind so_far [] = so_far
  behind so_far (b ∷ m) = so_far ++ (gap (length so_far) ++ data_bytes address_of (b ∷ m))

  pub behind_nothing : (m : Memory) → behind [] m ≡ data_bytes address_of m
  unfolding rounded
  behind_nothing [] = refl
  behind_nothing (b ∷ m) = refl

  -- the gap behind a block is that behind all bytes up to its end
  gap_same : (n size : ℕ) → gap (rounded n + size) ≡ gap size
  gap_same n size =
      let a = is_rounded n in
      let b = is_rounded size in
      let c = is_rounded (rounded n + size) in
      let aligned = a.aligned in
      let one = b.aligned in
      let more = b.enough in
      let few = b.least in
      let two = c.aligned in
      let much = c.enough in
      let less = c.least in
      let same : rounded (rounded n + size) - (rounded n + size) ≡ rounded size - size = omega (arith, aligned, one, more, few, two, much, less) in
      ap (λ (k : ℕ). replicate k 0) same

  -- a block more
  pub behind_more :
      (so_far more : List ℕ) (d : DataBlockTree) (rest : Memory)
      → more ≡ (so_far ++ gap (length so_far)) ++ pieces_bytes address_of d.pieces
      → behind more rest ≡ behind so_far (data_block d ∷ rest)
  behind_more so_far more d [] is =
      is ∙ ap (λ (xs : List ℕ). (so_far ++ gap (length so_far)) ++ xs) (sym (block_is d))
      ∙ append_assoc so_far (gap (length so_far)) (block_bytes address_of (data_block d))
  behind_more so_far more d (c ∷ rest) is =
      let block = block_bytes address_of (data_block d) in
      let others = data_bytes address_of (c ∷ rest) in
      let whole : more ≡ (so_far ++ gap (length so_far)) ++ block = is ∙ ap (λ (xs : List ℕ). (so_far ++ gap (length so_far)) ++ xs) (sym (block_is d)) in
      let size : length block ≡ (data_block d).size = block_size in
      let long : length more ≡ rounded (length so_far) + (data_block d).size = whole_length whole in
      ap (λ (n : ℕ). more ++ (gap n ++ others)) long
      ∙ ap (λ (xs : List ℕ). more ++ (xs ++ others)) (gap_same (length so_far) (data_block d).size)
      ∙ ap (λ (xs : List ℕ). xs ++ (gap (data_block d).size ++ others)) whole
      ∙ append_assoc (so_far ++ gap (length so_far)) block (gap (data_block d).size ++ others)
      ∙ append_assoc so_far (gap (length so_far)) (block ++ (gap (data_block d).size ++ others))
    where
      block_size : length (block_bytes address_of (data_block d)) ≡ (data_block d).size
      block_size = ap length (block_is d ∙ sym (pieces_are d.pieces)) ∙ length-map (cells_of_pieces d.pieces) (cell_byte address_of)

      whole_length : more ≡ (so_far ++ gap (length so_far)) ++ block_bytes address_of (data_block d) → length more ≡ rounded (length so_far) + (data_block d).size
      whole_length whole =
          let one = length-append (so_far ++ gap (length so_far)) (block_bytes address_of (data_block d)) in
          let two = length-append so_far (gap (length so_far)) in
          let three = length-replicate {A = ℕ} (rounded (length so_far) - length so_far) 0 in
          let enough = (is_rounded (length so_far)).enough in
          let size = block_size in
          let all = ap length whole in
          omega (arith, one, two, three, enough, size, all)

-- ---- blocks in code

pub next_block :
    (blocks : List DataBlock) (i : ℕ) (d : DataBlock) → d ≡ get_or blocks i d → i < length blocks
    → map data_block (map data_block_tree (drop i blocks)) ≡ data_block (data_block_tree d) ∷ map data_block (map data_block_tree (drop (i + 1) blocks))
next_block blocks i d is lt =
    ap (λ (l : List DataBlock). map data_block (map data_block_tree l)) (drop-cons blocks i d lt)
    ∙ ap (λ (x : DataBlock). data_block (data_block_tree x) ∷ map data_block (map data_block_tree (drop (suc i) blocks))) (sym is)
    ∙ ap (λ (n : ℕ). data_block (data_block_tree d) ∷ map data_block (map data_block_tree (drop n blocks))) (sym (add-one i))

-- addresses that are the same give the same bytes
pub same_data : (address_of other : ℕ → ℕ) (m : Memory) → ((block : ℕ) → address_of block ≡ other block) → data_bytes address_of m ≡ data_bytes other m
same_data address_of other m h = ap (λ (f : ℕ → ℕ). data_bytes f m) (fun_ext h)

pub ruleset gap_cases = (no_gap, some_gap)
