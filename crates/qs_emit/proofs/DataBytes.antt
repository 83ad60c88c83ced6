-- Where the cells of the memory to start from lie in an image's data.
use Rattle.std.proofs.Common.{◌≡◌, ⊎_elim, ℕ, zero, suc, ◌+◌, ◌-◌, ◌<◌, ◌≤◌, List, [], ◌∷◌, ◌++◌, length, refl, ap, ◌∙◌, arith}
use Rattle.std.specs.Prelude.{map, slice_index}
use Rattle.std.proofs.lemmas.Bool.{cases_lt}
use Rattle.std.proofs.lemmas.List.{length-map, length-append, length-replicate, get_or_past, get_or_append_left, get_or-append-add, get_or-append_right}
use Rattle.qs_memory.specs.Values.{Pointer, null, into}
use Rattle.qs_memory.specs.Memory.{Cell, unset, byte, part, Block, Memory, block_at, cells_from}
use Rattle.qs_memory.specs.Soundness.{IsSoundPointer, IsSoundCell}
use Rattle.qs_memory.proofs.CellLaws.{length-cells_from}
use Rattle.qs_machine.proofs.Starts.{no_byte}
use Rattle.qs_tac.specs.declared.units.TacData.{TacData}
use Rattle.qs_frames.specs.Layout.{rounded, offset}
use Rattle.qs_frames.proofs.FrameLaws.{is_rounded}
use Rattle.qs_emit.specs.Lies.{StandsForPointer, Holds}
use Rattle.qs_emit.specs.Relation.{data_end}
use Rattle.qs_emit.specs.Images.{pointer_word, cell_byte, block_bytes, gap, data_bytes, data_of}

-- ---- cells

pointer_stands : (m : Memory) (address_of : ℕ → ℕ) (p : Pointer) → IsSoundPointer m p → StandsForPointer m address_of p (pointer_word address_of p)
pointer_stands m address_of null sound = refl
pointer_stands m address_of (into b o) sound = record { made = sound.made; is = λ live. refl; inside = sound.in_range }

pub cell_holds : (m : Memory) (address_of : ℕ → ℕ) (cell : Cell) → IsSoundCell m cell → Holds m address_of cell (cell_byte address_of cell)
cell_holds m address_of unset sound = tt
cell_holds m address_of (byte b) sound = (refl, sound)
cell_holds m address_of (part p k) sound = record { word = pointer_word address_of p; stands = pointer_stands m address_of p sound.pointer; is = refl }

cell_small : (m : Memory) (address_of : ℕ → ℕ) (cell : Cell) → IsSoundCell m cell → cell_byte address_of cell < 256
cell_small m address_of unset sound = omega arith
cell_small m address_of (byte b) sound = sound
cell_small m address_of (part p k) sound = omega arith

-- ---- blocks

abbrev pub sizes_of : Memory → List ℕ
sizes_of m = map (λ (d : TacData). d.size) (map data_of m)

module _ (address_of : ℕ → ℕ) where
  abbrev bytes : Memory → List ℕ
  bytes m = data_bytes address_of m

  block_length : (b : Block) → length (block_bytes address_of b) ≡ b.size
  block_length b = length-map (cells_from b.cells 0 b.size) (cell_byte address_of) ∙ length-cells_from b.cells 0 b.size

  gap_length : (size : ℕ) → length (gap size) ≡ rounded size - size
  gap_length size = length-replicate (rounded size - size) 0

  byte_among : (cells : ℕ → Cell) (from size o : ℕ) → o < size → slice_index (map (cell_byte address_of) (cells_from cells from size)) o ≡ cell_byte address_of (cells (from + o))
  byte_among cells from zero o lt = absurd (omega (arith, lt))
  byte_among cells from (suc size) zero lt = let e : from ≡ from + 0 = omega arith in ap (λ (n : ℕ). cell_byte address_of (cells n)) e
  byte_among cells from (suc size) (suc o) lt =
      let e : from + 1 + o ≡ from + suc o = omega arith in
      byte_among cells (from + 1) size o (omega (arith, lt)) ∙ ap (λ (n : ℕ). cell_byte address_of (cells n)) e

  block_byte : (b : Block) (o : ℕ) → o < b.size → slice_index (block_bytes address_of b) o ≡ cell_byte address_of (b.cells o)
  block_byte b o lt = let e : 0 + o ≡ o = omega arith in byte_among b.cells 0 b.size o lt ∙ ap (λ (n : ℕ). cell_byte address_of (b.cells n)) e

  behind : (b : Block) (rest : List ℕ) (o : ℕ) → slice_index (block_bytes address_of b ++ (gap b.size ++ rest)) (rounded b.size + o) ≡ slice_index rest o
  behind b rest o =
      let len = block_length b in
      let more = gap_length b.size in
      let enough = (is_rounded b.size).enough in
      let whole : rounded b.size + o ≡ length (block_bytes address_of b) + (length (gap b.size) + o) = omega (arith, len, more, enough) in
      ap (λ (n : ℕ). slice_index (block_bytes address_of b ++ (gap b.size ++ rest)) n) whole
      ∙ get_or-append-add (block_bytes address_of b) (gap b.size ++ rest) (length (gap b.size) + o) 0
      ∙ get_or-append-add (gap b.size) rest o 0

  -- the byte of a cell lies where the cell does
  pub data_byte : (m : Memory) (i o : ℕ) → i < length m → o < (block_at m i).size → slice_index (data_bytes address_of m) (offset (sizes_of m) i + o) ≡ cell_byte address_of ((block_at m i).cells o)
  data_byte [] i o lt inside = absurd (omega (arith, lt))
  data_byte (b ∷ []) zero o lt inside = let e : 0 + o ≡ o = omega arith in ap (λ (n : ℕ). slice_index (block_bytes address_of b) n) e ∙ block_byte b o inside
  data_byte (b ∷ []) (suc i) o lt inside = absurd (omega (arith, lt))
  data_byte (b ∷ c ∷ m) zero o lt inside =
      let e : 0 + o ≡ o = omega arith in
      let len = block_length b in
      ap (λ (n : ℕ). slice_index (bytes (b ∷ c ∷ m)) n) e
      ∙ get_or_append_left (block_bytes address_of b) (gap b.size ++ bytes (c ∷ m)) 0 o (omega (arith, len, inside)) ∙ block_byte b o inside
  data_byte (b ∷ c ∷ m) (suc i) o lt inside =
      let e : rounded b.size + offset (sizes_of (c ∷ m)) i + o ≡ rounded b.size + (offset (sizes_of (c ∷ m)) i + o) = omega arith in
      ap (λ (n : ℕ). slice_index (bytes (b ∷ c ∷ m)) n) e
      ∙ behind b (bytes (c ∷ m)) (offset (sizes_of (c ∷ m)) i + o) ∙ data_byte (c ∷ m) i o (omega (arith, lt)) inside

  pub data_length : (m : Memory) → length (data_bytes address_of m) ≡ data_end (map data_of m)
  data_length [] = refl
  data_length (b ∷ []) = block_length b
  data_length (b ∷ c ∷ m) =
      let len = block_length b in
      let more = gap_length b.size in
      let enough = (is_rounded b.size).enough in
      let rest = data_length (c ∷ m) in
      let first = length-append (block_bytes address_of b) (gap b.size ++ bytes (c ∷ m)) in
      let second = length-append (gap b.size) (bytes (c ∷ m)) in
      omega (arith, len, more, enough, rest, first, second)

  -- ---- each is a byte

  abbrev AreSmall : List ℕ → Type 0
  AreSmall xs = (k : ℕ) → slice_index xs k < 256

  both_small : (xs ys : List ℕ) → AreSmall xs → AreSmall ys → AreSmall (xs ++ ys)
  both_small xs ys a b k = ⊎_elim (λ lt. let e = get_or_append_left xs ys 0 k lt in let s = a k in omega (arith, e, s)) (λ le. let e = get_or-append_right xs ys (length xs) k 0 refl le in let s = b (k - length xs) in omega (arith, e, s)) (cases_lt k (length xs))

  abbrev CellsSmall : Memory → Type 0
  CellsSmall m = (i o : ℕ) → i < length m → o < (block_at m i).size → cell_byte address_of ((block_at m i).cells o) < 256

  block_small : (b : Block) → ((o : ℕ) → o < b.size → cell_byte address_of (b.cells o) < 256) → AreSmall (block_bytes address_of b)
  block_small b h k =
      let len = block_length b in
      ⊎_elim (λ lt. let e = block_byte b k lt in let s = h k lt in omega (arith, e, s)) (λ le. let e = get_or_past (block_bytes address_of b) k 0 (omega (arith, len, le)) in omega (arith, e)) (cases_lt k b.size)

  gap_small : (size : ℕ) → AreSmall (gap size)
  gap_small size k = let e = no_byte (rounded size - size) k in omega (arith, e)

  bytes_small : (m : Memory) → CellsSmall m → AreSmall (data_bytes address_of m)
  bytes_small [] h k = omega arith
  bytes_small (b ∷ []) h k = block_small b (λ o lt. h 0 o (omega arith) lt) k
  bytes_small (b ∷ c ∷ m) h k =
      both_small (block_bytes address_of b) (gap b.size ++ bytes (c ∷ m)) (block_small b (λ o lt. h 0 o (omega arith) lt))
      (both_small (gap b.size) (bytes (c ∷ m)) (gap_small b.size) (bytes_small (c ∷ m) (λ i o lt inside. h (suc i) o (omega (arith, lt)) inside))) k

  pub data_small : (m : Memory) → ((i o : ℕ) → i < length m → o < (block_at m i).size → IsSoundCell m ((block_at m i).cells o)) → (k : ℕ) → slice_index (data_bytes address_of m) k < 256
  data_small m sound k = bytes_small m (λ i o lt inside. cell_small m address_of ((block_at m i).cells o) (sound i o lt inside)) k

-- ---- no block passes the end

pub block_within : (m : Memory) (i : ℕ) → i < length m → offset (sizes_of m) i + (block_at m i).size ≤ data_end (map data_of m)
block_within [] i lt = absurd (omega (arith, lt))
block_within (b ∷ []) zero lt = omega arith
block_within (b ∷ []) (suc i) lt = absurd (omega (arith, lt))
block_within (b ∷ c ∷ m) zero lt = let enough = (is_rounded b.size).enough in omega (arith, enough)
block_within (b ∷ c ∷ m) (suc i) lt = let rest = block_within (c ∷ m) i (omega (arith, lt)) in omega (arith, rest)
