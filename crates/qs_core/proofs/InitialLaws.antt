-- The initial memory is sound.
use Rattle.std.proofs.Common.{◌≡◌, ℕ, zero, suc, ◌<◌, ◌≤◌, nat_lt, true, List, [], ◌∷◌, length, map, slice_index_or, Option, Some, None, option_map, refl, sym, ap, ◌∙◌, subst, arith}
use Rattle.std.specs.List.{slice_get, list_all}
use Rattle.std.proofs.lemmas.List.{length-map}
use Rattle.std.proofs.lemmas.Bool.Decides.{nat_tests}
use Rattle.std.proofs.lemmas.Option.{slice_get-map, same_Some}
use Rattle.std.proofs.lemmas.Bool.{and_parts}
use Rattle.qs_memory.specs.Values.{into}
use Rattle.qs_memory.specs.Memory.{Cell, unset, byte, Block, block_at}
use Rattle.qs_memory.specs.Soundness.{IsLive, IsSoundInto, IsSoundCell}
use Rattle.qs_memory.proofs.CellLaws.{Each}
use Rattle.qs_memory.proofs.BlockLaws.{live_known}
use Rattle.qs_memory.proofs.SoundLaws.{sound_parts, sound_blank, each_append}
use Rattle.qs_core.specs.Trees.{PieceTree, blank, bytes, pointer, DataBlockTree, CoreUnitTree}
use Rattle.qs_core.specs.Units.{piece_cells, cells_of_pieces, data_block, initial_memory}
use Rattle.qs_calls.specs.Starts.{DataExtent, IsDataExtent, BeginsWith}
use Rattle.qs_core.specs.Interfaces.{data_extent}
use Rattle.qs_core.specs.Fits.{is_in_data, piece_fits, data_fits}
use Rattle.qs_core.specs.Ranges.{InitialMemoryIsReady}
use Rattle.qs_core.proofs.FitLaws.{all_at, unit_parts}

data_at :
    (ds : List DataBlockTree) (b : ℕ) (d : DataBlockTree) → slice_get ds b ≡ Some d
    → (b < length ds) × (block_at (map data_block ds) b ≡ data_block d)
data_at [] b d h = cc
data_at (e ∷ ds) zero d h = (omega arith, ap data_block (same e d h))
  where
    same : (e d : DataBlockTree) → Some e ≡ Some d → e ≡ d
    same e d h = cc
data_at (e ∷ ds) (suc b) d h = let r = data_at ds b d h in (omega (arith, r.0), r.1)

at_index :
    (P : Cell → Type 0) (cells : List Cell) (i : ℕ) → Each P cells → i < length cells
    → P (slice_index_or cells i unset)
at_index P [] i each h = absurd (omega arith)
at_index P (c ∷ cells) zero each h = each.0
at_index P (c ∷ cells) (suc i) each h = at_index P cells i each.1 (omega arith)

-- the block at a number, and what holds of all of them
known_block :
    (P : DataBlockTree → Type 0) (ds : List DataBlockTree) (b : ℕ) → b < length ds
    → ((d : DataBlockTree) → slice_get ds b ≡ Some d → P d)
    → (d : DataBlockTree) × (slice_get ds b ≡ Some d) × P d
known_block P [] b h f = absurd (omega arith)
known_block P (d ∷ ds) zero h f = (d, refl, f d refl)
known_block P (d ∷ ds) (suc b) h f = known_block P ds b (omega arith) f

-- the blocks of data have the sizes and marks that the interface shows
data_shown :
    (ds : List DataBlockTree) (b : ℕ) (e : DataExtent) → slice_get (map data_extent ds) b ≡ Some e
    → IsDataExtent (map data_block ds) b e
data_shown ds b e is = shown (slice_get ds b) refl (sym (slice_get-map data_extent ds b) ∙ is)
  where
    shown :
        (o : Option DataBlockTree) → slice_get ds b ≡ o → option_map data_extent o ≡ Some e
        → IsDataExtent (map data_block ds) b e
    shown None known same = cc
    shown (Some d) known same =
        let at = (data_at ds b d known).1 in
        let here : IsDataExtent (map data_block ds) b (data_extent d) =
        record {
          size = ap (λ (k : Block). k.size) at;
          writable = ap (λ (k : Block). k.is_writable) at;
        } in
        subst (λ (x : DataExtent). IsDataExtent (map data_block ds) b x)
        (same_Some (data_extent d) e same) here

pub data_begin : (ds : List DataBlockTree) → BeginsWith (map data_extent ds) (map data_block ds)
data_begin ds = record {
  count =
      let one = length-map ds data_extent in let other = length-map ds data_block in omega arith;
  each = data_shown ds;
}

module _ (u : CoreUnitTree) where
  abbrev Sound : Cell → Type 0
  Sound = IsSoundCell (initial_memory u)

  bytes_sound : (bs : List ℕ) → list_all (λ b. nat_lt b 256) bs ≡ true → Each Sound (map byte bs)
  bytes_sound [] h = tt
  bytes_sound (b ∷ bs) h =
      let two = and_parts (nat_lt b 256) (list_all (λ b. nat_lt b 256) bs) h in
      (grind (arith, nat_tests, two.0), bytes_sound bs two.1)

  pointer_sound :
      (block offset : ℕ) (o : Option DataBlockTree) → slice_get u.data_blocks block ≡ o
      → is_in_data o offset ≡ true → IsSoundInto (initial_memory u) block offset
  pointer_sound block offset None is h = cc
  pointer_sound block offset (Some d) is h =
      let at = data_at u.data_blocks block d is in
      let long : length (initial_memory u)
      ≡ length u.data_blocks = length-map u.data_blocks data_block in
      record {
        made = omega (arith, at.0, long);
        in_range = λ live. subst (λ (k : Block). offset ≤ k.size) (sym at.1)
            (grind (arith, nat_tests, h));
      }

  piece_sound : (p : PieceTree) → piece_fits u p ≡ true → Each Sound (piece_cells p)
  piece_sound (blank b) h = sound_blank (initial_memory u) b
  piece_sound (bytes bs) h = bytes_sound bs h
  piece_sound (pointer block offset) h =
      sound_parts (initial_memory u) (into block offset) 0 4
      (pointer_sound block offset (slice_get u.data_blocks block) refl h) (omega arith)

  pieces_sound :
      (ps : List PieceTree) → list_all (piece_fits u) ps ≡ true → Each Sound (cells_of_pieces ps)
  pieces_sound [] h = tt
  pieces_sound (p ∷ ps) h =
      let two = and_parts (piece_fits u p) (list_all (piece_fits u) ps) h in
      each_append Sound (piece_cells p) (cells_of_pieces ps) (piece_sound p two.0)
      (pieces_sound ps two.1)

  data_sound :
      list_all (data_fits u) u.data_blocks ≡ true → (b o : ℕ) → IsLive (initial_memory u) b
      → o < (block_at (initial_memory u) b).size → Sound ((block_at (initial_memory u) b).cells o)
  data_sound fits b o live h =
      let long : length (initial_memory u)
      ≡ length u.data_blocks = length-map u.data_blocks data_block in
      let known = live_known (initial_memory u) b live in
      let is = known_block (λ d. data_fits u d ≡ true) u.data_blocks b (omega arith)
      (λ d i. all_at (data_fits u) u.data_blocks b d fits i) in
      let at = data_at u.data_blocks b is.0 is.1 in
      subst (λ (k : Block). Sound (k.cells o)) (sym at.1)
      (at_index Sound (cells_of_pieces (is.0).pieces) o (pieces_sound (is.0).pieces (and_parts (list_all (piece_fits u) (is.0).pieces) _ is.2).0)
      (subst (λ (k : Block). o < k.size) at.1 h))

pub initial_memory_is_ready : InitialMemoryIsReady
initial_memory_is_ready u input fits are = record {
  sound = record { cells = data_sound u (unit_parts u fits).data_blocks };
  data_blocks = data_begin u.data_blocks;
  input = are;
}
