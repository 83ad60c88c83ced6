-- The bytes that the machine starts with: the memory to start from lies in the data.
use Rattle.std.proofs.Common.{◌≡◌, ◌⊎◌, inl, inr, ⊎_elim, ℕ, zero, suc, ◌+◌, ◌-◌, ◌^◌, ◌<◌, ◌≤◌, Bool, true, false, List, [], ◌∷◌, ◌++◌, length, refl, sym, ap, ◌∙◌, subst, arith}
use Rattle.std.specs.Prelude.{if◌then◌else◌, map, slice_index}
use Rattle.std.proofs.lemmas.Bool.{cases_lt}
use Rattle.std.proofs.lemmas.Bool.Decides.{nat_tests}
use Rattle.std.proofs.lemmas.List.{length-map, get_or_append_left, get_or-append_right}
use Rattle.qs_memory.specs.Memory.{Memory, block_at}
use Rattle.qs_memory.specs.Soundness.{IsLive}
use Rattle.qs_memory.proofs.BlockLaws.{live_known}
use Rattle.qs_isa.specs.Addresses.{code_start, data_start}
use Rattle.qs_image.specs.Image.{Image, word_bytes, words_bytes}
use Rattle.qs_machine.specs.State.{is_code, is_data}
use Rattle.qs_machine.specs.Run.{start_memory}
use Rattle.qs_tac.specs.Trees.{TacUnitTree}
use Rattle.qs_tac.specs.Places.{PlacesTree}
use Rattle.qs_tac.specs.declared.units.TacData.{TacData}
use Rattle.qs_frames.specs.Layout.{offset}
use Rattle.qs_frames.proofs.FrameLaws.{offset_aligned, offset_before}
use Rattle.qs_emit.specs.Lies.{AreBytes, Holds, Lies, AreApart}
use Rattle.qs_emit.specs.Surroundings.{Lay}
use Rattle.qs_emit_selection.specs.Data.{data_address, data_sizes}
use Rattle.qs_emit.specs.Images.{cell_byte, data_bytes, data_of, IsFirstMemory, IsImageOf, IsWithinLimits}
use Rattle.qs_emit.specs.Emitted.{data_lay, Begins}
use Rattle.qs_emit.proofs.DataBytes.{sizes_of, cell_holds, data_byte, data_length, data_small, block_within}
use Rattle.qs_emit.proofs.Owners.{blocks_apart_have_owners}

-- ---- the bytes of code

abbrev AreSmall : List ℕ → Type 0
AreSmall xs = (k : ℕ) → slice_index xs k < 256

both_small : (xs ys : List ℕ) → AreSmall xs → AreSmall ys → AreSmall (xs ++ ys)
both_small xs ys a b k = ⊎_elim (λ lt. let e = get_or_append_left xs ys 0 k lt in let s = a k in omega (arith, e, s)) (λ le. let e = get_or-append_right xs ys (length xs) k 0 refl le in let s = b (k - length xs) in omega (arith, e, s)) (cases_lt k (length xs))

word_small : (word : ℕ) → AreSmall (word_bytes word)
word_small word zero = omega arith
word_small word (suc zero) = omega arith
word_small word (suc (suc zero)) = omega arith
word_small word (suc (suc (suc zero))) = omega arith
word_small word (suc (suc (suc (suc k)))) = omega arith

words_small : (words : List ℕ) → AreSmall (words_bytes words)
words_small [] k = omega arith
words_small (word ∷ words) k = both_small (word_bytes word) (words_bytes words) (word_small word) (words_small words) k

module _ (u : TacUnitTree) (ps : List PlacesTree) (first : Memory) (image : Image) (memory : IsFirstMemory u first) (is : IsImageOf u ps first image) (limits : IsWithinLimits image) where
  abbrev lay : Lay
  lay = data_lay u first

  abbrev sizes : List ℕ
  sizes = data_sizes u.data_blocks

  -- as many blocks as the unit has
  pub count : length first ≡ length u.data_blocks
  count = sym (length-map first data_of) ∙ ap length memory.blocks

  -- ---- bytes

  data_there : (k : ℕ) → k < length image.bytes → start_memory image (data_start + k) ≡ slice_index image.bytes k
  data_there k lt =
      let le = limits.code in
      let no_code : is_code image (data_start + k) 1 ≡ false = grind (arith, nat_tests, le) in
      let inside : is_data image (data_start + k) 1 ≡ true = grind (arith, nat_tests, lt) in
      let at : data_start + k - data_start ≡ k = omega arith in
      rw (no_code, inside, at) refl

  small : AreSmall image.bytes
  small k =
      let each = data_small (data_address u.data_blocks) first (λ i o lt inside. memory.sound.cells i o (memory.live i lt) inside) k in
      let same = ap (λ (l : List ℕ). slice_index l k) is.bytes in
      omega (arith, each, same)

  are_bytes : AreBytes (start_memory image)
  are_bytes at = by (is_code image at 1) (is_data image at 1)
    where
      by : (a b : Bool) → (if a then slice_index (words_bytes image.code) (at - code_start) else if b then slice_index image.bytes (at - data_start) else 0) < 2 ^ 8
      by true b = words_small image.code (at - code_start)
      by false true = small (at - data_start)
      by false false = omega arith

  -- ---- blocks

  same_sizes : sizes_of first ≡ sizes
  same_sizes = ap (map (λ (d : TacData). d.size)) memory.blocks

  within : (b : ℕ) → b < length first → offset sizes b + (block_at first b).size ≤ length image.bytes
  within b lt =
      let most = block_within first b lt in
      let same = ap (λ (l : List ℕ). offset l b) same_sizes in
      let len = data_length (data_address u.data_blocks) first in
      let all = ap length is.bytes in
      omega (arith, most, same, len, all)

  size_in : (m : Memory) (b : ℕ) → b < length m → slice_index (sizes_of m) b ≡ (block_at m b).size
  size_in [] b lt = absurd (omega (arith, lt))
  size_in (c ∷ m) zero lt = refl
  size_in (c ∷ m) (suc b) lt = size_in m b (omega (arith, lt))

  size_is : (b : ℕ) → b < length first → slice_index sizes b ≡ (block_at first b).size
  size_is b lt = ap (λ (l : List ℕ). slice_index l b) (sym same_sizes) ∙ size_in first b lt

  -- one that comes before lies before
  before : (b c : ℕ) → b < c → c < length first → lay.address_of b + (block_at first b).size ≤ lay.address_of c
  before b c lt inside =
      let number = count in
      let sizes_are = length-map u.data_blocks (λ (d : TacData). d.size) in
      let size = size_is b (omega (arith, lt, inside)) in
      let end = offset_before sizes b c lt (omega (arith, inside, number, sizes_are)) in
      omega (arith, end, size)

  apart : AreApart first lay.address_of
  apart = record { apart = λ b c ne live other. by b c ne (live_known first b live) (live_known first c other) (cases_lt b c) }
    where
      by : (b c : ℕ) → (b ≡ c → ⊥) → b < length first → c < length first → (b < c) ⊎ (c ≤ b) → (lay.address_of b + (block_at first b).size ≤ lay.address_of c) ⊎ (lay.address_of c + (block_at first c).size ≤ lay.address_of b)
      by b c ne lb lc (inl lt) = inl (before b c lt lc)
      by b c ne lb lc (inr le) = ⊎_elim (λ lt. inr (before c b lt lb)) (λ ge. absurd (ne (omega (arith, le, ge)))) (cases_lt c b)

  held : (b o : ℕ) → IsLive first b → o < (block_at first b).size → Holds first lay.address_of ((block_at first b).cells o) (start_memory image (lay.address_of b + o))
  held b o live lt =
      let inside = live_known first b live in
      let end = within b inside in
      let at : data_start + offset sizes b + o ≡ data_start + (offset sizes b + o) = omega arith in
      let there : start_memory image (lay.address_of b + o) ≡ cell_byte lay.address_of ((block_at first b).cells o) =
      ap (start_memory image) at ∙ data_there (offset sizes b + o) (omega (arith, end, lt)) ∙ ap (λ (l : List ℕ). slice_index l (offset sizes b + o)) is.bytes
      ∙ ap (λ (l : List ℕ). slice_index (data_bytes (data_address u.data_blocks) first) (offset l b + o)) (sym same_sizes) ∙ data_byte (data_address u.data_blocks) first b o inside lt in
      subst (λ (x : ℕ). Holds first lay.address_of ((block_at first b).cells o) x) (sym there) (cell_holds first lay.address_of ((block_at first b).cells o) (memory.sound.cells b o live lt))

  lies : Lies first lay.address_of lay.owner (start_memory image)
  lies = record {
    owned = blocks_apart_have_owners first lay.address_of apart;
    holds = held;
    aligned = λ b live. let o = offset_aligned sizes b in omega (arith, o);
  }

  pub begins : Begins u first image
  begins = record {
    count = count;
    live = memory.live;
    lies = lies;
    apart = apart;
    above = λ b lt. omega arith;
    below = λ b lt. let end = within b lt in omega (arith, end);
    bytes = are_bytes;
  }
