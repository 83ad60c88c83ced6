-- An image of a unit is one in which its code can run, whatever a run finds there.
use Rattle.std.proofs.Common.{◌≡◌, ℕ, ◌+◌, ◌-◌, ◌*◌, ◌/◌, ◌≤◌, Bool, true, false, List, [], ◌∷◌, ◌++◌, length, Some, None, refl, sym, ap, ◌∙◌, subst, arith, append_assoc}
use Rattle.std.specs.Prelude.{if◌then◌else◌, slice_index}
use Rattle.std.proofs.lemmas.Bool.Decides.{nat_tests}
use Rattle.std.proofs.lemmas.List.{length-append, get_or_at}
use Rattle.qs_memory.specs.Partial.{◌>>=◌}
use Rattle.qs_memory.specs.Memory.{Memory}
use Rattle.qs_isa.specs.Addresses.{code_start}
use Rattle.qs_isa.specs.Table.{decode_of}
use Rattle.qs_asm.specs.Assembly.{HasWords, label_at}
use Rattle.qs_image.specs.Image.{Image}
use Rattle.qs_machine.specs.State.{is_code}
use Rattle.qs_tac.specs.Trees.{TacUnitTree}
use Rattle.qs_tac.specs.Places.{PlacesTree}
use Rattle.qs_emit_selection.specs.Data.{data_address}
use Rattle.qs_emit_selection.specs.Units.{selected}
use Rattle.qs_emit_selection.proofs.Sizes.{units_keep_words}
use Rattle.qs_emit.specs.Machine.{instruction_at}
use Rattle.qs_emit.specs.Surroundings.{Surroundings}
use Rattle.qs_emit.specs.Relation.{IsEmittable, data_end, Setup}
use Rattle.qs_emit.specs.Images.{IsFirstMemory, IsImageOf, IsWithinLimits}
use Rattle.qs_emit.specs.Emitted.{AreSurroundings}
use Rattle.qs_emit.specs.Laws.{CodeIsShort}
use Rattle.qs_emit.proofs.DataBytes.{data_length}
use Rattle.qs_emit.proofs.Passes.{all_few}

-- ---- words

module _ (image : Image) where
  word_there : (before words : List ℕ) (word : ℕ) → before ++ word ∷ words ≡ image.code → instruction_at image (code_start + 4 * length before) ≡ decode_of word
  word_there before words word e =
      let len = ap length e in
      let parts = length-append before (word ∷ words) in
      let inside : is_code image (code_start + 4 * length before) 4 ≡ true = grind (arith, nat_tests, len, parts) in
      let at : (code_start + 4 * length before - code_start) / 4 ≡ length before = omega arith in
      let is : slice_index image.code (length before) ≡ word = ap (λ (l : List ℕ). slice_index l (length before)) (sym e) ∙ get_or_at before word words 0 (length before) refl in
      fetched (is_code image (code_start + 4 * length before) 4) (slice_index image.code ((code_start + 4 * length before - code_start) / 4)) inside (ap (slice_index image.code) at ∙ is)
    where
      fetched : (b : Bool) (there : ℕ) → b ≡ true → there ≡ word → ((if b then Some there else None) >>= decode_of) ≡ decode_of word
      fetched true there t e = ap decode_of e
      fetched false there t e = cc

  words_behind : (before words : List ℕ) → before ++ words ≡ image.code → HasWords (instruction_at image) (code_start + 4 * length before) words
  words_behind before [] e = tt
  words_behind before (word ∷ words) e =
      let len = length-append before (word ∷ []) in
      let next : code_start + 4 * length (before ++ word ∷ []) ≡ code_start + 4 * length before + 4 = omega (arith, len) in
      (word_there before words word e, subst (λ (n : ℕ). HasWords (instruction_at image) n words) next (words_behind (before ++ word ∷ []) words (append_assoc before (word ∷ []) words ∙ e)))

  -- the words of its code lie in it
  pub words_lie : HasWords (instruction_at image) code_start image.code
  words_lie = words_behind [] image.code refl

-- ---- the setup

module _ (u : TacUnitTree) (ps : List PlacesTree) (first : Memory) (t : Surroundings) (emittable : IsEmittable u ps) (memory : IsFirstMemory u first) (is : IsImageOf u ps first t.image) (limits : IsWithinLimits t.image) (around : AreSurroundings u t.image t) where
  pub data_room : data_end u.data_blocks ≤ length t.image.bytes
  data_room =
      let len = data_length (data_address u.data_blocks) first in
      let all = ap length is.bytes in
      let same = ap data_end memory.blocks in
      omega (arith, len, all, same)

  abbrev pub set_up : Setup
  set_up = record {
    unit = u;
    places = ps;
    emittable = emittable;
    image = t.image;
    label_at = label_at (selected u ps) code_start;
    code_end = code_start + 4 * length t.image.code;
    laid = is.code.lays (instruction_at t.image) code_start (words_lie t.image);
    short = let le = limits.code in omega (arith, le);
    data_fits = data_room;
    data_limit = limits.bytes;
    room = t.room;
    others_bytes = around.others;
    stack_fits = around.stack;
    ceiling = around.ceiling;
    return_to = t.return_to;
    return_aligned = around.return_aligned;
    return_low = around.return_word;
    root_registers = t.root_registers;
    first = t.first;
    addresses = t.addresses;
    data_there = around.data_there;
    data_lie = around.data_lie;
  }

-- ---- how many words the code has

pub code_is_short : CodeIsShort
code_is_short u ps first image emittable is =
    let at = instruction_at image in
    let lays = is.code.lays at code_start (words_lie image) in
    let end = (units_keep_words u ps (data_address u.data_blocks) emittable.places (all_few u ps emittable)).laid at (label_at (selected u ps) code_start) code_start (code_start + 4 * length image.code) lays in
    omega (arith, end)
