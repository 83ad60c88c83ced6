-- The tests of reading, one after the other, and that they pass exactly where the bytes are an image's executable.
use Rattle.std.proofs.Common.{◌≡◌, ℕ, ◌*◌, ◌<◌, ◌≤◌, Bool, true, false, List, length, drop, Option, Some, None, refl, sym, ap, ◌∙◌, subst, arith}
use Rattle.std.specs.Prelude.{◌≢◌, ◌==◌, nat_le, if◌then◌else◌, option_map}
use Rattle.std.proofs.lemmas.Bool.{eq-eqb, ne_eqb}
use Rattle.std.proofs.lemmas.List.{length-drop, length-take-le}
use Rattle.std.proofs.lemmas.Bool.Decides.{nat_tests}
use Rattle.qs_image.specs.Bytes.{word, entry_word, code_count, byte_count}
use Rattle.qs_image.specs.declared.fault.ImageFault.{ImageFault}
use Rattle.qs_image.specs.Faults as image
use Rattle.qs_image.specs.Faults.{HasNoFault}
use Rattle.qs_elf.specs.Elf.{most_file_bytes, Parts, image_of, head_at, code_at, data_at, elf_bytes, file_bytes}
use Rattle.qs_elf.specs.Framing.{IsSmall}
use Rattle.qs_elf.specs.Parts.{parts_of, parts_in, stated_head, stated_code, stated_data, elf_of, IsElfOf}
use Rattle.qs_elf.specs.declared.fault.ElfFault.{ElfFault}
use Rattle.qs_elf.specs.declared.fault.ElfFault.TheVariants.{Short, Length, Field, Image, Differs, NoMemory}
use Rattle.qs_elf.specs.declared.fault.StatedWord.TheVariants.{Entry, Code, Data}
use Rattle.qs_elf.specs.Faults.{difference_from, stated_bytes, field_fault, word_fault, image_fault, first_fault, or_else}
use Rattle.qs_elf.proofs.Laws.{Agrees, states, carried, length-elf, same_lists, no_difference, image_parts, parts_image, agree, fit}

-- ---- test after test

pub short : (file : List ℕ) → length file < head_at → first_fault file ≡ Some Short
unfolding first_fault
short file less = let test : nat_le head_at (length file) ≡ false = grind (arith, nat_tests) in rw test refl

-- the first test is passed
pub record IsLong (file : List ℕ) : Type 0 where
  pub long : nat_le head_at (length file) ≡ true

pub is_long : (file : List ℕ) → head_at ≤ length file → IsLong file
is_long file more = record { long = grind (arith, nat_tests) }

pub other_length : (file : List ℕ) → head_at ≤ length file → (length file ≡ stated_bytes file → ⊥) → first_fault file ≡ Some (Length (stated_bytes file))
unfolding first_fault
other_length file more differs = rw ((is_long file more).long, ne_eqb (length file) (stated_bytes file) differs) refl

pub behind_length : (file : List ℕ) → head_at ≤ length file → length file ≡ stated_bytes file → first_fault file ≡ or_else (field_fault file) (image_fault (parts_in file))
unfolding first_fault
behind_length file more same = rw ((is_long file more).long, eq-eqb (length file) (stated_bytes file) same) refl

pub field : (file : List ℕ) (at : ℕ) → head_at ≤ length file → length file ≡ stated_bytes file → difference_from 0 file (elf_bytes (parts_in file)) ≡ Some at → first_fault file ≡ Some (Field at)
field file at more same differs = behind_length file more same ∙ ap (λ (o : Option ℕ). or_else (option_map Field o) (image_fault (parts_in file))) differs

pub behind_fields : (file : List ℕ) → head_at ≤ length file → length file ≡ stated_bytes file → difference_from 0 file (elf_bytes (parts_in file)) ≡ None → first_fault file ≡ image_fault (parts_in file)
behind_fields file more same none = behind_length file more same ∙ ap (λ (o : Option ℕ). or_else (option_map Field o) (image_fault (parts_in file))) none

-- ---- what passes is an executable

image_passes : (o : Option ImageFault) (rest : Option ElfFault) → or_else (option_map Image o) rest ≡ None → (o ≡ None) × (rest ≡ None)
image_passes None rest e = (refl, e)
image_passes (Some fault) rest e = absurd cc

word_passes : (p : Parts) (a b c : Bool) → p.entry == word entry_word (image_of p) ≡ a → length p.code == 4 * code_count (image_of p) ≡ b → length p.data_bytes == byte_count (image_of p) ≡ c
    → (if a then (if b then (if c then None else Some (Differs Data)) else Some (Differs Code)) else Some (Differs Entry)) ≡ None → Agrees p
word_passes p true true true f g h none = record { entry = grind (arith, nat_tests); code = grind (arith, nat_tests); data_bytes = grind (arith, nat_tests) }
word_passes p true true false f g h none = absurd cc
word_passes p true false c f g h none = absurd cc
word_passes p false b c f g h none = absurd cc

pub accepted : (file : List ℕ) → length file ≡ stated_bytes file → length file ≡ length (elf_bytes (parts_in file)) → difference_from 0 file (elf_bytes (parts_in file)) ≡ None → image_fault (parts_in file) ≡ None → IsElfOf file (image_of (parts_in file))
accepted file same len none passes =
    let p = parts_in file in
    let both = image_passes (image.first_fault (image_of p)) (word_fault p) passes in
    let agrees = word_passes p _ _ _ refl refl refl both.1 in
    let whole : file ≡ elf_bytes p = same_lists 0 file (elf_bytes p) len none in
    record { accepted = both.0; made = whole ∙ ap elf_bytes (sym (parts_image p agrees)) }

-- ---- an executable passes

pub record Passes (file image : List ℕ) : Type 0 where
  pub long : head_at ≤ length file
  pub whole : length file ≡ stated_bytes file
  pub fields : difference_from 0 file (elf_bytes (parts_in file)) ≡ None
  pub words : image_fault (parts_in file) ≡ None
  pub same : image_of (parts_in file) ≡ image

words_pass : (p : Parts) → HasNoFault (image_of p) → Agrees p → image_fault p ≡ None
words_pass p none a =
    rw (none, eq-eqb p.entry (word entry_word (image_of p)) a.entry, eq-eqb (length p.code) (4 * code_count (image_of p)) a.code, eq-eqb (length p.data_bytes) (byte_count (image_of p)) a.data_bytes) refl

same_bytes : {h h' c c' d d' : ℕ} → h ≡ h' → c ≡ c' → d ≡ d' → file_bytes h c d ≡ file_bytes h' c' d'
same_bytes p q r = cc

passed_by : (image : List ℕ) → HasNoFault image → Passes (elf_of image) image
passed_by image none =
    let p = parts_of image in
    let fits = fit image none in
    let back : parts_in (elf_bytes p) ≡ p = carried p fits in
    let s = states p fits in
    let len = length-elf p in
    let whole : length (elf_bytes p) ≡ stated_bytes (elf_bytes p) = len ∙ sym (same_bytes s.head s.code s.data_bytes) in
    record {
      long = omega (arith, len);
      whole = whole;
      fields = ap (λ (q : Parts). difference_from 0 (elf_bytes p) (elf_bytes q)) back ∙ no_difference 0 (elf_bytes p);
      words = ap image_fault back ∙ words_pass p (subst HasNoFault (sym (image_parts image)) none) (agree image none);
      same = ap image_of back ∙ image_parts image;
    }

pub passes : (file image : List ℕ) → IsElfOf file image → Passes file image
passes file image is = subst (λ (f : List ℕ). Passes f image) (sym is.made) (passed_by image is.accepted)

-- a file that fails a test is no image's executable
pub none_fails : (file image : List ℕ) → IsElfOf file image → first_fault file ≡ None
none_fails file image is = let p = passes file image is in behind_fields file p.long p.whole p.fields ∙ p.words

-- what can't be another fault is want of memory
pub only_memory : (fault : ElfFault) → (fault ≢ NoMemory → ⊥) → fault ≡ NoMemory
only_memory NoMemory h = refl
only_memory Short h = absurd (h (λ e. absurd cc))
only_memory (Length n) h = absurd (h (λ e. absurd cc))
only_memory (Field at) h = absurd (h (λ e. absurd cc))
only_memory (Image fault) h = absurd (h (λ e. absurd cc))
only_memory (Differs word) h = absurd (h (λ e. absurd cc))

-- ---- sizes

-- a file whose length is the one that it states is as long as what its parts make
pub as_long : (file : List ℕ) → head_at ≤ length file → length file ≡ stated_bytes file → length file ≡ length (elf_bytes (parts_in file))
as_long file more same =
    let h = stated_head file in
    let c = stated_code file in
    let head = length-take-le h (drop head_at file) (omega (arith, length-drop head_at file)) in
    let code = length-take-le c (drop (code_at h) file) (omega (arith, length-drop (code_at h) file)) in
    let rest : length (drop (data_at h c) file) ≡ stated_data file = omega (arith, length-drop (data_at h c) file) in
    same ∙ sym (length-elf (parts_in file) ∙ same_bytes head code rest)

pub small_file : (file : List ℕ) → head_at ≤ length file → length file ≡ stated_bytes file → length file ≤ most_file_bytes → IsSmall (parts_in file)
small_file file more same most = let long = as_long file more same in let len = length-elf (parts_in file) in omega arith
