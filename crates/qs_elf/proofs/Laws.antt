-- What a file carries is what it was made from, and an image's parts are the image.
use Rattle.std.proofs.Common.{◌≡◌, ℕ, ◌+◌, ◌-◌, ◌*◌, ◌/◌, ◌^◌, ◌<◌, ◌≤◌, Bool, true, false, List, [], ◌∷◌, ◌++◌, length, take, drop, replicate, Some, None, refl, sym, ◌∙◌, append_assoc, arith}
use Rattle.std.specs.Prelude.{◌==◌, if◌then◌else◌}
use Rattle.std.proofs.lemmas.Bool.{and_parts, eq-eqb, eqb-true}
use Rattle.std.proofs.lemmas.Bool.Decides.{nat_tests}
use Rattle.std.proofs.lemmas.List.{length-append, length-replicate, length-drop, length-take, length-take-le, take_at, drop_at, take-append-drop}
use Rattle.qs_image.specs.Bytes.{word, entry_word, code_count, byte_count, function_count, names_length, table_bytes, size, behind_names, code_of, image_of}
use Rattle.qs_image.specs.Faults.{HasNoFault, is_address}
use Rattle.qs_image.proofs.Checks.{between-means, address-means}
use Rattle.qs_image.proofs.Parts.{length-words, table_bytes-most}
use Rattle.qs_image.proofs.Words.{number-word_bytes}
use Rattle.qs_image.proofs.Wholes.{passes}
use Rattle.qs_elf.specs.Elf as elf
use Rattle.qs_elf.specs.Framing.{IsSmall}
use Rattle.qs_image.specs.Image.{words_bytes}
use Rattle.qs_elf.specs.Elf.{most_file_bytes, Parts, note_bytes, code_at, data_at, file_bytes, segment_words, code_segment, data_segment, note_segment, segments, front, behind_code, behind_head, elf_bytes}
use Rattle.qs_elf.specs.Parts.{head_bytes, parts_of, elf_of, stated_entry, stated_head, stated_code, stated_data, parts_in}
use Rattle.qs_elf.specs.Faults.{difference_from}

-- ---- from parts to a file and back

-- the words that the file states
pub record Fits (p : Parts) : Type 0 where
  pub entry : p.entry < 2 ^ 32
  pub head : length p.head < 2 ^ 32
  pub code : length p.code < 2 ^ 32
  pub data_bytes : length p.data_bytes < 2 ^ 32

pub record States (file : List ℕ) (p : Parts) : Type 0 where
  pub entry : stated_entry file ≡ p.entry
  pub head : stated_head file ≡ length p.head
  pub code : stated_code file ≡ length p.code
  pub data_bytes : stated_data file ≡ length p.data_bytes

pub states : (p : Parts) → Fits p → States (elf_bytes p) p
states p fits =
    let file = elf_bytes p in
    record {
      entry = number-word_bytes p.entry (drop 28 file) fits.entry;
      head = number-word_bytes (length p.head) (drop 156 file) fits.head;
      code = number-word_bytes (length p.code) (drop 72 file) fits.code;
      data_bytes = number-word_bytes (length p.data_bytes) (drop 104 file) fits.data_bytes;
    }

-- the front as one list, of which only the length is known
cut_front : (h c : List ℕ) (k : ℕ) → 164 ≡ k → (f : List ℕ) → length f ≡ 164 → (drop k (f ++ (h ++ c)) ≡ h ++ c)
cut_front h c k is f len = drop_at f (h ++ c) k (len ∙ is)

pub length-elf : (p : Parts) → length (elf_bytes p) ≡ file_bytes (length p.head) (length p.code) (length p.data_bytes)
length-elf p =
    let h = length p.head in
    let c = length p.code in
    let gap = code_at h - (164 + h) in
    let second = data_at h c - (code_at h + c) in
    let f = front p.entry h c (length p.data_bytes) in
    let a = length-append f (p.head ++ behind_head p) in
    let b = length-append p.head (behind_head p) in
    let d = length-append (replicate gap 0) (p.code ++ behind_code p) in
    let e = length-append p.code (behind_code p) in
    let g = length-append (replicate second 0) p.data_bytes in
    let i = length-replicate {A = ℕ} gap 0 in
    let j = length-replicate {A = ℕ} second 0 in
    let k : length f ≡ 164 = refl in
    omega arith

-- what is behind the head of a file, and behind its code
code_behind : (f h z c : List ℕ) (k : ℕ) → length f + length h + length z ≡ k → (rest : List ℕ) → drop k (f ++ (h ++ (z ++ (c ++ rest)))) ≡ c ++ rest
code_behind f h z c k is rest =
    let joined : f ++ (h ++ (z ++ (c ++ rest))) ≡ (f ++ h ++ z) ++ (c ++ rest) = sym (append_assoc (f ++ h) z (c ++ rest) ∙ append_assoc f h (z ++ (c ++ rest))) in
    let len : length (f ++ h ++ z) ≡ k = omega (arith, length-append (f ++ h) z, length-append f h) in
    rw joined (drop_at (f ++ h ++ z) (c ++ rest) k len)

data_behind : (f h z c y : List ℕ) (k : ℕ) → length f + length h + length z + length c + length y ≡ k → (rest : List ℕ) → drop k (f ++ (h ++ (z ++ (c ++ (y ++ rest))))) ≡ rest
data_behind f h z c y k is rest =
    let joined : f ++ (h ++ (z ++ (c ++ (y ++ rest)))) ≡ (f ++ h ++ z ++ c ++ y) ++ rest =
    sym (append_assoc (f ++ h ++ z ++ c) y rest ∙ append_assoc (f ++ h ++ z) c (y ++ rest) ∙ append_assoc (f ++ h) z (c ++ (y ++ rest)) ∙ append_assoc f h (z ++ (c ++ (y ++ rest)))) in
    let len : length (f ++ h ++ z ++ c ++ y) ≡ k = omega (arith, length-append (f ++ h ++ z ++ c) y, length-append (f ++ h ++ z) c, length-append (f ++ h) z, length-append f h) in
    rw joined (drop_at (f ++ h ++ z ++ c ++ y) rest k len)

abbrev made_of : ℕ → List ℕ → List ℕ → List ℕ → Parts
made_of e h c d = record { entry = e; head = h; code = c; data_bytes = d }

same_parts : {e e' : ℕ} {h h' c c' d d' : List ℕ} → e ≡ e' → h ≡ h' → c ≡ c' → d ≡ d' → made_of e h c d ≡ made_of e' h' c' d'
same_parts p q r s = cc

pub carried : (p : Parts) → Fits p → parts_in (elf_bytes p) ≡ p
carried p fits =
    let s = states p fits in
    let h = length p.head in
    let c = length p.code in
    let f = front p.entry h c (length p.data_bytes) in
    let z = replicate (code_at h - (164 + h)) 0 in
    let y = replicate (data_at h c - (code_at h + c)) 0 in
    let f_is : length f ≡ 164 = refl in
    let z_is = length-replicate {A = ℕ} (code_at h - (164 + h)) 0 in
    let y_is = length-replicate {A = ℕ} (data_at h c - (code_at h + c)) 0 in
    let head : take h (drop 164 (elf_bytes p)) ≡ p.head = rw (drop_at f (p.head ++ behind_head p) 164 refl) (take_at p.head (behind_head p) h refl) in
    let code_from = code_behind f p.head z p.code (code_at h) (omega arith) (behind_code p) in
    let code : take c (drop (code_at h) (elf_bytes p)) ≡ p.code = rw code_from (take_at p.code (behind_code p) c refl) in
    let data_from = data_behind f p.head z p.code y (data_at h c) (omega arith) p.data_bytes in
    rw (s.entry, s.head, s.code, head, code, data_from) refl

-- ---- from an image to its parts and back

pub record Sizes (image : List ℕ) : Type 0 where
  pub whole : length image ≡ size image
  pub code : code_count image ≤ 262144
  pub octets : byte_count image ≤ 16777216
  pub table : table_bytes image ≤ 8192
  pub names : names_length image ≤ 1048576
  pub entry : word entry_word image < 2 ^ 32

pub sizes : (image : List ℕ) → HasNoFault image → Sizes image
sizes image none =
    let p = passes image none in
    let enough : size image ≤ length image = let h = p.enough in grind (arith, nat_tests) in
    let no_more : length image ≤ size image = let h = p.no_more in grind (arith, nat_tests) in
    let code = between-means 1 262144 (code_count image) p.code in
    let functions = between-means 1 512 (function_count image) p.functions in
    let table = table_bytes-most image in
    let names = between-means 1 1048576 (names_length image) p.joined in
    let octets : byte_count image ≤ 16777216 = let h = p.octets in grind (arith, nat_tests) in
    let count = length (image_of image).code in
    let count_is = length-words (length (code_of image) / 4) (code_of image) in
    let taken = length-take (4 * code_count image) (behind_names image) in
    let entry = address-means count (word 5 image) (and_parts (is_address count (word 5 image)) _ p.addresses).0 in
    record { whole = omega arith; code = code.1; octets = octets; table = omega (arith, functions, table); names = names.1; entry = omega arith }

-- what the code and the data of an image take of it
pub room : (image : List ℕ) → HasNoFault image → (32 ≤ length image) × (4 * code_count image + byte_count image ≤ length image)
room image none = let s = sizes image none in (omega (arith, s.whole), omega (arith, s.whole))

pub image_parts : (image : List ℕ) → elf.image_of (parts_of image) ≡ image
image_parts image =
    let k = head_bytes image in
    rw (take-append-drop (4 * code_count image) (drop k image)) (take-append-drop k image)

pub record Agrees (p : Parts) : Type 0 where
  pub entry : p.entry ≡ word entry_word (elf.image_of p)
  pub code : length p.code ≡ 4 * code_count (elf.image_of p)
  pub data_bytes : length p.data_bytes ≡ byte_count (elf.image_of p)

pub parts_image : (p : Parts) → Agrees p → parts_of (elf.image_of p) ≡ p
parts_image p same =
    let image = elf.image_of p in
    let a = length-append p.head (p.code ++ p.data_bytes) in
    let b = length-append p.code p.data_bytes in
    let head_is : head_bytes image ≡ length p.head = omega (arith, same.code, same.data_bytes) in
    let head : take (head_bytes image) image ≡ p.head = rw head_is (take_at p.head (p.code ++ p.data_bytes) (length p.head) refl) in
    let rest : drop (head_bytes image) image ≡ p.code ++ p.data_bytes = rw head_is (drop_at p.head (p.code ++ p.data_bytes) (length p.head) refl) in
    let code : take (4 * code_count image) (drop (head_bytes image) image) ≡ p.code = rw (rest, ← same.code) (take_at p.code p.data_bytes (length p.code) refl) in
    let octets : drop (4 * code_count image) (drop (head_bytes image) image) ≡ p.data_bytes = rw (rest, ← same.code) (drop_at p.code p.data_bytes (length p.code) refl) in
    same_parts (sym same.entry) head code octets

-- the parts of an image agree with it, and fit
pub agree : (image : List ℕ) → HasNoFault image → Agrees (parts_of image)
agree image none =
    let s = sizes image none in
    let back = image_parts image in
    let k = head_bytes image in
    let a = length-drop k image in
    record {
      entry = rw back refl;
      code = rw back (length-take-le (4 * code_count image) (drop k image) (omega (arith, s.whole)));
      data_bytes = rw back (omega (arith, s.whole, length-drop (4 * code_count image) (drop k image)));
    }

pub fit : (image : List ℕ) → HasNoFault image → Fits (parts_of image)
fit image none =
    let s = sizes image none in
    let g = agree image none in
    let back = image_parts image in
    let k = head_bytes image in
    record {
      entry = s.entry;
      head = omega (arith, length-take k image, s.whole, s.code, s.octets, s.table, s.names);
      code = omega (arith, length-take (4 * code_count image) (drop k image), s.code);
      data_bytes = omega (arith, s.whole, length-drop (4 * code_count image) (drop k image), length-drop k image, s.octets);
    }

-- the file of an image has no more bytes than one that is read
pub within : (image : List ℕ) → HasNoFault image → length (elf_of image) ≤ most_file_bytes
within image none =
    let s = sizes image none in
    let k = head_bytes image in
    let len = length-elf (parts_of image) in
    let head = length-take k image in
    let code = length-take (4 * code_count image) (drop k image) in
    let rest = length-drop (4 * code_count image) (drop k image) in
    let behind = length-drop k image in
    let whole = s.whole in
    omega (arith, s.code, s.octets, s.table, s.names)

pub small : (image : List ℕ) → HasNoFault image → IsSmall (parts_of image)
small image none = omega (arith, length-elf (parts_of image), within image none)

-- what is put in three steps
pub same_appended : (old one two new a b c : List ℕ) → one ≡ old ++ a → two ≡ one ++ b → new ≡ two ++ c → new ≡ old ++ (a ++ (b ++ c))
same_appended old one two new a b c p q r = rw (r, q, p) (append_assoc (old ++ a) b c ∙ append_assoc old a (b ++ c))

-- the headers of the segments with these offsets and this size of the note
pub same_segments :
    (old one two new : List ℕ) (h k d code data_place note : ℕ) → code ≡ code_at h → data_place ≡ data_at h k → note ≡ note_bytes h
    → one ≡ old ++ words_bytes (segment_words (record (code_segment h k) { offset = code }))
    → two ≡ one ++ words_bytes (segment_words (record (data_segment h k d) { offset = data_place }))
    → new ≡ two ++ words_bytes (segment_words (record (note_segment h) { size = note }))
    → new ≡ old ++ segments h k d
same_segments old one two new h k d code data_place note e f g p q r = same_appended old one two new _ _ _ (rw e at p) (rw f at q) (rw g at r)

-- ---- where two lists differ

same_first : (at x y : ℕ) (a b : List ℕ) (same : Bool) → (x == y) ≡ same → (difference_from (at + 1) a b ≡ None → a ≡ b) → (if same then difference_from (at + 1) a b else Some at) ≡ None → x ∷ a ≡ y ∷ b
same_first at x y a b true is rest none = let e = eqb-true x y is in let f = rest none in cc
same_first at x y a b false is rest none = absurd cc

pub same_lists : (at : ℕ) (a b : List ℕ) → length a ≡ length b → difference_from at a b ≡ None → a ≡ b
same_lists at [] [] len none = refl
same_lists at [] (y ∷ b) len none = absurd (omega arith)
same_lists at (x ∷ a) [] len none = absurd cc
same_lists at (x ∷ a) (y ∷ b) len none = same_first at x y a b (x == y) refl (same_lists (at + 1) a b (omega arith)) none

pub no_difference : (at : ℕ) (a : List ℕ) → difference_from at a a ≡ None
no_difference at [] = refl
no_difference at (x ∷ a) = rw (eq-eqb x x refl) (no_difference (at + 1) a)
