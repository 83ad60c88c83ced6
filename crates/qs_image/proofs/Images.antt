-- The bytes of an image are read, and as that image.
use Rattle.std.proofs.Common.{◌≡◌, ℕ, ◌+◌, ◌*◌, ◌/◌, ◌^◌, ◌<◌, ◌≤◌, true, List, [], ◌∷◌, ◌++◌, length, take, drop, All, sum, Some, None, refl, sym, ap, ◌∙◌, append_assoc, arith, le-leb, lt-ltb}
use Rattle.std.specs.Prelude.{codes, ◌||◌}
use Rattle.std.specs.Option.{option_map}
use Rattle.std.proofs.lemmas.Bool.{and_from, eq-eqb}
use Rattle.std.proofs.lemmas.List.{length-append, take_at, drop_at}
use Rattle.std.proofs.lemmas.List.Elements.{All-weaker}
use Rattle.std.proofs.lemmas.List.Sums.{list_all-from_AllPass}
use Rattle.std.proofs.Math.Nat.{mul-div_cancel_left, pow-le-pow_right}
use Rattle.qs_base.specs.Names.{is_name}
use Rattle.qs_image.specs.declared.fault.ImageFault.{ImageFault}
use Rattle.qs_image.specs.declared.fault.ImageFault.TheVariants.{Cost, Params}
use Rattle.qs_image.specs.declared.version.Version.{Version}
use Rattle.qs_image.specs.declared.version.Version.TheVariants.{First, Second}
use Rattle.qs_image.specs.Image.{Image, FunctionRecord, magic, HasParameters, IsAddress, IsWellFormed, IsImage, words_bytes, joined_names, header_words, image_bytes}
use Rattle.qs_image.specs.Bytes.{begins_as, version_of, record_bytes, table_bytes, word, words_of, records_of, lengths, lengths_of, code_count, byte_count, function_count, names_length, size, behind_header, table_of, behind_table, names_of, behind_names, code_of, data_of, image_from, image_of}
use Rattle.qs_image.specs.Faults.{are_names, is_address, are_addresses, cost_fault, parameters_fault, first_fault}
use Rattle.qs_image.proofs.Parts.{record_bytes-least}
use Rattle.qs_image.proofs.Words.{number-word_bytes, words-words_bytes}
use Rattle.qs_image.proofs.WritingLaws.{names_fit}
use Rattle.qs_image.proofs.Tables.{Says, Fits, table_from, length-table_from, records-table_from, lengths-table_from}
use Rattle.qs_image.proofs.Checks.{between-holds, address-holds, costs-hold, counts-hold, differ-hold, main-holds}
use Rattle.qs_image.proofs.Wholes.{Passes, no_fault}

length-words_bytes : (ws : List ℕ) → length (words_bytes ws) ≡ 4 * length ws
length-words_bytes [] = refl
length-words_bytes (w ∷ ws) = let rest = length-words_bytes ws in omega arith

address-lt : (count a : ℕ) → count ≤ 262144 → IsAddress count a → a < 2 ^ 32
address-lt count a most h = omega arith

can_say : (v : Version) (main_parameters : ℕ) (f : FunctionRecord) → HasParameters v main_parameters f → Says v f.parameters
can_say First main_parameters f none = none
can_say Second main_parameters f has = record { count = has.count; is = has.is; fits = omega (arith, has.most) }

all_fit : (image : Image) → IsWellFormed image → All (Fits image.version) image.functions
all_fit image w k d lt = record {
  name = names_fit image.functions w.names_length.1 k d lt;
  address = address-lt (length image.code) _ w.code_count.1 (w.addresses k d lt);
  cost = let h = w.costs k d lt in omega arith;
  parameters = can_say image.version image.parameters _ (w.counts k d lt);
}

-- ---- the bytes that an image begins with

-- the last of the four bytes of a version, '1' or '2'
abbrev digit : Version → ℕ
digit First = 49
digit Second = 50

abbrev begin : Version → List ℕ
begin v = 81 ∷ 83 ∷ 73 ∷ digit v ∷ []

begins : (v : Version) → magic v ≡ begin v
begins First = refl
begins Second = refl

begins_rightly : (v : Version) (rest : List ℕ) → (begins_as First (begin v ++ rest) || begins_as Second (begin v ++ rest)) ≡ true
begins_rightly First rest = refl
begins_rightly Second rest = refl

tells_version : (v : Version) (rest : List ℕ) → version_of (begin v ++ rest) ≡ v
unfolding version_of
tells_version First rest = refl
tells_version Second rest = refl

-- the bytes of an image, the first four each by itself
abbrev written_bytes : Image → List ℕ
written_bytes image = begin image.version ++ words_bytes (header_words image) ++ table_from image.functions ++ joined_names image.functions ++ words_bytes image.code ++ image.bytes

written_are : (image : Image) → image_bytes image ≡ written_bytes image
written_are image =
    ap (λ (first : List ℕ). first ++ words_bytes (header_words image) ++ table_from image.functions ++ joined_names image.functions ++ words_bytes image.code ++ image.bytes) (begins image.version)

-- the words of the header are what was written
record Header (image : Image) : Type 0 where
  version : version_of (written_bytes image) ≡ image.version
  code : code_count (written_bytes image) ≡ length image.code
  octets : byte_count (written_bytes image) ≡ length image.bytes
  functions : function_count (written_bytes image) ≡ length image.functions
  joined : names_length (written_bytes image) ≡ length (joined_names image.functions)
  entry : word 5 (written_bytes image) ≡ image.entry
  parameters : word 6 (written_bytes image) ≡ image.parameters
  unsigned_set : word 7 (written_bytes image) ≡ image.unsigned_set

header : (image : Image) → IsWellFormed image → Header image
header image w =
    let b = written_bytes image in
    record {
      version = tells_version image.version (drop 4 b);
      code = number-word_bytes (length image.code) (drop 8 b) (omega (arith, w.code_count));
      octets = number-word_bytes (length image.bytes) (drop 12 b) (omega (arith, w.byte_count));
      functions = number-word_bytes (length image.functions) (drop 16 b) (omega (arith, w.function_count));
      joined = number-word_bytes (length (joined_names image.functions)) (drop 20 b) (omega (arith, w.names_length));
      entry = number-word_bytes image.entry (drop 24 b) (address-lt (length image.code) image.entry w.code_count.1 w.entry);
      parameters = number-word_bytes image.parameters (drop 28 b) (omega (arith, w.parameters));
      unsigned_set = number-word_bytes image.unsigned_set (drop 32 b) (omega (arith, w.unsigned_set, pow-le-pow_right {n = 2} (omega arith) {i = image.parameters} {j = 8} w.parameters));
    }

cut : (rest front back : List ℕ) (k n : ℕ) → rest ≡ front ++ back → k ≡ n → length front ≡ n → (take k rest ≡ front) × (drop k rest ≡ back)
cut rest front back k n is same len = rw (is, same) (take_at front back n len, drop_at front back n len)

-- the sections are what was written
record Cut (image : Image) : Type 0 where
  table : table_of (written_bytes image) ≡ table_from image.functions
  names : names_of (written_bytes image) ≡ joined_names image.functions
  code : code_of (written_bytes image) ≡ words_bytes image.code
  octets : data_of (written_bytes image) ≡ image.bytes

-- the records have as many bytes as the header asks
same_table : (image : Image) → Header image → table_bytes (written_bytes image) ≡ record_bytes image.version * length image.functions
same_table image h =
    ap (λ (v : Version). record_bytes v * function_count (written_bytes image)) h.version ∙ ap (λ (k : ℕ). record_bytes image.version * k) h.functions

sections : (image : Image) → IsWellFormed image → Header image → Cut image
sections image w h =
    let b = written_bytes image in
    let t = table_from image.functions in
    let n = joined_names image.functions in
    let c = words_bytes image.code in
    let d = image.bytes in
    let rest : behind_header b ≡ t ++ (n ++ (c ++ d)) = append_assoc (t ++ n) c d ∙ append_assoc t n (c ++ d) in
    let first = cut (behind_header b) t (n ++ (c ++ d)) (table_bytes b) (record_bytes image.version * length image.functions) rest (same_table image h) (length-table_from image.version image.functions (all_fit image w)) in
    let second = cut (behind_table b) n (c ++ d) (names_length b) (length n) first.1 h.joined refl in
    let third = cut (behind_names b) c d (4 * code_count b) (4 * length image.code) second.1 (ap (λ (k : ℕ). 4 * k) h.code) (length-words_bytes image.code) in
    record { table = first.0; names = second.0; code = third.0; octets = third.1 }

-- the length of the whole
length-written : (image : Image) → IsWellFormed image → length (written_bytes image) ≡ 32 + record_bytes image.version * length image.functions + length (joined_names image.functions) + 4 * length image.code + length image.bytes
length-written image w =
    let t = table_from image.functions in
    let n = joined_names image.functions in
    let c = words_bytes image.code in
    let d = image.bytes in
    let table = length-table_from image.version image.functions (all_fit image w) in
    omega (arith, length-append (t ++ n ++ c) d, length-append (t ++ n) c, length-append t n, table, length-words_bytes image.code)

-- as many records as are written
written-count : (image : Image) → IsWellFormed image → length (table_from image.functions) / record_bytes image.version ≡ length image.functions
written-count image w =
    let some = record_bytes-least image.version in
    ap (λ (k : ℕ). k / record_bytes image.version) (length-table_from image.version image.functions (all_fit image w)) ∙ mul-div_cancel_left (length image.functions) (omega (arith, some))

same_image : {v v' : Version} {e p u e' p' u' : ℕ} {t n c d t' n' c' d' : List ℕ} → v ≡ v' → e ≡ e' → p ≡ p' → u ≡ u' → t ≡ t' → n ≡ n' → c ≡ c' → d ≡ d' → image_from v e p u t n c d ≡ image_from v' e' p' u' t' n' c' d'
same_image o p q r s t u v = cc

written : (image : Image) → IsWellFormed image → image_from image.version image.entry image.parameters image.unsigned_set (table_from image.functions) (joined_names image.functions) (words_bytes image.code) image.bytes ≡ image
written image w =
    let fs = image.functions in
    let m_is : length (words_bytes image.code) / 4 ≡ length image.code = omega (arith, length-words_bytes image.code) in
    let functions : records_of image.version (table_from fs) (joined_names fs) ≡ fs = rw (written-count image w) (records-table_from image.version fs (all_fit image w)) in
    let code : words_of (words_bytes image.code) ≡ image.code = rw m_is (words-words_bytes image.code w.words) in
    rw (functions, code) refl

says_image : (image : Image) → IsWellFormed image → image_of (written_bytes image) ≡ image
says_image image w =
    let h = header image w in
    let s = sections image w h in
    same_image h.version h.entry h.parameters h.unsigned_set s.table s.names s.code s.octets ∙ written image w

names_pass : (image : Image) → IsWellFormed image → are_names image.functions ≡ true
names_pass image w =
    let fs = image.functions in
    and_from _ _ (and_from _ _ (list_all-from_AllPass (λ f. is_name f.name) fs w.names) (differ-hold fs w.differ)) (main-holds (codes "main") fs w.main)

addresses_pass : (image : Image) → IsWellFormed image → are_addresses image ≡ true
addresses_pass image w =
    let fs = image.functions in
    let count = length image.code in
    let each = All-weaker (λ f. IsAddress count f.address) (λ f. is_address count f.address ≡ true) (λ f h. address-holds count f.address h) fs w.addresses in
    and_from _ _ (address-holds count image.entry w.entry) (list_all-from_AllPass (λ f. is_address count f.address) fs each)

costs_pass : (image : Image) → IsWellFormed image → cost_fault image.functions ≡ None
costs_pass image w = ap (option_map Cost) (costs-hold 0 image.functions w.costs)

counts_pass : (image : Image) → IsWellFormed image → parameters_fault image.parameters image.functions ≡ None
counts_pass image w = ap (option_map Params) (counts-hold image.version image.parameters 0 image.functions w.counts)

same_sum : {t s c d t' s' c' d' : ℕ} → t ≡ t' → s ≡ s' → c ≡ c' → d ≡ d' → 32 + t + s + 4 * c + d ≡ 32 + t' + s' + 4 * c' + d'
same_sum p q r s = omega arith

passes_image : (image : Image) → IsWellFormed image → Passes (written_bytes image)
passes_image image w =
    let b = written_bytes image in
    let h = header image w in
    let s = sections image w h in
    let says = says_image image w in
    let len = length-written image w in
    let same_size : size b ≡ length b = same_sum (same_table image h) h.joined h.code h.octets ∙ sym len in
    let t = table_from image.functions in
    let add_up : sum (lengths_of (version_of b) (table_of b)) ≡ names_length b =
    ap (λ (v : Version). sum (lengths_of v (table_of b))) h.version ∙ ap (λ (x : List ℕ). sum (lengths_of image.version x)) s.table
    ∙ ap (λ (k : ℕ). sum (lengths image.version k t)) (written-count image w) ∙ lengths-table_from image.version image.functions (all_fit image w) ∙ sym h.joined in
    record {
      long = le-leb 32 (length b) (omega (arith, len));
      magic = begins_rightly image.version (drop 4 b);
      code = rw h.code (between-holds 1 262144 (length image.code) w.code_count);
      octets = rw h.octets (le-leb _ _ w.byte_count);
      functions = rw h.functions (between-holds 1 512 (length image.functions) w.function_count);
      joined = rw h.joined (between-holds 1 1048576 (length (joined_names image.functions)) w.names_length);
      parameters = rw h.parameters (le-leb _ _ w.parameters);
      unsigned_set = rw (h.parameters, h.unsigned_set) (lt-ltb _ _ w.unsigned_set);
      enough = le-leb (size b) (length b) (omega (arith, same_size));
      no_more = le-leb (length b) (size b) (omega (arith, same_size));
      names = and_from _ _ (eq-eqb _ _ add_up) (ap (λ (i : Image). are_names i.functions) says ∙ names_pass image w);
      addresses = ap are_addresses says ∙ addresses_pass image w;
      costs = ap (λ (i : Image). cost_fault i.functions) says ∙ costs_pass image w;
      counts = ap (λ (i : Image). parameters_fault i.parameters i.functions) says ∙ counts_pass image w;
    }

-- the bytes of an image pass each test, and say that image
pub reads : (bytes : List ℕ) (image : Image) → IsImage bytes image → (first_fault bytes ≡ None) × (image_of bytes ≡ image)
reads bytes image h =
    let read : bytes ≡ written_bytes image = h.read ∙ written_are image in
    let passes : first_fault bytes ≡ None = rw read (no_fault (written_bytes image) (passes_image image h.well_formed)) in
    let says : image_of bytes ≡ image = ap image_of read ∙ says_image image h.well_formed in
    (passes, says)

-- bytes are those of one image at most
pub one_image : (bytes : List ℕ) (a b : Image) → IsImage bytes a → IsImage bytes b → a ≡ b
one_image bytes a b p q = sym (reads bytes a p).1 ∙ (reads bytes b q).1

-- bytes that fail a test are no image's
pub no_image : (bytes : List ℕ) (fault : ImageFault) (image : Image) → first_fault bytes ≡ Some fault → IsImage bytes image → ⊥
no_image bytes fault image fails is = let passes = (reads bytes image is).0 in absurd cc
