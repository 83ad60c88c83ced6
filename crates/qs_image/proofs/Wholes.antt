-- The tests of reading pass exactly where the bytes are an image, and then it is the one that they say.
use Rattle.std.proofs.Common.{◌≡◌, ℕ, ◌*◌, ◌/◌, ◌^◌, ◌<◌, ◌≤◌, Bool, true, false, List, [], ◌∷◌, ◌++◌, length, take, drop, sum, Option, Some, None, refl, sym, ap, ◌∙◌, append_assoc, arith}
use Rattle.std.specs.Prelude.{not, ◌==◌, ◌&&◌, ◌||◌, if◌then◌else◌, nat_le, nat_lt, bytes_eq, codes}
use Rattle.std.specs.List.{list_any, list_all, position_from}
use Rattle.std.specs.Option.{option_map}
use Rattle.std.proofs.lemmas.Bool.{and_parts, eqb-true}
use Rattle.std.proofs.lemmas.Bool.Decides.{nat_tests}
use Rattle.std.proofs.lemmas.Slice.Eq.{bytes_eq-Decides}
use Rattle.std.proofs.lemmas.List.{length-drop, length-take-le, drop-drop, take-append-drop}
use Rattle.std.proofs.lemmas.List.Elements.{All-weaker}
use Rattle.std.proofs.lemmas.List.Sums.{AllPass-from_list_all}
use Rattle.qs_base.specs.Bytes.{is_between}
use Rattle.qs_base.specs.Names.{is_name}
use Rattle.std.proofs.Math.Nat.{mul-div_cancel_left}
use Rattle.std.proofs.Math.Seq.{take-length}
use Rattle.qs_image.specs.declared.fault.ImageFault.{ImageFault}
use Rattle.qs_image.specs.declared.fault.ImageFault.TheVariants.{Cost, Params}
use Rattle.qs_image.specs.declared.version.Version.TheVariants.{First, Second}
use Rattle.qs_image.specs.Image.{Image, magic, IsAddress, IsWellFormed, IsImage, words_bytes, joined_names, header_words, image_bytes}
use Rattle.qs_image.specs.Bytes.{begins_as, version_of, record_bytes, table_bytes, word, words, lengths_of, code_count, byte_count, function_count, names_length, size, behind_header, table_of, behind_table, names_of, behind_names, code_of, data_of, image_of}
use Rattle.qs_image.specs.Faults.{all_differ, are_names, is_address, are_addresses, is_cost, cost_fault, has_parameters, parameters_fault, unless, first_of, header_tests, size_tests, part_tests, first_fault}
use Rattle.qs_image.proofs.Parts.{record_bytes-least, length-words, length-records}
use Rattle.qs_image.proofs.Words.{IsBytes, IsBytes-drop, words_bytes-words, words-at, words-lt, IsBytes-take, All-from_IsBytes}
use Rattle.qs_image.proofs.Tables.{table_from, whole, records-say}
use Rattle.qs_image.proofs.Checks.{between-means, address-means, costs-mean, counts-mean, differ-mean, main-means}

-- every test passes
pub record Passes (bytes : List ℕ) : Type 0 where
  pub long : nat_le 32 (length bytes) ≡ true
  pub magic : (begins_as First bytes || begins_as Second bytes) ≡ true
  pub code : is_between 1 262144 (code_count bytes) ≡ true
  pub octets : nat_le (byte_count bytes) 16777216 ≡ true
  pub functions : is_between 1 512 (function_count bytes) ≡ true
  pub joined : is_between 1 1048576 (names_length bytes) ≡ true
  pub parameters : nat_le (word 6 bytes) 8 ≡ true
  pub unsigned_set : nat_lt (word 7 bytes) (2 ^ word 6 bytes) ≡ true
  pub enough : nat_le (size bytes) (length bytes) ≡ true
  pub no_more : nat_le (length bytes) (size bytes) ≡ true
  pub names : (sum (lengths_of (version_of bytes) (table_of bytes)) == names_length bytes && are_names (image_of bytes).functions) ≡ true
  pub addresses : are_addresses (image_of bytes) ≡ true
  pub costs : cost_fault (image_of bytes).functions ≡ None
  pub counts : parameters_fault (word 6 bytes) (image_of bytes).functions ≡ None

first : (o : Option ImageFault) (os : List (Option ImageFault)) → first_of (o ∷ os) ≡ None → (o ≡ None) × (first_of os ≡ None)
first None os e = (refl, e)
first (Some fault) os e = absurd cc

passed : (test : Bool) (fault : ImageFault) (os : List (Option ImageFault)) → first_of (unless test fault ∷ os) ≡ None → (test ≡ true) × (first_of os ≡ None)
passed true fault os e = (refl, e)
passed false fault os e = absurd cc

pub passes : (bytes : List ℕ) → first_fault bytes ≡ None → Passes bytes
unfolding first_fault
passes bytes e =
    let a = passed _ _ _ e in
    let b = passed _ _ _ a.1 in
    let c = passed _ _ _ b.1 in
    let d = passed _ _ _ c.1 in
    let f = passed _ _ _ d.1 in
    let g = passed _ _ _ f.1 in
    let h = passed _ _ _ g.1 in
    let i = passed _ _ _ h.1 in
    let j = passed _ _ _ i.1 in
    let k = passed _ _ _ j.1 in
    let l = passed _ _ _ k.1 in
    let m = passed _ _ _ l.1 in
    let n = first _ _ m.1 in
    let o = first _ _ n.1 in
    record { long = a.0; magic = b.0; code = c.0; octets = d.0; functions = f.0; joined = g.0; parameters = h.0; unsigned_set = i.0; enough = j.0; no_more = k.0; names = l.0; addresses = m.0; costs = n.0; counts = o.0 }

pub no_fault : (bytes : List ℕ) → Passes bytes → first_fault bytes ≡ None
unfolding first_fault
no_fault bytes p =
    rw (p.long, p.magic, p.code, p.octets, p.functions, p.joined, p.parameters, p.unsigned_set, p.enough, p.no_more, p.names, p.addresses, p.costs, p.counts) refl

-- ---- what passes is an image

nowhere : (fault : ℕ → ImageFault) (place : Option ℕ) → option_map fault place ≡ None → place ≡ None
nowhere fault None e = refl
nowhere fault (Some i) e = absurd cc

-- the bytes begin as the version that they say
magic_is : (bytes : List ℕ) → (begins_as First bytes || begins_as Second bytes) ≡ true → magic (version_of bytes) ≡ take 4 bytes
unfolding version_of
magic_is bytes e = by (begins_as First bytes) refl e
  where
    by : (first : Bool) → begins_as First bytes ≡ first → (first || begins_as Second bytes) ≡ true → magic (if first then First else Second) ≡ take 4 bytes
    by true is e = (bytes_eq-Decides (magic First) (take 4 bytes)).0 is
    by false is e = (bytes_eq-Decides (magic Second) (take 4 bytes)).0 e

-- the sections are as long as the counts say
record Sized (bytes : List ℕ) : Type 0 where
  table : length (table_of bytes) ≡ table_bytes bytes
  names : length (names_of bytes) ≡ names_length bytes
  code : length (code_of bytes) ≡ 4 * code_count bytes
  octets : length (data_of bytes) ≡ byte_count bytes

sized : (bytes : List ℕ) → length bytes ≡ size bytes → Sized bytes
sized bytes is =
    let a = length-drop 32 bytes in
    let b = length-drop (table_bytes bytes) (behind_header bytes) in
    let c = length-drop (names_length bytes) (behind_table bytes) in
    let d = length-drop (4 * code_count bytes) (behind_names bytes) in
    record {
      table = length-take-le (table_bytes bytes) (behind_header bytes) (omega arith);
      names = length-take-le (names_length bytes) (behind_table bytes) (omega arith);
      code = length-take-le (4 * code_count bytes) (behind_names bytes) (omega arith);
      octets = omega arith;
    }

-- the records are as many as the header says
table-count : (bytes : List ℕ) → Sized bytes → length (table_of bytes) / record_bytes (version_of bytes) ≡ function_count bytes
table-count bytes s =
    let v = version_of bytes in
    let some = record_bytes-least v in
    ap (λ (k : ℕ). k / record_bytes v) s.table ∙ mul-div_cancel_left (function_count bytes) (omega (arith, some))

rejoin : (x rest : List ℕ) (k : ℕ) → (x ++ take k rest) ++ drop k rest ≡ x ++ rest
rejoin x rest k = append_assoc x (take k rest) (drop k rest) ∙ ap (λ (y : List ℕ). x ++ y) (take-append-drop k rest)

-- the seven words behind the first four bytes
seven : (bytes : List ℕ) → words 7 (drop 4 bytes) ≡ word 1 bytes ∷ word 2 bytes ∷ word 3 bytes ∷ word 4 bytes ∷ word 5 bytes ∷ word 6 bytes ∷ word 7 bytes ∷ []
unfolding words
seven bytes =
    words-at 6 1 bytes
    ∙ ap (λ (x : List ℕ). word 1 bytes ∷ x) (words-at 5 2 bytes)
    ∙ ap (λ (x : List ℕ). word 1 bytes ∷ word 2 bytes ∷ x) (words-at 4 3 bytes)
    ∙ ap (λ (x : List ℕ). word 1 bytes ∷ word 2 bytes ∷ word 3 bytes ∷ x) (words-at 3 4 bytes)
    ∙ ap (λ (x : List ℕ). word 1 bytes ∷ word 2 bytes ∷ word 3 bytes ∷ word 4 bytes ∷ x) (words-at 2 5 bytes)
    ∙ ap (λ (x : List ℕ). word 1 bytes ∷ word 2 bytes ∷ word 3 bytes ∷ word 4 bytes ∷ word 5 bytes ∷ x) (words-at 1 6 bytes)
    ∙ ap (λ (x : List ℕ). word 1 bytes ∷ word 2 bytes ∷ word 3 bytes ∷ word 4 bytes ∷ word 5 bytes ∷ word 6 bytes ∷ x) (words-at 0 7 bytes)

-- six parts, one after the other
abbrev joined : List ℕ → List ℕ → List ℕ → List ℕ → List ℕ → List ℕ → List ℕ
joined a b c d e f = a ++ b ++ c ++ d ++ e ++ f

same_joined : {a b c d e f a' b' c' d' e' f' : List ℕ} → a ≡ a' → b ≡ b' → c ≡ c' → d ≡ d' → e ≡ e' → f ≡ f' → joined a b c d e f ≡ joined a' b' c' d' e' f'
same_joined p q r s t u = cc

-- the sections are the bytes
all_of : (bytes : List ℕ) → joined (take 4 bytes) (take 28 (drop 4 bytes)) (table_of bytes) (names_of bytes) (code_of bytes) (data_of bytes) ≡ bytes
all_of bytes =
    let header : take 4 bytes ++ take 28 (drop 4 bytes) ++ behind_header bytes ≡ bytes =
    ap (λ (x : List ℕ). take 4 bytes ++ take 28 (drop 4 bytes) ++ x) (sym (drop-drop 28 4 bytes))
    ∙ rejoin (take 4 bytes) (drop 4 bytes) 28 ∙ take-append-drop 4 bytes in
    let front = take 4 bytes ++ take 28 (drop 4 bytes) in
    rejoin (front ++ table_of bytes ++ names_of bytes) (behind_names bytes) (4 * code_count bytes)
    ∙ rejoin (front ++ table_of bytes) (behind_table bytes) (names_length bytes)
    ∙ rejoin front (behind_header bytes) (table_bytes bytes)
    ∙ header

-- the sections consist of bytes
table-fits : (bytes : List ℕ) → IsBytes bytes → IsBytes (table_of bytes)
table-fits bytes fits = IsBytes-take (table_bytes bytes) (behind_header bytes) (IsBytes-drop 32 bytes fits)

behind_names-fit : (bytes : List ℕ) → IsBytes bytes → IsBytes (behind_names bytes)
behind_names-fit bytes fits =
    IsBytes-drop (names_length bytes) (behind_table bytes) (IsBytes-drop (table_bytes bytes) (behind_header bytes) (IsBytes-drop 32 bytes fits))

-- the counts are those of the parts
record Counted (bytes : List ℕ) : Type 0 where
  code : length (image_of bytes).code ≡ code_count bytes
  octets : length (image_of bytes).bytes ≡ byte_count bytes
  functions : length (image_of bytes).functions ≡ function_count bytes
  joined : length (joined_names (image_of bytes).functions) ≡ names_length bytes
  table : table_from (image_of bytes).functions ≡ table_of bytes
  names : joined_names (image_of bytes).functions ≡ names_of bytes
  words : words_bytes (image_of bytes).code ≡ code_of bytes

counted : (bytes : List ℕ) → length bytes ≡ size bytes → IsBytes bytes → sum (lengths_of (version_of bytes) (table_of bytes)) ≡ names_length bytes → Counted bytes
counted bytes is fits add_up =
    let s = sized bytes is in
    let v = version_of bytes in
    let n = length (table_of bytes) / record_bytes v in
    let m = length (code_of bytes) / 4 in
    let code_fits = IsBytes-take (4 * code_count bytes) (behind_names bytes) (behind_names-fit bytes fits) in
    let n_is = table-count bytes s in
    let records_whole = whole v n (table_of bytes) (names_of bytes) (s.table ∙ ap (λ (k : ℕ). record_bytes v * k) (sym n_is)) (table-fits bytes fits) (add_up ∙ sym s.names) in
    let code_whole : words_bytes (words m (code_of bytes)) ≡ code_of bytes =
    words_bytes-words m (code_of bytes) (omega arith) code_fits ∙ (let e : 4 * m ≡ length (code_of bytes) = omega arith in rw e (take-length (code_of bytes))) in
    let m_is : m ≡ code_count bytes = omega arith in
    record {
      code = length-words m (code_of bytes) ∙ m_is;
      octets = s.octets;
      functions = length-records v n (table_of bytes) (names_of bytes) ∙ n_is;
      joined = ap length records_whole.same_names ∙ s.names;
      table = records_whole.same_table;
      names = records_whole.same_names;
      words = code_whole;
    }

same_seven : {a b c d a' b' c' d' : ℕ} (e f g : ℕ) → a ≡ a' → b ≡ b' → c ≡ c' → d ≡ d' → a ∷ b ∷ c ∷ d ∷ e ∷ f ∷ g ∷ [] ≡ a' ∷ b' ∷ c' ∷ d' ∷ e ∷ f ∷ g ∷ []
same_seven e f g p q r s = cc

says : (bytes : List ℕ) → Counted bytes → IsBytes bytes → 32 ≤ length bytes → magic (version_of bytes) ≡ take 4 bytes → bytes ≡ image_bytes (image_of bytes)
says bytes c fits long begins =
    let header : words_bytes (header_words (image_of bytes)) ≡ take 28 (drop 4 bytes) =
    ap words_bytes (same_seven (word 5 bytes) (word 6 bytes) (word 7 bytes) c.code c.octets c.functions c.joined ∙ sym (seven bytes))
    ∙ words_bytes-words 7 (drop 4 bytes) (omega (arith, length-drop 4 bytes)) (IsBytes-drop 4 bytes fits) in
    sym (same_joined begins header c.table c.names c.words refl ∙ all_of bytes)

keeps : (bytes : List ℕ) → Passes bytes → Counted bytes → IsBytes bytes → IsWellFormed (image_of bytes)
keeps bytes p c fits =
    let fs = (image_of bytes).functions in
    let count = length (image_of bytes).code in
    let code = between-means 1 262144 (code_count bytes) p.code in
    let functions = between-means 1 512 (function_count bytes) p.functions in
    let joined = between-means 1 1048576 (names_length bytes) p.joined in
    let octets : byte_count bytes ≤ 16777216 = let h = p.octets in grind (arith, nat_tests) in
    let parameters : word 6 bytes ≤ 8 = let h = p.parameters in grind (arith, nat_tests) in
    let unsigned_set : word 7 bytes < 2 ^ word 6 bytes = let h = p.unsigned_set in grind (arith, nat_tests) in
    let good = (and_parts (sum (lengths_of (version_of bytes) (table_of bytes)) == names_length bytes) (are_names fs) p.names).1 in
    let outer = and_parts (list_all (λ f. is_name f.name) fs && all_differ fs) (list_any (λ f. bytes_eq f.name (codes "main")) fs) good in
    let inner = and_parts (list_all (λ f. is_name f.name) fs) (all_differ fs) outer.0 in
    let places = and_parts (is_address count (word 5 bytes)) (list_all (λ f. is_address count f.address) fs) p.addresses in
    record {
      code_count = (omega (arith, c.code), omega (arith, c.code));
      byte_count = omega (arith, c.octets);
      function_count = (omega (arith, c.functions), omega (arith, c.functions));
      names_length = (omega (arith, c.joined), omega (arith, c.joined));
      parameters = parameters;
      unsigned_set = unsigned_set;
      names = AllPass-from_list_all (λ f. is_name f.name) fs inner.0;
      differ = differ-mean fs inner.1;
      main = main-means (codes "main") fs outer.1;
      entry = address-means count (word 5 bytes) places.0;
      addresses = All-weaker (λ f. is_address count f.address ≡ true) (λ f. IsAddress count f.address) (λ f h. address-means count f.address h) fs (AllPass-from_list_all (λ f. is_address count f.address) fs places.1);
      costs = costs-mean 0 fs (nowhere Cost (position_from (λ f. not (is_cost f.cost)) 0 fs) p.costs);
      counts = counts-mean (version_of bytes) (word 6 bytes) 0 fs (records-say (version_of bytes) (length (table_of bytes) / record_bytes (version_of bytes)) (table_of bytes) (names_of bytes) (table-fits bytes fits)) (nowhere Params (position_from (λ f. not (has_parameters (word 6 bytes) f)) 0 fs) p.counts);
      words = words-lt (length (code_of bytes) / 4) (code_of bytes) (IsBytes-take (4 * code_count bytes) (behind_names bytes) (behind_names-fit bytes fits));
      octets = All-from_IsBytes (data_of bytes) (IsBytes-drop (4 * code_count bytes) (behind_names bytes) (behind_names-fit bytes fits));
    }

pub is_image : (bytes : List ℕ) → IsBytes bytes → first_fault bytes ≡ None → IsImage bytes (image_of bytes)
is_image bytes fits none =
    let p = passes bytes none in
    let enough : size bytes ≤ length bytes = let h = p.enough in grind (arith, nat_tests) in
    let no_more : length bytes ≤ size bytes = let h = p.no_more in grind (arith, nat_tests) in
    let long : 32 ≤ length bytes = omega arith in
    let add_up : sum (lengths_of (version_of bytes) (table_of bytes)) ≡ names_length bytes = eqb-true _ _ (and_parts (sum (lengths_of (version_of bytes) (table_of bytes)) == names_length bytes) (are_names (image_of bytes).functions) p.names).0 in
    let c = counted bytes (omega arith) fits add_up in
    record { read = says bytes c fits long (magic_is bytes p.magic); well_formed = keeps bytes p c fits }

-- ---- test after test

first_of-some : (xs ys : List (Option ImageFault)) (fault : ImageFault) → first_of xs ≡ Some fault → first_of (xs ++ ys) ≡ Some fault
first_of-some [] ys fault e = absurd cc
first_of-some (None ∷ xs) ys fault e = first_of-some xs ys fault e
first_of-some (Some other ∷ xs) ys fault e = e

first_of-none : (xs ys : List (Option ImageFault)) → first_of xs ≡ None → first_of (xs ++ ys) ≡ first_of ys
first_of-none [] ys e = refl
first_of-none (None ∷ xs) ys e = first_of-none xs ys e
first_of-none (Some fault ∷ xs) ys e = absurd cc

abbrev pub parts : List ℕ → List (Option ImageFault)
parts bytes = part_tests (names_length bytes) (lengths_of (version_of bytes) (table_of bytes)) (image_of bytes)

pub header_fault : (bytes : List ℕ) (fault : ImageFault) → first_of (header_tests bytes) ≡ Some fault → first_fault bytes ≡ Some fault
unfolding first_fault
header_fault bytes fault e = first_of-some (header_tests bytes ++ size_tests bytes) (parts bytes) fault (first_of-some (header_tests bytes) (size_tests bytes) fault e)

pub size_fault : (bytes : List ℕ) (fault : ImageFault) → first_of (header_tests bytes) ≡ None → first_of (size_tests bytes) ≡ Some fault → first_fault bytes ≡ Some fault
unfolding first_fault
size_fault bytes fault h e = first_of-some (header_tests bytes ++ size_tests bytes) (parts bytes) fault (first_of-none (header_tests bytes) (size_tests bytes) h ∙ e)

pub part_fault : (bytes : List ℕ) → first_of (header_tests bytes) ≡ None → first_of (size_tests bytes) ≡ None → first_fault bytes ≡ first_of (parts bytes)
unfolding first_fault
part_fault bytes h e = first_of-none (header_tests bytes ++ size_tests bytes) (parts bytes) (first_of-none (header_tests bytes) (size_tests bytes) h ∙ e)

-- what the header and the size are tested for
record Begins (bytes : List ℕ) : Type 0 where
  long : nat_le 32 (length bytes) ≡ true
  magic : (begins_as First bytes || begins_as Second bytes) ≡ true
  code : is_between 1 262144 (code_count bytes) ≡ true
  octets : nat_le (byte_count bytes) 16777216 ≡ true
  functions : is_between 1 512 (function_count bytes) ≡ true
  joined : is_between 1 1048576 (names_length bytes) ≡ true
  parameters : nat_le (word 6 bytes) 8 ≡ true
  unsigned_set : nat_lt (word 7 bytes) (2 ^ word 6 bytes) ≡ true
  enough : nat_le (size bytes) (length bytes) ≡ true
  no_more : nat_le (length bytes) (size bytes) ≡ true

begins : (bytes : List ℕ) → first_of (header_tests bytes) ≡ None → first_of (size_tests bytes) ≡ None → Begins bytes
begins bytes e s =
    let a = passed _ _ _ e in
    let b = passed _ _ _ a.1 in
    let c = passed _ _ _ b.1 in
    let d = passed _ _ _ c.1 in
    let f = passed _ _ _ d.1 in
    let g = passed _ _ _ f.1 in
    let h = passed _ _ _ g.1 in
    let i = passed _ _ _ h.1 in
    let j = passed _ _ _ s in
    let k = passed _ _ _ j.1 in
    record { long = a.0; magic = b.0; code = c.0; octets = d.0; functions = f.0; joined = g.0; parameters = h.0; unsigned_set = i.0; enough = j.0; no_more = k.0 }

-- few enough words and functions, once the header and the size are passed
pub few : (bytes : List ℕ) → first_of (header_tests bytes) ≡ None → first_of (size_tests bytes) ≡ None → (length (image_of bytes).code ≤ 262144) × (length (image_of bytes).functions ≤ 512)
few bytes e g =
    let p = begins bytes e g in
    let code = between-means 1 262144 (code_count bytes) p.code in
    let functions = between-means 1 512 (function_count bytes) p.functions in
    let enough : size bytes ≤ length bytes = let h = p.enough in grind (arith, nat_tests) in
    let no_more : length bytes ≤ size bytes = let h = p.no_more in grind (arith, nat_tests) in
    let s = sized bytes (omega arith) in
    let v = version_of bytes in
    let n = length-records v (length (table_of bytes) / record_bytes v) (table_of bytes) (names_of bytes) ∙ table-count bytes s in
    let m = length-words (length (code_of bytes) / 4) (code_of bytes) in
    (omega arith, omega arith)

-- the parts are those of the bytes
pub same_parts : {n n' : ℕ} {table table' : List ℕ} {image image' : Image} → n ≡ n' → table ≡ table' → image ≡ image' → first_of (part_tests n (lengths_of image.version table) image) ≡ first_of (part_tests n' (lengths_of image'.version table') image')
same_parts p q r = cc
