-- Records that are written are read again, and records that are read are what was written.
use Rattle.std.proofs.Common.{◌≡◌, ℕ, zero, suc, ◌+◌, ◌*◌, ◌^◌, ◌<◌, ◌≤◌, List, [], ◌∷◌, ◌++◌, length, take, drop, All, sum, Option, Some, None, refl, sym, ap, ◌∙◌, arith}
use Rattle.std.specs.Option.{option_to_list}
use Rattle.std.proofs.Math.Nat.{mul-suc, mul-zero}
use Rattle.std.proofs.lemmas.List.{length-drop, length-take-le, length-append, take-append-drop, take_at, drop_at, nil_from_length}
use Rattle.std.proofs.lemmas.List.Elements.{All-head, All-tail, All-nil, All-cons}
use Rattle.std.proofs.lemmas.List.Sums.{sum_by-cons}
use Rattle.qs_image.specs.declared.version.Version.{Version}
use Rattle.qs_image.specs.declared.version.Version.TheVariants.{First, Second}
use Rattle.qs_image.specs.Image.{FunctionRecord, word_bytes, words_bytes, joined_names, record_words}
use Rattle.qs_image.specs.Bytes.{word, words, record_bytes, first_parameters, first_record, records, lengths}
use Rattle.qs_image.proofs.Words.{IsBytes, IsBytes-drop, number-lt, number-word_bytes, words_bytes-append, front_words, words-at}

-- what a record of a version can say of a count of parameters
pub record SaysCount (said : Option ℕ) : Type 0 where
  pub count : ℕ
  pub is : said ≡ Some count
  pub fits : count < 2 ^ 32

abbrev pub Says : Version → Option ℕ → Type 0
Says First said = said ≡ None
Says Second said = SaysCount said

-- what its words can hold
pub record Fits (v : Version) (f : FunctionRecord) : Type 0 where
  pub name : length f.name < 2 ^ 32
  pub address : f.address < 2 ^ 32
  pub cost : f.cost < 2 ^ 32
  pub parameters : Says v f.parameters

abbrev pub table_from : List FunctionRecord → List ℕ
table_from fs = words_bytes (record_words fs)

-- ---- the first record of a table that is written

-- from its fourth word on
abbrev behind_cost : Option ℕ → List FunctionRecord → List ℕ
behind_cost said fs = words_bytes (option_to_list said ++ record_words fs)

table-length : (f : FunctionRecord) (fs : List FunctionRecord) → length f.name < 2 ^ 32 → word 0 (table_from (f ∷ fs)) ≡ length f.name
table-length f fs fits = number-word_bytes (length f.name) (word_bytes f.address ++ (word_bytes f.cost ++ behind_cost f.parameters fs)) fits

table-parameters : (v : Version) (f : FunctionRecord) (fs : List FunctionRecord) → Says v f.parameters → first_parameters v (table_from (f ∷ fs)) ≡ f.parameters
table-parameters First f fs said = sym said
table-parameters Second f fs said =
    let count : word 3 (table_from (f ∷ fs)) ≡ said.count = ap (λ (o : Option ℕ). word 0 (behind_cost o fs)) said.is ∙ number-word_bytes said.count (table_from fs) said.fits in
    ap Some count ∙ sym said.is

table-rest : (v : Version) (f : FunctionRecord) (fs : List FunctionRecord) → Says v f.parameters → drop (record_bytes v) (table_from (f ∷ fs)) ≡ table_from fs
table-rest First f fs said = ap (λ (o : Option ℕ). behind_cost o fs) said
table-rest Second f fs said = ap (λ (o : Option ℕ). drop 4 (behind_cost o fs)) said.is

table-more : (v : Version) (f : FunctionRecord) (fs : List FunctionRecord) → Says v f.parameters → length (table_from (f ∷ fs)) ≡ record_bytes v + length (table_from fs)
table-more First f fs said = let behind = ap (λ (o : Option ℕ). length (behind_cost o fs)) said in omega (arith, behind)
table-more Second f fs said = let behind = ap (λ (o : Option ℕ). length (behind_cost o fs)) said.is in omega (arith, behind)

abbrev record_from : List ℕ → ℕ → ℕ → Option ℕ → FunctionRecord
record_from name address cost parameters = record { name = name; address = address; cost = cost; parameters = parameters }

same_record : {n n' : List ℕ} {a a' c c' : ℕ} {p p' : Option ℕ} → n ≡ n' → a ≡ a' → c ≡ c' → p ≡ p' → record_from n a c p ≡ record_from n' a' c' p'
same_record p q r s = cc

table-first : (v : Version) (f : FunctionRecord) (fs : List FunctionRecord) → Fits v f → first_record v (table_from (f ∷ fs)) (joined_names (f ∷ fs)) ≡ f
table-first v f fs fits =
    same_record
    (ap (λ (k : ℕ). take k (joined_names (f ∷ fs))) (table-length f fs fits.name) ∙ take_at f.name (joined_names fs) (length f.name) refl)
    (number-word_bytes f.address (word_bytes f.cost ++ behind_cost f.parameters fs) fits.address)
    (number-word_bytes f.cost (behind_cost f.parameters fs) fits.cost)
    (table-parameters v f fs fits.parameters)

-- ---- tables that are written

pub length-table_from : (v : Version) (fs : List FunctionRecord) → All (Fits v) fs → length (table_from fs) ≡ record_bytes v * length fs
length-table_from v [] fit = sym (mul-zero (record_bytes v))
length-table_from v (f ∷ fs) fit =
    let more = table-more v f fs (All-head (Fits v) f fs fit).parameters in
    let rest = length-table_from v fs (All-tail (Fits v) f fs fit) in
    let times = mul-suc (record_bytes v) (length fs) in
    omega (arith, more, rest, times)

pub records-table_from : (v : Version) (fs : List FunctionRecord) → All (Fits v) fs → records v (length fs) (table_from fs) (joined_names fs) ≡ fs
unfolding records
records-table_from v [] fit = refl
records-table_from v (f ∷ fs) fit =
    let fits = All-head (Fits v) f fs fit in
    let n = length fs in
    let table = table_from (f ∷ fs) in
    let names = joined_names (f ∷ fs) in
    let rest : records v n (drop (record_bytes v) table) (drop (word 0 table) names) ≡ fs =
    ap (λ (t : List ℕ). records v n t (drop (word 0 table) names)) (table-rest v f fs fits.parameters)
    ∙ ap (λ (k : ℕ). records v n (table_from fs) (drop k names)) (table-length f fs fits.name)
    ∙ ap (λ (ns : List ℕ). records v n (table_from fs) ns) (drop_at f.name (joined_names fs) (length f.name) refl)
    ∙ records-table_from v fs (All-tail (Fits v) f fs fit) in
    ap (λ (r : FunctionRecord). r ∷ records v n (drop (record_bytes v) table) (drop (word 0 table) names)) (table-first v f fs fits)
    ∙ ap (λ (rs : List FunctionRecord). f ∷ rs) rest

pub lengths-table_from : (v : Version) (fs : List FunctionRecord) → All (Fits v) fs → sum (lengths v (length fs) (table_from fs)) ≡ length (joined_names fs)
unfolding lengths
lengths-table_from v [] fit = refl
lengths-table_from v (f ∷ fs) fit =
    let fits = All-head (Fits v) f fs fit in
    let n = length fs in
    let table = table_from (f ∷ fs) in
    let first = table-length f fs fits.name in
    let others : sum (lengths v n (drop (record_bytes v) table)) ≡ length (joined_names fs) =
    ap (λ (t : List ℕ). sum (lengths v n t)) (table-rest v f fs fits.parameters) ∙ lengths-table_from v fs (All-tail (Fits v) f fs fit) in
    let behind = lengths v n (drop (record_bytes v) table) in
    sum_by-cons (λ x. x) (word 0 table) behind ∙ ap (λ (k : ℕ). k + sum behind) first ∙ ap (λ (k : ℕ). length f.name + k) others
    ∙ sym (length-append f.name (joined_names fs))

-- ---- tables that are read

-- the words of the first record, with this length of its name
abbrev first_words : Version → List ℕ → ℕ → List ℕ
first_words v table length = length ∷ word 1 table ∷ word 2 table ∷ option_to_list (first_parameters v table)

three : (table : List ℕ) → words 3 table ≡ word 0 table ∷ word 1 table ∷ word 2 table ∷ []
unfolding words
three table =
    words-at 2 0 table ∙ ap (λ (x : List ℕ). word 0 table ∷ x) (words-at 1 1 table) ∙ ap (λ (x : List ℕ). word 0 table ∷ word 1 table ∷ x) (words-at 0 2 table)

four : (table : List ℕ) → words 4 table ≡ word 0 table ∷ word 1 table ∷ word 2 table ∷ word 3 table ∷ []
unfolding words
four table =
    words-at 3 0 table ∙ ap (λ (x : List ℕ). word 0 table ∷ x) (words-at 2 1 table)
    ∙ ap (λ (x : List ℕ). word 0 table ∷ word 1 table ∷ x) (words-at 1 2 table)
    ∙ ap (λ (x : List ℕ). word 0 table ∷ word 1 table ∷ word 2 table ∷ x) (words-at 0 3 table)

first_words-are : (v : Version) (table : List ℕ) → record_bytes v ≤ length table → IsBytes table → words_bytes (first_words v table (word 0 table)) ++ drop (record_bytes v) table ≡ table
first_words-are First table long fits = ap (λ (x : List ℕ). words_bytes x ++ drop 12 table) (sym (three table)) ∙ front_words 3 table long fits
first_words-are Second table long fits = ap (λ (x : List ℕ). words_bytes x ++ drop 16 table) (sym (four table)) ∙ front_words 4 table long fits

-- the records of a table and its names, where the lengths add up
pub record IsWhole (v : Version) (n : ℕ) (table names : List ℕ) : Type 0 where
  pub same_table : table_from (records v n table names) ≡ table
  pub same_names : joined_names (records v n table names) ≡ names

pub whole : (v : Version) (n : ℕ) (table names : List ℕ) → length table ≡ record_bytes v * n → IsBytes table → sum (lengths v n table) ≡ length names → IsWhole v n table names
unfolding records lengths
whole v zero table names len fits add_up =
    record { same_table = sym (nil_from_length table (len ∙ mul-zero (record_bytes v))); same_names = sym (nil_from_length names (sym add_up)) }
whole v (suc n) table names len fits add_up =
    let l = word 0 table in
    let bytes = record_bytes v in
    let times = mul-suc bytes n in
    let lengths_sum : l + sum (lengths v n (drop bytes table)) ≡ length names = sym (sum_by-cons (λ x. x) l (lengths v n (drop bytes table))) ∙ add_up in
    let rest = whole v n (drop bytes table) (drop l names) (omega (arith, len, times, length-drop bytes table)) (IsBytes-drop bytes table fits) (omega (arith, lengths_sum, length-drop l names)) in
    let name : length (take l names) ≡ l = length-take-le l names (omega (arith, lengths_sum)) in
    let others = records v n (drop bytes table) (drop l names) in
    record {
      same_table =
          words_bytes-append (first_words v table (length (take l names))) (record_words others)
          ∙ ap (λ (x : ℕ). words_bytes (first_words v table x) ++ table_from others) name
          ∙ ap (λ (x : List ℕ). words_bytes (first_words v table l) ++ x) rest.same_table
          ∙ first_words-are v table (omega (arith, len, times)) fits;
      same_names = ap (λ (x : List ℕ). take l names ++ x) rest.same_names ∙ take-append-drop l names;
    }

first_says : (v : Version) (table : List ℕ) → IsBytes table → Says v (first_parameters v table)
first_says First table fits = refl
first_says Second table fits = record { count = word 3 table; is = refl; fits = number-lt (drop 12 table) (IsBytes-drop 12 table fits) }

-- each record that is read says what one of its version can
pub records-say : (v : Version) (n : ℕ) (table names : List ℕ) → IsBytes table → All (λ (f : FunctionRecord). Says v f.parameters) (records v n table names)
unfolding records
records-say v zero table names fits = All-nil (λ (f : FunctionRecord). Says v f.parameters)
records-say v (suc n) table names fits =
    let bytes = record_bytes v in
    All-cons (λ (f : FunctionRecord). Says v f.parameters) (first_record v table names) (records v n (drop bytes table) (drop (word 0 table) names)) (first_says v table fits)
    (records-say v n (drop bytes table) (drop (word 0 table) names) (IsBytes-drop bytes table fits))
