-- Words and records that stand in bytes.
use Rattle.std.proofs.lemmas.Bool.Decides.{nat_tests}
use Rattle.std.proofs.lemmas.List.Sums.{sum_by-cons}
use Rattle.std.specs.Prelude.{Bool, false, not, sum, ◌==◌, ◌&&◌, bytes_eq}
use Rattle.std.specs.List.{list_any}
use Rattle.qs_image.specs.Faults.{all_differ}
use Rattle.std.proofs.Common.{◌≡◌, ℕ, zero, suc, ◌+◌, ◌-◌, ◌*◌, ◌/◌, ◌<◌, ◌≤◌, List, [], ◌∷◌, length, drop, slice_index, refl, ap, ◌∙◌, arith}
use Rattle.std.proofs.Math.Nat.{div-eq-sub-div, div-eq_of_lt, mul-le-mul_right}
use Rattle.std.proofs.lemmas.List.{length-drop, drop-drop}
use Rattle.qs_image.specs.Image.{FunctionRecord}
use Rattle.qs_image.specs.declared.version.Version.{Version}
use Rattle.qs_image.specs.declared.version.Version.TheVariants.{First, Second}
use Rattle.qs_image.specs.Bytes.{version_of, record_bytes, function_count, table_bytes, word, words, first_record, records, records_of, lengths, lengths_of}

pub record_bytes-least : (v : Version) → 12 ≤ record_bytes v
record_bytes-least First = omega arith
record_bytes-least Second = omega arith

pub record_bytes-most : (v : Version) → record_bytes v ≤ 16
record_bytes-most First = omega arith
record_bytes-most Second = omega arith

pub table_bytes-most : (bytes : List ℕ) → table_bytes bytes ≤ 16 * function_count bytes
table_bytes-most bytes = mul-le-mul_right (function_count bytes) (record_bytes-most (version_of bytes))

pub length-words : (n : ℕ) (bytes : List ℕ) → length (words n bytes) ≡ n
unfolding words
length-words zero bytes = refl
length-words (suc n) bytes = ap suc (length-words n (drop 4 bytes))

pub length-records : (v : Version) (n : ℕ) (table names : List ℕ) → length (records v n table names) ≡ n
unfolding records
length-records v zero table names = refl
length-records v (suc n) table names = ap suc (length-records v n (drop (record_bytes v) table) (drop (word 0 table) names))

-- ---- by the length of the table

div-more : (n : ℕ) (k : ℕ) → 0 < k → k ≤ n → n / k ≡ suc ((n - k) / k)
div-more n k h le = omega (arith, div-eq-sub-div {m = k} {n = n} h le)

-- a table as long as a record has one record more than what is behind it
one_more : (v : Version) (table : List ℕ) → record_bytes v ≤ length table → length table / record_bytes v ≡ suc (length (drop (record_bytes v) table) / record_bytes v)
one_more v table long =
    let some = record_bytes-least v in
    rw (length-drop (record_bytes v) table) (div-more (length table) (record_bytes v) (omega (arith, some)) long)

pub records_of-short : (v : Version) (table names : List ℕ) → length table < record_bytes v → records_of v table names ≡ []
unfolding records
records_of-short v table names short = ap (λ (n : ℕ). records v n table names) (div-eq_of_lt short)

pub records_of-long :
    (v : Version) (table names : List ℕ) → record_bytes v ≤ length table
    → records_of v table names ≡ first_record v table names ∷ records_of v (drop (record_bytes v) table) (drop (word 0 table) names)
unfolding records
records_of-long v table names long = ap (λ (n : ℕ). records v n table names) (one_more v table long)

pub lengths_of-short : (v : Version) (table : List ℕ) → length table < record_bytes v → lengths_of v table ≡ []
unfolding lengths
lengths_of-short v table short = ap (λ (n : ℕ). lengths v n table) (div-eq_of_lt short)

pub lengths_of-long : (v : Version) (table : List ℕ) → record_bytes v ≤ length table → lengths_of v table ≡ word 0 table ∷ lengths_of v (drop (record_bytes v) table)
unfolding lengths
lengths_of-long v table long = ap (λ (n : ℕ). lengths v n table) (one_more v table long)

pub word-drop : (i : ℕ) (bytes : List ℕ) → word i (drop 4 bytes) ≡ word (suc i) bytes
word-drop i bytes = let e : 4 + 4 * i ≡ 4 * suc i = omega arith in rw (drop-drop (4 * i) 4 bytes, e) refl

pub get-words : (n i : ℕ) (bytes : List ℕ) → i < n → slice_index (words n bytes) i ≡ word i bytes
unfolding words
get-words zero i bytes lt = absurd (omega arith)
get-words (suc n) zero bytes lt = refl
get-words (suc n) (suc i) bytes lt = get-words n i (drop 4 bytes) (omega arith) ∙ word-drop i bytes

-- ---- the names differ

pub all_differ-first : (fs others : List FunctionRecord) (f : FunctionRecord) (same : Bool) → fs ≡ f ∷ others → same ≡ list_any (λ g. bytes_eq g.name f.name) others → all_differ fs ≡ (not same && all_differ others)
all_differ-first fs others f same first is = rw (first, is) refl

-- ---- the lengths of the names add up

sum-lengths : (v : Version) (table : List ℕ) → record_bytes v ≤ length table → sum (lengths_of v table) ≡ word 0 table + sum (lengths_of v (drop (record_bytes v) table))
sum-lengths v table long = rw (lengths_of-long v table long) (sum_by-cons (λ x. x) (word 0 table) (lengths_of v (drop (record_bytes v) table)))

pub add_up_more : (v : Version) (table : List ℕ) (bytes l left : ℕ) (whole : Bool) → bytes ≡ record_bytes v → bytes ≤ length table → l ≡ word 0 table → l ≤ left → (sum (lengths_of v table) == left) ≡ whole → (sum (lengths_of v (drop bytes table)) == left - l) ≡ whole
add_up_more v table bytes l left whole same long is le so_far =
    let more = sum-lengths v table (rw same at long) in
    let rest : (sum (lengths_of v (drop (record_bytes v) table)) == left - l) ≡ whole = grind (arith, nat_tests) in
    rw same rest

pub add_up_past : (v : Version) (table : List ℕ) (bytes l left : ℕ) (whole : Bool) → bytes ≡ record_bytes v → bytes ≤ length table → l ≡ word 0 table → left < l → (sum (lengths_of v table) == left) ≡ whole → false ≡ whole
add_up_past v table bytes l left whole same long is past so_far =
    let more = sum-lengths v table (rw same at long) in
    grind (arith, nat_tests)

pub add_up_all : (v : Version) (table : List ℕ) (bytes left : ℕ) (whole : Bool) → bytes ≡ record_bytes v → length table < bytes → (sum (lengths_of v table) == left) ≡ whole → (left == 0) ≡ whole
add_up_all v table bytes left whole same short so_far =
    let none : sum (lengths_of v table) ≡ 0 = ap sum (lengths_of-short v table (rw same at short)) in
    grind (arith, nat_tests)
