-- The words of a function that fits stand for one variable each.
use Rattle.std.proofs.Common.{arith, ◌≡◌, ℕ, ◌+◌, ◌<◌, ◌^◌, ◌==◌, ◌&&◌, not, nat_lt, nat_le, Bool, true, false, List, [], ◌∷◌, ◌++◌, length, refl, sym, ap, ◌∙◌, if◌then◌else◌, Option, Some, None}
use Rattle.std.specs.Prelude.{bytes_eq, codes, decimal}
use Rattle.std.specs.List.{list_all}
use Rattle.std.proofs.lemmas.Bool.Decides.{nat_tests}
use Rattle.std.proofs.lemmas.Fmt.{decimal_injective}
use Rattle.std.proofs.lemmas.List.{append-nil}
use Rattle.std.proofs.lemmas.Slice.Eq.{bytes_eq-Decides}
use Rattle.std.proofs.lemmas.Bool.{not-true, and_parts}
use Rattle.qs_base.specs.Bytes.{is_letter, is_word_byte}
use Rattle.qs_base.specs.Keywords.{is_keyword}
use Rattle.qs_base.specs.Names.{is_name, is_word}
use Rattle.qs_memory.specs.declared.scalar.Scalar.{Scalar}
use Rattle.qs_assert.specs.declared.variable.NumberType.{NumberType}
use Rattle.qs_assert.specs.declared.variable.VarKind.{VarKind}
use Rattle.qs_assert.specs.declared.variable.VarKind.TheVariants as kinds
use Rattle.qs_core.proofs.FitLaws.{all_at, function_at_fits}
use Rattle.qs_core.specs.Fits.{differ, is_named, same_variable, unit_fits}
use Rattle.qs_core.specs.TermTexts.{ordinal_text, temporary_text, variable_name}
use Rattle.qs_core.specs.Trees.{CoreFunctionTree, CoreUnitTree, CoreVariableTree}
use Rattle.qs_triples.specs.Mentions.{has_placed_parameter}
use Rattle.qs_triples.specs.Valuations.{if_number}
use Rattle.qs_prooftext_meaning.specs.Settings.{typed, with_word, variable_words, temporary_words}
use Rattle.qs_prooftext_meaning.specs.Writing.{HasOwnWords, HasShortNumbers, has_short_numbers, is_short}
use Rattle.qs_prooftext_meaning.proofs.WordLaws.{Rows, words, texts_differ}

-- ---- names have no `#`

-- up to a `#`, and from it on
abbrev front : List ℕ → List ℕ
front [] = []
front (b ∷ bs) = if b == 35 then [] else b ∷ front bs

abbrev back : List ℕ → List ℕ
back [] = []
back (b ∷ bs) = if b == 35 then b ∷ bs else back bs

word_byte : (b : ℕ) → is_word_byte b ≡ true → (b == 35) ≡ false
word_byte b h = grind (arith, nat_tests, h)

letter_in_word : (b : ℕ) → is_letter b ≡ true → is_word_byte b ≡ true
letter_in_word b h = grind (arith, nat_tests, h)

front_joined : (name text : List ℕ) → list_all is_word_byte name ≡ true → front (name ++ text) ≡ name ++ front text
front_joined [] text h = refl
front_joined (b ∷ name) text h =
    let two = and_parts (is_word_byte b) (list_all is_word_byte name) h in
    ap (λ (t : Bool). if t then [] else b ∷ front (name ++ text)) (word_byte b two.0) ∙ ap (λ (bs : List ℕ). b ∷ bs) (front_joined name text two.1)

back_joined : (name text : List ℕ) → list_all is_word_byte name ≡ true → back (name ++ text) ≡ back text
back_joined [] text h = refl
back_joined (b ∷ name) text h =
    let two = and_parts (is_word_byte b) (list_all is_word_byte name) h in
    ap (λ (t : Bool). if t then b ∷ name ++ text else back (name ++ text)) (word_byte b two.0) ∙ back_joined name text two.1

front_ordinal : (k : ℕ) (b : Bool) → front (if b then [] else codes "#" ++ decimal k) ≡ []
front_ordinal k true = refl
front_ordinal k false = refl

back_ordinal : (k : ℕ) (b : Bool) → back (if b then [] else codes "#" ++ decimal k) ≡ (if b then [] else codes "#" ++ decimal k)
back_ordinal k true = refl
back_ordinal k false = refl

name_is_word : (name : List ℕ) → is_name name ≡ true → is_word name ≡ true
unfolding is_name
name_is_word name h = (and_parts (is_word name) (not (is_keyword name)) h).0

bytes_of_word : (name : List ℕ) → is_word name ≡ true → list_all is_word_byte name ≡ true
bytes_of_word [] h = refl
bytes_of_word (b ∷ name) h =
    let two = and_parts (is_letter b) (list_all is_word_byte name) h in
    (λ i. letter_in_word b two.0 i && list_all is_word_byte name) ∙ two.1

-- ---- variables

behind_hash : List ℕ → List ℕ
behind_hash [] = []
behind_hash (b ∷ bs) = bs

ordinal_by : (k j : ℕ) (a b : Bool) → (k == 1) ≡ a → (j == 1) ≡ b → k < 2 ^ 64 → j < 2 ^ 64 → (if a then [] else codes "#" ++ decimal k) ≡ (if b then [] else codes "#" ++ decimal j) → k ≡ j
unfolding behind_hash
ordinal_by k j true true e f h i same = grind (arith, e, f)
ordinal_by k j true false e f h i same = cc
ordinal_by k j false true e f h i same = cc
ordinal_by k j false false e f h i same = decimal_injective k j h i (ap behind_hash same)

same_text : (v w : CoreVariableTree) → is_named v ≡ true → is_named w ≡ true → v.ordinal < 2 ^ 64 → w.ordinal < 2 ^ 64 → variable_name v ≡ variable_name w → same_variable v w ≡ true
same_text v w n m h i e =
    let nv = bytes_of_word v.name (name_is_word v.name (and_parts (is_name v.name) (nat_le 1 v.ordinal) n).0) in
    let nw = bytes_of_word w.name (name_is_word w.name (and_parts (is_name w.name) (nat_le 1 w.ordinal) m).0) in
    let name_v : front (variable_name v) ≡ v.name = front_joined v.name (ordinal_text v.ordinal) nv ∙ (ap (λ (t : List ℕ). v.name ++ t) (front_ordinal v.ordinal (v.ordinal == 1)) ∙ append-nil v.name) in
    let name_w : front (variable_name w) ≡ w.name = front_joined w.name (ordinal_text w.ordinal) nw ∙ (ap (λ (t : List ℕ). w.name ++ t) (front_ordinal w.ordinal (w.ordinal == 1)) ∙ append-nil w.name) in
    let back_v : back (variable_name v) ≡ ordinal_text v.ordinal = back_joined v.name (ordinal_text v.ordinal) nv ∙ back_ordinal v.ordinal (v.ordinal == 1) in
    let back_w : back (variable_name w) ≡ ordinal_text w.ordinal = back_joined w.name (ordinal_text w.ordinal) nw ∙ back_ordinal w.ordinal (w.ordinal == 1) in
    let names : bytes_eq v.name w.name ≡ true = (bytes_eq-Decides v.name w.name).1 (sym name_v ∙ (ap front e ∙ name_w)) in
    let k : v.ordinal ≡ w.ordinal = ordinal_by v.ordinal w.ordinal (v.ordinal == 1) (w.ordinal == 1) refl refl h i (sym back_v ∙ (ap back e ∙ back_w)) in
    let ordinals : (v.ordinal == w.ordinal) ≡ true = grind (arith, k) in
    λ j. names j && ordinals j

other_text : (v w : CoreVariableTree) → is_named v ≡ true → is_named w ≡ true → is_short v ≡ true → is_short w ≡ true → same_variable v w ≡ false → bytes_eq (variable_name v) (variable_name w) ≡ false
other_text v w n m h i differs = texts_differ (variable_name v) (variable_name w) (λ e. apart (same_text v w n m (below v.ordinal h) (below w.ordinal i) e) differs)
  where
    apart : {b : Bool} → b ≡ true → b ≡ false → ⊥
    apart t f = cc

    below : (k : ℕ) → nat_lt k (2 ^ 64) ≡ true → k < 2 ^ 64
    below k h = grind (arith, nat_tests, h)

abbrev IsAnother : (text other : List ℕ) → Bool
IsAnother text other = not (bytes_eq text other)

others_text : (v : CoreVariableTree) (vs : List CoreVariableTree) → is_named v ≡ true → is_short v ≡ true → list_all is_named vs ≡ true → list_all is_short vs ≡ true → list_all (λ w. not (same_variable v w)) vs ≡ true
    → list_all (λ w. IsAnother (variable_name v) (variable_name w)) vs ≡ true
others_text v [] n h m i d = refl
others_text v (w ∷ vs) n h m i d =
    let m2 = and_parts (is_named w) (list_all is_named vs) m in
    let i2 = and_parts (is_short w) (list_all is_short vs) i in
    let d2 = and_parts (not (same_variable v w)) _ d in
    λ j. not (other_text v w n m2.0 h i2.0 (not-true (same_variable v w) d2.0) j) && others_text v vs n h m2.1 i2.1 d2.1 j

-- ---- rows

all_append : (p : List ℕ → Bool) (xs ys : Rows) → list_all p (words xs) ≡ true → list_all p (words ys) ≡ true → list_all p (words (xs ++ ys)) ≡ true
all_append p [] ys h k = k
all_append p (x ∷ xs) ys h k =
    let two = and_parts (p x.0) _ h in
    λ j. two.0 j && all_append p xs ys two.1 k j

all_typed : (p : List ℕ → Bool) (word : List ℕ) (kind : VarKind) (t : Option NumberType) → p word ≡ true → list_all p (words (with_word word (typed kind t))) ≡ true
all_typed p word kind None h = refl
all_typed p word kind (Some t) h = λ j. h j && true

all_if : (p : List ℕ → Bool) (b : Bool) (rows : Rows) → list_all p (words rows) ≡ true → list_all p (words (if b then [] else rows)) ≡ true
all_if p true rows h = refl
all_if p false rows h = h

variables_apart : (text : List ℕ) (f : CoreFunctionTree) (i : ℕ) (vs : List CoreVariableTree) → list_all (λ w. IsAnother text (variable_name w)) vs ≡ true → list_all (IsAnother text) (words (variable_words f i vs)) ≡ true
variables_apart text f i [] h = refl
variables_apart text f i (v ∷ vs) h =
    let two = and_parts (IsAnother text (variable_name v)) _ h in
    all_append (IsAnother text) _ (variable_words f (i + 1) vs)
    (all_if (IsAnother text) (has_placed_parameter f i) _ (all_typed (IsAnother text) (variable_name v) (kinds.Plain i) (if_number v.scalar) two.0))
    (variables_apart text f (i + 1) vs two.1)

-- a name begins with no `$`
no_dollar : (b : ℕ) → is_letter b ≡ true → (b == 36) ≡ false
no_dollar b h = grind (arith, nat_tests, h)

first_byte : List ℕ → ℕ
first_byte [] = 0
first_byte (b ∷ bs) = b

no_temporary : (v : CoreVariableTree) (k : ℕ) → is_word v.name ≡ true → IsAnother (variable_name v) (temporary_text k) ≡ true
unfolding first_byte
no_temporary v k h = ap not (texts_differ (variable_name v) (temporary_text k) (by v.name h))
  where
    by : (name : List ℕ) → is_word name ≡ true → name ++ ordinal_text v.ordinal ≡ temporary_text k → ⊥
    by [] h e = cc
    by (b ∷ name) h e =
        let first : b ≡ 36 = ap first_byte e in
        let other = no_dollar b (and_parts (is_letter b) (list_all is_word_byte name) h).0 in
        let is : (b == 36) ≡ true = grind (arith, first) in
        cc

temporaries_apart : (text : List ℕ) (k : ℕ) (ss : List Scalar) → ((j : ℕ) → j < k + length ss → ((j < k) → ⊥) → IsAnother text (temporary_text j) ≡ true) → list_all (IsAnother text) (words (temporary_words k ss)) ≡ true
temporaries_apart text k [] h = refl
temporaries_apart text k (s ∷ ss) h =
    all_append (IsAnother text) _ (temporary_words (k + 1) ss)
    (all_typed (IsAnother text) (temporary_text k) (kinds.Temporary k) (if_number s) (h k (omega arith) (λ lt. omega (arith, lt))))
    (temporaries_apart text (k + 1) ss (λ j lt late. h j (omega (arith, lt)) (λ less. late (omega (arith, less)))))

other_temporary : (k j : ℕ) → k < 2 ^ 64 → j < 2 ^ 64 → k < j → IsAnother (temporary_text k) (temporary_text j) ≡ true
unfolding behind_hash
other_temporary k j h i lt =
    ap not (texts_differ (temporary_text k) (temporary_text j) (λ e. apart (decimal_injective k j h i (ap behind_hash e))))
  where
    apart : k ≡ j → ⊥
    apart e = omega (arith, e, lt)

-- one row more, or none
differ_more : (text : List ℕ) (kind : VarKind) (t : Option NumberType) (rows : Rows) → list_all (IsAnother text) (words rows) ≡ true → differ bytes_eq (words rows) ≡ true → differ bytes_eq (words (with_word text (typed kind t) ++ rows)) ≡ true
differ_more text kind None rows h d = d
differ_more text kind (Some t) rows h d = λ j. h j && d j

differ_if : (b : Bool) (text : List ℕ) (kind : VarKind) (t : Option NumberType) (rows : Rows) → list_all (IsAnother text) (words rows) ≡ true → differ bytes_eq (words rows) ≡ true → differ bytes_eq (words ((if b then [] else with_word text (typed kind t)) ++ rows)) ≡ true
differ_if true text kind t rows h d = d
differ_if false text kind t rows h d = differ_more text kind t rows h d

temporaries_differ : (k : ℕ) (ss : List Scalar) → k + length ss < 2 ^ 64 → differ bytes_eq (words (temporary_words k ss)) ≡ true
temporaries_differ k [] h = refl
temporaries_differ k (s ∷ ss) h =
    differ_more (temporary_text k) (kinds.Temporary k) (if_number s) (temporary_words (k + 1) ss)
    (temporaries_apart (temporary_text k) (k + 1) ss (λ j lt late. other_temporary k j (omega (arith, h)) (omega (arith, h, lt)) (more j late)))
    (temporaries_differ (k + 1) ss (omega (arith, h)))
  where
    more : (j : ℕ) → ((j < k + 1) → ⊥) → k < j
    more j late = grind (arith, late)

rows_assoc : (xs ys zs : Rows) → words (xs ++ ys ++ zs) ≡ words (xs ++ (ys ++ zs))
rows_assoc [] ys zs = refl
rows_assoc (x ∷ xs) ys zs = ap (λ (ws : List (List ℕ)). x.0 ∷ ws) (rows_assoc xs ys zs)

all_differ : (f : CoreFunctionTree) (ss : List Scalar) (i : ℕ) (vs : List CoreVariableTree) → list_all is_named vs ≡ true → list_all is_short vs ≡ true → differ same_variable vs ≡ true → length ss < 2 ^ 64
    → differ bytes_eq (words (variable_words f i vs ++ temporary_words 0 ss)) ≡ true
all_differ f ss i [] n h d few = temporaries_differ 0 ss (omega (arith, few))
all_differ f ss i (v ∷ vs) n h d few =
    let n2 = and_parts (is_named v) (list_all is_named vs) n in
    let h2 = and_parts (is_short v) (list_all is_short vs) h in
    let d2 = and_parts (list_all (λ w. not (same_variable v w)) vs) (differ same_variable vs) d in
    let word : is_word v.name ≡ true = name_is_word v.name (and_parts (is_name v.name) (nat_le 1 v.ordinal) n2.0).0 in
    ap (differ bytes_eq) (rows_assoc (if has_placed_parameter f i then [] else with_word (variable_name v) (typed (kinds.Plain i) (if_number v.scalar))) (variable_words f (i + 1) vs) (temporary_words 0 ss))
    ∙ differ_if (has_placed_parameter f i) (variable_name v) (kinds.Plain i) (if_number v.scalar) (variable_words f (i + 1) vs ++ temporary_words 0 ss)
    (all_append (IsAnother (variable_name v)) (variable_words f (i + 1) vs) (temporary_words 0 ss)
    (variables_apart (variable_name v) f (i + 1) vs (others_text v vs n2.0 h2.0 n2.1 h2.1 d2.0))
    (temporaries_apart (variable_name v) 0 ss (λ j lt late. no_temporary v j word)))
    (all_differ f ss (i + 1) vs n2.1 h2.1 d2.1 few)

pub own_words : (u : CoreUnitTree) → unit_fits u ≡ true → HasShortNumbers u → HasOwnWords u
own_words u fits short i f s =
    let fit = function_at_fits u fits i f s in
    let numbers = and_parts (list_all is_short f.variables) (nat_lt (length f.temporaries) (2 ^ 64)) (all_at has_short_numbers u.functions i f short s) in
    all_differ f f.temporaries 0 f.variables fit.named numbers.0 fit.different (few (length f.temporaries) numbers.1)
  where
    few : (k : ℕ) → nat_lt k (2 ^ 64) ≡ true → k < 2 ^ 64
    few k h = grind (arith, nat_tests, h)
