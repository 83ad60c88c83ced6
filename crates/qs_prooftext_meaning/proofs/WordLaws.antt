-- The words of an entry are read as they are written.
use Rattle.std.proofs.Common.{arith, ◌≡◌, ℕ, zero, suc, ◌+◌, ◌==◌, ◌&&◌, ◌||◌, not, Bool, true, false, List, [], ◌∷◌, ◌++◌, map, refl, sym, ap, ◌∙◌, if◌then◌else◌, Option, Some, None, Ok}
use Rattle.std.specs.Prelude.{bytes_eq, option_map}
use Rattle.std.specs.List.{slice_get, list_any, list_all}
use Rattle.std.proofs.lemmas.List.Folds.{list_any-append}
use Rattle.std.proofs.lemmas.Slice.Eq.{bytes_eq-Decides}
use Rattle.std.proofs.lemmas.Bool.{not-true, and_parts}
use Rattle.std.proofs.lemmas.Option.{same_Some}
use Rattle.qs_memory.specs.declared.scalar.Scalar.{Scalar}
use Rattle.qs_memory.specs.Partial.{◌>>=◌}
use Rattle.qs_assert.specs.declared.variable.NumberType.{NumberType}
use Rattle.qs_assert.specs.declared.variable.VarKind.{VarKind}
use Rattle.qs_assert.specs.declared.variable.VarKind.TheVariants as kinds
use Rattle.qs_assert.specs.declared.variable.Var.{Var}
use Rattle.qs_assert.specs.Substitution.{same_kind, same_number_type, same_variable}
use Rattle.qs_assert.specs.Trees.{variable}
use Rattle.qs_assert.proofs.SamenessLaws.{variable_equal, variable_self}
use Rattle.qs_entail.specs.Certificates.{range}
use Rattle.qs_core.specs.Fits.{differ}
use Rattle.qs_core.specs.TermTexts.{temporary_text, variable_name}
use Rattle.qs_core.specs.Trees.{CoreFunctionTree, CoreUnitTree, CoreVariableTree}
use Rattle.qs_core.specs.FunctionNames.{function_name, name_in}
use Rattle.qs_sexpr.specs.Trees.{Sexp}
use Rattle.qs_triples.specs.Mentions.{has_placed_parameter, plain_variable}
use Rattle.qs_triples.specs.Valuations.{if_number, number_if}
use Rattle.qs_prooftext_meaning.specs.declared.fault.TextFault.TheVariants.{UnknownForm}
use Rattle.qs_prooftext_meaning.specs.Kinds.{a_term, a_range}
use Rattle.qs_prooftext_meaning.specs.Meanings.{or_fault, means}
use Rattle.qs_prooftext_meaning.specs.Settings.{look_up, numbered, typed, with_word, variable_words, temporary_words, words_of, old_of, old_variable, functions_of, in_definition, in_entry}
use Rattle.qs_prooftext_meaning.specs.Writable.{as_list, is_meant, old_variables}
use Rattle.qs_prooftext_meaning.specs.Writing.{Words, word_for, variable_form}
use Rattle.qs_prooftext_meaning.proofs.PlacedForms.{place, placed}
use Rattle.qs_prooftext_meaning.proofs.WrittenMeans.{Agree, one_part}
pub use Rattle.std.proofs.lemmas.Option.{same_Some as some_is}

-- ---- tests

pub text_self : (xs : List ℕ) → bytes_eq xs xs ≡ true
text_self xs = (bytes_eq-Decides xs xs).1 refl

pub texts_differ : (xs ys : List ℕ) → (xs ≡ ys → ⊥) → bytes_eq xs ys ≡ false
texts_differ xs ys apart = by (bytes_eq xs ys) refl
  where
    by : (b : Bool) → bytes_eq xs ys ≡ b → bytes_eq xs ys ≡ false
    by true e = absurd (apart ((bytes_eq-Decides xs ys).0 e))
    by false e = e

other_way : (x y : Var) → same_variable y x ≡ false → same_variable x y ≡ false
other_way x y e = by (same_variable x y) refl
  where
    by : (b : Bool) → same_variable x y ≡ b → same_variable x y ≡ false
    by true h =
        let s : x ≡ y = variable_equal x y h in
        let t : same_variable y x ≡ same_variable y y = ap (same_variable y) s in
        let r : same_variable y y ≡ true = variable_self y in
        cc
    by false h = h

first_holds : (a b c : Bool) → ((a || b) || c) ≡ true → b ≡ false → c ≡ false → a ≡ true
first_holds true b c h e f = refl
first_holds false true c h e f = cc
first_holds false false true h e f = cc
first_holds false false false h e f = cc

second_holds : (a b c : Bool) → ((a || b) || c) ≡ true → a ≡ false → c ≡ false → b ≡ true
second_holds true b c h e f = cc
second_holds false true c h e f = refl
second_holds false false true h e f = cc
second_holds false false false h e f = cc

third_holds : (a b c : Bool) → ((a || b) || c) ≡ true → a ≡ false → b ≡ false → c ≡ true
third_holds true b c h e f = cc
third_holds false true c h e f = cc
third_holds false false true h e f = refl
third_holds false false false h e f = cc

or_false : (b : Bool) → (b || false) ≡ true → b ≡ true
or_false true h = refl
or_false false h = cc

abbrev or_else : {A : Type 0} → Option A → A → A
or_else None x = x
or_else (Some y) x = y

-- ---- rows of words

abbrev pub Rows : Type 0
Rows = List (List ℕ × Var)

abbrev pub words : Rows → List (List ℕ)
words rows = map (λ row. row.0) rows

abbrev pub variables : Rows → List Var
variables rows = map (λ row. row.1) rows

behind_first : (x : Var) (row : List ℕ × Var) (rows : Rows) → same_variable row.1 x ≡ false → list_any (same_variable x) (variables (row ∷ rows)) ≡ true → list_any (same_variable x) (variables rows) ≡ true
behind_first x row rows e h = sym (ap (λ (b : Bool). b || list_any (same_variable x) (variables rows)) (other_way x row.1 e)) ∙ h

-- the word of another variable is another
apart_by : (word : List ℕ) (x : Var) (row : List ℕ × Var) (rows : Rows) (b : Bool) → same_variable row.1 x ≡ b → list_all (λ y. not (bytes_eq word y)) (words (row ∷ rows)) ≡ true
    → (b ≡ false → bytes_eq word (word_for x rows) ≡ false) → bytes_eq word (word_for x (row ∷ rows)) ≡ false
apart_by word x row rows true e a h =
    ap (λ (t : Bool). bytes_eq word (if t then row.0 else word_for x rows)) e ∙ not-true (bytes_eq word row.0) (and_parts (not (bytes_eq word row.0)) _ a).0
apart_by word x row rows false e a h = ap (λ (t : Bool). bytes_eq word (if t then row.0 else word_for x rows)) e ∙ h refl

apart : (word : List ℕ) (x : Var) (rows : Rows) → list_all (λ y. not (bytes_eq word y)) (words rows) ≡ true → list_any (same_variable x) (variables rows) ≡ true → bytes_eq word (word_for x rows) ≡ false
apart word x [] a h = cc
apart word x (row ∷ rows) a h =
    apart_by word x row rows (same_variable row.1 x) refl a (λ e. apart word x rows (and_parts (not (bytes_eq word row.0)) _ a).1 (behind_first x row rows e h))

found_by : (x : Var) (row : List ℕ × Var) (rows : Rows) (b : Bool) → same_variable row.1 x ≡ b
    → (b ≡ false → bytes_eq row.0 (word_for x rows) ≡ false) → (b ≡ false → look_up (word_for x rows) rows ≡ Some x) → look_up (word_for x (row ∷ rows)) (row ∷ rows) ≡ Some x
found_by x row rows true e a f =
    ap (λ (t : Bool). look_up (if t then row.0 else word_for x rows) (row ∷ rows)) e
    ∙ (ap (λ (t : Bool). if t then Some row.1 else look_up row.0 rows) (text_self row.0) ∙ ap (λ (y : Var). Some y) (variable_equal row.1 x e))
found_by x row rows false e a f =
    ap (λ (t : Bool). look_up (if t then row.0 else word_for x rows) (row ∷ rows)) e
    ∙ (ap (λ (t : Bool). if t then Some row.1 else look_up (word_for x rows) rows) (a refl) ∙ f refl)

pub found : (x : Var) (rows : Rows) → differ bytes_eq (words rows) ≡ true → list_any (same_variable x) (variables rows) ≡ true → look_up (word_for x rows) rows ≡ Some x
found x [] d h = cc
found x (row ∷ rows) d h =
    let two = and_parts (list_all (λ y. not (bytes_eq row.0 y)) (words rows)) (differ bytes_eq (words rows)) d in
    found_by x row rows (same_variable row.1 x) refl
    (λ e. apart row.0 x rows two.0 (behind_first x row rows e h))
    (λ e. found x rows two.1 (behind_first x row rows e h))

-- ---- kinds of variables

abbrev of_kind : VarKind → NumberType → Var
of_kind k t = record { kind = k; number = t }

-- no row has a variable of which this holds
abbrev FailsOnWords : (Var → Bool) → Type 0
FailsOnWords p = ((i : ℕ) (t : NumberType) → p (of_kind (kinds.Plain i) t) ≡ false) × ((i : ℕ) (t : NumberType) → p (of_kind (kinds.Temporary i) t) ≡ false)

none_in_both : (p : Var → Bool) (xs ys : List Var) → list_any p xs ≡ false → list_any p ys ≡ false → list_any p (xs ++ ys) ≡ false
none_in_both p xs ys e f = list_any-append p xs ys ∙ (λ i. e i || f i)

map_append : (xs ys : Rows) → variables (xs ++ ys) ≡ variables xs ++ variables ys
map_append [] ys = refl
map_append (x ∷ xs) ys = ap (λ (zs : List Var). x.1 ∷ zs) (map_append xs ys)

none_at : (p : Var → Bool) (xs ys : Rows) → list_any p (variables xs) ≡ false → list_any p (variables ys) ≡ false → list_any p (variables (xs ++ ys)) ≡ false
none_at p xs ys e f = ap (list_any p) (map_append xs ys) ∙ none_in_both p (variables xs) (variables ys) e f

none_typed : (p : Var → Bool) (word : List ℕ) (k : VarKind) (t : Option NumberType) → ((t : NumberType) → p (of_kind k t) ≡ false) → list_any p (variables (with_word word (typed k t))) ≡ false
none_typed p word k None h = refl
none_typed p word k (Some t) h = ap (λ (b : Bool). b || false) (h t)

none_if : (p : Var → Bool) (b : Bool) (rows : Rows) → list_any p (variables rows) ≡ false → list_any p (variables (if b then [] else rows)) ≡ false
none_if p true rows h = refl
none_if p false rows h = h

no_variable_word : (p : Var → Bool) → FailsOnWords p → (f : CoreFunctionTree) (i : ℕ) (vs : List CoreVariableTree) → list_any p (variables (variable_words f i vs)) ≡ false
no_variable_word p h f i [] = refl
no_variable_word p h f i (v ∷ vs) =
    none_at p _ (variable_words f (i + 1) vs)
    (none_if p (has_placed_parameter f i) _ (none_typed p (variable_name v) (kinds.Plain i) (if_number v.scalar) (h.0 i)))
    (no_variable_word p h f (i + 1) vs)

no_temporary_word : (p : Var → Bool) → FailsOnWords p → (k : ℕ) (ss : List Scalar) → list_any p (variables (temporary_words k ss)) ≡ false
no_temporary_word p h k [] = refl
no_temporary_word p h k (s ∷ ss) =
    none_at p _ (temporary_words (k + 1) ss) (none_typed p (temporary_text k) (kinds.Temporary k) (if_number s) (h.1 k)) (no_temporary_word p h (k + 1) ss)

no_word : (p : Var → Bool) → FailsOnWords p → (f : CoreFunctionTree) → list_any p (variables (words_of f)) ≡ false
no_word p h f =
    none_at p (variable_words f 0 f.variables) (temporary_words 0 f.temporaries) (no_variable_word p h f 0 f.variables) (no_temporary_word p h 0 f.temporaries)

-- ---- values at the entry

none_old_of : (p : Var → Bool) (y : Var) (k : VarKind) → ((i : ℕ) (t : NumberType) → p (of_kind (kinds.Old i) t) ≡ false) → list_any p (as_list (old_of y k)) ≡ false
none_old_of p y (kinds.Plain i) h = ap (λ (b : Bool). b || false) (h i y.number)
none_old_of p y (kinds.Temporary i) h = refl
none_old_of p y (kinds.Old i) h = refl
none_old_of p y kinds.Returned h = refl

no_old : (p : Var → Bool) → ((i : ℕ) (t : NumberType) → p (of_kind (kinds.Old i) t) ≡ false) → (rows : Rows) → list_any p (old_variables rows) ≡ false
no_old p h [] = refl
no_old p h (row ∷ rows) =
    none_in_both p (as_list (old_variable row.1)) (old_variables rows) (none_old_of p row.1 row.1.kind h) (no_old p h rows)

either_holds : (a b c d : Bool) → (a || b) ≡ true → (a ≡ true → c ≡ true) → (b ≡ true → d ≡ true) → (c || d) ≡ true
either_holds true b c d h f g = ap (λ (e : Bool). e || d) (f refl)
either_holds false b true d h f g = refl
either_holds false b false d h f g = g h

old_here : (x y : Var) (k : VarKind) → y.kind ≡ k → list_any (same_variable x) (as_list (old_of y k)) ≡ true → same_variable (plain_variable x) y ≡ true
old_here x y (kinds.Plain i) e h =
    let s : x ≡ of_kind (kinds.Old i) y.number = variable_equal x (of_kind (kinds.Old i) y.number) (or_false _ h) in
    let t : plain_variable x ≡ y = ap plain_variable s ∙ (λ j. record { kind = sym e j; number = y.number }) in
    ap (λ (z : Var). same_variable z y) t ∙ variable_self y
old_here x y (kinds.Temporary i) e h = cc
old_here x y (kinds.Old i) e h = cc
old_here x y kinds.Returned e h = cc

old_is_found : (x : Var) (rows : Rows) → list_any (same_variable x) (old_variables rows) ≡ true → list_any (same_variable (plain_variable x)) (variables rows) ≡ true
old_is_found x [] h = cc
old_is_found x (row ∷ rows) h =
    either_holds (list_any (same_variable x) (as_list (old_variable row.1))) (list_any (same_variable x) (old_variables rows)) (same_variable (plain_variable x) row.1) (list_any (same_variable (plain_variable x)) (variables rows))
    (sym (list_any-append (same_variable x) (as_list (old_variable row.1)) (old_variables rows)) ∙ h)
    (old_here x row.1 row.1.kind refl) (old_is_found x rows)

-- ---- results

no_result : (p : Var → Bool) (t : Option NumberType) → ((t : NumberType) → p (of_kind kinds.Returned t) ≡ false) → list_any p (as_list (typed kinds.Returned t)) ≡ false
no_result p None h = refl
no_result p (Some t) h = ap (λ (b : Bool). b || false) (h t)

result_is : (x : Var) (o : Option Var) → list_any (same_variable x) (as_list o) ≡ true → o ≡ Some x
result_is x None h = cc
result_is x (Some y) h = ap (λ (z : Var). Some z) (sym (variable_equal x y (or_false _ h)))

-- ---- what is meant in an entry

kind_apart : (x : Var) (k j : VarKind) (t : NumberType) → x.kind ≡ k → same_kind k j ≡ false → same_variable x (of_kind j t) ≡ false
kind_apart x k j t e h = λ i. (ap (λ (l : VarKind). same_kind l j) e ∙ h) i && same_number_type x.number t

meant_split : (x : Var) (rows : Rows) (result : Option Var) → list_any (same_variable x) (variables rows ++ old_variables rows ++ as_list result) ≡ true
    → ((list_any (same_variable x) (variables rows) || list_any (same_variable x) (old_variables rows)) || list_any (same_variable x) (as_list result)) ≡ true
meant_split x rows result h =
    sym (list_any-append (same_variable x) (variables rows ++ old_variables rows) (as_list result)
    ∙ ap (λ (b : Bool). b || list_any (same_variable x) (as_list result)) (list_any-append (same_variable x) (variables rows) (old_variables rows))) ∙ h

-- a variable is among the rows where it is neither a value at the entry nor the result
in_rows : (x : Var) (k : VarKind) (f : CoreFunctionTree) (t : Option NumberType) → x.kind ≡ k → ((i : ℕ) → same_kind k (kinds.Old i) ≡ false) → same_kind k kinds.Returned ≡ false
    → list_any (same_variable x) (variables (words_of f) ++ old_variables (words_of f) ++ as_list (typed kinds.Returned t)) ≡ true → list_any (same_variable x) (variables (words_of f)) ≡ true
in_rows x k f t e o r h =
    first_holds _ _ _ (meant_split x (words_of f) (typed kinds.Returned t) h)
    (no_old (same_variable x) (λ i n. kind_apart x k (kinds.Old i) n e (o i)) (words_of f))
    (no_result (same_variable x) t (λ n. kind_apart x k kinds.Returned n e r))

in_old : (x : Var) (i : ℕ) (f : CoreFunctionTree) (t : Option NumberType) → x.kind ≡ kinds.Old i
    → list_any (same_variable x) (variables (words_of f) ++ old_variables (words_of f) ++ as_list (typed kinds.Returned t)) ≡ true → list_any (same_variable (plain_variable x)) (variables (words_of f)) ≡ true
in_old x i f t e h =
    old_is_found x (words_of f) (second_holds _ _ _ (meant_split x (words_of f) (typed kinds.Returned t) h)
    (no_word (same_variable x) ((λ j n. kind_apart x (kinds.Old i) (kinds.Plain j) n e refl), (λ j n. kind_apart x (kinds.Old i) (kinds.Temporary j) n e refl)) f)
    (no_result (same_variable x) t (λ n. kind_apart x (kinds.Old i) kinds.Returned n e refl)))

in_result : (x : Var) (f : CoreFunctionTree) (t : Option NumberType) → x.kind ≡ kinds.Returned
    → list_any (same_variable x) (variables (words_of f) ++ old_variables (words_of f) ++ as_list (typed kinds.Returned t)) ≡ true → typed kinds.Returned t ≡ Some x
in_result x f t e h =
    result_is x (typed kinds.Returned t) (third_holds _ _ _ (meant_split x (words_of f) (typed kinds.Returned t) h)
    (no_word (same_variable x) ((λ j n. kind_apart x kinds.Returned (kinds.Plain j) n e refl), (λ j n. kind_apart x kinds.Returned (kinds.Temporary j) n e refl)) f)
    (no_old (same_variable x) (λ i n. kind_apart x kinds.Returned (kinds.Old i) n e refl) (words_of f)))

-- the value at the entry of the variable that is found
old_back : (x : Var) (i : ℕ) (rows : Rows) → x.kind ≡ kinds.Old i → look_up (word_for (plain_variable x) rows) rows ≡ Some (plain_variable x)
    → (look_up (word_for (plain_variable x) rows) rows >>= old_variable) ≡ Some x
old_back x i rows e found =
    ap (λ (o : Option Var). o >>= old_variable) found
    ∙ (ap (λ (k : VarKind). old_of (plain_variable x) (plain_kind_of k)) e ∙ (λ j. Some (record { kind = sym e j; number = x.number })))
  where
    plain_kind_of : VarKind → VarKind
    plain_kind_of k = (plain_variable (of_kind k x.number)).kind

-- ---- settings agree

variable_by : (u : CoreUnitTree) (f : CoreFunctionTree) (has_name : List ℕ → Bool) (w : Words) → w.variables ≡ words_of f → differ bytes_eq (words (words_of f)) ≡ true
    → (at : Sexp) (x : Var) (k : VarKind) → x.kind ≡ k → is_meant (in_entry u f has_name) x ≡ true → means (in_entry u f has_name) a_term (placed at (variable_form w x k)) ≡ Ok (variable x)
variable_by u f has_name w same d at x (kinds.Plain i) e h =
    ap (λ (rows : Rows). or_fault (UnknownForm (place at)) (option_map variable (look_up (word_for x rows) (words_of f)))) same
    ∙ ap (λ (o : Option Var). or_fault (UnknownForm (place at)) (option_map variable o)) (found x (words_of f) d (in_rows x (kinds.Plain i) f (number_if f.result_type) e (λ j. refl) refl h))
variable_by u f has_name w same d at x (kinds.Temporary i) e h =
    ap (λ (rows : Rows). or_fault (UnknownForm (place at)) (option_map variable (look_up (word_for x rows) (words_of f)))) same
    ∙ ap (λ (o : Option Var). or_fault (UnknownForm (place at)) (option_map variable o)) (found x (words_of f) d (in_rows x (kinds.Temporary i) f (number_if f.result_type) e (λ j. refl) refl h))
variable_by u f has_name w same d at x (kinds.Old i) e h =
    one_part variable _ x (ap (λ (rows : Rows). or_fault (UnknownForm (place at)) (look_up (word_for (plain_variable x) rows) (words_of f) >>= old_variable)) same
    ∙ ap (λ (o : Option Var). or_fault (UnknownForm (place at)) o) (old_back x i (words_of f) e (found (plain_variable x) (words_of f) d (in_old x i f (number_if f.result_type) e h))))
variable_by u f has_name w same d at x kinds.Returned e h =
    ap (λ (o : Option Var). means (record (in_entry u f has_name) { result = o }) a_term (placed at (variable_form w x kinds.Returned))) (in_result x f (number_if f.result_type) e h)

range_by : (u : CoreUnitTree) (f : CoreFunctionTree) (has_name : List ℕ → Bool) (w : Words) → w.variables ≡ words_of f → differ bytes_eq (words (words_of f)) ≡ true
    → (at : Sexp) (x : Var) (k : VarKind) → x.kind ≡ k → is_meant (in_entry u f has_name) x ≡ true → means (in_entry u f has_name) a_range (placed at (variable_form w x k)) ≡ Ok (range x)
range_by u f has_name w same d at x (kinds.Plain i) e h =
    ap (λ (rows : Rows). or_fault (UnknownForm (place at)) (option_map range (look_up (word_for x rows) (words_of f)))) same
    ∙ ap (λ (o : Option Var). or_fault (UnknownForm (place at)) (option_map range o)) (found x (words_of f) d (in_rows x (kinds.Plain i) f (number_if f.result_type) e (λ j. refl) refl h))
range_by u f has_name w same d at x (kinds.Temporary i) e h =
    ap (λ (rows : Rows). or_fault (UnknownForm (place at)) (option_map range (look_up (word_for x rows) (words_of f)))) same
    ∙ ap (λ (o : Option Var). or_fault (UnknownForm (place at)) (option_map range o)) (found x (words_of f) d (in_rows x (kinds.Temporary i) f (number_if f.result_type) e (λ j. refl) refl h))
range_by u f has_name w same d at x (kinds.Old i) e h =
    one_part range _ x (ap (λ (rows : Rows). or_fault (UnknownForm (place at)) (look_up (word_for (plain_variable x) rows) (words_of f) >>= old_variable)) same
    ∙ ap (λ (o : Option Var). or_fault (UnknownForm (place at)) o) (old_back x i (words_of f) e (found (plain_variable x) (words_of f) d (in_old x i f (number_if f.result_type) e h))))
range_by u f has_name w same d at x kinds.Returned e h =
    ap (λ (o : Option Var). means (record (in_entry u f has_name) { result = o }) a_range (placed at (variable_form w x kinds.Returned))) (in_result x f (number_if f.result_type) e h)

-- ---- functions

record IsNumbered (from f : ℕ) (names : List (List ℕ)) : Type 0 where
  index : ℕ
  name : List ℕ
  is : f ≡ from + index
  there : slice_get names index ≡ Some name

numbered_by : (from f : ℕ) (name : List ℕ) (names : List (List ℕ)) (b : Bool) → (from == f) ≡ b → (b ≡ false → IsNumbered (from + 1) f names) → IsNumbered from f (name ∷ names)
numbered_by from f name names true e go = record { index = 0; name = name; is = grind (arith, e); there = refl }
numbered_by from f name names false e go =
    let n : IsNumbered (from + 1) f names = go refl in
    let is = n.is in
    record { index = suc n.index; name = n.name; is = omega (arith, is); there = n.there }

numbered_at : (from f : ℕ) (names : List (List ℕ)) → list_any (λ row. row.1 == f) (numbered from names) ≡ true → IsNumbered from f names
numbered_at from f [] h = cc
numbered_at from f (name ∷ names) h = numbered_by from f name names (from == f) refl (λ e. numbered_at (from + 1) f names (sym (ap (λ (b : Bool). b || list_any (λ row. row.1 == f) (numbered (from + 1) names)) e) ∙ h))

none_before : (name other : List ℕ) (names : List (List ℕ)) (i : ℕ) → list_all (λ y. not (bytes_eq other y)) names ≡ true → slice_get names i ≡ Some name → bytes_eq other name ≡ false
none_before name other [] i a s = cc
none_before name other (x ∷ names) zero a s =
    let first = (and_parts (not (bytes_eq other x)) _ a).0 in
    ap (bytes_eq other) (sym (same_Some x name s)) ∙ not-true (bytes_eq other x) first
none_before name other (x ∷ names) (suc i) a s = none_before name other names i (and_parts (not (bytes_eq other x)) _ a).1 s

looked_up : (from i : ℕ) (name : List ℕ) (names : List (List ℕ)) → differ bytes_eq names ≡ true → slice_get names i ≡ Some name → look_up name (numbered from names) ≡ Some (from + i)
looked_up from i name [] d s = cc
looked_up from zero name (x ∷ names) d s =
    ap (λ (t : List ℕ). look_up t (numbered from (x ∷ names))) (sym (same_Some x name s))
    ∙ (ap (λ (b : Bool). if b then Some from else look_up x (numbered (from + 1) names)) (text_self x) ∙ ap (λ (n : ℕ). Some n) (omega arith))
looked_up from (suc i) name (x ∷ names) d s =
    let two = and_parts (list_all (λ y. not (bytes_eq x y)) names) (differ bytes_eq names) d in
    ap (λ (b : Bool). if b then Some from else look_up name (numbered (from + 1) names)) (none_before name x names i two.0 s)
    ∙ (looked_up (from + 1) i name names two.1 s ∙ ap (λ (n : ℕ). Some n) (omega arith))

pub looked_up_at : (i : ℕ) (name : List ℕ) (names : List (List ℕ)) → differ bytes_eq names ≡ true → slice_get names i ≡ Some name → look_up name (numbered 0 names) ≡ Some i
looked_up_at i name names d s = looked_up 0 i name names d s ∙ ap (λ (n : ℕ). Some n) (omega arith)

pub names_at : (fs : List CoreFunctionTree) (i : ℕ) (f : CoreFunctionTree) → slice_get fs i ≡ Some f → slice_get (map (λ g. g.name) fs) i ≡ Some f.name
names_at [] i f s = cc
names_at (g ∷ fs) zero f s = ap (λ (h : CoreFunctionTree). Some h.name) (same_Some g f s)
names_at (g ∷ fs) (suc i) f s = names_at fs i f s

pub name_at : (fs : List CoreFunctionTree) (i : ℕ) (name : List ℕ) → slice_get (map (λ g. g.name) fs) i ≡ Some name → name_in (slice_get fs i) ≡ name
name_at [] i name s = cc
name_at (g ∷ fs) zero name s = same_Some g.name name s
name_at (g ∷ fs) (suc i) name s = name_at fs i name s

pub function_found : (u : CoreUnitTree) (f : ℕ) → differ bytes_eq (map (λ g. g.name) u.functions) ≡ true → list_any (λ row. row.1 == f) (functions_of u) ≡ true → look_up (function_name u f) (functions_of u) ≡ Some f
function_found u f d h =
    let n : IsNumbered 0 f (map (λ g. g.name) u.functions) = numbered_at 0 f (map (λ g. g.name) u.functions) h in
    let is = n.is in
    let e : f ≡ n.index = omega (arith, is) in
    ap (λ (i : ℕ). look_up (function_name u i) (functions_of u)) e
    ∙ (ap (λ (t : List ℕ). look_up t (functions_of u)) (name_at u.functions n.index n.name n.there)
    ∙ (looked_up_at n.index n.name (map (λ g. g.name) u.functions) d n.there ∙ ap (λ (i : ℕ). Some i) (sym e)))

-- ---- the settings of entries and definitions

pub entry_agrees : (u : CoreUnitTree) (f : CoreFunctionTree) (has_name : List ℕ → Bool) (w : Words) → w.functions ≡ function_name u → w.variables ≡ words_of f
    → differ bytes_eq (map (λ g. g.name) u.functions) ≡ true → differ bytes_eq (words (words_of f)) ≡ true → Agree (in_entry u f has_name) w
entry_agrees u f has_name w functions variables names d = record {
  variables = λ at x h. variable_by u f has_name w variables d at x x.kind refl h;
  ranges = λ at x h. range_by u f has_name w variables d at x x.kind refl h;
  functions = λ g h. ap (λ (name : ℕ → List ℕ). look_up (name g) (functions_of u)) functions ∙ function_found u g names h;
}

pub definition_agrees : (u : CoreUnitTree) (w : Words) → w.functions ≡ function_name u → differ bytes_eq (map (λ g. g.name) u.functions) ≡ true → Agree (in_definition u) w
definition_agrees u w functions names = record {
  variables = λ at x h. cc;
  ranges = λ at x h. cc;
  functions = λ g h. ap (λ (name : ℕ → List ℕ). look_up (name g) (functions_of u)) functions ∙ function_found u g names h;
}
