-- The words of an entry are written as they are read.
use Rattle.std.proofs.Common.{arith, ◌≡◌, ℕ, ◌+◌, ◌<◌, ◌==◌, ◌&&◌, ◌||◌, Bool, true, false, List, [], ◌∷◌, ◌++◌, if◌then◌else◌, Option, Some, None, refl, sym, ap, ◌∙◌, subst}
use Rattle.std.specs.Prelude.{bytes_eq, codes}
use Rattle.std.specs.List.{list_any, list_all}
use Rattle.std.proofs.lemmas.Bool.{and_from, or_left, or_right, both_ways}
use Rattle.std.proofs.lemmas.Bool.Decides.{nat_tests}
use Rattle.std.proofs.lemmas.List.Folds.{list_any-append}
use Rattle.std.proofs.lemmas.Slice.Eq.{bytes_eq-Decides}
use Rattle.std.proofs.lemmas.Option.{same_Some}
use Rattle.qs_memory.specs.declared.scalar.Scalar.{Scalar}
use Rattle.qs_memory.specs.Partial.{◌>>=◌}
use Rattle.qs_assert.specs.declared.variable.NumberType.{NumberType}
use Rattle.qs_assert.specs.declared.variable.VarKind.{VarKind}
use Rattle.qs_assert.specs.declared.variable.VarKind.TheVariants as kinds
use Rattle.qs_assert.specs.declared.variable.Var.{Var}
use Rattle.qs_assert.specs.Substitution.{same_number_type, same_variable}
use Rattle.qs_assert.proofs.SamenessLaws.{variable_equal, variable_self}
use Rattle.qs_core.specs.TermTexts.{temporary_text, variable_name}
use Rattle.qs_core.specs.Trees.{CoreFunctionTree, CoreUnitTree, CoreVariableTree}
use Rattle.qs_core.specs.FunctionNames.{function_name}
use Rattle.qs_sexpr.specs.Writing.{symbol_form}
use Rattle.qs_triples.specs.Mentions.{has_placed_parameter, plain_variable}
use Rattle.qs_triples.specs.Valuations.{if_number, number_if}
use Rattle.qs_prooftext_meaning.specs.Settings.{look_up, typed, with_word, variable_words, temporary_words, words_of, old_of, old_variable, in_entry}
use Rattle.qs_prooftext_meaning.specs.Writable.{as_list, is_meant, old_variables}
use Rattle.qs_prooftext_meaning.specs.Writing.{Words, headed, variable_form, word_for}
use Rattle.qs_prooftext.proofs.RowForms.{Fits, is_old}
use Rattle.qs_prooftext.proofs.ReadSound.{definition_fits}
use Rattle.qs_prooftext_meaning.proofs.WordLaws.{Rows, variables}

abbrev of_kind : VarKind → NumberType → Var
of_kind k t = record { kind = k; number = t }

-- ---- what holds of the variables of all rows

abbrev OnAll : (Var → Bool) → Rows → Type 0
OnAll p rows = list_all p (variables rows) ≡ true

abbrev OnNone : (Var → Bool) → Rows → Type 0
OnNone p rows = list_any p (variables rows) ≡ false

module _ (p : Var → Bool) where
  all_joined : (xs ys : Rows) → OnAll p xs → OnAll p ys → OnAll p (xs ++ ys)
  all_joined [] ys h k = k
  all_joined (x ∷ xs) ys h k = by (p x.1) h (λ m. all_joined xs ys m k)
    where
      by : (b : Bool) → (b && list_all p (variables xs)) ≡ true → (OnAll p xs → OnAll p (xs ++ ys)) → (b && list_all p (variables (xs ++ ys))) ≡ true
      by true h go = go h
      by false h go = h

  none_joined : (xs ys : Rows) → OnNone p xs → OnNone p ys → OnNone p (xs ++ ys)
  none_joined [] ys h k = k
  none_joined (x ∷ xs) ys h k = by (p x.1) h (λ m. none_joined xs ys m k)
    where
      by : (b : Bool) → (b || list_any p (variables xs)) ≡ false → (OnNone p xs → OnNone p (xs ++ ys)) → (b || list_any p (variables (xs ++ ys))) ≡ false
      by true h go = h
      by false h go = go h

  none_typed : (word : List ℕ) (k : VarKind) (o : Option NumberType) → ((t : NumberType) → p (of_kind k t) ≡ false) → OnNone p (with_word word (typed k o))
  none_typed word k None h = refl
  none_typed word k (Some t) h = ap (λ (b : Bool). b || false) (h t)

  none_if : (b : Bool) (rows : Rows) → OnNone p rows → OnNone p (if b then [] else rows)
  none_if true rows h = refl
  none_if false rows h = h

  no_temporary : (k : ℕ) (ss : List Scalar) → ((i : ℕ) (t : NumberType) → (i < k → ⊥) → p (of_kind (kinds.Temporary i) t) ≡ false) → OnNone p (temporary_words k ss)
  no_temporary k [] h = refl
  no_temporary k (s ∷ ss) h =
      none_joined (with_word (temporary_text k) (typed (kinds.Temporary k) (if_number s))) (temporary_words (k + 1) ss)
      (none_typed (temporary_text k) (kinds.Temporary k) (if_number s) (λ t. h k t (λ lt. omega (arith, lt))))
      (no_temporary (k + 1) ss (λ i t late. h i t (λ lt. late (omega (arith, lt)))))

  no_variable : (f : CoreFunctionTree) (k : ℕ) (vs : List CoreVariableTree) → ((i : ℕ) (t : NumberType) → (i < k → ⊥) → p (of_kind (kinds.Plain i) t) ≡ false) → OnNone p (variable_words f k vs)
  no_variable f k [] h = refl
  no_variable f k (v ∷ vs) h =
      none_joined (if has_placed_parameter f k then [] else with_word (variable_name v) (typed (kinds.Plain k) (if_number v.scalar))) (variable_words f (k + 1) vs)
      (none_if (has_placed_parameter f k) (with_word (variable_name v) (typed (kinds.Plain k) (if_number v.scalar)))
      (none_typed (variable_name v) (kinds.Plain k) (if_number v.scalar) (λ t. h k t (λ lt. omega (arith, lt)))))
      (no_variable f (k + 1) vs (λ i t late. h i t (λ lt. late (omega (arith, lt)))))

-- ---- no variable has two words

abbrev AreApart : Rows → Type 0
AreApart [] = Unit {0}
AreApart (row ∷ rows) = OnNone (same_variable row.1) rows × AreApart rows

other_number : (i j : ℕ) (b : Bool) → (j < i + 1 → ⊥) → ((i == j) && b) ≡ false
other_number i j b late = ap (λ (c : Bool). c && b) (differs i j late)
  where
    differs : (i j : ℕ) → (j < i + 1 → ⊥) → (i == j) ≡ false
    differs i j late = grind (arith, nat_tests, late)

temporaries_apart : (k : ℕ) (ss : List Scalar) → AreApart (temporary_words k ss)
temporaries_apart k [] = tt
temporaries_apart k (s ∷ ss) = by (if_number s) (temporaries_apart (k + 1) ss)
  where
    by : (o : Option NumberType) → AreApart (temporary_words (k + 1) ss) → AreApart (with_word (temporary_text k) (typed (kinds.Temporary k) o) ++ temporary_words (k + 1) ss)
    by None rest = rest
    by (Some t) rest =
        (no_temporary (same_variable (of_kind (kinds.Temporary k) t)) (k + 1) ss (λ j n late. other_number k j (same_number_type t n) late), rest)

assoc : (xs ys zs : Rows) → (xs ++ ys) ++ zs ≡ xs ++ (ys ++ zs)
assoc [] ys zs = refl
assoc (x ∷ xs) ys zs = ap (λ (rows : Rows). x ∷ rows) (assoc xs ys zs)

words_apart : (f : CoreFunctionTree) (k : ℕ) (vs : List CoreVariableTree) (ss : List Scalar) → AreApart (variable_words f k vs ++ temporary_words 0 ss)
words_apart f k [] ss = temporaries_apart 0 ss
words_apart f k (v ∷ vs) ss =
    let rest = words_apart f (k + 1) vs ss in
    subst AreApart (sym (assoc (if has_placed_parameter f k then [] else with_word (variable_name v) (typed (kinds.Plain k) (if_number v.scalar))) (variable_words f (k + 1) vs) (temporary_words 0 ss)))
    (placed_or (has_placed_parameter f k) (if_number v.scalar) rest)
  where
    placed_or : (b : Bool) (o : Option NumberType) → AreApart (variable_words f (k + 1) vs ++ temporary_words 0 ss)
        → AreApart ((if b then [] else with_word (variable_name v) (typed (kinds.Plain k) o)) ++ (variable_words f (k + 1) vs ++ temporary_words 0 ss))
    placed_or true o rest = rest
    placed_or false None rest = rest
    placed_or false (Some t) rest = (
      none_joined (same_variable (of_kind (kinds.Plain k) t)) (variable_words f (k + 1) vs) (temporary_words 0 ss)
          (no_variable (same_variable (of_kind (kinds.Plain k) t)) f (k + 1) vs (λ j n late. other_number k j (same_number_type t n) late))
          (no_temporary (same_variable (of_kind (kinds.Plain k) t)) 0 ss (λ j n late. refl)),
      rest,
    )

-- ---- what is found by a word

record IsFound (n : List ℕ) (rows : Rows) (x : Var) : Type 0 where
  word : word_for x rows ≡ n
  there : list_any (same_variable x) (variables rows) ≡ true
  old_there : (y : Var) → old_variable x ≡ Some y → list_any (same_variable y) (old_variables rows) ≡ true

found_first : (n : List ℕ) (row : List ℕ × Var) (rows : Rows) → row.0 ≡ n → IsFound n (row ∷ rows) row.1
found_first n row rows e = record {
  word = ap (λ (b : Bool). if b then row.0 else word_for row.1 rows) (variable_self row.1) ∙ e;
  there = or_left (same_variable row.1 row.1) (list_any (same_variable row.1) (variables rows)) (variable_self row.1);
  old_there = λ y is.
      list_any-append (same_variable y) (as_list (old_variable row.1)) (old_variables rows)
      ∙ or_left (list_any (same_variable y) (as_list (old_variable row.1))) (list_any (same_variable y) (old_variables rows))
      (ap (λ (o : Option Var). list_any (same_variable y) (as_list o)) is ∙ or_left (same_variable y y) false (variable_self y));
}

found_behind : (n : List ℕ) (row : List ℕ × Var) (rows : Rows) (x : Var) → OnNone (same_variable row.1) rows → IsFound n rows x → IsFound n (row ∷ rows) x
found_behind n row rows x apart h = by (same_variable row.1 x) refl
  where
    by : (b : Bool) → same_variable row.1 x ≡ b → IsFound n (row ∷ rows) x
    by true same =
        let e : row.1 ≡ x = variable_equal row.1 x same in
        absurd (both_ways (list_any (same_variable row.1) (variables rows)) apart (ap (λ (y : Var). list_any (same_variable y) (variables rows)) e ∙ h.there))
    by false same = record {
      word = ap (λ (b : Bool). if b then row.0 else word_for x rows) same ∙ h.word;
      there = or_right (same_variable x row.1) (list_any (same_variable x) (variables rows)) h.there;
      old_there = λ y is.
          list_any-append (same_variable y) (as_list (old_variable row.1)) (old_variables rows)
          ∙ or_right (list_any (same_variable y) (as_list (old_variable row.1))) (list_any (same_variable y) (old_variables rows)) (h.old_there y is);
    }

found_word : (n : List ℕ) (rows : Rows) (x : Var) → AreApart rows → look_up n rows ≡ Some x → IsFound n rows x
found_word n [] x apart e = cc
found_word n (row ∷ rows) x apart e = by (bytes_eq row.0 n) refl e (found_word n rows x apart.1)
  where
    by : (b : Bool) → bytes_eq row.0 n ≡ b → (if b then Some row.1 else look_up n rows) ≡ Some x → (look_up n rows ≡ Some x → IsFound n rows x) → IsFound n (row ∷ rows) x
    by true is f more = subst (IsFound n (row ∷ rows)) (same_Some row.1 x f) (found_first n row rows ((bytes_eq-Decides row.0 n).0 is))
    by false is f more = found_behind n row rows x apart.0 (more f)

-- ---- kinds

-- the variables and temporaries of the function
abbrev is_own : VarKind → Bool
is_own (kinds.Plain i) = true
is_own (kinds.Temporary k) = true
is_own (kinds.Old i) = false
is_own kinds.Returned = false

own_typed : (word : List ℕ) (k : VarKind) (o : Option NumberType) → is_own k ≡ true → OnAll (λ x. is_own x.kind) (with_word word (typed k o))
own_typed word k None h = refl
own_typed word k (Some t) h = ap (λ (b : Bool). b && true) h

own_if : (b : Bool) (rows : Rows) → OnAll (λ x. is_own x.kind) rows → OnAll (λ x. is_own x.kind) (if b then [] else rows)
own_if true rows h = refl
own_if false rows h = h

own_variables : (f : CoreFunctionTree) (k : ℕ) (vs : List CoreVariableTree) → OnAll (λ x. is_own x.kind) (variable_words f k vs)
own_variables f k [] = refl
own_variables f k (v ∷ vs) =
    all_joined (λ x. is_own x.kind) (if has_placed_parameter f k then [] else with_word (variable_name v) (typed (kinds.Plain k) (if_number v.scalar))) (variable_words f (k + 1) vs)
    (own_if (has_placed_parameter f k) (with_word (variable_name v) (typed (kinds.Plain k) (if_number v.scalar))) (own_typed (variable_name v) (kinds.Plain k) (if_number v.scalar) refl))
    (own_variables f (k + 1) vs)

own_temporaries : (k : ℕ) (ss : List Scalar) → OnAll (λ x. is_own x.kind) (temporary_words k ss)
own_temporaries k [] = refl
own_temporaries k (s ∷ ss) =
    all_joined (λ x. is_own x.kind) (with_word (temporary_text k) (typed (kinds.Temporary k) (if_number s))) (temporary_words (k + 1) ss)
    (own_typed (temporary_text k) (kinds.Temporary k) (if_number s) refl) (own_temporaries (k + 1) ss)

own_found : (n : List ℕ) (rows : Rows) (x : Var) → OnAll (λ x. is_own x.kind) rows → look_up n rows ≡ Some x → is_own x.kind ≡ true
own_found n [] x all e = cc
own_found n (row ∷ rows) x all e = by (bytes_eq row.0 n) (is_own row.1.kind) refl e all (own_found n rows x)
  where
    by : (b own : Bool) → is_own row.1.kind ≡ own → (if b then Some row.1 else look_up n rows) ≡ Some x → (own && list_all (λ x. is_own x.kind) (variables rows)) ≡ true
        → (OnAll (λ x. is_own x.kind) rows → look_up n rows ≡ Some x → is_own x.kind ≡ true) → is_own x.kind ≡ true
    by true true is f h more = ap (λ (y : Var). is_own y.kind) (sym (same_Some row.1 x f)) ∙ is
    by true false is f h more = cc
    by false true is f h more = more h f
    by false false is f h more = cc

-- ---- the words of an entry

either_left : (a b c : Bool) → a ≡ true → ((a || b) || c) ≡ true
either_left a b c h = or_left (a || b) c (or_left a b h)

either_middle : (a b c : Bool) → b ≡ true → ((a || b) || c) ≡ true
either_middle a b c h = or_left (a || b) c (or_right a b h)

module _ (u : CoreUnitTree) (f : CoreFunctionTree) (has_name known : List ℕ → Bool) (grows : (n : List ℕ) → has_name n ≡ true → known n ≡ true) where
  abbrev words : Words
  words = record { functions = function_name u; variables = words_of f }

  apart_so : AreApart (words_of f)
  apart_so = words_apart f 0 f.variables f.temporaries

  own_so : OnAll (λ x. is_own x.kind) (words_of f)
  own_so =
      all_joined (λ x. is_own x.kind) (variable_words f 0 f.variables) (temporary_words 0 f.temporaries) (own_variables f 0 f.variables) (own_temporaries 0 f.temporaries)

  split : (x : Var) → is_meant (in_entry u f known) x ≡ ((list_any (same_variable x) (variables (words_of f)) || list_any (same_variable x) (old_variables (words_of f))) || list_any (same_variable x) (as_list (typed kinds.Returned (number_if f.result_type))))
  split x =
      list_any-append (same_variable x) (variables (words_of f) ++ old_variables (words_of f)) (as_list (typed kinds.Returned (number_if f.result_type)))
      ∙ ap (λ (b : Bool). b || list_any (same_variable x) (as_list (typed kinds.Returned (number_if f.result_type)))) (list_any-append (same_variable x) (variables (words_of f)) (old_variables (words_of f)))

  by_kind : (x : Var) (k : VarKind) (n : List ℕ) → is_own k ≡ true → word_for x (words_of f) ≡ n → variable_form words x k ≡ symbol_form n
  by_kind x (kinds.Plain i) n own e = ap (λ (w : List ℕ). symbol_form w) e
  by_kind x (kinds.Temporary k) n own e = ap (λ (w : List ℕ). symbol_form w) e
  by_kind x (kinds.Old i) n own e = cc
  by_kind x kinds.Returned n own e = cc

  variables_so : (n : List ℕ) (x : Var) → look_up n (words_of f) ≡ Some x → (variable_form words x x.kind ≡ symbol_form n) × (is_meant (in_entry u f known) x ≡ true)
  variables_so n x e =
      let h = found_word n (words_of f) x apart_so e in
      (by_kind x x.kind n (own_found n (words_of f) x own_so e) h.word, split x ∙ either_left (list_any (same_variable x) (variables (words_of f))) (list_any (same_variable x) (old_variables (words_of f))) _ h.there)

  -- the variable whose value at the entry it is
  old_so : (n : List ℕ) (y x : Var) (k : VarKind) → y.kind ≡ k → old_of y k ≡ Some x → IsFound n (words_of f) y → (word_for (plain_variable x) (words_of f) ≡ n) × ((is_meant (in_entry u f known) x && is_old x.kind) ≡ true)
  old_so n y x (kinds.Plain i) e is h =
      let s : of_kind (kinds.Old i) y.number ≡ x = same_Some (of_kind (kinds.Old i) y.number) x is in
      let plain : plain_variable x ≡ y = ap plain_variable (sym s) ∙ (λ j. record { kind = sym e j; number = y.number }) in
      let old : old_variable y ≡ Some x = (λ j. old_of y (e j)) ∙ is in
      let meant = split x ∙ either_middle (list_any (same_variable x) (variables (words_of f))) (list_any (same_variable x) (old_variables (words_of f))) _ (h.old_there x old) in
      (ap (λ (z : Var). word_for z (words_of f)) plain ∙ h.word, and_from (is_meant (in_entry u f known) x) (is_old x.kind) meant (ap (λ (z : Var). is_old z.kind) (sym s)))
  old_so n y x (kinds.Temporary k) e is h = cc
  old_so n y x (kinds.Old i) e is h = cc
  old_so n y x kinds.Returned e is h = cc

  olds_so : (n : List ℕ) (x : Var) (o : Option Var) → look_up n (words_of f) ≡ o → (o >>= old_variable) ≡ Some x → (word_for (plain_variable x) (words_of f) ≡ n) × ((is_meant (in_entry u f known) x && is_old x.kind) ≡ true)
  olds_so n x None found e = cc
  olds_so n x (Some y) found e = old_so n y x y.kind refl e (found_word n (words_of f) y apart_so found)

  returned_so : (x : Var) (o : Option NumberType) → number_if f.result_type ≡ o → typed kinds.Returned o ≡ Some x → (variable_form words x x.kind ≡ headed (codes "result") []) × (is_meant (in_entry u f known) x ≡ true)
  returned_so x None is e = cc
  returned_so x (Some t) is e =
      let s : of_kind kinds.Returned t ≡ x = same_Some (of_kind kinds.Returned t) x e in
      let kind : x.kind ≡ kinds.Returned = ap (λ (y : Var). y.kind) (sym s) in
      let there : list_any (same_variable x) (as_list (typed kinds.Returned (number_if f.result_type))) ≡ true =
      ap (λ (o : Option Var). list_any (same_variable x) (as_list o)) (ap (typed kinds.Returned) is ∙ e) ∙ or_left (same_variable x x) false (variable_self x) in
      (ap (variable_form words x) kind, split x ∙ or_right (list_any (same_variable x) (variables (words_of f)) || list_any (same_variable x) (old_variables (words_of f))) _ there)

  pub entry_fits : Fits (in_entry u f has_name) (in_entry u f known) words
  entry_fits = record {
    variables = variables_so;
    olds = λ n x e. olds_so n x (look_up n (words_of f)) refl e;
    returned = λ x e. returned_so x (number_if f.result_type) refl e;
    functions = (definition_fits u).functions;
    names = grows;
  }
