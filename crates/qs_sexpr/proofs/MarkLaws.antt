-- The text of the marks of forms is how they are laid out.
use Rattle.std.proofs.Common.{arith, ◌≡◌, ℕ, ◌+◌, ◌-◌, min, Bool, true, false, nat_le, List, [], ◌∷◌, ◌++◌, length, append_assoc, refl, ap, ◌∙◌, if◌then◌else◌}
use Rattle.std.proofs.lemmas.Bool.Decides.{nat_tests}
use Rattle.std.specs.Fmt.{signed_decimal}
use Rattle.qs_base.specs.Characters.{left_parenthesis, new_line}
use Rattle.qs_sexpr.specs.Layout.{deeper, is_atom, before, behind, begun, inside, lay, lay_parts, lay_all, line}
use Rattle.qs_sexpr.specs.Marks.{Mark, opens, closes, word, marks, all_marks, first_of, others_of, added, list_size, sizes, line_end, laid_marks, wide}
use Rattle.qs_sexpr.specs.Writing.{Form, symbol_form, number_form, list_form, Forms, no_forms, form_and, size, size_all, size_others}
use Rattle.qs_sexpr.specs.declared.layout.Layer.{Layer}
use Rattle.qs_sexpr.specs.declared.layout.Layer.TheVariants.{Top, OnLine, Head, Second, Others}
use Rattle.qs_sexpr.proofs.LayoutLaws.{IsOpen, inside_open, behind_open}

-- ---- sizes

sizes_of_list : (n : ℕ) → list_size (min wide n) ≡ list_size n
sizes_of_list n = omega arith

all_of_others : (forms : Forms) → size_others forms - 1 ≡ size_all forms
all_of_others no_forms = refl
all_of_others (form_and form forms) = omega arith

capped : (n f : ℕ) → min wide (list_size n + 1 + f) ≡ min wide (1 + (n - 1) + 1 + 1 + f)
capped n f = omega arith

next_size : (n m : ℕ) → min wide (n + 1 + min wide m) ≡ min wide (1 + n + m)
next_size n m = omega arith

mutual
  pub form_sizes : (form : Form) (ms : List Mark) → sizes (marks form ++ ms) ≡ added (size form + 1) (sizes ms)
  form_sizes (symbol_form bytes) ms = refl
  form_sizes (number_form value) ms = refl
  form_sizes (list_form forms) ms =
      ap (λ (xs : List Mark). sizes (opens ∷ xs)) (append_assoc (all_marks forms) (closes ∷ []) ms)
      ∙ (ap (λ (ns : List ℕ). added (list_size (first_of ns) + 1) (others_of ns)) (forms_sizes forms ms)
      ∙ (ap (λ (k : ℕ). added (k + 1) (sizes ms)) (sizes_of_list (size_others forms))
      ∙ (ap (λ (k : ℕ). k ∷ others_of (sizes ms)) (capped (size_others forms) (first_of (sizes ms)))
      ∙ ap (λ (k : ℕ). min wide (1 + k + 1 + 1 + first_of (sizes ms)) ∷ others_of (sizes ms)) (all_of_others forms))))

  pub forms_sizes : (forms : Forms) (ms : List Mark) → sizes (all_marks forms ++ closes ∷ ms) ≡ min wide (size_others forms) ∷ sizes ms
  forms_sizes no_forms ms = refl
  forms_sizes (form_and form forms) ms =
      ap sizes (append_assoc (marks form) (all_marks forms) (closes ∷ ms))
      ∙ (form_sizes form (all_marks forms ++ closes ∷ ms)
      ∙ (ap (added (size form + 1)) (forms_sizes forms ms)
      ∙ ap (λ (k : ℕ). k ∷ sizes ms) (next_size (size form) (size_others forms))))

-- ---- layers

fits_alike : (n column : ℕ) → nat_le (list_size n) (line - column) ≡ nat_le (1 + (n - 1) + 1) (line - column)
fits_alike n column = grind (arith, nat_tests)

begun_alike : (n column : ℕ) → begun column (list_size n) ≡ begun column (1 + (n - 1) + 1)
begun_alike n column = ap (λ (b : Bool). if b then OnLine true else Head column) (fits_alike n column)

inside_alike : (l : Layer) (n : ℕ) → inside l (list_size n) ≡ inside l (1 + (n - 1) + 1)
inside_alike Top n = begun_alike n 0
inside_alike (OnLine is_first) n = refl
inside_alike (Head column) n = begun_alike n (deeper column)
inside_alike (Second column room) n = begun_alike n (deeper column)
inside_alike (Others column) n = begun_alike n (deeper column)

before_list : (l : Layer) (n : ℕ) → before l false 0 ≡ before l false n
before_list Top n = refl
before_list (OnLine is_first) n = refl
before_list (Head column) n = refl
before_list (Second column room) n = refl
before_list (Others column) n = refl

behind_list : (l : Layer) (n : ℕ) → behind l false 0 ≡ behind l false n
behind_list Top n = refl
behind_list (OnLine is_first) n = refl
behind_list (Head column) n = refl
behind_list (Second column room) n = refl
behind_list (Others column) n = refl

-- a part ends its line where it stands in no list
same_end : (l : Layer) (atom : Bool) (n : ℕ) → line_end l ≡ line_end (behind l atom n)
same_end Top atom n = refl
same_end (OnLine is_first) atom n = refl
same_end (Head column) true n = refl
same_end (Head column) false n = refl
same_end (Second column room) atom n = refl
same_end (Others column) atom n = refl

no_end : (l : Layer) → IsOpen l → line_end l ≡ []
no_end Top h = absurd h
no_end (OnLine is_first) h = refl
no_end (Head column) h = refl
no_end (Second column room) h = refl
no_end (Others column) h = refl

list_inside : (l : Layer) (forms : Forms) (ms : List Mark) → inside l (list_size (first_of (sizes (all_marks forms ++ closes ∷ ms)))) ≡ inside l (size (list_form forms))
list_inside l forms ms =
    ap (λ (ns : List ℕ). inside l (list_size (first_of ns))) (forms_sizes forms ms)
    ∙ (ap (inside l) (sizes_of_list (size_others forms))
    ∙ (inside_alike l (size_others forms) ∙ ap (λ (k : ℕ). inside l (1 + k + 1)) (all_of_others forms)))

-- ---- texts

-- what stands behind a form
abbrev text_behind : Layer → List Layer → List Mark → List ℕ
text_behind l ls ms = line_end l ++ laid_marks ms l ls

word_laid : (bytes : List ℕ) (l : Layer) (ls : List Layer) (ms : List Mark)
    → laid_marks (word bytes ∷ ms) l ls ≡ before l true (length bytes) ++ (bytes ++ text_behind (behind l true (length bytes)) ls ms)
word_laid bytes l ls ms =
    ap (λ (e : List ℕ). before l true (length bytes) ++ (bytes ++ (e ++ laid_marks ms (behind l true (length bytes)) ls))) (same_end l true (length bytes))

mutual
  form_laid : (form : Form) (l : Layer) (ls : List Layer) (ms : List Mark)
      → laid_marks (marks form ++ ms) l ls ≡ before l (is_atom form) (size form) ++ lay l form (text_behind (behind l (is_atom form) (size form)) ls ms)
  form_laid (symbol_form bytes) l ls ms = word_laid bytes l ls ms
  form_laid (number_form value) l ls ms = word_laid (signed_decimal value) l ls ms
  form_laid (list_form forms) l ls ms =
      let n : ℕ = size (list_form forms) in
      ap (λ (xs : List Mark). laid_marks (opens ∷ xs) l ls) (append_assoc (all_marks forms) (closes ∷ []) ms)
      ∙ ((λ i. before_list l n i ++ (left_parenthesis ∷ laid_marks (all_marks forms ++ closes ∷ ms) (list_inside l forms ms i) (behind_list l n i ∷ ls)))
      ∙ ap (λ (t : List ℕ). before l false n ++ (left_parenthesis ∷ t)) (parts_laid forms (inside l n) (behind l false n) ls ms (inside_open l n)))

  parts_laid : (forms : Forms) (l k : Layer) (ls : List Layer) (ms : List Mark) → IsOpen l
      → laid_marks (all_marks forms ++ closes ∷ ms) l (k ∷ ls) ≡ lay_parts l forms (text_behind k ls ms)
  parts_laid no_forms l k ls ms h = refl
  parts_laid (form_and form forms) l k ls ms h =
      let a : Bool = is_atom form in
      let n : ℕ = size form in
      let b : Layer = behind l a n in
      let o : IsOpen b = behind_open l a n h in
      ap (λ (xs : List Mark). laid_marks xs l (k ∷ ls)) (append_assoc (marks form) (all_marks forms) (closes ∷ ms))
      ∙ (form_laid form l (k ∷ ls) (all_marks forms ++ closes ∷ ms)
      ∙ ap (λ (t : List ℕ). before l a n ++ lay l form t) (ap (λ (e : List ℕ). e ++ laid_marks (all_marks forms ++ closes ∷ ms) b (k ∷ ls)) (no_end b o) ∙ parts_laid forms b k ls ms o))

pub all_are_laid : (forms : Forms) → laid_marks (all_marks forms) Top [] ≡ lay_all forms
all_are_laid no_forms = refl
all_are_laid (form_and form forms) =
    form_laid form Top [] (all_marks forms) ∙ ap (λ (t : List ℕ). lay Top form (new_line ∷ t)) (all_are_laid forms)
