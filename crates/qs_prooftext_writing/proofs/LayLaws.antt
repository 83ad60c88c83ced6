-- Texts of lists one behind the other.
use Rattle.std.proofs.Common.{◌≡◌, ℕ, List, [], ◌∷◌, ◌++◌, map, append_assoc, append-nil, refl, sym, ap, ◌∙◌}
use Rattle.std.specs.Prelude.{codes}
use Rattle.std.specs.Fmt.{signed_decimal}
use Rattle.std.specs.List.{slice_get}
use Rattle.qs_assert.specs.declared.define.Define.{Define}
use Rattle.qs_assert.specs.declared.variable.Var.{Var}
use Rattle.qs_core.specs.TreeOf.{function_tree}
use Rattle.qs_core.specs.FunctionNames.{name_in}
use Rattle.qs_core.specs.declared.units.CoreFunction.{CoreFunction}
use Rattle.qs_sexpr.specs.Layout.{before, behind, ending, inside, is_atom, lay, lay_all, lay_parts}
use Rattle.qs_sexpr.specs.Marks.{all_marks, mark_of, marks}
use Rattle.qs_sexpr.specs.Writing.{Form, symbol_form, number_form, list_form, Forms, no_forms, form_and, size}
use Rattle.qs_sexpr.specs.declared.layout.Layer.{Layer}
use Rattle.qs_sexpr.specs.declared.layout.Layer.TheVariants.{Top}
use Rattle.qs_sexpr.specs.declared.token.Token.{Token}
use Rattle.qs_triples.specs.Derivations.{EntryTree}
use Rattle.qs_prooftext_meaning.specs.Writing.{Words, assertion_form, entry_form_by, forms_of, headed}

-- what stands behind a form doesn't change how it is laid out
mutual
  laid_before : (l : Layer) (f : Form) (text more : List ℕ) → lay l f (text ++ more) ≡ lay l f text ++ more
  laid_before l (symbol_form bytes) text more = sym (append_assoc bytes text more)
  laid_before l (number_form value) text more = sym (append_assoc (signed_decimal value) text more)
  laid_before l (list_form forms) text more =
      ap (λ (bs : List ℕ). 40 ∷ bs) (parts_before (inside l (size (list_form forms))) forms text more)

  parts_before : (l : Layer) (fs : Forms) (text more : List ℕ) → lay_parts l fs (text ++ more) ≡ lay_parts l fs text ++ more
  parts_before l no_forms text more = sym (append_assoc (ending l) (41 ∷ text) more)
  parts_before l (form_and f fs) text more =
      let b : List ℕ = before l (is_atom f) (size f) in
      let rest : List ℕ = lay_parts (behind l (is_atom f) (size f)) fs text in
      ap (λ (bs : List ℕ). b ++ lay l f bs) (parts_before (behind l (is_atom f) (size f)) fs text more)
      ∙ (ap (λ (bs : List ℕ). b ++ bs) (laid_before l f rest more) ∙ sym (append_assoc b (lay l f rest) more))

one_laid : (f : Form) (fs : List Form) → lay_all (forms_of (f ∷ fs)) ≡ lay_all (forms_of (f ∷ [])) ++ lay_all (forms_of fs)
one_laid f fs = laid_before Top f (10 ∷ []) (lay_all (forms_of fs))

all_laid : (fs gs : List Form) → lay_all (forms_of (fs ++ gs)) ≡ lay_all (forms_of fs) ++ lay_all (forms_of gs)
all_laid [] gs = refl
all_laid (f ∷ fs) gs =
    ap (λ (bs : List ℕ). lay Top f (10 ∷ bs)) (all_laid fs gs) ∙ laid_before Top f (10 ∷ lay_all (forms_of fs)) (lay_all (forms_of gs))

-- a text goes on with one form of a list
pub next_laid : (now text : List ℕ) (f : Form) (fs : List Form) {due : List ℕ} → text ≡ now ++ lay_all (forms_of (f ∷ []))
    → now ++ lay_all (forms_of (f ∷ fs)) ≡ due → text ++ lay_all (forms_of fs) ≡ due
next_laid now text f fs e h =
    ap (λ (bs : List ℕ). bs ++ lay_all (forms_of fs)) e
    ∙ (append_assoc now (lay_all (forms_of (f ∷ []))) (lay_all (forms_of fs)) ∙ (ap (λ (bs : List ℕ). now ++ bs) (sym (one_laid f fs)) ∙ h))

-- the whole text
pub both_laid : (text now start : List ℕ) (fs gs : List Form) → text ≡ now ++ lay_all (forms_of gs) → now ≡ start ++ lay_all (forms_of fs) → start ≡ [] → text ≡ lay_all (forms_of (fs ++ gs))
both_laid text now start fs gs p q e =
    p ∙ (ap (λ (bs : List ℕ). bs ++ lay_all (forms_of gs)) (q ∙ ap (λ (bs : List ℕ). bs ++ lay_all (forms_of fs)) e) ∙ sym (all_laid fs gs))

-- ---- the tokens of one list

pub one_form : (out tokens start : List Token) (f g : Form) → out ≡ tokens → map mark_of tokens ≡ map mark_of start ++ marks f → start ≡ [] → f ≡ g
    → map mark_of out ≡ all_marks (forms_of (g ∷ []))
one_form out tokens start f g o p s e =
    ap (λ (ts : List Token). map mark_of ts) o
    ∙ (p ∙ (ap (λ (ts : List Token). map mark_of ts ++ marks f) s ∙ (ap marks e ∙ sym (append-nil (marks g)))))

-- the words of functions and variables
abbrev pub words_by : List CoreFunction → List (List ℕ × Var) → Words
words_by fs ws = record { functions = λ f. name_in (slice_get (map function_tree fs) f); variables = ws }

abbrev pub define_by : Define → List CoreFunction → Form
define_by d fs = headed (codes "define") (symbol_form d.name ∷ assertion_form (words_by fs []) d.body ∷ [])

abbrev pub entry_by : EntryTree → List CoreFunction → List (List ℕ × Var) → Form
entry_by e fs ws = entry_form_by ((words_by fs ws).functions e.function) (words_by fs ws) e

pub entries_alike : (e : EntryTree) (fs gs : List CoreFunction) (vs ws : List (List ℕ × Var)) → fs ≡ gs → vs ≡ ws → entry_by e fs vs ≡ entry_by e gs ws
entries_alike e fs gs vs ws p q = λ i. entry_by e (p i) (q i)
