-- Forms as they are written: words, and where lists begin and end.
use Rattle.std.specs.Prelude.{ℕ, ◌+◌, ◌-◌, min, List, [], ◌∷◌, ◌++◌, length, true, false}
use Rattle.std.specs.Fmt.{decimal, signed_decimal}
use Rattle.qs_base.specs.Characters.{left_parenthesis, new_line, right_parenthesis}
use Rattle.qs_sexpr.specs.Layout.{before, behind, inside, ending}
use Rattle.qs_sexpr.specs.Writing.{Form, symbol_form, number_form, list_form, Forms, no_forms, form_and}
use Rattle.qs_sexpr.specs.declared.layout.Layer.{Layer}
use Rattle.qs_sexpr.specs.declared.layout.Layer.TheVariants.{Top, OnLine, Head, Second, Others}
use Rattle.qs_sexpr.specs.declared.token.Token.{Token}
use Rattle.qs_sexpr.specs.declared.token.Token.TheVariants as tokens

pub data Mark : Type 0 where
  opens : Mark
  closes : Mark
  word : (bytes : List ℕ) → Mark

abbrev pub mark_of : Token → Mark
mark_of tokens.Open = opens
mark_of tokens.Close = closes
mark_of (tokens.Symbol bytes) = word bytes.now
mark_of (tokens.Number value) = word (signed_decimal value)
mark_of (tokens.Natural value) = word (decimal value)

abbrev mutual
  pub marks : Form → List Mark
  marks (symbol_form bytes) = word bytes ∷ []
  marks (number_form value) = word (signed_decimal value) ∷ []
  marks (list_form forms) = opens ∷ (all_marks forms ++ closes ∷ [])

  pub all_marks : Forms → List Mark
  all_marks no_forms = []
  all_marks (form_and form forms) = marks form ++ all_marks forms

-- ---- sizes, from the end

abbrev pub first_of : List ℕ → ℕ
first_of [] = 0
first_of (n ∷ ns) = n

abbrev pub others_of : List ℕ → List ℕ
others_of [] = []
others_of (n ∷ ns) = ns

-- what is wider than a line counts as this
abbrev pub wide : ℕ
wide = 101

abbrev pub added : ℕ → List ℕ → List ℕ
added n ns = min wide (n + first_of ns) ∷ others_of ns

-- a list whose parts have so many bytes, each with a blank before it
abbrev pub list_size : ℕ → ℕ
list_size n = min wide n - 1 + 2

-- the sizes of what is left in each list that is open here, the innermost first
abbrev pub sizes : List Mark → List ℕ
sizes [] = []
sizes (opens ∷ ms) = added (list_size (first_of (sizes ms)) + 1) (others_of (sizes ms))
sizes (closes ∷ ms) = 0 ∷ sizes ms
sizes (word bytes ∷ ms) = added (length bytes + 1) (sizes ms)

-- the sizes of the lists that begin, in order
abbrev pub list_sizes : List Mark → List ℕ
list_sizes [] = []
list_sizes (opens ∷ ms) = list_size (first_of (sizes ms)) ∷ list_sizes ms
list_sizes (closes ∷ ms) = list_sizes ms
list_sizes (word bytes ∷ ms) = list_sizes ms

-- ---- layout, from the front

-- a form that stands in no list ends its line
abbrev pub line_end : Layer → List ℕ
line_end Top = new_line ∷ []
line_end (OnLine is_first) = []
line_end (Head column) = []
line_end (Second column room) = []
line_end (Others column) = []

abbrev pub layer_of : List Layer → Layer
layer_of [] = Top
layer_of (l ∷ ls) = l

abbrev pub layers_behind : List Layer → List Layer
layers_behind [] = []
layers_behind (l ∷ ls) = ls

-- the text of these marks, where lists are open: the innermost, and those around it
abbrev pub laid_marks : List Mark → Layer → List Layer → List ℕ
laid_marks [] l ls = []
laid_marks (opens ∷ ms) l ls =
    before l false 0 ++ (left_parenthesis ∷ laid_marks ms (inside l (list_size (first_of (sizes ms)))) (behind l false 0 ∷ ls))
laid_marks (closes ∷ ms) l ls =
    ending l ++ (right_parenthesis ∷ (line_end (layer_of ls) ++ laid_marks ms (layer_of ls) (layers_behind ls)))
laid_marks (word bytes ∷ ms) l ls =
    before l true (length bytes) ++ (bytes ++ (line_end l ++ laid_marks ms (behind l true (length bytes)) ls))
