-- Lists and atoms as they are laid out for people.
--
-- A list stands on one line where it fits. Else its first part stands behind the `(`, if that is an atom, and so does its
-- second, if both are atoms and it fits; each other part stands on a line of its own, two columns further right than the
-- `(`, and the `)` on a last one, under the `(`. No line begins further right than column 60.
use Rattle.std.specs.Prelude.{ℕ, ◌+◌, ◌-◌, min, Bool, true, false, nat_le, nat_lt, List, [], ◌∷◌, ◌++◌, replicate, if◌then◌else◌}
use Rattle.std.specs.Fmt.{signed_decimal}
use Rattle.qs_base.specs.Characters.{left_parenthesis, new_line, right_parenthesis, space}
use Rattle.qs_sexpr.specs.Writing.{Form, symbol_form, number_form, list_form, Forms, no_forms, form_and, size}
use Rattle.qs_sexpr.specs.declared.layout.Layer.{Layer}
use Rattle.qs_sexpr.specs.declared.layout.Layer.TheVariants.{Top, OnLine, Head, Second, Others}

-- how many columns a line has
abbrev pub line : ℕ
line = 100

abbrev pub next_line : (column : ℕ) → List ℕ
next_line column = new_line ∷ replicate column space

-- how far right a list begins whose parts still stand two columns further right
abbrev pub deepest_column : ℕ
deepest_column = 58

abbrev pub deeper : (column : ℕ) → ℕ
deeper column = min column deepest_column + 2

-- ---- a part

abbrev pub is_atom : Form → Bool
is_atom (symbol_form bytes) = true
is_atom (number_form value) = true
is_atom (list_form forms) = false

-- what stands before the next part of a list, which has so many bytes
abbrev pub before : Layer → (is_atom : Bool) → (size : ℕ) → List ℕ
before Top atom n = []
before (OnLine is_first) atom n = if is_first then [] else space ∷ []
before (Head column) atom n = if atom then [] else next_line (deeper column)
before (Second column room) atom n =
    if atom then if nat_lt n room then space ∷ [] else next_line (deeper column)
    else next_line (deeper column)
before (Others column) atom n = next_line (deeper column)

-- how the list goes on behind it
abbrev pub behind : Layer → (is_atom : Bool) → (size : ℕ) → Layer
behind Top atom n = Top
behind (OnLine is_first) atom n = OnLine false
behind (Head column) atom n = if atom then Second column (line - (column + 1) - n) else Others column
behind (Second column room) atom n = Others column
behind (Others column) atom n = Others column

-- a list at this column, which has so many bytes
abbrev pub begun : (column size : ℕ) → Layer
begun column n = if nat_le n (line - column) then OnLine true else Head column

-- how the part begins, if it is a list
abbrev pub inside : Layer → (size : ℕ) → Layer
inside Top n = begun 0 n
inside (OnLine is_first) n = OnLine true
inside (Head column) n = begun (deeper column) n
inside (Second column room) n = begun (deeper column) n
inside (Others column) n = begun (deeper column) n

-- what stands before the `)`
abbrev pub ending : Layer → List ℕ
ending Top = []
ending (OnLine is_first) = []
ending (Head column) = next_line column
ending (Second column room) = next_line column
ending (Others column) = next_line column

-- ---- forms before other text

abbrev mutual
  pub lay : Layer → Form → List ℕ → List ℕ
  lay l (symbol_form bytes) text = bytes ++ text
  lay l (number_form value) text = signed_decimal value ++ text
  lay l (list_form forms) text = left_parenthesis ∷ lay_parts (inside l (size (list_form forms))) forms text

  pub lay_parts : Layer → Forms → List ℕ → List ℕ
  lay_parts l no_forms text = ending l ++ right_parenthesis ∷ text
  lay_parts l (form_and form forms) text =
      before l (is_atom form) (size form) ++ lay l form (lay_parts (behind l (is_atom form) (size form)) forms text)

-- each on a line of its own, or on several
abbrev pub lay_all : Forms → List ℕ
lay_all no_forms = []
lay_all (form_and form forms) = lay Top form (new_line ∷ lay_all forms)
