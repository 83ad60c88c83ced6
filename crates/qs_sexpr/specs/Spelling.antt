-- Texts of lists and atoms: numbers in decimal, white space between the parts of a list, and any around them.
use Rattle.std.specs.Prelude.{◌≡◌, ℕ, ℤ, true, List, ◌∷◌, ◌++◌}
use Rattle.std.specs.Fmt.{signed_decimal}
use Rattle.std.specs.List.{list_all}
use Rattle.qs_sexpr.specs.Bytes.{is_space}
use Rattle.qs_base.specs.Characters.{left_parenthesis, right_parenthesis}
use Rattle.qs_sexpr.specs.Reading.{Reading}
use Rattle.qs_sexpr.specs.Trees.{Sexps}
use Rattle.qs_sexpr.specs.Writing.{Form, symbol_form, number_form, list_form, Forms, no_forms, form_and, forms_of_parts}

abbrev pub IsSpace : List ℕ → Type 0
IsSpace bytes = list_all is_space bytes ≡ true

mutual
  -- the text begins with the form, and `rest` stands behind it
  pub data Spells : Form → (text rest : List ℕ) → Type 0 where
    a_symbol : {bytes rest : List ℕ} → Spells (symbol_form bytes) (bytes ++ rest) rest
    a_number : {value : ℤ} {rest : List ℕ} → Spells (number_form value) (signed_decimal value ++ rest) rest
    a_list : {forms : Forms} {text rest : List ℕ} → SpellAll forms text (right_parenthesis ∷ rest) → Spells (list_form forms) (left_parenthesis ∷ text) rest

  -- the text begins with the forms
  pub data SpellAll : Forms → (text rest : List ℕ) → Type 0 where
    no_part : {rest : List ℕ} (space : List ℕ) → IsSpace space → SpellAll no_forms (space ++ rest) rest
    first_part : {form : Form} {forms : Forms} {text behind rest : List ℕ} (space : List ℕ) → IsSpace space
        → Spells form text behind → SpellOthers forms behind rest → SpellAll (form_and form forms) (space ++ text) rest

  -- the text begins with the forms, with white space before each
  pub data SpellOthers : Forms → (text rest : List ℕ) → Type 0 where
    no_other : {rest : List ℕ} (space : List ℕ) → IsSpace space → SpellOthers no_forms (space ++ rest) rest
    next_part : {form : Form} {forms : Forms} {text behind rest : List ℕ} (byte : ℕ) (space : List ℕ) → IsSpace (byte ∷ space)
        → Spells form text behind → SpellOthers forms behind rest → SpellOthers (form_and form forms) (byte ∷ space ++ text) rest

-- the text reads as the forms, wherever each lies
pub record ReadsAs (text : List ℕ) (forms : Forms) : Type 0 where
  pub parts : Sexps
  pub reading : Reading text parts
  pub forms_are : forms_of_parts parts ≡ forms
