-- Lists and atoms that are written.
use Rattle.std.specs.Prelude.{◌≡◌, ℕ, zero, suc, ◌+◌, ◌<◌, ◌^◌, ℤ, pos, negsuc, Bool, true, false, ◌&&◌, List, [], ◌∷◌, length}
use Rattle.std.specs.Fmt.{signed_decimal}
use Rattle.std.specs.List.{list_all}
use Rattle.qs_sexpr.specs.Bytes.{is_symbol_byte, starts_symbol}
use Rattle.qs_sexpr.specs.Trees.{Sexp, number, symbol, list, Sexps, no_parts, part_and}

-- a symbol, a number or a list, without a place
mutual
  pub data Form : Type 0 where
    symbol_form : (bytes : List ℕ) → Form
    number_form : (value : ℤ) → Form
    list_form : Forms → Form

  pub data Forms : Type 0 where
    no_forms : Forms
    form_and : Form → Forms → Forms

-- how many bytes it has on one line, with one blank between parts
abbrev mutual
  pub size : Form → ℕ
  size (symbol_form bytes) = length bytes
  size (number_form value) = length (signed_decimal value)
  size (list_form forms) = 1 + size_all forms + 1

  pub size_all : Forms → ℕ
  size_all no_forms = 0
  size_all (form_and form forms) = size form + size_others forms

  pub size_others : Forms → ℕ
  size_others no_forms = 0
  size_others (form_and form forms) = 1 + size form + size_others forms

-- lists and atoms without their places
abbrev mutual
  pub form_of : Sexp → Form
  form_of (number at value) = number_form value
  form_of (symbol at bytes) = symbol_form bytes
  form_of (list at parts) = list_form (forms_of_parts parts)

  pub forms_of_parts : Sexps → Forms
  forms_of_parts no_parts = no_forms
  forms_of_parts (part_and part parts) = form_and (form_of part) (forms_of_parts parts)

abbrev pub is_symbol : List ℕ → Bool
is_symbol [] = false
is_symbol (byte ∷ bytes) = starts_symbol byte && list_all is_symbol_byte bytes

-- from -2^63 to 2^63 - 1
abbrev pub IsInRange : ℤ → Type 0
IsInRange (pos n) = n < 2 ^ 63
IsInRange (negsuc n) = n < 2 ^ 63

-- its symbols are symbols and its numbers are in range, and its lists nest at most so deep
abbrev mutual
  pub IsWritable : ℕ → Form → Type 0
  IsWritable depth (symbol_form bytes) = is_symbol bytes ≡ true
  IsWritable depth (number_form value) = IsInRange value
  IsWritable zero (list_form forms) = ⊥
  IsWritable (suc depth) (list_form forms) = AreWritable depth forms

  pub AreWritable : ℕ → Forms → Type 0
  AreWritable depth no_forms = Unit {0}
  AreWritable depth (form_and form forms) = IsWritable depth form × AreWritable depth forms
