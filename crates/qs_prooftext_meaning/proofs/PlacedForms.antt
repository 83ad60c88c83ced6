-- Forms with the places that lists and atoms of a text have.
use Rattle.std.proofs.Common.{◌≡◌, ℕ, zero, suc, pos, refl, ap}
use Rattle.qs_sexpr.specs.Trees.{Sexp, number, symbol, list, Sexps, no_parts, part_and}
use Rattle.qs_sexpr.specs.Writing.{Form, symbol_form, number_form, list_form, Forms, no_forms, form_and, form_of, forms_of_parts}

abbrev pub place : Sexp → ℕ
place (number at value) = at
place (symbol at bytes) = at
place (list at parts) = at

abbrev pub parts_in : Sexp → Sexps
parts_in (number at value) = no_parts
parts_in (symbol at bytes) = no_parts
parts_in (list at parts) = parts

abbrev pub first_in : Sexps → Sexp
first_in no_parts = number 0 (pos 0)
first_in (part_and part parts) = part

abbrev pub others_in : Sexps → Sexps
others_in no_parts = no_parts
others_in (part_and part parts) = parts

abbrev pub part_in : ℕ → Sexps → Sexp
part_in zero parts = first_in parts
part_in (suc n) parts = part_in n (others_in parts)

abbrev mutual
  pub placed : Sexp → Form → Sexp
  placed at (symbol_form bytes) = symbol (place at) bytes
  placed at (number_form value) = number (place at) value
  placed at (list_form forms) = list (place at) (all_placed (parts_in at) forms)

  pub all_placed : Sexps → Forms → Sexps
  all_placed at no_forms = no_parts
  all_placed at (form_and form forms) = part_and (placed (first_in at) form) (all_placed (others_in at) forms)

mutual
  pub placed_back : (s : Sexp) → placed s (form_of s) ≡ s
  placed_back (number at value) = refl
  placed_back (symbol at bytes) = refl
  placed_back (list at parts) = ap (list at) (all_placed_back parts)

  pub all_placed_back : (ss : Sexps) → all_placed ss (forms_of_parts ss) ≡ ss
  all_placed_back no_parts = refl
  all_placed_back (part_and part parts) = λ i. part_and (placed_back part i) (all_placed_back parts i)
