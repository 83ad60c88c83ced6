-- Lines and their text: what one more line or byte adds.
use Rattle.std.proofs.Common.{◌≡◌, ℕ, ◌+◌, ◌≤◌, Bool, true, false, ◌&&◌, List, [], ◌∷◌, ◌++◌, length, None, Some, refl, ap, sym, ◌∙◌, arith, append_assoc, length-append}
use Rattle.std.specs.List.{list_all}
use Rattle.std.proofs.lemmas.List.Folds.{list_all-append}
use Rattle.qs_base.specs.Characters.{new_line, space}
use Rattle.qs_link_list.specs.Lines.{Line, is_graphic, is_file_name, has_names, line_text}
use Rattle.qs_link_list.specs.Lists.{lines_text}
use Rattle.qs_link_list.specs.Reading.{Place, at_line, in_source, in_proof, Progress}

-- ---- tests

pub both : (b c : Bool) → b ≡ true → c ≡ true → (b && c) ≡ true
both true c p q = q
both false c p q = p

pub first_of : (b c : Bool) → (b && c) ≡ true → b ≡ true
first_of true c h = refl
first_of false c h = h

pub second_of : (b c : Bool) → (b && c) ≡ true → c ≡ true
second_of true c h = h
second_of false c h = cc

pub all_with : {A : Type 0} (p : A → Bool) (xs : List A) (x : A) → list_all p xs ≡ true → p x ≡ true → list_all p (xs ++ x ∷ []) ≡ true
all_with p xs x h k = list_all-append p xs (x ∷ []) ∙ both (list_all p xs) (p x && true) h (both (p x) true k refl)

-- ---- names

pub name_with : (s : List ℕ) (byte : ℕ) → is_file_name s ≡ true → is_graphic byte ≡ true → is_file_name (s ++ byte ∷ []) ≡ true
name_with [] byte h k = cc
name_with (b ∷ bs) byte h k = both (is_graphic b) (list_all is_graphic (bs ++ byte ∷ [])) (first_of (is_graphic b) (list_all is_graphic bs) h) (all_with is_graphic bs byte (second_of (is_graphic b) (list_all is_graphic bs) h) k)

pub name_of_one : (byte : ℕ) → is_graphic byte ≡ true → is_file_name (byte ∷ []) ≡ true
name_of_one byte h = both (is_graphic byte) true h refl

pub name_bytes : (s : List ℕ) → is_file_name s ≡ true → list_all is_graphic s ≡ true
name_bytes [] h = refl
name_bytes (b ∷ bs) h = h

-- ---- texts

pub text_append : (xs ys : List Line) → lines_text (xs ++ ys) ≡ lines_text xs ++ lines_text ys
text_append [] ys = refl
text_append (x ∷ xs) ys = ap (λ t. line_text x ++ t) (text_append xs ys) ∙ sym (append_assoc (line_text x) (lines_text xs) (lines_text ys))

pub append_nil : {A : Type 0} (xs : List A) → xs ++ [] ≡ xs
append_nil [] = refl
append_nil (x ∷ xs) = ap (λ ys. x ∷ ys) (append_nil xs)

pub text_with : (xs : List Line) (x : Line) → lines_text (xs ++ x ∷ []) ≡ lines_text xs ++ line_text x
text_with xs x = text_append xs (x ∷ []) ∙ ap (λ t. lines_text xs ++ t) (append_nil (line_text x))

-- the bytes that are read of a line, and in all
abbrev pub place_text : Place → List ℕ
place_text at_line = []
place_text (in_source s) = s
place_text (in_proof s p) = s ++ space ∷ p

abbrev pub read_text : Progress → List ℕ
read_text r = lines_text r.lines ++ place_text r.place
