-- What is laid out is a text of its forms.
use Rattle.std.proofs.Common.{◌≡◌, ℕ, zero, suc, Bool, true, false, nat_lt, List, [], ◌∷◌, ◌++◌, refl, sym, subst, if◌then◌else◌}
use Rattle.std.specs.Prelude.{replicate}
use Rattle.qs_base.specs.Characters.{new_line, right_parenthesis, space}
use Rattle.qs_sexpr.specs.Layout.{next_line, deeper, is_atom, before, behind, inside, ending, lay, lay_parts, lay_all}
use Rattle.qs_sexpr.specs.Spelling.{IsSpace, Spells, a_symbol, a_number, a_list, SpellAll, no_part, first_part, SpellOthers, no_other, next_part, ReadsAs}
use Rattle.qs_sexpr.specs.Writing.{Form, symbol_form, number_form, list_form, Forms, no_forms, form_and, size, AreWritable}
use Rattle.qs_sexpr.specs.declared.layout.Layer.{Layer}
use Rattle.qs_sexpr.specs.declared.layout.Layer.TheVariants.{Top, OnLine, Head, Second, Others}
use Rattle.qs_sexpr.proofs.SpellingLaws.{spelled_reads}

-- ---- white space

blanks_are_space : (n : ℕ) → IsSpace (replicate n space)
blanks_are_space zero = refl
blanks_are_space (suc n) = blanks_are_space n

next_line_is_space : (column : ℕ) → IsSpace (next_line column)
next_line_is_space column = blanks_are_space column

either : (b : Bool) (xs ys : List ℕ) → IsSpace xs → IsSpace ys → IsSpace (if b then xs else ys)
either true xs ys h k = h
either false xs ys h k = k

before_is_space : (l : Layer) (atom : Bool) (n : ℕ) → IsSpace (before l atom n)
before_is_space Top atom n = refl
before_is_space (OnLine is_first) atom n = either is_first [] (space ∷ []) refl refl
before_is_space (Head column) atom n = either atom [] (next_line (deeper column)) refl (next_line_is_space (deeper column))
before_is_space (Second column room) true n =
    either (nat_lt n room) (space ∷ []) (next_line (deeper column)) refl (next_line_is_space (deeper column))
before_is_space (Second column room) false n = next_line_is_space (deeper column)
before_is_space (Others column) atom n = next_line_is_space (deeper column)

ending_is_space : (l : Layer) → IsSpace (ending l)
ending_is_space Top = refl
ending_is_space (OnLine is_first) = refl
ending_is_space (Head column) = next_line_is_space column
ending_is_space (Second column room) = next_line_is_space column
ending_is_space (Others column) = next_line_is_space column

-- ---- layers

-- the list is open, and has a part
abbrev HasPart : Layer → Type 0
HasPart Top = ⊥
HasPart (OnLine is_first) = is_first ≡ false
HasPart (Head column) = ⊥
HasPart (Second column room) = Unit {0}
HasPart (Others column) = Unit {0}

abbrev pub IsOpen : Layer → Type 0
IsOpen Top = ⊥
IsOpen (OnLine is_first) = Unit {0}
IsOpen (Head column) = Unit {0}
IsOpen (Second column room) = Unit {0}
IsOpen (Others column) = Unit {0}

begun_open : (column n : ℕ) (b : Bool) → IsOpen (if b then OnLine true else Head column)
begun_open column n true = tt
begun_open column n false = tt

pub inside_open : (l : Layer) (n : ℕ) → IsOpen (inside l n)
inside_open Top n = begun_open 0 n _
inside_open (OnLine is_first) n = tt
inside_open (Head column) n = begun_open (deeper column) n _
inside_open (Second column room) n = begun_open (deeper column) n _
inside_open (Others column) n = begun_open (deeper column) n _

pub behind_open : (l : Layer) (atom : Bool) (n : ℕ) → IsOpen l → IsOpen (behind l atom n)
behind_open Top atom n h = absurd h
behind_open (OnLine is_first) atom n h = tt
behind_open (Head column) true n h = tt
behind_open (Head column) false n h = tt
behind_open (Second column room) atom n h = tt
behind_open (Others column) atom n h = tt

behind_has_part : (l : Layer) (atom : Bool) (n : ℕ) → IsOpen l → HasPart (behind l atom n)
behind_has_part Top atom n h = absurd h
behind_has_part (OnLine is_first) atom n h = refl
behind_has_part (Head column) true n h = tt
behind_has_part (Head column) false n h = tt
behind_has_part (Second column room) atom n h = tt
behind_has_part (Others column) atom n h = tt

-- ---- forms

-- a blank or a new line
second_spelt : {form : Form} {forms : Forms} {text behind rest : List ℕ} (b : Bool) (column : ℕ) → Spells form text behind → SpellOthers forms behind rest
    → SpellOthers (form_and form forms) ((if b then space ∷ [] else next_line column) ++ text) rest
second_spelt true column f o = next_part space [] refl f o
second_spelt false column f o = next_part new_line (replicate column space) (next_line_is_space column) f o

other_spelt : {form : Form} {forms : Forms} {text behind rest : List ℕ} (l : Layer) (atom : Bool) (n : ℕ) → HasPart l → Spells form text behind → SpellOthers forms behind rest
    → SpellOthers (form_and form forms) (before l atom n ++ text) rest
other_spelt Top atom n h f o = absurd h
other_spelt {form = form} {forms = forms} {text = text} {rest = rest} (OnLine is_first) atom n h f o =
    let P : Bool → Type 0 = λ b. SpellOthers (form_and form forms) ((if b then [] else space ∷ []) ++ text) rest in
    subst P (sym h) (next_part space [] refl f o)
other_spelt (Head column) atom n h f o = absurd h
other_spelt (Second column room) true n h f o = second_spelt (nat_lt n room) (deeper column) f o
other_spelt (Second column room) false n h f o = second_spelt false (deeper column) f o
other_spelt (Others column) atom n h f o = second_spelt false (deeper column) f o

part_open : (l : Layer) → HasPart l → IsOpen l
part_open Top h = absurd h
part_open (OnLine is_first) h = tt
part_open (Head column) h = tt
part_open (Second column room) h = tt
part_open (Others column) h = tt

mutual
  laid : (l : Layer) (form : Form) (text : List ℕ) → Spells form (lay l form text) text
  laid l (symbol_form bytes) text = a_symbol
  laid l (number_form value) text = a_number
  laid l (list_form forms) text = a_list (parts_laid (inside l (size (list_form forms))) forms text (inside_open l (size (list_form forms))))

  parts_laid : (l : Layer) (forms : Forms) (text : List ℕ) → IsOpen l → SpellAll forms (lay_parts l forms text) (right_parenthesis ∷ text)
  parts_laid l no_forms text h = no_part (ending l) (ending_is_space l)
  parts_laid l (form_and form forms) text h =
      first_part (before l (is_atom form) (size form)) (before_is_space l (is_atom form) (size form))
      (laid l form (lay_parts (behind l (is_atom form) (size form)) forms text))
      (others_laid (behind l (is_atom form) (size form)) forms text (behind_has_part l (is_atom form) (size form) h))

  others_laid : (l : Layer) (forms : Forms) (text : List ℕ) → HasPart l → SpellOthers forms (lay_parts l forms text) (right_parenthesis ∷ text)
  others_laid l no_forms text h = no_other (ending l) (ending_is_space l)
  others_laid l (form_and form forms) text h =
      other_spelt l (is_atom form) (size form) h
      (laid l form (lay_parts (behind l (is_atom form) (size form)) forms text))
      (others_laid (behind l (is_atom form) (size form)) forms text (behind_has_part l (is_atom form) (size form) (part_open l h)))

later_laid : (forms : Forms) → SpellOthers forms (new_line ∷ lay_all forms) []
later_laid no_forms = no_other (new_line ∷ []) refl
later_laid (form_and form forms) = next_part new_line [] refl (laid Top form (new_line ∷ lay_all forms)) (later_laid forms)

pub all_laid : (forms : Forms) → SpellAll forms (lay_all forms) []
all_laid no_forms = no_part [] refl
all_laid (form_and form forms) = first_part [] refl (laid Top form (new_line ∷ lay_all forms)) (later_laid forms)

pub laid_out_reads : (forms : Forms) → AreWritable 1024 forms → ReadsAs (lay_all forms) forms
laid_out_reads forms w = spelled_reads forms (lay_all forms) w (all_laid forms)
