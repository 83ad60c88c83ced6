-- A text of forms reads as these forms.
use Rattle.std.proofs.Common.{arith, ◌≡◌, ℕ, zero, suc, ◌+◌, ◌≤◌, Bool, true, false, List, [], ◌∷◌, ◌++◌, length, refl, ap, if◌then◌else◌}
use Rattle.std.proofs.lemmas.Bool.Decides.{nat_tests}
use Rattle.std.specs.Fmt.{signed_decimal}
use Rattle.std.specs.List.{list_all, prefix_len}
use Rattle.std.specs.Cmp.{first_so, second_so}
use Rattle.qs_sexpr.specs.Bytes.{is_atom_byte, is_space}
use Rattle.qs_base.specs.Characters.{right_parenthesis}
use Rattle.qs_sexpr.specs.Pieces.{first_piece}
use Rattle.qs_sexpr.specs.Reading.{Reads, nothing, white_space, a_list}
use Rattle.qs_sexpr.specs.Spelling.{IsSpace, Spells, a_symbol, a_number, a_list as a_spelled_list, SpellAll, no_part, first_part, SpellOthers, no_other, next_part, ReadsAs}
use Rattle.qs_sexpr.specs.Trees as trees
use Rattle.qs_sexpr.specs.Trees.{Sexp, Sexps, part_and, no_parts}
use Rattle.qs_sexpr.specs.Writing.{Form, list_form, Forms, no_forms, form_and, form_of, forms_of_parts, IsWritable, AreWritable}
use Rattle.qs_sexpr.specs.declared.pieces.Piece.TheVariants.{White}
use Rattle.qs_sexpr.proofs.WritingLaws.{Delimited, moved, symbol_reads, number_reads, signed_word}

-- ---- white space

space_is_white : (byte : ℕ) (bytes : List ℕ) → is_space byte ≡ true → first_piece byte bytes ≡ White 0
space_is_white byte bytes h = rw h refl

space_in_no_atom : (byte : ℕ) → is_space byte ≡ true → is_atom_byte byte ≡ false
space_in_no_atom byte h = grind (arith, nat_tests, h)

spaces_read : (depth at end : ℕ) (space text rest : List ℕ) (parts : Sexps) → IsSpace space
    → Reads depth (at + length space) text parts end rest → Reads depth at (space ++ text) parts end rest
spaces_read depth at end [] text rest parts s r = moved depth (at + 0) at end text rest parts (omega arith) r
spaces_read depth at end (byte ∷ space) text rest parts s r =
    white_space (space_is_white byte (space ++ text) (first_so (is_space byte) (list_all is_space space) s))
    (spaces_read depth (at + 1 + 0) end space text rest parts (second_so (is_space byte) (list_all is_space space) s)
    (moved depth (at + suc (length space)) (at + 1 + 0 + length space) end text rest parts (omega arith) r))

space_delimits : (space rest : List ℕ) → IsSpace space → Delimited rest → Delimited (space ++ rest)
space_delimits [] rest s d = d
space_delimits (byte ∷ space) rest s d =
    ap (λ (b : Bool). if b then 1 + prefix_len is_atom_byte (space ++ rest) else 0) (space_in_no_atom byte (first_so (is_space byte) (list_all is_space space) s))

others_delimited : {forms : Forms} {text rest : List ℕ} → SpellOthers forms text rest → Delimited rest → Delimited text
others_delimited {rest = rest} (no_other space s) d = space_delimits space rest s d
others_delimited (next_part {text = text} byte space s f o) d =
    ap (λ (b : Bool). if b then 1 + prefix_len is_atom_byte (space ++ text) else 0) (space_in_no_atom byte (first_so (is_space byte) (list_all is_space space) s))

-- ---- forms

-- the form is read from the byte `at` on, whatever is read behind it
record FormRead (depth at : ℕ) (form : Form) (text rest : List ℕ) : Type 0 where
  part : Sexp
  next : ℕ
  is : form_of part ≡ form
  goes : (end : ℕ) (final : List ℕ) (parts : Sexps) → Reads depth next rest parts end final → Reads depth at text (part_and part parts) end final

record FormsRead (depth at : ℕ) (forms : Forms) (text rest : List ℕ) : Type 0 where
  parts : Sexps
  end : ℕ
  are : forms_of_parts parts ≡ forms
  reads : Reads depth at text parts end rest

no_more : (depth at : ℕ) (space rest : List ℕ) → IsSpace space → FormsRead depth at no_forms (space ++ rest) rest
no_more depth at space rest s = record {
  parts = no_parts;
  end = at + length space;
  are = refl;
  reads = spaces_read depth at (at + length space) space rest rest no_parts s nothing;
}

one_more : (depth at : ℕ) (form : Form) (forms : Forms) (space text behind rest : List ℕ) → IsSpace space
    → (f : FormRead depth (at + length space) form text behind) → FormsRead depth f.next forms behind rest → FormsRead depth at (form_and form forms) (space ++ text) rest
one_more depth at form forms space text behind rest s f o = record {
  parts = part_and f.part o.parts;
  end = o.end;
  are = (λ i. form_and (f.is i) (o.are i));
  reads = spaces_read depth at o.end space text rest (part_and f.part o.parts) s (f.goes o.end rest o.parts o.reads);
}

mutual
  form_read : (n depth at : ℕ) {form : Form} {text rest : List ℕ} → Spells form text rest → IsWritable n form → depth + n ≤ 1024 → Delimited rest → FormRead depth at form text rest
  form_read n depth at {rest = rest} (a_symbol {bytes = bytes}) w h d = record {
    part = trees.symbol at bytes;
    next = at + length bytes;
    is = refl;
    goes = λ end final parts r. symbol_reads depth at end bytes rest final parts w d r;
  }
  form_read n depth at {rest = rest} (a_number {value = value}) w h d = record {
    part = trees.number at value;
    next = at + length (signed_decimal value);
    is = refl;
    goes = λ end final parts r. number_reads depth at end (signed_decimal value) rest final value parts (signed_word value w) d r;
  }
  form_read zero depth at (a_spelled_list s) w h d = absurd w
  form_read (suc n) depth at (a_spelled_list {forms = forms} {text = text} {rest = rest} s) w h d =
      let all : FormsRead (suc depth) (at + 1) forms text (right_parenthesis ∷ rest) = all_read n (suc depth) (at + 1) s w (omega (arith, h)) refl in
      record {
        part = trees.list at all.parts;
        next = all.end + 1;
        is = ap list_form all.are;
        goes = λ end final parts r. a_list refl (omega (arith, h)) all.reads refl r;
      }

  all_read : (n depth at : ℕ) {forms : Forms} {text rest : List ℕ} → SpellAll forms text rest → AreWritable n forms → depth + n ≤ 1024 → Delimited rest → FormsRead depth at forms text rest
  all_read n depth at {rest = rest} (no_part space s) w h d = no_more depth at space rest s
  all_read n depth at (first_part {form = form} {forms = forms} {text = text} {behind = behind} {rest = rest} space s f o) w h d =
      let r : FormRead depth (at + length space) form text behind = form_read n depth (at + length space) f w.0 h (others_delimited o d) in
      one_more depth at form forms space text behind rest s r (others_read n depth r.next o w.1 h d)

  others_read : (n depth at : ℕ) {forms : Forms} {text rest : List ℕ} → SpellOthers forms text rest → AreWritable n forms → depth + n ≤ 1024 → Delimited rest → FormsRead depth at forms text rest
  others_read n depth at {rest = rest} (no_other space s) w h d = no_more depth at space rest s
  others_read n depth at (next_part {form = form} {forms = forms} {text = text} {behind = behind} {rest = rest} byte space s f o) w h d =
      let r : FormRead depth (at + suc (length space)) form text behind = form_read n depth (at + suc (length space)) f w.0 h (others_delimited o d) in
      one_more depth at form forms (byte ∷ space) text behind rest s r (others_read n depth r.next o w.1 h d)

pub spelled_reads : (forms : Forms) (text : List ℕ) → AreWritable 1024 forms → SpellAll forms text [] → ReadsAs text forms
spelled_reads forms text w s =
    let r : FormsRead 0 0 forms text [] = all_read 1024 0 0 s w (omega arith) refl in
    record { parts = r.parts; reading = record { end = r.end; reads = r.reads }; forms_are = r.are }
