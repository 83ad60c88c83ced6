-- Small texts, computed from the definitions.
use Rattle.std.proofs.Common.{◌≡◌, List, [], ◌∷◌, codes, Some, None, Ok, Err, refl, pos, negsuc}
use Rattle.qs_sexpr.specs.Numbers.{number_of}
use Rattle.qs_sexpr.specs.Scan.{parts_of, scanned}
use Rattle.qs_sexpr.specs.Trees.{number, symbol, list}
use Rattle.std.specs.Fmt.{digits}
use Rattle.qs_sexpr.specs.Layout.{lay_all}
use Rattle.qs_sexpr.specs.Writing.{Form, symbol_form, number_form, list_form, Forms, no_forms, form_and}
use Rattle.qs_sexpr.specs.declared.fault.SexprFault.TheVariants.{BadByte, Unbalanced, BadNumber}

-- ---- numbers

greatest : number_of (codes "9223372036854775807") ≡ Some (pos 9223372036854775807)
greatest = refl

past_the_greatest : number_of (codes "9223372036854775808") ≡ None
past_the_greatest = refl

least : number_of (codes "-9223372036854775808") ≡ Some (negsuc 9223372036854775807)
least = refl

past_the_least : number_of (codes "-9223372036854775809") ≡ None
past_the_least = refl

minus_zero : number_of (codes "-0") ≡ Some (pos 0)
minus_zero = refl

leading_zeros : number_of (codes "-007") ≡ Some (negsuc 6)
leading_zeros = refl

a_sign_alone : number_of (codes "-") ≡ None
a_sign_alone = refl

-- ---- readings

empty : scanned (codes "") ≡ Ok []
empty = refl

white_space : scanned (codes " \t\r\n") ≡ Ok []
white_space = refl

a_comment_to_the_end : scanned (codes "; (a") ≡ Ok []
a_comment_to_the_end = refl

a_comment_ends_at_its_line : scanned (codes "(;)\r\n a)") ≡ Ok (list 0 (parts_of (symbol 6 (codes "a") ∷ [])) ∷ [])
a_comment_ends_at_its_line = refl

two_lists : scanned (codes "(add -7 x#2)()") ≡ Ok (list 0 (parts_of (symbol 1 (codes "add") ∷ (number 5 (negsuc 6) ∷ (symbol 8 (codes "x#2") ∷ [])))) ∷ (list 12 (parts_of []) ∷ []))
two_lists = refl

inner_lists : scanned (codes "((1 6)(2))") ≡ Ok (list 0 (parts_of (list 1 (parts_of (number 2 (pos 1) ∷ (number 4 (pos 6) ∷ []))) ∷ (list 6 (parts_of (number 7 (pos 2) ∷ [])) ∷ []))) ∷ [])
inner_lists = refl

nothing_between : scanned (codes "_a(7)$0;") ≡ Ok (symbol 0 (codes "_a") ∷ (list 2 (parts_of (number 3 (pos 7) ∷ [])) ∷ (symbol 5 (codes "$0") ∷ [])))
nothing_between = refl

-- ---- faults

a_byte_of_no_atom : scanned (codes "(a \"") ≡ Err (BadByte 3)
a_byte_of_no_atom = refl

a_form_feed : scanned (32 ∷ (12 ∷ [])) ≡ Err (BadByte 1)
a_form_feed = refl

a_byte_past_ascii : scanned (128 ∷ []) ≡ Err (BadByte 0)
a_byte_past_ascii = refl

inner_dash : scanned (codes "(a-b") ≡ Err (BadByte 2)
inner_dash = refl

first_hash : scanned (codes " #a") ≡ Err (BadByte 1)
first_hash = refl

a_letter_in_a_number : scanned (codes "( 0x1)") ≡ Err (BadNumber 2)
a_letter_in_a_number = refl

two_signs : scanned (codes "--1") ≡ Err (BadNumber 0)
two_signs = refl

a_wide_number : scanned (codes "(-9223372036854775809") ≡ Err (BadNumber 1)
a_wide_number = refl

one_too_many : scanned (codes "a )") ≡ Err (Unbalanced 2)
one_too_many = refl

open_at_the_end : scanned (codes "((a) ") ≡ Err (Unbalanced 5)
open_at_the_end = refl

the_first_fault : scanned (codes "(1a #)))") ≡ Err (BadNumber 1)
the_first_fault = refl

-- ---- what is laid out

abbrev forms_of : List Form → Forms
forms_of [] = no_forms
forms_of (form ∷ forms) = form_and form (forms_of forms)

abbrev listed : List Form → Form
listed parts = list_form (forms_of parts)

abbrev first : Form
first = symbol_form (codes "the_first_of_some_long_names")

abbrev second : Form
second = symbol_form (codes "the_second_of_some_long_names")

abbrev third : Form
third = symbol_form (codes "the_third_of_some_long_names")

-- one list on one line, and then an atom
a_list_with_a_number : lay_all (forms_of (listed (symbol_form (codes "add") ∷ number_form (negsuc 6) ∷ listed [] ∷ []) ∷ number_form (pos 10) ∷ [])) ≡ codes "(add -7 ())\n10\n"
unfolding digits
a_list_with_a_number = refl

-- 100 columns are filled
a_list_that_fits : lay_all (forms_of (listed (symbol_form (codes "ab") ∷ listed (first ∷ second ∷ []) ∷ listed (symbol_form (codes "abc") ∷ third ∷ []) ∷ []) ∷ [])) ≡ codes "(ab (the_first_of_some_long_names the_second_of_some_long_names) (abc the_third_of_some_long_names))\n"
a_list_that_fits = refl

-- one more, and each part but the head has its line
a_list_on_lines : lay_all (forms_of (listed (symbol_form (codes "abc") ∷ listed (first ∷ second ∷ []) ∷ listed (symbol_form (codes "abc") ∷ third ∷ []) ∷ []) ∷ [])) ≡ codes "(abc\n  (the_first_of_some_long_names the_second_of_some_long_names)\n  (abc the_third_of_some_long_names)\n)\n"
a_list_on_lines = refl

-- a second atom stands behind the head, a third doesn't
an_atom_behind_the_head : lay_all (forms_of (listed (symbol_form (codes "add") ∷ first ∷ second ∷ listed (second ∷ []) ∷ []) ∷ [])) ≡ codes "(add the_first_of_some_long_names the_second_of_some_long_names (the_second_of_some_long_names))\n"
an_atom_behind_the_head = refl

-- a list without a head begins with an end of line
no_head : lay_all (forms_of (listed (listed (first ∷ second ∷ []) ∷ third ∷ first ∷ []) ∷ [])) ≡ codes "(\n  (the_first_of_some_long_names the_second_of_some_long_names)\n  the_third_of_some_long_names\n  the_first_of_some_long_names\n)\n"
no_head = refl
