-- Small texts, computed from the definitions.
use Rattle.std.proofs.Common.{◌≡◌, true, false, [], ◌∷◌, Some, None, Ok, Err, codes, refl}
use Rattle.qs_lexer.specs.Literals.{character_of, elements, simple_escape, text_of}
use Rattle.qs_lexer.specs.Numbers.{number_of}
use Rattle.qs_lexer.specs.Pieces.{class_of, is_block_comment, is_line_marker, is_quoted}
use Rattle.qs_base.specs.Keywords.{keyword_of}
use Rattle.qs_lexer.specs.Words.{word_of}
use Rattle.qs_syntax_vocabulary.specs.Punctuators.{punctuator_of}
use Rattle.qs_lexer.specs.declared.fault.FaultKind.TheVariants as faults
use Rattle.qs_lexer.specs.declared.pieces.Class.TheVariants as class
use Rattle.qs_base.specs.declared.keyword.Keyword.TheVariants as keyword
use Rattle.qs_syntax_vocabulary.specs.declared.punctuator.Punctuator.TheVariants as punctuator
use Rattle.qs_syntax_vocabulary.specs.declared.tokens.TokenKind.TheVariants as kinds

-- ---- numbers

largest_int : number_of (codes "2147483647") ≡ Ok (kinds.Number 2147483647 false)
largest_int = refl

too_large : number_of (codes "2147483648") ≡ Err faults.WideLiteral
too_large = refl

unsigned_by_suffix : number_of (codes "2147483648u") ≡ Ok (kinds.Number 2147483648 true)
unsigned_by_suffix = refl

small_by_suffix : number_of (codes "1u") ≡ Ok (kinds.Number 1 true)
small_by_suffix = refl

unsigned_by_value : number_of (codes "0x80000000") ≡ Ok (kinds.Number 2147483648 true)
unsigned_by_value = refl

octal : number_of (codes "010") ≡ Ok (kinds.Number 8 false)
octal = refl

unsigned_octal : number_of (codes "020000000000") ≡ Ok (kinds.Number 2147483648 true)
unsigned_octal = refl

octal_8 : number_of (codes "08") ≡ Err faults.BadLiteral
octal_8 = refl

without_digits : number_of (codes "0x") ≡ Err faults.BadLiteral
without_digits = refl

-- ---- words and punctuators

a_keyword : word_of (codes "_Bool") ≡ Ok (kinds.Keyword keyword.Bool)
unfolding keyword_of
a_keyword = refl

a_name : word_of (codes "ints") ≡ Ok kinds.Name
unfolding keyword_of
a_name = refl

a_punctuator : punctuator_of (codes ">>=") ≡ Some punctuator.ShiftRightAssign
unfolding punctuator_of
a_punctuator = refl

no_punctuator : punctuator_of (codes "=>") ≡ None
unfolding punctuator_of
no_punctuator = refl

-- ---- literals

-- 'A'
a_character : character_of (39 ∷ 65 ∷ 39 ∷ []) ≡ Ok (kinds.Character 65)
a_character = refl

-- '\x41'
hexadecimal : character_of (39 ∷ 92 ∷ 120 ∷ 52 ∷ 49 ∷ 39 ∷ []) ≡ Ok (kinds.Character 65)
hexadecimal = refl

-- '\x100'
wide : character_of (39 ∷ 92 ∷ 120 ∷ 49 ∷ 48 ∷ 48 ∷ 39 ∷ []) ≡ Err faults.WideLiteral
wide = refl

-- '\q'
unknown_escape : character_of (39 ∷ 92 ∷ 113 ∷ 39 ∷ []) ≡ Err faults.BadLiteral
unfolding simple_escape
unknown_escape = refl

-- ''
no_element : character_of (39 ∷ 39 ∷ []) ≡ Err faults.BadLiteral
no_element = refl

-- 'ab'
two_elements : character_of (39 ∷ 97 ∷ 98 ∷ 39 ∷ []) ≡ Err faults.BadLiteral
two_elements = refl

-- "\400\q": the bad escape goes before the wide one
bad_before_wide : text_of (34 ∷ 92 ∷ 52 ∷ 48 ∷ 48 ∷ 92 ∷ 113 ∷ 34 ∷ []) ≡ Err faults.BadLiteral
unfolding simple_escape
bad_before_wide = refl

-- "\0011\n": three octal digits at most
bytes_of_a_text : elements (34 ∷ 92 ∷ 48 ∷ 48 ∷ 49 ∷ 49 ∷ 92 ∷ 110 ∷ 34 ∷ []) ≡ 1 ∷ 49 ∷ 10 ∷ []
unfolding simple_escape
bytes_of_a_text = refl

-- ---- forms

a_marker : is_line_marker (codes "# 1 a") ≡ true
a_marker = refl

no_marker : is_line_marker (codes "#1") ≡ false
no_marker = refl

a_comment : is_block_comment (codes "/***/") ≡ true
a_comment = refl

open_comment : is_block_comment (codes "/*/") ≡ false
open_comment = refl

-- '\'', where the backslash takes the quote with it
quote_taken : is_quoted 39 (39 ∷ 92 ∷ 39 ∷ 39 ∷ []) ≡ true
quote_taken = refl

first_on_its_line : class_of true (codes "# 1") ≡ class.LineMarker
first_on_its_line = refl

not_first_on_its_line : class_of false (codes "# 1") ≡ class.Other
not_first_on_its_line = refl
