-- Characters (C11 6.4.4.4) and texts (C11 6.4.5): their elements, and what they are.
use Rattle.std.specs.Prelude.{ℕ, zero, suc, ◌+◌, ◌-◌, Bool, true, false, List, [], ◌∷◌, length, take, drop, nat_lt, ◌==◌, if◌then◌else◌, Option, Some, None, option_map, Result, Ok, Err}
use Rattle.std.specs.List.{find, list_any, prefix_len}
use Rattle.qs_lexer.specs.Bytes.{starts_with}
use Rattle.qs_base.specs.Characters.{alert, backslash, backspace, carriage_return, double_quote, form_feed, horizontal_tab, lowercase_a, lowercase_b, lowercase_f, lowercase_n, lowercase_r, lowercase_t, lowercase_v, lowercase_x, new_line, question_mark, single_quote, vertical_tab}
use Rattle.qs_lexer.specs.Numbers.{digit_value, value_of}
use Rattle.qs_lexer.specs.declared.literals.Element.{Element}
use Rattle.qs_lexer.specs.declared.literals.Element.TheVariants as item
use Rattle.qs_lexer.specs.declared.fault.FaultKind.{FaultKind}
use Rattle.qs_lexer.specs.declared.fault.FaultKind.TheVariants as faults
use Rattle.qs_syntax_vocabulary.specs.declared.tokens.TokenKind.{TokenKind}
use Rattle.qs_syntax_vocabulary.specs.declared.tokens.TokenKind.TheVariants as kinds

-- ---- escapes: the bytes behind a backslash

-- `'`, `"`, `?`, `\`, and `a`, `b`, `f`, `n`, `r`, `t`, `v` with the values of C11 5.2.2
abbrev pub simple_escapes : List (ℕ × ℕ)
simple_escapes =
    (single_quote, single_quote)
    ∷ (double_quote, double_quote)
    ∷ (question_mark, question_mark)
    ∷ (backslash, backslash)
    ∷ (lowercase_a, alert)
    ∷ (lowercase_b, backspace)
    ∷ (lowercase_f, form_feed)
    ∷ (lowercase_n, new_line)
    ∷ (lowercase_r, carriage_return)
    ∷ (lowercase_t, horizontal_tab)
    ∷ (lowercase_v, vertical_tab)
    ∷ []

unfoldable pub simple_escape : ℕ → Option ℕ
simple_escape byte = option_map (λ row. row.1) (find (λ row. row.0 == byte) simple_escapes)

-- how many octal digits stand first, three at most
abbrev pub octal_count : List ℕ → ℕ
octal_count bytes = prefix_len (λ byte. nat_lt (digit_value byte) 8) (take 3 bytes)

-- how many hexadecimal digits stand first
abbrev pub hexadecimal_count : List ℕ → ℕ
hexadecimal_count bytes = prefix_len (λ byte. nat_lt (digit_value byte) 16) bytes

abbrev pub valued : ℕ → Element
valued value = if nat_lt value 256 then item.Byte value else item.Wide

abbrev pub simple_with : Option ℕ → Element
simple_with None = item.Bad
simple_with (Some value) = item.Byte value

abbrev pub simple : List ℕ → Element
simple [] = item.Bad
simple (byte ∷ bytes) = simple_with (simple_escape byte)

-- `x` and hexadecimal digits, any number of them
abbrev pub hexadecimal_escape : List ℕ → Element
hexadecimal_escape bytes = if nat_lt 0 (hexadecimal_count bytes) then valued (value_of 16 (take (hexadecimal_count bytes) bytes)) else item.Bad

-- one to three octal digits
abbrev pub octal_escape : List ℕ → Element
octal_escape bytes = valued (value_of 8 (take (octal_count bytes) bytes))

abbrev pub escape : List ℕ → Element
escape bytes =
    if starts_with lowercase_x bytes then hexadecimal_escape (drop 1 bytes)
    else if nat_lt 0 (octal_count bytes) then octal_escape bytes
    else simple bytes

abbrev pub escape_length : List ℕ → ℕ
escape_length bytes =
    if starts_with lowercase_x bytes then 1 + hexadecimal_count (drop 1 bytes)
    else if nat_lt 0 (octal_count bytes) then octal_count bytes
    else 1

-- ---- elements

-- the first element, and how many bytes it takes: an escape behind a backslash, and each other byte stands for itself
abbrev pub first_element : List ℕ → Element
first_element [] = item.Bad
first_element (byte ∷ bytes) = if byte == backslash then escape bytes else item.Byte byte

abbrev pub element_length : List ℕ → ℕ
element_length [] = 1
element_length (byte ∷ bytes) = if byte == backslash then 1 + escape_length bytes else 1

-- the elements of bytes, of which the first `taken` belong to the element before
abbrev pub elements_behind : ℕ → List ℕ → List Element
elements_behind taken [] = []
elements_behind zero (byte ∷ bytes) = first_element (byte ∷ bytes) ∷ elements_behind (element_length (byte ∷ bytes) - 1) bytes
elements_behind (suc taken) (byte ∷ bytes) = elements_behind taken bytes

-- what stands between the quotes
abbrev pub inside : List ℕ → List ℕ
inside literal = drop 1 (take (length literal - 1) literal)

abbrev pub elements_of : List ℕ → List Element
elements_of literal = elements_behind 0 (inside literal)

-- ---- what a literal is: a bad element goes before a wide one

abbrev pub is_bad : Element → Bool
is_bad item.Bad = true
is_bad item.Wide = false
is_bad (item.Byte value) = false

abbrev pub is_wide : Element → Bool
is_wide item.Bad = false
is_wide item.Wide = true
is_wide (item.Byte value) = false

abbrev pub text_with : List Element → Result TokenKind FaultKind
text_with list =
    if list_any is_bad list then Err faults.BadLiteral
    else if list_any is_wide list then Err faults.WideLiteral
    else Ok kinds.Text

abbrev pub text_of : List ℕ → Result TokenKind FaultKind
text_of literal = text_with (elements_of literal)

abbrev pub character_with : Element → Result TokenKind FaultKind
character_with item.Bad = Err faults.BadLiteral
character_with item.Wide = Err faults.WideLiteral
character_with (item.Byte value) = Ok (kinds.Character value)

-- exactly one element
abbrev pub character_of_elements : List Element → Result TokenKind FaultKind
character_of_elements [] = Err faults.BadLiteral
character_of_elements (only ∷ []) = character_with only
character_of_elements (first ∷ second ∷ others) = Err faults.BadLiteral

abbrev pub character_of : List ℕ → Result TokenKind FaultKind
character_of literal = character_of_elements (elements_of literal)

-- ---- the bytes that a text stands for

abbrev pub byte_values : List Element → List ℕ
byte_values [] = []
byte_values (item.Byte value ∷ others) = value ∷ byte_values others
byte_values (item.Wide ∷ others) = byte_values others
byte_values (item.Bad ∷ others) = byte_values others

-- those of the elements of these bytes
abbrev pub element_values : List ℕ → List ℕ
element_values body = byte_values (elements_behind 0 body)

-- those of a text literal, its quotes included in the literal: each element's value, in order
abbrev pub elements : List ℕ → List ℕ
elements literal = byte_values (elements_of literal)
