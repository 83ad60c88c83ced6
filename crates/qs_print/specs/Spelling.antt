-- How terminals are spelled (C11 6.4): a constant in decimal, with `u` where it is unsigned, and a text as one literal in which each byte is
-- a backslash and three octal digits.
use Rattle.std.specs.Prelude.{ℕ, ◌+◌, ◌/◌, ◌%◌, Bool, true, false, List, [], ◌∷◌, ◌++◌, codes, decimal, flat_map}
use Rattle.qs_base.specs.Keywords.{keyword_spelling}
use Rattle.qs_base.specs.Characters.{backslash, digit_zero, double_quote, new_line, space}
use Rattle.qs_syntax_vocabulary.specs.Punctuators.{punctuator_spelling}
use Rattle.qs_syntax_vocabulary.specs.declared.terminal.Terminal.{Terminal}
use Rattle.qs_syntax_vocabulary.specs.declared.terminal.Terminal.TheVariants as terminals

-- 6.4.4.1
abbrev pub suffix : Bool → List ℕ
suffix true = codes "u"
suffix false = []

-- 6.4.4.4: a backslash and three octal digits
abbrev pub octal : ℕ → List ℕ
octal byte = backslash ∷ (digit_zero + byte / 64) ∷ (digit_zero + byte / 8 % 8) ∷ (digit_zero + byte % 8) ∷ []

abbrev pub spelling : Terminal → List ℕ
spelling (terminals.Name at x) = x
spelling (terminals.TypeName at x) = x
spelling (terminals.Keyword at keyword) = keyword_spelling keyword
spelling (terminals.Constant at n unsigned) = decimal n ++ suffix unsigned
spelling (terminals.Text at bytes) = double_quote ∷ (flat_map octal bytes ++ double_quote ∷ [])
spelling (terminals.Punctuator at punctuator) = punctuator_spelling punctuator

-- single blanks between, ended by a new line
abbrev pub joined : List Terminal → List ℕ
joined [] = new_line ∷ []
joined (l ∷ []) = spelling l ++ new_line ∷ []
joined (l ∷ k ∷ ls) = spelling l ++ space ∷ joined (k ∷ ls)
