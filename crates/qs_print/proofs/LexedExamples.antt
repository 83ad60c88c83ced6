-- Small texts, computed from the definitions.
use Rattle.std.proofs.Common.{◌≡◌, true, false, [], ◌∷◌, ◌++◌, codes, refl}
use Rattle.std.specs.Fmt.{digits}
use Rattle.qs_print.specs.Laws.{renumbered}
use Rattle.qs_print.specs.Spelling.{joined, spelling}
use Rattle.qs_syntax_vocabulary.specs.declared.terminal.Terminal.TheVariants.{Name, Keyword, Constant, Text, Punctuator}
use Rattle.qs_base.specs.declared.keyword.Keyword.TheVariants as keywords
use Rattle.qs_syntax_vocabulary.specs.declared.punctuator.Punctuator.TheVariants as punctuators

a_declaration : joined (Keyword 0 keywords.Int ∷ Name 0 (codes "x") ∷ Punctuator 0 punctuators.Assign ∷ Constant 0 10 false ∷ Punctuator 0 punctuators.Semicolon ∷ []) ≡ codes "int x = 10 ;" ++ 10 ∷ []
unfolding digits
a_declaration = refl

nothing : joined [] ≡ 10 ∷ []
nothing = refl

largest_unsigned : spelling (Constant 0 4294967295 true) ≡ codes "4294967295u"
unfolding digits
largest_unsigned = refl

-- "\007\042\377"
a_text : spelling (Text 0 (7 ∷ 34 ∷ 255 ∷ [])) ≡ 34 ∷ 92 ∷ 48 ∷ 48 ∷ 55 ∷ 92 ∷ 48 ∷ 52 ∷ 50 ∷ 92 ∷ 51 ∷ 55 ∷ 55 ∷ 34 ∷ []
a_text = refl

counted : renumbered 0 (Punctuator 0 punctuators.Plus ∷ Name 0 (codes "x") ∷ []) ≡ Punctuator 0 punctuators.Plus ∷ Name 1 (codes "x") ∷ []
counted = refl
