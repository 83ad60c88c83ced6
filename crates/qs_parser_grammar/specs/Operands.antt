-- The right operand of an operator between two operands.
use Rattle.std.specs.Prelude.{ℕ, [], ◌∷◌}
use Rattle.qs_syntax.specs.Reads.{Form, Level}
use Rattle.qs_parser_grammar.specs.Parse.{Parse, E, unexpected}

-- what stands behind the operator that is the first token
abbrev pub right_operand : (Form → Parse E) → ℕ → Parse E
right_operand part j [] = unexpected []
right_operand part j (t ∷ ts) = part (Level j) ts
