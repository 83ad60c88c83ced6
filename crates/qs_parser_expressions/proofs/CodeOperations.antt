-- Turns of the loop that reads operators between operands.
use Rattle.std.proofs.Common.{◌≡◌, ℕ, ◌+◌, ◌-◌, ◌<◌, cond, List, [], ◌∷◌, Result, Ok, Option, Some, None, refl, ◌∙◌}
use Rattle.std.specs.Prelude.{max, nat_le}
use Rattle.qs_syntax_vocabulary.specs.declared.terminal.Terminal.{Terminal}
use Rattle.qs_syntax_vocabulary.specs.declared.operators.BinaryOperator.{BinaryOperator}
use Rattle.qs_syntax.specs.Trees.{unnumbered, expr, binary}
use Rattle.qs_syntax.specs.Reads.{Form}
use Rattle.qs_syntax_vocabulary.specs.Operators.{binary_of}
use Rattle.qs_parser_grammar.specs.Heads.{operator_at}
use Rattle.qs_parser_grammar.specs.Parse.{Parse, Stop, read_on, E, deep, operator_of_level, operation_at, operations}
use Rattle.qs_parser_grammar.specs.Operands.{right_operand}
use Rattle.qs_parser_expressions.proofs.CodeExpressions.{operations_more, operations_end}

-- what is read behind an operand, with or without an operator
abbrev pub with_operator : ℕ → E → Option BinaryOperator → (BinaryOperator → Result (E × List Terminal) Stop) → Parse E
with_operator m a None others ts = Ok (a, ts)
with_operator m a (Some operator) others ts = cond (nat_le a.1 m) (others operator) (deep ts)

module _ (m : ℕ) (p : Form → Parse E) where
  by_operator : (j start : ℕ) (a : E) (o : Option BinaryOperator) (others : E → Parse E) (t : Terminal) (ts : List Terminal)
      → operation_at m p j start a o others (t ∷ ts)
      ≡ with_operator m a o (λ operator. read_on (right_operand p j (t ∷ ts)) (λ b us. others (expr (unnumbered start) (binary operator a.0 b.0), max a.1 b.1 + 1) us)) (t ∷ ts)
  by_operator j start a None others t ts = refl
  by_operator j start a (Some operator) others t ts = refl

  pub operations_turn : (n i j start : ℕ) (a : E) (ts : List Terminal) → i < n
      → operations m p (n - i) j start a ts
      ≡ with_operator m a (operator_of_level j (operator_at binary_of ts)) (λ operator. read_on (right_operand p j ts) (λ b us. operations m p (n - (i + 1)) j start (expr (unnumbered start) (binary operator a.0 b.0), max a.1 b.1 + 1) us)) ts
  operations_turn n i j start a [] lt = operations_more m p n i j start a [] lt
  operations_turn n i j start a (t ∷ ts) lt = operations_more m p n i j start a (t ∷ ts) lt ∙ by_operator j start a (operator_of_level j (operator_at binary_of (t ∷ ts))) (operations m p (n - (i + 1)) j start) t ts

pub ruleset operation_steps = (operations_turn, operations_end)
