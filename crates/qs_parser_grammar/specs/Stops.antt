-- The precedence of the token behind an expression: 0 where it goes on with an operand, that of the operator that it is or begins, and more than
-- any where it goes on with no expression.
use Rattle.std.specs.Prelude.{ℕ, List, [], ◌∷◌, ◌<◌, if◌then◌else◌, Option, Some, None}
use Rattle.std.specs.List.{list_any}
use Rattle.qs_syntax_vocabulary.specs.declared.terminal.Terminal.{Terminal}
use Rattle.qs_syntax_vocabulary.specs.declared.terminal.Terminal.TheVariants.{Name, TypeName, Keyword, Constant, Text, Punctuator}
use Rattle.qs_syntax_vocabulary.specs.declared.punctuator.Punctuator as punctuator
use Rattle.qs_syntax_vocabulary.specs.declared.punctuator.Punctuator.TheVariants as punctuators
use Rattle.qs_syntax_vocabulary.specs.declared.operators.AssignmentOperator.{AssignmentOperator}
use Rattle.qs_syntax_vocabulary.specs.declared.operators.BinaryOperator.{BinaryOperator}
use Rattle.qs_syntax_vocabulary.specs.Operators.{assign_of, assignment_precedence, binary_of, comma_precedence, conditional_precedence, no_precedence, precedence}
use Rattle.qs_syntax_vocabulary.specs.Punctuators.{same_punctuator}
use Rattle.qs_syntax.specs.Reads.{Form, Postfix, Unary, Level, Conditional, Assignment, Expression}

-- what goes on with an operand
abbrev pub suffix_punctuators : List punctuator.Punctuator
suffix_punctuators = punctuators.OpenBracket ∷ punctuators.OpenParenthesis ∷ punctuators.Dot ∷ punctuators.Arrow ∷ punctuators.Increment ∷ punctuators.Decrement ∷ []

-- of what is neither an operator between two operands nor an assignment
abbrev pub other_precedence : punctuator.Punctuator → ℕ
other_precedence m =
    if list_any (same_punctuator m) suffix_punctuators then 0
    else if same_punctuator m punctuators.Question then conditional_precedence
    else if same_punctuator m punctuators.Comma then comma_precedence
    else no_precedence

abbrev pub precedence_by : punctuator.Punctuator → Option BinaryOperator → Option AssignmentOperator → ℕ
precedence_by m (Some operator) assignment = precedence operator
precedence_by m None (Some assignment) = assignment_precedence
precedence_by m None None = other_precedence m

abbrev pub punctuator_precedence : punctuator.Punctuator → ℕ
punctuator_precedence m = precedence_by m (binary_of m) (assign_of m)

abbrev pub terminal_precedence : Terminal → ℕ
terminal_precedence (Name at x) = no_precedence
terminal_precedence (TypeName at x) = no_precedence
terminal_precedence (Keyword at k) = no_precedence
terminal_precedence (Constant at n unsigned) = no_precedence
terminal_precedence (Text at bytes) = 0
terminal_precedence (Punctuator at m) = punctuator_precedence m

abbrev pub precedence_at : List Terminal → ℕ
precedence_at [] = no_precedence
precedence_at (t ∷ ts) = terminal_precedence t

abbrev pub precedence_of : Form → ℕ
precedence_of Postfix = 0
precedence_of Unary = 0
precedence_of (Level j) = j
precedence_of Conditional = conditional_precedence
precedence_of Assignment = assignment_precedence
precedence_of Expression = comma_precedence

-- the tokens do not go on with what is read as this form
abbrev pub Stops : Form → List Terminal → Type 0
Stops form rest = precedence_of form < precedence_at rest
