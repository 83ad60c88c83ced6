-- The operators (C11 6.5.2 to 6.5.17): the punctuator of each, the precedence of those between two operands, and which operator a punctuator is.
use Rattle.std.specs.Prelude.{ℕ, Bool, true, false, List, [], ◌∷◌, Option}
use Rattle.std.specs.List.{find}
use Rattle.qs_syntax_vocabulary.specs.Punctuators.{same_punctuator}
use Rattle.qs_syntax_vocabulary.specs.declared.punctuator.Punctuator.{Punctuator}
use Rattle.qs_syntax_vocabulary.specs.declared.punctuator.Punctuator.TheVariants as punctuators
use Rattle.qs_syntax_vocabulary.specs.declared.terminal.Terminal.{Terminal}
use Rattle.qs_syntax_vocabulary.specs.declared.terminal.Terminal.TheVariants as terminals
use Rattle.qs_syntax_vocabulary.specs.declared.operators.UnaryOperator.{UnaryOperator}
use Rattle.qs_syntax_vocabulary.specs.declared.operators.UnaryOperator.TheVariants as unaries
use Rattle.qs_syntax_vocabulary.specs.declared.operators.StepOperator.{StepOperator}
use Rattle.qs_syntax_vocabulary.specs.declared.operators.StepOperator.TheVariants as steps
use Rattle.qs_syntax_vocabulary.specs.declared.operators.BinaryOperator.{BinaryOperator}
use Rattle.qs_syntax_vocabulary.specs.declared.operators.BinaryOperator.TheVariants as binaries
use Rattle.qs_syntax_vocabulary.specs.declared.operators.AssignmentOperator.{AssignmentOperator}
use Rattle.qs_syntax_vocabulary.specs.declared.operators.AssignmentOperator.TheVariants as assigns
use Rattle.qs_syntax_vocabulary.specs.declared.operators.Access.{Access}
use Rattle.qs_syntax_vocabulary.specs.declared.operators.Access.TheVariants as accesses

-- ---- unary operators (6.5.3)

abbrev pub punctuator_of_unary : UnaryOperator → Punctuator
punctuator_of_unary unaries.Address = punctuators.Ampersand
punctuator_of_unary unaries.Indirect = punctuators.Star
punctuator_of_unary unaries.Plus = punctuators.Plus
punctuator_of_unary unaries.Minus = punctuators.Minus
punctuator_of_unary unaries.Complement = punctuators.Tilde
punctuator_of_unary unaries.Not = punctuators.Exclamation

abbrev pub unary_operators : List UnaryOperator
unary_operators =
    unaries.Address
    ∷ unaries.Indirect
    ∷ unaries.Plus
    ∷ unaries.Minus
    ∷ unaries.Complement
    ∷ unaries.Not
    ∷ []

abbrev pub unary_of : Punctuator → Option UnaryOperator
unary_of punctuator = find (λ operator. same_punctuator (punctuator_of_unary operator) punctuator) unary_operators

-- ---- steps by one, before or behind the operand (6.5.2.4, 6.5.3.1)

-- the punctuator, and whether it stands before the operand
abbrev pub step_row : StepOperator → Punctuator × Bool
step_row steps.IncrementBefore = (punctuators.Increment, true)
step_row steps.DecrementBefore = (punctuators.Decrement, true)
step_row steps.IncrementAfter = (punctuators.Increment, false)
step_row steps.DecrementAfter = (punctuators.Decrement, false)

abbrev pub punctuator_of_step : StepOperator → Punctuator
punctuator_of_step operator = (step_row operator).0

abbrev pub stands_before : StepOperator → Bool
stands_before operator = (step_row operator).1

-- ---- operators between two operands (6.5.5 to 6.5.14)

-- the precedence of `||`
abbrev pub weakest : ℕ
weakest = 10

-- the punctuator, and the precedence, from 1 (those that bind most strongly) for `* / %` to the weakest for `||`
abbrev pub binary_row : BinaryOperator → Punctuator × ℕ
binary_row binaries.Multiply = (punctuators.Star, 1)
binary_row binaries.Divide = (punctuators.Slash, 1)
binary_row binaries.Remainder = (punctuators.Percent, 1)
binary_row binaries.Add = (punctuators.Plus, 2)
binary_row binaries.Subtract = (punctuators.Minus, 2)
binary_row binaries.ShiftLeft = (punctuators.ShiftLeft, 3)
binary_row binaries.ShiftRight = (punctuators.ShiftRight, 3)
binary_row binaries.Less = (punctuators.Less, 4)
binary_row binaries.LessEqual = (punctuators.LessEqual, 4)
binary_row binaries.Greater = (punctuators.Greater, 4)
binary_row binaries.GreaterEqual = (punctuators.GreaterEqual, 4)
binary_row binaries.Equal = (punctuators.Equal, 5)
binary_row binaries.NotEqual = (punctuators.NotEqual, 5)
binary_row binaries.BitAnd = (punctuators.Ampersand, 6)
binary_row binaries.BitXor = (punctuators.Caret, 7)
binary_row binaries.BitOr = (punctuators.Bar, 8)
binary_row binaries.And = (punctuators.AndAnd, 9)
binary_row binaries.Or = (punctuators.OrOr, weakest)

abbrev pub binary_operators : List BinaryOperator
binary_operators =
    binaries.Multiply
    ∷ binaries.Divide
    ∷ binaries.Remainder
    ∷ binaries.Add
    ∷ binaries.Subtract
    ∷ binaries.ShiftLeft
    ∷ binaries.ShiftRight
    ∷ binaries.Less
    ∷ binaries.LessEqual
    ∷ binaries.Greater
    ∷ binaries.GreaterEqual
    ∷ binaries.Equal
    ∷ binaries.NotEqual
    ∷ binaries.BitAnd
    ∷ binaries.BitXor
    ∷ binaries.BitOr
    ∷ binaries.And
    ∷ binaries.Or
    ∷ []

abbrev pub punctuator_of_binary : BinaryOperator → Punctuator
punctuator_of_binary operator = (binary_row operator).0

abbrev pub precedence : BinaryOperator → ℕ
precedence operator = (binary_row operator).1

abbrev pub binary_of : Punctuator → Option BinaryOperator
binary_of punctuator = find (λ operator. same_punctuator (punctuator_of_binary operator) punctuator) binary_operators

-- ---- what binds more weakly (6.5.15 to 6.5.17)

abbrev pub conditional_precedence : ℕ
conditional_precedence = 11

abbrev pub assignment_precedence : ℕ
assignment_precedence = 12

abbrev pub comma_precedence : ℕ
comma_precedence = 13

-- more than any precedence
abbrev pub no_precedence : ℕ
no_precedence = 14

-- ---- assignments (6.5.16)

abbrev pub punctuator_of_assign : AssignmentOperator → Punctuator
punctuator_of_assign assigns.Plain = punctuators.Assign
punctuator_of_assign assigns.Multiply = punctuators.MultiplyAssign
punctuator_of_assign assigns.Divide = punctuators.DivideAssign
punctuator_of_assign assigns.Remainder = punctuators.RemainderAssign
punctuator_of_assign assigns.Add = punctuators.AddAssign
punctuator_of_assign assigns.Subtract = punctuators.SubtractAssign
punctuator_of_assign assigns.ShiftLeft = punctuators.ShiftLeftAssign
punctuator_of_assign assigns.ShiftRight = punctuators.ShiftRightAssign
punctuator_of_assign assigns.BitAnd = punctuators.AndAssign
punctuator_of_assign assigns.BitXor = punctuators.XorAssign
punctuator_of_assign assigns.BitOr = punctuators.OrAssign

abbrev pub assignment_operators : List AssignmentOperator
assignment_operators =
    assigns.Plain
    ∷ assigns.Multiply
    ∷ assigns.Divide
    ∷ assigns.Remainder
    ∷ assigns.Add
    ∷ assigns.Subtract
    ∷ assigns.ShiftLeft
    ∷ assigns.ShiftRight
    ∷ assigns.BitAnd
    ∷ assigns.BitXor
    ∷ assigns.BitOr
    ∷ []

abbrev pub assign_of : Punctuator → Option AssignmentOperator
assign_of punctuator = find (λ operator. same_punctuator (punctuator_of_assign operator) punctuator) assignment_operators

-- ---- access to a member (6.5.2.3)

abbrev pub punctuator_of_access : Access → Punctuator
punctuator_of_access accesses.Dot = punctuators.Dot
punctuator_of_access accesses.Arrow = punctuators.Arrow

abbrev pub access_operators : List Access
access_operators =
    accesses.Dot
    ∷ accesses.Arrow
    ∷ []

abbrev pub access_of : Punctuator → Option Access
access_of punctuator = find (λ access. same_punctuator (punctuator_of_access access) punctuator) access_operators

-- ---- tokens

-- the number of a token
abbrev pub number_of : Terminal → ℕ
number_of (terminals.Name at x) = at
number_of (terminals.TypeName at x) = at
number_of (terminals.Keyword at k) = at
number_of (terminals.Constant at n unsigned) = at
number_of (terminals.Text at bytes) = at
number_of (terminals.Punctuator at m) = at
