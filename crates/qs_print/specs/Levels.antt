-- How weakly an expression binds: as a postfix expression, as a unary one, as a cast, as the operators from `* / %` to `||`, as a
-- conditional expression, as an assignment and as a comma (C11 6.5.2 to 6.5.17).
use Rattle.std.specs.Prelude.{ℕ, ◌+◌, if◌then◌else◌}
use Rattle.qs_syntax_vocabulary.specs.declared.operators.StepOperator.{StepOperator}
use Rattle.qs_syntax_vocabulary.specs.Operators.{assignment_precedence, comma_precedence, conditional_precedence, precedence, stands_before, weakest}
use Rattle.qs_syntax.specs.Trees.{ExprTree, expr, ShapeTree, constant, text, name, unary, step, cast, sizeof_type, sizeof_expr, binary, assign, conditional, comma, subscript, member, call}

abbrev pub postfix_level : ℕ
postfix_level = 0

abbrev pub unary_level : ℕ
unary_level = 1

abbrev pub cast_level : ℕ
cast_level = 2

abbrev pub or_level : ℕ
or_level = weakest + cast_level

abbrev pub conditional_level : ℕ
conditional_level = conditional_precedence + cast_level

abbrev pub assignment_level : ℕ
assignment_level = assignment_precedence + cast_level

abbrev pub comma_level : ℕ
comma_level = comma_precedence + cast_level

abbrev pub step_level : StepOperator → ℕ
step_level operator = if stands_before operator then unary_level else postfix_level

abbrev pub shape_level : ShapeTree → ℕ
shape_level (constant n unsigned) = postfix_level
shape_level (text bytes) = postfix_level
shape_level (name x) = postfix_level
shape_level (unary operator a) = unary_level
shape_level (step operator a) = step_level operator
shape_level (cast type a) = cast_level
shape_level (sizeof_type type) = unary_level
shape_level (sizeof_expr a) = unary_level
shape_level (binary operator a b) = precedence operator + cast_level
shape_level (assign operator a b) = assignment_level
shape_level (conditional a b c) = conditional_level
shape_level (comma a b) = comma_level
shape_level (subscript a b) = postfix_level
shape_level (member access a x) = postfix_level
shape_level (call f es) = postfix_level

abbrev pub level : ExprTree → ℕ
level (expr node s) = shape_level s
