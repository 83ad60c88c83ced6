-- Small expressions, read by the parser: each result is computed.
use Rattle.std.proofs.Common.{◌≡◌, ℕ, List, [], ◌∷◌, Result, Ok, Err, false, refl}
use Rattle.qs_syntax_vocabulary.specs.declared.terminal.Terminal.{Terminal}
use Rattle.qs_syntax_vocabulary.specs.declared.terminal.Terminal.TheVariants.{Name, Keyword, Constant, Text, Punctuator}
use Rattle.qs_base.specs.declared.keyword.Keyword.TheVariants as keywords
use Rattle.qs_syntax_vocabulary.specs.declared.punctuator.Punctuator.TheVariants as punctuators
use Rattle.qs_syntax_vocabulary.specs.declared.operators.UnaryOperator.{UnaryOperator}
use Rattle.qs_syntax_vocabulary.specs.declared.operators.UnaryOperator.TheVariants as unaries
use Rattle.qs_syntax_vocabulary.specs.declared.operators.BinaryOperator.{BinaryOperator}
use Rattle.qs_syntax_vocabulary.specs.declared.operators.BinaryOperator.TheVariants as binaries
use Rattle.qs_syntax_vocabulary.specs.declared.operators.AssignmentOperator.{AssignmentOperator}
use Rattle.qs_syntax_vocabulary.specs.declared.operators.AssignmentOperator.TheVariants as assigns
use Rattle.qs_syntax_vocabulary.specs.declared.operators.Access.TheVariants as accesses
use Rattle.qs_syntax_vocabulary.specs.declared.operators.StepOperator.TheVariants as steps
use Rattle.qs_syntax.specs.declared.types.Base.TheVariants as bases
use Rattle.qs_syntax.specs.Trees.{unnumbered, ExprTree, expr, constant, text, name, unary, step, cast, sizeof_type, sizeof_expr, binary, assign, conditional, comma, subscript, member, call, no_exprs, expr_and}
use Rattle.qs_syntax_vocabulary.specs.Operators.{punctuator_of_unary, punctuator_of_binary, punctuator_of_assign}
use Rattle.qs_syntax.specs.Reads.{Expression}
use Rattle.qs_parser_grammar.specs.Parse.{Stop, Unexpected, Deep, E, texts_from, type, stars, type_name, arguments, primary, suffixes, unary_of_all, operations, climb, commas, expression, part}

-- the names a, b, c and d at tokens
abbrev a_at : ℕ → Terminal
a_at n = Name n (97 ∷ [])

abbrev b_at : ℕ → Terminal
b_at n = Name n (98 ∷ [])

abbrev c_at : ℕ → Terminal
c_at n = Name n (99 ∷ [])

abbrev a : ℕ → ExprTree
a n = expr (unnumbered n) (name (97 ∷ []))

abbrev b : ℕ → ExprTree
b n = expr (unnumbered n) (name (98 ∷ []))

abbrev c : ℕ → ExprTree
c n = expr (unnumbered n) (name (99 ∷ []))

-- what all of the tokens are read as, and its height
abbrev AllRead : List Terminal → ExprTree → ℕ → Type 0
AllRead ts e h = ◌≡◌ {A = Result (E × List Terminal) Stop} (part 5 Expression ts) (Ok ((e, h), []))

abbrev Refused : ℕ → List Terminal → Stop → Type 0
Refused n ts stop = ◌≡◌ {A = Result (E × List Terminal) Stop} (part n Expression ts) (Err stop)

-- 7
a_constant : AllRead (Constant 0 7 false ∷ []) (expr (unnumbered 0) (constant 7 false)) 1
unfolding part expression primary suffixes arguments unary_of_all operations climb commas texts_from type_name type stars
a_constant = refl

-- two literals are one text
texts : AllRead (Text 0 (104 ∷ []) ∷ Text 1 (105 ∷ []) ∷ []) (expr (unnumbered 0) (text (104 ∷ 105 ∷ []))) 1
unfolding part expression primary suffixes arguments unary_of_all operations climb commas texts_from type_name type stars
texts = refl

-- a + b * c
product_first : AllRead (a_at 0 ∷ Punctuator 1 punctuators.Plus ∷ b_at 2 ∷ Punctuator 3 punctuators.Star ∷ c_at 4 ∷ []) (expr (unnumbered 0) (binary binaries.Add (a 0) (expr (unnumbered 2) (binary binaries.Multiply (b 2) (c 4))))) 3
unfolding part expression primary suffixes arguments unary_of_all operations climb commas texts_from type_name type stars
product_first = refl

-- a - b - c
to_the_left : AllRead (a_at 0 ∷ Punctuator 1 punctuators.Minus ∷ b_at 2 ∷ Punctuator 3 punctuators.Minus ∷ c_at 4 ∷ []) (expr (unnumbered 0) (binary binaries.Subtract (expr (unnumbered 0) (binary binaries.Subtract (a 0) (b 2))) (c 4))) 3
unfolding part expression primary suffixes arguments unary_of_all operations climb commas texts_from type_name type stars
to_the_left = refl

-- (a + b) * c: a height for the parentheses, and the product stands at them
parentheses : AllRead (Punctuator 0 punctuators.OpenParenthesis ∷ a_at 1 ∷ Punctuator 2 punctuators.Plus ∷ b_at 3 ∷ Punctuator 4 punctuators.CloseParenthesis ∷ Punctuator 5 punctuators.Star ∷ c_at 6 ∷ []) (expr (unnumbered 0) (binary binaries.Multiply (expr (unnumbered 1) (binary binaries.Add (a 1) (b 3))) (c 6))) 4
unfolding part expression primary suffixes arguments unary_of_all operations climb commas texts_from type_name type stars
parentheses = refl

-- a ( ): a call without arguments
no_call : AllRead (a_at 0 ∷ Punctuator 1 punctuators.OpenParenthesis ∷ Punctuator 2 punctuators.CloseParenthesis ∷ []) (expr (unnumbered 0) (call (97 ∷ []) no_exprs)) 1
unfolding part expression primary suffixes arguments unary_of_all operations climb commas texts_from type_name type stars
no_call = refl

-- a(b, c)
a_call : AllRead (a_at 0 ∷ Punctuator 1 punctuators.OpenParenthesis ∷ b_at 2 ∷ Punctuator 3 punctuators.Comma ∷ c_at 4 ∷ Punctuator 5 punctuators.CloseParenthesis ∷ []) (expr (unnumbered 0) (call (97 ∷ []) (expr_and (b 2) (expr_and (c 4) no_exprs)))) 2
unfolding part expression primary suffixes arguments unary_of_all operations climb commas texts_from type_name type stars
a_call = refl

-- a[b]
an_index : AllRead (a_at 0 ∷ Punctuator 1 punctuators.OpenBracket ∷ b_at 2 ∷ Punctuator 3 punctuators.CloseBracket ∷ []) (expr (unnumbered 0) (subscript (a 0) (b 2))) 2
unfolding part expression primary suffixes arguments unary_of_all operations climb commas texts_from type_name type stars
an_index = refl

-- a.b->c
a_member : AllRead (a_at 0 ∷ Punctuator 1 punctuators.Dot ∷ b_at 2 ∷ Punctuator 3 punctuators.Arrow ∷ c_at 4 ∷ []) (expr (unnumbered 0) (member accesses.Arrow (expr (unnumbered 0) (member accesses.Dot (a 0) (98 ∷ []))) (99 ∷ []))) 3
unfolding part expression primary suffixes arguments unary_of_all operations climb commas texts_from type_name type stars
a_member = refl

-- a++ --
steps_after : AllRead (a_at 0 ∷ Punctuator 1 punctuators.Increment ∷ Punctuator 2 punctuators.Decrement ∷ []) (expr (unnumbered 0) (step steps.DecrementAfter (expr (unnumbered 0) (step steps.IncrementAfter (a 0))))) 3
unfolding part expression primary suffixes arguments unary_of_all operations climb commas texts_from type_name type stars
steps_after = refl

-- ++ --a
steps_before : AllRead (Punctuator 0 punctuators.Increment ∷ Punctuator 1 punctuators.Decrement ∷ a_at 2 ∷ []) (expr (unnumbered 0) (step steps.IncrementBefore (expr (unnumbered 1) (step steps.DecrementBefore (a 2))))) 3
unfolding part expression primary suffixes arguments unary_of_all operations climb commas texts_from type_name type stars
steps_before = refl

-- (const char *) a
a_cast : AllRead (Punctuator 0 punctuators.OpenParenthesis ∷ Keyword 1 keywords.Const ∷ Keyword 2 keywords.Char ∷ Punctuator 3 punctuators.Star ∷ Punctuator 4 punctuators.CloseParenthesis ∷ a_at 5 ∷ []) (expr (unnumbered 0) (cast (record { base = bases.Char; stars = 1 }) (a 5))) 2
unfolding part expression primary suffixes arguments unary_of_all operations climb commas texts_from type_name type stars
a_cast = refl

-- sizeof (unsigned char)
size_of_a_type : AllRead (Keyword 0 keywords.Sizeof ∷ Punctuator 1 punctuators.OpenParenthesis ∷ Keyword 2 keywords.Unsigned ∷ Keyword 3 keywords.Char ∷ Punctuator 4 punctuators.CloseParenthesis ∷ []) (expr (unnumbered 0) (sizeof_type (record { base = bases.Char; stars = 0 }))) 1
unfolding part expression primary suffixes arguments unary_of_all operations climb commas texts_from type_name type stars
size_of_a_type = refl

-- sizeof (a): the parentheses are of the operand
size_of_a_value : AllRead (Keyword 0 keywords.Sizeof ∷ Punctuator 1 punctuators.OpenParenthesis ∷ a_at 2 ∷ Punctuator 3 punctuators.CloseParenthesis ∷ []) (expr (unnumbered 0) (sizeof_expr (a 2))) 3
unfolding part expression primary suffixes arguments unary_of_all operations climb commas texts_from type_name type stars
size_of_a_value = refl

-- sizeof (int) + a: no cast
size_before_sum : AllRead (Keyword 0 keywords.Sizeof ∷ Punctuator 1 punctuators.OpenParenthesis ∷ Keyword 2 keywords.Int ∷ Punctuator 3 punctuators.CloseParenthesis ∷ Punctuator 4 punctuators.Plus ∷ a_at 5 ∷ []) (expr (unnumbered 0) (binary binaries.Add (expr (unnumbered 0) (sizeof_type (record { base = bases.Int; stars = 0 }))) (a 5))) 2
unfolding part expression primary suffixes arguments unary_of_all operations climb commas texts_from type_name type stars
size_before_sum = refl

-- a ? b : c
a_choice : AllRead (a_at 0 ∷ Punctuator 1 punctuators.Question ∷ b_at 2 ∷ Punctuator 3 punctuators.Colon ∷ c_at 4 ∷ []) (expr (unnumbered 0) (conditional (a 0) (b 2) (c 4))) 2
unfolding part expression primary suffixes arguments unary_of_all operations climb commas texts_from type_name type stars
a_choice = refl

-- a = b = c
assigned_to_the_right : AllRead (a_at 0 ∷ Punctuator 1 punctuators.Assign ∷ b_at 2 ∷ Punctuator 3 punctuators.Assign ∷ c_at 4 ∷ []) (expr (unnumbered 0) (assign assigns.Plain (a 0) (expr (unnumbered 2) (assign assigns.Plain (b 2) (c 4))))) 3
unfolding part expression primary suffixes arguments unary_of_all operations climb commas texts_from type_name type stars
assigned_to_the_right = refl

-- a, b, c
commas_to_the_left : AllRead (a_at 0 ∷ Punctuator 1 punctuators.Comma ∷ b_at 2 ∷ Punctuator 3 punctuators.Comma ∷ c_at 4 ∷ []) (expr (unnumbered 0) (comma (expr (unnumbered 0) (comma (a 0) (b 2))) (c 4))) 3
unfolding part expression primary suffixes arguments unary_of_all operations climb commas texts_from type_name type stars
commas_to_the_left = refl

-- each operator between two names, and each before one

binary_operator : (s : BinaryOperator) → AllRead (a_at 0 ∷ Punctuator 1 (punctuator_of_binary s) ∷ b_at 2 ∷ []) (expr (unnumbered 0) (binary s (a 0) (b 2))) 2
unfolding part expression primary suffixes arguments unary_of_all operations climb commas texts_from type_name type stars
binary_operator binaries.Multiply = refl
binary_operator binaries.Divide = refl
binary_operator binaries.Remainder = refl
binary_operator binaries.Add = refl
binary_operator binaries.Subtract = refl
binary_operator binaries.ShiftLeft = refl
binary_operator binaries.ShiftRight = refl
binary_operator binaries.Less = refl
binary_operator binaries.LessEqual = refl
binary_operator binaries.Greater = refl
binary_operator binaries.GreaterEqual = refl
binary_operator binaries.Equal = refl
binary_operator binaries.NotEqual = refl
binary_operator binaries.BitAnd = refl
binary_operator binaries.BitXor = refl
binary_operator binaries.BitOr = refl
binary_operator binaries.And = refl
binary_operator binaries.Or = refl

assign_operator : (s : AssignmentOperator) → AllRead (a_at 0 ∷ Punctuator 1 (punctuator_of_assign s) ∷ b_at 2 ∷ []) (expr (unnumbered 0) (assign s (a 0) (b 2))) 2
unfolding part expression primary suffixes arguments unary_of_all operations climb commas texts_from type_name type stars
assign_operator assigns.Plain = refl
assign_operator assigns.Multiply = refl
assign_operator assigns.Divide = refl
assign_operator assigns.Remainder = refl
assign_operator assigns.Add = refl
assign_operator assigns.Subtract = refl
assign_operator assigns.ShiftLeft = refl
assign_operator assigns.ShiftRight = refl
assign_operator assigns.BitAnd = refl
assign_operator assigns.BitXor = refl
assign_operator assigns.BitOr = refl

unary_operator : (s : UnaryOperator) → AllRead (Punctuator 0 (punctuator_of_unary s) ∷ a_at 1 ∷ []) (expr (unnumbered 0) (unary s (a 1))) 2
unfolding part expression primary suffixes arguments unary_of_all operations climb commas texts_from type_name type stars
unary_operator unaries.Address = refl
unary_operator unaries.Indirect = refl
unary_operator unaries.Plus = refl
unary_operator unaries.Minus = refl
unary_operator unaries.Complement = refl
unary_operator unaries.Not = refl

-- where nothing is read

-- the operand is missing: no token is left
nothing : Refused 5 (a_at 0 ∷ Punctuator 1 punctuators.Plus ∷ []) (Unexpected 0)
unfolding part expression primary suffixes arguments unary_of_all operations climb commas texts_from type_name type stars
nothing = refl

-- a parenthesis without its end
no_end : Refused 5 (Punctuator 0 punctuators.OpenParenthesis ∷ a_at 1 ∷ []) (Unexpected 0)
unfolding part expression primary suffixes arguments unary_of_all operations climb commas texts_from type_name type stars
no_end = refl

-- a cast to a name is none
no_type : Refused 5 (Punctuator 0 punctuators.OpenParenthesis ∷ Keyword 1 keywords.Struct ∷ Punctuator 2 punctuators.CloseParenthesis ∷ a_at 3 ∷ []) (Unexpected 2)
unfolding part expression primary suffixes arguments unary_of_all operations climb commas texts_from type_name type stars
no_type = refl

-- -a is two high
too_deep : Refused 1 (Punctuator 0 punctuators.Minus ∷ a_at 1 ∷ []) (Deep 2)
unfolding part expression primary suffixes arguments unary_of_all operations climb commas texts_from type_name type stars
too_deep = refl

-- sizeof (a) is three high: the operand, since a type might stand behind the parenthesis
size_too_deep : Refused 1 (Keyword 0 keywords.Sizeof ∷ Punctuator 1 punctuators.OpenParenthesis ∷ a_at 2 ∷ Punctuator 3 punctuators.CloseParenthesis ∷ []) (Deep 2)
unfolding part expression primary suffixes arguments unary_of_all operations climb commas texts_from type_name type stars
size_too_deep = refl

-- the same with a level more
size_just_too_deep : Refused 2 (Keyword 0 keywords.Sizeof ∷ Punctuator 1 punctuators.OpenParenthesis ∷ a_at 2 ∷ Punctuator 3 punctuators.CloseParenthesis ∷ []) (Deep 2)
unfolding part expression primary suffixes arguments unary_of_all operations climb commas texts_from type_name type stars
size_just_too_deep = refl

-- and where nothing stands in the parentheses
size_of_nothing : Refused 2 (Keyword 0 keywords.Sizeof ∷ Punctuator 1 punctuators.OpenParenthesis ∷ Punctuator 2 punctuators.CloseParenthesis ∷ []) (Unexpected 1)
unfolding part expression primary suffixes arguments unary_of_all operations climb commas texts_from type_name type stars
size_of_nothing = refl

-- a + b + c is three high: the second operator
sum_too_deep : Refused 2 (a_at 0 ∷ Punctuator 1 punctuators.Plus ∷ b_at 2 ∷ Punctuator 3 punctuators.Plus ∷ c_at 4 ∷ []) (Deep 2)
unfolding part expression primary suffixes arguments unary_of_all operations climb commas texts_from type_name type stars
sum_too_deep = refl
