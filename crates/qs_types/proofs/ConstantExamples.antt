-- Constant expressions: what each operator gives on two values, and of which type, and what they are built of.
use Rattle.std.proofs.Common.{◌≡◌, ℕ, true, false, List, [], ◌∷◌, ◌++◌, Option, Some, None, map, replicate, refl}
use Rattle.qs_syntax_vocabulary.specs.declared.operators.UnaryOperator.{UnaryOperator}
use Rattle.qs_syntax_vocabulary.specs.declared.operators.UnaryOperator.TheVariants as unaries
use Rattle.qs_syntax_vocabulary.specs.declared.operators.StepOperator.TheVariants as steps
use Rattle.qs_syntax_vocabulary.specs.declared.operators.BinaryOperator.{BinaryOperator}
use Rattle.qs_syntax_vocabulary.specs.declared.operators.BinaryOperator.TheVariants as binaries
use Rattle.qs_syntax_vocabulary.specs.declared.operators.AssignmentOperator.TheVariants as assigns
use Rattle.qs_syntax_vocabulary.specs.declared.operators.Access.TheVariants as accesses
use Rattle.qs_syntax.specs.declared.types.Base.{Base}
use Rattle.qs_syntax.specs.declared.types.Base.TheVariants as bases
use Rattle.qs_syntax.specs.Trees.{ExprTree}
use Rattle.qs_syntax.specs.Trees as trees
use Rattle.qs_types.specs.Types.{TypeTree, int, unsigned, char}
use Rattle.qs_types.specs.Contexts.{start_context, no_type_names}
use Rattle.qs_types.specs.Expressions.{type_of}
use Rattle.qs_types.specs.Constants.{constant_of, is_built, length_of}
use Rattle.qs_types.proofs.RuleTrees.{e, number, x, call_f}

-- ---- words

-- a number with the suffix u
abbrev plain : ℕ → ExprTree
plain n = e (trees.constant n true)

abbrev minus : ExprTree → ExprTree
minus a = e (trees.unary unaries.Minus a)

abbrev cast : Base → (stars : ℕ) → ExprTree → ExprTree
cast base stars a = e (trees.cast (record { base = base; stars = stars }) a)

abbrev chosen : ExprTree → ExprTree → ExprTree → ExprTree
chosen d a b = e (trees.conditional d a b)

-- an int, an unsigned, a char
abbrev i : ExprTree
i = number 1

abbrev u : ExprTree
u = plain 1

abbrev c : ExprTree
c = cast bases.Char 0 i

-- * / % + - << >> < <= > >= == != & ^ | && ||
abbrev operators : List BinaryOperator
operators =
    binaries.Multiply ∷ binaries.Divide ∷ binaries.Remainder ∷ binaries.Add ∷ binaries.Subtract ∷ binaries.ShiftLeft ∷ binaries.ShiftRight
    ∷ binaries.Less ∷ binaries.LessEqual ∷ binaries.Greater ∷ binaries.GreaterEqual ∷ binaries.Equal ∷ binaries.NotEqual
    ∷ binaries.BitAnd ∷ binaries.BitXor ∷ binaries.BitOr ∷ binaries.And ∷ binaries.Or ∷ []

-- + - ~ !
abbrev unary_operators : List UnaryOperator
unary_operators = unaries.Plus ∷ unaries.Minus ∷ unaries.Complement ∷ unaries.Not ∷ []

-- ---- values (6.5.3.3, 6.5.5 to 6.5.14)

abbrev values : ExprTree → ExprTree → List (Option ℕ)
values a b = map (λ o. constant_of start_context (e (trees.binary o a b))) operators

-- -7 and 3: both are read with a sign
signed_values : values (minus (number 7)) (number 3)
    ≡ Some 4294967275 ∷ Some 4294967294 ∷ Some 4294967295 ∷ Some 4294967292 ∷ Some 4294967286 ∷ Some 4294967240 ∷ Some 4294967295
    ∷ Some 1 ∷ Some 1 ∷ Some 0 ∷ Some 0 ∷ Some 0 ∷ Some 1 ∷ Some 1 ∷ Some 4294967290 ∷ Some 4294967291 ∷ Some 1 ∷ Some 1 ∷ []
signed_values = refl

-- -7 and 3u: none is, but for the left operand of a shift
unsigned_values : values (minus (number 7)) (plain 3)
    ≡ Some 4294967275 ∷ Some 1431655763 ∷ Some 0 ∷ Some 4294967292 ∷ Some 4294967286 ∷ Some 4294967240 ∷ Some 4294967295
    ∷ Some 0 ∷ Some 0 ∷ Some 1 ∷ Some 1 ∷ Some 0 ∷ Some 1 ∷ Some 1 ∷ Some 4294967290 ∷ Some 4294967291 ∷ Some 1 ∷ Some 1 ∷ []
unsigned_values = refl

-- -7u and 3
unsigned_left_values : values (minus (plain 7)) (number 3)
    ≡ Some 4294967275 ∷ Some 1431655763 ∷ Some 0 ∷ Some 4294967292 ∷ Some 4294967286 ∷ Some 4294967240 ∷ Some 536870911
    ∷ Some 0 ∷ Some 0 ∷ Some 1 ∷ Some 1 ∷ Some 0 ∷ Some 1 ∷ Some 1 ∷ Some 4294967290 ∷ Some 4294967291 ∷ Some 1 ∷ Some 1 ∷ []
unsigned_left_values = refl

-- 3 and 3
same_values : values (number 3) (number 3)
    ≡ Some 9 ∷ Some 1 ∷ Some 0 ∷ Some 6 ∷ Some 0 ∷ Some 24 ∷ Some 0
    ∷ Some 0 ∷ Some 1 ∷ Some 0 ∷ Some 1 ∷ Some 1 ∷ Some 0 ∷ Some 3 ∷ Some 0 ∷ Some 3 ∷ Some 1 ∷ Some 1 ∷ []
same_values = refl

-- 3 and 0
zero_values : values (number 3) (number 0)
    ≡ Some 0 ∷ None ∷ None ∷ Some 3 ∷ Some 3 ∷ Some 3 ∷ Some 3
    ∷ Some 0 ∷ Some 0 ∷ Some 1 ∷ Some 1 ∷ Some 0 ∷ Some 1 ∷ Some 0 ∷ Some 3 ∷ Some 3 ∷ Some 0 ∷ Some 1 ∷ []
zero_values = refl

-- 0 and 3u, 0 and 0
or_values : map (λ b. constant_of start_context (e (trees.binary binaries.Or (number 0) b))) (plain 3 ∷ number 0 ∷ []) ≡ Some 1 ∷ Some 0 ∷ []
or_values = refl

-- the least int by -1 has no value (6.5.5p6); by 4294967295u, by 1
least_quotients : map (λ b. constant_of start_context (e (trees.binary binaries.Divide (e (trees.binary binaries.Subtract (minus (number 2147483647)) i)) b))) (minus i ∷ plain 4294967295 ∷ i ∷ []) ≡ None ∷ Some 0 ∷ Some 2147483648 ∷ []
least_quotients = refl

unary_values : map (λ o. constant_of start_context (e (trees.unary o (number 5)))) unary_operators ≡ Some 5 ∷ Some 4294967291 ∷ Some 4294967290 ∷ Some 0 ∷ []
unary_values = refl

unary_zeros : map (λ o. constant_of start_context (e (trees.unary o (number 0)))) unary_operators ≡ Some 0 ∷ Some 0 ∷ Some 4294967295 ∷ Some 1 ∷ []
unary_zeros = refl

-- 1/-1; (int)456, (unsigned)456, (char)456 (6.3.1.3); 0?2:3, 3?2:1 (6.5.15p4)
other_values : map (constant_of start_context) (e (trees.binary binaries.Divide i (minus i)) ∷ cast bases.Int 0 (number 456) ∷ cast bases.Unsigned 0 (number 456) ∷ cast bases.Char 0 (number 456) ∷ chosen (number 0) (number 2) (number 3) ∷ chosen (number 3) (number 2) (number 1) ∷ [])
    ≡ Some 4294967295 ∷ Some 456 ∷ Some 456 ∷ Some 200 ∷ Some 3 ∷ Some 2 ∷ []
other_values = refl

-- a length from 2147483648 on is one of an unsigned alone (6.7.6.2p1)
lengths : map (length_of start_context) (number 2147483647 ∷ cast bases.Int 0 (plain 2147483648) ∷ plain 2147483648 ∷ cast bases.Char 0 (number 257) ∷ plain 0 ∷ []) ≡ Some 2147483647 ∷ None ∷ Some 2147483648 ∷ Some 1 ∷ None ∷ []
lengths = refl

-- ---- types (6.3.1.1p2, 6.3.1.8)

abbrev types : ExprTree → ExprTree → List (Option TypeTree)
types a b = map (λ o. type_of start_context (e (trees.binary o a b))) operators

-- a char is promoted
char_types : types c c ≡ replicate 18 (Some int)
char_types = refl

-- one unsigned operand is enough, but for shifts
unsigned_types : types u c ≡ replicate 7 (Some unsigned) ++ replicate 6 (Some int) ++ replicate 3 (Some unsigned) ++ replicate 2 (Some int)
unsigned_types = refl

unsigned_right_types : types i u ≡ replicate 5 (Some unsigned) ++ replicate 8 (Some int) ++ replicate 3 (Some unsigned) ++ replicate 2 (Some int)
unsigned_right_types = refl

unary_types : map (λ o. type_of start_context (e (trees.unary o c))) unary_operators ≡ replicate 4 (Some int)
unary_types = refl

unsigned_unary_types : map (λ o. type_of start_context (e (trees.unary o u))) unary_operators ≡ replicate 3 (Some unsigned) ++ Some int ∷ []
unsigned_unary_types = refl

-- casts to int, unsigned and char; 1?c:c, 1?1:1u, 1?1u:c; sizeof(char)
other_types : map (type_of start_context) (cast bases.Int 0 u ∷ cast bases.Unsigned 0 c ∷ c ∷ chosen i c c ∷ chosen i i u ∷ chosen i u c ∷ e (trees.sizeof_type (record { base = bases.Char; stars = 0 })) ∷ [])
    ≡ Some int ∷ Some unsigned ∷ Some char ∷ Some int ∷ Some unsigned ∷ Some unsigned ∷ Some unsigned ∷ []
other_types = refl

-- ---- what they are built of (6.6)

-- what isn't, also where it isn't evaluated: a text, a name, &x, *x, x++, sizeof x, x=1, a comma, x[1], x.m, f(), and a cast to a pointer
abbrev no_parts : List ExprTree
no_parts =
    e (trees.text []) ∷ x ∷ e (trees.unary unaries.Address x) ∷ e (trees.unary unaries.Indirect x) ∷ e (trees.step steps.IncrementAfter x) ∷ e (trees.sizeof_expr x)
    ∷ e (trees.assign assigns.Plain x i) ∷ e (trees.comma i i) ∷ e (trees.subscript x i) ∷ e (trees.member accesses.Dot x []) ∷ call_f [] ∷ cast bases.Int 1 i ∷ []

not_built : map (is_built no_type_names) no_parts ≡ replicate 12 false
not_built = refl

-- an expression is built only of what is
abbrev around : ExprTree → List ExprTree
around a =
    minus a ∷ e (trees.unary unaries.Plus a) ∷ e (trees.unary unaries.Complement a) ∷ e (trees.unary unaries.Not a) ∷ cast bases.Int 0 a
    ∷ e (trees.binary binaries.Or i a) ∷ e (trees.binary binaries.Add a i) ∷ chosen a i i ∷ chosen i a i ∷ chosen i i a ∷ []

built_around : map (is_built no_type_names) (around i) ≡ replicate 10 true
built_around = refl

not_built_around : map (is_built no_type_names) (around x) ≡ replicate 10 false
not_built_around = refl
