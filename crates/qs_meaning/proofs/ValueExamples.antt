-- What values are on the way, not only modulo 256: conversions, comparisons, operators, results of calls.
use Rattle.std.proofs.Common.{◌≡◌, ℕ, [], ◌∷◌, Option, Some, None, refl}
use Rattle.qs_syntax.specs.declared.types.Base.TheVariants as bases
use Rattle.qs_syntax_vocabulary.specs.declared.operators.UnaryOperator.TheVariants as unaries
use Rattle.qs_syntax_vocabulary.specs.declared.operators.StepOperator.TheVariants as steps
use Rattle.qs_syntax_vocabulary.specs.declared.operators.BinaryOperator.{BinaryOperator}
use Rattle.qs_syntax_vocabulary.specs.declared.operators.BinaryOperator.TheVariants as binaries
use Rattle.qs_syntax_vocabulary.specs.declared.operators.AssignmentOperator.{AssignmentOperator}
use Rattle.qs_syntax_vocabulary.specs.declared.operators.AssignmentOperator.TheVariants as assigns
use Rattle.qs_syntax.specs.Trees.{ExprTree, StmtTree}
use Rattle.qs_syntax.specs.Trees as trees
use Rattle.qs_events.specs.Events.{Calls, Returns, TakesEnd, Puts}
use Rattle.qs_events.specs.BoundedRun.{BoundedRun, Ended}
use Rattle.qs_meaning.proofs.Samples.{e, number, natural, a, c, p, op, plus, set, update, minus, cast, call, putchar, getchar, one, local, int_, pointer_, array_, eval, return, defined, main_}
use Rattle.qs_meaning.proofs.Outcomes.{outcome, of_main, ends}

abbrev times : ExprTree → ℕ → ExprTree
times x n = op binaries.Multiply x (number n)

abbrev equal : ExprTree → ExprTree → ExprTree
equal x y = op binaries.Equal x y

abbrev char_c : StmtTree
char_c = local bases.Char 0 99 one None

-- ---- the given functions (7.21.7.6, 7.21.7.8)

-- return getchar()==-1; at the end of the input
end_of_input : of_main (return (equal getchar (minus (number 1))) ∷ []) ≡ Some (Ended (Calls 0 ∷ TakesEnd ∷ Returns 0 ∷ []) 1)
end_of_input = refl

-- return putchar(321)==65;
result_of_putchar : of_main (return (equal (putchar (number 321)) (number 65)) ∷ []) ≡ Some (Ended (Calls 0 ∷ Puts 65 ∷ Returns 0 ∷ []) 1)
result_of_putchar = refl

-- ---- conversions (6.3.1)

-- char c; c=300; return c==44;
to_char : of_main (char_c ∷ eval (set c (number 300)) ∷ return (equal c (number 44)) ∷ []) ≡ ends 1
to_char = refl

-- char c; c=255; c+=2; return c==1; the sum of ints is converted back
back_to_char : of_main (char_c ∷ eval (set c (number 255)) ∷ eval (update assigns.Add c (number 2)) ∷ return (equal c (number 1)) ∷ []) ≡ ends 1
back_to_char = refl

-- char c; c=255; return (c++==255)+(c==0)*2;
char_steps : of_main (char_c ∷ eval (set c (number 255)) ∷ return (plus (equal (e (trees.step steps.IncrementAfter c)) (number 255)) (times (equal c (number 0)) 2)) ∷
    []) ≡ ends 3
char_steps = refl

-- return (char)200+(char)100==300; chars are promoted
chars_promoted : of_main (return (equal (plus (cast bases.Char 0 (number 200)) (cast bases.Char 0 (number 100))) (number 300)) ∷ []) ≡ ends 1
chars_promoted = refl

-- return -8>>1u<0; the left operand alone decides whether the sign is copied
sign_copied : of_main (return (op binaries.Less (op binaries.ShiftRight (minus (number 8)) (natural 1)) (number 0)) ∷ []) ≡ ends 1
sign_copied = refl

-- return (-8u>>1)==2147483644u;
sign_not_copied : of_main (return (equal (op binaries.ShiftRight (minus (natural 8)) (number 1)) (natural 2147483644)) ∷ []) ≡ ends 1
sign_not_copied = refl

-- char f(void){return 300;} int main(void){return f()==44;}
returned_char : outcome (defined bases.Char 0 (102 ∷ []) [] (return (number 300) ∷ []) ∷ main_ (return (equal (call 102 []) (number 44)) ∷ []) ∷ []) ≡ Some
    (Ended (Calls 1 ∷ Calls 0 ∷ Returns 0 ∷ Returns 1 ∷ []) 1)
returned_char = refl

-- int *f(void){return 0;} int main(void){return f()==0;}
returned_null : outcome (defined bases.Int 1 (102 ∷ []) [] (return (number 0) ∷ []) ∷ main_ (return (equal (call 102 []) (number 0)) ∷ []) ∷ []) ≡ Some
    (Ended (Calls 1 ∷ Calls 0 ∷ Returns 0 ∷ Returns 1 ∷ []) 1)
returned_null = refl

-- int *p; p=0; return (1?p:0)==0;
chosen_null : of_main (pointer_ 112 ∷ eval (set p (number 0)) ∷ return (equal (e (trees.conditional (number 1) p (number 0))) (number 0)) ∷ []) ≡ ends 1
chosen_null = refl

-- return 0?1:2;
third_operand : of_main (return (e (trees.conditional (number 0) (number 1) (number 2))) ∷ []) ≡ ends 2
third_operand = refl

-- ---- comparisons (6.5.8, 6.5.9): (1 op 2)+(2 op 1)*2+(1 op 1)*4

abbrev compared : BinaryOperator → Option BoundedRun
compared operator = of_main (return (plus (plus (op operator (number 1) (number 2)) (times (op operator (number 2) (number 1)) 2))
    (times (op operator (number 1) (number 1)) 4)) ∷ [])

less : compared binaries.Less ≡ ends 1
less = refl

greater : compared binaries.Greater ≡ ends 2
greater = refl

less_or_equal : compared binaries.LessEqual ≡ ends 5
less_or_equal = refl

greater_or_equal : compared binaries.GreaterEqual ≡ ends 6
greater_or_equal = refl

equal_to : compared binaries.Equal ≡ ends 4
equal_to = refl

not_equal_to : compared binaries.NotEqual ≡ ends 3
not_equal_to = refl

-- the same of pointers: int a[2]; with a for 1 and a+1 for 2
abbrev pointers_compared : BinaryOperator → Option BoundedRun
pointers_compared operator = of_main (array_ 97 2 ∷ return (plus (plus (op operator a (plus a (number 1))) (times (op operator (plus a (number 1)) a) 2))
    (times (op operator a a) 4)) ∷ [])

pointer_less : pointers_compared binaries.Less ≡ ends 1
pointer_less = refl

pointer_greater : pointers_compared binaries.Greater ≡ ends 2
pointer_greater = refl

pointer_less_or_equal : pointers_compared binaries.LessEqual ≡ ends 5
pointer_less_or_equal = refl

pointer_greater_or_equal : pointers_compared binaries.GreaterEqual ≡ ends 6
pointer_greater_or_equal = refl

pointer_equal_to : pointers_compared binaries.Equal ≡ ends 4
pointer_equal_to = refl

pointer_not_equal_to : pointers_compared binaries.NotEqual ≡ ends 3
pointer_not_equal_to = refl

-- ---- logical operators (6.5.13, 6.5.14, 6.5.3.3p5)

-- return (2&&3)*10+(0||4);
ones : of_main (return (plus (times (op binaries.And (number 2) (number 3)) 10) (op binaries.Or (number 0) (number 4))) ∷ []) ≡ ends 11
ones = refl

-- return (2&&0)*10+(0||0);
zeros : of_main (return (plus (times (op binaries.And (number 2) (number 0)) 10) (op binaries.Or (number 0) (number 0))) ∷ []) ≡ ends 0
zeros = refl

-- int a[2]; int *p; p=0; return !p+!a*2+!5*4+!0*8;
negations : of_main (array_ 97 2 ∷ pointer_ 112 ∷ eval (set p (number 0)) ∷ return
    (plus (plus (plus (e (trees.unary unaries.Not p)) (times (e (trees.unary unaries.Not a)) 2)) (times (e (trees.unary unaries.Not (number 5))) 4))
    (times (e (trees.unary unaries.Not (number 0))) 8)) ∷ []) ≡ ends 9
negations = refl

-- ---- arithmetic: an operator of 6 and 3, and of int and unsigned

abbrev calculated : BinaryOperator → Option BoundedRun
calculated operator = of_main (return (op operator (number 6) (number 3)) ∷ [])

product : calculated binaries.Multiply ≡ ends 18
product = refl

quotient : calculated binaries.Divide ≡ ends 2
quotient = refl

remainder : of_main (return (op binaries.Remainder (number 7) (number 4)) ∷ []) ≡ ends 3
remainder = refl

difference : calculated binaries.Subtract ≡ ends 3
difference = refl

shifted_left : calculated binaries.ShiftLeft ≡ ends 48
shifted_left = refl

shifted_right : calculated binaries.ShiftRight ≡ ends 0
shifted_right = refl

bits_and : calculated binaries.BitAnd ≡ ends 2
bits_and = refl

bits_xor : calculated binaries.BitXor ≡ ends 5
bits_xor = refl

bits_or : calculated binaries.BitOr ≡ ends 7
bits_or = refl

-- return ~5+6+-1+ +1;
unary_operators : of_main (return (plus (plus (plus (e (trees.unary unaries.Complement (number 5))) (number 6)) (minus (number 1)))
    (e (trees.unary unaries.Plus (number 1)))) ∷ []) ≡ ends 0
unary_operators = refl

-- return -1/2u==2147483647; and return -1%7u; divide unsigneds
unsigned_quotient : of_main (return (equal (op binaries.Divide (minus (number 1)) (natural 2)) (number 2147483647)) ∷ []) ≡ ends 1
unsigned_quotient = refl

unsigned_remainder : of_main (return (op binaries.Remainder (minus (number 1)) (natural 7)) ∷ []) ≡ ends 3
unsigned_remainder = refl

-- ---- compound assignments (6.5.16.2): int a; a=13; a op= 3; return a;

abbrev updated : AssignmentOperator → Option BoundedRun
updated operator = of_main (int_ 97 ∷ eval (set a (number 13)) ∷ eval (update operator a (number 3)) ∷ return a ∷ [])

multiplied : updated assigns.Multiply ≡ ends 39
multiplied = refl

divided : updated assigns.Divide ≡ ends 4
divided = refl

left_over : updated assigns.Remainder ≡ ends 1
left_over = refl

added : updated assigns.Add ≡ ends 16
added = refl

subtracted : updated assigns.Subtract ≡ ends 10
subtracted = refl

moved_left : updated assigns.ShiftLeft ≡ ends 104
moved_left = refl

moved_right : of_main (int_ 97 ∷ eval (set a (number 13)) ∷ eval (update assigns.ShiftRight a (number 2)) ∷ return a ∷ []) ≡ ends 3
moved_right = refl

masked : of_main (int_ 97 ∷ eval (set a (number 13)) ∷ eval (update assigns.BitAnd a (number 6)) ∷ return a ∷ []) ≡ ends 4
masked = refl

flipped : of_main (int_ 97 ∷ eval (set a (number 13)) ∷ eval (update assigns.BitXor a (number 6)) ∷ return a ∷ []) ≡ ends 11
flipped = refl

joined : of_main (int_ 97 ∷ eval (set a (number 13)) ∷ eval (update assigns.BitOr a (number 6)) ∷ return a ∷ []) ≡ ends 15
joined = refl

-- ---- steps (6.5.2.4, 6.5.3.1): int a; a=5; return a op *10+a;

abbrev stepped : (ExprTree → ExprTree) → Option BoundedRun
stepped step = of_main (int_ 97 ∷ eval (set a (number 5)) ∷ return (plus (times (step a) 10) a) ∷ [])

increment_after : stepped (λ x. e (trees.step steps.IncrementAfter x)) ≡ ends 56
increment_after = refl

decrement_after : stepped (λ x. e (trees.step steps.DecrementAfter x)) ≡ ends 54
decrement_after = refl

increment_before : stepped (λ x. e (trees.step steps.IncrementBefore x)) ≡ ends 66
increment_before = refl

decrement_before : stepped (λ x. e (trees.step steps.DecrementBefore x)) ≡ ends 44
decrement_before = refl

-- int a[2]; int *p; p=a; p++; return p-a+(p--==a+1)*2;
pointer_steps : of_main (array_ 97 2 ∷ pointer_ 112 ∷ eval (set p a) ∷ eval (e (trees.step steps.IncrementAfter p)) ∷ return
    (plus (op binaries.Subtract p a) (times (equal (e (trees.step steps.DecrementAfter p)) (plus a (number 1))) 2)) ∷ []) ≡ ends 3
pointer_steps = refl
