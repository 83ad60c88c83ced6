-- What whole sources do, computed from the definition: order of evaluation, loops, calls, scopes, input and output, bounds.
use Rattle.std.proofs.Common.{◌≡◌, ℕ, [], ◌∷◌, Some, None, refl}
use Rattle.qs_syntax.specs.declared.types.Base.TheVariants as bases
use Rattle.qs_syntax_vocabulary.specs.declared.operators.BinaryOperator.TheVariants as binaries
use Rattle.qs_syntax_vocabulary.specs.declared.operators.AssignmentOperator.TheVariants as assigns
use Rattle.qs_syntax.specs.Trees.{unnumbered, no_start, start_declaration, DeclTree}
use Rattle.qs_syntax.specs.Trees as trees
use Rattle.qs_events.specs.Events.{Calls, Returns, Takes, TakesEnd, Puts}
use Rattle.qs_events.specs.BoundedRun.{Ended, Short}
use Rattle.qs_meaning.proofs.Samples.{number, natural, a, b, c, i, p, op, plus, less, set, update, minus, address, deref, at, comma, after, cast, call, putchar, getchar, one, many, declarator, local, global, int_, eval, return, block, when, while, parameter, defined, main_, valued, listed, numbers}
use Rattle.qs_meaning.proofs.Outcomes.{outcome, outcome_within, of_main, ends}

-- ---- arithmetic (6.2.5p9, 6.5.5, 6.5.7)

-- return 2147483647+1<0;
wraps : of_main (return (less (plus (number 2147483647) (number 1)) (number 0)) ∷ []) ≡ ends 1
wraps = refl

-- return -7/2; and return -7%2; the quotient is truncated toward zero
truncates : of_main (return (op binaries.Divide (minus (number 7)) (number 2)) ∷ []) ≡ ends 253
truncates = refl

remainder_of_negative : of_main (return (op binaries.Remainder (minus (number 7)) (number 2)) ∷ []) ≡ ends 255
remainder_of_negative = refl

-- return -8>>1; and return -8>>1u; the left operand alone decides
shifts_sign : of_main (return (op binaries.ShiftRight (minus (number 8)) (natural 1)) ∷ []) ≡ ends 252
shifts_sign = refl

-- return -1<1u;
compares_unsigned : of_main (return (less (minus (number 1)) (natural 1)) ∷ []) ≡ ends 0
compares_unsigned = refl

-- return (char)300+(char)300;
promotes_char : of_main (return (op binaries.Subtract (plus (cast bases.Char 0 (number 300)) (cast bases.Char 0 (number 300))) (number 80)) ∷ []) ≡ ends 8
promotes_char = refl

-- ---- order (6.5p3 as it is here: left to right)

-- int a; a=1; return a+(a=5)*10; is 1+50
left_first : of_main (int_ 97 ∷ eval (set a (number 1)) ∷ return (plus a (op binaries.Multiply (set a (number 5)) (number 10))) ∷ []) ≡ ends 51
left_first = refl

-- int a; a=1; a+=(a=10); return a; the left value is read before the right side
compound_reads_first : of_main (int_ 97 ∷ eval (set a (number 1)) ∷ eval (update assigns.Add a (set a (number 10))) ∷ return a ∷ []) ≡ ends 11
compound_reads_first = refl

-- int a; a=5; return a++*10+a; is 50+6
step_after : of_main (int_ 97 ∷ eval (set a (number 5)) ∷ return (plus (op binaries.Multiply (after a) (number 10)) a) ∷ []) ≡ ends 56
step_after = refl

-- int a; a=0; 0&&(a=1); 1||(a=2); 1&&(a=a+3); return a;
short_circuits :
    of_main (int_ 97 ∷ eval (set a (number 0)) ∷ eval (op binaries.And (number 0) (set a (number 1))) ∷ eval (op binaries.Or (number 1) (set a (number 2))) ∷ eval
    (op binaries.And (number 1) (set a (plus a (number 3)))) ∷ return a ∷ [])
    ≡ ends 3
short_circuits = refl

-- int a; return (a=3,a+1);
comma_in_order : of_main (int_ 97 ∷ return (comma (set a (number 3)) (plus a (number 1))) ∷ []) ≡ ends 4
comma_in_order = refl

-- return putchar(65)-putchar(66)+1; the output in the order of the text
output_in_order :
    of_main (return (plus (op binaries.Subtract (putchar (number 65)) (putchar (number 66))) (number 1)) ∷ [])
    ≡ Some (Ended (Calls 0 ∷ Puts 65 ∷ Puts 66 ∷ Returns 0 ∷ []) 0)
output_in_order = refl

-- ---- conversions on the way (6.5.16.1p2, 6.5.2.2p7)

-- char c; c=321; return c;
assigned_to_char : of_main (local bases.Char 0 99 one None ∷ eval (set c (number 321)) ∷ return c ∷ []) ≡ ends 65
assigned_to_char = refl

-- putchar(321);
put_modulo : of_main (return (putchar (number 321)) ∷ []) ≡ Some (Ended (Calls 0 ∷ Puts 65 ∷ Returns 0 ∷ []) 65)
put_modulo = refl

-- ---- input (7.21.7.6)

-- return getchar()+getchar(); on one byte
input_ends : outcome_within 3 (7 ∷ []) (main_ (return (plus getchar getchar) ∷ []) ∷ []) ≡ Some (Ended (Calls 0 ∷ Takes 7 ∷ TakesEnd ∷ Returns 0 ∷ []) 6)
input_ends = refl

-- ---- loops (6.8.5, 6.8.6)

-- int a; a=0; while(a<2)a=a+1; return a;
abbrev counts_to : ℕ → DeclTree
counts_to n = main_ (int_ 97 ∷ eval (set a (number 0)) ∷ while (less a (number n)) (eval (set a (plus a (number 1)))) ∷ return a ∷ [])

-- two turns and the test that ends the loop are three turns
while_ends : outcome (counts_to 2 ∷ []) ≡ ends 2
while_ends = refl

while_is_short : outcome (counts_to 3 ∷ []) ≡ Some (Short (Calls 0 ∷ []))
while_is_short = refl

-- int a; a=0; do a=a+1; while(a<3); return a; a turn begins with the body
do_ends : of_main (int_ 97 ∷ eval (set a (number 0)) ∷ trees.do_loop (unnumbered 0) (eval (set a (plus a (number 1)))) (less a (number 3)) ∷ return a ∷ []) ≡ ends 3
do_ends = refl

-- int a; a=0; for(int i=0;i<2;i++){if(i==0)continue;a=a+5;} return a; `continue` goes to the step
abbrev int_i_0 : trees.StartTree
int_i_0 = start_declaration (record { base = bases.Int; variables = record { declarator = declarator 0 105 one; initialiser = Some (valued (number 0)) } ∷ [] })

for_continues :
    of_main (int_ 97 ∷ eval (set a (number 0)) ∷ trees.for_loop (unnumbered 0) int_i_0 (Some (less i (number 2))) (Some (after i)) (block (when (op binaries.Equal i
    (number 0)) (trees.continue (unnumbered 0)) ∷ eval (set a (plus a (number 5))) ∷ [])) ∷ return a ∷ [])
    ≡ ends 5
for_continues = refl

-- for(;;){putchar(120);break;} return 4;
for_ever_breaks :
    of_main (trees.for_loop (unnumbered 0) no_start None None (block (eval (putchar (number 120)) ∷ trees.break (unnumbered 0) ∷ [])) ∷ return (number 4) ∷ [])
    ≡ Some (Ended (Calls 0 ∷ Puts 120 ∷ Returns 0 ∷ []) 4)
for_ever_breaks = refl

-- while(1)putchar(120); within 2 turns
endless : outcome_within 2 [] (main_ (while (number 1) (eval (putchar (number 120))) ∷ []) ∷ []) ≡ Some (Short (Calls 0 ∷ Puts 120 ∷ Puts 120 ∷ []))
endless = refl

-- ---- scopes (6.2.1)

-- int a; a=1; {int a; a=2;} return a;
inner_hides : of_main (int_ 97 ∷ eval (set a (number 1)) ∷ block (int_ 97 ∷ eval (set a (number 2)) ∷ []) ∷ return a ∷ []) ≡ ends 1
inner_hides = refl

-- int a; int main(void){a=7;return a;}
file_scope_written : outcome (global bases.Int 0 97 one None ∷ main_ (eval (set a (number 7)) ∷ return a ∷ []) ∷ []) ≡ ends 7
file_scope_written = refl

-- int b; while(b..): a declaration without initialiser does nothing when it is reached again:
-- int b; b=0; while(b<2){int a; if(b==0)a=9; b=b+1; if(b==2)return a;} return 0;
reached_again :
    of_main (int_ 98 ∷ eval (set b (number 0)) ∷ while (less b (number 2)) (block (int_ 97 ∷ when (op binaries.Equal b (number 0)) (eval (set a (number 9))) ∷ eval
    (set b (plus b (number 1))) ∷ when (op binaries.Equal b (number 2)) (return a) ∷ [])) ∷ return (number 0) ∷ [])
    ≡ ends 9
reached_again = refl

-- ---- calls (6.5.2.2, 6.9.1)

-- int f(int a){a=a+1;return a;} int main(void){int a;a=5;return f(a)*10+a;}
abbrev f_next : DeclTree
f_next = defined bases.Int 0 (102 ∷ []) (parameter bases.Int 0 97 ∷ []) (eval (set a (plus a (number 1))) ∷ return a ∷ [])

by_value :
    outcome (f_next ∷ main_ (int_ 97 ∷ eval (set a (number 5)) ∷ return (plus (op binaries.Multiply (call 102 (a ∷ [])) (number 10)) a) ∷ []) ∷ [])
    ≡ Some (Ended (Calls 1 ∷ Calls 0 ∷ Returns 0 ∷ Returns 1 ∷ []) 65)
by_value = refl

-- int f(int a){int *p;p=&a;*p=*p+1;return a;}
abbrev f_placed : DeclTree
f_placed = defined bases.Int 0 (102 ∷ []) (parameter bases.Int 0 97 ∷ [])
    (local bases.Int 1 112 one None ∷ eval (set p (address a)) ∷ eval (set (deref p) (plus (deref p) (number 1))) ∷ return a ∷ [])

placed_parameter : outcome (f_placed ∷ main_ (return (call 102 (number 8 ∷ [])) ∷ []) ∷ []) ≡ Some (Ended (Calls 1 ∷ Calls 0 ∷ Returns 0 ∷ Returns 1 ∷ []) 9)
placed_parameter = refl

-- int f(int a){if(a==0)return 0;return f(a-1)+1;}
abbrev f_recursive : DeclTree
f_recursive = defined bases.Int 0 (102 ∷ []) (parameter bases.Int 0 97 ∷ [])
    (when (op binaries.Equal a (number 0)) (return (number 0)) ∷ return (plus (call 102 (op binaries.Subtract a (number 1) ∷ [])) (number 1)) ∷ [])

-- main is nested one deep, so f(1) is nested three deep
recursion :
    outcome (f_recursive ∷ main_ (return (call 102 (number 1 ∷ [])) ∷ []) ∷ [])
    ≡ Some (Ended (Calls 1 ∷ Calls 0 ∷ Calls 0 ∷ Returns 0 ∷ Returns 0 ∷ Returns 1 ∷ []) 1)
recursion = refl

recursion_is_short : outcome (f_recursive ∷ main_ (return (call 102 (number 2 ∷ [])) ∷ []) ∷ []) ≡ Some (Short (Calls 1 ∷ Calls 0 ∷ Calls 0 ∷ []))
recursion_is_short = refl

-- nothing happens within 0
nothing_within : outcome_within 0 [] (main_ (return (number 1) ∷ []) ∷ []) ≡ Some (Short [])
nothing_within = refl

-- int main(void){}
end_of_main : of_main [] ≡ ends 0
end_of_main = refl

-- return 256; the status is modulo 256
status_modulo : of_main (return (number 256) ∷ []) ≡ ends 0
status_modulo = refl

-- ---- initialisers (6.7.9)

-- int a[3]={4,5}; return a[0]*10+a[1]+a[2];
list_fills :
    of_main (local bases.Int 0 97 (many 3) (Some (listed (numbers (4 ∷ 5 ∷ [])))) ∷ return (plus (plus (op binaries.Multiply (at a (number 0)) (number 10)) (at a
    (number 1))) (at a (number 2))) ∷ [])
    ≡ ends 45
list_fills = refl

-- int a[2]={7,a[0]+1}; return a[1]; each expression is evaluated just before it is stored
list_in_order :
    of_main (local bases.Int 0 97 (many 2) (Some (listed (valued (number 7) ∷ valued (plus (at a (number 0)) (number 1)) ∷ []))) ∷ return (at a (number 1)) ∷ [])
    ≡ ends 8
list_in_order = refl
