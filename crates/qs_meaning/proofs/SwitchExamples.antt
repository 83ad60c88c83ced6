-- What switches do, computed from the definition: which label is met, fall through, jumps out of a switch, values of labels.
use Rattle.std.proofs.Common.{◌≡◌, ℕ, [], ◌∷◌, List, Option, Some, None, refl}
use Rattle.qs_syntax.specs.declared.types.Base.TheVariants as bases
use Rattle.qs_syntax_vocabulary.specs.declared.operators.BinaryOperator.TheVariants as binaries
use Rattle.qs_syntax_vocabulary.specs.declared.operators.AssignmentOperator.TheVariants as assigns
use Rattle.qs_syntax.specs.Trees.{unnumbered, start_expression, StmtTree}
use Rattle.qs_syntax.specs.Trees as trees
use Rattle.qs_memory.specs.declared.scalar.Scalar.TheVariants.{Char, Int}
use Rattle.qs_memory.specs.Partial.{◌>>=◌}
use Rattle.qs_events.specs.Events.{Calls, Returns, Puts}
use Rattle.qs_events.specs.BoundedRun.{BoundedRun, Ended}
use Rattle.qs_meaning.specs.Typed.{unchanged, converted, constant, value, variable, nothing, evaluate, Stmts, no_stmts, stmt_and, TypedProgram}
use Rattle.qs_meaning.specs.Typed as typed_trees
use Rattle.qs_meaning.proofs.Samples.{number, natural, a, b, c, i, p, op, less, set, update, minus, after, cast, call, putchar, one, local, int_, pointer_, eval, return, block, while, switch, case, default, break, continue, parameter, defined, main_, valued}
use Rattle.qs_meaning.proofs.Outcomes.{program_of, outcome, of_main, ends, stuck}

-- int a; a=0; .. return a;
abbrev leaves : List StmtTree → Option BoundedRun
leaves ss = of_main (int_ 97 ∷ eval (set a (number 0)) ∷ block ss ∷ return a ∷ [])

-- ---- which label is met (6.8.4.2p5)

-- int f(int a){switch(a){case 1:return 5;case 2:a=7;break;default:a=9;}return a;} int main(void){return f(..);}
abbrev three_ways : ℕ → Option BoundedRun
three_ways n =
    outcome (defined bases.Int 0 (102 ∷ []) (parameter bases.Int 0 97 ∷ [])
    (switch a (case (number 1) ∷ return (number 5) ∷ case (number 2) ∷ eval (set a (number 7)) ∷ break ∷ default ∷ eval (set a (number 9)) ∷ []) ∷ return a ∷ [])
    ∷ main_ (return (call 102 (number n ∷ [])) ∷ []) ∷ [])

abbrev called_ends : ℕ → Option BoundedRun
called_ends status = Some (Ended (Calls 1 ∷ Calls 0 ∷ Returns 0 ∷ Returns 1 ∷ []) status)

first_case : three_ways 1 ≡ called_ends 5
first_case = refl

second_case : three_ways 2 ≡ called_ends 7
second_case = refl

neither_case : three_ways 3 ≡ called_ends 9
neither_case = refl

-- switch(2){case 1:return 1;case 2:case 3:return 2;} several labels before one statement
several_labels : leaves (switch (number 2) (case (number 1) ∷ return (number 1) ∷ case (number 2) ∷ case (number 3) ∷ return (number 2) ∷ []) ∷ []) ≡ ends 2
several_labels = refl

-- switch(a=3){case 1:a=1;} the operand is evaluated, and nothing else is done
no_label_met : leaves (switch (set a (number 3)) (case (number 1) ∷ eval (set a (number 1)) ∷ []) ∷ []) ≡ ends 3
no_label_met = refl

-- switch(a=3){}
no_items : leaves (switch (set a (number 3)) [] ∷ []) ≡ ends 3
no_items = refl

-- switch(putchar(65)){case 65:putchar(66);}
operand_once :
    of_main (switch (putchar (number 65)) (case (number 65) ∷ eval (putchar (number 66)) ∷ []) ∷ return (number 0) ∷ [])
    ≡ Some (Ended (Calls 0 ∷ Puts 65 ∷ Puts 66 ∷ Returns 0 ∷ []) 0)
operand_once = refl

-- ---- fall through

-- switch(1){case 1:a=1;case 2:a+=2;break;case 3:a=9;}
falls_through :
    leaves (switch (number 1) (case (number 1) ∷ eval (set a (number 1)) ∷ case (number 2) ∷ eval (update assigns.Add a (number 2)) ∷ break ∷ case (number 3) ∷ eval
    (set a (number 9)) ∷ []) ∷ [])
    ≡ ends 3
falls_through = refl

-- switch(..){default:a+=1;case 2:a+=4;} a `default` that stands first is met last, and falls through too
abbrev default_first : ℕ → Option BoundedRun
default_first n = leaves (switch (number n) (default ∷ eval (update assigns.Add a (number 1)) ∷ case (number 2) ∷ eval (update assigns.Add a (number 4)) ∷ []) ∷ [])

default_is_last : default_first 2 ≡ ends 4
default_is_last = refl

default_falls : default_first 7 ≡ ends 5
default_falls = refl

-- ---- jumps (6.8.6.2, 6.8.6.3)

-- switch(1){case 1:while(1){break;}a=2;} a break in a loop ends the loop alone
break_of_a_loop : leaves (switch (number 1) (case (number 1) ∷ while (number 1) (block (break ∷ [])) ∷ eval (set a (number 2)) ∷ []) ∷ []) ≡ ends 2
break_of_a_loop = refl

-- while(a<5){switch(a){case 0:a=4;break;default:a=6;}} a break in a switch ends the switch alone
break_of_a_switch :
    leaves (while (less a (number 5)) (switch a (case (number 0) ∷ eval (set a (number 4)) ∷ break ∷ default ∷ eval (set a (number 6)) ∷ [])) ∷ [])
    ≡ ends 6
break_of_a_switch = refl

-- int i; for(i=0;i<2;i++){switch(i){case 0:continue;}a+=5;} a continue leaves the switch, and the rest of the turn
continue_of_a_loop :
    leaves (int_ 105 ∷ trees.for_loop (unnumbered 0) (start_expression (set i (number 0))) (Some (less i (number 2))) (Some (after i))
    (block (switch i (case (number 0) ∷ continue ∷ []) ∷ eval (update assigns.Add a (number 5)) ∷ [])) ∷ [])
    ≡ ends 5
continue_of_a_loop = refl

-- ---- switches in switches

-- switch(2){case 1:switch(2){case 2:return 7;}return 8;case 2:return 6;} labels are those of the nearest switch
inner_labels :
    leaves (switch (number 2) (case (number 1) ∷ switch (number 2) (case (number 2) ∷ return (number 7) ∷ []) ∷ return (number 8) ∷ case (number 2) ∷ return (number 6)
    ∷ []) ∷ [])
    ≡ ends 6
inner_labels = refl

-- switch(1){case 1:switch(1){case 1:break;default:return 9;}a=3;break;default:a=4;}
inner_break :
    leaves (switch (number 1) (case (number 1) ∷ switch (number 1) (case (number 1) ∷ break ∷ default ∷ return (number 9) ∷ []) ∷ eval (set a (number 3)) ∷ break ∷ default
    ∷ eval (set a (number 4)) ∷ []) ∷ [])
    ≡ ends 3
inner_break = refl

-- ---- values of labels (6.8.4.2p5)

-- switch(-1){case 1:return 1;case -1:return 4;}
negative_label : leaves (switch (minus (number 1)) (case (number 1) ∷ return (number 1) ∷ case (minus (number 1)) ∷ return (number 4) ∷ []) ∷ []) ≡ ends 4
negative_label = refl

-- switch(4294967295u){case -1:return 5;} the value of a label is converted to unsigned
unsigned_operand : leaves (switch (natural 4294967295) (case (minus (number 1)) ∷ return (number 5) ∷ []) ∷ []) ≡ ends 5
unsigned_operand = refl

-- switch((char)255){case -1:return 6;case 255:return 7;} a char is promoted, and its values are 0 to 255
char_operand : leaves (switch (cast bases.Char 0 (number 255)) (case (minus (number 1)) ∷ return (number 6) ∷ case (number 255) ∷ return (number 7) ∷ []) ∷ []) ≡ ends 7
char_operand = refl

-- switch(6){case (char)262:return 3;} the constant is a char, whose value 6 is converted
char_label : leaves (switch (number 6) (case (cast bases.Char 0 (number 262)) ∷ return (number 3) ∷ []) ∷ []) ≡ ends 3
char_label = refl

-- switch(8){case 2*4:return 3;}
constant_expression : leaves (switch (number 8) (case (op binaries.Multiply (number 2) (number 4)) ∷ return (number 3) ∷ []) ∷ []) ≡ ends 3
constant_expression = refl

-- ---- declarations (6.8.4.2p7)

-- switch(1){int b;case 1:b=4;return b;}
declared_before_labels : leaves (switch (number 1) (int_ 98 ∷ case (number 1) ∷ eval (set b (number 4)) ∷ return b ∷ []) ∷ []) ≡ ends 4
declared_before_labels = refl

-- switch(1){int b=7;case 1:return b;} an initialiser before the label isn't evaluated, so b has no value
not_initialised : leaves (switch (number 1) (local bases.Int 0 98 one (Some (valued (number 7))) ∷ case (number 1) ∷ return b ∷ []) ∷ []) ≡ stuck
not_initialised = refl

-- switch(1){a=9;case 1:;} nor is a statement before it
not_reached : leaves (switch (number 1) (eval (set a (number 9)) ∷ case (number 1) ∷ trees.empty (unnumbered 0) ∷ []) ∷ []) ≡ ends 0
not_reached = refl

-- switch(1){case 1:{int a;a=8;}default:;} a block in a switch is a scope
scopes : leaves (switch (number 1) (case (number 1) ∷ block (int_ 97 ∷ eval (set a (number 8)) ∷ []) ∷ default ∷ trees.empty (unnumbered 0) ∷ []) ∷ []) ≡ ends 0
scopes = refl

-- ---- what is no program

-- int *p; switch(p){} the operand is no integer
pointer_operand : leaves (pointer_ 112 ∷ switch p [] ∷ []) ≡ None
pointer_operand = refl

-- switch(1){case 2:case 2:;}
label_twice : leaves (switch (number 1) (case (number 2) ∷ case (number 2) ∷ trees.empty (unnumbered 0) ∷ []) ∷ []) ≡ None
label_twice = refl

-- ---- the tree of a switch: int f(char c){switch(c){case 3:default:;}return 0;}

abbrev body_of : Option TypedProgram → Option Stmts
body_of o = o >>= λ u. first u.functions
  where
    first : List typed_trees.Function → Option Stmts
    first [] = None
    first (g ∷ gs) = Some g.body

switch_tree :
    body_of (program_of (defined bases.Int 0 (102 ∷ []) (parameter bases.Char 0 99 ∷ [])
    (switch c (case (number 3) ∷ default ∷ trees.empty (unnumbered 0) ∷ []) ∷ return (number 0) ∷ []) ∷ []))
    ≡ Some (stmt_and (typed_trees.switch (converted Char Int) (value Char (variable 0))
    (stmt_and (typed_trees.case_label 3) (stmt_and typed_trees.default_label (stmt_and (evaluate nothing) no_stmts))))
    (stmt_and (typed_trees.return unchanged (constant Int 0)) no_stmts))
switch_tree = refl
