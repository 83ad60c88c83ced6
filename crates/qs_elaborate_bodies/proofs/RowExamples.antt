-- What each form of an expression is in core, by examples; names as in int x, y; int *p; char c; unsigned u; a placed local a; int f().
use Rattle.std.proofs.Common.{◌≡◌, ℕ, List, [], ◌∷◌, Some, None, refl}
use Rattle.qs_memory.specs.Memory.{zeros}
use Rattle.qs_memory.specs.declared.scalar.Scalar.TheVariants.{Char, Int, Unsigned, Pointer}
use Rattle.qs_memory.specs.declared.operation.Signedness.TheVariants as signs
use Rattle.qs_memory.specs.declared.operation.Direction.TheVariants.{Up}
use Rattle.qs_memory.specs.declared.operation.UnaryOperation.TheVariants.{Minus, Truth}
use Rattle.qs_memory.specs.declared.operation.Arithmetic.TheVariants.{Add}
use Rattle.qs_memory.specs.declared.operation.BinaryOperation.{BinaryOperation}
use Rattle.qs_memory.specs.declared.operation.BinaryOperation.TheVariants.{Arithmetic, Move}
use Rattle.qs_calls.specs.declared.callee.Callee.{Callee}
use Rattle.qs_calls.specs.declared.callee.Callee.TheVariants.{Function, PutChar}
use Rattle.qs_core.specs.declared.numbers.BlockId.TheVariants.{Local, Data}
use Rattle.qs_core.specs.Trees.{CoreExprTree, literal, null_pointer, temporary, address_of, load, conversion, CoreStmtTree, store, stmts_of}
use Rattle.qs_core.specs.Trees as core
use Rattle.qs_meaning.specs.Typed.{unchanged, converted, as_written, exchanged, local, static, Expr, constant, value, pointer_to, member, called, stepped_after, unary, cast, binary, logical_and, logical_or, conditional, assigned, sequence, variable, object, no_arguments, argument_and, set, update, nothing, discard, assign, perform, copy, fill, in_order}
use Rattle.qs_elaborate_bodies.specs.Parts.{Temporaries, keep, written, Valued, Listed, plain}
use Rattle.qs_elaborate_bodies.specs.Expressions.{expression_core, effect_core}

-- ---- words

abbrev x : Expr
x = value Int (variable 0)

abbrev core_x : CoreExprTree
core_x = core.variable Int 0

abbrev y : Expr
y = value Int (variable 1)

abbrev core_y : CoreExprTree
core_y = core.variable Int 1

abbrev p : Expr
p = value Pointer (variable 2)

abbrev core_p : CoreExprTree
core_p = core.variable Pointer 2

abbrev c : Expr
c = value Char (variable 3)

abbrev core_c : CoreExprTree
core_c = core.variable Char 3

abbrev u : Expr
u = value Unsigned (variable 4)

abbrev a : Expr
a = pointer_to (local 0)

abbrev core_a : CoreExprTree
core_a = address_of (Local 0)

abbrev function_f : Callee
function_f = Function (record { 0 = 0 })

-- f()
abbrev f : Expr
f = called Int function_f no_arguments

abbrev calls_f : ℕ → CoreStmtTree
calls_f k = core.call (Some k) function_f []

-- a pointer that f gives
abbrev pointer_f : Expr
pointer_f = called Pointer function_f no_arguments

abbrev number : ℕ → Expr
number n = constant Int n

abbrev core_number : ℕ → CoreExprTree
core_number n = literal Int n

abbrev plus : BinaryOperation
plus = Arithmetic Add signs.Signed

abbrev core_plus : CoreExprTree → CoreExprTree → CoreExprTree
core_plus = core.binary plus

abbrev sum : Expr → Expr → Expr
sum e d = binary plus as_written unchanged unchanged e d

abbrev int_temporary : ℕ → CoreExprTree
int_temporary k = temporary Int k

abbrev assign_x : CoreExprTree → CoreStmtTree
assign_x e = written Int (plain 0) e

-- what an expression gives behind these temporaries
abbrev gives : List CoreStmtTree → CoreExprTree → Temporaries → Valued
gives ss e ts = record { statements = ss; value = e; temporaries = ts }

abbrev does : List CoreStmtTree → Temporaries → Listed
does ss ts = record { statements = ss; temporaries = ts }

-- ---- without statements

literals : expression_core (constant Unsigned 5) [] ≡ gives [] (literal Unsigned 5) []
literals = refl

plain_variables : expression_core c (Int ∷ []) ≡ gives [] core_c (Int ∷ [])
plain_variables = refl

-- *p
loads : expression_core (value Int (object p)) [] ≡ gives [] (load Int core_p) []
loads = refl

addresses : expression_core (pointer_to (static 7)) [] ≡ gives [] (address_of (Data 7)) []
addresses = refl

-- &p->n
members : expression_core (member 4 p) [] ≡ gives [] (core.member 4 core_p) []
members = refl

-- -c
operands_converted : expression_core (unary (Minus signs.Signed) (converted Char Int) c) [] ≡ gives [] (core.unary (Minus signs.Signed) (conversion Int core_c)) []
operands_converted = refl

-- (char)x
conversions : expression_core (cast (converted Int Char) x) [] ≡ gives [] (conversion Char core_x) []
conversions = refl

-- (char)300 and (int*)0
literals_folded : expression_core (cast (converted Int Char) (number 300)) [] ≡ gives [] (literal Char 44) []
literals_folded = refl

null_constants : expression_core (cast (converted Int Pointer) (number 0)) [] ≡ gives [] null_pointer []
null_constants = refl

-- -1 is no literal
minus_stands : expression_core (unary (Minus signs.Signed) unchanged (number 1)) [] ≡ gives [] (core.unary (Minus signs.Signed) (core_number 1)) []
minus_stands = refl

-- u+1
usual_conversions :
    expression_core (binary (Arithmetic Add signs.Unsigned) as_written unchanged (converted Int Unsigned) u (number 1)) []
    ≡ gives [] (core.binary (Arithmetic Add signs.Unsigned) (core.variable Unsigned 4) (literal Unsigned 1)) []
usual_conversions = refl

-- 1+p
pointer_on_the_right :
    expression_core (binary (Move Up signs.Signed 4) exchanged unchanged unchanged (number 1) p) []
    ≡ gives [] (core.binary (Move Up signs.Signed 4) core_p (core_number 1)) []
pointer_on_the_right = refl

-- ---- operands and later calls

-- x+f()
first_saved : expression_core (sum x f) [] ≡ gives (keep 0 core_x ∷ calls_f 1 ∷ []) (core_plus (int_temporary 0) (int_temporary 1)) (Int ∷ Int ∷ [])
first_saved = refl

-- 1+f()
literal_not_saved : expression_core (sum (number 1) f) [] ≡ gives (calls_f 0 ∷ []) (core_plus (core_number 1) (int_temporary 0)) (Int ∷ [])
literal_not_saved = refl

-- f()+x
nothing_later : expression_core (sum f x) [] ≡ gives (calls_f 0 ∷ []) (core_plus (int_temporary 0) core_x) (Int ∷ [])
nothing_later = refl

-- f()+f()
temporary_saved :
    expression_core (sum f f) []
    ≡ gives (calls_f 0 ∷ keep 1 (int_temporary 0) ∷ calls_f 2 ∷ []) (core_plus (int_temporary 1) (int_temporary 2)) (Int ∷ Int ∷ Int ∷ [])
temporary_saved = refl

-- c+f(): before its conversion
saved_before_conversion :
    expression_core (binary plus as_written (converted Char Int) unchanged c f) []
    ≡ gives (keep 0 core_c ∷ calls_f 1 ∷ []) (core_plus (conversion Int (temporary Char 0)) (int_temporary 1)) (Char ∷ Int ∷ [])
saved_before_conversion = refl

-- f()+p, for a pointer p: the left operand is evaluated first
evaluated_as_written :
    expression_core (binary (Move Up signs.Signed 4) exchanged unchanged unchanged x pointer_f) []
    ≡ gives (keep 0 core_x ∷ core.call (Some 1) function_f [] ∷ []) (core.binary (Move Up signs.Signed 4) (temporary Pointer 1) (int_temporary 0)) (Int ∷ Pointer ∷ [])
evaluated_as_written = refl

-- x+(1,2): a comma of literals has no statements
no_statements_in_comma : expression_core (sum x (sequence (discard (number 1)) (number 2))) [] ≡ gives [] (core_plus core_x (core_number 2)) []
no_statements_in_comma = refl

-- x+(y,2): what is discarded has one
statement_in_comma :
    expression_core (sum x (sequence (discard y) (number 2))) [] ≡ gives (keep 0 core_x ∷ keep 1 core_y ∷ []) (core_plus (int_temporary 0) (core_number 2)) (Int ∷ Int ∷ [])
statement_in_comma = refl

-- ---- calls

-- f(x,c), where the parameters are int and int
arguments_converted :
    expression_core (called Int function_f (argument_and unchanged x (argument_and (converted Char Int) c no_arguments))) []
    ≡ gives (core.call (Some 0) function_f (core_x ∷ conversion Int core_c ∷ []) ∷ []) (int_temporary 0) (Int ∷ [])
arguments_converted = refl

-- f(c,f(),x): each argument that is followed by one with statements is saved
arguments_saved :
    expression_core (called Int function_f (argument_and (converted Char Int) c (argument_and unchanged f (argument_and unchanged x no_arguments)))) []
    ≡ gives (keep 0 core_c ∷ calls_f 1 ∷ core.call (Some 2) function_f (conversion Int (temporary Char 0) ∷ int_temporary 1 ∷ core_x ∷ []) ∷ []) (int_temporary 2)
    (Char ∷ Int ∷ Int ∷ [])
arguments_saved = refl

-- f(f())
nested_calls :
    expression_core (called Int function_f (argument_and unchanged f no_arguments)) []
    ≡ gives (calls_f 0 ∷ core.call (Some 1) function_f (int_temporary 0 ∷ []) ∷ []) (int_temporary 1) (Int ∷ Int ∷ [])
nested_calls = refl

-- putchar(c);
discarded_call : effect_core (perform PutChar (argument_and (converted Char Int) c no_arguments)) [] ≡ does (core.call None PutChar (conversion Int core_c ∷ []) ∷ []) []
discarded_call = refl

-- ---- assignments

-- x=c
set_plain : expression_core (assigned (set Int (variable 0) (converted Char Int) c)) [] ≡ gives (assign_x (conversion Int core_c) ∷ []) core_x []
set_plain = refl

-- x=f();
set_plain_discarded : effect_core (assign (set Int (variable 0) unchanged f)) [] ≡ does (calls_f 0 ∷ assign_x (int_temporary 0) ∷ []) (Int ∷ [])
set_plain_discarded = refl

-- x+(x=1): the variable is saved before it is written
set_after_use :
    expression_core (sum x (assigned (set Int (variable 0) unchanged (number 1)))) []
    ≡ gives (keep 0 core_x ∷ assign_x (core_number 1) ∷ []) (core_plus (int_temporary 0) core_x) (Int ∷ [])
set_after_use = refl

-- *p=c;
set_object_discarded : effect_core (assign (set Int (object p) (converted Char Int) c)) [] ≡ does (store Int core_p (conversion Int core_c) ∷ []) []
set_object_discarded = refl

-- *p=f();
address_saved : effect_core (assign (set Int (object p) unchanged f)) [] ≡ does (keep 0 core_p ∷ calls_f 1 ∷ store Int (temporary Pointer 0) (int_temporary 1) ∷ []) (Pointer ∷ Int ∷ [])
address_saved = refl

-- *p=c, used: the converted value goes into a temporary
set_object_used :
    expression_core (assigned (set Int (object p) (converted Char Int) c)) []
    ≡ gives (keep 0 (conversion Int core_c) ∷ store Int core_p (int_temporary 0) ∷ []) (int_temporary 0) (Int ∷ [])
set_object_used = refl

-- x+=y
update_plain : expression_core (assigned (update Int (variable 0) plus unchanged unchanged unchanged y)) [] ≡ gives (assign_x (core_plus core_x core_y) ∷ []) core_x []
update_plain = refl

-- c+=x: the value is converted and converted back
update_converted :
    effect_core (assign (update Char (variable 3) plus (converted Char Int) unchanged (converted Int Char) x)) []
    ≡ does (written Char (plain 3) (conversion Char (core_plus (conversion Int core_c) core_x)) ∷ []) []
update_converted = refl

-- x+=f(): the value before is read before the call
value_saved :
    effect_core (assign (update Int (variable 0) plus unchanged unchanged unchanged f)) []
    ≡ does (keep 0 core_x ∷ calls_f 1 ∷ assign_x (core_plus (int_temporary 0) (int_temporary 1)) ∷ []) (Int ∷ Int ∷ [])
value_saved = refl

-- *p+=y, used
update_object :
    expression_core (assigned (update Int (object p) plus unchanged unchanged unchanged y)) []
    ≡ gives (keep 0 (core_plus (load Int core_p) core_y) ∷ store Int core_p (int_temporary 0) ∷ []) (int_temporary 0) (Int ∷ [])
update_object = refl

-- *p+=f(); the address, what stands there, the call
address_and_value_saved :
    effect_core (assign (update Int (object p) plus unchanged unchanged unchanged f)) []
    ≡ does (keep 0 core_p ∷ keep 1 (load Int (temporary Pointer 0)) ∷ calls_f 2 ∷ store Int (temporary Pointer 0) (core_plus (int_temporary 1) (int_temporary 2)) ∷ [])
    (Pointer ∷ Int ∷ Int ∷ [])
address_and_value_saved = refl

-- ++u is u+=1, and u++; as well
step_discarded :
    effect_core (assign (update Unsigned (variable 4) (Arithmetic Add signs.Unsigned) unchanged (converted Int Unsigned) unchanged (number 1))) []
    ≡ does (written Unsigned (plain 4) (core.binary (Arithmetic Add signs.Unsigned) (core.variable Unsigned 4) (literal Unsigned 1)) ∷ []) []
step_discarded = refl

-- u++
step_used :
    expression_core (stepped_after Unsigned (variable 4) (Arithmetic Add signs.Unsigned) unchanged unchanged) []
    ≡ gives (keep 0 (core.variable Unsigned 4) ∷ written Unsigned (plain 4) (core.binary (Arithmetic Add signs.Unsigned) (temporary Unsigned 0) (literal Unsigned 1)) ∷ [])
    (temporary Unsigned 0) (Unsigned ∷ [])
step_used = refl

-- (*p)++ of a char
step_of_object :
    expression_core (stepped_after Char (object p) plus (converted Char Int) (converted Int Char)) []
    ≡ gives (keep 0 (load Char core_p) ∷ store Char core_p (conversion Char (core_plus (conversion Int (temporary Char 0)) (core_number 1))) ∷ []) (temporary Char 0) (Char ∷ [])
step_of_object = refl

-- (*f())++: the address isn't saved, since nothing acts behind it
step_behind_call :
    expression_core (stepped_after Int (object pointer_f) plus unchanged unchanged) []
    ≡ gives (calls_f 0 ∷ keep 1 (load Int (temporary Pointer 0)) ∷ store Int (temporary Pointer 0) (core_plus (int_temporary 1) (core_number 1)) ∷ []) (int_temporary 1)
    (Pointer ∷ Int ∷ [])
step_behind_call = refl

-- ---- structs

structs_copied : effect_core (copy 8 4 a p) [] ≡ does (core.copy 8 4 core_a core_p ∷ []) []
structs_copied = refl

copy_behind_call : effect_core (copy 8 4 p pointer_f) [] ≡ does (keep 0 core_p ∷ calls_f 1 ∷ core.copy 8 4 (temporary Pointer 0) (temporary Pointer 1) ∷ []) (Pointer ∷ Pointer ∷ [])
copy_behind_call = refl

-- ---- `&&`, `||`, `?:`

-- x&&y, x||y, x?y:1
and_operator : expression_core (logical_and x y) [] ≡ gives [] (core.logical_and core_x core_y) []
and_operator = refl

or_operator : expression_core (logical_or x y) [] ≡ gives [] (core.logical_or core_x core_y) []
or_operator = refl

choice_operator : expression_core (conditional Int x (converted Char Int) unchanged c (number 1)) [] ≡ gives [] (core.conditional core_x (conversion Int core_c) (core_number 1)) []
choice_operator = refl

-- f()&&x: the statements of the first operand stand before the operator
and_behind_call : expression_core (logical_and f x) [] ≡ gives (calls_f 0 ∷ []) (core.logical_and (int_temporary 0) core_x) (Int ∷ [])
and_behind_call = refl

-- x&&f(): the temporary is written behind those of f()
and_branch :
    expression_core (logical_and x f) []
    ≡ gives (core.branch core_x (core.seq (stmts_of (calls_f 0 ∷ keep 1 (core.unary Truth (int_temporary 0)) ∷ []))) (keep 1 (core_number 0)) ∷ []) (int_temporary 1) (Int ∷ Int ∷ [])
and_branch = refl

-- x||f(): the temporary is written before those of f()
or_branch :
    expression_core (logical_or x f) []
    ≡ gives (core.branch core_x (keep 0 (core_number 1)) (core.seq (stmts_of (calls_f 1 ∷ keep 0 (core.unary Truth (int_temporary 1)) ∷ []))) ∷ []) (int_temporary 0) (Int ∷ Int ∷ [])
or_branch = refl

-- x?f():f(): the temporary is written behind those of the second operand, before those of the third
choice_branch :
    expression_core (conditional Int x unchanged unchanged f f) []
    ≡ gives
    (core.branch core_x (core.seq (stmts_of (calls_f 0 ∷ keep 1 (int_temporary 0) ∷ []))) (core.seq (stmts_of (calls_f 2 ∷ keep 1 (int_temporary 2) ∷ []))) ∷ [])
    (int_temporary 1)
    (Int ∷ Int ∷ Int ∷ [])
choice_branch = refl

-- x?c:f()
one_branch_acts :
    expression_core (conditional Int x (converted Char Int) unchanged c f) []
    ≡ gives (core.branch core_x (keep 0 (conversion Int core_c)) (core.seq (stmts_of (calls_f 1 ∷ keep 0 (int_temporary 1) ∷ []))) ∷ []) (int_temporary 0) (Int ∷ Int ∷ [])
one_branch_acts = refl

-- ---- commas and what is discarded

-- x=1,y
comma_value : expression_core (sequence (assign (set Int (variable 0) unchanged (number 1))) y) [] ≡ gives (assign_x (core_number 1) ∷ []) core_y []
comma_value = refl

-- x; 1; (int*)0; &a; f(),1;
variable_discarded : effect_core (discard x) [] ≡ does (keep 0 core_x ∷ []) (Int ∷ [])
variable_discarded = refl

literal_discarded : effect_core (discard (number 1)) [] ≡ does [] []
literal_discarded = refl

null_discarded : effect_core (discard (cast (converted Int Pointer) (number 0))) [] ≡ does [] []
null_discarded = refl

address_discarded : effect_core (discard a) [] ≡ does (keep 0 core_a ∷ []) (Pointer ∷ [])
address_discarded = refl

comma_discarded : effect_core (in_order (perform function_f no_arguments) (discard (number 1))) [] ≡ does (core.call None function_f [] ∷ []) []
comma_discarded = refl

-- x||f(); its own temporary, and then one that takes it
or_discarded :
    effect_core (discard (logical_or x f)) []
    ≡ does (core.branch core_x (keep 0 (core_number 1)) (core.seq (stmts_of (calls_f 1 ∷ keep 0 (core.unary Truth (int_temporary 1)) ∷ []))) ∷ keep 2 (int_temporary 0) ∷ [])
    (Int ∷ Int ∷ Int ∷ [])
or_discarded = refl

-- ---- initialisers

-- int a[2]={x,f()};
list_initialiser :
    effect_core
    (in_order (fill (zeros 8) a) (in_order (assign (set Int (object (member 0 a)) unchanged x)) (in_order (assign (set Int (object (member 4 a)) unchanged f)) nothing))) []
    ≡ does
    (core.fill (zeros 8) core_a ∷ store Int (core.member 0 core_a) core_x ∷ keep 0 (core.member 4 core_a) ∷ calls_f 1 ∷ store Int (temporary Pointer 0) (int_temporary 1) ∷ [])
    (Pointer ∷ Int ∷ [])
list_initialiser = refl
