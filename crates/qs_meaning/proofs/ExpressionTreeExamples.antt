-- The typed trees of expressions, one for each form and each conversion, computed from the definition.
use Rattle.std.proofs.Common.{◌≡◌, ℕ, [], ◌∷◌, None, refl}
use Rattle.qs_syntax_vocabulary.specs.declared.operators.UnaryOperator.TheVariants as unaries
use Rattle.qs_syntax_vocabulary.specs.declared.operators.StepOperator.TheVariants as steps
use Rattle.qs_syntax_vocabulary.specs.declared.operators.BinaryOperator.TheVariants as binaries
use Rattle.qs_syntax_vocabulary.specs.declared.operators.AssignmentOperator.TheVariants as assigns
use Rattle.qs_syntax.specs.declared.types.Base.TheVariants as bases
use Rattle.qs_syntax.specs.Trees as trees
use Rattle.qs_memory.specs.declared.scalar.Scalar.TheVariants.{Char, Int, Unsigned, Pointer}
use Rattle.qs_memory.specs.declared.operation.Signedness.TheVariants as signs
use Rattle.qs_memory.specs.declared.operation.Direction.TheVariants.{Up, Down}
use Rattle.qs_memory.specs.declared.operation.UnaryOperation.TheVariants.{Plus, Minus, Complement, Not}
use Rattle.qs_memory.specs.declared.operation.Arithmetic.TheVariants.{Add, Subtract, Multiply, Divide, ShiftLeft, ShiftRight, And}
use Rattle.qs_memory.specs.declared.operation.Comparison.TheVariants.{Less, Equal, NotEqual}
use Rattle.qs_memory.specs.declared.operation.BinaryOperation.{BinaryOperation}
use Rattle.qs_memory.specs.declared.operation.BinaryOperation.TheVariants.{Arithmetic, Compare, Move, Difference, ComparePointers}
use Rattle.qs_types.specs.Types.{int, unsigned, char, void, pointer, array, struct}
use Rattle.qs_meaning.specs.Typed.{unchanged, converted, as_written, exchanged, Expr, constant, value, pointer_to, member, stepped_after, unary, cast, binary, logical_and, logical_or, conditional, variable, object, no_arguments, argument_and, set, update, discard, assign, perform, local, static}
use Rattle.qs_calls.specs.declared.callee.Callee.{Callee}
use Rattle.qs_calls.specs.declared.callee.Callee.TheVariants.{Function, PutChar, GetChar}
use Rattle.qs_meaning.specs.Forms.{lvalue, result, call, assignment, step, struct_assignment, comma}
use Rattle.qs_meaning.specs.Expressions.{typed}
use Rattle.qs_meaning.proofs.Samples as c
use Rattle.qs_meaning.proofs.Samples.{e, number, natural, op, address, deref, at, dot, arrow}
use Rattle.qs_meaning.proofs.ExampleScopes.{scope, is, u, x, v, h, text_at}

-- ---- words

abbrev function : ℕ → Callee
function k = Function (record { 0 = k })

abbrev char_c : Expr
char_c = value Char (variable 0)

abbrev int_i : Expr
int_i = value Int (variable 1)

abbrev unsigned_u : Expr
unsigned_u = value Unsigned (variable 2)

abbrev pointer_p : Expr
pointer_p = value Pointer (variable 3)

abbrev int_x : Expr
int_x = value Int (object (pointer_to (local 0)))

abbrev first_of_a : Expr
first_of_a = pointer_to (local 1)

abbrev one : Expr
one = constant Int 1

abbrev add_ints : BinaryOperation
add_ints = Arithmetic Add signs.Signed

abbrev add_unsigneds : BinaryOperation
add_unsigneds = Arithmetic Add signs.Unsigned

-- ---- 6.5.1: 1, 1u, texts, names; c is a variable of the call, x a block of the call, g a block of the unit

int_constant : typed scope (number 1) ≡ is int (result (constant Int 1))
int_constant = refl

unsigned_constant : typed scope (natural 1) ≡ is unsigned (result (constant Unsigned 1))
unsigned_constant = refl

second_text : typed scope (text_at 41 (104 ∷ 105 ∷ [])) ≡ is (array char 3) (lvalue (object (pointer_to (static 3))))
second_text = refl

plain_name : typed scope c.c ≡ is char (lvalue (variable 0))
plain_name = refl

placed_name : typed scope x ≡ is int (lvalue (object (pointer_to (local 0))))
placed_name = refl

file_scope_name : typed scope h ≡ is (array char 2) (lvalue (object (pointer_to (static 1))))
file_scope_name = refl

-- ---- 6.5.2: a[1], 1[a], f(u, a), k(), putchar(c), getchar(), v.n, q->m, c++, p--, x++

subscript : typed scope (at c.a (number 1)) ≡ is int (lvalue (object (binary (Move Up signs.Signed 4) as_written unchanged unchanged first_of_a one)))
subscript = refl

subscript_from_right : typed scope (at (number 1) c.a) ≡ is int (lvalue (object (binary (Move Up signs.Signed 4) exchanged unchanged unchanged one first_of_a)))
subscript_from_right = refl

arguments_converted :
    typed scope (c.call 102 (u ∷ c.a ∷ []))
    ≡ is int (call (function 0) (argument_and (converted Unsigned Char) unsigned_u (argument_and unchanged first_of_a no_arguments)))
arguments_converted = refl

null_argument :
    typed scope (c.call 102 (c.c ∷ number 0 ∷ []))
    ≡ is int (call (function 0) (argument_and unchanged char_c (argument_and (converted Int Pointer) (constant Int 0) no_arguments)))
null_argument = refl

void_call : typed scope (c.call 107 []) ≡ is void (call (function 1) no_arguments)
void_call = refl

putchar_call : typed scope (c.putchar c.c) ≡ is int (call PutChar (argument_and (converted Char Int) char_c no_arguments))
putchar_call = refl

getchar_call : typed scope c.getchar ≡ is int (call GetChar no_arguments)
getchar_call = refl

dot_member : typed scope (dot v 110) ≡ is int (lvalue (object (member 4 (pointer_to (local 2)))))
dot_member = refl

arrow_member : typed scope (arrow c.q 109) ≡ is char (lvalue (object (member 0 (value Pointer (variable 5)))))
arrow_member = refl

increment_after :
    typed scope (e (trees.step steps.IncrementAfter c.c))
    ≡ is char (step (update Char (variable 0) add_ints (converted Char Int) unchanged (converted Int Char) one) (stepped_after Char (variable 0) add_ints
    (converted Char Int) (converted Int Char)))
increment_after = refl

decrement_after :
    typed scope (e (trees.step steps.DecrementAfter c.p))
    ≡ is (pointer int) (step (update Pointer (variable 3) (Move Down signs.Signed 4) unchanged unchanged unchanged one) (stepped_after Pointer (variable 3)
    (Move Down signs.Signed 4) unchanged unchanged))
decrement_after = refl

-- ---- 6.5.3: ++x, --u, &x, &a, *p, *q as an object, +c, -u, ~c, !p, !c, sizeof a, sizeof (struct s)

increment_before :
    typed scope (e (trees.step steps.IncrementBefore x))
    ≡ is int (assignment (update Int (object (pointer_to (local 0))) add_ints unchanged unchanged unchanged one))
increment_before = refl

decrement_before :
    typed scope (e (trees.step steps.DecrementBefore u))
    ≡ is unsigned (assignment (update Unsigned (variable 2) (Arithmetic Subtract signs.Unsigned) unchanged (converted Int Unsigned) unchanged one))
decrement_before = refl

address_of_object : typed scope (address x) ≡ is (pointer int) (result (pointer_to (local 0)))
address_of_object = refl

address_of_array : typed scope (address c.a) ≡ is (pointer (array int 3)) (result first_of_a)
address_of_array = refl

address_of_element : typed scope (address (at c.a (number 1))) ≡ is (pointer int) (result (binary (Move Up signs.Signed 4) as_written unchanged unchanged first_of_a one))
address_of_element = refl

-- the name of a plain variable is never the operand of `&`
address_of_plain : typed scope (address c.c) ≡ None
address_of_plain = refl

indirect : typed scope (deref c.p) ≡ is int (lvalue (object pointer_p))
indirect = refl

indirect_array : typed scope (deref c.a) ≡ is int (lvalue (object first_of_a))
indirect_array = refl

plus : typed scope (e (trees.unary unaries.Plus c.c)) ≡ is int (result (unary (Plus signs.Signed) (converted Char Int) char_c))
plus = refl

minus : typed scope (e (trees.unary unaries.Minus u)) ≡ is unsigned (result (unary (Minus signs.Unsigned) unchanged unsigned_u))
minus = refl

complement : typed scope (e (trees.unary unaries.Complement c.c)) ≡ is int (result (unary (Complement signs.Signed) (converted Char Int) char_c))
complement = refl

not_pointer : typed scope (e (trees.unary unaries.Not c.p)) ≡ is int (result (unary Not unchanged pointer_p))
not_pointer = refl

not_char : typed scope (e (trees.unary unaries.Not c.c)) ≡ is int (result (unary Not (converted Char Int) char_c))
not_char = refl

size_of_array : typed scope (e (trees.sizeof_expr c.a)) ≡ is unsigned (result (constant Unsigned 12))
size_of_array = refl

size_of_struct : typed scope (e (trees.sizeof_type (record { base = c.s_base; stars = 0 }))) ≡ is unsigned (result (constant Unsigned 8))
size_of_struct = refl

-- ---- 6.5.4: (char)u, (char *)p, (int *)0

cast_to_char : typed scope (c.cast bases.Char 0 u) ≡ is char (result (cast (converted Unsigned Char) unsigned_u))
cast_to_char = refl

cast_of_pointer : typed scope (c.cast bases.Char 1 c.p) ≡ is (pointer char) (result (cast unchanged pointer_p))
cast_of_pointer = refl

cast_of_null : typed scope (c.cast bases.Int 1 (number 0)) ≡ is (pointer int) (result (cast (converted Int Pointer) (constant Int 0)))
cast_of_null = refl

-- ---- 6.5.5 to 6.5.12: c*i, i+u, x+1, p+i, c+p, a-p, p-u, c<<u, u>>c, i<u, p==0, a!=p, c&c

usual_char :
    typed scope (op binaries.Multiply c.c c.i)
    ≡ is int (result (binary (Arithmetic Multiply signs.Signed) as_written (converted Char Int) unchanged char_c int_i))
usual_char = refl

usual_unsigned : typed scope (op binaries.Add c.i u) ≡ is unsigned (result (binary add_unsigneds as_written (converted Int Unsigned) unchanged int_i unsigned_u))
usual_unsigned = refl

usual_char_unsigned :
    typed scope (op binaries.Divide c.c u)
    ≡ is unsigned (result (binary (Arithmetic Divide signs.Unsigned) as_written (converted Char Unsigned) unchanged char_c unsigned_u))
usual_char_unsigned = refl

lvalue_conversion : typed scope (op binaries.Add x (number 1)) ≡ is int (result (binary add_ints as_written unchanged unchanged int_x one))
lvalue_conversion = refl

pointer_plus : typed scope (op binaries.Add c.p c.i) ≡ is (pointer int) (result (binary (Move Up signs.Signed 4) as_written unchanged unchanged pointer_p int_i))
pointer_plus = refl

plus_pointer :
    typed scope (op binaries.Add c.c c.p)
    ≡ is (pointer int) (result (binary (Move Up signs.Signed 4) exchanged (converted Char Int) unchanged char_c pointer_p))
plus_pointer = refl

pointer_minus :
    typed scope (op binaries.Subtract c.p u)
    ≡ is (pointer int) (result (binary (Move Down signs.Unsigned 4) as_written unchanged unchanged pointer_p unsigned_u))
pointer_minus = refl

pointer_difference : typed scope (op binaries.Subtract c.a c.p) ≡ is int (result (binary (Difference 4) as_written unchanged unchanged first_of_a pointer_p))
pointer_difference = refl

shift_left :
    typed scope (op binaries.ShiftLeft c.c u)
    ≡ is int (result (binary (Arithmetic ShiftLeft signs.Signed) as_written (converted Char Int) unchanged char_c unsigned_u))
shift_left = refl

shift_right :
    typed scope (op binaries.ShiftRight u c.c)
    ≡ is unsigned (result (binary (Arithmetic ShiftRight signs.Unsigned) as_written unchanged (converted Char Int) unsigned_u char_c))
shift_right = refl

less_unsigned :
    typed scope (op binaries.Less c.i u)
    ≡ is int (result (binary (Compare Less signs.Unsigned) as_written (converted Int Unsigned) unchanged int_i unsigned_u))
less_unsigned = refl

less_chars :
    typed scope (op binaries.Less c.c c.c)
    ≡ is int (result (binary (Compare Less signs.Signed) as_written (converted Char Int) (converted Char Int) char_c char_c))
less_chars = refl

equal_null :
    typed scope (op binaries.Equal c.p (number 0))
    ≡ is int (result (binary (ComparePointers Equal) as_written unchanged (converted Int Pointer) pointer_p (constant Int 0)))
equal_null = refl

not_equal_array : typed scope (op binaries.NotEqual c.a c.p) ≡ is int (result (binary (ComparePointers NotEqual) as_written unchanged unchanged first_of_a pointer_p))
not_equal_array = refl

bits :
    typed scope (op binaries.BitAnd c.c c.c)
    ≡ is int (result (binary (Arithmetic And signs.Signed) as_written (converted Char Int) (converted Char Int) char_c char_c))
bits = refl

-- ---- 6.5.13 to 6.5.15: c && p, p || i, c ? i : u, i ? p : 0

logical_and_kept : typed scope (op binaries.And c.c c.p) ≡ is int (result (logical_and char_c pointer_p))
logical_and_kept = refl

logical_or_kept : typed scope (op binaries.Or c.p c.i) ≡ is int (result (logical_or pointer_p int_i))
logical_or_kept = refl

conditional_usual : typed scope (e (trees.conditional c.c c.i u)) ≡ is unsigned (result (conditional Unsigned char_c (converted Int Unsigned) unchanged int_i unsigned_u))
conditional_usual = refl

conditional_null :
    typed scope (e (trees.conditional c.i c.p (number 0)))
    ≡ is (pointer int) (result (conditional Pointer int_i unchanged (converted Int Pointer) pointer_p (constant Int 0)))
conditional_null = refl

-- ---- 6.5.16: c = u, x = c, p = 0, v = v, c += u, u <<= c, p -= c

set_plain : typed scope (c.set c.c u) ≡ is char (assignment (set Char (variable 0) (converted Unsigned Char) unsigned_u))
set_plain = refl

set_placed : typed scope (c.set x c.c) ≡ is int (assignment (set Int (object (pointer_to (local 0))) (converted Char Int) char_c))
set_placed = refl

set_null : typed scope (c.set c.p (number 0)) ≡ is (pointer int) (assignment (set Pointer (variable 3) (converted Int Pointer) (constant Int 0)))
set_null = refl

set_struct : typed scope (c.set v (deref c.q)) ≡ is (struct 0) (struct_assignment 8 4 (pointer_to (local 2)) (value Pointer (variable 5)))
set_struct = refl

add_assigned :
    typed scope (c.update assigns.Add c.c u)
    ≡ is char (assignment (update Char (variable 0) add_unsigneds (converted Char Unsigned) unchanged (converted Unsigned Char) unsigned_u))
add_assigned = refl

shift_assigned :
    typed scope (c.update assigns.ShiftLeft u c.c)
    ≡ is unsigned (assignment (update Unsigned (variable 2) (Arithmetic ShiftLeft signs.Unsigned) unchanged (converted Char Int) unchanged char_c))
shift_assigned = refl

pointer_moved :
    typed scope (c.update assigns.Subtract c.p c.c)
    ≡ is (pointer int) (assignment (update Pointer (variable 3) (Move Down signs.Signed 4) unchanged (converted Char Int) unchanged char_c))
pointer_moved = refl

-- ---- 6.5.17: i, a; k(), c++; (c = u, p), where what stands left of a comma is discarded

comma_of_array : typed scope (c.comma c.i c.a) ≡ is (pointer int) (comma (discard int_i) (array int 3) (lvalue (object first_of_a)))
comma_of_array = refl

comma_of_call :
    typed scope (c.comma (c.call 107 []) (c.after c.c))
    ≡ is char (comma (perform (function 1) no_arguments) char (step (update Char (variable 0) add_ints (converted Char Int) unchanged (converted Int Char) one)
    (stepped_after Char (variable 0) add_ints (converted Char Int) (converted Int Char))))
comma_of_call = refl

comma_of_assignment :
    typed scope (c.comma (c.set c.c u) c.p)
    ≡ is (pointer int) (comma (assign (set Char (variable 0) (converted Unsigned Char) unsigned_u)) (pointer int) (lvalue (variable 3)))
comma_of_assignment = refl
