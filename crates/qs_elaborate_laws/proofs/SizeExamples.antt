-- How many values and words small functions need in core, beside the nodes of their sources; f is int f(void), h takes eight chars.
use Rattle.std.proofs.Common.{◌≡◌, ℕ, ◌+◌, ◌*◌, true, false, [], ◌∷◌, None, refl}
use Rattle.qs_memory.specs.Memory.{zeros}
use Rattle.qs_memory.specs.declared.scalar.Scalar.TheVariants.{Char, Int, Pointer}
use Rattle.qs_memory.specs.declared.operation.Signedness.TheVariants.{Signed}
use Rattle.qs_memory.specs.declared.operation.Direction.TheVariants.{Up}
use Rattle.qs_memory.specs.declared.operation.Arithmetic.TheVariants.{Add}
use Rattle.qs_memory.specs.declared.operation.BinaryOperation.TheVariants.{Arithmetic, Move}
use Rattle.qs_calls.specs.declared.callee.Callee.TheVariants as callees
use Rattle.qs_calls.specs.declared.parameter.Parameter.TheVariants.{Plain}
use Rattle.qs_core.specs.Sizes.{values, words}
use Rattle.qs_meaning.specs.Typed.{unchanged, converted, as_written, Expr, constant, value, called, pointer_to, member, binary, assigned, local}
use Rattle.qs_meaning.specs.Typed.{object, Arguments, no_arguments, argument_and, set, update, Effect, nothing, assign, perform, fill, in_order}
use Rattle.qs_meaning.specs.Typed.{evaluate, no_stmts, stmt_and, Function}
use Rattle.qs_elaborate_bodies.specs.Units.{no_names, function_core}
use Rattle.qs_elaborate_laws.specs.Counts.{expressions_in, nodes_in}

abbrev f : Expr
f = called Int (callees.Function (record { 0 = 0 })) no_arguments

-- a function whose body is this
abbrev does : Effect → Function
does a = record {
  name = [];
  result = None;
  parameters = [];
  variables = [];
  blocks = [];
  body = stmt_and (evaluate a) no_stmts;
  is_main = false;
}

abbrev values_of : Function → ℕ
values_of g = values (function_core no_names g)

abbrev words_of : Function → ℕ
words_of g = words (function_core no_names g)

-- ---- int main(void){}

abbrev empty_main : Function
empty_main = record (does nothing) { body = no_stmts; is_main = true }

main_values : values_of empty_main ≡ 0 + 2 * expressions_in empty_main
main_values = refl

main_words : words_of empty_main ≡ 52
main_words = refl

main_nodes : 24 * nodes_in empty_main + 32 ≡ 56
main_nodes = refl

-- ---- int main(int a){}

abbrev main_of_one : Function
main_of_one = record empty_main { parameters = Plain 0 ∷ []; variables = Int ∷ [] }

parameter_values : values_of main_of_one ≡ 1 + 2 * expressions_in main_of_one
parameter_values = refl

-- ---- h(f(),f(),f(),f(),f(),f(),f(),f());

abbrev char_and : Arguments → Arguments
char_and es = argument_and (converted Int Char) f es

abbrev eight_calls : Function
eight_calls =
    does
    (perform (callees.Function (record { 0 = 1 }))
    (char_and (char_and (char_and (char_and (char_and (char_and (char_and (char_and no_arguments)))))))))

calls_values : values_of eight_calls ≡ 15
calls_values = refl

calls_expressions : expressions_in eight_calls ≡ 9
calls_expressions = refl

-- ---- char a[1]={f()}; char a[3]={f(),f(),f()};

abbrev element_set : ℕ → Effect
element_set i = assign (set Char (object (member i (pointer_to (local 0)))) (converted Int Char) f)

abbrev one_element : Function
one_element = does (in_order (in_order (fill (zeros 1) (pointer_to (local 0))) (in_order (element_set 0) nothing)) nothing)

element_values : values_of one_element ≡ 2
element_values = refl

element_expressions : expressions_in one_element ≡ 1
element_expressions = refl

abbrev three_elements : Function
three_elements =
    does
    (in_order (in_order (fill (zeros 3) (pointer_to (local 0))) (in_order (element_set 0) (in_order (element_set 1) (in_order (element_set 2) nothing)))) nothing)

elements_values : values_of three_elements ≡ 6
elements_values = refl

elements_expressions : expressions_in three_elements ≡ 3
elements_expressions = refl

-- the calls, their addresses and their stores, and the fill; the list is a node
elements_words : words_of three_elements ≡ 16 + (13 + 3 * (6 + 5 + 7)) + 17
elements_words = refl

elements_nodes : nodes_in three_elements ≡ 1 + (1 + 3)
elements_nodes = refl

-- ---- g(++a[p[x]]); where a, p and x are in blocks: the address is computed twice

abbrev placed_x : Expr
placed_x = value Int (object (pointer_to (local 2)))

abbrev placed_p : Expr
placed_p = value Pointer (object (pointer_to (local 1)))

abbrev at : Expr → Expr → Expr
at a b = binary (Move Up Signed 4) as_written unchanged unchanged a b

abbrev step_far : Function
step_far =
    does
    (perform (callees.Function (record { 0 = 0 }))
    (argument_and unchanged
    (assigned
    (update Int (object (at (pointer_to (local 0)) (value Int (object (at placed_p placed_x))))) (Arithmetic Add Signed) unchanged unchanged unchanged (constant Int 1)))
    no_arguments))

-- the call, ++, two elements and three names
step_expressions : expressions_in step_far ≡ 1 + (1 + (2 + 3))
step_expressions = refl

step_values : values_of step_far ≡ 1 + 2
step_values = refl

-- the value and its place, the store and its place, the call
step_words : words_of step_far ≡ 16 + ((9 + 32) + (4 + 32) + 5) + 17
step_words = refl
