-- How many values and words the forms of core need, computed from the definition; names as in int x, y; int *p.
use Rattle.std.proofs.Common.{◌≡◌, ◌+◌, ◌*◌, [], ◌∷◌, codes, Some, None, refl}
use Rattle.std.specs.Prelude.{replicate}
use Rattle.qs_memory.specs.Memory.{zeros}
use Rattle.qs_memory.specs.declared.scalar.Scalar.TheVariants.{Char, Int, Pointer}
use Rattle.qs_memory.specs.declared.operation.Signedness.TheVariants.{Signed}
use Rattle.qs_memory.specs.declared.operation.Direction.TheVariants.{Up}
use Rattle.qs_memory.specs.declared.operation.Arithmetic.TheVariants.{Add}
use Rattle.qs_memory.specs.declared.operation.Comparison.TheVariants.{Less}
use Rattle.qs_memory.specs.declared.operation.BinaryOperation.TheVariants.{Arithmetic, Compare, Move}
use Rattle.qs_calls.specs.declared.callee.Callee.{Callee}
use Rattle.qs_calls.specs.declared.callee.Callee.TheVariants.{Function, PutChar}
use Rattle.qs_calls.specs.declared.parameter.Parameter.TheVariants.{Placed}
use Rattle.qs_core.specs.declared.labels.CoreLabel.TheVariants.{Case, Default}
use Rattle.qs_core.specs.declared.numbers.BlockId.TheVariants.{Local, Data}
use Rattle.qs_core.specs.declared.numbers.Target.TheVariants.{Variable}
use Rattle.qs_core.specs.Trees.{CoreExprTree, literal, null_pointer, variable, temporary, address_of, load, member, binary, conversion, logical_and, conditional}
use Rattle.qs_core.specs.Trees.{skip, seq, assign, store, copy, fill, call, branch, loop, switch, break, return, CoreStmts, stmts_of, CoreFunctionTree}
use Rattle.qs_core.specs.Sizes.{parts_held, held, held_in, values, most_arguments, most_passed, taken_words, address_words, stmt_words, words, unit_words}

abbrev x : CoreExprTree
x = variable Int 0

abbrev y : CoreExprTree
y = variable Int 1

abbrev p : CoreExprTree
p = variable Pointer 2

abbrev g : Callee
g = Function (record { 0 = 1 })

abbrev sum : CoreExprTree → CoreExprTree → CoreExprTree
sum a b = binary (Arithmetic Add Signed) a b

abbrev element : CoreExprTree → CoreExprTree → CoreExprTree
element a b = binary (Move Up Signed 4) a b

-- ---- operands hold nothing

literals : held (literal Int 5) ≡ 0
literals = refl

null_pointers : held null_pointer ≡ 0
null_pointers = refl

blocks : held (address_of (Data 3)) ≡ 0
blocks = refl

members_of_blocks : held (member 4 (member 8 (address_of (Local 0)))) ≡ 1
members_of_blocks = refl

low_bytes : held (conversion Char (temporary Int 0)) ≡ 0
low_bytes = refl

members_elsewhere : held (member 4 p) ≡ 1
members_elsewhere = refl

-- ---- parts are held from left to right

one_sum : parts_held (sum x y) ≡ 0
one_sum = refl

two_sums : parts_held (sum (sum x y) (sum x y)) ≡ 2
two_sums = refl

to_the_right : held (sum (sum x y) (sum (sum x y) (sum x y))) ≡ 3
to_the_right = refl

to_the_left : held (sum (sum (sum x y) (sum x y)) (sum x y)) ≡ 2
to_the_left = refl

converted_sum : held (conversion Char (sum x y)) ≡ 1
converted_sum = refl

both_sides : held (logical_and (sum x y) (sum x y)) ≡ 1
both_sides = refl

one_of_three : held (conditional (sum x y) (sum x y) x) ≡ 1
one_of_three = refl

-- ---- a value is made where it is wanted

assigned : held_in (assign (Variable 0) (sum x y)) ≡ 0
assigned = refl

stored : held_in (store Int (element p x) (sum x y)) ≡ 2
stored = refl

-- the pointer and the count are held while the value is made
stored_at_an_element : held_in (store Int (element (load Pointer p) (sum x y)) (sum x y)) ≡ 3
stored_at_an_element = refl

given : held_in (call None PutChar (sum x y ∷ x ∷ sum x y ∷ [])) ≡ 2
given = refl

-- the operand is held while it is compared, and not while the parts run
switched : held_in (switch (sum x y) [] (stmts_of (call None PutChar (sum x y ∷ sum x y ∷ []) ∷ []))) ≡ 2
switched = refl

-- ---- functions

abbrev function : CoreStmts → CoreFunctionTree
function body = record {
  name = codes "main";
  parameters = [];
  variables = [];
  temporaries = [];
  blocks = [];
  result_type = Some Int;
  body = body;
}

-- int main(void){}
abbrev empty_main : CoreFunctionTree
empty_main = function (stmts_of (return (Some (literal Int 0)) ∷ []))

no_values : values empty_main ≡ 0
no_values = refl

-- int main(int a){&a;}, the parameter of which is in a block; its number among the variables is the one value
a_placed_parameter :
    values (record empty_main {
      parameters = record { name = codes "a"; place = Placed 0 Int } ∷ [];
      variables = record { name = codes "a"; ordinal = 1; scalar = Int } ∷ [];
    })
    ≡ 1
a_placed_parameter = refl

-- ---- arguments

-- f(x, .., x), of nine: of a conditional the most that a call has in one of its parts
of_a_branch : most_arguments (branch x (call None PutChar (x ∷ [])) (seq (stmts_of (skip ∷ call None g (replicate 9 x) ∷ [])))) ≡ 9
of_a_branch = refl

one_on_the_stack : most_passed (function (stmts_of (call None g (replicate 9 x) ∷ call None g (replicate 2 x) ∷ []))) ≡ 1
one_on_the_stack = refl

none_on_the_stack : most_passed empty_main ≡ 0
none_on_the_stack = refl

-- ---- words

-- three to read x, three to read y, the sum, and one to keep it as a part; then one to read the part
of_a_sum : taken_words (sum x y) ≡ 3 + 3 + 1 + 1 + 1
of_a_sum = refl

of_a_literal : taken_words (sum x (literal Int 1)) ≡ 3 + 2 + 1 + 1 + 1
of_a_literal = refl

of_an_element : taken_words (load Int (element p x)) ≡ (3 + 3 + 5 + 1 + 1) + 1 + 1 + 1
of_an_element = refl

of_a_member : address_words (member 4 p) ≡ 3 + 2
of_a_member = refl

of_a_member_of_a_block : address_words (member 4 (address_of (Local 0))) ≡ 2
of_a_member_of_a_block = refl

-- what is converted is read as its low byte
of_a_conversion : taken_words (conversion Char (sum x y)) ≡ (3 + 3 + 1 + 1) + 1 + 1 + 1
of_a_conversion = refl

of_a_test : stmt_words (branch (binary (Compare Less Signed) x y) skip skip) ≡ (3 + 3 + 2 + 1) + (1 + 2) + 2
of_a_test = refl

of_a_conjunction : taken_words (logical_and x y) ≡ (3 + 2) + (3 + 2) + 5 + 1
of_a_conjunction = refl

of_a_loop : stmt_words (loop break skip) ≡ 1 + 3
of_a_loop = refl

-- the sum is computed once, and compared for each label: three for itself, two for the number, two to go there
of_a_switch :
    stmt_words (switch (sum x y) (Case 1 0 ∷ Default 1 ∷ []) (stmts_of (skip ∷ break ∷ [])))
    ≡ (3 + 3 + 1 + 1) + 1 + (3 + 2 + 2) * 2 + 1 + 1
of_a_switch = refl

-- and once where there is no label
of_a_switch_without_labels : stmt_words (switch x [] (stmts_of [])) ≡ 3 + (3 + 2 + 2) + 1
of_a_switch_without_labels = refl

of_an_assignment : stmt_words (assign (Variable 0) x) ≡ 3 + 3
of_an_assignment = refl

of_an_assigned_sum : stmt_words (assign (Variable 0) (sum x y)) ≡ 3 + 3 + 1 + 3
of_an_assigned_sum = refl

of_a_copy : stmt_words (copy 8 4 p (address_of (Local 0))) ≡ (3 + 1) + (3 + 1) + 2 + 6
of_a_copy = refl

of_a_fill : stmt_words (fill (zeros 8) (address_of (Local 0))) ≡ (3 + 1) + 2 + 4 + 3
of_a_fill = refl

of_a_call : stmt_words (call (Some 0) g (x ∷ y ∷ [])) ≡ 3 + (3 + 0) + 2 + 3
of_a_call = refl

-- each of nine is read, and the last one is stored
of_nine_arguments : stmt_words (call None g (replicate 9 x)) ≡ 9 * 3 + 1 + 2
of_nine_arguments = refl

of_main : words empty_main ≡ 16 + (2 + 17) + 17
of_main = refl

of_a_unit : unit_words (record { functions = empty_main ∷ []; main = 0; data_blocks = [] }) ≡ 24 * 1 + 32
of_a_unit = refl
