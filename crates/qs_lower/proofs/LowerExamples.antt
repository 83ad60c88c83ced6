-- The linear code of small functions, computed from the definition.
use Rattle.std.proofs.Common.{◌≡◌, ℕ, Bool, true, List, [], ◌∷◌, Option, Some, None, refl}
use Rattle.qs_memory.specs.Values.{integer}
use Rattle.qs_memory.specs.declared.scalar.Scalar.TheVariants as scalars
use Rattle.qs_memory.specs.declared.operation.Signedness.TheVariants.{Signed}
use Rattle.qs_memory.specs.declared.operation.Direction.TheVariants.{Up}
use Rattle.qs_memory.specs.declared.operation.Arithmetic.TheVariants as arithmetics
use Rattle.qs_memory.specs.declared.operation.Comparison.TheVariants as comparisons
use Rattle.qs_memory.specs.declared.operation.UnaryOperation.TheVariants as unaries
use Rattle.qs_memory.specs.declared.operation.BinaryOperation.{BinaryOperation}
use Rattle.qs_memory.specs.declared.operation.BinaryOperation.TheVariants as binaries
use Rattle.qs_calls.specs.World.{World, RootRun}
use Rattle.qs_calls.specs.declared.callee.Callee.TheVariants.{Function, PutChar, GetChar}
use Rattle.qs_calls.specs.declared.parameter.Parameter.TheVariants.{Plain}
use Rattle.qs_core.specs.declared.numbers.BlockId.TheVariants as blocks
use Rattle.qs_core.specs.declared.numbers.Target.TheVariants as targets
use Rattle.qs_core.specs.Trees as core
use Rattle.qs_core.specs.Trees.{CoreExprTree, CoreStmtTree, stmts_of, CoreFunctionTree, CoreUnitTree}
use Rattle.qs_core.specs.Units.{core_run}
use Rattle.qs_tac.specs.Trees.{InstructionTree, move, binary, address_of, load, store, call, jump, branch, return}
use Rattle.qs_tac.specs.Units.{tac_run}
use Rattle.qs_tac.specs.Fits.{unit_fits}
use Rattle.qs_tac.specs.declared.operands.Operand.{Operand}
use Rattle.qs_tac.specs.declared.operands.Operand.TheVariants.{Temporary, Integer, Byte, Constant, Local}
use Rattle.qs_tac.specs.declared.operands.Address.{Address}
use Rattle.qs_tac.specs.declared.operands.Condition.TheVariants.{NotZero, Zero, Compare}
use Rattle.qs_lower_expressions.specs.Threads.{threaded}
use Rattle.qs_lower.specs.Units.{function_code, straight_function, lower_unit}

-- ---- a function with the variables `int x, y; char c; struct s *p;`, one temporary and a block of 8 bytes: its
-- variables are the temporaries 0 to 3, its temporary is 4, and 5 is the first that is free

abbrev function_of : List CoreStmtTree → CoreFunctionTree
function_of body = record {
  name = [];
  parameters = record { name = []; place = Plain 0 } ∷ record { name = []; place = Plain 1 } ∷ [];
  variables =
      record { name = []; ordinal = 1; scalar = scalars.Int } ∷ record { name = []; ordinal = 2; scalar = scalars.Int }
      ∷ record { name = []; ordinal = 3; scalar = scalars.Char } ∷ record { name = []; ordinal = 4; scalar = scalars.Pointer } ∷ [];
  temporaries = scalars.Int ∷ [];
  blocks = 8 ∷ [];
  result_type = Some scalars.Int;
  body = stmts_of body;
}

abbrev pub code : List CoreStmtTree → List InstructionTree
code body = threaded (function_code (function_of body))

abbrev pub int : ℕ → CoreExprTree
int n = core.literal scalars.Int n

abbrev pub x : CoreExprTree
x = core.variable scalars.Int 0

abbrev pub y : CoreExprTree
y = core.variable scalars.Int 1

abbrev c : CoreExprTree
c = core.variable scalars.Char 2

abbrev p : CoreExprTree
p = core.variable scalars.Pointer 3

abbrev local : CoreExprTree
local = core.address_of (blocks.Local 0)

abbrev pub add : BinaryOperation
add = binaries.Arithmetic arithmetics.Add Signed

abbrev less : CoreExprTree → CoreExprTree → CoreExprTree
less a b = core.binary (binaries.Compare comparisons.Less Signed) a b

abbrev pub sets : ℕ → CoreExprTree → CoreStmtTree
sets n e = core.assign (targets.Variable n) e

abbrev pub counts : CoreStmtTree
counts = sets 0 (core.binary add x (int 1))

abbrev at_pointer : (offset : Option ℕ) → Address
at_pointer offset = record { base = Temporary 3; offset = offset; index = None }

abbrev at_local : (offset : Option ℕ) → Address
at_local offset = record { base = Local 0; offset = offset; index = None }

abbrev element : (base count : Operand) → (before : Option ℕ) → (size : ℕ) → (offset : Option ℕ) → Address
element base count before size offset = record {
  base = base;
  offset = before;
  index = Some (record { count = count; signedness = Signed; element = size; offset = offset });
}

-- the instruction of x = x + 1
abbrev pub counted : InstructionTree
counted = binary add 0 (Temporary 0) (Constant 1)

-- ---- constants are operands, and a result is computed where it is wanted

a_sum : code (core.return (Some (core.binary add x (int 1))) ∷ []) ≡ binary add 5 (Temporary 0) (Constant 1) ∷ return (Some (Temporary 5)) ∷ []
a_sum = refl

a_sum_in_place : code (counts ∷ []) ≡ counted ∷ return None ∷ []
a_sum_in_place = refl

a_constant_stands_on_the_right : code (sets 0 (core.binary add (int 1) x) ∷ []) ≡ counted ∷ return None ∷ []
a_constant_stands_on_the_right = refl

minus_one : code (sets 0 (core.unary (unaries.Minus Signed) (int 1)) ∷ []) ≡ move 0 (Constant 4294967295) ∷ return None ∷ []
minus_one = refl

two_parts :
    code (sets 0 (core.binary add (core.binary add x y) (core.binary add y (int 2))) ∷ [])
    ≡ binary add 5 (Temporary 0) (Temporary 1) ∷ binary add 6 (Temporary 1) (Constant 2) ∷ binary add 0 (Temporary 5) (Temporary 6) ∷ return None ∷ []
two_parts = refl

-- ---- conversions between integers need no instruction

a_promotion : code (sets 0 (core.binary add (core.conversion scalars.Int c) (int 1)) ∷ []) ≡ binary add 0 (Integer 2) (Constant 1) ∷ return None ∷ []
a_promotion = refl

an_unsigned_sum :
    code (core.return (Some (core.conversion scalars.Unsigned (core.binary add x y))) ∷ [])
    ≡ binary add 5 (Temporary 0) (Temporary 1) ∷ return (Some (Temporary 5)) ∷ []
an_unsigned_sum = refl

a_byte : code (sets 2 (core.conversion scalars.Char x) ∷ []) ≡ move 2 (Byte 0) ∷ return None ∷ []
a_byte = refl

-- ---- addresses: offsets are folded

a_member_of_a_member : code (sets 0 (core.load scalars.Int (core.member 4 (core.member 8 p))) ∷ []) ≡ load scalars.Int 0 (at_pointer (Some 12)) ∷ return None ∷ []
a_member_of_a_member = refl

an_element :
    code (core.store scalars.Int (core.binary (binaries.Move Up Signed 4) local (int 1)) x ∷ [])
    ≡ store scalars.Int (at_local (Some 4)) (Temporary 0) ∷ return None ∷ []
an_element = refl

a_member_of_an_element :
    code (sets 0 (core.load scalars.Int (core.member 4 (core.binary (binaries.Move Up Signed 8) p y))) ∷ [])
    ≡ load scalars.Int 0 (element (Temporary 3) (Temporary 1) None 8 (Some 4)) ∷ return None ∷ []
a_member_of_an_element = refl

an_element_of_a_member :
    code (sets 0 (core.load scalars.Int (core.binary (binaries.Move Up Signed 4) (core.member 8 p) y)) ∷ [])
    ≡ load scalars.Int 0 (element (Temporary 3) (Temporary 1) (Some 8) 4 None) ∷ return None ∷ []
an_element_of_a_member = refl

-- an address has one index: the pointer to the row is computed
an_element_of_a_row :
    code (sets 0 (core.load scalars.Int (core.binary (binaries.Move Up Signed 4) (core.binary (binaries.Move Up Signed 40) p x) y)) ∷ [])
    ≡ address_of 5 (element (Temporary 3) (Temporary 0) None 40 None) ∷ load scalars.Int 0 (element (Temporary 5) (Temporary 1) None 4 None) ∷ return None ∷ []
an_element_of_a_row = refl

a_stored_byte : code (core.store scalars.Char p (core.conversion scalars.Char x) ∷ []) ≡ store scalars.Char (at_pointer None) (Byte 0) ∷ return None ∷ []
a_stored_byte = refl

-- p[-1] is no constant offset, since it may leave the object where a sum of offsets doesn't
an_element_before :
    code (sets 0 (core.load scalars.Int (core.binary (binaries.Move Up Signed 4) p (core.unary (unaries.Minus Signed) (int 1)))) ∷ [])
    ≡ load scalars.Int 0 (element (Temporary 3) (Constant 4294967295) None 4 None) ∷ return None ∷ []
an_element_before = refl

-- ---- what is known isn't computed

a_constant_expression :
    code (core.return (Some (core.binary add (core.binary (binaries.Arithmetic arithmetics.Multiply Signed) (int 2) (int 3)) (int 1))) ∷ [])
    ≡ return (Some (Constant 7)) ∷ []
a_constant_expression = refl

-- where it is defined
a_division_by_zero :
    code (sets 0 (core.binary (binaries.Arithmetic arithmetics.Divide Signed) (int 1) (int 0)) ∷ [])
    ≡ binary (binaries.Arithmetic arithmetics.Divide Signed) 0 (Constant 1) (Constant 0) ∷ return None ∷ []
a_division_by_zero = refl

a_comparison_that_is_known : code (core.branch (less (int 1) (int 2)) counts (sets 1 (int 3)) ∷ []) ≡ counted ∷ return None ∷ []
a_comparison_that_is_known = refl

nothing_is_asked : code (core.branch (core.logical_and (int 0) x) counts core.skip ∷ []) ≡ return None ∷ []
nothing_is_asked = refl

the_second_alone_is_asked :
    code (core.branch (core.logical_or (core.unary unaries.Not (int 1)) x) counts core.skip ∷ [])
    ≡ branch (Zero (Temporary 0)) 2 ∷ counted ∷ return None ∷ []
the_second_alone_is_asked = refl

a_truth_is_a_number : code (sets 0 (core.unary unaries.Truth (less x y)) ∷ []) ≡ binary (binaries.Compare comparisons.Less Signed) 0 (Temporary 0) (Temporary 1) ∷ return None ∷ []
a_truth_is_a_number = refl

nothing_behind_a_return : code (core.return (Some (int 1)) ∷ core.branch x (sets 0 (int 2)) core.skip ∷ []) ≡ return (Some (Constant 1)) ∷ []
nothing_behind_a_return = refl

-- ---- conditions jump

an_if : code (core.branch (less x y) (core.return (Some (int 1))) core.skip ∷ core.return (Some (int 2)) ∷ [])
    ≡ branch (Compare comparisons.GreaterOrEqual Signed (Temporary 0) (Temporary 1)) 2 ∷ return (Some (Constant 1)) ∷ return (Some (Constant 2)) ∷ []
an_if = refl

an_if_with_an_else : code (core.branch x (sets 1 (int 1)) (sets 1 (int 2)) ∷ [])
    ≡ branch (Zero (Temporary 0)) 3 ∷ move 1 (Constant 1) ∷ jump 4 ∷ move 1 (Constant 2) ∷ return None ∷ []
an_if_with_an_else = refl

both_are_asked : code (core.branch (core.logical_and x (core.unary unaries.Not y)) counts core.skip ∷ [])
    ≡ branch (Zero (Temporary 0)) 3 ∷ branch (NotZero (Temporary 1)) 3 ∷ counted ∷ return None ∷ []
both_are_asked = refl

one_is_asked : code (core.branch (core.logical_or x y) counts core.skip ∷ [])
    ≡ branch (NotZero (Temporary 0)) 2 ∷ branch (Zero (Temporary 1)) 3 ∷ counted ∷ return None ∷ []
one_is_asked = refl

a_condition_as_a_number : code (sets 0 (core.logical_and x y) ∷ [])
    ≡ branch (Zero (Temporary 0)) 4 ∷ branch (Zero (Temporary 1)) 4 ∷ move 0 (Constant 1) ∷ jump 5 ∷ move 0 (Constant 0) ∷ return None ∷ []
a_condition_as_a_number = refl

a_comparison_as_a_number : code (sets 0 (less x (int 3)) ∷ []) ≡ binary (binaries.Compare comparisons.Less Signed) 0 (Temporary 0) (Constant 3) ∷ return None ∷ []
a_comparison_as_a_number = refl

a_choice : code (sets 0 (core.conditional (less x y) x y) ∷ [])
    ≡ branch (Compare comparisons.GreaterOrEqual Signed (Temporary 0) (Temporary 1)) 3 ∷ move 0 (Temporary 0) ∷ jump 4 ∷ move 0 (Temporary 1) ∷ return None ∷ []
a_choice = refl

-- ---- loops: a turn has one branch and no other jump

abbrev while : CoreExprTree → CoreStmtTree → CoreStmtTree
while e s = core.loop (core.branch e s core.break) core.skip

a_while : code (while (less x y) counts ∷ [])
    ≡ jump 2 ∷ counted ∷ branch (Compare comparisons.Less Signed (Temporary 0) (Temporary 1)) 1 ∷ return None ∷ []
a_while = refl

a_while_without_body : code (while x core.skip ∷ []) ≡ branch (NotZero (Temporary 0)) 0 ∷ return None ∷ []
a_while_without_body = refl

a_while_that_never_ends : code (while (int 1) counts ∷ []) ≡ counted ∷ jump 0 ∷ []
a_while_that_never_ends = refl

-- no jump leads to a jump
a_choice_in_an_endless_loop : code (while (core.unary unaries.Not (int 0)) (sets 0 (core.conditional c x y)) ∷ [])
    ≡ branch (Zero (Temporary 2)) 3 ∷ move 0 (Temporary 0) ∷ jump 0 ∷ move 0 (Temporary 1) ∷ jump 0 ∷ []
a_choice_in_an_endless_loop = refl

a_while_that_breaks : code (while x core.break ∷ []) ≡ jump 2 ∷ jump 3 ∷ branch (NotZero (Temporary 0)) 3 ∷ return None ∷ []
a_while_that_breaks = refl

a_while_that_does_nothing : code (while (int 1) core.skip ∷ []) ≡ jump 0 ∷ []
a_while_that_does_nothing = refl

a_do_once : code (core.loop counts (core.branch (int 0) core.skip core.break) ∷ []) ≡ counted ∷ return None ∷ []
a_do_once = refl

a_while_in_a_while : code (while x (while y counts) ∷ [])
    ≡ jump 4 ∷ jump 3 ∷ counted ∷ branch (NotZero (Temporary 1)) 2 ∷ branch (NotZero (Temporary 0)) 3 ∷ return None ∷ []
a_while_in_a_while = refl

a_do : code (core.loop counts (core.branch (less x y) core.skip core.break) ∷ [])
    ≡ counted ∷ branch (Compare comparisons.Less Signed (Temporary 0) (Temporary 1)) 0 ∷ return None ∷ []
a_do = refl

-- for (; x < y; x = x + 1) { if (c) continue; if (p) break; y = 2; }
a_for : code (
    core.loop
    (core.branch (less x y)
    (core.seq (stmts_of (core.branch c core.continue core.skip ∷ core.branch p core.break core.skip ∷ sets 1 (int 2) ∷ [])))
    core.break)
    counts
    ∷ [])
    ≡ jump 5 ∷ branch (NotZero (Temporary 2)) 4 ∷ branch (NotZero (Temporary 3)) 6 ∷ move 1 (Constant 2) ∷ counted
    ∷ branch (Compare comparisons.Less Signed (Temporary 0) (Temporary 1)) 1 ∷ return None ∷ []
a_for = refl

-- while ((c = getchar()) != -1) putchar(c): the body begins with a call
copying : code (
    core.loop
    (core.seq (stmts_of (
    core.call (Some 0) GetChar []
    ∷ sets 0 (core.temporary scalars.Int 0)
    ∷ core.branch (core.binary (binaries.Compare comparisons.NotEqual Signed) x (int 4294967295)) (core.call None PutChar (x ∷ [])) core.break
    ∷ [])))
    core.skip
    ∷ [])
    ≡ jump 2 ∷ call None PutChar (Temporary 0 ∷ []) ∷ call (Some 4) GetChar [] ∷ move 0 (Temporary 4)
    ∷ branch (Compare comparisons.NotEqual Signed (Temporary 0) (Constant 4294967295)) 1 ∷ return None ∷ []
copying = refl

-- ---- calls

a_call : code (core.call (Some 0) (Function (record { 0 = 1 })) (x ∷ core.binary add x y ∷ local ∷ int 3 ∷ []) ∷ core.return (Some (core.temporary scalars.Int 0)) ∷ [])
    ≡ binary add 5 (Temporary 0) (Temporary 1)
    ∷ call (Some 4) (Function (record { 0 = 1 })) (Temporary 0 ∷ Temporary 5 ∷ Local 0 ∷ Constant 3 ∷ [])
    ∷ return (Some (Temporary 4)) ∷ []
a_call = refl

the_temporaries_of_two_parts : (straight_function (function_of (sets 0 (core.binary add (core.binary add x y) (core.binary add y (int 2))) ∷ []))).temporaries ≡ 7
the_temporaries_of_two_parts = refl

-- ---- runs: those of core and of its linear code

abbrev world : World
world = record { memory = []; input = 104 ∷ 105 ∷ [] }

abbrev unit_of : List CoreStmtTree → CoreUnitTree
unit_of body = record { functions = function_of body ∷ []; main = 0; data_blocks = [] }

-- with the arguments 2 and 5
abbrev pub core_runs : List CoreStmtTree → RootRun
core_runs body = core_run (unit_of body) 0 (integer 2 ∷ integer 5 ∷ []) world 9

abbrev pub tac_runs : List CoreStmtTree → RootRun
tac_runs body = tac_run (lower_unit (unit_of body)) 0 (integer 2 ∷ integer 5 ∷ []) world 99

abbrev pub lowers_to_a_fit : List CoreStmtTree → Bool
lowers_to_a_fit body = unit_fits (lower_unit (unit_of body))

-- y = 0; for (x = 0; x < 5; x = x + 1) { if (x == 1) continue; if (x == 4) break; putchar(x); y = y + x; } return y;
abbrev mixed_loop : List CoreStmtTree
mixed_loop =
    sets 1 (int 0) ∷ sets 0 (int 0)
    ∷ core.loop
    (core.branch (less x (int 5))
    (core.seq (stmts_of (
    core.branch (core.binary (binaries.Compare comparisons.Equal Signed) x (int 1)) core.continue core.skip
    ∷ core.branch (core.binary (binaries.Compare comparisons.Equal Signed) x (int 4)) core.break core.skip
    ∷ core.call None PutChar (x ∷ [])
    ∷ sets 1 (core.binary add y x)
    ∷ [])))
    core.break)
    counts
    ∷ core.return (Some y)
    ∷ []

a_loop_runs_alike : tac_runs mixed_loop ≡ core_runs mixed_loop
a_loop_runs_alike = refl

a_loop_fits : lowers_to_a_fit mixed_loop ≡ true
a_loop_fits = refl

-- f(n, m): if (n && !(n < 1)) { local = m; $0 = f(n - 1, m + n); return local + $0; } return m;
abbrev recursion : List CoreStmtTree
recursion =
    core.branch (core.logical_and x (core.unary unaries.Not (less x (int 1))))
    (core.seq (stmts_of (
    core.store scalars.Int (core.member 4 local) y
    ∷ core.call (Some 0) (Function (record { 0 = 0 })) (core.binary (binaries.Arithmetic arithmetics.Subtract Signed) x (int 1) ∷ core.binary add y x ∷ [])
    ∷ core.return (Some (core.binary add (core.load scalars.Int (core.member 4 local)) (core.temporary scalars.Int 0)))
    ∷ [])))
    core.skip
    ∷ core.return (Some y)
    ∷ []

a_recursion_runs_alike : tac_runs recursion ≡ core_runs recursion
a_recursion_runs_alike = refl

a_recursion_fits : lowers_to_a_fit recursion ≡ true
a_recursion_fits = refl

-- the input is copied, and the number of its bytes is returned by way of `?:` and `||`
abbrev copies : List CoreStmtTree
copies =
    sets 1 (int 0)
    ∷ core.loop
    (core.seq (stmts_of (
    core.call (Some 0) GetChar []
    ∷ sets 0 (core.temporary scalars.Int 0)
    ∷ core.branch (core.binary (binaries.Compare comparisons.NotEqual Signed) x (int 4294967295))
    (core.seq (stmts_of (core.call None PutChar (x ∷ []) ∷ sets 1 (core.binary add y (core.logical_or (less x (int 0)) (less (int 0) x))) ∷ [])))
    core.break
    ∷ [])))
    core.skip
    ∷ core.return (Some (core.conditional (less y (int 9)) y (int 9)))
    ∷ []

copying_runs_alike : tac_runs copies ≡ core_runs copies
copying_runs_alike = refl

copying_fits : lowers_to_a_fit copies ≡ true
copying_fits = refl

-- a division by zero is undefined in both, behind the same events
abbrev faulty : List CoreStmtTree
faulty = core.call None PutChar (y ∷ []) ∷ core.return (Some (core.binary (binaries.Arithmetic arithmetics.Divide Signed) x (core.binary add x (core.unary (unaries.Minus Signed) (int 2))))) ∷ []

a_fault_runs_alike : tac_runs faulty ≡ core_runs faulty
a_fault_runs_alike = refl

-- what never ends is cut off, each turn by a step at least
endless : tac_run (lower_unit (unit_of (while (int 1) core.skip ∷ []))) 0 (integer 2 ∷ integer 5 ∷ []) world 9 ≡ core_run (unit_of (while (int 1) core.skip ∷ [])) 0 (integer 2 ∷ integer 5 ∷ []) world 9
endless = refl

abbrev calls_itself : CoreStmtTree
calls_itself = core.call None (Function (record { 0 = 0 })) (x ∷ y ∷ [])

-- f(n, m): f(n, m); each call takes a step, so core needs the same bound for the same events
nesting : tac_run (lower_unit (unit_of (calls_itself ∷ []))) 0 (integer 2 ∷ integer 5 ∷ []) world 4 ≡ core_run (unit_of (calls_itself ∷ [])) 0 (integer 2 ∷ integer 5 ∷ []) world 4
nesting = refl

-- ---- a break behind an `if` is where the `if` goes

an_if_before_a_break :
    code (core.loop (core.seq (stmts_of (core.branch x counts core.skip ∷ core.break ∷ []))) core.skip ∷ [])
    ≡ branch (Zero (Temporary 0)) 2 ∷ counted ∷ return None ∷ []
an_if_before_a_break = refl

nothing_behind_a_continue :
    code (core.loop (core.seq (stmts_of (counts ∷ core.continue ∷ sets 1 (int 1) ∷ []))) core.skip ∷ [])
    ≡ counted ∷ jump 0 ∷ []
nothing_behind_a_continue = refl

an_if_that_goes_nowhere : code (core.branch x core.skip core.skip ∷ []) ≡ branch (NotZero (Temporary 0)) 1 ∷ return None ∷ []
an_if_that_goes_nowhere = refl

both_return : code (core.branch x (core.return (Some (int 1))) (core.return (Some (int 2))) ∷ []) ≡ branch (Zero (Temporary 0)) 2 ∷ return (Some (Constant 1)) ∷ return (Some (Constant 2)) ∷ []
both_return = refl
