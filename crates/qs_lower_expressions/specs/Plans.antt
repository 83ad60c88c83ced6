-- What the plans of the program stand for.
use Rattle.std.specs.Prelude.{◌≡◌, ℕ, ◌+◌, max, Bool, true, false, List, [], ◌∷◌, ◌++◌, length, map, Option, Some, None}
use Rattle.std.specs.declared.alloc.Global.{Global}
use Rattle.std.specs.declared.vec.Vec.{Vec}
use Rattle.qs_memory.specs.Partial.{only_if}
use Rattle.qs_memory.specs.declared.operation.BinaryOperation.{BinaryOperation}
use Rattle.qs_memory.specs.declared.operation.BinaryOperation.TheVariants as binaries
use Rattle.qs_memory.specs.declared.operation.Signedness.{Signedness}
use Rattle.qs_memory.specs.declared.operation.UnaryOperation.{UnaryOperation}
use Rattle.qs_core.specs.Trees.{CoreExprTree, binary, logical_and, logical_or}
use Rattle.qs_core.specs.TreeOf.{core_expr}
use Rattle.qs_core.specs.declared.expressions.Operands.{Operands}
use Rattle.qs_tac.specs.Fits.{is_word}
use Rattle.qs_tac.specs.Trees.{InstructionTree, move, jump}
use Rattle.qs_tac.specs.TreeOf.{instruction_tree}
use Rattle.qs_tac.specs.declared.instruction.Instruction.{Instruction}
use Rattle.qs_tac.specs.declared.operands.Index.{Index}
use Rattle.qs_tac.specs.declared.operands.Operand.{Operand}
use Rattle.qs_tac.specs.declared.operands.Operand.TheVariants.{Temporary, Constant}
use Rattle.qs_tac.specs.declared.operands.Condition.{Condition}
use Rattle.qs_tac.specs.declared.operands.Condition.TheVariants.{NotZero, Compare, ComparePointers}
use Rattle.qs_lower_expressions.specs.Exits as exits
use Rattle.qs_lower_expressions.specs.Exits.{falls, goes, branch_size, branch_code}
use Rattle.qs_lower_expressions.specs.Expressions.{IndexCode, ExprCode, code_of, based, by_operand, further, by_address, indexed_by, of_load, of_compound, of_convert, pair_size, pair_code, pair_used, operand_of, own, with_test, of_binary_value, of_both_tests, of_either_test, of_choice, lowered, of_conditional, both_size, either_size, number_of, size_of, known_size, used_by, index_at, known_code}
use Rattle.qs_lower_expressions.specs.declared.exits.Exit.{Exit}
use Rattle.qs_lower_expressions.specs.declared.exits.Exit.TheVariants.{Falls, Goes}
use Rattle.qs_lower_expressions.specs.declared.plans.ExprPlan.{ExprPlan, ExprPlan-F, fold-ExprPlan}
use Rattle.qs_lower_expressions.specs.declared.plans.PlanPair.{PlanPair, PlanPair-F}
use Rattle.qs_lower_expressions.specs.declared.plans.PlanChoice.{PlanChoice, PlanChoice-F}

-- the sum of an offset and so many bytes, where it is a word
abbrev pub word_of : Option ℕ → (bytes : ℕ) → Option ℕ
word_of offset bytes = only_if (is_word (further offset bytes)) (Some (further offset bytes))

-- the offset behind the element, where there is one
abbrev pub offset_of : Option IndexCode → Option (Option ℕ)
offset_of None = None
offset_of (Some i) = Some i.offset

abbrev pub index_offset : ExprCode → Option (Option ℕ)
index_offset p = offset_of p.index

abbrev pub offset_over : ℕ → Option (Option ℕ) → Option (Option ℕ)
offset_over n None = None
offset_over n (Some before) = Some (Some n)

abbrev pub started : (is_computed : Bool) → ExprCode → ExprCode
started true p = based p
started false p = p

abbrev pub with_offset : ℕ → ExprCode → ExprCode
with_offset n p = record p { offset = Some n }

abbrev pub index_with : ℕ → Option IndexCode → Option IndexCode
index_with n None = None
index_with n (Some i) = Some (record i { offset = Some n })

abbrev pub with_index_offset : ℕ → ExprCode → ExprCode
with_index_offset n p = record p { index = index_with n p.index }

-- any operation, as one on two values; a comparison is tested by a branch
abbrev pub operation_test_size : BinaryOperation → ExprCode → (a b : ExprCode) → (met unmet : Bool) → ℕ
operation_test_size (binaries.Arithmetic op s) e a b = e.test_size
operation_test_size (binaries.Compare op s) e a b = λ met unmet. pair_size a b + branch_size met unmet
operation_test_size (binaries.Move direction s element) e a b = e.test_size
operation_test_size (binaries.Difference element) e a b = e.test_size
operation_test_size (binaries.ComparePointers op) e a b = λ met unmet. pair_size a b + branch_size met unmet

abbrev pub compared : (Operand → Operand → Condition) → (a b : ExprCode) → (met unmet : exits.Exit) → (t at : ℕ) → List InstructionTree
compared c a b met unmet t at = pair_code a b t at ++ branch_code (c (operand_of a t) (operand_of b (t + own a))) met unmet

abbrev pub operation_test : BinaryOperation → ExprCode → (a b : ExprCode) → (met unmet : exits.Exit) → (t at : ℕ) → List InstructionTree
operation_test (binaries.Arithmetic op s) e a b = e.test
operation_test (binaries.Compare op s) e a b = compared (Compare op s) a b
operation_test (binaries.Move direction s element) e a b = e.test
operation_test (binaries.Difference element) e a b = e.test
operation_test (binaries.ComparePointers op) e a b = compared (ComparePointers op) a b

abbrev pub operation_test_used : BinaryOperation → ExprCode → (a b : ExprCode) → ℕ
operation_test_used (binaries.Arithmetic op s) e a b = e.test_used
operation_test_used (binaries.Compare op s) e a b = pair_used a b
operation_test_used (binaries.Move direction s element) e a b = e.test_used
operation_test_used (binaries.Difference element) e a b = e.test_used
operation_test_used (binaries.ComparePointers op) e a b = pair_used a b

abbrev pub of_plain_operation : BinaryOperation → ExprCode → ExprCode → ExprCode
of_plain_operation op a b =
    let e = of_binary_value op a b in
    with_test e (operation_test_size op e a b) (operation_test op e a b) (operation_test_used op e a b)

-- two operands, and a condition with two values
pub record PairCode : Type 0 where
  pub left : ExprCode
  pub right : ExprCode

pub record ChoiceCode : Type 0 where
  pub condition : ExprCode
  pub met : ExprCode
  pub unmet : ExprCode

abbrev pub expr_step : ExprPlan-F ExprCode ChoiceCode PairCode → ExprCode
expr_step (ExprPlan-F.Simple o) = by_operand o
expr_step (ExprPlan-F.Load s p) = of_load s p.value
expr_step (ExprPlan-F.Offset is_computed n p) = by_address (with_offset n (started is_computed p.value))
expr_step (ExprPlan-F.IndexOffset n p) = by_address (with_index_offset n p.value)
expr_step (ExprPlan-F.Element is_computed s element p) = by_address (indexed_by s element (started is_computed p.value.left) p.value.right)
expr_step (ExprPlan-F.Unary op a) = of_compound op false false a.value
expr_step (ExprPlan-F.Convert s a) = of_convert s a.value
expr_step (ExprPlan-F.Binary op p) = of_plain_operation op p.value.left p.value.right
expr_step (ExprPlan-F.Both p) = of_both_tests p.value.left p.value.right
expr_step (ExprPlan-F.Either p) = of_either_test p.value.left p.value.right
expr_step (ExprPlan-F.Choice p) = of_choice p.value.condition p.value.met p.value.unmet

abbrev pub pair_step : PlanPair-F ExprCode ChoiceCode PairCode → PairCode
pair_step p = record { left = p.left; right = p.right }

abbrev pub choice_step : PlanChoice-F ExprCode ChoiceCode PairCode → ChoiceCode
choice_step p = record { condition = p.condition; met = p.met; unmet = p.unmet }

abbrev pub expr_code : ExprPlan → ExprCode
expr_code = fold-ExprPlan ExprCode ChoiceCode PairCode expr_step choice_step pair_step

-- ---- exits and code

abbrev pub exit_tree : Exit → exits.Exit
exit_tree (Falls p) = falls p
exit_tree (Goes p) = goes p

-- this list was put behind the code
abbrev pub Emitted : (before after : List Instruction) → List InstructionTree → Type 0
Emitted before after code = map instruction_tree after ≡ map instruction_tree before ++ code

abbrev pub with_offset_at : Option Index → ℕ → Option Index
with_offset_at None n = None
with_offset_at (Some index) n = Some (record index { offset = Some n })

-- ---- parts of code

abbrev pub number_code : (x end : ℕ) → List InstructionTree
number_code x end = move x (Constant 1) ∷ jump end ∷ move x (Constant 0) ∷ []

abbrev pub element_code : ExprCode → ExprCode → (t at : ℕ) → List InstructionTree
element_code p b t at = p.base_code t at ++ code_of b (t + p.base_own) (at + p.base_size)

abbrev pub value_test_code : ExprCode → (met unmet : exits.Exit) → (t at : ℕ) → List InstructionTree
value_test_code e met unmet t at = e.into t t at ++ branch_code (NotZero (Temporary t)) met unmet

-- ---- what plans are of

abbrev pub IsPlanOf : ExprCode → ExprPlan → Type 0
IsPlanOf code plan = expr_code plan ≡ code

-- the trees of operations on two expressions
abbrev pub binary_of : BinaryOperation → Operands → CoreExprTree
binary_of op p = binary op (core_expr p.left) (core_expr p.right)

abbrev pub and_of : Operands → CoreExprTree
and_of p = logical_and (core_expr p.left) (core_expr p.right)

abbrev pub or_of : Operands → CoreExprTree
or_of p = logical_or (core_expr p.left) (core_expr p.right)

-- of an expression in a function with so many variables
abbrev pub IsPlanIn : (variables : ℕ) → CoreExprTree → ExprPlan → Type 0
IsPlanIn v e plan = IsPlanOf (lowered v e) plan

abbrev pub expr_codes : List ExprPlan → List ExprCode
expr_codes plans = map expr_code plans

abbrev pub ArePlansIn : (variables : ℕ) → List CoreExprTree → Vec ExprPlan Global → Type 0
ArePlansIn v es plans = expr_codes plans.items ≡ map (lowered v) es

abbrev pub started_code : (is_computed : Bool) → ExprPlan → ExprCode
started_code is_computed p = started is_computed (expr_code p)

abbrev pub start_parts : (is_computed : Bool) → ExprPlan → (t at : ℕ) → List InstructionTree
start_parts is_computed p = (started_code is_computed p).base_code

abbrev pub start_size : (is_computed : Bool) → ExprPlan → ℕ
start_size is_computed p = (started_code is_computed p).base_size

abbrev pub unary_code : UnaryOperation → ExprPlan → ExprCode
unary_code op a = of_compound op false false (expr_code a)

abbrev pub conditional_code : Option Bool → (condition met unmet : ExprPlan) → ExprCode
conditional_code known c a b = of_conditional known (expr_code c) (expr_code a) (expr_code b)

-- ---- what pairs of plans are of

abbrev pub binary_code : BinaryOperation → PlanPair → ExprCode
binary_code op p = of_binary_value op (expr_code p.left) (expr_code p.right)

abbrev pub operation_code : BinaryOperation → PlanPair → ExprCode
operation_code op p = of_plain_operation op (expr_code p.left) (expr_code p.right)

abbrev pub both_code : PlanPair → ExprCode
both_code p = of_both_tests (expr_code p.left) (expr_code p.right)

abbrev pub either_code : PlanPair → ExprCode
either_code p = of_either_test (expr_code p.left) (expr_code p.right)

abbrev pub choice_code : PlanChoice → ExprCode
choice_code p = of_choice (expr_code p.condition) (expr_code p.met) (expr_code p.unmet)

abbrev pub operands_code : PlanPair → (t at : ℕ) → List InstructionTree
operands_code p = pair_code (expr_code p.left) (expr_code p.right)

abbrev pub operands_size : PlanPair → ℕ
operands_size p = pair_size (expr_code p.left) (expr_code p.right)

abbrev pub both_sizes : PlanPair → (met unmet : Bool) → ℕ
both_sizes p = both_size (expr_code p.left) (expr_code p.right)

abbrev pub either_sizes : PlanPair → (met unmet : Bool) → ℕ
either_sizes p = either_size (expr_code p.left) (expr_code p.right)

abbrev pub both_number : PlanPair → (x t at : ℕ) → List InstructionTree
both_number p = number_of (both_sizes p) (both_code p).test

abbrev pub either_number : PlanPair → (x t at : ℕ) → List InstructionTree
either_number p = number_of (either_sizes p) (either_code p).test

abbrev pub tests_used : PlanPair → ℕ
tests_used p = max (expr_code p.left).test_used (expr_code p.right).test_used

-- an element: a pointer, whose value is computed or whose parts are, and an index
abbrev pub element_parts : (is_computed : Bool) → PlanPair → (t at : ℕ) → List InstructionTree
element_parts is_computed p = element_code (started_code is_computed p.left) (expr_code p.right)

abbrev pub element_size : (is_computed : Bool) → PlanPair → ℕ
element_size is_computed p = (started_code is_computed p.left).base_size + size_of (expr_code p.right)

abbrev pub element_used : (is_computed : Bool) → PlanPair → ℕ
element_used is_computed p =
    let start = started_code is_computed p.left in
    max start.base_used (start.base_own + used_by (expr_code p.right))

abbrev pub element_index : (is_computed : Bool) → Signedness → (element : ℕ) → PlanPair → (t : ℕ) → Option Index
element_index is_computed s element p t =
    index_at (indexed_by s element (started_code is_computed p.left) (expr_code p.right)).index t

-- ---- tests with these exits

abbrev pub does_fall : Exit → Bool
does_fall exit = exits.is_fall (exit_tree exit)

abbrev pub both_test_size : PlanPair → (met unmet : Exit) → ℕ
both_test_size p met unmet = both_sizes p (does_fall met) (does_fall unmet)

abbrev pub either_test_size : PlanPair → (met unmet : Exit) → ℕ
either_test_size p met unmet = either_sizes p (does_fall met) (does_fall unmet)

-- ---- what is put behind code

abbrev pub HasCode : List InstructionTree → Vec Instruction Global → Type 0
HasCode code instructions = map instruction_tree instructions.items ≡ code

abbrev pub Emits : (before after : Vec Instruction Global) → List InstructionTree → Type 0
Emits before after code = Emitted before.items after.items code

-- code that depends on where it lies
abbrev pub EmitsAt : (before after : Vec Instruction Global) → (ℕ → List InstructionTree) → Type 0
EmitsAt before after code = Emits before after (code (length before.items))

abbrev pub EmitsTest : (before after : Vec Instruction Global) → ExprCode → (met unmet : Exit) → (t : ℕ) → Type 0
EmitsTest before after e met unmet t = EmitsAt before after (e.test (exit_tree met) (exit_tree unmet) t)

abbrev pub TestsValue : (before after : Vec Instruction Global) → ExprCode → (met unmet : Exit) → (t : ℕ) → Type 0
TestsValue before after e met unmet t =
    EmitsAt before after (value_test_code e (exit_tree met) (exit_tree unmet) t)

abbrev pub EmitsBranch : (before after : Vec Instruction Global) → Condition → (met unmet : Exit) → Type 0
EmitsBranch before after c met unmet = Emits before after (branch_code c (exit_tree met) (exit_tree unmet))

-- an operand is tested, of which it may be known whether it is 0
abbrev pub EmitsKnown : (before after : Vec Instruction Global) → Option Bool → Operand → (met unmet : Exit) → Type 0
EmitsKnown before after known o met unmet =
    Emits before after (known_code known [] (NotZero o) (exit_tree met) (exit_tree unmet))

-- by so many instructions
abbrev pub Grows : (before after : Vec Instruction Global) → (count : ℕ) → Type 0
Grows before after count = length after.items ≡ length before.items + count

abbrev pub GrowsByTest : (before after : Vec Instruction Global) → ExprCode → (met unmet : Exit) → Type 0
GrowsByTest before after e met unmet = Grows before after (e.test_size (does_fall met) (does_fall unmet))

abbrev pub GrowsByValue : (before after : Vec Instruction Global) → ExprCode → (met unmet : Exit) → Type 0
GrowsByValue before after e met unmet =
    Grows before after (e.size + branch_size (does_fall met) (does_fall unmet))

abbrev pub GrowsByBranch : (before after : Vec Instruction Global) → (met unmet : Exit) → Type 0
GrowsByBranch before after met unmet = Grows before after (branch_size (does_fall met) (does_fall unmet))

abbrev pub GrowsByKnown : (before after : Vec Instruction Global) → Option Bool → (met unmet : Exit) → Type 0
GrowsByKnown before after known met unmet =
    Grows before after (known_size known 0 (does_fall met) (does_fall unmet))
