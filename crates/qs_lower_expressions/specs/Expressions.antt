-- The code of expressions. Each expression has code in three forms: for its value, for the address that it is,
-- and for the test of a condition that it is.
use Rattle.std.specs.Prelude.{ℕ, ◌+◌, max, Bool, true, false, if◌then◌else◌, List, [], ◌∷◌, ◌++◌, Option, Some, None, unwrap_or}
use Rattle.qs_memory.specs.Partial.{◌>>=◌}
use Rattle.qs_memory.specs.declared.scalar.Scalar.{Scalar}
use Rattle.qs_memory.specs.declared.operation.UnaryOperation.{UnaryOperation}
use Rattle.qs_memory.specs.declared.operation.UnaryOperation.TheVariants as unaries
use Rattle.qs_memory.specs.declared.operation.Signedness.{Signedness}
use Rattle.qs_memory.specs.declared.operation.Direction.TheVariants.{Up, Down}
use Rattle.qs_memory.specs.declared.operation.BinaryOperation.{BinaryOperation}
use Rattle.qs_memory.specs.declared.operation.BinaryOperation.TheVariants as binaries
use Rattle.qs_core.specs.Trees as core
use Rattle.qs_core.specs.Trees.{CoreExprTree}
use Rattle.qs_tac.specs.Trees.{InstructionTree, move, unary, binary, convert, address_of, load, jump}
use Rattle.qs_tac.specs.declared.operands.Operand.{Operand}
use Rattle.qs_tac.specs.declared.operands.Operand.TheVariants.{Temporary, Constant, Null}
use Rattle.qs_tac.specs.declared.operands.Index.{Index}
use Rattle.qs_tac.specs.declared.operands.Address.{Address}
use Rattle.qs_tac.specs.Fits.{is_word}
use Rattle.qs_tac.specs.declared.operands.Condition.{Condition}
use Rattle.qs_tac.specs.declared.operands.Condition.TheVariants.{NotZero, Compare, ComparePointers}
use Rattle.qs_lower_expressions.specs.Exits.{Exit, falls, goes, settled, exit_size, exit_code, branch_size, branch_code}
use Rattle.qs_lower_expressions.specs.Operands.{converted, truth_of, truth_operand, unary_of, folded, block_operand, gives_integer, gives_truth, is_idle, constant_step, swaps}

-- how many elements an address stands behind its base and offset, and the bytes behind the element's start
pub record IndexCode : Type 0 where
  pub count : (t : ℕ) → Operand
  pub signedness : Signedness
  pub element : ℕ
  pub offset : Option ℕ

-- t is the first temporary that is free, and `at` the index of the code's first instruction
pub record ExprCode : Type 0 where
  -- the operand that the expression is, where it needs no instruction
  pub simple : Option Operand
  -- the value into the temporary x, by the last instruction: so x may be read before. How many free temporaries
  -- are used, and how many instructions
  pub size : ℕ
  pub into : (x t at : ℕ) → List InstructionTree
  pub used : ℕ
  -- as an address: its parts, and how many free temporaries they take
  pub base_size : ℕ
  pub base_code : (t at : ℕ) → List InstructionTree
  pub base : (t : ℕ) → Operand
  pub offset : Option ℕ
  pub index : Option IndexCode
  pub base_own : ℕ
  pub base_used : ℕ
  -- as a condition: whether it is known, and the code that goes to one of two exits
  pub known : Option Bool
  pub test_size : (met unmet : Bool) → ℕ
  pub test : (met unmet : Exit) → (t at : ℕ) → List InstructionTree
  pub test_used : ℕ

-- ---- as an operand: where the expression isn't simple, its value is put into the first free temporary

abbrev pub simple_size : Option Operand → ℕ → ℕ
simple_size (Some o) size = 0
simple_size None size = size

abbrev pub size_of : ExprCode → ℕ
size_of e = simple_size e.simple e.size

abbrev pub simple_code : Option Operand → List InstructionTree → List InstructionTree
simple_code (Some o) code = []
simple_code None code = code

abbrev pub code_of : ExprCode → (t at : ℕ) → List InstructionTree
code_of e t at = simple_code e.simple (e.into t t at)

abbrev pub simple_operand : Option Operand → (t : ℕ) → Operand
simple_operand (Some o) t = o
simple_operand None t = Temporary t

abbrev pub operand_of : ExprCode → (t : ℕ) → Operand
operand_of e t = simple_operand e.simple t

-- the temporaries that the operand itself takes, and that its code uses
abbrev pub own : ExprCode → ℕ
own e = simple_size e.simple 1

abbrev pub used_by : ExprCode → ℕ
used_by e = simple_size e.simple (max 1 e.used)

-- as an address without an offset
abbrev pub based : ExprCode → ExprCode
based e = record e { base_size = size_of e; base_code = code_of e; base = operand_of e; offset = None; index = None; base_own = own e; base_used = used_by e }

-- as a condition, by its value: a constant is known
abbrev pub known_size : Option Bool → ℕ → (met unmet : Bool) → ℕ
known_size None size met unmet = size + branch_size met unmet
known_size (Some true) size met unmet = exit_size met
known_size (Some false) size met unmet = exit_size unmet

abbrev pub known_code : Option Bool → List InstructionTree → Condition → (met unmet : Exit) → List InstructionTree
known_code None code c met unmet = code ++ branch_code c met unmet
known_code (Some true) code c met unmet = exit_code met
known_code (Some false) code c met unmet = exit_code unmet

abbrev pub tested : ExprCode → ExprCode
tested e =
    let known = e.simple >>= truth_of in
    record e {
      known = known;
      test_size = known_size known (size_of e);
      test = λ met unmet t at. known_code known (code_of e t at) (NotZero (operand_of e t)) met unmet;
      test_used = used_by e;
    }

-- ---- values alone

abbrev pub no_code : ExprCode
no_code = record {
  simple = None;
  size = 0;
  into = λ x t at. [];
  used = 0;
  base_size = 0;
  base_code = λ t at. [];
  base = Temporary;
  offset = None;
  index = None;
  base_own = 0;
  base_used = 0;
  known = None;
  test_size = λ met unmet. 0;
  test = λ met unmet t at. [];
  test_used = 0;
}

abbrev pub by_operand : Operand → ExprCode
by_operand o = tested (based (record no_code { simple = Some o; size = 1; into = λ x t at. move x o ∷ [] }))

abbrev pub by_value : (size used : ℕ) → (into : (x t at : ℕ) → List InstructionTree) → ExprCode
by_value size used into = tested (based (record no_code { size = size; into = into; used = used }))

-- ---- conditions alone

-- the number 1 or 0, where a number is asked for
abbrev pub number_of : (test_size : (met unmet : Bool) → ℕ) → (test : (met unmet : Exit) → (t at : ℕ) → List InstructionTree) → (x t at : ℕ) → List InstructionTree
number_of test_size test x t at =
    let met = at + test_size true false in
    let unmet = met + 2 in
    test (falls met) (goes unmet) t at ++ (move x (Constant 1) ∷ jump (unmet + 1) ∷ move x (Constant 0) ∷ [])

abbrev pub by_test : (used : ℕ) → (test_size : (met unmet : Bool) → ℕ) → (test : (met unmet : Exit) → (t at : ℕ) → List InstructionTree) → ExprCode
by_test used test_size test =
    record (by_value (test_size true false + 3) used (number_of test_size test)) { test_size = test_size; test = test; test_used = used }

-- ---- loads and addresses

abbrev pub index_at : Option IndexCode → (t : ℕ) → Option Index
index_at None t = None
index_at (Some i) t = Some (record { count = i.count t; signedness = i.signedness; element = i.element; offset = i.offset })

abbrev pub address_at : ExprCode → (t : ℕ) → Address
address_at p t = record { base = p.base t; offset = p.offset; index = index_at p.index t }

abbrev pub of_load : Scalar → ExprCode → ExprCode
of_load s p = by_value (p.base_size + 1) p.base_used (λ x t at. p.base_code t at ++ load s x (address_at p t) ∷ [])

-- the address so many bytes behind another one; where the sum of the offsets is no word, the pointer is computed first
abbrev pub further : Option ℕ → (bytes : ℕ) → ℕ
further offset bytes = unwrap_or offset 0 + bytes

abbrev pub behind_parts : Option IndexCode → ExprCode → (bytes : ℕ) → ExprCode
behind_parts None p bytes =
    let sum = further p.offset bytes in
    if is_word sum then record p { offset = Some sum } else record (based p) { offset = Some bytes }
behind_parts (Some i) p bytes =
    let sum = further i.offset bytes in
    if is_word sum then record p { index = Some (record i { offset = Some sum }) } else record (based p) { offset = Some bytes }

abbrev pub behind : ExprCode → (bytes : ℕ) → ExprCode
behind p bytes = behind_parts p.index p bytes

-- the address so many elements behind another one; where that has an index already, the pointer is computed first
abbrev pub unindexed : Option IndexCode → ExprCode → ExprCode
unindexed None p = p
unindexed (Some i) p = based p

abbrev pub indexed_by : Signedness → (element : ℕ) → ExprCode → ExprCode → ExprCode
indexed_by s element p b = record p {
  base_size = p.base_size + size_of b;
  base_code = λ t at. p.base_code t at ++ code_of b (t + p.base_own) (at + p.base_size);
  index = Some (record { count = λ t. operand_of b (t + p.base_own); signedness = s; element = element; offset = None });
  base_own = p.base_own + own b;
  base_used = max p.base_used (p.base_own + used_by b);
}

abbrev pub with_address : ExprCode → ExprCode → ExprCode
with_address e p = record e { base_size = p.base_size; base_code = p.base_code; base = p.base; offset = p.offset; index = p.index; base_own = p.base_own; base_used = p.base_used }

-- a pointer that is computed only where a pointer is asked for, and no access
abbrev pub by_address : ExprCode → ExprCode
by_address p = with_address (by_value (p.base_size + 1) p.base_used (λ x t at. p.base_code t at ++ address_of x (address_at p t) ∷ [])) p

abbrev pub of_member : (offset : ℕ) → ExprCode → ExprCode
of_member offset a = by_address (behind a offset)

abbrev pub of_element : Signedness → (element : ℕ) → ExprCode → ExprCode → ExprCode
of_element s element a b = by_address (indexed_by s element (unindexed a.index a) b)

-- ---- operations

abbrev pub of_unary_value : UnaryOperation → ExprCode → ExprCode
of_unary_value op a = by_value (size_of a + 1) (used_by a) (λ x t at. code_of a t at ++ unary op x (operand_of a t) ∷ [])

-- as a condition, `!` changes the exits
abbrev pub with_test : ExprCode → (test_size : (met unmet : Bool) → ℕ) → (test : (met unmet : Exit) → (t at : ℕ) → List InstructionTree) → (used : ℕ) → ExprCode
with_test e test_size test used = record e { test_size = test_size; test = test; test_used = used }

-- what its operand gives: an integer, and 1 or 0
abbrev pub of_truth : (gives_truth : Bool) → ExprCode → ExprCode
of_truth true a = a
of_truth false a = with_test (of_unary_value unaries.Truth a) a.test_size a.test a.test_used

abbrev pub of_plus : (gives_integer : Bool) → Signedness → ExprCode → ExprCode
of_plus true s a = a
of_plus false s a = of_unary_value (unaries.Plus s) a

abbrev pub of_compound : UnaryOperation → (gives_integer gives_truth : Bool) → ExprCode → ExprCode
of_compound (unaries.Plus s) i j a = of_plus i s a
of_compound (unaries.Minus s) i j a = of_unary_value (unaries.Minus s) a
of_compound (unaries.Complement s) i j a = of_unary_value (unaries.Complement s) a
of_compound unaries.Not i j a =
    with_test (of_unary_value unaries.Not a) (λ met unmet. a.test_size unmet met) (λ met unmet t at. a.test unmet met t at) a.test_used
of_compound unaries.Truth i j a = of_truth j a

abbrev pub simple_or : Option Operand → ExprCode → ExprCode
simple_or (Some o) e = by_operand o
simple_or None e = e

abbrev pub of_unary : UnaryOperation → (gives_integer gives_truth : Bool) → ExprCode → ExprCode
of_unary op i j a = simple_or (a.simple >>= unary_of op) (of_compound op i j a)

-- a value that is converted on its way into the temporary x: where it can be read so, it is moved
abbrev pub converting : (read : Option Operand) → Scalar → (x : ℕ) → Operand → InstructionTree
converting (Some p) s x o = move x p
converting None s x o = convert s x o

abbrev pub converting_instruction : Scalar → (x : ℕ) → Operand → InstructionTree
converting_instruction s x o = converting (converted s o) s x o

abbrev pub of_convert : Scalar → ExprCode → ExprCode
of_convert s a =
    by_value (size_of a + 1) (used_by a) (λ x t at. code_of a t at ++ converting_instruction s x (operand_of a t) ∷ [])

abbrev pub of_conversion : Scalar → (is_idle : Bool) → ExprCode → ExprCode
of_conversion s idle a = simple_or (a.simple >>= converted s) (if idle then a else of_convert s a)

-- ---- two operands, the left one first

abbrev pub pair_size : ExprCode → ExprCode → ℕ
pair_size a b = size_of a + size_of b

abbrev pub pair_code : ExprCode → ExprCode → (t at : ℕ) → List InstructionTree
pair_code a b t at = code_of a t at ++ code_of b (t + own a) (at + size_of a)

abbrev pub pair_used : ExprCode → ExprCode → ℕ
pair_used a b = max (used_by a) (own a + used_by b)

abbrev pub binary_instruction : BinaryOperation → (x : ℕ) → (left right : Operand) → InstructionTree
binary_instruction op x left right = if swaps op left then binary op x right left else binary op x left right

abbrev pub of_binary_value : BinaryOperation → ExprCode → ExprCode → ExprCode
of_binary_value op a b =
    by_value (pair_size a b + 1) (pair_used a b)
    (λ x t at. pair_code a b t at ++ binary_instruction op x (operand_of a t) (operand_of b (t + own a)) ∷ [])

abbrev pub with_condition : ExprCode → (Operand → Operand → Condition) → ExprCode → ExprCode → ExprCode
with_condition e c a b =
    with_test e
    (λ met unmet. pair_size a b + branch_size met unmet)
    (λ met unmet t at. pair_code a b t at ++ branch_code (c (operand_of a t) (operand_of b (t + own a))) met unmet)
    (pair_used a b)

-- a comparison is tested by a branch
abbrev pub of_operation : BinaryOperation → ExprCode → ExprCode → ExprCode
of_operation (binaries.Arithmetic op s) a b = of_binary_value (binaries.Arithmetic op s) a b
of_operation (binaries.Compare op s) a b = with_condition (of_binary_value (binaries.Compare op s) a b) (Compare op s) a b
of_operation (binaries.Move Up s element) a b = of_element s element a b
of_operation (binaries.Move Down s element) a b = of_binary_value (binaries.Move Down s element) a b
of_operation (binaries.Difference element) a b = of_binary_value (binaries.Difference element) a b
of_operation (binaries.ComparePointers op) a b = with_condition (of_binary_value (binaries.ComparePointers op) a b) (ComparePointers op) a b

abbrev pub stepped_or : Option ℕ → ExprCode → ExprCode → ExprCode
stepped_or (Some bytes) a e = by_address (behind a bytes)
stepped_or None a e = e

-- behind a pointer by a constant count, and else the operation
abbrev pub stepped_operation : BinaryOperation → ExprCode → ExprCode → ExprCode
stepped_operation op a b = stepped_or (constant_step op b.simple) a (of_operation op a b)

abbrev pub of_binary : BinaryOperation → ExprCode → ExprCode → ExprCode
of_binary op a b =
    simple_or (folded op a.simple b.simple) (stepped_operation op a b)

-- ---- `&&`, `||`, `?:`

abbrev pub both_size : ExprCode → ExprCode → (met unmet : Bool) → ℕ
both_size a b met unmet = a.test_size true false + b.test_size met unmet

abbrev pub of_both_tests : ExprCode → ExprCode → ExprCode
of_both_tests a b =
    by_test (max a.test_used b.test_used) (both_size a b)
    (λ met unmet t at.
    let second = at + a.test_size true false in
    a.test (falls second) (settled unmet) t at ++ b.test met unmet t second)

abbrev pub either_size : ExprCode → ExprCode → (met unmet : Bool) → ℕ
either_size a b met unmet = a.test_size false true + b.test_size met unmet

abbrev pub of_either_test : ExprCode → ExprCode → ExprCode
of_either_test a b =
    by_test (max a.test_used b.test_used) (either_size a b)
    (λ met unmet t at.
    let second = at + a.test_size false true in
    a.test (settled met) (falls second) t at ++ b.test met unmet t second)

abbrev pub of_choice : ExprCode → ExprCode → ExprCode → ExprCode
of_choice c a b =
    by_value (c.test_size true false + a.size + 1 + b.size) (max c.test_used (max a.used b.used))
    (λ x t at.
    let first = at + c.test_size true false in
    let second = first + a.size + 1 in
    c.test (falls first) (goes second) t at
    ++ (a.into x t first ++ (jump (second + b.size) ∷ b.into x t second)))

-- where the first operand is known there is nothing to ask
abbrev pub of_and : Option Bool → (gives_truth : Bool) → ExprCode → ExprCode → ExprCode
of_and None j a b = of_both_tests a b
of_and (Some true) j a b = of_truth j b
of_and (Some false) j a b = by_operand (truth_operand false)

abbrev pub of_or : Option Bool → (gives_truth : Bool) → ExprCode → ExprCode → ExprCode
of_or None j a b = of_either_test a b
of_or (Some true) j a b = by_operand (truth_operand true)
of_or (Some false) j a b = of_truth j b

abbrev pub of_conditional : Option Bool → ExprCode → ExprCode → ExprCode → ExprCode
of_conditional None c a b = of_choice c a b
of_conditional (Some true) c a b = a
of_conditional (Some false) c a b = b

-- ---- expressions

-- the function's variables are the first temporaries, and its temporaries follow
abbrev pub lowered : (variables : ℕ) → CoreExprTree → ExprCode
lowered v (core.literal s n) = by_operand (Constant n)
lowered v core.null_pointer = by_operand Null
lowered v (core.variable s x) = by_operand (Temporary x)
lowered v (core.temporary s k) = by_operand (Temporary (v + k))
lowered v (core.address_of b) = by_operand (block_operand b)
lowered v (core.load s a) = of_load s (lowered v a)
lowered v (core.member offset a) = of_member offset (lowered v a)
lowered v (core.unary op a) = of_unary op (gives_integer a) (gives_truth a) (lowered v a)
lowered v (core.binary op a b) = of_binary op (lowered v a) (lowered v b)
lowered v (core.conversion s a) = of_conversion s (is_idle s a) (lowered v a)
lowered v (core.logical_and a b) =
    let first = lowered v a in
    of_and first.known (gives_truth b) first (lowered v b)
lowered v (core.logical_or a b) =
    let first = lowered v a in
    of_or first.known (gives_truth b) first (lowered v b)
lowered v (core.conditional c a b) =
    let first = lowered v c in
    of_conditional first.known first (lowered v a) (lowered v b)

-- ---- several operands, as the arguments of a call

abbrev pub all_size : List ExprCode → ℕ
all_size [] = 0
all_size (e ∷ es) = size_of e + all_size es

abbrev pub all_code : List ExprCode → (t at : ℕ) → List InstructionTree
all_code [] t at = []
all_code (e ∷ es) t at = code_of e t at ++ all_code es (t + own e) (at + size_of e)

abbrev pub all_operands : List ExprCode → (t : ℕ) → List Operand
all_operands [] t = []
all_operands (e ∷ es) t = operand_of e t ∷ all_operands es (t + own e)

abbrev pub all_used : List ExprCode → ℕ
all_used [] = 0
all_used (e ∷ es) = max (used_by e) (own e + all_used es)
