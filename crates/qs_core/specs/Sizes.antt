-- How many values a function needs, how many words of arguments its calls pass on the stack, and a bound on the words of its
-- machine code.
use Rattle.std.specs.Prelude.{ℕ, ◌+◌, ◌*◌, max, min, Bool, true, false, List, [], ◌∷◌, length, sum_by, Option, Some, None, if◌then◌else◌}
use Rattle.qs_base.specs.Parameters.{stack_arguments}
use Rattle.qs_memory.specs.declared.operation.BinaryOperation.{BinaryOperation}
use Rattle.qs_memory.specs.declared.operation.BinaryOperation.TheVariants as binaries
use Rattle.qs_core.specs.Trees.{CoreExprTree, literal, null_pointer, variable, temporary, address_of, load, member}
use Rattle.qs_core.specs.Trees.{unary, binary, conversion, logical_and, logical_or, conditional}
use Rattle.qs_core.specs.Trees.{CoreStmtTree, skip, seq, assign, store, copy, fill, call, branch, loop, switch, break, continue, return}
use Rattle.qs_core.specs.Trees.{CoreStmts, no_stmts, stmt_and, CoreFunctionTree, CoreUnitTree}

-- ---- operands: what stands in an instruction as it is, so that nothing has to hold its value

-- a converted operand is one too: the integer, or the low byte of the integer, in a temporary
abbrev pub is_operand : CoreExprTree → Bool
is_operand (literal s n) = true
is_operand null_pointer = true
is_operand (variable s x) = true
is_operand (temporary s k) = true
is_operand (address_of b) = true
is_operand (load s a) = false
is_operand (member offset a) = false
is_operand (unary op a) = false
is_operand (binary op a b) = false
is_operand (conversion s a) = is_operand a
is_operand (logical_and a b) = false
is_operand (logical_or a b) = false
is_operand (conditional c a b) = false

-- ---- values: those that hold parts of expressions, which are computed from left to right

-- how many values an expression's own value adds
abbrev pub own : CoreExprTree → ℕ
own e = if is_operand e then 0 else 1

-- how many values are held at once while an expression is computed whose parts hold so many
abbrev pub held_with : CoreExprTree → (parts : ℕ) → ℕ
held_with e parts = if is_operand e then 0 else max 1 parts

-- how many values its parts hold at once, at most; its own value is made where it is wanted
abbrev pub parts_held : CoreExprTree → ℕ
parts_held (literal s n) = 0
parts_held null_pointer = 0
parts_held (variable s x) = 0
parts_held (temporary s k) = 0
parts_held (address_of b) = 0
parts_held (load s a) = held_with a (parts_held a)
parts_held (member offset a) = held_with a (parts_held a)
parts_held (unary op a) = held_with a (parts_held a)
parts_held (binary op a b) = max (held_with a (parts_held a)) (own a + held_with b (parts_held b))
parts_held (conversion s a) = held_with a (parts_held a)
parts_held (logical_and a b) = max (held_with a (parts_held a)) (held_with b (parts_held b))
parts_held (logical_or a b) = max (held_with a (parts_held a)) (held_with b (parts_held b))
parts_held (conditional c a b) = max (held_with c (parts_held c)) (max (held_with a (parts_held a)) (held_with b (parts_held b)))

abbrev pub held : CoreExprTree → ℕ
held e = held_with e (parts_held e)

abbrev pub all_held : List CoreExprTree → ℕ
all_held [] = 0
all_held (e ∷ es) = max (held e) (own e + all_held es)

abbrev pub option_held : Option CoreExprTree → ℕ
option_held None = 0
option_held (Some e) = held e

-- an address is held as a pointer and a count of elements, of which each may be a value of its own, until it is made
abbrev pub address_own : CoreExprTree → ℕ
address_own e = min 2 (held e)

-- an address, and behind it a value or another address
abbrev pub access_held : (address value : CoreExprTree) → ℕ
access_held a b = max (held a) (address_own a + held b)

abbrev mutual
  pub held_in : CoreStmtTree → ℕ
  held_in skip = 0
  held_in (seq ss) = held_in_all ss
  held_in (assign x e) = parts_held e
  held_in (store s a b) = access_held a b
  held_in (copy size alignment a b) = access_held a b
  held_in (fill blank a) = held a
  held_in (call x f arguments) = all_held arguments
  held_in (branch e a b) = max (held e) (max (held_in a) (held_in b))
  held_in (loop body step) = max (held_in body) (held_in step)
  held_in (switch e labels ss) = max (held e) (held_in_all ss)
  held_in break = 0
  held_in continue = 0
  held_in (return e) = option_held e

  pub held_in_all : CoreStmts → ℕ
  held_in_all no_stmts = 0
  held_in_all (stmt_and s ss) = max (held_in s) (held_in_all ss)

-- the values of a function: its variables, parameters among them, its temporaries, and those that hold parts of expressions
abbrev pub values : CoreFunctionTree → ℕ
values f = length f.variables + length f.temporaries + held_in_all f.body

-- ---- arguments

-- the most arguments of one call
abbrev mutual
  pub most_arguments : CoreStmtTree → ℕ
  most_arguments skip = 0
  most_arguments (seq ss) = most_arguments_in ss
  most_arguments (assign x e) = 0
  most_arguments (store s a b) = 0
  most_arguments (copy size alignment a b) = 0
  most_arguments (fill blank a) = 0
  most_arguments (call x f arguments) = length arguments
  most_arguments (branch e a b) = max (most_arguments a) (most_arguments b)
  most_arguments (loop body step) = max (most_arguments body) (most_arguments step)
  most_arguments (switch e labels ss) = most_arguments_in ss
  most_arguments break = 0
  most_arguments continue = 0
  most_arguments (return e) = 0

  pub most_arguments_in : CoreStmts → ℕ
  most_arguments_in no_stmts = 0
  most_arguments_in (stmt_and s ss) = max (most_arguments s) (most_arguments_in ss)

-- the most words of arguments that one call passes on the stack
abbrev pub most_passed : CoreFunctionTree → ℕ
most_passed f = stack_arguments (most_arguments_in f.body)

-- ---- words: a variable or a temporary may lie out of the reach of an immediate; a value that holds a part of an expression lies nearest to x2

-- LUI, ADD and LW, or LBU for a low byte; LUI and ADDI for a literal; LUI, ADDI and ADD for an address; LW for a part
abbrev pub read_words : CoreExprTree → ℕ
read_words (literal s n) = 2
read_words null_pointer = 2
read_words (variable s x) = 3
read_words (temporary s k) = 3
read_words (address_of b) = 3
read_words (load s a) = 1
read_words (member offset a) = 1
read_words (unary op a) = 1
read_words (binary op a b) = 1
read_words (conversion s a) = read_words a
read_words (logical_and a b) = 1
read_words (logical_or a b) = 1
read_words (conditional c a b) = 1

-- LUI, ADD and SW; SW for a part
abbrev pub kept_words : ℕ
kept_words = 3

abbrev pub part_words : ℕ
part_words = 1

-- LUI and ADDI give the size of an element, with MUL or DIV and ADD or SUB, and where a pointer moves ADDI gives what
-- it comes to; a comparison may have its answer turned round
abbrev pub operation_words : BinaryOperation → ℕ
operation_words (binaries.Arithmetic op s) = 1
operation_words (binaries.Compare op s) = 2
operation_words (binaries.Move direction s element) = 5
operation_words (binaries.Difference element) = 4
operation_words (binaries.ComparePointers op) = 2

-- what an expression is computed for: to be an operand; to be in a register as the address of an access; to be tested;
-- to be assigned
pub data Use : Type 0 where
  as_operand : Use
  as_address : Use
  as_condition : Use
  as_assigned : Use

-- what the use of an operand takes; a test has a branch round a JAL
abbrev pub use_words : Use → (read : ℕ) → ℕ
use_words as_operand read = 0
use_words as_address read = read
use_words as_condition read = read + 2
use_words as_assigned read = read + kept_words

-- where a value is kept that is made in a register: what is assigned is made where it is wanted
abbrev pub kept_by : Use → ℕ
kept_by as_operand = part_words
kept_by as_address = part_words
kept_by as_condition = part_words
kept_by as_assigned = kept_words

-- and what its use takes then
abbrev pub then_words : Use → ℕ
then_words as_operand = 0
then_words as_address = 1
then_words as_condition = 1 + 2
then_words as_assigned = 0

abbrev pub value_words : Use → ℕ
value_words u = kept_by u + then_words u

-- an operand is read as an integer or as its low byte; any other value is read so from where it is held
abbrev pub converted_words : (is_operand : Bool) → (computed read : ℕ) → Use → ℕ
converted_words true computed read u = computed + use_words u read
converted_words false computed read u = computed + read + value_words u

abbrev pub is_block : CoreExprTree → Bool
is_block (literal s n) = false
is_block null_pointer = false
is_block (variable s x) = false
is_block (temporary s k) = false
is_block (address_of b) = true
is_block (load s a) = false
is_block (member offset a) = false
is_block (unary op a) = false
is_block (binary op a b) = false
is_block (conversion s a) = false
is_block (logical_and a b) = false
is_block (logical_or a b) = false
is_block (conditional c a b) = false

-- what a member lies behind: LUI and ADD, with the address of the block, or with what the pointer takes
abbrev pub base_words : (is_block : Bool) → (pointer : ℕ) → ℕ
base_words true pointer = 2
base_words false pointer = pointer + 2

-- the access has the rest of the offset; ADDI where there is none
abbrev pub member_words : Use → ℕ
member_words as_operand = 1 + value_words as_operand
member_words as_address = 0
member_words as_condition = 1 + value_words as_condition
member_words as_assigned = 1 + value_words as_assigned

-- the numbers 1 and 0, and a jump between
abbrev pub answer_words : Use → ℕ
answer_words as_operand = (1 + kept_by as_operand) + 1 + (1 + kept_by as_operand) + then_words as_operand
answer_words as_address = (1 + kept_by as_address) + 1 + (1 + kept_by as_address) + then_words as_address
answer_words as_condition = 0
answer_words as_assigned = (1 + kept_by as_assigned) + 1 + (1 + kept_by as_assigned) + then_words as_assigned

-- the words that compute an expression, with those of this use of it
abbrev pub use_of : CoreExprTree → Use → ℕ
use_of (literal s n) u = use_words u 2
use_of null_pointer u = use_words u 2
use_of (variable s x) u = use_words u 3
use_of (temporary s k) u = use_words u 3
use_of (address_of b) u = use_words u 3
use_of (load s a) u = use_of a as_address + 1 + value_words u
use_of (member offset a) u = base_words (is_block a) (use_of a as_operand + read_words a) + member_words u
use_of (unary op a) u = use_of a as_operand + read_words a + 1 + value_words u
use_of (binary op a b) u =
    (use_of a as_operand + read_words a) + (use_of b as_operand + read_words b) + operation_words op + value_words u
use_of (conversion s a) u = converted_words (is_operand a) (use_of a as_operand) (read_words a) u
use_of (logical_and a b) u = use_of a as_condition + use_of b as_condition + answer_words u
use_of (logical_or a b) u = use_of a as_condition + use_of b as_condition + answer_words u
use_of (conditional c a b) u =
    use_of c as_condition
    + (use_of a as_operand + read_words a + kept_by u) + 1 + (use_of b as_operand + read_words b + kept_by u) + then_words u

-- computed, and read
abbrev pub taken_words : CoreExprTree → ℕ
taken_words e = use_of e as_operand + read_words e

abbrev pub address_words : CoreExprTree → ℕ
address_words e = use_of e as_address

abbrev pub assigned_words : CoreExprTree → ℕ
assigned_words e = use_of e as_assigned

abbrev pub all_taken_words : List CoreExprTree → ℕ
all_taken_words [] = 0
all_taken_words (e ∷ es) = taken_words e + all_taken_words es

abbrev pub option_words : Option CoreExprTree → ℕ
option_words None = 0
option_words (Some e) = taken_words e

abbrev pub result_words : Option ℕ → ℕ
result_words None = 0
result_words (Some k) = kept_words

-- SW stores an argument that is passed on the stack
abbrev pub arguments_words : List CoreExprTree → ℕ
arguments_words es = all_taken_words es + stack_arguments (length es)

-- AUIPC and JALR; the number of a call of the environment, and ECALL
abbrev pub call_words : ℕ
call_words = 2

-- on the way in and out of a function: LUI, ADDI and ADD on x2, the return address, twelve registers that are given back; JALR
abbrev pub enter_words : ℕ
enter_words = 3 + 1 + 12

abbrev pub leave_words : ℕ
leave_words = 3 + 1 + 12 + 1

-- a label compares the operand with a number: what the operand takes at most, LUI and ADDI for the number, a branch round a
-- JAL
abbrev pub label_words : ℕ
label_words = 3 + 2 + 2

-- A copy has its count by LUI and ADDI and a loop of six instructions, a fill one of four, and behind it up to three
-- stores of bytes. The parts of an `if` end in a jump each; a loop begins with one, goes back by one and goes on by one;
-- a switch that meets no case ends in one, and compares its operand at least once.
abbrev mutual
  pub stmt_words : CoreStmtTree → ℕ
  stmt_words skip = 0
  stmt_words (seq ss) = stmts_words ss
  stmt_words (assign x e) = assigned_words e
  stmt_words (store s a b) = address_words a + taken_words b + 1
  stmt_words (copy size alignment a b) = (address_words a + 1) + (address_words b + 1) + 2 + 6
  stmt_words (fill blank a) = (address_words a + 1) + 2 + 4 + 3
  stmt_words (call x f arguments) = arguments_words arguments + call_words + result_words x
  stmt_words (branch e a b) = use_of e as_condition + stmt_words a + stmt_words b + 2
  stmt_words (loop body step) = stmt_words body + stmt_words step + 3
  stmt_words (switch e labels ss) = taken_words e + label_words * max 1 (length labels) + 1 + stmts_words ss
  stmt_words break = 1
  stmt_words continue = 1
  stmt_words (return e) = option_words e + leave_words

  pub stmts_words : CoreStmts → ℕ
  stmts_words no_stmts = 0
  stmts_words (stmt_and s ss) = stmt_words s + stmts_words ss

-- parameters are put where they are kept; LUI, ADD and LW for each that is passed on the stack
abbrev pub parameter_words : (parameters : ℕ) → ℕ
parameter_words parameters = kept_words * parameters + 3 * stack_arguments parameters

abbrev pub words : CoreFunctionTree → ℕ
words f = enter_words + parameter_words (length f.parameters) + stmts_words f.body + leave_words

-- the call of main, and behind it the number of a call of the environment, and ECALL
abbrev pub start_words : ℕ
start_words = call_words + 2

abbrev pub unit_words : CoreUnitTree → ℕ
unit_words u = start_words + sum_by words u.functions
