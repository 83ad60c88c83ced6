-- The typed tree of a unit: every name resolved, every conversion explicit, lvalues and discarded expressions sorts of their own, sizes and
-- offsets as numbers (C11 6.3, 6.5, 6.7.9, 6.8, 6.9.1).
use Rattle.std.specs.Prelude.{ℕ, Bool, List, Option}
use Rattle.qs_memory.specs.Memory.{Cell, BlankTree}
use Rattle.qs_memory.specs.declared.scalar.Scalar.{Scalar}
use Rattle.qs_memory.specs.declared.operation.UnaryOperation.{UnaryOperation}
use Rattle.qs_memory.specs.declared.operation.BinaryOperation.{BinaryOperation}
use Rattle.qs_calls.specs.declared.callee.Callee.{Callee}
use Rattle.qs_calls.specs.declared.parameter.Parameter.{Parameter}

-- 6.3.1, 6.3.2.3: what happens to a value before it is used
pub data Conversion : Type 0 where
  unchanged : Conversion
  converted : (from to : Scalar) → Conversion

-- 6.5.6p2: whether an operation takes its operands as they are written, or a pointer that stands on the right first
pub data Order : Type 0 where
  as_written : Order
  exchanged : Order

-- the object that a name or a text stands for: a placed local or parameter, by its place among those of the function; a file-scope variable,
-- by its place among those of the unit; a text, which stands behind the file-scope variables
pub data Object : Type 0 where
  local : ℕ → Object
  static : ℕ → Object

-- ---- expressions (6.5)

mutual
  -- an expression with a scalar value. An array or a struct in a value's place is a pointer to its first byte (6.3.2.1p3), and `&` leaves
  -- no trace: an object's address is a value like others.
  pub data Expr : Type 0 where
    -- 6.4.4, 6.5.3.4: a literal or a size
    constant : Scalar → ℕ → Expr
    -- 6.3.2.1p2: the value that an lvalue has
    value : Scalar → Lvalue → Expr
    -- 6.5.1, 6.5.3.2p3: the address of an object
    pointer_to : Object → Expr
    -- 6.5.2.3: the address of a member, by its offset, from that of the struct
    member : (offset : ℕ) → Expr → Expr
    -- 6.5.2.2p5: a call whose result is used
    called : (result : Scalar) → Callee → Arguments → Expr
    -- 6.5.2.4: the value before the step; the amount is 1
    stepped_after : Scalar → Lvalue → BinaryOperation → (operand back : Conversion) → Expr
    -- 6.5.3.3
    unary : UnaryOperation → Conversion → Expr → Expr
    -- 6.5.4
    cast : Conversion → Expr → Expr
    -- 6.5.5 to 6.5.12
    binary : BinaryOperation → Order → (left right : Conversion) → Expr → Expr → Expr
    -- 6.5.13
    logical_and : Expr → Expr → Expr
    -- 6.5.14
    logical_or : Expr → Expr → Expr
    -- 6.5.15
    conditional : (result : Scalar) → Expr → (second third : Conversion) → Expr → Expr → Expr
    -- 6.5.16p3: the value that was assigned
    assigned : Assignment → Expr
    -- 6.5.17
    sequence : Effect → Expr → Expr

  -- 6.3.2.1p1: a plain variable, by its number among those of the function, or an object in memory, by its address
  pub data Lvalue : Type 0 where
    variable : ℕ → Lvalue
    object : (address : Expr) → Lvalue

  -- 6.5.2.2p4, p7
  pub data Arguments : Type 0 where
    no_arguments : Arguments
    argument_and : Conversion → Expr → Arguments → Arguments

  pub data Assignment : Type 0 where
    -- 6.5.16.1p2: the value is converted to the type of the lvalue
    set : Scalar → Lvalue → Conversion → Expr → Assignment
    -- 6.5.16.2p3: the operation's value is converted back; `++a` and `--a` are such assignments (6.5.3.1p2)
    update : Scalar → Lvalue → BinaryOperation → (left right back : Conversion) → Expr → Assignment

  -- an expression whose value is discarded (6.8.3p2, 6.5.17p2), or what a declaration does (6.7.9)
  pub data Effect : Type 0 where
    nothing : Effect
    discard : Expr → Effect
    assign : Assignment → Effect
    perform : Callee → Arguments → Effect
    -- 6.5.16.1p2, 6.7.9p14: a struct is copied, or the bytes of a text
    copy : (size alignment : ℕ) → (to from : Expr) → Effect
    -- 6.7.9p19, p21: an object before the expressions of its list
    fill : BlankTree → (at : Expr) → Effect
    in_order : Effect → Effect → Effect

-- ---- statements (6.8)

mutual
  pub data Stmt : Type 0 where
    -- 6.8.3, and a declaration in a block
    evaluate : Effect → Stmt
    block : Stmts → Stmt
    branch : Expr → Stmt → Stmt → Stmt
    -- 6.8.4.2: the operand is converted to its promoted type; the labels of a switch stand among its items, each before what it labels
    switch : Conversion → Expr → (items : Stmts) → Stmt
    -- 6.8.4.2p5: the value is converted to the promoted type of the operand
    case_label : (value : ℕ) → Stmt
    default_label : Stmt
    while_loop : Expr → Stmt → Stmt
    do_loop : Stmt → Expr → Stmt
    -- 6.8.5.3: without a condition it goes on for ever
    for_loop : Effect → Option Expr → Effect → Stmt → Stmt
    break : Stmt
    continue : Stmt
    return : Conversion → Expr → Stmt
    return_nothing : Stmt

  pub data Stmts : Type 0 where
    no_stmts : Stmts
    stmt_and : Stmt → Stmts → Stmts

-- ---- functions (6.9.1)

-- the type of the result, where there is one; the types of the variables, which are the parameters, placed ones too, and then the plain
-- locals; and the sizes of the placed locals and parameters; both in the order of the text
pub record Function : Type 0 where
  pub name : List ℕ
  pub result : Option Scalar
  pub parameters : List Parameter
  pub variables : List Scalar
  pub blocks : List ℕ
  pub body : Stmts
  pub is_main : Bool

-- ---- units

-- what stands in memory when a run begins
pub record StaticBlock : Type 0 where
  pub cells : List Cell
  pub writable : Bool

-- the functions with a body, in order; the file-scope variables and then the texts, in order
pub record TypedProgram : Type 0 where
  pub functions : List Function
  pub blocks : List StaticBlock
