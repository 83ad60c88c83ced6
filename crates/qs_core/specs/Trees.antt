-- Core as plain data: what its expressions, statements and units are, without addresses and
-- capacities.
use Rattle.std.specs.Prelude.{ℕ, Bool, List, [], ◌∷◌, Option}
use Rattle.qs_memory.specs.Memory.{BlankTree}
use Rattle.qs_memory.specs.declared.scalar.Scalar.{Scalar}
use Rattle.qs_memory.specs.declared.operation.UnaryOperation.{UnaryOperation}
use Rattle.qs_memory.specs.declared.operation.BinaryOperation.{BinaryOperation}
use Rattle.qs_calls.specs.declared.callee.Callee.{Callee}
use Rattle.qs_calls.specs.declared.parameter.Parameter.{Parameter}
use Rattle.qs_core.specs.declared.labels.CoreLabel.{CoreLabel}
use Rattle.qs_core.specs.declared.numbers.BlockId.{BlockId}
use Rattle.qs_core.specs.declared.numbers.Target.{Target}

-- pure expressions
pub data CoreExprTree : Type 0 where
  -- an integer of this type, as its 32 bits
  literal : Scalar → ℕ → CoreExprTree
  null_pointer : CoreExprTree
  -- a variable and a temporary of this type, by its number
  variable : Scalar → ℕ → CoreExprTree
  temporary : Scalar → ℕ → CoreExprTree
  -- a pointer to the start of a block
  address_of : BlockId → CoreExprTree
  -- the value of this type that is pointed to
  load : Scalar → CoreExprTree → CoreExprTree
  -- a pointer to the member at this offset
  member : ℕ → CoreExprTree → CoreExprTree
  unary : UnaryOperation → CoreExprTree → CoreExprTree
  binary : BinaryOperation → CoreExprTree → CoreExprTree → CoreExprTree
  conversion : Scalar → CoreExprTree → CoreExprTree
  -- `&&`, `||` and `?:`
  logical_and : CoreExprTree → CoreExprTree → CoreExprTree
  logical_or : CoreExprTree → CoreExprTree → CoreExprTree
  conditional : CoreExprTree → CoreExprTree → CoreExprTree → CoreExprTree

mutual
  pub data CoreStmtTree : Type 0 where
    skip : CoreStmtTree
    seq : CoreStmts → CoreStmtTree
    assign : Target → CoreExprTree → CoreStmtTree
    -- of this type, to an address, a value
    store : Scalar → (to value : CoreExprTree) → CoreStmtTree
    copy : (size alignment : ℕ) → (to from : CoreExprTree) → CoreStmtTree
    fill : BlankTree → (to : CoreExprTree) → CoreStmtTree
    -- into a temporary
    call : Option ℕ → Callee → List CoreExprTree → CoreStmtTree
    branch : CoreExprTree → CoreStmtTree → CoreStmtTree → CoreStmtTree
    loop : (body step : CoreStmtTree) → CoreStmtTree
    switch : (operand : CoreExprTree) → List CoreLabel → (parts : CoreStmts) → CoreStmtTree
    break : CoreStmtTree
    continue : CoreStmtTree
    return : Option CoreExprTree → CoreStmtTree

  pub data CoreStmts : Type 0 where
    no_stmts : CoreStmts
    stmt_and : CoreStmtTree → CoreStmts → CoreStmts

abbrev pub stmts_of : List CoreStmtTree → CoreStmts
stmts_of [] = no_stmts
stmts_of (s ∷ ss) = stmt_and s (stmts_of ss)

-- ---- units

pub record CoreParameterTree : Type 0 where
  pub name : List ℕ
  pub place : Parameter

-- a scalar variable whose address is never taken: the one with this number, from 1, among those of
-- the function with its name
pub record CoreVariableTree : Type 0 where
  pub name : List ℕ
  pub ordinal : ℕ
  pub scalar : Scalar

pub record CoreFunctionTree : Type 0 where
  pub name : List ℕ
  pub parameters : List CoreParameterTree
  pub variables : List CoreVariableTree
  pub temporaries : List Scalar
  pub blocks : List ℕ
  pub result_type : Option Scalar
  pub body : CoreStmts

-- what a block of data begins with, piece by piece: zeros and null pointers, bytes, a pointer into
-- a block of data
pub data PieceTree : Type 0 where
  blank : BlankTree → PieceTree
  bytes : List ℕ → PieceTree
  pointer : (block offset : ℕ) → PieceTree

pub record DataBlockTree : Type 0 where
  pub is_writable : Bool
  pub pieces : List PieceTree

pub record CoreUnitTree : Type 0 where
  pub functions : List CoreFunctionTree
  pub main : ℕ
  pub data_blocks : List DataBlockTree
