-- Linear code as plain data: what its instructions and units are, without addresses and capacities.
use Rattle.std.specs.Prelude.{ℕ, List, Option}
use Rattle.qs_memory.specs.Memory.{BlankTree}
use Rattle.qs_memory.specs.declared.scalar.Scalar.{Scalar}
use Rattle.qs_memory.specs.declared.operation.UnaryOperation.{UnaryOperation}
use Rattle.qs_memory.specs.declared.operation.BinaryOperation.{BinaryOperation}
use Rattle.qs_calls.specs.declared.callee.Callee.{Callee}
use Rattle.qs_calls.specs.declared.parameter.Parameter.{Parameter}
use Rattle.qs_tac.specs.declared.operands.Operand.{Operand}
use Rattle.qs_tac.specs.declared.operands.Address.{Address}
use Rattle.qs_tac.specs.declared.operands.Condition.{Condition}
use Rattle.qs_tac.specs.declared.units.TacData.{TacData}

-- x is the temporary that is written, `to` of a jump the index of an instruction
pub data InstructionTree : Type 0 where
  move : (x : ℕ) → Operand → InstructionTree
  unary : UnaryOperation → (x : ℕ) → Operand → InstructionTree
  binary : BinaryOperation → (x : ℕ) → (left right : Operand) → InstructionTree
  convert : Scalar → (x : ℕ) → Operand → InstructionTree
  -- a pointer to the address
  address_of : (x : ℕ) → Address → InstructionTree
  load : Scalar → (x : ℕ) → Address → InstructionTree
  -- of this type, to an address, a value
  store : Scalar → (to : Address) → (value : Operand) → InstructionTree
  copy : (size alignment : ℕ) → (to from : Address) → InstructionTree
  fill : BlankTree → (to : Address) → InstructionTree
  call : (x : Option ℕ) → Callee → List Operand → InstructionTree
  jump : (to : ℕ) → InstructionTree
  branch : Condition → (to : ℕ) → InstructionTree
  return : Option Operand → InstructionTree

-- the sizes of the blocks that a call makes stand by the numbers of these
pub record TacFunctionTree : Type 0 where
  pub parameters : List Parameter
  pub temporaries : ℕ
  pub blocks : List ℕ
  pub code : List InstructionTree

pub record TacUnitTree : Type 0 where
  pub functions : List TacFunctionTree
  pub main : ℕ
  pub data_blocks : List TacData
