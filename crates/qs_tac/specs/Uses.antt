-- The temporaries that an instruction reads, and the one that it writes.
use Rattle.std.specs.Prelude.{ℕ, List, [], ◌∷◌, ◌++◌, flat_map, Option, Some, None}
use Rattle.qs_tac.specs.Trees.{InstructionTree, move, unary, binary, convert, address_of, load, store}
use Rattle.qs_tac.specs.Trees.{copy, fill, call, jump, branch, return}
use Rattle.qs_tac.specs.declared.operands.Operand.{Operand}
use Rattle.qs_tac.specs.declared.operands.Operand.TheVariants.{Temporary, Integer, Byte, Constant, Null, Local, Data}
use Rattle.qs_tac.specs.declared.operands.Index.{Index}
use Rattle.qs_tac.specs.declared.operands.Address.{Address}
use Rattle.qs_tac.specs.declared.operands.Condition.{Condition}
use Rattle.qs_tac.specs.declared.operands.Condition.TheVariants.{NotZero, Zero, Compare, ComparePointers}

abbrev pub read_by : Operand → List ℕ
read_by (Temporary t) = t ∷ []
read_by (Integer t) = t ∷ []
read_by (Byte t) = t ∷ []
read_by (Constant n) = []
read_by Null = []
read_by (Local i) = []
read_by (Data i) = []

abbrev pub read_by_all : List Operand → List ℕ
read_by_all = flat_map read_by

abbrev pub read_by_option : Option Operand → List ℕ
read_by_option None = []
read_by_option (Some o) = read_by o

abbrev pub read_by_index : Option Index → List ℕ
read_by_index None = []
read_by_index (Some index) = read_by index.count

abbrev pub read_by_address : Address → List ℕ
read_by_address p = read_by p.base ++ read_by_index p.index

abbrev pub read_by_condition : Condition → List ℕ
read_by_condition (NotZero o) = read_by o
read_by_condition (Zero o) = read_by o
read_by_condition (Compare op s o p) = read_by o ++ read_by p
read_by_condition (ComparePointers op o p) = read_by o ++ read_by p

-- in the order of the operands, one that is read twice twice
abbrev pub reads : InstructionTree → List ℕ
reads (move x o) = read_by o
reads (unary op x o) = read_by o
reads (binary op x o p) = read_by o ++ read_by p
reads (convert s x o) = read_by o
reads (address_of x p) = read_by_address p
reads (load s x p) = read_by_address p
reads (store s p o) = read_by_address p ++ read_by o
reads (copy size alignment p q) = read_by_address p ++ read_by_address q
reads (fill blank p) = read_by_address p
reads (call x f arguments) = read_by_all arguments
reads (jump to) = []
reads (branch c to) = read_by_condition c
reads (return o) = read_by_option o

abbrev pub writes : InstructionTree → Option ℕ
writes (move x o) = Some x
writes (unary op x o) = Some x
writes (binary op x o p) = Some x
writes (convert s x o) = Some x
writes (address_of x p) = Some x
writes (load s x p) = Some x
writes (store s p o) = None
writes (copy size alignment p q) = None
writes (fill blank p) = None
writes (call x f arguments) = x
writes (jump to) = None
writes (branch c to) = None
writes (return o) = None
