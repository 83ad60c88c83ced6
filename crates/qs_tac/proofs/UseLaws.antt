-- How many temporaries an instruction reads at most.
use Rattle.std.proofs.Common.{◌≤◌, ℕ, List, [], ◌∷◌, ◌++◌, length, Option, Some, None, length-append, arith}
use Rattle.qs_tac.specs.Trees.{InstructionTree, move, unary, binary, convert, address_of, load, store}
use Rattle.qs_tac.specs.Trees.{copy, fill, call, jump, branch, return}
use Rattle.qs_tac.specs.declared.operands.Operand.{Operand}
use Rattle.qs_tac.specs.declared.operands.Operand.TheVariants.{Temporary, Integer, Byte, Constant, Null, Local, Data}
use Rattle.qs_tac.specs.declared.operands.Index.{Index}
use Rattle.qs_tac.specs.declared.operands.Address.{Address}
use Rattle.qs_tac.specs.declared.operands.Condition.{Condition}
use Rattle.qs_tac.specs.declared.operands.Condition.TheVariants.{NotZero, Zero, Compare, ComparePointers}
use Rattle.qs_tac.specs.Uses.{read_by, read_by_all, read_by_option, read_by_index, read_by_address, read_by_condition, reads}

one_most : (o : Operand) → length (read_by o) ≤ 1
one_most (Temporary t) = omega arith
one_most (Integer t) = omega arith
one_most (Byte t) = omega arith
one_most (Constant n) = omega arith
one_most Null = omega arith
one_most (Local i) = omega arith
one_most (Data i) = omega arith

two_most : (o p : Operand) → length (read_by o ++ read_by p) ≤ 2
two_most o p = let e = length-append (read_by o) (read_by p) in let a = one_most o in let b = one_most p in omega arith

index_most : (index : Option Index) → length (read_by_index index) ≤ 1
index_most None = omega arith
index_most (Some index) = one_most index.count

address_most : (p : Address) → length (read_by_address p) ≤ 2
address_most p =
    let e = length-append (read_by p.base) (read_by_index p.index) in let a = one_most p.base in let b = index_most p.index in
    omega arith

pub all_most : (os : List Operand) → length (read_by_all os) ≤ length os
all_most [] = omega arith
all_most (o ∷ os) =
    let e = length-append (read_by o) (read_by_all os) in let a = one_most o in let b = all_most os in
    omega arith

condition_most : (c : Condition) → length (read_by_condition c) ≤ 2
condition_most (NotZero o) = let a = one_most o in omega arith
condition_most (Zero o) = let a = one_most o in omega arith
condition_most (Compare op s o p) = two_most o p
condition_most (ComparePointers op o p) = two_most o p

option_most : (o : Option Operand) → length (read_by_option o) ≤ 1
option_most None = omega arith
option_most (Some o) = one_most o

-- but for a call, which may have any number of arguments
abbrev pub read_room : InstructionTree → ℕ
read_room (move x o) = 4
read_room (unary op x o) = 4
read_room (binary op x o p) = 4
read_room (convert s x o) = 4
read_room (address_of x p) = 4
read_room (load s x p) = 4
read_room (store s p o) = 4
read_room (copy size alignment p q) = 4
read_room (fill blank p) = 4
read_room (call x f arguments) = length arguments
read_room (jump to) = 4
read_room (branch c to) = 4
read_room (return o) = 4

pub reads_within : (i : InstructionTree) → length (reads i) ≤ read_room i
reads_within (move x o) = let a = one_most o in omega arith
reads_within (unary op x o) = let a = one_most o in omega arith
reads_within (binary op x o p) = let a = two_most o p in omega arith
reads_within (convert s x o) = let a = one_most o in omega arith
reads_within (address_of x p) = let a = address_most p in omega arith
reads_within (load s x p) = let a = address_most p in omega arith
reads_within (store s p o) =
    let e = length-append (read_by_address p) (read_by o) in let a = address_most p in let b = one_most o in omega arith
reads_within (copy size alignment p q) =
    let e = length-append (read_by_address p) (read_by_address q) in let a = address_most p in let b = address_most q in omega arith
reads_within (fill blank p) = let a = address_most p in omega arith
reads_within (call x f arguments) = all_most arguments
reads_within (jump to) = omega arith
reads_within (branch c to) = let a = condition_most c in omega arith
reads_within (return o) = let a = option_most o in omega arith
