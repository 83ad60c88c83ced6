-- What holds of every unit of core: numbers are below their counts, operations are on operands of
-- the types that they take, breaks and continues stand where there is a loop or a switch for them, labels before parts, and the
-- temporary that takes a call's result occurs in none of its arguments.
use Rattle.std.specs.Prelude.{ℕ, ◌+◌, ◌==◌, ◌&&◌, ◌||◌, not, nat_lt, nat_le, Bool, true, false, List, [], ◌∷◌, length, map}
use Rattle.std.specs.Prelude.{Option, Some, None, codes, bytes_eq}
use Rattle.std.specs.List.{slice_get, list_all}
use Rattle.qs_base.specs.Names.{is_name}
use Rattle.qs_memory.specs.Values.{integer, width, has_type}
use Rattle.qs_memory.specs.Sizes.{largest_size, blank_size}
use Rattle.qs_memory.specs.Scalars.{same_scalar, same_scalars, is_type, is_pointer, is_promoted}
use Rattle.qs_memory.specs.Operands.{unary_takes, binary_takes, conversion_takes}
use Rattle.qs_memory.specs.declared.scalar.Scalar.{Scalar}
use Rattle.qs_memory.specs.declared.scalar.Scalar.TheVariants as scalars
use Rattle.qs_calls.specs.Starts.{Signature, signature_of}
use Rattle.qs_calls.specs.declared.parameter.Parameter.{Parameter}
use Rattle.qs_calls.specs.declared.parameter.Parameter.TheVariants.{Plain, Placed}
use Rattle.qs_core.specs.declared.labels.CoreLabel.{CoreLabel}
use Rattle.qs_core.specs.declared.labels.CoreLabel.TheVariants.{Case, Default}
use Rattle.qs_core.specs.declared.numbers.BlockId.{BlockId}
use Rattle.qs_core.specs.declared.numbers.BlockId.TheVariants.{Local, Data}
use Rattle.qs_core.specs.Trees.{CoreExprTree, literal, null_pointer, variable, temporary, address_of, load, member}
use Rattle.qs_core.specs.Trees.{unary, binary, conversion, logical_and, logical_or, conditional}
use Rattle.qs_core.specs.Trees.{CoreStmtTree, skip, seq, assign, store, copy, fill, call, branch, loop, switch, break, continue, return}
use Rattle.qs_core.specs.Trees.{CoreStmts, no_stmts, stmt_and, CoreParameterTree, CoreVariableTree, CoreFunctionTree}
use Rattle.qs_core.specs.Trees.{PieceTree, blank, bytes, pointer, DataBlockTree, CoreUnitTree}
use Rattle.qs_core.specs.Expressions.{type_of}
use Rattle.qs_core.specs.Outline.{count_of}
use Rattle.qs_core.specs.Units.{data_block}
use Rattle.qs_core.specs.Interfaces.{variable_type, temporary_type, target_type, parameter_types, interface_of}

-- ---- expressions

abbrev pub block_fits : CoreUnitTree → CoreFunctionTree → BlockId → Bool
block_fits u f (Local i) = nat_lt i (length f.blocks)
block_fits u f (Data i) = nat_lt i (length u.data_blocks)

abbrev pub expr_fits : CoreUnitTree → CoreFunctionTree → CoreExprTree → Bool
expr_fits u f (literal s n) = has_type s (integer n)
expr_fits u f null_pointer = true
expr_fits u f (variable s x) = is_type (variable_type f x) s
expr_fits u f (temporary s k) = is_type (temporary_type f k) s
expr_fits u f (address_of b) = block_fits u f b
expr_fits u f (load s a) = expr_fits u f a && is_pointer (type_of a)
expr_fits u f (member offset a) =
    expr_fits u f a && is_pointer (type_of a) && nat_le offset largest_size
expr_fits u f (unary op a) = expr_fits u f a && unary_takes op (type_of a)
expr_fits u f (binary op a b) =
    expr_fits u f a && expr_fits u f b && binary_takes op (type_of a) (type_of b)
expr_fits u f (conversion s a) = expr_fits u f a && conversion_takes s (type_of a)
expr_fits u f (logical_and a b) = expr_fits u f a && expr_fits u f b
expr_fits u f (logical_or a b) = expr_fits u f a && expr_fits u f b
-- 6.5.15p3, p5: both have the type of the whole
expr_fits u f (conditional c a b) =
    expr_fits u f c && expr_fits u f a && expr_fits u f b && same_scalar (type_of a) (type_of b)

abbrev pub exprs_fit : CoreUnitTree → CoreFunctionTree → List CoreExprTree → Bool
exprs_fit u f [] = true
exprs_fit u f (e ∷ es) = expr_fits u f e && exprs_fit u f es

abbrev pub pointer_fits : CoreUnitTree → CoreFunctionTree → CoreExprTree → Bool
pointer_fits u f a = expr_fits u f a && is_pointer (type_of a)

-- whether the temporary occurs in an expression
abbrev pub mentions : (temporary : ℕ) → CoreExprTree → Bool
mentions k (literal s n) = false
mentions k null_pointer = false
mentions k (variable s x) = false
mentions k (temporary s j) = j == k
mentions k (address_of b) = false
mentions k (load s a) = mentions k a
mentions k (member offset a) = mentions k a
mentions k (unary op a) = mentions k a
mentions k (binary op a b) = mentions k a || mentions k b
mentions k (conversion s a) = mentions k a
mentions k (logical_and a b) = mentions k a || mentions k b
mentions k (logical_or a b) = mentions k a || mentions k b
mentions k (conditional c a b) = mentions k c || mentions k a || mentions k b

abbrev pub any_mentions : (temporary : ℕ) → List CoreExprTree → Bool
any_mentions k [] = false
any_mentions k (e ∷ es) = mentions k e || any_mentions k es

-- ---- calls

-- the temporary that takes a result has its type
abbrev pub taken_fits : CoreFunctionTree → (result_type : Option Scalar) → (temporary : ℕ) → Bool
taken_fits f None k = false
taken_fits f (Some s) k = is_type (temporary_type f k) s

-- and isn't in the arguments
abbrev pub destination_fits :
    CoreFunctionTree → (result_type : Option Scalar) → Option ℕ → List CoreExprTree → Bool
destination_fits f result_type None es = true
destination_fits f result_type (Some k) es = taken_fits f result_type k && not (any_mentions k es)

-- 6.5.2.2p2: as many arguments as parameters, each of the type of its parameter
abbrev pub call_fits :
    CoreFunctionTree → Option ℕ → Option Signature → List CoreExprTree → Bool
call_fits f x None es = false
call_fits f x (Some g) es =
    same_scalars (map type_of es) g.parameters && destination_fits f g.result_type x es

-- ---- statements

-- 6.8.6.4p1
abbrev pub returned_fits : CoreUnitTree → CoreFunctionTree → Option CoreExprTree → Bool
returned_fits u f None = true
returned_fits u f (Some e) = expr_fits u f e && is_type f.result_type (type_of e)

-- 6.8.4.2p5: a case has a value of the operand's type; a label stands before one of so many parts
abbrev pub label_fits : (operand_type : Scalar) → (parts : ℕ) → CoreLabel → Bool
label_fits s parts (Case n part) = has_type s (integer n) && nat_lt part parts
label_fits s parts (Default part) = nat_lt part parts

abbrev mutual
  -- where a break, and a continue, may stand
  pub stmt_fits :
      CoreUnitTree → CoreFunctionTree → (may_break may_continue : Bool) → CoreStmtTree → Bool
  stmt_fits u f b c skip = true
  stmt_fits u f b c (seq ss) = stmts_fit u f b c ss
  stmt_fits u f b c (assign x e) = expr_fits u f e && is_type (target_type f x) (type_of e)
  stmt_fits u f b c (store s to e) =
      pointer_fits u f to && expr_fits u f e && same_scalar (type_of e) s
  stmt_fits u f b c (copy size alignment to from) =
      pointer_fits u f to && pointer_fits u f from && nat_le 1 alignment
      && nat_le size largest_size
  stmt_fits u f b c (fill contents to) =
      pointer_fits u f to && nat_le (blank_size contents) largest_size
  stmt_fits u f b c (call x g es) =
      exprs_fit u f es && call_fits f x (signature_of (interface_of u) g) es
  stmt_fits u f b c (branch e s t) =
      expr_fits u f e && stmt_fits u f b c s && stmt_fits u f b c t
  -- a continue goes to the step, so none stands in the step itself
  stmt_fits u f b c (loop body step) =
      stmt_fits u f true true body && stmt_fits u f true false step
  stmt_fits u f b c (switch e labels ss) =
      expr_fits u f e && is_promoted (type_of e)
      && list_all (label_fits (type_of e) (count_of ss)) labels && stmts_fit u f true c ss
  stmt_fits u f b c break = b
  stmt_fits u f b c continue = c
  stmt_fits u f b c (return e) = returned_fits u f e

  pub stmts_fit :
      CoreUnitTree → CoreFunctionTree → (may_break may_continue : Bool) → CoreStmts → Bool
  stmts_fit u f b c no_stmts = true
  stmts_fit u f b c (stmt_and s ss) = stmt_fits u f b c s && stmts_fit u f b c ss

-- ---- names

-- no two are the same
abbrev pub differ : {A : Type 0} → (same : A → A → Bool) → List A → Bool
differ same [] = true
differ same (x ∷ xs) = list_all (λ y. not (same x y)) xs && differ same xs

-- a variable is told by its name and by which of the variables of that name it is, from 1
abbrev pub same_variable : CoreVariableTree → CoreVariableTree → Bool
same_variable v w = bytes_eq v.name w.name && v.ordinal == w.ordinal

abbrev pub is_named : CoreVariableTree → Bool
is_named v = is_name v.name && nat_le 1 v.ordinal

-- ---- functions

-- a block of this size is one for a value of the type
abbrev pub is_room : Option ℕ → Scalar → Bool
is_room None s = false
is_room (Some size) s = size == width s

-- a plain parameter is the variable of its own number; for a placed one that variable isn't used
abbrev pub place_fits : (blocks : List ℕ) → (number : ℕ) → Scalar → Parameter → Bool
place_fits blocks i s (Plain x) = x == i
place_fits blocks i s (Placed k t) = same_scalar t s && is_room (slice_get blocks k) t

-- a parameter is the first variable of its name
abbrev pub parameter_fits :
    (blocks : List ℕ) → (number : ℕ) → CoreParameterTree → CoreVariableTree → Bool
parameter_fits blocks i p v =
    bytes_eq p.name v.name && v.ordinal == 1 && place_fits blocks i v.scalar p.place

-- parameters from this number on, and variables
abbrev pub parameters_fit :
    (blocks : List ℕ) → (number : ℕ) → List CoreParameterTree → List CoreVariableTree → Bool
parameters_fit blocks i [] vs = true
parameters_fit blocks i (p ∷ ps) [] = false
parameters_fit blocks i (p ∷ ps) (v ∷ vs) =
    parameter_fits blocks i p v && parameters_fit blocks (i + 1) ps vs

-- no block is larger than the largest type
abbrev pub is_size : (bytes : ℕ) → Bool
is_size n = nat_le n largest_size

abbrev pub function_fits : CoreUnitTree → CoreFunctionTree → Bool
function_fits u f =
    is_name f.name && list_all is_named f.variables && differ same_variable f.variables
    && parameters_fit f.blocks 0 f.parameters f.variables && stmts_fit u f false false f.body
    && list_all is_size f.blocks

-- ---- data

-- a pointer among the data is into a block of data or just past its end
abbrev pub is_in_data : Option DataBlockTree → (offset : ℕ) → Bool
is_in_data None offset = false
is_in_data (Some d) offset = nat_le offset (data_block d).size

abbrev pub piece_fits : CoreUnitTree → PieceTree → Bool
piece_fits u (blank b) = true
piece_fits u (bytes bs) = list_all (λ b. nat_lt b 256) bs
piece_fits u (pointer block offset) = is_in_data (slice_get u.data_blocks block) offset

abbrev pub data_fits : CoreUnitTree → DataBlockTree → Bool
data_fits u d = list_all (piece_fits u) d.pieces && is_size (data_block d).size

-- ---- units

-- 5.1.2.2.1
abbrev pub main_name : List ℕ
main_name = codes "main"

-- main returns `int`, and takes `int` and `unsigned` alone
abbrev pub is_main : Option CoreFunctionTree → Bool
is_main None = false
is_main (Some f) =
    bytes_eq f.name main_name && is_type f.result_type scalars.Int
    && list_all is_promoted (parameter_types f)

abbrev pub unit_fits : CoreUnitTree → Bool
unit_fits u =
    list_all (function_fits u) u.functions && differ bytes_eq (map (λ f. f.name) u.functions)
    && is_main (slice_get u.functions u.main) && list_all (data_fits u) u.data_blocks
