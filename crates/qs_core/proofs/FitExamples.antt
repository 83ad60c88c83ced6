-- What fits and what doesn't.
use Rattle.std.proofs.Common.{◌≡◌, ℕ, not, Bool, true, false, List, [], ◌∷◌, codes, Option, Some, None, refl}
use Rattle.std.specs.List.{list_all}
use Rattle.qs_base.specs.Names.{is_name}
use Rattle.qs_base.specs.Keywords.{is_keyword, keyword_of}
use Rattle.qs_memory.specs.Memory.{zeros, nulls}
use Rattle.qs_memory.specs.declared.scalar.Scalar.{Scalar}
use Rattle.qs_memory.specs.declared.scalar.Scalar.TheVariants as scalars
use Rattle.qs_memory.specs.declared.operation.Signedness.{Signedness}
use Rattle.qs_memory.specs.declared.operation.Signedness.TheVariants.{Signed, Unsigned}
use Rattle.qs_memory.specs.declared.operation.Direction.TheVariants.{Up}
use Rattle.qs_memory.specs.declared.operation.Arithmetic.{Arithmetic}
use Rattle.qs_memory.specs.declared.operation.Arithmetic.TheVariants as arithmetics
use Rattle.qs_memory.specs.declared.operation.Comparison.TheVariants as comparisons
use Rattle.qs_memory.specs.declared.operation.UnaryOperation.TheVariants as unaries
use Rattle.qs_memory.specs.declared.operation.BinaryOperation.TheVariants as binaries
use Rattle.qs_calls.specs.declared.callee.Callee.{Callee}
use Rattle.qs_calls.specs.declared.callee.Callee.TheVariants.{Function, PutChar, GetChar}
use Rattle.qs_calls.specs.declared.parameter.Parameter.{Parameter}
use Rattle.qs_calls.specs.declared.parameter.Parameter.TheVariants.{Plain, Placed}
use Rattle.qs_core.specs.declared.labels.CoreLabel.TheVariants.{Case, Default}
use Rattle.qs_core.specs.declared.numbers.BlockId.TheVariants.{Local, Data}
use Rattle.qs_core.specs.declared.numbers.Target.TheVariants as targets
use Rattle.qs_core.specs.Trees.{CoreExprTree, literal, null_pointer, variable, temporary, address_of, load, member}
use Rattle.qs_core.specs.Trees.{unary, binary, conversion, logical_and, logical_or, conditional}
use Rattle.qs_core.specs.Trees.{CoreStmtTree, skip, seq, assign, store, copy, fill, call, branch, loop, switch, break, continue, return}
use Rattle.qs_core.specs.Trees.{stmts_of, CoreVariableTree, CoreFunctionTree, PieceTree, bytes, pointer, DataBlockTree, CoreUnitTree}
use Rattle.qs_core.specs.Fits.{expr_fits, stmt_fits, function_fits, unit_fits}

-- int f(int i, char c) with &c, and further variables u (unsigned), p (a pointer) and a second i (char); temporaries of each type
abbrev variables : List CoreVariableTree
variables =
    record { name = codes "i"; ordinal = 1; scalar = scalars.Int }
    ∷ record { name = codes "c"; ordinal = 1; scalar = scalars.Char }
    ∷ record { name = codes "u"; ordinal = 1; scalar = scalars.Unsigned }
    ∷ record { name = codes "p"; ordinal = 1; scalar = scalars.Pointer }
    ∷ record { name = codes "i"; ordinal = 2; scalar = scalars.Char }
    ∷ []

abbrev with_parts : (places : Parameter × Parameter) → List CoreVariableTree → List ℕ → List CoreStmtTree → CoreFunctionTree
with_parts places variables blocks body = record {
  name = codes "f";
  parameters =
      record { name = codes "i"; place = places.0 } ∷ record { name = codes "c"; place = places.1 } ∷ [];
  variables = variables;
  temporaries = scalars.Int ∷ scalars.Char ∷ scalars.Unsigned ∷ scalars.Pointer ∷ [];
  blocks = blocks;
  result_type = Some scalars.Int;
  body = stmts_of body;
}

abbrev f : CoreFunctionTree
f = with_parts (Plain 0, Placed 0 scalars.Char) variables (1 ∷ 12 ∷ []) []

abbrev main : CoreFunctionTree
main = record {
  name = codes "main";
  parameters = record { name = codes "n"; place = Plain 0 } ∷ [];
  variables = record { name = codes "n"; ordinal = 1; scalar = scalars.Unsigned } ∷ [];
  temporaries = [];
  blocks = [];
  result_type = Some scalars.Int;
  body = stmts_of [];
}

abbrev text : DataBlockTree
text = record { is_writable = false; pieces = bytes (65 ∷ 0 ∷ []) ∷ [] }

abbrev unit_of : List CoreFunctionTree → (main : ℕ) → List DataBlockTree → CoreUnitTree
unit_of functions main data_blocks = record { functions = functions; main = main; data_blocks = data_blocks }

abbrev unit : CoreUnitTree
unit = unit_of (f ∷ main ∷ []) 1 (text ∷ [])

the_unit_fits : unit_fits unit ≡ true
unfolding is_name is_keyword keyword_of
the_unit_fits = refl

-- ---- expressions

-- a variable of each type
abbrev int : CoreExprTree
int = variable scalars.Int 0

abbrev char : CoreExprTree
char = variable scalars.Char 4

abbrev uint : CoreExprTree
uint = variable scalars.Unsigned 2

abbrev pointer_to : CoreExprTree
pointer_to = variable scalars.Pointer 3

abbrev arithmetic : Arithmetic → Signedness → CoreExprTree → CoreExprTree → CoreExprTree
arithmetic op s = binary (binaries.Arithmetic op s)

abbrev compare : Signedness → CoreExprTree → CoreExprTree → CoreExprTree
compare s = binary (binaries.Compare comparisons.Less s)

abbrev move : Signedness → (element : ℕ) → CoreExprTree → CoreExprTree → CoreExprTree
move s element = binary (binaries.Move Up s element)

abbrev difference : (element : ℕ) → CoreExprTree → CoreExprTree → CoreExprTree
difference element = binary (binaries.Difference element)

abbrev same_pointers : CoreExprTree → CoreExprTree → CoreExprTree
same_pointers = binary (binaries.ComparePointers comparisons.Equal)

abbrev fits : CoreExprTree → Bool
fits = expr_fits unit f

abbrev refused : CoreExprTree → Bool
refused e = not (fits e)

these_fit :
    list_all fits (
    literal scalars.Char 255
    ∷ null_pointer
    ∷ temporary scalars.Pointer 3
    ∷ address_of (Local 1)
    ∷ address_of (Data 0)
    ∷ load scalars.Char pointer_to
    ∷ member 4 pointer_to
    ∷ unary (unaries.Plus Unsigned) uint
    ∷ unary (unaries.Minus Signed) int
    ∷ unary (unaries.Complement Signed) int
    ∷ unary unaries.Not char
    ∷ unary unaries.Truth pointer_to
    ∷ arithmetic arithmetics.Divide Unsigned uint uint
    ∷ arithmetic arithmetics.ShiftLeft Signed int uint
    ∷ arithmetic arithmetics.ShiftRight Unsigned uint int
    ∷ compare Unsigned uint uint
    ∷ move Unsigned 16777216 pointer_to uint
    ∷ difference 1 pointer_to pointer_to
    ∷ same_pointers pointer_to null_pointer
    ∷ conversion scalars.Char uint
    ∷ conversion scalars.Int char
    ∷ logical_and char pointer_to
    ∷ logical_or pointer_to int
    ∷ conditional char pointer_to null_pointer
    ∷ [])
    ≡ true
these_fit = refl

these_are_refused :
    list_all refused (
    literal scalars.Char 256
    ∷ literal scalars.Pointer 0
    ∷ variable scalars.Unsigned 0
    ∷ variable scalars.Int 5
    ∷ temporary scalars.Int 4
    ∷ address_of (Local 2)
    ∷ address_of (Data 1)
    ∷ load scalars.Int int
    ∷ load scalars.Int (variable scalars.Pointer 5)
    ∷ member 0 int
    ∷ member 16777217 pointer_to
    ∷ unary (unaries.Plus Unsigned) int
    ∷ unary (unaries.Minus Signed) char
    ∷ unary (unaries.Complement Signed) uint
    ∷ unary unaries.Not (variable scalars.Int 5)
    ∷ arithmetic arithmetics.Add Unsigned int uint
    ∷ arithmetic arithmetics.Add Unsigned uint int
    ∷ arithmetic arithmetics.Subtract Signed int char
    ∷ arithmetic arithmetics.Multiply Unsigned uint int
    ∷ arithmetic arithmetics.Divide Unsigned int uint
    ∷ arithmetic arithmetics.Remainder Unsigned uint int
    ∷ arithmetic arithmetics.ShiftLeft Signed int char
    ∷ arithmetic arithmetics.ShiftRight Unsigned int uint
    ∷ arithmetic arithmetics.ShiftRight Signed int pointer_to
    ∷ arithmetic arithmetics.And Signed int uint
    ∷ arithmetic arithmetics.Or Signed int uint
    ∷ arithmetic arithmetics.Xor Signed int uint
    ∷ compare Unsigned int uint
    ∷ compare Unsigned uint int
    ∷ move Signed 0 pointer_to int
    ∷ move Signed 16777217 pointer_to int
    ∷ move Signed 4 pointer_to uint
    ∷ move Signed 4 int pointer_to
    ∷ difference 0 pointer_to pointer_to
    ∷ difference 4 pointer_to int
    ∷ difference 4 int pointer_to
    ∷ same_pointers pointer_to int
    ∷ same_pointers int pointer_to
    ∷ conversion scalars.Pointer int
    ∷ conversion scalars.Pointer pointer_to
    ∷ conversion scalars.Int pointer_to
    ∷ conversion scalars.Char pointer_to
    ∷ conversion scalars.Unsigned pointer_to
    ∷ conditional char int uint
    ∷ [])
    ≡ true
these_are_refused = refl

-- ---- statements, which may stand outside every loop

abbrev stands : CoreStmtTree → Bool
stands = stmt_fits unit f false false

abbrev is_out_of_place : CoreStmtTree → Bool
is_out_of_place s = not (stands s)

abbrev first : Callee
first = Function (record { 0 = 0 })

these_stand :
    list_all stands (
    skip
    ∷ seq (stmts_of (skip ∷ []))
    ∷ assign (targets.Variable 0) int
    ∷ assign (targets.Temporary 1) char
    ∷ store scalars.Char pointer_to char
    ∷ copy 12 4 pointer_to (address_of (Local 1))
    ∷ fill (zeros 12) (address_of (Local 1))
    ∷ call (Some 0) first (int ∷ char ∷ [])
    ∷ call None first (int ∷ char ∷ [])
    ∷ call (Some 0) PutChar (int ∷ [])
    ∷ call (Some 0) GetChar []
    ∷ branch pointer_to skip skip
    ∷ loop (seq (stmts_of (break ∷ continue ∷ []))) break
    ∷ loop skip (loop continue skip)
    ∷ switch int (Case 4294967295 0 ∷ Default 1 ∷ Case 4294967295 1 ∷ []) (stmts_of (break ∷ skip ∷ []))
    ∷ switch uint [] (stmts_of [])
    ∷ loop (switch int (Case 0 0 ∷ []) (stmts_of (continue ∷ []))) skip
    ∷ return None
    ∷ return (Some int)
    ∷ [])
    ≡ true
these_stand = refl

these_are_out_of_place :
    list_all is_out_of_place (
    seq (stmts_of (skip ∷ break ∷ []))
    ∷ assign (targets.Variable 0) uint
    ∷ assign (targets.Temporary 4) int
    ∷ assign (targets.Variable 0) (variable scalars.Int 5)
    ∷ store scalars.Char pointer_to int
    ∷ store scalars.Int int int
    ∷ copy 12 0 pointer_to pointer_to
    ∷ copy 16777217 1 pointer_to pointer_to
    ∷ copy 12 4 int pointer_to
    ∷ copy 12 4 pointer_to int
    ∷ fill (zeros 12) int
    ∷ fill (nulls 4194305) pointer_to
    ∷ call None (Function (record { 0 = 2 })) []
    ∷ call None first (int ∷ [])
    ∷ call None first (int ∷ char ∷ char ∷ [])
    ∷ call None first (int ∷ int ∷ [])
    ∷ call (Some 1) first (int ∷ char ∷ [])
    ∷ call (Some 0) first (temporary scalars.Int 0 ∷ char ∷ [])
    ∷ call None first (int ∷ variable scalars.Char 5 ∷ [])
    ∷ call (Some 0) PutChar (char ∷ [])
    ∷ call (Some 0) PutChar []
    ∷ call (Some 0) GetChar (int ∷ [])
    ∷ branch (variable scalars.Int 5) skip skip
    ∷ branch int break skip
    ∷ branch int skip continue
    ∷ loop skip continue
    ∷ loop skip (branch int continue skip)
    -- labels behind the last part, a value that isn't one of the type, an operand that isn't promoted
    ∷ switch int (Case 0 1 ∷ []) (stmts_of (skip ∷ []))
    ∷ switch int (Default 1 ∷ []) (stmts_of (skip ∷ []))
    ∷ switch int (Case 4294967296 0 ∷ []) (stmts_of (skip ∷ []))
    ∷ switch char [] (stmts_of [])
    ∷ switch pointer_to [] (stmts_of [])
    ∷ switch (variable scalars.Int 5) [] (stmts_of [])
    ∷ switch int [] (stmts_of (continue ∷ []))
    ∷ seq (stmts_of (switch int [] (stmts_of []) ∷ break ∷ []))
    ∷ break
    ∷ continue
    ∷ return (Some uint)
    ∷ return (Some (variable scalars.Int 5))
    ∷ [])
    ≡ true
these_are_out_of_place = refl

-- ---- functions

abbrev function_refused : CoreFunctionTree → Bool
function_refused g = not (function_fits unit g)

abbrev named : List ℕ → (ordinal : ℕ) → CoreVariableTree
named name ordinal = record { name = name; ordinal = ordinal; scalar = scalars.Int }

abbrev with_third : CoreVariableTree → CoreFunctionTree
with_third v =
    with_parts (Plain 0, Plain 1) (named (codes "i") 1 ∷ named (codes "c") 1 ∷ v ∷ []) [] []

a_third_variable : function_fits unit (with_third (named (codes "i") 2)) ≡ true
unfolding is_name is_keyword keyword_of
a_third_variable = refl

functions_are_refused :
    list_all function_refused (
    -- two variables of one name and ordinal, an ordinal 0, a keyword
    with_third (named (codes "i") 1)
    ∷ with_third (named (codes "j") 0)
    ∷ with_third (named (codes "int") 1)
    -- the parameter isn't the variable of its number, nor of its name, nor the first one
    ∷ with_parts (Plain 1, Plain 0) (named (codes "i") 1 ∷ named (codes "c") 1 ∷ []) [] []
    ∷ with_parts (Plain 0, Plain 1) (named (codes "i") 1 ∷ named (codes "d") 1 ∷ []) [] []
    ∷ with_parts (Plain 0, Plain 1) (named (codes "i") 1 ∷ named (codes "c") 2 ∷ []) [] []
    ∷ with_parts (Plain 0, Plain 1) (named (codes "i") 1 ∷ []) [] []
    -- the block of a parameter isn't there, is of another size, or the types differ
    ∷ with_parts (Plain 0, Placed 0 scalars.Char) variables [] []
    ∷ with_parts (Plain 0, Placed 0 scalars.Char) variables (4 ∷ []) []
    ∷ with_parts (Plain 0, Placed 0 scalars.Int) variables (4 ∷ []) []
    -- its body, or a block larger than every type
    ∷ with_parts (Plain 0, Plain 1) variables [] (break ∷ [])
    ∷ with_parts (Plain 0, Plain 1) variables (16777217 ∷ []) []
    ∷ record f { name = codes "while" }
    ∷ [])
    ≡ true
unfolding is_name is_keyword keyword_of
functions_are_refused = refl

-- ---- units

abbrev unit_refused : CoreUnitTree → Bool
unit_refused v = not (unit_fits v)

abbrev main_of : List CoreVariableTree → Option Scalar → CoreFunctionTree
main_of variables result_type = record main { variables = variables; result_type = result_type }

abbrev pieces_of : List PieceTree → DataBlockTree
pieces_of pieces = record { is_writable = true; pieces = pieces }

a_pointer_to_the_end : unit_fits (unit_of (f ∷ main ∷ []) 1 (text ∷ pieces_of (pointer 0 2 ∷ []) ∷ [])) ≡ true
unfolding is_name is_keyword keyword_of
a_pointer_to_the_end = refl

units_are_refused :
    list_all unit_refused (
    -- main is another function, isn't there, returns nothing, or takes a `char`
    unit_of (f ∷ main ∷ []) 0 (text ∷ [])
    ∷ unit_of (f ∷ main ∷ []) 2 (text ∷ [])
    ∷ unit_of (f ∷ main_of main.variables None ∷ []) 1 (text ∷ [])
    ∷ unit_of (f ∷ main_of main.variables (Some scalars.Unsigned) ∷ []) 1 (text ∷ [])
    ∷ unit_of (f ∷ main_of (record { name = codes "n"; ordinal = 1; scalar = scalars.Char } ∷ []) (Some scalars.Int) ∷ []) 1 (text ∷ [])
    -- two functions of one name
    ∷ unit_of (f ∷ main ∷ main ∷ []) 1 (text ∷ [])
    -- a pointer past the end of its block, or into none, and a byte of 256
    ∷ unit_of (f ∷ main ∷ []) 1 (text ∷ pieces_of (pointer 0 3 ∷ []) ∷ [])
    ∷ unit_of (f ∷ main ∷ []) 1 (text ∷ pieces_of (pointer 2 0 ∷ []) ∷ [])
    ∷ unit_of (f ∷ main ∷ []) 1 (text ∷ pieces_of (bytes (256 ∷ []) ∷ []) ∷ [])
    ∷ [])
    ≡ true
unfolding is_name is_keyword keyword_of
units_are_refused = refl
