-- The outline of a unit: a line for each function, and a line for each of its statements, a statement before its parts.
use Rattle.std.specs.Prelude.{ℕ, ℤ, ◌+◌, List, [], ◌∷◌, ◌++◌, codes, decimal, flat_map, Option, Some, None}
use Rattle.std.specs.Fmt.{signed_decimal}
use Rattle.std.specs.List.{slice_get}
use Rattle.qs_memory.specs.declared.scalar.Scalar.{Scalar}
use Rattle.qs_calls.specs.declared.callee.Callee.{Callee}
use Rattle.qs_calls.specs.declared.callee.Callee.TheVariants.{Function, PutChar, GetChar}
use Rattle.qs_core.specs.declared.labels.CoreLabel.{CoreLabel}
use Rattle.qs_core.specs.declared.labels.CoreLabel.TheVariants.{Case, Default}
use Rattle.qs_core.specs.declared.numbers.Target.{Target}
use Rattle.qs_core.specs.declared.numbers.Target.TheVariants as targets
use Rattle.qs_core.specs.Trees.{CoreExprTree, CoreStmtTree, skip, seq, assign, store, copy, fill, call, branch, loop, switch, break, continue, return, CoreStmts, no_stmts, stmt_and, CoreParameterTree, CoreFunctionTree, CoreUnitTree}
use Rattle.qs_core.specs.Expressions.{type_of}
use Rattle.qs_core.specs.Terms.{literal_value}
use Rattle.qs_core.specs.FunctionNames.{name_in}
use Rattle.qs_core.specs.TermTexts.{variable_text, temporary_text, expr_text, test_text}

-- where a statement stands: the numbers of the parts that lead to it from the body, each behind a dot
abbrev pub part_path : (path : List ℕ) → (part : ℕ) → List ℕ
part_path path part = path ++ codes "." ++ decimal part

-- the body itself is a dot
abbrev pub path_text : List ℕ → List ℕ
path_text [] = codes "."
path_text (byte ∷ path) = byte ∷ path

abbrev pub line : (path form : List ℕ) → List ℕ
line path form = path_text path ++ codes " " ++ form ++ codes "\n"

-- ---- forms

abbrev pub count_of : CoreStmts → ℕ
count_of no_stmts = 0
count_of (stmt_and s ss) = count_of ss + 1

abbrev pub target_text : CoreFunctionTree → Target → List ℕ
target_text f (targets.Variable x) = variable_text f x
target_text f (targets.Temporary k) = temporary_text k

abbrev pub destination_text : Option ℕ → List ℕ
destination_text None = codes "-"
destination_text (Some k) = temporary_text k

abbrev pub function_text : List CoreFunctionTree → ℕ → List ℕ
function_text functions f = name_in (slice_get functions f)

abbrev pub callee_text : List CoreFunctionTree → Callee → List ℕ
callee_text functions (Function f) = function_text functions f.0
callee_text functions PutChar = codes "putchar"
callee_text functions GetChar = codes "getchar"

abbrev pub argument_text : CoreFunctionTree → CoreExprTree → List ℕ
argument_text f e = codes " " ++ expr_text f e

abbrev pub returned_text : CoreFunctionTree → Option CoreExprTree → List ℕ
returned_text f None = []
returned_text f (Some e) = argument_text f e

abbrev pub seq_form : CoreStmts → List ℕ
seq_form ss = codes "seq " ++ decimal (count_of ss)

abbrev pub assign_form : CoreFunctionTree → Target → CoreExprTree → List ℕ
assign_form f x e = codes "assign " ++ target_text f x ++ codes " " ++ expr_text f e

abbrev pub call_form : List CoreFunctionTree → CoreFunctionTree → Option ℕ → Callee → List CoreExprTree → List ℕ
call_form functions f x g arguments = codes "call " ++ destination_text x ++ codes " " ++ callee_text functions g ++ flat_map (argument_text f) arguments

abbrev pub if_form : CoreFunctionTree → CoreExprTree → List ℕ
if_form f e = codes "if " ++ test_text f e

-- a label with the number of the part before which it stands; the value is what its 32 bits are in the operand's type
abbrev pub case_text : (value : ℤ) → (part : ℕ) → List ℕ
case_text value part = codes " " ++ signed_decimal value ++ codes "@" ++ decimal part

abbrev pub default_text : (part : ℕ) → List ℕ
default_text part = codes " default@" ++ decimal part

abbrev pub label_text : (operand_type : Scalar) → CoreLabel → List ℕ
label_text s (Case n part) = case_text (literal_value s n) part
label_text s (Default part) = default_text part

abbrev pub labels_text : (operand_type : Scalar) → List CoreLabel → List ℕ
labels_text s labels = flat_map (label_text s) labels

abbrev pub switch_form : CoreFunctionTree → CoreExprTree → List CoreLabel → List ℕ
switch_form f e labels = codes "switch " ++ expr_text f e ++ labels_text (type_of e) labels

abbrev pub return_form : CoreFunctionTree → Option CoreExprTree → List ℕ
return_form f e = codes "return" ++ returned_text f e

-- ---- statements; the list is that of the unit's functions

abbrev mutual
  pub outline_stmt : List CoreFunctionTree → CoreFunctionTree → (path : List ℕ) → CoreStmtTree → List ℕ
  outline_stmt functions f path skip = line path (codes "skip")
  outline_stmt functions f path (seq ss) = line path (seq_form ss) ++ outline_parts functions f path 0 ss
  outline_stmt functions f path (assign x e) = line path (assign_form f x e)
  outline_stmt functions f path (store s a b) = line path (codes "store")
  outline_stmt functions f path (copy size alignment a b) = line path (codes "copy")
  outline_stmt functions f path (fill blank a) = line path (codes "fill")
  outline_stmt functions f path (call x g arguments) = line path (call_form functions f x g arguments)
  outline_stmt functions f path (branch e a b) =
      line path (if_form f e) ++ outline_stmt functions f (part_path path 0) a ++ outline_stmt functions f (part_path path 1) b
  outline_stmt functions f path (loop body step) =
      line path (codes "loop") ++ outline_stmt functions f (part_path path 0) body ++ outline_stmt functions f (part_path path 1) step
  outline_stmt functions f path (switch e labels ss) = line path (switch_form f e labels) ++ outline_parts functions f path 0 ss
  outline_stmt functions f path break = line path (codes "break")
  outline_stmt functions f path continue = line path (codes "continue")
  outline_stmt functions f path (return e) = line path (return_form f e)

  -- parts from this number on
  pub outline_parts : List CoreFunctionTree → CoreFunctionTree → (path : List ℕ) → (part : ℕ) → CoreStmts → List ℕ
  outline_parts functions f path part no_stmts = []
  outline_parts functions f path part (stmt_and s ss) = outline_stmt functions f (part_path path part) s ++ outline_parts functions f path (part + 1) ss

-- ---- functions

abbrev pub parameter_text : CoreParameterTree → List ℕ
parameter_text p = codes " " ++ p.name

abbrev pub heading : CoreFunctionTree → List ℕ
heading f = codes "function " ++ f.name ++ flat_map parameter_text f.parameters ++ codes "\n"

abbrev pub outline_function : List CoreFunctionTree → CoreFunctionTree → List ℕ
outline_function functions f = heading f ++ outline_stmt functions f [] (seq f.body)

abbrev pub outline : CoreUnitTree → List ℕ
outline u = flat_map (outline_function u.functions) u.functions
