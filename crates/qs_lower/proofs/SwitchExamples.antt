-- The linear code of switches, computed from the definition.
use Rattle.std.proofs.Common.{◌≡◌, ℕ, true, List, [], ◌∷◌, Some, None, refl}
use Rattle.qs_memory.specs.declared.operation.Signedness.TheVariants.{Signed}
use Rattle.qs_memory.specs.declared.operation.Comparison.TheVariants.{Equal}
use Rattle.qs_memory.specs.declared.scalar.Scalar.TheVariants as scalars
use Rattle.qs_calls.specs.declared.callee.Callee.TheVariants.{PutChar}
use Rattle.qs_core.specs.declared.labels.CoreLabel.TheVariants.{Case, Default}
use Rattle.qs_core.specs.Trees as core
use Rattle.qs_core.specs.Trees.{CoreExprTree, CoreStmtTree, stmts_of}
use Rattle.qs_tac.specs.Trees.{InstructionTree, move, binary, jump, branch, return}
use Rattle.qs_tac.specs.declared.operands.Operand.{Operand}
use Rattle.qs_tac.specs.declared.operands.Operand.TheVariants.{Temporary, Constant}
use Rattle.qs_tac.specs.declared.operands.Condition.TheVariants.{Compare}
use Rattle.qs_lower.proofs.LowerExamples.{code, int, x, y, add, sets, counts, counted, core_runs, tac_runs, lowers_to_a_fit}

abbrev if_value : (operand : Operand) → (value to : ℕ) → InstructionTree
if_value o n to = branch (Compare Equal Signed o (Constant n)) to

-- switch (x) { case 1: y = 2; break; case 2: return 3; default: x = x + 1; }
in_order :
    code (core.switch x (Case 1 0 ∷ Case 2 2 ∷ Default 3 ∷ []) (stmts_of (sets 1 (int 2) ∷ core.break ∷ core.return (Some (int 3)) ∷ counts ∷ [])) ∷ [])
    ≡ if_value (Temporary 0) 1 3 ∷ if_value (Temporary 0) 2 5 ∷ jump 6 ∷ move 1 (Constant 2) ∷ jump 7 ∷ return (Some (Constant 3)) ∷ counted ∷ return None ∷ []
in_order = refl

-- `default` is tried last wherever it stands, and a break at the end takes no jump
default_first :
    code (core.switch x (Default 0 ∷ Case 1 1 ∷ []) (stmts_of (counts ∷ sets 1 (int 2) ∷ core.break ∷ [])) ∷ [])
    ≡ if_value (Temporary 0) 1 3 ∷ jump 2 ∷ counted ∷ move 1 (Constant 2) ∷ return None ∷ []
default_first = refl

-- a part that is a break alone is never come to
a_break_alone :
    code (core.switch x (Case 1 0 ∷ Default 1 ∷ []) (stmts_of (core.break ∷ counts ∷ [])) ∷ [])
    ≡ if_value (Temporary 0) 1 4 ∷ jump 3 ∷ jump 4 ∷ counted ∷ return None ∷ []
a_break_alone = refl

-- an operand is computed once
a_computed_operand :
    code (core.switch (core.binary add x y) (Case 1 0 ∷ Case 2 0 ∷ []) (stmts_of (counts ∷ [])) ∷ [])
    ≡ binary add 5 (Temporary 0) (Temporary 1) ∷ if_value (Temporary 5) 1 4 ∷ if_value (Temporary 5) 2 4 ∷ jump 5 ∷ counted ∷ return None ∷ []
a_computed_operand = refl

-- and asked where there is no case
nothing_in_it : code (core.switch x [] (stmts_of []) ∷ []) ≡ if_value (Temporary 0) 0 2 ∷ jump 2 ∷ return None ∷ []
nothing_in_it = refl

-- ---- runs are the same, with the arguments 2 and 5

abbrev put : CoreExprTree → CoreStmtTree
put e = core.call None PutChar (e ∷ [])

-- for (x = 0; ; x++) { switch (x) { case 0: .. case 3: .. break; default: .. for (;;) break; case 1: continue; case 4: return y; } putchar(x); }
abbrev with_loops : List CoreStmtTree
with_loops =
    sets 0 (int 0)
    ∷ core.loop
    (core.seq (stmts_of (
    core.switch x (Case 0 0 ∷ Case 3 1 ∷ Default 3 ∷ Case 1 5 ∷ Case 4 6 ∷ [])
    (stmts_of (put (int 7) ∷ put (int 8) ∷ core.break ∷ put (int 9) ∷ core.loop core.break core.skip ∷ core.continue ∷ core.return (Some y) ∷ []))
    ∷ put x
    ∷ [])))
    counts
    ∷ []

with_loops_alike : tac_runs with_loops ≡ core_runs with_loops
with_loops_alike = refl

with_loops_fit : lowers_to_a_fit with_loops ≡ true
with_loops_fit = refl

-- the first of two equal labels
abbrev equal_labels : List CoreStmtTree
equal_labels = core.switch x (Case 2 0 ∷ Case 2 1 ∷ []) (stmts_of (put (int 1) ∷ core.break ∷ put (int 2) ∷ [])) ∷ []

equal_labels_alike : tac_runs equal_labels ≡ core_runs equal_labels
equal_labels_alike = refl

-- a temporary without a value
an_unset_operand : tac_runs (core.switch (core.temporary scalars.Int 0) [] (stmts_of []) ∷ []) ≡ core_runs (core.switch (core.temporary scalars.Int 0) [] (stmts_of []) ∷ [])
an_unset_operand = refl
