-- The most arguments of one call in a typed tree.
use Rattle.std.specs.Prelude.{ℕ, ◌+◌, max, Option, Some, None}
use Rattle.qs_meaning.specs.Typed.{Expr, constant, value, pointer_to, member, called, stepped_after, unary, cast, binary, logical_and, logical_or, conditional, assigned, sequence}
use Rattle.qs_meaning.specs.Typed.{Lvalue, variable, object, Arguments, no_arguments, argument_and, Assignment, set, update}
use Rattle.qs_meaning.specs.Typed.{Effect, nothing, discard, assign, perform, copy, fill, in_order}
use Rattle.qs_meaning.specs.Typed.{Stmt, evaluate, block, switch, case_label, default_label, branch, while_loop, do_loop, for_loop, break, continue, return, return_nothing, Stmts, no_stmts, stmt_and}

abbrev pub argument_number : Arguments → ℕ
argument_number no_arguments = 0
argument_number (argument_and c a es) = 1 + argument_number es

abbrev mutual
  pub expression_arguments : Expr → ℕ
  expression_arguments (constant s n) = 0
  expression_arguments (value s l) = lvalue_arguments l
  expression_arguments (pointer_to o) = 0
  expression_arguments (member offset a) = expression_arguments a
  expression_arguments (called s f es) = max (argument_number es) (within_arguments es)
  expression_arguments (stepped_after s l operation left back) = lvalue_arguments l
  expression_arguments (unary operation c a) = expression_arguments a
  expression_arguments (cast c a) = expression_arguments a
  expression_arguments (binary operation order left right a b) = max (expression_arguments a) (expression_arguments b)
  expression_arguments (logical_and a b) = max (expression_arguments a) (expression_arguments b)
  expression_arguments (logical_or a b) = max (expression_arguments a) (expression_arguments b)
  expression_arguments (conditional s a second third b c) = max (expression_arguments a) (max (expression_arguments b) (expression_arguments c))
  expression_arguments (assigned a) = assignment_arguments a
  expression_arguments (sequence a b) = max (effect_arguments a) (expression_arguments b)

  pub lvalue_arguments : Lvalue → ℕ
  lvalue_arguments (variable x) = 0
  lvalue_arguments (object a) = expression_arguments a

  pub within_arguments : Arguments → ℕ
  within_arguments no_arguments = 0
  within_arguments (argument_and c a es) = max (expression_arguments a) (within_arguments es)

  pub assignment_arguments : Assignment → ℕ
  assignment_arguments (set s l c a) = max (lvalue_arguments l) (expression_arguments a)
  assignment_arguments (update s l operation left right back a) = max (lvalue_arguments l) (expression_arguments a)

  pub effect_arguments : Effect → ℕ
  effect_arguments nothing = 0
  effect_arguments (discard a) = expression_arguments a
  effect_arguments (assign a) = assignment_arguments a
  effect_arguments (perform f es) = max (argument_number es) (within_arguments es)
  effect_arguments (copy size alignment a b) = max (expression_arguments a) (expression_arguments b)
  effect_arguments (fill blank a) = expression_arguments a
  effect_arguments (in_order a b) = max (effect_arguments a) (effect_arguments b)

-- ---- statements

abbrev pub condition_arguments : Option Expr → ℕ
condition_arguments None = 0
condition_arguments (Some e) = expression_arguments e

abbrev mutual
  pub statement_arguments : Stmt → ℕ
  statement_arguments (evaluate a) = effect_arguments a
  statement_arguments (block ss) = statements_arguments ss
  statement_arguments (switch c e ss) = max (expression_arguments e) (statements_arguments ss)
  statement_arguments (case_label n) = 0
  statement_arguments default_label = 0
  statement_arguments (branch e a b) = max (expression_arguments e) (max (statement_arguments a) (statement_arguments b))
  statement_arguments (while_loop e a) = max (expression_arguments e) (statement_arguments a)
  statement_arguments (do_loop a e) = max (statement_arguments a) (expression_arguments e)
  statement_arguments (for_loop start e step a) =
      max (effect_arguments start) (max (condition_arguments e) (max (effect_arguments step) (statement_arguments a)))
  statement_arguments break = 0
  statement_arguments continue = 0
  statement_arguments (return c e) = expression_arguments e
  statement_arguments return_nothing = 0

  pub statements_arguments : Stmts → ℕ
  statements_arguments no_stmts = 0
  statements_arguments (stmt_and s ss) = max (statement_arguments s) (statements_arguments ss)
