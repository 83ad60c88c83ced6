-- How high the typed tree is. Of expressions only an operator between two operands is higher than its parts, since it alone keeps the
-- value of one operand while another is computed, and a choice, which may be a conditional in core; of statements those that choose or
-- repeat.
use Rattle.std.specs.Prelude.{ℕ, ◌+◌, max, Option, Some, None}
use Rattle.qs_meaning.specs.Typed.{Expr, constant, value, pointer_to, member, called, stepped_after, unary, cast, binary, logical_and, logical_or, conditional, assigned, sequence}
use Rattle.qs_meaning.specs.Typed.{Lvalue, variable, object, Arguments, no_arguments, argument_and, Assignment, set, update}
use Rattle.qs_meaning.specs.Typed.{Effect, nothing, discard, assign, perform, copy, fill, in_order}
use Rattle.qs_meaning.specs.Typed.{Stmt, evaluate, block, switch, case_label, default_label, branch, while_loop, do_loop, for_loop, break, continue, return, return_nothing, Stmts, no_stmts, stmt_and}

abbrev mutual
  pub height : Expr → ℕ
  height (constant s n) = 0
  height (value s l) = lvalue_height l
  height (pointer_to o) = 0
  height (member offset a) = height a
  height (called s f es) = arguments_height es
  height (stepped_after s l operation left back) = lvalue_height l
  height (unary operation c a) = height a
  height (cast c a) = height a
  height (binary operation order left right a b) = 1 + max (height a) (height b)
  height (logical_and a b) = 1 + max (height a) (height b)
  height (logical_or a b) = 1 + max (height a) (height b)
  height (conditional s a second third b c) = 1 + max (height a) (max (height b) (height c))
  height (assigned a) = assignment_height a
  height (sequence a b) = max (effect_height a) (height b)

  pub lvalue_height : Lvalue → ℕ
  lvalue_height (variable x) = 0
  lvalue_height (object a) = height a

  pub arguments_height : Arguments → ℕ
  arguments_height no_arguments = 0
  arguments_height (argument_and c a es) = max (height a) (arguments_height es)

  -- `op=` has an operation of the value that stands there and the right side
  pub assignment_height : Assignment → ℕ
  assignment_height (set s l c a) = max (lvalue_height l) (height a)
  assignment_height (update s l operation left right back a) = 1 + max (lvalue_height l) (height a)

  pub effect_height : Effect → ℕ
  effect_height nothing = 0
  effect_height (discard a) = height a
  effect_height (assign a) = assignment_height a
  effect_height (perform f es) = arguments_height es
  effect_height (copy size alignment a b) = max (height a) (height b)
  effect_height (fill blank a) = height a
  effect_height (in_order a b) = max (effect_height a) (effect_height b)

-- ---- statements

abbrev pub condition_height : Option Expr → ℕ
condition_height None = 0
condition_height (Some e) = height e

abbrev mutual
  pub statement_height : Stmt → ℕ
  statement_height (evaluate a) = effect_height a
  statement_height (block ss) = statements_height ss
  statement_height (switch c e ss) = 1 + max (height e) (statements_height ss)
  statement_height (case_label n) = 0
  statement_height default_label = 0
  statement_height (branch e a b) = 1 + max (height e) (max (statement_height a) (statement_height b))
  statement_height (while_loop e a) = 1 + max (height e) (statement_height a)
  statement_height (do_loop a e) = 1 + max (statement_height a) (height e)
  statement_height (for_loop start e step a) =
      1 + max (effect_height start) (max (condition_height e) (max (effect_height step) (statement_height a)))
  statement_height break = 0
  statement_height continue = 0
  statement_height (return c e) = height e
  statement_height return_nothing = 0

  pub statements_height : Stmts → ℕ
  statements_height no_stmts = 0
  statements_height (stmt_and s ss) = max (statement_height s) (statements_height ss)
