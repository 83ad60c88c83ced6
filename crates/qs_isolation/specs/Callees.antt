-- The functions with a body that a statement calls, by their numbers (C11 6.5.2.2). The typed tree has no operand of `sizeof` and no constant
-- expression, so nothing that stands there is called (6.5.3.4p2, 6.6).
use Rattle.std.specs.Prelude.{ℕ, List, [], ◌∷◌, ◌++◌, Option, Some, None}
use Rattle.qs_calls.specs.declared.callee.Callee.{Callee}
use Rattle.qs_calls.specs.declared.callee.Callee.TheVariants.{Function, PutChar, GetChar}
use Rattle.qs_meaning.specs.Typed.{Expr, constant, value, pointer_to, member, called, stepped_after, unary, cast, binary, logical_and, logical_or, conditional, assigned, sequence, Lvalue, variable, object, Arguments, no_arguments, argument_and, Assignment, set, update, Effect, nothing, discard, assign, perform, copy, fill, in_order, Stmt, evaluate, block, branch, switch, case_label, default_label, while_loop, do_loop, for_loop, break, continue, return, return_nothing, Stmts, no_stmts, stmt_and}

-- putchar and getchar have no body
abbrev pub number_of : Callee → List ℕ
number_of (Function f) = f.0 ∷ []
number_of PutChar = []
number_of GetChar = []

-- ---- expressions (6.5)

abbrev mutual
  pub expression_callees : Expr → List ℕ
  expression_callees (constant s n) = []
  expression_callees (value s l) = lvalue_callees l
  expression_callees (pointer_to o) = []
  expression_callees (member offset a) = expression_callees a
  expression_callees (called s f es) = number_of f ++ arguments_callees es
  expression_callees (stepped_after s l operation left back) = lvalue_callees l
  expression_callees (unary operation c a) = expression_callees a
  expression_callees (cast c a) = expression_callees a
  expression_callees (binary operation order left right a b) = expression_callees a ++ expression_callees b
  expression_callees (logical_and a b) = expression_callees a ++ expression_callees b
  expression_callees (logical_or a b) = expression_callees a ++ expression_callees b
  expression_callees (conditional s a second third b c) = expression_callees a ++ (expression_callees b ++ expression_callees c)
  expression_callees (assigned a) = assignment_callees a
  expression_callees (sequence a b) = effect_callees a ++ expression_callees b

  pub lvalue_callees : Lvalue → List ℕ
  lvalue_callees (variable x) = []
  lvalue_callees (object a) = expression_callees a

  pub arguments_callees : Arguments → List ℕ
  arguments_callees no_arguments = []
  arguments_callees (argument_and c a es) = expression_callees a ++ arguments_callees es

  pub assignment_callees : Assignment → List ℕ
  assignment_callees (set s l c a) = lvalue_callees l ++ expression_callees a
  assignment_callees (update s l operation left right back a) = lvalue_callees l ++ expression_callees a

  pub effect_callees : Effect → List ℕ
  effect_callees nothing = []
  effect_callees (discard a) = expression_callees a
  effect_callees (assign a) = assignment_callees a
  effect_callees (perform f es) = number_of f ++ arguments_callees es
  effect_callees (copy size alignment a b) = expression_callees a ++ expression_callees b
  effect_callees (fill blank a) = expression_callees a
  effect_callees (in_order a b) = effect_callees a ++ effect_callees b

-- ---- statements (6.8)

abbrev pub option_callees : Option Expr → List ℕ
option_callees None = []
option_callees (Some e) = expression_callees e

abbrev mutual
  pub statement_callees : Stmt → List ℕ
  statement_callees (evaluate a) = effect_callees a
  statement_callees (block ss) = statements_callees ss
  statement_callees (branch e a b) = expression_callees e ++ (statement_callees a ++ statement_callees b)
  statement_callees (switch c e ss) = expression_callees e ++ statements_callees ss
  statement_callees (case_label n) = []
  statement_callees default_label = []
  statement_callees (while_loop e a) = expression_callees e ++ statement_callees a
  statement_callees (do_loop a e) = statement_callees a ++ expression_callees e
  statement_callees (for_loop start e step a) =
      effect_callees start ++ (option_callees e ++ (effect_callees step ++ statement_callees a))
  statement_callees break = []
  statement_callees continue = []
  statement_callees (return c e) = expression_callees e
  statement_callees return_nothing = []

  pub statements_callees : Stmts → List ℕ
  statements_callees no_stmts = []
  statements_callees (stmt_and s ss) = statement_callees s ++ statements_callees ss
