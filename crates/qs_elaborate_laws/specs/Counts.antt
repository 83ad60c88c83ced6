-- How many nodes of the source a typed tree stands for, at least. What a statement counts, and an initialiser that is a list or a text of an
-- array, is k: 0 where expressions alone are counted, and 1 where every node is.
use Rattle.std.specs.Prelude.{ℕ, ◌+◌, Bool, true, false, Option, Some, None, if◌then◌else◌, length}
use Rattle.qs_meaning.specs.Typed.{Expr, constant, value, pointer_to, member, called, stepped_after, unary, cast, binary, logical_and, logical_or, conditional, assigned, sequence}
use Rattle.qs_meaning.specs.Typed.{Lvalue, variable, object, Arguments, no_arguments, argument_and, Assignment, set, update}
use Rattle.qs_meaning.specs.Typed.{Effect, nothing, discard, assign, perform, copy, fill, in_order}
use Rattle.qs_meaning.specs.Typed.{Stmt, evaluate, block, switch, case_label, default_label, branch, while_loop, do_loop, for_loop, break, continue, return, return_nothing, Stmts, no_stmts, stmt_and, Function}

-- ---- addresses

-- `*e` is a node beside e, where the address is none of a name, of a member or of an element
abbrev pub indirection : Expr → ℕ
indirection (constant s n) = 1
indirection (value s l) = 1
indirection (pointer_to o) = 0
indirection (member offset a) = 0
indirection (called s f es) = 1
indirection (stepped_after s l operation left back) = 1
indirection (unary operation c a) = 1
indirection (cast c a) = 1
indirection (binary operation order left right a b) = 0
indirection (logical_and a b) = 1
indirection (logical_or a b) = 1
indirection (conditional s a second third b c) = 1
indirection (assigned a) = 1
indirection (sequence a b) = 1

-- the address of an object
abbrev pub is_object : Expr → Bool
is_object (constant s n) = false
is_object (value s l) = false
is_object (pointer_to o) = true
is_object (member offset a) = false
is_object (called s f es) = false
is_object (stepped_after s l operation left back) = false
is_object (unary operation c a) = false
is_object (cast c a) = false
is_object (binary operation order left right a b) = false
is_object (logical_and a b) = false
is_object (logical_or a b) = false
is_object (conditional s a second third b c) = false
is_object (assigned a) = false
is_object (sequence a b) = false

-- the address of an object or of a part of it; a declaration with an initialiser has no expression for it
abbrev pub is_fixed : Expr → Bool
is_fixed (constant s n) = false
is_fixed (value s l) = false
is_fixed (pointer_to o) = true
is_fixed (member offset a) = is_object a
is_fixed (called s f es) = false
is_fixed (stepped_after s l operation left back) = false
is_fixed (unary operation c a) = false
is_fixed (cast c a) = false
is_fixed (binary operation order left right a b) = false
is_fixed (logical_and a b) = false
is_fixed (logical_or a b) = false
is_fixed (conditional s a second third b c) = false
is_fixed (assigned a) = false
is_fixed (sequence a b) = false

-- the 1 of `++a` is no node
abbrev pub is_amount : Expr → Bool
is_amount (constant s n) = true
is_amount (value s l) = false
is_amount (pointer_to o) = false
is_amount (member offset a) = false
is_amount (called s f es) = false
is_amount (stepped_after s l operation left back) = false
is_amount (unary operation c a) = false
is_amount (cast c a) = false
is_amount (binary operation order left right a b) = false
is_amount (logical_and a b) = false
is_amount (logical_or a b) = false
is_amount (conditional s a second third b c) = false
is_amount (assigned a) = false
is_amount (sequence a b) = false

-- ---- expressions

abbrev mutual
  pub nodes : Expr → (k : ℕ) → ℕ
  nodes (constant s n) k = 1
  nodes (value s l) k = lvalue_nodes l k
  nodes (pointer_to o) k = 1
  nodes (member offset a) k = 1 + nodes a k
  nodes (called s f es) k = 1 + arguments_nodes es k
  nodes (stepped_after s l operation left back) k = 1 + lvalue_nodes l k
  nodes (unary operation c a) k = 1 + nodes a k
  nodes (cast c a) k = 1 + nodes a k
  nodes (binary operation order left right a b) k = 1 + nodes a k + nodes b k
  nodes (logical_and a b) k = 1 + nodes a k + nodes b k
  nodes (logical_or a b) k = 1 + nodes a k + nodes b k
  nodes (conditional s a second third b c) k = 1 + nodes a k + nodes b k + nodes c k
  nodes (assigned a) k = 1 + assignment_nodes a k
  nodes (sequence a b) k = effect_nodes a k + nodes b k

  pub lvalue_nodes : Lvalue → (k : ℕ) → ℕ
  lvalue_nodes (variable x) k = 1
  lvalue_nodes (object a) k = nodes a k + indirection a

  pub arguments_nodes : Arguments → (k : ℕ) → ℕ
  arguments_nodes no_arguments k = 0
  arguments_nodes (argument_and c a es) k = nodes a k + arguments_nodes es k

  -- the parts of an assignment
  pub assignment_nodes : Assignment → (k : ℕ) → ℕ
  assignment_nodes (set s l c a) k = lvalue_nodes l k + nodes a k
  assignment_nodes (update s l operation left right back a) k = lvalue_nodes l k + (if is_amount a then 0 else nodes a k)

  -- one whose value is discarded may be an initialiser, which counts the expression alone
  pub discarded_nodes : Assignment → (k : ℕ) → ℕ
  discarded_nodes (set s l c a) k = target_nodes l k + nodes a k
  discarded_nodes (update s l operation left right back a) k = 1 + (lvalue_nodes l k + (if is_amount a then 0 else nodes a k))

  pub target_nodes : Lvalue → (k : ℕ) → ℕ
  target_nodes (variable x) k = 0
  target_nodes (object a) k = if is_fixed a then 0 else nodes a k + indirection a

  pub effect_nodes : Effect → (k : ℕ) → ℕ
  effect_nodes nothing k = 0
  effect_nodes (discard a) k = nodes a k
  effect_nodes (assign a) k = discarded_nodes a k
  effect_nodes (perform f es) k = 1 + arguments_nodes es k
  effect_nodes (copy size alignment a b) k = (if is_fixed a then 0 else nodes a k + indirection a) + (nodes b k + indirection b)
  effect_nodes (fill blank a) k = k + (if is_object a then 0 else nodes a k + indirection a)
  effect_nodes (in_order a b) k = effect_nodes a k + effect_nodes b k

-- ---- statements: those that declare or evaluate count what they evaluate

abbrev pub option_nodes : Option Expr → (k : ℕ) → ℕ
option_nodes None k = 0
option_nodes (Some e) k = nodes e k

abbrev mutual
  pub statement_nodes : Stmt → (k : ℕ) → ℕ
  statement_nodes (evaluate a) k = effect_nodes a k
  statement_nodes (block ss) k = statements_nodes ss k
  statement_nodes (switch c e ss) k = k + nodes e k + statements_nodes ss k
  statement_nodes (case_label n) k = k
  statement_nodes default_label k = k
  statement_nodes (branch e a b) k = k + nodes e k + statement_nodes a k + statement_nodes b k
  statement_nodes (while_loop e a) k = k + nodes e k + statement_nodes a k
  statement_nodes (do_loop a e) k = k + statement_nodes a k + nodes e k
  statement_nodes (for_loop start e step a) k = k + effect_nodes start k + option_nodes e k + effect_nodes step k + statement_nodes a k
  statement_nodes break k = k
  statement_nodes continue k = k
  statement_nodes (return c e) k = k + nodes e k
  statement_nodes return_nothing k = k

  pub statements_nodes : Stmts → (k : ℕ) → ℕ
  statements_nodes no_stmts k = 0
  statements_nodes (stmt_and s ss) k = statement_nodes s k + statements_nodes ss k

-- ---- functions

-- the expressions in a body
abbrev pub expressions_in : Function → ℕ
expressions_in g = statements_nodes g.body 0

-- the header, the parameters, and the nodes of the body
abbrev pub nodes_in : Function → ℕ
nodes_in g = 1 + length g.parameters + statements_nodes g.body 1
