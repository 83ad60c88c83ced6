-- The typed tree of a statement (C11 6.8) and of a declaration in a block (6.7).
use Rattle.std.specs.Prelude.{ℕ, false, List, [], ◌∷◌, Option, Some, None}
use Rattle.qs_syntax.specs.declared.types.Base.{Base}
use Rattle.qs_syntax.specs.Trees.{ExprTree, InitialiserTree, VariableTree, StartTree, no_start, start_expression, start_declaration, StmtTree, Else, no_else, else_by}
use Rattle.qs_syntax.specs.Trees as trees
use Rattle.qs_types.specs.Types.{TypeTree}
use Rattle.qs_memory.specs.Partial.{◌>>=◌}
use Rattle.qs_types.specs.Constants.{constant_of}
use Rattle.qs_types.specs.Conversions.{promoted}
use Rattle.qs_types.specs.Contexts.{inner_scope, inside_loop}
use Rattle.qs_types.specs.Declarations.{variable_declared}
use Rattle.qs_types.specs.StatementRules.{after_variable, switch_context, after_statement, for_context}
use Rattle.qs_meaning.specs.Typed.{Expr, Effect, nothing, in_order, Stmt, evaluate, block, branch, switch, case_label, default_label, while_loop, do_loop, for_loop, break, continue, return, return_nothing, Stmts, no_stmts, stmt_and}
use Rattle.qs_meaning.specs.Conversions.{conversion}
use Rattle.qs_meaning.specs.Forms.{lvalue, type_in_use, value_in_use, effect_in_use}
use Rattle.qs_meaning.specs.Names.{Scope, within, local_lvalue}
use Rattle.qs_meaning.specs.Expressions.{typed}
use Rattle.qs_meaning.specs.Initialisers.{local_set}

-- ---- declarations of a block (6.7, 6.8.2)

-- A local lives as long as its call does and keeps its value, where C11 ends its life with its block and takes the value away at each
-- declaration (6.2.4p6). So a declaration without an initialiser does nothing.
abbrev pub initialised : Scope → (node : ℕ) → TypeTree → Option InitialiserTree → Option Effect
initialised s node t None = Some nothing
initialised s node t (Some i) = local_set s (record { type = t; form = lvalue (local_lvalue s.locals node) }) i

-- 6.2.1p7: a variable is in scope from its declarator on, so in its own initialiser too
abbrev pub behind_variable : Scope → Base → VariableTree → Scope
behind_variable s base v = within s (after_variable false s.context base v)

abbrev pub variable_typed : Scope → Base → VariableTree → Option Effect
variable_typed s base v =
    (variable_declared s.context base v).type >>= λ t. initialised (behind_variable s base v) v.declarator.node.id t v.initialiser

abbrev pub variables_typed : Scope → Base → List VariableTree → Option Effect
variables_typed s base [] = Some nothing
variables_typed s base (v ∷ vs) =
    variable_typed s base v >>= λ now. variables_typed (behind_variable s base v) base vs >>= λ later. Some (in_order now later)

-- ---- expressions in statements

-- 6.8.3p2: an expression is evaluated for its effect
abbrev pub effect_typed : Scope → ExprTree → Option Effect
effect_typed s e = typed s e >>= λ a. Some (effect_in_use a)

abbrev pub option_effect : Scope → Option ExprTree → Option Effect
option_effect s None = Some nothing
option_effect s (Some e) = effect_typed s e

-- 6.8.4.1p2, 6.8.5p4: a condition is compared with 0
abbrev pub condition_typed : Scope → ExprTree → Option Expr
condition_typed s e = typed s e >>= λ a. Some (value_in_use a)

abbrev pub option_condition : Scope → Option ExprTree → Option (Option Expr)
option_condition s None = Some None
option_condition s (Some e) = condition_typed s e >>= λ c. Some (Some c)

abbrev pub start_typed : Scope → StartTree → Option Effect
start_typed s no_start = Some nothing
start_typed s (start_expression e) = effect_typed s e
start_typed s (start_declaration d) = variables_typed s d.base d.variables

-- 6.8.6.4p3: the value is converted to the type of the result
abbrev pub return_typed : Scope → Option ExprTree → Option Stmt
return_typed s None = Some return_nothing
return_typed s (Some e) = s.context.result >>= λ t. typed s e >>= λ a. Some (return (conversion (type_in_use a) t) (value_in_use a))

-- ---- labels (6.8.1)

-- 6.8.4.2p5: the value is converted to the promoted type of the operand. That is int or unsigned, and in both it is the same 32 bits.
abbrev pub case_typed : Scope → ExprTree → Option Stmt
case_typed s e = constant_of s.context e >>= λ n. Some (case_label n)

-- ---- statements

-- 6.8.2, 6.8.4p3, 6.8.5p5: blocks, the statements that are parts of others, and a `for` are scopes
abbrev pub inner : Scope → Scope
inner s = within s (inner_scope s.context)

-- 6.8.4p3, 6.8.4.2p2: what stands in a switch with this operand
abbrev pub in_switch : Scope → ExprTree → Scope
in_switch s operand = within s (switch_context s.context operand)

abbrev pub loop_body : Scope → Scope
loop_body s = within s (inside_loop (inner_scope s.context))

-- 6.8.5.3p1: what the first part of a `for` declares is known in the others
abbrev pub in_for : Scope → StartTree → Scope
in_for s start = within s (for_context s.context start)

abbrev mutual
  pub statement_typed : Scope → StmtTree → Option Stmt
  statement_typed s (trees.block ss) = statements_typed (inner s) ss >>= λ b. Some (block b)
  statement_typed s (trees.declaration d) = variables_typed s d.base d.variables >>= λ a. Some (evaluate a)
  statement_typed s (trees.expression node e) = effect_typed s e >>= λ a. Some (evaluate a)
  statement_typed s (trees.empty node) = Some (evaluate nothing)
  statement_typed s (trees.branch node e t r) =
      condition_typed s e >>= λ c. statement_typed (inner s) t >>= λ a. else_typed s r >>= λ b. Some (branch c a b)
  -- 6.8.4.2p5: the integer promotions are performed on the operand
  statement_typed s (trees.switch node e ts) =
      typed s e >>= λ a. statements_typed (in_switch s e) ts >>= λ b.
      Some (switch (conversion (type_in_use a) (promoted (type_in_use a))) (value_in_use a) b)
  statement_typed s (trees.case_label node e) = case_typed s e
  statement_typed s (trees.default_label node) = Some default_label
  statement_typed s (trees.while_loop node e t) = condition_typed s e >>= λ c. statement_typed (loop_body s) t >>= λ b. Some (while_loop c b)
  statement_typed s (trees.do_loop node t e) = statement_typed (loop_body s) t >>= λ b. condition_typed s e >>= λ c. Some (do_loop b c)
  statement_typed s (trees.for_loop node start e u t) =
      start_typed (inner s) start >>= λ a. option_condition (in_for s start) e >>= λ c.
      option_effect (in_for s start) u >>= λ b. statement_typed (loop_body (in_for s start)) t >>= λ d. Some (for_loop a c b d)
  statement_typed s (trees.break node) = Some break
  statement_typed s (trees.continue node) = Some continue
  statement_typed s (trees.return node e) = return_typed s e

  pub statements_typed : Scope → trees.Stmts → Option Stmts
  statements_typed s trees.no_stmts = Some no_stmts
  statements_typed s (trees.stmt_and t ts) =
      statement_typed s t >>= λ a. statements_typed (within s (after_statement s.context t)) ts >>= λ b. Some (stmt_and a b)

  pub else_typed : Scope → Else → Option Stmt
  else_typed s no_else = Some (evaluate nothing)
  else_typed s (else_by t) = statement_typed (inner s) t
