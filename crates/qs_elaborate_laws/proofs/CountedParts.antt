-- Where statements count nothing, their typed trees count at most the expressions in them.
use Rattle.std.proofs.Common.{◌≡◌, ◌≤◌, ℕ, ◌+◌, false, List, [], ◌∷◌, Option, Some, None, sym, subst, arith}
use Rattle.std.proofs.lemmas.Option.{same_Some}
use Rattle.qs_syntax.specs.declared.nodes.Node.{Node}
use Rattle.qs_syntax.specs.declared.types.Base.{Base}
use Rattle.qs_syntax.specs.Trees.{ExprTree, InitialiserTree, VariableTree, StartTree, no_start, start_expression, start_declaration, StmtTree, empty, expression, declaration, block, switch, case_label, default_label, branch, while_loop, do_loop, for_loop, break, continue, return, Stmts, no_stmts, stmt_and, Else, no_else, else_by}
use Rattle.qs_syntax.specs.Nodes.{all_count, option_count, expr_count}
use Rattle.qs_memory.proofs.Options.{followed}
use Rattle.qs_types.specs.Types.{TypeTree}
use Rattle.qs_types.specs.Rules.{breaks_one, faults_of}
use Rattle.qs_types.specs.Contexts.{inner_scope, inside_loop}
use Rattle.qs_types.specs.Constants.{constant_of}
use Rattle.qs_types.specs.Expressions.{type_of}
use Rattle.qs_types.specs.Declarations.{variable_declared}
use Rattle.qs_types.specs.InitialiserRules.{initialiser_tests}
use Rattle.qs_types.specs.StatementRules.{after_variable, variable_faults, option_initialiser_faults, variables_faults, condition_tests, condition_faults, option_condition_tests, option_typed, return_tests, switch_faults, start_faults, after_statement, for_tests, for_faults, statement_faults, statements_faults, else_faults}
use Rattle.qs_types.specs.StatementRules as rule_starts
use Rattle.qs_meaning.specs.Typed.{Expr, Effect, Stmt}
use Rattle.qs_meaning.specs.Typed as typed_trees
use Rattle.qs_meaning.specs.Forms.{TypedExpr, value_in_use}
use Rattle.qs_meaning.specs.Names.{Scope, within, local_lvalue}
use Rattle.qs_meaning.specs.Expressions.{typed}
use Rattle.qs_meaning.specs.Statements.{initialised, behind_variable, variable_typed, variables_typed, effect_typed, option_effect, condition_typed, option_condition, start_typed, return_typed, inner, in_switch, loop_body, in_for, statement_typed, statements_typed, else_typed}
use Rattle.qs_meaning.proofs.FaultlessExpressions.{none_left, none_right, unbroken}
use Rattle.qs_elaborate_laws.specs.Counts.{nodes, effect_nodes, option_nodes, statement_nodes, statements_nodes}
use Rattle.qs_elaborate_laws.specs.ExpressionCounts.{initialiser_expressions, variable_expressions, start_expressions, stmt_expressions, stmts_expressions, else_expressions}
use Rattle.qs_elaborate_laws.proofs.CountedLess.{nodes_less, effect_less}
use Rattle.qs_elaborate_laws.proofs.CountedInitialisers.{local_parts, local_typed, kept_fit}
use Rattle.qs_elaborate_laws.proofs.CountedStatements.{initialiser_unbroken, initialiser_faultless, effect_counted, option_effect_counted, condition_counted, option_condition_counted, condition_kept, operand_counted, return_counted, start_known, option_known, if_tests}

effect_as : (n : ℕ) (x set : Effect) → Some x ≡ Some set → effect_nodes x 0 ≤ n → effect_nodes set 0 ≤ n
effect_as n x set e h = subst (λ z. effect_nodes z 0 ≤ n) (same_Some x set e) h

statement_as : (n : ℕ) (x a : Stmt) → Some x ≡ Some a → statement_nodes x 0 ≤ n → statement_nodes a 0 ≤ n
statement_as n x a e h = subst (λ z. statement_nodes z 0 ≤ n) (same_Some x a e) h

-- ---- variables

initialised_parts : (s : Scope) (node : ℕ) (t : TypeTree) (init : Option InitialiserTree) (set : Effect) → breaks_one (initialiser_tests false s.context (Some t) init) ≡ false
    → option_initialiser_faults false s.context (Some t) init ≡ [] → initialised s node t init ≡ Some set → effect_nodes set 0 ≤ option_count initialiser_expressions init
initialised_parts s node t None set tests faults q = effect_as 0 _ set q (omega arith)
initialised_parts s node t (Some init) set tests faults q =
    local_parts s t node init set (kept_fit s.context t init (local_typed s t (local_lvalue s.locals node) init set q) tests) faults q

variables_parts : (vs : List VariableTree) (s : Scope) (base : Base) (set : Effect) → variables_faults false s.context base vs ≡ [] → variables_typed s base vs ≡ Some set
    → effect_nodes set 0 ≤ all_count variable_expressions vs
variables_parts [] s base set faults q = effect_as 0 _ set q (omega arith)
variables_parts (v ∷ vs) s base set faults q =
    let after = after_variable false s.context base v in
    let now = followed (variable_typed s base v) _ set q in
    let later = followed (variables_typed (behind_variable s base v) base vs) _ set now.then in
    let t = followed (variable_declared s.context base v).type _ now.value now.first in
    let own = none_left (variable_faults false s.context after base v) (variables_faults false after base vs) faults in
    let tests = subst (λ o. breaks_one (initialiser_tests false after o v.initialiser) ≡ false) t.first (initialiser_unbroken s.context after base v own) in
    let initialiser = subst (λ o. option_initialiser_faults false after o v.initialiser ≡ []) t.first (initialiser_faultless s.context after base v own) in
    let x = initialised_parts (behind_variable s base v) v.declarator.node.id t.value v.initialiser now.value tests initialiser t.then in
    let y = variables_parts vs (behind_variable s base v) base later.value (none_right (variable_faults false s.context after base v) _ faults) later.first in
    effect_as (variable_expressions v + all_count variable_expressions vs) _ set later.then (omega arith)

-- ---- expressions in statements

effect_parts : (s : Scope) (e : ExprTree) (set : Effect) → effect_typed s e ≡ Some set → effect_nodes set 0 ≤ expr_count e
effect_parts s e set q = let h = effect_counted s e set q in let i = effect_less set in omega arith

option_effect_parts : (s : Scope) (e : Option ExprTree) (set : Effect) → option_effect s e ≡ Some set → effect_nodes set 0 ≤ option_count expr_count e
option_effect_parts s e set q = let h = option_effect_counted s e set q in let i = effect_less set in omega arith

condition_parts : (s : Scope) (e : ExprTree) (x : Expr) → breaks_one (condition_tests (type_of s.context e)) ≡ false → condition_typed s e ≡ Some x → nodes x 0 ≤ expr_count e
condition_parts s e x tests q = let h = condition_counted s e x tests q in let i = nodes_less x in omega arith

option_less : (x : Option Expr) → option_nodes x 0 ≤ option_nodes x 1
option_less None = omega arith
option_less (Some e) = nodes_less e

return_parts : (s : Scope) (node : Node) (e : Option ExprTree) (a : Stmt) → faults_of node.id (return_tests s.context s.context.result e) ≡ [] → return_typed s e ≡ Some a
    → statement_nodes a 0 ≤ option_count expr_count e
return_parts s node None a f q = statement_as 0 _ a q (omega arith)
return_parts s node (Some e) a f q =
    let t = followed s.context.result _ a q in
    let x = followed (typed s e) _ a t.then in
    let h = return_counted s node (Some e) a f q in
    let v : 1 + nodes (value_in_use x.value) 1 ≤ 1 + expr_count e = subst (λ z. statement_nodes z 1 ≤ 1 + expr_count e) (sym (same_Some _ a x.then)) h in
    let i = nodes_less (value_in_use x.value) in
    statement_as (expr_count e) _ a x.then (omega arith)

operand_parts : (s : Scope) (node : Node) (e : ExprTree) (a : TypedExpr) → switch_faults s.context node e ≡ [] → typed s e ≡ Some a → nodes (value_in_use a) 0 ≤ expr_count e
operand_parts s node e a f q = let h = operand_counted s node e a f q in let i = nodes_less (value_in_use a) in omega arith

start_parts : (s : Scope) (start : StartTree) (set : Effect) → start_faults s.context start ≡ [] → start_typed s start ≡ Some set → effect_nodes set 0 ≤ start_expressions start
start_parts s no_start set f q = effect_as 0 _ set q (omega arith)
start_parts s (start_expression e) set f q = effect_parts s e set q
start_parts s (start_declaration d) set f q = variables_parts d.variables s d.base set f q

-- ---- statements

mutual
  statement_parts : (t : StmtTree) (s : Scope) (a : Stmt) → statement_faults s.context t ≡ [] → statement_typed s t ≡ Some a → statement_nodes a 0 ≤ stmt_expressions t
  statement_parts (empty node) s a f q = statement_as 0 _ a q (omega arith)
  statement_parts (expression node e) s a f q =
      let set = followed (effect_typed s e) _ a q in
      let x = effect_parts s e set.value set.first in
      statement_as (expr_count e) _ a set.then (omega arith)
  statement_parts (declaration d) s a f q =
      let set = followed (variables_typed s d.base d.variables) _ a q in
      statement_as (all_count variable_expressions d.variables) _ a set.then (variables_parts d.variables s d.base set.value f set.first)
  statement_parts (block ss) s a f q =
      let rest = followed (statements_typed (inner s) ss) _ a q in
      statement_as (stmts_expressions ss) _ a rest.then (statements_parts ss (inner s) rest.value f rest.first)
  statement_parts (switch node e ss) s a f q =
      let x = followed (typed s e) _ a q in
      let y = followed (statements_typed (in_switch s e) ss) _ a x.then in
      let i = operand_parts s node e x.value (none_left _ _ f) x.first in
      let j = statements_parts ss (in_switch s e) y.value (none_right (switch_faults s.context node e) _ f) y.first in
      statement_as (expr_count e + stmts_expressions ss) _ a y.then (omega arith)
  statement_parts (case_label node e) s a f q =
      let n = followed (constant_of s.context e) _ a q in statement_as (expr_count e) _ a n.then (omega arith)
  statement_parts (default_label node) s a f q = statement_as 0 _ a q (omega arith)
  statement_parts (branch node e t r) s a f q =
      let x = followed (condition_typed s e) _ a q in
      let y = followed (statement_typed (inner s) t) _ a x.then in
      let z = followed (else_typed s r) _ a y.then in
      let parts = none_right (condition_faults s.context node e) _ f in
      let i = condition_parts s e x.value (condition_kept s.context node e (none_left _ _ f)) x.first in
      let j = statement_parts t (inner s) y.value (none_left _ _ parts) y.first in
      let k = else_parts r s z.value (none_right (statement_faults (inner_scope s.context) t) _ parts) z.first in
      statement_as (expr_count e + stmt_expressions t + else_expressions r) _ a z.then (omega arith)
  statement_parts (while_loop node e t) s a f q =
      let x = followed (condition_typed s e) _ a q in
      let y = followed (statement_typed (loop_body s) t) _ a x.then in
      let i = condition_parts s e x.value (condition_kept s.context node e (none_left _ _ f)) x.first in
      let j = statement_parts t (loop_body s) y.value (none_right (condition_faults s.context node e) _ f) y.first in
      statement_as (expr_count e + stmt_expressions t) _ a y.then (omega arith)
  statement_parts (do_loop node t e) s a f q =
      let y = followed (statement_typed (loop_body s) t) _ a q in
      let x = followed (condition_typed s e) _ a y.then in
      let j = statement_parts t (loop_body s) y.value (none_left _ _ f) y.first in
      let i = condition_parts s e x.value (condition_kept s.context node e (none_right (statement_faults (inside_loop (inner_scope s.context)) t) _ f)) x.first in
      statement_as (stmt_expressions t + expr_count e) _ a x.then (omega arith)
  statement_parts (for_loop node start e u t) s a f q =
      let behind = in_for s start in
      let w = followed (start_typed (inner s) start) _ a q in
      let x = followed (option_condition behind e) _ a w.then in
      let y = followed (option_effect behind u) _ a x.then in
      let z = followed (statement_typed (loop_body behind) t) _ a y.then in
      let parts = none_right (start_faults (inner_scope s.context) start) _ f in
      let body = statement_faults (inside_loop (inner_scope behind.context)) t in
      let tests = unbroken node.id (for_tests behind.context start e u)
      (none_left (faults_of node.id (for_tests behind.context start e u)) _ (none_left (for_faults behind.context start node e u) body parts)) in
      let test = if_tests (rule_starts.start_typed behind.context start) (option_typed behind.context u) (option_condition_tests behind.context e)
      (start_known s start w.value w.first) (option_known behind u y.value y.first) tests in
      let h = start_parts (inner s) start w.value (none_left _ _ f) w.first in
      let i = option_condition_counted behind e x.value test x.first in
      let less = option_less x.value in
      let j = option_effect_parts behind u y.value y.first in
      let k = statement_parts t (loop_body behind) z.value (none_right (for_faults behind.context start node e u) body parts) z.first in
      statement_as (start_expressions start + option_count expr_count e + option_count expr_count u + stmt_expressions t) _ a z.then (omega arith)
  statement_parts (break node) s a f q = statement_as 0 _ a q (omega arith)
  statement_parts (continue node) s a f q = statement_as 0 _ a q (omega arith)
  statement_parts (return node e) s a f q = return_parts s node e a (none_left (faults_of node.id (return_tests s.context s.context.result e)) _ f) q

  pub statements_parts : (ss : Stmts) (s : Scope) (list : typed_trees.Stmts) → statements_faults s.context ss ≡ [] → statements_typed s ss ≡ Some list
      → statements_nodes list 0 ≤ stmts_expressions ss
  statements_parts no_stmts s list f q = subst (λ z. statements_nodes z 0 ≤ 0) (same_Some _ list q) (omega arith)
  statements_parts (stmt_and t ts) s list f q =
      let after = within s (after_statement s.context t) in
      let x = followed (statement_typed s t) _ list q in
      let y = followed (statements_typed after ts) _ list x.then in
      let i = statement_parts t s x.value (none_left (statement_faults s.context t) (statements_faults after.context ts) f) x.first in
      let j = statements_parts ts after y.value (none_right (statement_faults s.context t) (statements_faults after.context ts) f) y.first in
      subst (λ z. statements_nodes z 0 ≤ stmt_expressions t + stmts_expressions ts) (same_Some _ list y.then) (omega arith)

  else_parts : (r : Else) (s : Scope) (a : Stmt) → else_faults s.context r ≡ [] → else_typed s r ≡ Some a → statement_nodes a 0 ≤ else_expressions r
  else_parts no_else s a f q = statement_as 0 _ a q (omega arith)
  else_parts (else_by t) s a f q = statement_parts t (inner s) a f q
