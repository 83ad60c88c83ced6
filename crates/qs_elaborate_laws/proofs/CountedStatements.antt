-- The typed trees of statements count at most the nodes of the statements.
use Rattle.std.proofs.Common.{◌≡◌, ◌≤◌, ℕ, ◌+◌, Bool, true, false, not, ◌&&◌, List, [], ◌∷◌, ◌++◌, Option, Some, None, is_some, refl, sym, ap, ◌∙◌, subst, arith, if◌then◌else◌}
use Rattle.std.specs.Cmp.{second_so}
use Rattle.std.proofs.lemmas.Option.{same_Some}
use Rattle.qs_syntax.specs.declared.nodes.Node.{Node}
use Rattle.qs_syntax.specs.declared.types.Base.{Base}
use Rattle.qs_syntax.specs.Trees.{ExprTree, InitialiserTree, VariableTree, StartTree, no_start, start_expression, start_declaration, StmtTree, empty, expression, declaration, block, switch, case_label, default_label, branch, while_loop, do_loop, for_loop, break, continue, return, Stmts, no_stmts, stmt_and, Else, no_else, else_by}
use Rattle.qs_syntax.specs.Nodes.{all_count, option_count, expr_count, initialiser_count, variable_count, start_count, stmt_count, stmts_count, else_count}
use Rattle.qs_memory.proofs.Options.{followed}
use Rattle.qs_types.specs.Types.{TypeTree, is_void}
use Rattle.qs_types.specs.Rules.{Test, breaks_one, faults_of}
use Rattle.qs_types.specs.Contexts.{Context, inner_scope, inside_loop}
use Rattle.qs_types.specs.Constants.{constant_of}
use Rattle.qs_types.specs.Expressions.{type_of}
use Rattle.qs_types.specs.Declarations.{lengths_faults, variable_declared}
use Rattle.qs_types.specs.InitialiserRules.{initialiser_tests}
use Rattle.qs_types.specs.Placed.{is_one_of}
use Rattle.qs_types.specs.StatementRules.{after_variable, again_tests, variable_tests, variable_faults, option_initialiser_faults, variables_faults, condition_tests, condition_faults, option_condition_tests, option_typed, return_tests, returns, switch_tests, switch_faults, start_faults, after_statement, for_context, for_tests, for_faults, statement_faults, statements_faults, else_faults}
use Rattle.qs_types.specs.StatementRules as rule_starts
use Rattle.qs_meaning.specs.Typed.{Expr, pointer_to, variable, object, local, Effect, Stmt}
use Rattle.qs_meaning.specs.Typed as typed_trees
use Rattle.qs_meaning.specs.Forms.{TypedExpr, type_in_use, value_in_use}
use Rattle.qs_meaning.specs.Names.{Scope, Locals, within, place_among, local_lvalue}
use Rattle.qs_meaning.specs.Expressions.{typed}
use Rattle.qs_meaning.specs.Statements.{initialised, behind_variable, variable_typed, variables_typed, effect_typed, option_effect, condition_typed, option_condition, start_typed, return_typed, inner, in_switch, loop_body, in_for, statement_typed, statements_typed, else_typed}
use Rattle.qs_meaning.proofs.Options.{never}
use Rattle.qs_meaning.proofs.FaultlessExpressions.{none_left, none_right, unbroken, second_unbroken}
use Rattle.qs_meaning.proofs.Bodies.{not_held_back}
use Rattle.qs_elaborate_laws.specs.Counts.{nodes, effect_nodes, option_nodes, statement_nodes, statements_nodes}
use Rattle.qs_elaborate_laws.proofs.CountedTypes.{kept, typed_type, null_value, integer_used, scalar_value, assignable_value}
use Rattle.qs_elaborate_laws.proofs.CountedForms.{is_declared}
use Rattle.qs_elaborate_laws.proofs.CountedExpressions.{expression_counted}
use Rattle.qs_elaborate_laws.proofs.CountedInitialisers.{local_counted, local_typed, kept_fit}

effect_as : (n : ℕ) (x set : Effect) → Some x ≡ Some set → effect_nodes x 1 ≤ n → effect_nodes set 1 ≤ n
effect_as n x set e h = subst (λ z. effect_nodes z 1 ≤ n) (same_Some x set e) h

value_as : (n : ℕ) (x y : Expr) → Some x ≡ Some y → nodes x 1 ≤ n → nodes y 1 ≤ n
value_as n x y e h = subst (λ z. nodes z 1 ≤ n) (same_Some x y e) h

statement_as : (n : ℕ) (x a : Stmt) → Some x ≡ Some a → statement_nodes x 1 ≤ n → statement_nodes a 1 ≤ n
statement_as n x a e h = subst (λ z. statement_nodes z 1 ≤ n) (same_Some x a e) h

-- ---- variables

local_declared : (locals : Locals) (node : ℕ) → is_declared (local_lvalue locals node) ≡ true
local_declared locals node = go (is_one_of node locals.placed)
  where
    go : (b : Bool) → is_declared (if b then object (pointer_to (local (place_among node locals.placed))) else variable (place_among node locals.variables)) ≡ true
    go true = refl
    go false = refl

-- the declarator is a node too
initialised_counted : (s : Scope) (node : ℕ) (t : TypeTree) (init : Option InitialiserTree) (set : Effect) → breaks_one (initialiser_tests false s.context (Some t) init) ≡ false
    → option_initialiser_faults false s.context (Some t) init ≡ [] → initialised s node t init ≡ Some set → effect_nodes set 1 ≤ 1 + option_count initialiser_count init
initialised_counted s node t None set tests faults q = effect_as 1 _ set q (omega arith)
initialised_counted s node t (Some init) set tests faults q =
    let l = local_lvalue s.locals node in
    local_counted s t l init set (local_declared s.locals node) (kept_fit s.context t init (local_typed s t l init set q) tests) faults q

-- the test of the initialiser is among those of the variable
pub initialiser_unbroken : (c after : Context) (base : Base) (v : VariableTree) → variable_faults false c after base v ≡ []
    → breaks_one (initialiser_tests false after (variable_declared c base v).type v.initialiser) ≡ false
initialiser_unbroken c after base v own =
    let type = (variable_declared c base v).type in
    let tests = variable_tests false c after base v in
    let parts = none_right (faults_of v.declarator.node.id tests) (lengths_faults c v.declarator.lengths.given ++ option_initialiser_faults false after type v.initialiser) own in
    let initialiser = none_right (lengths_faults c v.declarator.lengths.given) (option_initialiser_faults false after type v.initialiser) parts in
    let whole_tests = ap (λ b. breaks_one (if b then [] else again_tests false c v ++ ((variable_declared c base v).tests ++ initialiser_tests false after type v.initialiser)))
    (sym (not_held_back false after type v.initialiser initialiser))
    ∙ unbroken v.declarator.node.id tests (none_left (faults_of v.declarator.node.id tests) _ own) in
    let later_tests = second_unbroken (again_tests false c v) ((variable_declared c base v).tests ++ initialiser_tests false after type v.initialiser) whole_tests in
    second_unbroken (variable_declared c base v).tests (initialiser_tests false after type v.initialiser) later_tests

pub initialiser_faultless : (c after : Context) (base : Base) (v : VariableTree) → variable_faults false c after base v ≡ []
    → option_initialiser_faults false after (variable_declared c base v).type v.initialiser ≡ []
initialiser_faultless c after base v own =
    none_right (lengths_faults c v.declarator.lengths.given) _ (none_right (faults_of v.declarator.node.id (variable_tests false c after base v)) _ own)

variables_counted : (vs : List VariableTree) (s : Scope) (base : Base) (set : Effect) → variables_faults false s.context base vs ≡ [] → variables_typed s base vs ≡ Some set
    → effect_nodes set 1 ≤ all_count variable_count vs
variables_counted [] s base set faults q = effect_as 0 _ set q (omega arith)
variables_counted (v ∷ vs) s base set faults q =
    let after = after_variable false s.context base v in
    let now = followed (variable_typed s base v) _ set q in
    let later = followed (variables_typed (behind_variable s base v) base vs) _ set now.then in
    let t = followed (variable_declared s.context base v).type _ now.value now.first in
    let own = none_left (variable_faults false s.context after base v) (variables_faults false after base vs) faults in
    let tests = subst (λ o. breaks_one (initialiser_tests false after o v.initialiser) ≡ false) t.first (initialiser_unbroken s.context after base v own) in
    let initialiser = subst (λ o. option_initialiser_faults false after o v.initialiser ≡ []) t.first (initialiser_faultless s.context after base v own) in
    let x = initialised_counted (behind_variable s base v) v.declarator.node.id t.value v.initialiser now.value tests initialiser t.then in
    let y = variables_counted vs (behind_variable s base v) base later.value (none_right (variable_faults false s.context after base v) _ faults) later.first in
    effect_as (variable_count v + all_count variable_count vs) _ set later.then (omega arith)

-- ---- expressions in statements

pub effect_counted : (s : Scope) (e : ExprTree) (set : Effect) → effect_typed s e ≡ Some set → effect_nodes set 1 ≤ expr_count e
effect_counted s e set q =
    let a = followed (typed s e) _ set q in
    effect_as (expr_count e) _ set a.then (expression_counted s e a.value a.first).effect

pub option_effect_counted : (s : Scope) (e : Option ExprTree) (set : Effect) → option_effect s e ≡ Some set → effect_nodes set 1 ≤ option_count expr_count e
option_effect_counted s None set q = effect_as 0 _ set q (omega arith)
option_effect_counted s (Some e) set q = effect_counted s e set q

pub condition_counted : (s : Scope) (e : ExprTree) (x : Expr) → breaks_one (condition_tests (type_of s.context e)) ≡ false → condition_typed s e ≡ Some x → nodes x 1 ≤ expr_count e
condition_counted s e x tests q =
    let a = followed (typed s e) _ x q in
    let kind = kept _ (subst (λ o. breaks_one (condition_tests o) ≡ false) (typed_type s e a.value a.first) tests) in
    value_as (expr_count e) _ x a.then ((expression_counted s e a.value a.first).value (scalar_value (type_in_use a.value) kind))

pub option_condition_counted : (s : Scope) (e : Option ExprTree) (x : Option Expr) → breaks_one (option_condition_tests s.context e) ≡ false → option_condition s e ≡ Some x
    → option_nodes x 1 ≤ option_count expr_count e
option_condition_counted s None x tests q = subst (λ z. option_nodes z 1 ≤ 0) (same_Some _ x q) (omega arith)
option_condition_counted s (Some e) x tests q =
    let y = followed (condition_typed s e) _ x q in
    subst (λ z. option_nodes z 1 ≤ expr_count e) (same_Some _ x y.then) (condition_counted s e y.value tests y.first)

pub condition_kept : (c : Context) (node : Node) (e : ExprTree) → condition_faults c node e ≡ [] → breaks_one (condition_tests (type_of c e)) ≡ false
condition_kept c node e f = unbroken node.id (condition_tests (type_of c e)) (none_left (faults_of node.id (condition_tests (type_of c e))) _ f)

pub operand_counted : (s : Scope) (node : Node) (e : ExprTree) (a : TypedExpr) → switch_faults s.context node e ≡ [] → typed s e ≡ Some a → nodes (value_in_use a) 1 ≤ expr_count e
operand_counted s node e a f q =
    let tests = unbroken node.id (switch_tests (type_of s.context e)) (none_left (faults_of node.id (switch_tests (type_of s.context e))) _ f) in
    let kind = kept _ (subst (λ o. breaks_one (switch_tests o) ≡ false) (typed_type s e a q) tests) in
    (expression_counted s e a q).value (integer_used a.type kind)

pub return_counted : (s : Scope) (node : Node) (e : Option ExprTree) (a : Stmt) → faults_of node.id (return_tests s.context s.context.result e) ≡ [] → return_typed s e ≡ Some a
    → statement_nodes a 1 ≤ 1 + option_count expr_count e
return_counted s node None a f q = statement_as 1 _ a q (omega arith)
return_counted s node (Some e) a f q =
    let t = followed s.context.result _ a q in
    let x = followed (typed s e) _ a t.then in
    let tests = subst (λ o. breaks_one (returns t.value e o) ≡ false) (typed_type s e x.value x.first)
    (subst (λ o. breaks_one (return_tests s.context o (Some e)) ≡ false) t.first (unbroken node.id (return_tests s.context s.context.result (Some e)) f)) in
    let v = (expression_counted s e x.value x.first).value
    (assignable_value t.value e (type_in_use x.value) (null_value s.context e x.value.type (typed_type s e x.value x.first)) (second_so (not (is_void t.value)) _ (kept _ tests))) in
    statement_as (1 + expr_count e) _ a x.then (omega arith)

start_counted : (s : Scope) (start : StartTree) (set : Effect) → start_faults s.context start ≡ [] → start_typed s start ≡ Some set → effect_nodes set 1 ≤ start_count start
start_counted s no_start set f q = effect_as 0 _ set q (omega arith)
start_counted s (start_expression e) set f q = effect_counted s e set q
start_counted s (start_declaration d) set f q = variables_counted d.variables s d.base set f q

-- the parts of a `for` have types
pub start_known : (s : Scope) (start : StartTree) (set : Effect) → start_typed (inner s) start ≡ Some set → rule_starts.start_typed (for_context s.context start) start ≡ true
start_known s no_start set q = refl
start_known s (start_expression e) set q =
    let a = followed (typed (inner s) e) _ set q in ap is_some (typed_type (inner s) e a.value a.first)
start_known s (start_declaration d) set q = refl

pub option_known : (s : Scope) (u : Option ExprTree) (set : Effect) → option_effect s u ≡ Some set → option_typed s.context u ≡ true
option_known s None set q = refl
option_known s (Some e) set q = let a = followed (typed s e) _ set q in ap is_some (typed_type s e a.value a.first)

pub if_tests : (a b : Bool) (ts : List Test) → a ≡ true → b ≡ true → breaks_one (if a && b then ts else []) ≡ false → breaks_one ts ≡ false
if_tests true true ts e f h = h
if_tests true false ts e f h = never f
if_tests false b ts e f h = never e

-- ---- statements

mutual
  pub statement_counted : (t : StmtTree) (s : Scope) (a : Stmt) → statement_faults s.context t ≡ [] → statement_typed s t ≡ Some a → statement_nodes a 1 ≤ stmt_count t
  statement_counted (empty node) s a f q = statement_as 1 _ a q (omega arith)
  statement_counted (expression node e) s a f q =
      let set = followed (effect_typed s e) _ a q in
      let x = effect_counted s e set.value set.first in
      statement_as (1 + expr_count e) _ a set.then (omega arith)
  statement_counted (declaration d) s a f q =
      let set = followed (variables_typed s d.base d.variables) _ a q in
      statement_as (all_count variable_count d.variables) _ a set.then (variables_counted d.variables s d.base set.value f set.first)
  statement_counted (block ss) s a f q =
      let rest = followed (statements_typed (inner s) ss) _ a q in
      statement_as (stmts_count ss) _ a rest.then (statements_counted ss (inner s) rest.value f rest.first)
  statement_counted (switch node e ss) s a f q =
      let x = followed (typed s e) _ a q in
      let y = followed (statements_typed (in_switch s e) ss) _ a x.then in
      let i = operand_counted s node e x.value (none_left _ _ f) x.first in
      let j = statements_counted ss (in_switch s e) y.value (none_right (switch_faults s.context node e) _ f) y.first in
      statement_as (1 + expr_count e + stmts_count ss) _ a y.then (omega arith)
  statement_counted (case_label node e) s a f q =
      let n = followed (constant_of s.context e) _ a q in statement_as (1 + expr_count e) _ a n.then (omega arith)
  statement_counted (default_label node) s a f q = statement_as 1 _ a q (omega arith)
  statement_counted (branch node e t r) s a f q =
      let x = followed (condition_typed s e) _ a q in
      let y = followed (statement_typed (inner s) t) _ a x.then in
      let z = followed (else_typed s r) _ a y.then in
      let parts = none_right (condition_faults s.context node e) _ f in
      let i = condition_counted s e x.value (condition_kept s.context node e (none_left _ _ f)) x.first in
      let j = statement_counted t (inner s) y.value (none_left _ _ parts) y.first in
      let k = else_counted r s z.value (none_right (statement_faults (inner_scope s.context) t) _ parts) z.first in
      statement_as (1 + expr_count e + stmt_count t + else_count r) _ a z.then (omega arith)
  statement_counted (while_loop node e t) s a f q =
      let x = followed (condition_typed s e) _ a q in
      let y = followed (statement_typed (loop_body s) t) _ a x.then in
      let i = condition_counted s e x.value (condition_kept s.context node e (none_left _ _ f)) x.first in
      let j = statement_counted t (loop_body s) y.value (none_right (condition_faults s.context node e) _ f) y.first in
      statement_as (1 + expr_count e + stmt_count t) _ a y.then (omega arith)
  statement_counted (do_loop node t e) s a f q =
      let y = followed (statement_typed (loop_body s) t) _ a q in
      let x = followed (condition_typed s e) _ a y.then in
      let j = statement_counted t (loop_body s) y.value (none_left _ _ f) y.first in
      let i = condition_counted s e x.value (condition_kept s.context node e (none_right (statement_faults (inside_loop (inner_scope s.context)) t) _ f)) x.first in
      statement_as (1 + stmt_count t + expr_count e) _ a x.then (omega arith)
  statement_counted (for_loop node start e u t) s a f q =
      let behind = in_for s start in
      let w = followed (start_typed (inner s) start) _ a q in
      let x = followed (option_condition behind e) _ a w.then in
      let y = followed (option_effect behind u) _ a x.then in
      let z = followed (statement_typed (loop_body behind) t) _ a y.then in
      let parts = none_right (start_faults (inner_scope s.context) start) _ f in
      let body = statement_faults (inside_loop (inner_scope behind.context)) t in
      let tests = unbroken node.id (for_tests behind.context start e u)
      (none_left (faults_of node.id (for_tests behind.context start e u)) _ (none_left (for_faults behind.context start node e u) body parts)) in
      let test = if_tests (rule_starts.start_typed behind.context start) (option_typed behind.context u) (option_condition_tests behind.context e)
      (start_known s start w.value w.first) (option_known behind u y.value y.first) tests in
      let h = start_counted (inner s) start w.value (none_left _ _ f) w.first in
      let i = option_condition_counted behind e x.value test x.first in
      let j = option_effect_counted behind u y.value y.first in
      let k = statement_counted t (loop_body behind) z.value (none_right (for_faults behind.context start node e u) body parts) z.first in
      statement_as (1 + start_count start + option_count expr_count e + option_count expr_count u + stmt_count t) _ a z.then (omega arith)
  statement_counted (break node) s a f q = statement_as 1 _ a q (omega arith)
  statement_counted (continue node) s a f q = statement_as 1 _ a q (omega arith)
  statement_counted (return node e) s a f q = return_counted s node e a (none_left (faults_of node.id (return_tests s.context s.context.result e)) _ f) q

  pub statements_counted : (ss : Stmts) (s : Scope) (list : typed_trees.Stmts) → statements_faults s.context ss ≡ [] → statements_typed s ss ≡ Some list
      → statements_nodes list 1 ≤ stmts_count ss
  statements_counted no_stmts s list f q = subst (λ z. statements_nodes z 1 ≤ 0) (same_Some _ list q) (omega arith)
  statements_counted (stmt_and t ts) s list f q =
      let after = within s (after_statement s.context t) in
      let x = followed (statement_typed s t) _ list q in
      let y = followed (statements_typed after ts) _ list x.then in
      let i = statement_counted t s x.value (none_left (statement_faults s.context t) (statements_faults after.context ts) f) x.first in
      let j = statements_counted ts after y.value (none_right (statement_faults s.context t) (statements_faults after.context ts) f) y.first in
      subst (λ z. statements_nodes z 1 ≤ stmt_count t + stmts_count ts) (same_Some _ list y.then) (omega arith)

  else_counted : (r : Else) (s : Scope) (a : Stmt) → else_faults s.context r ≡ [] → else_typed s r ≡ Some a → statement_nodes a 1 ≤ else_count r
  else_counted no_else s a f q = statement_as 0 _ a q (omega arith)
  else_counted (else_by t) s a f q = statement_counted t (inner s) a f q
