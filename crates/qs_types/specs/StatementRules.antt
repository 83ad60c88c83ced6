-- What is known behind declarations and statements, and which of their nodes break which rules (C11 6.7, 6.8).
use Rattle.std.specs.Prelude.{ℕ, ◌==◌, Bool, true, false, not, ◌&&◌, ◌||◌, List, [], ◌∷◌, ◌++◌, Option, Some, None, is_some, if◌then◌else◌}
use Rattle.std.specs.List.{list_any}
use Rattle.qs_syntax.specs.declared.types.Base.{Base}
use Rattle.qs_syntax.specs.declared.nodes.Node.{Node}
use Rattle.qs_syntax.specs.Trees.{ExprTree, InitialiserTree, value, list, VariableTree, StartTree, no_start, start_expression, start_declaration, StmtTree, empty, expression, declaration, block, switch, case_label, default_label, branch, while_loop, do_loop, for_loop, break, continue, return, Stmts, no_stmts, stmt_and, Else, no_else, else_by}
use Rattle.qs_types.specs.Types.{TypeTree, is_integer, is_scalar, is_void}
use Rattle.qs_types.specs.Layout.{and_then}
use Rattle.qs_types.specs.Conversions.{decayed, promoted}
use Rattle.qs_types.specs.declared.rules.Rule.TheVariants as rules
use Rattle.qs_types.specs.Rules.{Test, test, keeps, Fault, faults_of, is_any}
use Rattle.qs_types.specs.Contexts.{Entity, local_variable, file_variable, Labels, Context, is_taken, with_name, inner_scope, inside_loop, inside_switch, with_case, with_default}
use Rattle.qs_types.specs.Expressions.{type_of, is_assignable}
use Rattle.qs_types.specs.Constants.{constant_of, converted}
use Rattle.qs_types.specs.Declarations.{variable_declared, lengths_faults, all_typed}
use Rattle.qs_types.specs.InitialiserRules.{initialiser_faults, initialiser_tests}
use Rattle.qs_types.specs.ExpressionFaults.{used, discarded, whole, expr_faults}

-- ---- variables (6.7)

-- a variable stands for an object of the call, or of the file scope
abbrev pub entity_at : (at_file_scope : Bool) → ℕ → Option TypeTree → Entity
entity_at true node t = file_variable node t
entity_at false node t = local_variable node t

-- 6.2.1p7: known behind the declarator
abbrev pub after_variable : Bool → Context → Base → VariableTree → Context
after_variable at_file_scope c base v =
    with_name c v.declarator.name (entity_at at_file_scope v.declarator.node.id (variable_declared c base v).type)

abbrev pub after_variables : Bool → Context → Base → List VariableTree → Context
after_variables at_file_scope c base [] = c
after_variables at_file_scope c base (v ∷ vs) = after_variables at_file_scope (after_variable at_file_scope c base v) base vs

-- the initialiser is an expression without type, since a rule is broken in it: the variable, of which it is a part, breaks none. An
-- expression without type in which no rule is broken names a declaration without type, maybe the variable itself, and holds nothing back
abbrev pub holds_back : Context → Option InitialiserTree → Bool
holds_back c None = false
holds_back c (Some (value e)) = not (is_some (type_of c e)) && is_any (expr_faults c whole e)
holds_back c (Some (list node is)) = false

-- 6.7p3: in one scope a name is declared once
abbrev pub again_tests : Bool → Context → VariableTree → List Test
again_tests at_file_scope c v =
    if all_typed c v.declarator.lengths.given then test rules.DeclaredTwice (is_taken at_file_scope c v.declarator.name) else []

abbrev pub variable_tests : Bool → Context → Context → Base → VariableTree → List Test
variable_tests at_file_scope c after base v =
    if holds_back after v.initialiser then [] else
    again_tests at_file_scope c v ++ ((variable_declared c base v).tests ++ initialiser_tests at_file_scope after (variable_declared c base v).type v.initialiser)

abbrev pub option_initialiser_faults : Bool → Context → Option TypeTree → Option InitialiserTree → List Fault
option_initialiser_faults at_file_scope c t None = []
option_initialiser_faults at_file_scope c t (Some i) = initialiser_faults at_file_scope c t i

abbrev pub variable_faults : Bool → Context → Context → Base → VariableTree → List Fault
variable_faults at_file_scope c after base v =
    faults_of v.declarator.node.id (variable_tests at_file_scope c after base v)
    ++ (lengths_faults c v.declarator.lengths.given ++ option_initialiser_faults at_file_scope after (variable_declared c base v).type v.initialiser)

abbrev pub variables_faults : Bool → Context → Base → List VariableTree → List Fault
variables_faults at_file_scope c base [] = []
variables_faults at_file_scope c base (v ∷ vs) =
    variable_faults at_file_scope c (after_variable at_file_scope c base v) base v
    ++ variables_faults at_file_scope (after_variable at_file_scope c base v) base vs

-- ---- expressions in statements

-- 6.8.4.1p1, 6.8.5p2: a condition is a scalar
abbrev pub condition_tests : Option TypeTree → List Test
condition_tests None = []
condition_tests (Some t) = keeps rules.TruthOperand (is_scalar (decayed t))

abbrev pub option_condition_tests : Context → Option ExprTree → List Test
option_condition_tests c None = []
option_condition_tests c (Some e) = condition_tests (type_of c e)

-- the faults of the condition, and that of the statement
abbrev pub condition_faults : Context → Node → ExprTree → List Fault
condition_faults c node e = faults_of node.id (condition_tests (type_of c e)) ++ expr_faults c used e

abbrev pub option_used : Context → Option ExprTree → List Fault
option_used c None = []
option_used c (Some e) = expr_faults c used e

abbrev pub option_discarded : Context → Option ExprTree → List Fault
option_discarded c None = []
option_discarded c (Some e) = expr_faults c discarded e

-- 6.8.6.4p1
abbrev pub returns : TypeTree → ExprTree → Option TypeTree → List Test
returns result e None = []
returns result e (Some t) = keeps rules.ReturnedType (not (is_void result) && is_assignable result e (decayed t))

abbrev pub return_tests : Context → Option TypeTree → Option ExprTree → List Test
return_tests c None e = []
return_tests c (Some result) None = keeps rules.ReturnedType (is_void result)
return_tests c (Some result) (Some e) = returns result e (type_of c e)

-- ---- switches (6.8.4.2)

-- 6.8.4.2p1: the operand is an integer
abbrev pub switch_tests : Option TypeTree → List Test
switch_tests None = []
switch_tests (Some t) = keeps rules.SwitchType (is_integer t)

-- the faults of the operand, and that of the statement
abbrev pub switch_faults : Context → Node → ExprTree → List Fault
switch_faults c node e = faults_of node.id (switch_tests (type_of c e)) ++ expr_faults c used e

-- 6.8.4.2p5: the operand is promoted, where it is an integer
abbrev pub operand_type : Option TypeTree → Option TypeTree
operand_type None = None
operand_type (Some t) = if is_integer t then Some (promoted t) else None

-- the block of a switch is a scope (6.8.4p3), and its labels speak of its operand
abbrev pub switch_context : Context → ExprTree → Context
switch_context c e = inside_switch (operand_type (type_of c e)) (inner_scope c)

-- 6.8.4.2p5: a value of a `case` is converted to the promoted type of the operand
abbrev pub label_value : Labels → (constant : Option ℕ) → Option ℕ
label_value labels constant = and_then labels.operand (λ t. and_then constant (λ n. Some (converted t n)))

abbrev pub case_value : Context → ExprTree → Option ℕ
case_value c e = label_value c.labels (constant_of c e)

-- 6.8.4.2p3: a `case` before has the value
abbrev pub is_value_met : Labels → Option ℕ → Bool
is_value_met labels None = false
is_value_met labels (Some n) = list_any (λ v. v == n) labels.values

-- 6.8.4.2p3: it is a constant expression of integer type, where it has a type
abbrev pub constant_tests : Option TypeTree → (constant : Option ℕ) → List Test
constant_tests None constant = []
constant_tests (Some t) constant = keeps rules.SwitchType (is_some constant)

abbrev pub case_tests : Context → ExprTree → List Test
case_tests c e = constant_tests (type_of c e) (constant_of c e) ++ test rules.LabelTwice (is_value_met c.labels (case_value c e))

abbrev pub default_tests : Context → List Test
default_tests c = test rules.LabelTwice c.labels.has_default

-- ---- statements (6.8)

abbrev pub after_start : Context → StartTree → Context
after_start c no_start = c
after_start c (start_expression e) = c
after_start c (start_declaration d) = after_variables false c d.base d.variables

abbrev pub start_faults : Context → StartTree → List Fault
start_faults c no_start = []
start_faults c (start_expression e) = expr_faults c discarded e
start_faults c (start_declaration d) = variables_faults false c d.base d.variables

abbrev pub after_statement : Context → StmtTree → Context
after_statement c (declaration d) = after_variables false c d.base d.variables
after_statement c (case_label node e) = with_case c (case_value c e)
after_statement c (default_label node) = with_default c
after_statement c _ = c

-- 6.8.4p3, 6.8.5p5: the statements that are parts of others are scopes, and so is a `for`
abbrev pub for_context : Context → StartTree → Context
for_context c start = after_start (inner_scope c) start

-- 6.8.6.3p1
abbrev pub break_tests : Context → List Test
break_tests c = keeps rules.MisplacedJump (c.in_loop || c.in_switch)

-- 6.8.6.2p1
abbrev pub continue_tests : Context → List Test
continue_tests c = keeps rules.MisplacedJump c.in_loop

abbrev pub option_typed : Context → Option ExprTree → Bool
option_typed c None = true
option_typed c (Some e) = is_some (type_of c e)

abbrev pub start_typed : Context → StartTree → Bool
start_typed c no_start = true
start_typed c (start_expression e) = is_some (type_of c e)
start_typed c (start_declaration d) = true

-- the test of a `for`, where the expressions that are its parts have types
abbrev pub for_tests : Context → StartTree → Option ExprTree → Option ExprTree → List Test
for_tests c start e u = if start_typed c start && option_typed c u then option_condition_tests c e else []

-- the condition and the last expression of a `for`
abbrev pub for_faults : Context → StartTree → Node → Option ExprTree → Option ExprTree → List Fault
for_faults c start node e u = faults_of node.id (for_tests c start e u) ++ (option_used c e ++ option_discarded c u)

abbrev mutual
  pub statement_faults : Context → StmtTree → List Fault
  statement_faults c (empty node) = []
  statement_faults c (expression node e) = expr_faults c discarded e
  statement_faults c (declaration d) = variables_faults false c d.base d.variables
  statement_faults c (block ss) = statements_faults (inner_scope c) ss
  statement_faults c (switch node e ss) = switch_faults c node e ++ statements_faults (switch_context c e) ss
  statement_faults c (case_label node e) = faults_of node.id (case_tests c e) ++ expr_faults c used e
  statement_faults c (default_label node) = faults_of node.id (default_tests c)
  statement_faults c (branch node e s r) = condition_faults c node e ++ (statement_faults (inner_scope c) s ++ else_faults c r)
  statement_faults c (while_loop node e s) = condition_faults c node e ++ statement_faults (inside_loop (inner_scope c)) s
  statement_faults c (do_loop node s e) = statement_faults (inside_loop (inner_scope c)) s ++ condition_faults c node e
  statement_faults c (for_loop node start e u s) =
      start_faults (inner_scope c) start
      ++ (for_faults (for_context c start) start node e u ++ statement_faults (inside_loop (inner_scope (for_context c start))) s)
  statement_faults c (break node) = faults_of node.id (break_tests c)
  statement_faults c (continue node) = faults_of node.id (continue_tests c)
  statement_faults c (return node e) = faults_of node.id (return_tests c c.result e) ++ option_used c e

  pub statements_faults : Context → Stmts → List Fault
  statements_faults c no_stmts = []
  statements_faults c (stmt_and s ss) = statement_faults c s ++ statements_faults (after_statement c s) ss

  pub else_faults : Context → Else → List Fault
  else_faults c no_else = []
  else_faults c (else_by s) = statement_faults (inner_scope c) s
