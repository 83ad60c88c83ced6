-- In main of a well typed unit each `return` has a value.
use Rattle.std.proofs.Common.{◌≡◌, ℕ, ◌&&◌, Bool, true, false, List, [], ◌∷◌, ◌++◌, All, Option, Some, None, is_some, refl, sym, ap, ◌∙◌, subst, if◌then◌else◌}
use Rattle.std.proofs.lemmas.List.Elements.{All-nil, All-cons, All-append}
use Rattle.std.proofs.lemmas.Bool.{and_from}
use Rattle.std.specs.Cmp.{first_so}
use Rattle.std.proofs.lemmas.Option.{same_Some}
use Rattle.qs_base.specs.Bytes.{same_bytes}
use Rattle.qs_syntax.specs.declared.types.Base.{Base}
use Rattle.qs_syntax.specs.Trees.{ExprTree, VariableTree, ParameterTree, StartTree, no_start, start_expression, start_declaration, StmtTree, empty, expression, declaration, block, switch, case_label, default_label, branch, while_loop, do_loop, for_loop, break, continue, return, Stmts, no_stmts, stmt_and, Else, no_else, else_by, FunctionTree, DeclTree, structure, forward, function, variables, UnitTree, typedef}
use Rattle.qs_memory.proofs.Options.{followed}
use Rattle.qs_types.specs.Types.{TypeTree, int, unsigned, char, void, pointer, array, struct, same_type}
use Rattle.qs_types.specs.Rules.{keeps, breaks_one, faults_of}
use Rattle.qs_types.specs.declared.rules.Rule.TheVariants as rules
use Rattle.qs_types.specs.GivenFunctions.{main_name}
use Rattle.qs_types.specs.Constants.{constant_of}
use Rattle.qs_types.specs.Contexts.{Context, inner_scope, inside_loop, with_case}
use Rattle.qs_types.specs.Placed.{Local, addressed_in, statements_locals}
use Rattle.qs_types.specs.StatementRules.{after_variable, after_variables, after_start, after_statement, return_tests, case_value, switch_faults, condition_faults, start_faults, for_faults, statement_faults, statements_faults, else_faults}
use Rattle.qs_types.specs.UnitRules.{may_be, parameter_types, result_type, with_parameter, with_parameters, header_of, is_main_type, main_tests, result_tests, header_tests, may_declare, parameters_faults, body_context, body_faults, function_faults, after_function, after_declaration, declaration_faults, declarations_faults}
use Rattle.qs_types.specs.WellTyped.{WellTyped}
use Rattle.qs_meaning.specs.Typed.{Stmt, Function, TypedProgram}
use Rattle.qs_meaning.specs.Typed as typed_trees
use Rattle.qs_meaning.specs.Names.{Scope, within}
use Rattle.qs_meaning.specs.Expressions.{typed}
use Rattle.qs_meaning.specs.Statements.{variables_typed, effect_typed, option_effect, condition_typed, option_condition, start_typed, return_typed, inner, in_switch, loop_body, in_for, statement_typed, statements_typed, else_typed}
use Rattle.qs_meaning.specs.Units.{placed_among, variables_among, locals_of, parameters_in, scalars_of, sizes_of, parameters_typed, in_body, function_with, function_typed, file_variables_typed, declaration_typed, declarations_typed, start_scope, typed_of}
use Rattle.qs_meaning.proofs.Options.{never}
use Rattle.qs_meaning.proofs.FaultlessExpressions.{none_left, none_right, unbroken, first_unbroken, second_unbroken}
use Rattle.qs_meaning.proofs.FunctionsTyped.{result_known}
use Rattle.qs_elaborate_laws.proofs.FitRules.{main_type_kept}

-- each `return` has a value
abbrev mutual
  pub gives_values : Stmt → Bool
  gives_values (typed_trees.evaluate a) = true
  gives_values (typed_trees.block ss) = all_give_values ss
  gives_values (typed_trees.switch c e ss) = all_give_values ss
  gives_values (typed_trees.case_label n) = true
  gives_values typed_trees.default_label = true
  gives_values (typed_trees.branch e a b) = gives_values a && gives_values b
  gives_values (typed_trees.while_loop e a) = gives_values a
  gives_values (typed_trees.do_loop a e) = gives_values a
  gives_values (typed_trees.for_loop start e step a) = gives_values a
  gives_values typed_trees.break = true
  gives_values typed_trees.continue = true
  gives_values (typed_trees.return c e) = true
  gives_values typed_trees.return_nothing = false

  pub all_give_values : typed_trees.Stmts → Bool
  all_give_values typed_trees.no_stmts = true
  all_give_values (typed_trees.stmt_and s ss) = gives_values s && all_give_values ss

gives_as : (x a : Stmt) → Some x ≡ Some a → gives_values x ≡ true → gives_values a ≡ true
gives_as x a e h = subst (λ z. gives_values z ≡ true) (same_Some x a e) h

-- ---- the result of the function stays known

-- a place in a function that returns a value
abbrev Returns : Context → Type 0
Returns c = c.result ≡ Some int

variables_result : (base : Base) (vs : List VariableTree) (c : Context) → (after_variables false c base vs).result ≡ c.result
variables_result base [] c = refl
variables_result base (v ∷ vs) c = variables_result base vs (after_variable false c base v)

start_result : (start : StartTree) (c : Context) → (after_start c start).result ≡ c.result
start_result no_start c = refl
start_result (start_expression e) c = refl
start_result (start_declaration d) c = variables_result d.base d.variables c

case_result : (c : Context) (value : Option ℕ) → (with_case c value).result ≡ c.result
case_result c None = refl
case_result c (Some n) = refl

statement_result : (t : StmtTree) (c : Context) → (after_statement c t).result ≡ c.result
statement_result (declaration d) c = variables_result d.base d.variables c
statement_result (empty node) c = refl
statement_result (expression node e) c = refl
statement_result (block ss) c = refl
statement_result (switch node e ss) c = refl
statement_result (case_label node e) c = case_result c (case_value c e)
statement_result (default_label node) c = refl
statement_result (branch node e t r) c = refl
statement_result (while_loop node e t) c = refl
statement_result (do_loop node t e) c = refl
statement_result (for_loop node start e u t) c = refl
statement_result (break node) c = refl
statement_result (continue node) c = refl
statement_result (return node e) c = refl

parameter_result : (c : Context) (p : ParameterTree) (t : Option TypeTree) (x : Option (List ℕ)) → (with_parameter c p t x).result ≡ c.result
parameter_result c p t None = refl
parameter_result c p t (Some x) = refl

parameters_result : (ps : List ParameterTree) (ts : List (Option TypeTree)) (c : Context) → (with_parameters c ps ts).result ≡ c.result
parameters_result [] ts c = refl
parameters_result (p ∷ ps) [] c = refl
parameters_result (p ∷ ps) (t ∷ ts) c = parameters_result ps ts (with_parameter c p t p.name) ∙ parameter_result c p t p.name

body_result : (c : Context) (f : FunctionTree) → (body_context c f).result ≡ result_type c f
body_result c f = parameters_result f.parameters (parameter_types (inner_scope c) f.parameters) (record (inner_scope (after_function c f)) { result = result_type c f })

-- ---- statements

return_gives : (s : Scope) (node : ℕ) (e : Option ExprTree) (a : Stmt) → Returns s.context → faults_of node (return_tests s.context s.context.result e) ≡ [] → return_typed s e ≡ Some a → gives_values a ≡ true
return_gives s node None a r f q =
    never (sym (subst (λ o. breaks_one (return_tests s.context o None) ≡ false) r (unbroken node (return_tests s.context s.context.result None) f)))
return_gives s node (Some e) a r f q =
    let t = followed s.context.result _ a q in
    let x = followed (typed s e) _ a t.then in
    gives_as _ a x.then refl

mutual
  statement_gives : (t : StmtTree) (s : Scope) (a : Stmt) → Returns s.context → statement_faults s.context t ≡ [] → statement_typed s t ≡ Some a → gives_values a ≡ true
  statement_gives (empty node) s a r f q = gives_as _ a q refl
  statement_gives (expression node e) s a r f q = let set = followed (effect_typed s e) _ a q in gives_as _ a set.then refl
  statement_gives (declaration d) s a r f q = let set = followed (variables_typed s d.base d.variables) _ a q in gives_as _ a set.then refl
  statement_gives (block ss) s a r f q =
      let rest = followed (statements_typed (inner s) ss) _ a q in gives_as _ a rest.then (statements_give ss (inner s) rest.value r f rest.first)
  statement_gives (switch node e ss) s a r f q =
      let x = followed (typed s e) _ a q in
      let y = followed (statements_typed (in_switch s e) ss) _ a x.then in
      gives_as _ a y.then (statements_give ss (in_switch s e) y.value r (none_right (switch_faults s.context node e) _ f) y.first)
  statement_gives (case_label node e) s a r f q = let n = followed (constant_of s.context e) _ a q in gives_as _ a n.then refl
  statement_gives (default_label node) s a r f q = gives_as _ a q refl
  statement_gives (branch node e t o) s a r f q =
      let x = followed (condition_typed s e) _ a q in
      let y = followed (statement_typed (inner s) t) _ a x.then in
      let z = followed (else_typed s o) _ a y.then in
      let parts = none_right (condition_faults s.context node e) _ f in
      gives_as _ a z.then (and_from _ _ (statement_gives t (inner s) y.value r (none_left _ _ parts) y.first)
      (else_gives o s z.value r (none_right (statement_faults (inner_scope s.context) t) _ parts) z.first))
  statement_gives (while_loop node e t) s a r f q =
      let x = followed (condition_typed s e) _ a q in
      let y = followed (statement_typed (loop_body s) t) _ a x.then in
      gives_as _ a y.then (statement_gives t (loop_body s) y.value r (none_right (condition_faults s.context node e) _ f) y.first)
  statement_gives (do_loop node t e) s a r f q =
      let y = followed (statement_typed (loop_body s) t) _ a q in
      let x = followed (condition_typed s e) _ a y.then in
      gives_as _ a x.then (statement_gives t (loop_body s) y.value r (none_left _ _ f) y.first)
  statement_gives (for_loop node start e u t) s a r f q =
      let behind = in_for s start in
      let w = followed (start_typed (inner s) start) _ a q in
      let x = followed (option_condition behind e) _ a w.then in
      let y = followed (option_effect behind u) _ a x.then in
      let z = followed (statement_typed (loop_body behind) t) _ a y.then in
      let parts = none_right (start_faults (inner_scope s.context) start) _ f in
      let body = statement_faults (inside_loop (inner_scope behind.context)) t in
      gives_as _ a z.then (statement_gives t (loop_body behind) z.value (start_result start (inner_scope s.context) ∙ r)
      (none_right (for_faults behind.context start node e u) body parts) z.first)
  statement_gives (break node) s a r f q = gives_as _ a q refl
  statement_gives (continue node) s a r f q = gives_as _ a q refl
  statement_gives (return node e) s a r f q = return_gives s node.id e a r (none_left (faults_of node.id (return_tests s.context s.context.result e)) _ f) q

  statements_give : (ss : Stmts) (s : Scope) (list : typed_trees.Stmts) → Returns s.context → statements_faults s.context ss ≡ [] → statements_typed s ss ≡ Some list → all_give_values list ≡ true
  statements_give no_stmts s list r f q = subst (λ z. all_give_values z ≡ true) (same_Some _ list q) refl
  statements_give (stmt_and t ts) s list r f q =
      let after = within s (after_statement s.context t) in
      let x = followed (statement_typed s t) _ list q in
      let y = followed (statements_typed after ts) _ list x.then in
      subst (λ z. all_give_values z ≡ true) (same_Some _ list y.then)
      (and_from _ _ (statement_gives t s x.value r (none_left (statement_faults s.context t) (statements_faults after.context ts) f) x.first)
      (statements_give ts after y.value (statement_result t s.context ∙ r) (none_right (statement_faults s.context t) (statements_faults after.context ts) f) y.first))

  else_gives : (o : Else) (s : Scope) (a : Stmt) → Returns s.context → else_faults s.context o ≡ [] → else_typed s o ≡ Some a → gives_values a ≡ true
  else_gives no_else s a r f q = gives_as _ a q refl
  else_gives (else_by t) s a r f q = statement_gives t (inner s) a r f q

-- ---- main

int_is : (t : TypeTree) → same_type int t ≡ true → int ≡ t
int_is int h = refl
int_is unsigned h = never h
int_is char h = never h
int_is void h = never h
int_is (pointer t) h = never h
int_is (array t n) h = never h
int_is (struct k) h = never h

main_tested : (b t : Bool) → b ≡ true → breaks_one (if b then keeps rules.MainType t else []) ≡ false → t ≡ true
main_tested true true e h = refl
main_tested true false e h = sym h
main_tested false t e h = never e

main_result : (c : Context) (f : FunctionTree) → function_faults c f ≡ [] → same_bytes f.name main_name ≡ true → result_type c f ≡ Some int
main_result c f faults named =
    let known = result_known c f (first_unbroken (result_tests c f) (main_tests f (header_of c f))
    (second_unbroken (keeps rules.DeclaredTwice (may_declare c f)) (result_tests c f ++ main_tests f (header_of c f))
    (unbroken f.node.id (header_tests c f) (none_left (faults_of f.node.id (header_tests c f)) _ faults)))) in
    let tested = first_so (may_be int (result_type c f)) _ (main_tested (same_bytes f.name main_name) (is_main_type (header_of c f)) named (main_type_kept c f faults)) in
    known.is ∙ ap Some (sym (int_is known.value (ap (may_be int) (sym known.is) ∙ tested)))

-- where a function is main, its body gives values
abbrev pub GivesIfMain : Function → Type 0
GivesIfMain g = g.is_main ≡ true → all_give_values g.body ≡ true

function_gives :
    (s : Scope) (f : FunctionTree) (body : Stmts) (addressed : List ℕ) (ps ls : List Local) (g : Function) → function_faults s.context f ≡ []
    → body_faults s.context f (Some body) ≡ [] → function_with s f body addressed ps ls ≡ Some g → GivesIfMain g
function_gives s f body addressed ps ls g faults inside q =
    let locals = locals_of addressed ps ls in
    let x = followed (parameters_typed locals f.parameters (parameter_types (inner_scope s.context) f.parameters)) _ g q in
    let y = followed (scalars_of (variables_among addressed ps ls)) _ g x.then in
    let z = followed (sizes_of s.context.structs (placed_among addressed (ps ++ ls))) _ g y.then in
    let w = followed (statements_typed (in_body s f locals) body) _ g z.then in
    subst GivesIfMain (same_Some _ g w.then) (λ named.
    statements_give body (in_body s f locals) w.value (body_result s.context f ∙ main_result s.context f faults named) inside w.first)

functions_give :
    (s : Scope) (f : FunctionTree) (o : Option Stmts) (gs : List Function) → function_faults s.context f ≡ [] → body_faults s.context f o ≡ []
    → function_typed s f o ≡ Some gs → All GivesIfMain gs
functions_give s f None gs faults inside q = subst (All GivesIfMain) (same_Some _ gs q) (All-nil GivesIfMain)
functions_give s f (Some body) gs faults inside q =
    let ps = parameters_in s.context f in
    let ls = statements_locals (body_context s.context f) body in
    let g = followed (function_with s f body (addressed_in s.context f body) ps ls) _ gs q in
    subst (All GivesIfMain) (same_Some _ gs g.then)
    (All-cons GivesIfMain g.value [] (function_gives s f body (addressed_in s.context f body) ps ls g.value faults inside g.first) (All-nil GivesIfMain))

declaration_gives : (d : DeclTree) (s : Scope) (now : TypedProgram) → declaration_faults s.context d ≡ [] → declaration_typed s d ≡ Some now → All GivesIfMain now.functions
declaration_gives (structure d) s now f q = subst (λ (z : TypedProgram). All GivesIfMain z.functions) (same_Some _ now q) (All-nil GivesIfMain)
declaration_gives (forward d) s now f q = subst (λ (z : TypedProgram). All GivesIfMain z.functions) (same_Some _ now q) (All-nil GivesIfMain)
declaration_gives (typedef d) s now f q = subst (λ (z : TypedProgram). All GivesIfMain z.functions) (same_Some _ now q) (All-nil GivesIfMain)
declaration_gives (variables d) s now f q =
    let bs = followed (file_variables_typed s d.base d.variables) _ now q in
    subst (λ (z : TypedProgram). All GivesIfMain z.functions) (same_Some _ now bs.then) (All-nil GivesIfMain)
declaration_gives (function g) s now f q =
    let gs = followed (function_typed s g g.body) _ now q in
    let inside = none_right (parameters_faults (inner_scope s.context) (is_some g.body) g.parameters) _ (none_right (faults_of g.node.id (header_tests s.context g)) _ f) in
    subst (λ (z : TypedProgram). All GivesIfMain z.functions) (same_Some _ now gs.then) (functions_give s g g.body gs.value f inside gs.first)

declarations_give : (ds : UnitTree) (s : Scope) (u : TypedProgram) → declarations_faults s.context ds ≡ [] → declarations_typed s ds ≡ Some u → All GivesIfMain u.functions
declarations_give [] s u f q = subst (λ (z : TypedProgram). All GivesIfMain z.functions) (same_Some _ u q) (All-nil GivesIfMain)
declarations_give (d ∷ ds) s u f q =
    let after = within s (after_declaration s.context d) in
    let now = followed (declaration_typed s d) _ u q in
    let rest = followed (declarations_typed after ds) _ u now.then in
    subst (λ (z : TypedProgram). All GivesIfMain z.functions) (same_Some _ u rest.then)
    (All-append GivesIfMain now.value.functions rest.value.functions
    (declaration_gives d s now.value (none_left (declaration_faults s.context d) (declarations_faults after.context ds) f) now.first)
    (declarations_give ds after rest.value (none_right (declaration_faults s.context d) (declarations_faults after.context ds) f) rest.first))

pub mains_give : (unit : UnitTree) (u : TypedProgram) → WellTyped unit → typed_of unit ≡ Some u → All GivesIfMain u.functions
mains_give unit u well q =
    let d = followed (declarations_typed (start_scope unit) unit) _ u q in
    subst (λ (z : TypedProgram). All GivesIfMain z.functions) (same_Some _ u d.then) (declarations_give unit (start_scope unit) d.value well.keeps_rules d.first)
