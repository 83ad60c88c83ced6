-- No call in the typed tree of a statement, or in what initialises a local, has more arguments than those in the source.
use Rattle.std.proofs.Common.{◌≡◌, ◌≤◌, ℕ, ◌+◌, max, Bool, true, false, List, [], ◌∷◌, ◌++◌, Option, Some, None, subst, arith, if◌then◌else◌}
use Rattle.std.proofs.lemmas.Option.{same_Some}
use Rattle.qs_syntax.specs.declared.types.Base.{Base}
use Rattle.qs_syntax.specs.Trees.{ExprTree, InitialiserTree, Initialisers, no_initialisers, initialiser_and, VariableTree, StartTree, no_start, start_expression, start_declaration, StmtTree, empty, expression, declaration, block, switch, case_label, default_label, branch, while_loop, do_loop, for_loop, break, continue, return, Stmts, no_stmts, stmt_and, Else, no_else, else_by}
use Rattle.qs_syntax.specs.Trees as trees
use Rattle.qs_memory.proofs.Options.{followed}
use Rattle.qs_types.specs.Types.{TypeTree, is_array, Structs}
use Rattle.qs_types.specs.Constants.{constant_of}
use Rattle.qs_types.specs.Declarations.{text_of, variable_declared}
use Rattle.qs_types.specs.InitialiserRules.{part_type}
use Rattle.qs_types.specs.StatementRules.{after_statement}
use Rattle.qs_meaning.specs.Typed.{Expr, member, object, Effect, Stmt}
use Rattle.qs_meaning.specs.Typed as typed_trees
use Rattle.qs_meaning.specs.Forms.{lvalue, TypedExpr, address_of}
use Rattle.qs_meaning.specs.Names.{Scope, within, local_lvalue}
use Rattle.qs_meaning.specs.Expressions.{typed, plain_form}
use Rattle.qs_meaning.specs.Blanks.{blank_of}
use Rattle.qs_meaning.specs.Initialisers.{part_offset, Piece, pieces, pieces_from, text_set, assigned_set, piece_set, pieces_set, object_set, local_set}
use Rattle.qs_meaning.specs.Statements.{initialised, behind_variable, variable_typed, variables_typed, effect_typed, option_effect, condition_typed, option_condition, start_typed, return_typed, inner, in_switch, loop_body, in_for, statement_typed, statements_typed, else_typed}
use Rattle.qs_elaborate_limits.specs.Measures.{highest, option_highest}
use Rattle.qs_elaborate_limits.specs.Arguments.{expr_arguments, initialiser_arguments, initialisers_arguments, variable_arguments, start_arguments, stmt_arguments, stmts_arguments, else_arguments}
use Rattle.qs_elaborate_limits.proofs.TypedArguments.{expression_arguments, effect_arguments, condition_arguments, statement_arguments, statements_arguments}
use Rattle.qs_elaborate_limits.proofs.FormArguments.{arguments_in_use, value_in_use_few, effect_few, effect_in_use_few, address_few, plain_few}
use Rattle.qs_elaborate_limits.proofs.ExpressionArguments.{local_few, expression_few}

effect_as : (n : ℕ) (x set : Effect) → Some x ≡ Some set → effect_arguments x ≤ n → effect_arguments set ≤ n
effect_as n x set e h = subst (λ z. effect_arguments z ≤ n) (same_Some x set e) h

value_as : (n : ℕ) (x y : Expr) → Some x ≡ Some y → expression_arguments x ≤ n → expression_arguments y ≤ n
value_as n x y e h = subst (λ z. expression_arguments z ≤ n) (same_Some x y e) h

statement_as : (n : ℕ) (x a : Stmt) → Some x ≡ Some a → statement_arguments x ≤ n → statement_arguments a ≤ n
statement_as n x a e h = subst (λ z. statement_arguments z ≤ n) (same_Some x a e) h

-- ---- pieces of an object

abbrev piece_arguments : Piece → ℕ
piece_arguments p = expr_arguments p.expression

pieces_joined : (ps qs : List Piece) → highest piece_arguments (ps ++ qs) ≡ max (highest piece_arguments ps) (highest piece_arguments qs)
pieces_joined [] qs = omega arith
pieces_joined (p ∷ ps) qs = let e = pieces_joined ps qs in omega arith

mutual
  pieces_few :
      (structs : Structs) (init : InitialiserTree) (t : TypeTree) (offset : ℕ) (ps : List Piece) → pieces structs t offset init ≡ Some ps
      → highest piece_arguments ps ≤ initialiser_arguments init
  pieces_few structs (trees.value e) t offset ps q = subst (λ z. highest piece_arguments z ≤ expr_arguments e) (same_Some _ ps q) (omega arith)
  pieces_few structs (trees.list node is) t offset ps q = elements_few structs is t offset 0 ps q

  elements_few :
      (structs : Structs) (is : Initialisers) (t : TypeTree) (offset k : ℕ) (ps : List Piece) → pieces_from structs t offset k is ≡ Some ps
      → highest piece_arguments ps ≤ initialisers_arguments is
  elements_few structs no_initialisers t offset k ps q = subst (λ z. highest piece_arguments z ≤ 0) (same_Some _ ps q) (omega arith)
  elements_few structs (initialiser_and first is) t offset k ps q =
      let u = followed (part_type structs t k) _ ps q in
      let at = followed (part_offset structs t k) _ ps u.then in
      let now = followed (pieces structs u.value (offset + at.value) first) _ ps at.then in
      let later = followed (pieces_from structs t offset (k + 1) is) _ ps now.then in
      let h = pieces_few structs first u.value (offset + at.value) now.value now.first in
      let i = elements_few structs is t offset (k + 1) later.value later.first in
      let e = pieces_joined now.value later.value in
      subst (λ z. highest piece_arguments z ≤ max (initialiser_arguments first) (initialisers_arguments is)) (same_Some _ ps later.then) (omega arith)

-- ---- what initialises a local, in whose place nothing is called

module _ (s : Scope) where
  assigned_few :
      (part : TypedExpr) (e : ExprTree) (set : Effect) → arguments_in_use part ≤ 0 → assigned_set s part e ≡ Some set → effect_arguments set ≤ expr_arguments e
  assigned_few part e set none q =
      let a = followed (typed s e) _ set q in
      let f = followed (plain_form s.context.structs part a.value) _ set a.then in
      let h = expression_few s e a.value a.first in
      let i = plain_few s.context.structs part a.value f.value f.first in
      let j = effect_few part.type f.value in
      effect_as (expr_arguments e) _ set f.then (omega arith)

  text_few : (t : TypeTree) (to : Expr) (e : ExprTree) (set : Effect) → expression_arguments to ≤ 0 → text_set s t to e ≡ Some set → effect_arguments set ≤ expr_arguments e
  text_few t to e set none q =
      let bytes = followed (text_of e) _ set q in
      let a = followed (typed s e) _ set bytes.then in
      let from = followed (address_of a.value.form) _ set a.then in
      let h = expression_few s e a.value a.first in
      let i = address_few a.value.form from.value from.first in
      effect_as (expr_arguments e) _ set from.then (omega arith)

  piece_few : (base : Expr) (p : Piece) (set : Effect) → expression_arguments base ≤ 0 → piece_set s base p ≡ Some set → effect_arguments set ≤ piece_arguments p
  piece_few base p set none q = go (is_array p.type) q
    where
      go : (b : Bool)
          → (if b then text_set s p.type (member p.offset base) p.expression
          else assigned_set s (record { type = p.type; form = lvalue (object (member p.offset base)) }) p.expression) ≡ Some set
          → effect_arguments set ≤ piece_arguments p
      go true q = text_few p.type (member p.offset base) p.expression set none q
      go false q = assigned_few (record { type = p.type; form = lvalue (object (member p.offset base)) }) p.expression set none q

  set_few : (base : Expr) (ps : List Piece) (set : Effect) → expression_arguments base ≤ 0 → pieces_set s base ps ≡ Some set → effect_arguments set ≤ highest piece_arguments ps
  set_few base [] set none q = effect_as 0 _ set q (omega arith)
  set_few base (p ∷ ps) set none q =
      let now = followed (piece_set s base p) _ set q in
      let later = followed (pieces_set s base ps) _ set now.then in
      let x = piece_few base p now.value none now.first in
      let y = set_few base ps later.value none later.first in
      effect_as (max (piece_arguments p) (highest piece_arguments ps)) _ set later.then (omega arith)

  object_few :
      (a : TypedExpr) (init : InitialiserTree) (set : Effect) → arguments_in_use a ≤ 0 → object_set s a init ≡ Some set → effect_arguments set ≤ initialiser_arguments init
  object_few a init set none q =
      let base = followed (address_of a.form) _ set q in
      let cells = followed (blank_of s.context.structs a.type) _ set base.then in
      let ps = followed (pieces s.context.structs a.type 0 init) _ set cells.then in
      let sets = followed (pieces_set s base.value ps.value) _ set ps.then in
      let h = address_few a.form base.value base.first in
      let i = pieces_few s.context.structs init a.type 0 ps.value ps.first in
      let j = set_few base.value ps.value sets.value (omega arith) sets.first in
      effect_as (initialiser_arguments init) _ set sets.then (omega arith)

  local_set_few :
      (a : TypedExpr) (init : InitialiserTree) (set : Effect) → arguments_in_use a ≤ 0 → local_set s a init ≡ Some set → effect_arguments set ≤ initialiser_arguments init
  local_set_few a (trees.value e) set none q = go (is_array a.type) q
    where
      go : (b : Bool) → (if b then object_set s a (trees.value e) else assigned_set s a e) ≡ Some set → effect_arguments set ≤ expr_arguments e
      go true q = object_few a (trees.value e) set none q
      go false q = assigned_few a e set none q
  local_set_few a (trees.list node is) set none q = object_few a (trees.list node is) set none q

-- ---- variables

initialised_few :
    (s : Scope) (node : ℕ) (t : TypeTree) (init : Option InitialiserTree) (set : Effect) → initialised s node t init ≡ Some set
    → effect_arguments set ≤ option_highest initialiser_arguments init
initialised_few s node t None set q = effect_as 0 _ set q (omega arith)
initialised_few s node t (Some init) set q =
    local_set_few s (record { type = t; form = lvalue (local_lvalue s.locals node) }) init set (local_few s.locals node) q

variables_few :
    (vs : List VariableTree) (s : Scope) (base : Base) (set : Effect) → variables_typed s base vs ≡ Some set → effect_arguments set ≤ highest variable_arguments vs
variables_few [] s base set q = effect_as 0 _ set q (omega arith)
variables_few (v ∷ vs) s base set q =
    let now = followed (variable_typed s base v) _ set q in
    let later = followed (variables_typed (behind_variable s base v) base vs) _ set now.then in
    let t = followed (variable_declared s.context base v).type _ now.value now.first in
    let x = initialised_few (behind_variable s base v) v.declarator.node.id t.value v.initialiser now.value t.then in
    let y = variables_few vs (behind_variable s base v) base later.value later.first in
    effect_as (max (variable_arguments v) (highest variable_arguments vs)) _ set later.then (omega arith)

-- ---- expressions in statements

effect_typed_few : (s : Scope) (e : ExprTree) (set : Effect) → effect_typed s e ≡ Some set → effect_arguments set ≤ expr_arguments e
effect_typed_few s e set q =
    let a = followed (typed s e) _ set q in
    let h = expression_few s e a.value a.first in
    let i = effect_in_use_few a.value in
    effect_as (expr_arguments e) _ set a.then (omega arith)

option_effect_few : (s : Scope) (e : Option ExprTree) (set : Effect) → option_effect s e ≡ Some set → effect_arguments set ≤ option_highest expr_arguments e
option_effect_few s None set q = effect_as 0 _ set q (omega arith)
option_effect_few s (Some e) set q = effect_typed_few s e set q

condition_few : (s : Scope) (e : ExprTree) (x : Expr) → condition_typed s e ≡ Some x → expression_arguments x ≤ expr_arguments e
condition_few s e x q =
    let a = followed (typed s e) _ x q in
    let h = expression_few s e a.value a.first in
    let i = value_in_use_few a.value in
    value_as (expr_arguments e) _ x a.then (omega arith)

option_condition_few :
    (s : Scope) (e : Option ExprTree) (x : Option Expr) → option_condition s e ≡ Some x → condition_arguments x ≤ option_highest expr_arguments e
option_condition_few s None x q = subst (λ z. condition_arguments z ≤ 0) (same_Some _ x q) (omega arith)
option_condition_few s (Some e) x q =
    let y = followed (condition_typed s e) _ x q in
    subst (λ z. condition_arguments z ≤ expr_arguments e) (same_Some _ x y.then) (condition_few s e y.value y.first)

return_few : (s : Scope) (e : Option ExprTree) (a : Stmt) → return_typed s e ≡ Some a → statement_arguments a ≤ option_highest expr_arguments e
return_few s None a q = statement_as 0 _ a q (omega arith)
return_few s (Some e) a q =
    let t = followed s.context.result _ a q in
    let x = followed (typed s e) _ a t.then in
    let h = expression_few s e x.value x.first in
    let i = value_in_use_few x.value in
    statement_as (expr_arguments e) _ a x.then (omega arith)

start_typed_few : (s : Scope) (start : StartTree) (set : Effect) → start_typed s start ≡ Some set → effect_arguments set ≤ start_arguments start
start_typed_few s no_start set q = effect_as 0 _ set q (omega arith)
start_typed_few s (start_expression e) set q = effect_typed_few s e set q
start_typed_few s (start_declaration d) set q = variables_few d.variables s d.base set q

-- ---- statements

mutual
  statement_few : (t : StmtTree) (s : Scope) (a : Stmt) → statement_typed s t ≡ Some a → statement_arguments a ≤ stmt_arguments t
  statement_few (empty node) s a q = statement_as 0 _ a q (omega arith)
  statement_few (expression node e) s a q =
      let set = followed (effect_typed s e) _ a q in
      statement_as (expr_arguments e) _ a set.then (effect_typed_few s e set.value set.first)
  statement_few (declaration d) s a q =
      let set = followed (variables_typed s d.base d.variables) _ a q in
      statement_as (highest variable_arguments d.variables) _ a set.then (variables_few d.variables s d.base set.value set.first)
  statement_few (block ss) s a q =
      let rest = followed (statements_typed (inner s) ss) _ a q in
      statement_as (stmts_arguments ss) _ a rest.then (statements_few ss (inner s) rest.value rest.first)
  statement_few (switch node e ss) s a q =
      let x = followed (typed s e) _ a q in
      let y = followed (statements_typed (in_switch s e) ss) _ a x.then in
      let h = expression_few s e x.value x.first in
      let i = value_in_use_few x.value in
      let j = statements_few ss (in_switch s e) y.value y.first in
      statement_as (max (expr_arguments e) (stmts_arguments ss)) _ a y.then (omega arith)
  statement_few (case_label node e) s a q = let n = followed (constant_of s.context e) _ a q in statement_as 0 _ a n.then (omega arith)
  statement_few (default_label node) s a q = statement_as 0 _ a q (omega arith)
  statement_few (branch node e t r) s a q =
      let x = followed (condition_typed s e) _ a q in
      let y = followed (statement_typed (inner s) t) _ a x.then in
      let z = followed (else_typed s r) _ a y.then in
      let i = condition_few s e x.value x.first in
      let j = statement_few t (inner s) y.value y.first in
      let k = else_few r s z.value z.first in
      statement_as (max (expr_arguments e) (max (stmt_arguments t) (else_arguments r))) _ a z.then (omega arith)
  statement_few (while_loop node e t) s a q =
      let x = followed (condition_typed s e) _ a q in
      let y = followed (statement_typed (loop_body s) t) _ a x.then in
      let i = condition_few s e x.value x.first in
      let j = statement_few t (loop_body s) y.value y.first in
      statement_as (max (expr_arguments e) (stmt_arguments t)) _ a y.then (omega arith)
  statement_few (do_loop node t e) s a q =
      let y = followed (statement_typed (loop_body s) t) _ a q in
      let x = followed (condition_typed s e) _ a y.then in
      let j = statement_few t (loop_body s) y.value y.first in
      let i = condition_few s e x.value x.first in
      statement_as (max (stmt_arguments t) (expr_arguments e)) _ a x.then (omega arith)
  statement_few (for_loop node start e u t) s a q =
      let behind = in_for s start in
      let w = followed (start_typed (inner s) start) _ a q in
      let x = followed (option_condition behind e) _ a w.then in
      let y = followed (option_effect behind u) _ a x.then in
      let z = followed (statement_typed (loop_body behind) t) _ a y.then in
      let h = start_typed_few (inner s) start w.value w.first in
      let i = option_condition_few behind e x.value x.first in
      let j = option_effect_few behind u y.value y.first in
      let k = statement_few t (loop_body behind) z.value z.first in
      statement_as (max (start_arguments start) (max (option_highest expr_arguments e) (max (option_highest expr_arguments u) (stmt_arguments t)))) _ a z.then (omega arith)
  statement_few (break node) s a q = statement_as 0 _ a q (omega arith)
  statement_few (continue node) s a q = statement_as 0 _ a q (omega arith)
  statement_few (return node e) s a q = return_few s e a q

  pub statements_few : (ss : Stmts) (s : Scope) (list : typed_trees.Stmts) → statements_typed s ss ≡ Some list → statements_arguments list ≤ stmts_arguments ss
  statements_few no_stmts s list q = subst (λ z. statements_arguments z ≤ 0) (same_Some _ list q) (omega arith)
  statements_few (stmt_and t ts) s list q =
      let after = within s (after_statement s.context t) in
      let x = followed (statement_typed s t) _ list q in
      let y = followed (statements_typed after ts) _ list x.then in
      let i = statement_few t s x.value x.first in
      let j = statements_few ts after y.value y.first in
      subst (λ z. statements_arguments z ≤ max (stmt_arguments t) (stmts_arguments ts)) (same_Some _ list y.then) (omega arith)

  else_few : (r : Else) (s : Scope) (a : Stmt) → else_typed s r ≡ Some a → statement_arguments a ≤ else_arguments r
  else_few no_else s a q = statement_as 0 _ a q (omega arith)
  else_few (else_by t) s a q = statement_few t (inner s) a q
