-- The typed tree of a statement, and what initialises a local, are at most as high as the source.
use Rattle.std.proofs.Common.{◌≡◌, ◌≤◌, ℕ, ◌+◌, max, Bool, true, false, List, [], ◌∷◌, ◌++◌, Option, Some, None, subst, arith, if◌then◌else◌}
use Rattle.std.proofs.lemmas.Option.{same_Some}
use Rattle.qs_syntax.specs.declared.types.Base.{Base}
use Rattle.qs_syntax.specs.Trees.{ExprTree, InitialiserTree, Initialisers, no_initialisers, initialiser_and, VariableTree, StartTree, no_start, start_expression, start_declaration, StmtTree, empty, expression, declaration, block, switch, case_label, default_label, branch, while_loop, do_loop, for_loop, break, continue, return, Stmts, no_stmts, stmt_and, Else, no_else, else_by}
use Rattle.qs_syntax.specs.Trees as trees
use Rattle.qs_memory.proofs.Options.{followed}
use Rattle.qs_types.specs.Types.{TypeTree, is_array, Structs}
use Rattle.qs_types.specs.Constants.{constant_of}
use Rattle.qs_types.specs.Declarations.{text_of, variable_declared}
use Rattle.qs_types.specs.InitialiserRules.{part_type}
use Rattle.qs_types.specs.StatementRules.{after_statement}
use Rattle.qs_meaning.specs.Typed.{Expr, member, object, Effect, Stmt}
use Rattle.qs_meaning.specs.Typed as typed_trees
use Rattle.qs_meaning.specs.Forms.{lvalue, TypedExpr, address_of}
use Rattle.qs_meaning.specs.Names.{Scope, within, local_lvalue}
use Rattle.qs_meaning.specs.Expressions.{typed, plain_form}
use Rattle.qs_meaning.specs.Blanks.{blank_of}
use Rattle.qs_meaning.specs.Initialisers.{part_offset, Piece, pieces, pieces_from, text_set, assigned_set, piece_set, pieces_set, object_set, local_set}
use Rattle.qs_meaning.specs.Statements.{initialised, behind_variable, variable_typed, variables_typed, effect_typed, option_effect, condition_typed, option_condition, start_typed, return_typed, inner, in_switch, loop_body, in_for, statement_typed, statements_typed, else_typed}
use Rattle.qs_elaborate_limits.specs.Measures.{highest, option_highest}
use Rattle.qs_elaborate_limits.proofs.SourceHeights.{expr_height, initialiser_height, initialisers_height, variable_height, start_height, stmt_height, stmts_height, else_height}
use Rattle.qs_elaborate_limits.proofs.TypedHeights.{height, effect_height, condition_height, statement_height, statements_height}
use Rattle.qs_elaborate_limits.proofs.FormHeights.{height_in_use, value_in_use_low, effect_low, effect_in_use_low, address_low, plain_low}
use Rattle.qs_elaborate_limits.proofs.ExpressionHeights.{local_low, expression_low}

effect_as : (n : ℕ) (x set : Effect) → Some x ≡ Some set → effect_height x ≤ n → effect_height set ≤ n
effect_as n x set e h = subst (λ z. effect_height z ≤ n) (same_Some x set e) h

value_as : (n : ℕ) (x y : Expr) → Some x ≡ Some y → height x ≤ n → height y ≤ n
value_as n x y e h = subst (λ z. height z ≤ n) (same_Some x y e) h

statement_as : (n : ℕ) (x a : Stmt) → Some x ≡ Some a → statement_height x ≤ n → statement_height a ≤ n
statement_as n x a e h = subst (λ z. statement_height z ≤ n) (same_Some x a e) h

-- ---- pieces of an object

abbrev piece_height : Piece → ℕ
piece_height p = expr_height p.expression

pieces_joined : (ps qs : List Piece) → highest piece_height (ps ++ qs) ≡ max (highest piece_height ps) (highest piece_height qs)
pieces_joined [] qs = omega arith
pieces_joined (p ∷ ps) qs = let e = pieces_joined ps qs in omega arith

mutual
  pieces_low :
      (structs : Structs) (init : InitialiserTree) (t : TypeTree) (offset : ℕ) (ps : List Piece) → pieces structs t offset init ≡ Some ps
      → highest piece_height ps ≤ initialiser_height init
  pieces_low structs (trees.value e) t offset ps q = subst (λ z. highest piece_height z ≤ expr_height e) (same_Some _ ps q) (omega arith)
  pieces_low structs (trees.list node is) t offset ps q = elements_low structs is t offset 0 ps q

  elements_low :
      (structs : Structs) (is : Initialisers) (t : TypeTree) (offset k : ℕ) (ps : List Piece) → pieces_from structs t offset k is ≡ Some ps
      → highest piece_height ps ≤ initialisers_height is
  elements_low structs no_initialisers t offset k ps q = subst (λ z. highest piece_height z ≤ 0) (same_Some _ ps q) (omega arith)
  elements_low structs (initialiser_and first is) t offset k ps q =
      let u = followed (part_type structs t k) _ ps q in
      let at = followed (part_offset structs t k) _ ps u.then in
      let now = followed (pieces structs u.value (offset + at.value) first) _ ps at.then in
      let later = followed (pieces_from structs t offset (k + 1) is) _ ps now.then in
      let h = pieces_low structs first u.value (offset + at.value) now.value now.first in
      let i = elements_low structs is t offset (k + 1) later.value later.first in
      let e = pieces_joined now.value later.value in
      subst (λ z. highest piece_height z ≤ max (initialiser_height first) (initialisers_height is)) (same_Some _ ps later.then) (omega arith)

-- ---- what initialises a local, whose place is not high

module _ (s : Scope) where
  assigned_low :
      (part : TypedExpr) (e : ExprTree) (set : Effect) → height_in_use part ≤ 0 → assigned_set s part e ≡ Some set → effect_height set ≤ expr_height e
  assigned_low part e set low q =
      let a = followed (typed s e) _ set q in
      let f = followed (plain_form s.context.structs part a.value) _ set a.then in
      let h = expression_low s e a.value a.first in
      let i = plain_low s.context.structs part a.value f.value f.first in
      let j = effect_low part.type f.value in
      effect_as (expr_height e) _ set f.then (omega arith)

  text_low : (t : TypeTree) (to : Expr) (e : ExprTree) (set : Effect) → height to ≤ 0 → text_set s t to e ≡ Some set → effect_height set ≤ expr_height e
  text_low t to e set low q =
      let bytes = followed (text_of e) _ set q in
      let a = followed (typed s e) _ set bytes.then in
      let from = followed (address_of a.value.form) _ set a.then in
      let h = expression_low s e a.value a.first in
      let i = address_low a.value.form from.value from.first in
      effect_as (expr_height e) _ set from.then (omega arith)

  piece_low : (base : Expr) (p : Piece) (set : Effect) → height base ≤ 0 → piece_set s base p ≡ Some set → effect_height set ≤ piece_height p
  piece_low base p set low q = go (is_array p.type) q
    where
      go : (b : Bool)
          → (if b then text_set s p.type (member p.offset base) p.expression
          else assigned_set s (record { type = p.type; form = lvalue (object (member p.offset base)) }) p.expression) ≡ Some set
          → effect_height set ≤ piece_height p
      go true q = text_low p.type (member p.offset base) p.expression set low q
      go false q = assigned_low (record { type = p.type; form = lvalue (object (member p.offset base)) }) p.expression set low q

  set_low : (base : Expr) (ps : List Piece) (set : Effect) → height base ≤ 0 → pieces_set s base ps ≡ Some set → effect_height set ≤ highest piece_height ps
  set_low base [] set low q = effect_as 0 _ set q (omega arith)
  set_low base (p ∷ ps) set low q =
      let now = followed (piece_set s base p) _ set q in
      let later = followed (pieces_set s base ps) _ set now.then in
      let x = piece_low base p now.value low now.first in
      let y = set_low base ps later.value low later.first in
      effect_as (max (piece_height p) (highest piece_height ps)) _ set later.then (omega arith)

  object_low :
      (a : TypedExpr) (init : InitialiserTree) (set : Effect) → height_in_use a ≤ 0 → object_set s a init ≡ Some set → effect_height set ≤ initialiser_height init
  object_low a init set low q =
      let base = followed (address_of a.form) _ set q in
      let cells = followed (blank_of s.context.structs a.type) _ set base.then in
      let ps = followed (pieces s.context.structs a.type 0 init) _ set cells.then in
      let sets = followed (pieces_set s base.value ps.value) _ set ps.then in
      let h = address_low a.form base.value base.first in
      let i = pieces_low s.context.structs init a.type 0 ps.value ps.first in
      let j = set_low base.value ps.value sets.value (omega arith) sets.first in
      effect_as (initialiser_height init) _ set sets.then (omega arith)

  local_set_low :
      (a : TypedExpr) (init : InitialiserTree) (set : Effect) → height_in_use a ≤ 0 → local_set s a init ≡ Some set → effect_height set ≤ initialiser_height init
  local_set_low a (trees.value e) set low q = go (is_array a.type) q
    where
      go : (b : Bool) → (if b then object_set s a (trees.value e) else assigned_set s a e) ≡ Some set → effect_height set ≤ expr_height e
      go true q = object_low a (trees.value e) set low q
      go false q = assigned_low a e set low q
  local_set_low a (trees.list node is) set low q = object_low a (trees.list node is) set low q

-- ---- variables

initialised_low :
    (s : Scope) (node : ℕ) (t : TypeTree) (init : Option InitialiserTree) (set : Effect) → initialised s node t init ≡ Some set
    → effect_height set ≤ option_highest initialiser_height init
initialised_low s node t None set q = effect_as 0 _ set q (omega arith)
initialised_low s node t (Some init) set q =
    local_set_low s (record { type = t; form = lvalue (local_lvalue s.locals node) }) init set (local_low s.locals node) q

variables_low :
    (vs : List VariableTree) (s : Scope) (base : Base) (set : Effect) → variables_typed s base vs ≡ Some set → effect_height set ≤ highest variable_height vs
variables_low [] s base set q = effect_as 0 _ set q (omega arith)
variables_low (v ∷ vs) s base set q =
    let now = followed (variable_typed s base v) _ set q in
    let later = followed (variables_typed (behind_variable s base v) base vs) _ set now.then in
    let t = followed (variable_declared s.context base v).type _ now.value now.first in
    let x = initialised_low (behind_variable s base v) v.declarator.node.id t.value v.initialiser now.value t.then in
    let y = variables_low vs (behind_variable s base v) base later.value later.first in
    effect_as (max (variable_height v) (highest variable_height vs)) _ set later.then (omega arith)

-- ---- expressions in statements

effect_typed_low : (s : Scope) (e : ExprTree) (set : Effect) → effect_typed s e ≡ Some set → effect_height set ≤ expr_height e
effect_typed_low s e set q =
    let a = followed (typed s e) _ set q in
    let h = expression_low s e a.value a.first in
    let i = effect_in_use_low a.value in
    effect_as (expr_height e) _ set a.then (omega arith)

option_effect_low : (s : Scope) (e : Option ExprTree) (set : Effect) → option_effect s e ≡ Some set → effect_height set ≤ option_highest expr_height e
option_effect_low s None set q = effect_as 0 _ set q (omega arith)
option_effect_low s (Some e) set q = effect_typed_low s e set q

condition_low : (s : Scope) (e : ExprTree) (x : Expr) → condition_typed s e ≡ Some x → height x ≤ expr_height e
condition_low s e x q =
    let a = followed (typed s e) _ x q in
    let h = expression_low s e a.value a.first in
    let i = value_in_use_low a.value in
    value_as (expr_height e) _ x a.then (omega arith)

option_condition_low :
    (s : Scope) (e : Option ExprTree) (x : Option Expr) → option_condition s e ≡ Some x → condition_height x ≤ option_highest expr_height e
option_condition_low s None x q = subst (λ z. condition_height z ≤ 0) (same_Some _ x q) (omega arith)
option_condition_low s (Some e) x q =
    let y = followed (condition_typed s e) _ x q in
    subst (λ z. condition_height z ≤ expr_height e) (same_Some _ x y.then) (condition_low s e y.value y.first)

return_low : (s : Scope) (e : Option ExprTree) (a : Stmt) → return_typed s e ≡ Some a → statement_height a ≤ option_highest expr_height e
return_low s None a q = statement_as 0 _ a q (omega arith)
return_low s (Some e) a q =
    let t = followed s.context.result _ a q in
    let x = followed (typed s e) _ a t.then in
    let h = expression_low s e x.value x.first in
    let i = value_in_use_low x.value in
    statement_as (expr_height e) _ a x.then (omega arith)

start_typed_low : (s : Scope) (start : StartTree) (set : Effect) → start_typed s start ≡ Some set → effect_height set ≤ start_height start
start_typed_low s no_start set q = effect_as 0 _ set q (omega arith)
start_typed_low s (start_expression e) set q = effect_typed_low s e set q
start_typed_low s (start_declaration d) set q = variables_low d.variables s d.base set q

-- ---- statements

mutual
  statement_low : (t : StmtTree) (s : Scope) (a : Stmt) → statement_typed s t ≡ Some a → statement_height a ≤ stmt_height t
  statement_low (empty node) s a q = statement_as 0 _ a q (omega arith)
  statement_low (expression node e) s a q =
      let set = followed (effect_typed s e) _ a q in
      statement_as (expr_height e) _ a set.then (effect_typed_low s e set.value set.first)
  statement_low (declaration d) s a q =
      let set = followed (variables_typed s d.base d.variables) _ a q in
      statement_as (highest variable_height d.variables) _ a set.then (variables_low d.variables s d.base set.value set.first)
  statement_low (block ss) s a q =
      let rest = followed (statements_typed (inner s) ss) _ a q in
      statement_as (stmts_height ss) _ a rest.then (statements_low ss (inner s) rest.value rest.first)
  statement_low (switch node e ss) s a q =
      let x = followed (typed s e) _ a q in
      let y = followed (statements_typed (in_switch s e) ss) _ a x.then in
      let h = expression_low s e x.value x.first in
      let i = value_in_use_low x.value in
      let j = statements_low ss (in_switch s e) y.value y.first in
      statement_as (1 + max (expr_height e) (stmts_height ss)) _ a y.then (omega arith)
  statement_low (case_label node e) s a q = let n = followed (constant_of s.context e) _ a q in statement_as 0 _ a n.then (omega arith)
  statement_low (default_label node) s a q = statement_as 0 _ a q (omega arith)
  statement_low (branch node e t r) s a q =
      let x = followed (condition_typed s e) _ a q in
      let y = followed (statement_typed (inner s) t) _ a x.then in
      let z = followed (else_typed s r) _ a y.then in
      let i = condition_low s e x.value x.first in
      let j = statement_low t (inner s) y.value y.first in
      let k = else_low r s z.value z.first in
      statement_as (1 + max (expr_height e) (max (stmt_height t) (else_height r))) _ a z.then (omega arith)
  statement_low (while_loop node e t) s a q =
      let x = followed (condition_typed s e) _ a q in
      let y = followed (statement_typed (loop_body s) t) _ a x.then in
      let i = condition_low s e x.value x.first in
      let j = statement_low t (loop_body s) y.value y.first in
      statement_as (1 + max (expr_height e) (stmt_height t)) _ a y.then (omega arith)
  statement_low (do_loop node t e) s a q =
      let y = followed (statement_typed (loop_body s) t) _ a q in
      let x = followed (condition_typed s e) _ a y.then in
      let j = statement_low t (loop_body s) y.value y.first in
      let i = condition_low s e x.value x.first in
      statement_as (1 + max (stmt_height t) (expr_height e)) _ a x.then (omega arith)
  statement_low (for_loop node start e u t) s a q =
      let behind = in_for s start in
      let w = followed (start_typed (inner s) start) _ a q in
      let x = followed (option_condition behind e) _ a w.then in
      let y = followed (option_effect behind u) _ a x.then in
      let z = followed (statement_typed (loop_body behind) t) _ a y.then in
      let h = start_typed_low (inner s) start w.value w.first in
      let i = option_condition_low behind e x.value x.first in
      let j = option_effect_low behind u y.value y.first in
      let k = statement_low t (loop_body behind) z.value z.first in
      statement_as (1 + max (start_height start) (max (option_highest expr_height e) (max (option_highest expr_height u) (stmt_height t)))) _ a z.then (omega arith)
  statement_low (break node) s a q = statement_as 0 _ a q (omega arith)
  statement_low (continue node) s a q = statement_as 0 _ a q (omega arith)
  statement_low (return node e) s a q = return_low s e a q

  pub statements_low : (ss : Stmts) (s : Scope) (list : typed_trees.Stmts) → statements_typed s ss ≡ Some list → statements_height list ≤ stmts_height ss
  statements_low no_stmts s list q = subst (λ z. statements_height z ≤ 0) (same_Some _ list q) (omega arith)
  statements_low (stmt_and t ts) s list q =
      let after = within s (after_statement s.context t) in
      let x = followed (statement_typed s t) _ list q in
      let y = followed (statements_typed after ts) _ list x.then in
      let i = statement_low t s x.value x.first in
      let j = statements_low ts after y.value y.first in
      subst (λ z. statements_height z ≤ max (stmt_height t) (stmts_height ts)) (same_Some _ list y.then) (omega arith)

  else_low : (r : Else) (s : Scope) (a : Stmt) → else_typed s r ≡ Some a → statement_height a ≤ else_height r
  else_low no_else s a q = statement_as 0 _ a q (omega arith)
  else_low (else_by t) s a q = statement_low t (inner s) a q
