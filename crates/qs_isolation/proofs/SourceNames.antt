-- What the typed tree of a function names, its source names: where the variables that the source names are kept, the typed tree stays in the reach.
use Rattle.std.proofs.Common.{◌≡◌, ℕ, ◌+◌, ◌≤◌, ◌&&◌, Bool, true, false, List, [], ◌∷◌, ◌++◌, length, Option, Some, None, refl, sym, ap, ◌∙◌, subst, arith, if◌then◌else◌}
use Rattle.std.specs.List.{list_all}
use Rattle.std.proofs.lemmas.Bool.{and_parts, and_from}
use Rattle.std.proofs.lemmas.List.Folds.{list_all-append}
use Rattle.std.proofs.lemmas.Option.{same_Some}
use Rattle.qs_syntax.specs.declared.types.Base.{Base}
use Rattle.qs_syntax.specs.declared.nodes.Node.{Node}
use Rattle.qs_syntax_vocabulary.specs.declared.operators.UnaryOperator.{UnaryOperator}
use Rattle.qs_syntax_vocabulary.specs.declared.operators.UnaryOperator.TheVariants as unaries
use Rattle.qs_syntax_vocabulary.specs.declared.operators.StepOperator.{StepOperator}
use Rattle.qs_syntax_vocabulary.specs.declared.operators.StepOperator.TheVariants as steps
use Rattle.qs_syntax_vocabulary.specs.declared.operators.BinaryOperator.{BinaryOperator}
use Rattle.qs_syntax_vocabulary.specs.declared.operators.BinaryOperator.TheVariants as binaries
use Rattle.qs_syntax_vocabulary.specs.declared.operators.AssignmentOperator.{AssignmentOperator}
use Rattle.qs_syntax_vocabulary.specs.declared.operators.AssignmentOperator.TheVariants as assigns
use Rattle.qs_syntax_vocabulary.specs.declared.operators.Access.{Access}
use Rattle.qs_syntax_vocabulary.specs.declared.operators.Access.TheVariants as accesses
use Rattle.qs_syntax.specs.Trees.{ExprTree, expr, ShapeTree, Exprs, no_exprs, expr_and, InitialiserTree, Initialisers, no_initialisers, initialiser_and, VariableTree, StartTree, no_start, start_expression, start_declaration, StmtTree, Else, no_else, else_by}
use Rattle.qs_syntax.specs.Trees as trees
use Rattle.qs_memory.proofs.Options.{followed}
use Rattle.qs_calls.specs.declared.callee.Callee.{Callee}
use Rattle.qs_calls.specs.declared.callee.Callee.TheVariants as callees
use Rattle.qs_types.specs.Types.{TypeTree, int, unsigned, char, void, pointer, array, struct, is_struct, is_array, Structs}
use Rattle.qs_types.specs.Layout.{extent_of, size_of}
use Rattle.qs_types.specs.Contexts.{Entity, local_variable, file_variable, function, given, Context, entity_of, named_type, inner_scope}
use Rattle.qs_types.specs.Constants.{constant_of}
use Rattle.qs_types.specs.Declarations.{variable_declared, text_of}
use Rattle.qs_types.specs.Expressions.{type_of}
use Rattle.qs_types.specs.InitialiserRules.{part_type}
use Rattle.qs_types.specs.Placed.{is_one_of}
use Rattle.qs_types.specs.Referents.{referent, referent_of}
use Rattle.qs_types.specs.StatementRules.{after_variable, after_statement}
use Rattle.qs_types.specs.declared.referent.Referent.{Referent}
use Rattle.qs_types.specs.declared.referent.Referent.TheVariants as referents
use Rattle.qs_typing_findings.specs.ExprFindings.{of_nodes, of_parts, of_all}
use Rattle.qs_typing_findings.specs.UnitNodes.{of_option, of_declarator, of_initialiser, of_initialisers, of_option_initialiser, of_variables, of_start, of_statement, of_statements, of_else}
use Rattle.qs_typing_findings.specs.NodeReferents.{no_referent}
use Rattle.qs_meaning.specs.Typed.{Expr, member, Lvalue, Arguments, Effect, Stmt, Stmts, local, pointer_to, variable, object}
use Rattle.qs_meaning.specs.Forms.{Form, lvalue, result, call, assignment, step, struct_assignment, comma, TypedExpr, lvalue_of, address_in, address_of, place_of, value_in, value_of, effect_of, type_in_use, value_in_use, effect_in_use}
use Rattle.qs_meaning.specs.Names.{Locals, Scope, within, place_among, local_lvalue, entity_lvalue, name_lvalue, designated}
use Rattle.qs_meaning.specs.Operations.{operation_of}
use Rattle.qs_meaning.specs.Expressions.{text_form, name_form, object_at, operated, operator_value, subscript_form, arguments_of, call_form, member_offset, member_form, set_form, struct_form, plain_form, compound_form, assign_form, one, step_after_form, step_form, unary_form, size_form, operator_form, binary_form, typed, form_of, all_typed}
use Rattle.qs_meaning.specs.Initialisers.{Piece, part_offset, pieces, pieces_from, text_set, assigned_set, piece_set, pieces_set, object_set, local_set}
use Rattle.qs_meaning.specs.Blanks.{blank_of}
use Rattle.qs_meaning.specs.Statements.{initialised, behind_variable, variable_typed, variables_typed, effect_typed, option_effect, condition_typed, option_condition, start_typed, return_typed, inner, in_switch, loop_body, in_for, statement_typed, statements_typed, else_typed}
use Rattle.qs_hiding.specs.Hidden.{Reach, callee_stays, expression_stays, lvalue_stays, arguments_stay, assignment_stays, effect_stays, condition_stays, statement_stays, statements_stay}

-- whether what a name stands for is kept
abbrev pub is_kept : Reach → (variables : List ℕ) → Option Referent → Bool
is_kept r vs None = true
is_kept r vs (Some (referents.Local node)) = true
is_kept r vs (Some (referents.File node)) = r.keeps (place_among node vs)
is_kept r vs (Some (referents.Function node)) = true
is_kept r vs (Some referents.PutChar) = true
is_kept r vs (Some referents.GetChar) = true

-- every function may be called, and what is no variable is kept
module _ (r : Reach) (vs : List ℕ) (calls : (f : ℕ) → r.may_call f ≡ true) (others : (b : ℕ) → length vs ≤ b → r.keeps b ≡ true) where
  abbrev K : Option Referent → Bool
  K = is_kept r vs

  abbrev AllKept : List (Option Referent) → Type 0
  AllKept rs = list_all K rs ≡ true

  kept_parts : (ls bs : List (Option Referent)) → AllKept (ls ++ bs) → AllKept ls × AllKept bs
  kept_parts ls bs h = and_parts (list_all K ls) (list_all K bs) (sym (list_all-append K ls bs) ∙ h)

  abbrev Named : Context → ExprTree → Type 0
  Named c e = AllKept (of_nodes (referent_of c) e)

  -- the scope has the variables of the unit
  abbrev Has : Scope → Type 0
  Has s = s.statics.variables ≡ vs

  -- ---- forms

  abbrev form_stays : Form → Bool
  form_stays (lvalue l) = lvalue_stays r l
  form_stays (result e) = expression_stays r e
  form_stays (call f es) = arguments_stay r es
  form_stays (assignment a) = assignment_stays r a
  form_stays (step a before) = assignment_stays r a && expression_stays r before
  form_stays (struct_assignment size alignment to from) = expression_stays r to && expression_stays r from
  form_stays (comma a t b) = effect_stays r a && form_stays b

  abbrev FormStays : Form → Type 0
  FormStays f = form_stays f ≡ true

  abbrev ExprStays : Expr → Type 0
  ExprStays e = expression_stays r e ≡ true

  abbrev EffectStays : Effect → Type 0
  EffectStays a = effect_stays r a ≡ true

  callee_may : (f : Callee) → callee_stays r f ≡ true
  callee_may (callees.Function f) = calls f.0
  callee_may callees.PutChar = refl
  callee_may callees.GetChar = refl

  place_stays : (t : TypeTree) (l : Lvalue) → lvalue_stays r l ≡ true → ExprStays (place_of t l)
  place_stays t (variable x) h = refl
  place_stays t (object p) h = h

  lvalue_value : (t : TypeTree) (l : Lvalue) → lvalue_stays r l ≡ true → ExprStays (value_in t l)
  lvalue_value int l h = h
  lvalue_value unsigned l h = h
  lvalue_value char l h = h
  lvalue_value void l h = place_stays void l h
  lvalue_value (pointer t) l h = h
  lvalue_value (array t n) l h = place_stays (array t n) l h
  lvalue_value (struct k) l h = place_stays (struct k) l h

  value_stays_of : (t : TypeTree) (f : Form) → FormStays f → ExprStays (value_of t f)
  value_stays_of t (lvalue l) h = lvalue_value t l h
  value_stays_of t (result e) h = h
  value_stays_of t (call f es) h = and_from (callee_stays r f) (arguments_stay r es) (callee_may f) h
  value_stays_of t (assignment a) h = h
  value_stays_of t (step a before) h = (and_parts (assignment_stays r a) (expression_stays r before) h).1
  value_stays_of t (struct_assignment size alignment to from) h =
      and_from (expression_stays r to && expression_stays r from) (expression_stays r to) h (and_parts (expression_stays r to) (expression_stays r from) h).0
  value_stays_of t (comma a u b) h =
      let two = and_parts (effect_stays r a) (form_stays b) h in
      and_from (effect_stays r a) (expression_stays r (value_of u b)) two.0 (value_stays_of u b two.1)

  effect_stays_of : (t : TypeTree) (f : Form) → FormStays f → EffectStays (effect_of t f)
  effect_stays_of t (lvalue l) h = lvalue_value t l h
  effect_stays_of t (result e) h = h
  effect_stays_of t (call f es) h = and_from (callee_stays r f) (arguments_stay r es) (callee_may f) h
  effect_stays_of t (assignment a) h = h
  effect_stays_of t (step a before) h = (and_parts (assignment_stays r a) (expression_stays r before) h).0
  effect_stays_of t (struct_assignment size alignment to from) h = h
  effect_stays_of t (comma a u b) h =
      let two = and_parts (effect_stays r a) (form_stays b) h in
      and_from (effect_stays r a) (effect_stays r (effect_of u b)) two.0 (effect_stays_of u b two.1)

  lvalue_of_stays : (f : Form) (l : Lvalue) → lvalue_of f ≡ Some l → FormStays f → lvalue_stays r l ≡ true
  lvalue_of_stays (lvalue k) l e h = subst (λ (x : Lvalue). lvalue_stays r x ≡ true) (same_Some k l e) h
  lvalue_of_stays (result a) l e h = cc
  lvalue_of_stays (call f es) l e h = cc
  lvalue_of_stays (assignment a) l e h = cc
  lvalue_of_stays (step a before) l e h = cc
  lvalue_of_stays (struct_assignment size alignment to from) l e h = cc
  lvalue_of_stays (comma a t b) l e h = cc

  address_in_stays : (l : Lvalue) (p : Expr) → address_in l ≡ Some p → lvalue_stays r l ≡ true → ExprStays p
  address_in_stays (variable x) p e h = cc
  address_in_stays (object q) p e h = subst ExprStays (same_Some q p e) h

  address_stays : (f : Form) (p : Expr) → address_of f ≡ Some p → FormStays f → ExprStays p
  address_stays f p e h = let a = followed (lvalue_of f) address_in p e in address_in_stays a.value p a.then (lvalue_of_stays f a.value a.first h)

  -- an expression with its type
  abbrev TypedStays : TypedExpr → Type 0
  TypedStays a = FormStays a.form

  use_stays : (a : TypedExpr) → TypedStays a → ExprStays (value_in_use a)
  use_stays a h = value_stays_of a.type a.form h

  -- ---- the form of each expression

  operator_value_stays : (structs : Structs) (op : BinaryOperator) (a b : TypedExpr) (e : Expr) → operator_value structs op a b ≡ Some e → TypedStays a → TypedStays b → ExprStays e
  operator_value_stays structs op a b e is h k =
      let o = followed (operation_of structs op (type_in_use a) (type_in_use b)) (λ o. Some (operated o a b)) e is in
      subst ExprStays (same_Some (operated o.value a b) e o.then) (and_from (expression_stays r (value_in_use a)) (expression_stays r (value_in_use b)) (use_stays a h) (use_stays b k))

  subscript_stays : (structs : Structs) (a b : TypedExpr) (f : Form) → subscript_form structs a b ≡ Some f → TypedStays a → TypedStays b → FormStays f
  subscript_stays structs a b f is h k =
      let e = followed (operator_value structs binaries.Add a b) (λ sum. Some (object_at sum)) f is in
      subst FormStays (same_Some (object_at e.value) f e.then) (operator_value_stays structs binaries.Add a b e.value e.first h k)

  operator_stays : (structs : Structs) (op : BinaryOperator) (a b : TypedExpr) (f : Form) → operator_form structs op a b ≡ Some f → TypedStays a → TypedStays b → FormStays f
  operator_stays structs op a b f is h k =
      let e = followed (operator_value structs op a b) (λ e. Some (result e)) f is in
      subst FormStays (same_Some (result e.value) f e.then) (operator_value_stays structs op a b e.value e.first h k)

  both_values : (a b : TypedExpr) → TypedStays a → TypedStays b → (expression_stays r (value_in_use a) && expression_stays r (value_in_use b)) ≡ true
  both_values a b h k = and_from (expression_stays r (value_in_use a)) (expression_stays r (value_in_use b)) (use_stays a h) (use_stays b k)

  binary_stays : (structs : Structs) (op : BinaryOperator) (a b : TypedExpr) (f : Form) → binary_form structs op a b ≡ Some f → TypedStays a → TypedStays b → FormStays f
  binary_stays structs binaries.And a b f is h k = subst FormStays (same_Some _ f is) (both_values a b h k)
  binary_stays structs binaries.Or a b f is h k = subst FormStays (same_Some _ f is) (both_values a b h k)
  binary_stays structs binaries.Multiply a b f is h k = operator_stays structs binaries.Multiply a b f is h k
  binary_stays structs binaries.Divide a b f is h k = operator_stays structs binaries.Divide a b f is h k
  binary_stays structs binaries.Remainder a b f is h k = operator_stays structs binaries.Remainder a b f is h k
  binary_stays structs binaries.Add a b f is h k = operator_stays structs binaries.Add a b f is h k
  binary_stays structs binaries.Subtract a b f is h k = operator_stays structs binaries.Subtract a b f is h k
  binary_stays structs binaries.ShiftLeft a b f is h k = operator_stays structs binaries.ShiftLeft a b f is h k
  binary_stays structs binaries.ShiftRight a b f is h k = operator_stays structs binaries.ShiftRight a b f is h k
  binary_stays structs binaries.Less a b f is h k = operator_stays structs binaries.Less a b f is h k
  binary_stays structs binaries.Greater a b f is h k = operator_stays structs binaries.Greater a b f is h k
  binary_stays structs binaries.LessEqual a b f is h k = operator_stays structs binaries.LessEqual a b f is h k
  binary_stays structs binaries.GreaterEqual a b f is h k = operator_stays structs binaries.GreaterEqual a b f is h k
  binary_stays structs binaries.Equal a b f is h k = operator_stays structs binaries.Equal a b f is h k
  binary_stays structs binaries.NotEqual a b f is h k = operator_stays structs binaries.NotEqual a b f is h k
  binary_stays structs binaries.BitAnd a b f is h k = operator_stays structs binaries.BitAnd a b f is h k
  binary_stays structs binaries.BitXor a b f is h k = operator_stays structs binaries.BitXor a b f is h k
  binary_stays structs binaries.BitOr a b f is h k = operator_stays structs binaries.BitOr a b f is h k

  abbrev AllTyped : List TypedExpr → Type 0
  AllTyped [] = Unit {0}
  AllTyped (a ∷ rest) = TypedStays a × AllTyped rest

  arguments_stay_of : (ts : List TypeTree) (args : List TypedExpr) (es : Arguments) → arguments_of ts args ≡ Some es → AllTyped args → arguments_stay r es ≡ true
  arguments_stay_of [] [] es is h = subst (λ (x : Arguments). arguments_stay r x ≡ true) (same_Some _ es is) refl
  arguments_stay_of [] (a ∷ rest) es is h = cc
  arguments_stay_of (t ∷ ts) [] es is h = cc
  arguments_stay_of (t ∷ ts) (a ∷ rest) es is h =
      let l = followed (arguments_of ts rest) _ es is in
      subst (λ (x : Arguments). arguments_stay r x ≡ true) (same_Some _ es l.then)
      (and_from (expression_stays r (value_in_use a)) (arguments_stay r l.value) (use_stays a h.0) (arguments_stay_of ts rest l.value l.first h.1))

  call_stays : (s : Scope) (x : List ℕ) (args : List TypedExpr) (f : Form) → call_form s x args ≡ Some f → AllTyped args → FormStays f
  call_stays s x args f is h =
      let d = followed (designated s x) _ f is in
      let es = followed (arguments_of d.value.parameters args) _ f d.then in
      subst FormStays (same_Some _ f es.then) (arguments_stay_of d.value.parameters args es.value es.first h)

  member_stays : (structs : Structs) (access : Access) (a : TypedExpr) (x : List ℕ) (f : Form) → member_form structs access a x ≡ Some f → TypedStays a → FormStays f
  member_stays structs accesses.Dot a x f is h =
      let base = followed (address_of a.form) _ f is in
      let offset = followed (member_offset structs a.type x) _ f base.then in
      subst FormStays (same_Some _ f offset.then) (address_stays a.form base.value base.first h)
  member_stays structs accesses.Arrow a x f is h =
      let offset = followed (member_offset structs _ x) _ f is in
      subst FormStays (same_Some _ f offset.then) (use_stays a h)

  set_stays : (a b : TypedExpr) (f : Form) → set_form a b ≡ Some f → TypedStays a → TypedStays b → FormStays f
  set_stays a b f is h k =
      let l = followed (lvalue_of a.form) _ f is in
      subst FormStays (same_Some _ f l.then) (and_from (lvalue_stays r l.value) (expression_stays r (value_in_use b)) (lvalue_of_stays a.form l.value l.first h) (use_stays b k))

  struct_stays : (structs : Structs) (a b : TypedExpr) (f : Form) → struct_form structs a b ≡ Some f → TypedStays a → TypedStays b → FormStays f
  struct_stays structs a b f is h k =
      let e = followed (extent_of structs a.type) _ f is in
      let to = followed (address_of a.form) _ f e.then in
      let from = followed (address_of b.form) _ f to.then in
      subst FormStays (same_Some _ f from.then)
      (and_from (expression_stays r to.value) (expression_stays r from.value) (address_stays a.form to.value to.first h) (address_stays b.form from.value from.first k))

  plain_stays : (structs : Structs) (a b : TypedExpr) (f : Form) → plain_form structs a b ≡ Some f → TypedStays a → TypedStays b → FormStays f
  plain_stays structs a b f is h k = by (is_struct a.type) is
    where
      by : (t : Bool) → (if t then struct_form structs a b else set_form a b) ≡ Some f → FormStays f
      by true e = struct_stays structs a b f e h k
      by false e = set_stays a b f e h k

  compound_stays : (structs : Structs) (op : BinaryOperator) (a b : TypedExpr) (f : Form) → compound_form structs op a b ≡ Some f → TypedStays a → TypedStays b → FormStays f
  compound_stays structs op a b f is h k =
      let l = followed (lvalue_of a.form) _ f is in
      let o = followed (operation_of structs op a.type (type_in_use b)) _ f l.then in
      subst FormStays (same_Some _ f o.then) (and_from (lvalue_stays r l.value) (expression_stays r (value_in_use b)) (lvalue_of_stays a.form l.value l.first h) (use_stays b k))

  assign_stays : (structs : Structs) (op : AssignmentOperator) (a b : TypedExpr) (f : Form) → assign_form structs op a b ≡ Some f → TypedStays a → TypedStays b → FormStays f
  assign_stays structs assigns.Plain a b f is h k = plain_stays structs a b f is h k
  assign_stays structs assigns.Multiply a b f is h k = compound_stays structs binaries.Multiply a b f is h k
  assign_stays structs assigns.Divide a b f is h k = compound_stays structs binaries.Divide a b f is h k
  assign_stays structs assigns.Remainder a b f is h k = compound_stays structs binaries.Remainder a b f is h k
  assign_stays structs assigns.Add a b f is h k = compound_stays structs binaries.Add a b f is h k
  assign_stays structs assigns.Subtract a b f is h k = compound_stays structs binaries.Subtract a b f is h k
  assign_stays structs assigns.ShiftLeft a b f is h k = compound_stays structs binaries.ShiftLeft a b f is h k
  assign_stays structs assigns.ShiftRight a b f is h k = compound_stays structs binaries.ShiftRight a b f is h k
  assign_stays structs assigns.BitAnd a b f is h k = compound_stays structs binaries.BitAnd a b f is h k
  assign_stays structs assigns.BitXor a b f is h k = compound_stays structs binaries.BitXor a b f is h k
  assign_stays structs assigns.BitOr a b f is h k = compound_stays structs binaries.BitOr a b f is h k

  step_after_stays : (structs : Structs) (op : BinaryOperator) (a : TypedExpr) (f : Form) → step_after_form structs op a ≡ Some f → TypedStays a → FormStays f
  step_after_stays structs op a f is h =
      let l = followed (lvalue_of a.form) _ f is in
      let o = followed (operation_of structs op a.type int) _ f l.then in
      let stays = lvalue_of_stays a.form l.value l.first h in
      subst FormStays (same_Some _ f o.then) (and_from (lvalue_stays r l.value && true) (lvalue_stays r l.value) (and_from (lvalue_stays r l.value) true stays refl) stays)

  step_stays : (structs : Structs) (op : StepOperator) (a : TypedExpr) (f : Form) → step_form structs op a ≡ Some f → TypedStays a → FormStays f
  step_stays structs steps.IncrementBefore a f is h = compound_stays structs binaries.Add a one f is h refl
  step_stays structs steps.DecrementBefore a f is h = compound_stays structs binaries.Subtract a one f is h refl
  step_stays structs steps.IncrementAfter a f is h = step_after_stays structs binaries.Add a f is h
  step_stays structs steps.DecrementAfter a f is h = step_after_stays structs binaries.Subtract a f is h

  unary_stays : (op : UnaryOperator) (a : TypedExpr) (f : Form) → unary_form op a ≡ Some f → TypedStays a → FormStays f
  unary_stays unaries.Address a f is h =
      let p = followed (address_of a.form) _ f is in
      subst FormStays (same_Some _ f p.then) (address_stays a.form p.value p.first h)
  unary_stays unaries.Indirect a f is h = subst FormStays (same_Some _ f is) (use_stays a h)
  unary_stays unaries.Plus a f is h = subst FormStays (same_Some _ f is) (use_stays a h)
  unary_stays unaries.Minus a f is h = subst FormStays (same_Some _ f is) (use_stays a h)
  unary_stays unaries.Complement a f is h = subst FormStays (same_Some _ f is) (use_stays a h)
  unary_stays unaries.Not a f is h = subst FormStays (same_Some _ f is) (use_stays a h)

  size_stays : (structs : Structs) (t : TypeTree) (f : Form) → size_form structs t ≡ Some f → FormStays f
  size_stays structs t f is = let n = followed (size_of structs t) _ f is in subst FormStays (same_Some _ f n.then) refl

  -- ---- names

  local_stays : (locals : Locals) (node : ℕ) → lvalue_stays r (local_lvalue locals node) ≡ true
  local_stays locals node = by (is_one_of node locals.placed)
    where
      by : (b : Bool) → lvalue_stays r (if b then object (pointer_to (local (place_among node locals.placed))) else variable (place_among node locals.variables)) ≡ true
      by true = refl
      by false = refl

  entity_stays : (s : Scope) → Has s → (x : List ℕ) (o : Entity) (l : Lvalue) → entity_lvalue s o ≡ Some l → K (referent x (Some o)) ≡ true → lvalue_stays r l ≡ true
  entity_stays s has x (local_variable node t) l is k = subst (λ (y : Lvalue). lvalue_stays r y ≡ true) (same_Some _ l is) (local_stays s.locals node)
  entity_stays s has x (file_variable node t) l is k =
      subst (λ (y : Lvalue). lvalue_stays r y ≡ true) (same_Some _ l is) (subst (λ (ns : List ℕ). r.keeps (place_among node ns) ≡ true) (sym has) k)
  entity_stays s has x (function node signature body) l is k = cc
  entity_stays s has x (given signature) l is k = cc

  name_stays : (s : Scope) → Has s → (x : List ℕ) (f : Form) → name_form s x ≡ Some f → K (referent x (entity_of s.context x)) ≡ true → FormStays f
  name_stays s has x f is k =
      let l = followed (name_lvalue s x) _ f is in
      let o = followed (entity_of s.context x) _ l.value l.first in
      subst FormStays (same_Some _ f l.then) (entity_stays s has x o.value l.value o.then (subst (λ (e : Option Entity). K (referent x e) ≡ true) o.first k))

  text_stays : (s : Scope) → Has s → (node : Node) → FormStays (text_form s node)
  text_stays s has node = let long = ap length has in others (length s.statics.variables + place_among node.id s.statics.texts) (omega (arith, long))

  -- ---- expressions

  mutual
    typed_stays : (s : Scope) → Has s → (e : ExprTree) (a : TypedExpr) → typed s e ≡ Some a → Named s.context e → TypedStays a
    typed_stays s has (expr node shape) a is k =
        let t = followed (type_of s.context (expr node shape)) _ a is in
        let f = followed (form_of s node shape) _ a t.then in
        subst TypedStays (same_Some _ a f.then) (form_stays_of s has node shape f.value f.first k)

    form_stays_of : (s : Scope) → Has s → (node : Node) (shape : ShapeTree) (f : Form) → form_of s node shape ≡ Some f
        → AllKept (referent_of s.context (expr node shape) ∷ of_parts (referent_of s.context) shape) → FormStays f
    form_stays_of s has node (trees.constant n u) f is k = subst FormStays (same_Some _ f is) refl
    form_stays_of s has node (trees.text bytes) f is k = subst FormStays (same_Some _ f is) (text_stays s has node)
    form_stays_of s has node (trees.name x) f is k = name_stays s has x f is (and_parts (K (referent x (entity_of s.context x))) true k).0
    form_stays_of s has node (trees.subscript a b) f is k =
        let two = kept_parts (of_nodes (referent_of s.context) a) (of_nodes (referent_of s.context) b) k in
        let l = followed (typed s a) _ f is in
        let m = followed (typed s b) _ f l.then in
        subscript_stays s.context.structs l.value m.value f m.then (typed_stays s has a l.value l.first two.0) (typed_stays s has b m.value m.first two.1)
    form_stays_of s has node (trees.call x es) f is k =
        let l = followed (all_typed s es) _ f is in
        call_stays s x l.value f l.then (all_stay s has es l.value l.first (and_parts (K (referent x (entity_of s.context x))) _ k).1)
    form_stays_of s has node (trees.member access a x) f is k =
        let l = followed (typed s a) _ f is in member_stays s.context.structs access l.value x f l.then (typed_stays s has a l.value l.first k)
    form_stays_of s has node (trees.step operator a) f is k =
        let l = followed (typed s a) _ f is in step_stays s.context.structs operator l.value f l.then (typed_stays s has a l.value l.first k)
    form_stays_of s has node (trees.unary operator a) f is k =
        let l = followed (typed s a) _ f is in unary_stays operator l.value f l.then (typed_stays s has a l.value l.first k)
    form_stays_of s has node (trees.sizeof_expr a) f is k = let t = followed (type_of s.context a) _ f is in size_stays s.context.structs t.value f t.then
    form_stays_of s has node (trees.sizeof_type n) f is k = let t = followed (named_type s.context n) _ f is in size_stays s.context.structs t.value f t.then
    form_stays_of s has node (trees.cast n a) f is k =
        let t = followed (named_type s.context n) _ f is in
        let l = followed (typed s a) _ f t.then in
        subst FormStays (same_Some _ f l.then) (use_stays l.value (typed_stays s has a l.value l.first k))
    form_stays_of s has node (trees.binary operator a b) f is k =
        let two = kept_parts (of_nodes (referent_of s.context) a) (of_nodes (referent_of s.context) b) k in
        let l = followed (typed s a) _ f is in
        let m = followed (typed s b) _ f l.then in
        binary_stays s.context.structs operator l.value m.value f m.then (typed_stays s has a l.value l.first two.0) (typed_stays s has b m.value m.first two.1)
    form_stays_of s has node (trees.conditional d a b) f is k =
        let three = kept_parts (of_nodes (referent_of s.context) d) (of_nodes (referent_of s.context) a ++ of_nodes (referent_of s.context) b) k in
        let two = kept_parts (of_nodes (referent_of s.context) a) (of_nodes (referent_of s.context) b) three.1 in
        let n = followed (typed s d) _ f is in
        let l = followed (typed s a) _ f n.then in
        let m = followed (typed s b) _ f l.then in
        subst FormStays (same_Some _ f m.then)
        (and_from (expression_stays r (value_in_use n.value)) (expression_stays r (value_in_use l.value) && expression_stays r (value_in_use m.value))
        (use_stays n.value (typed_stays s has d n.value n.first three.0))
        (both_values l.value m.value (typed_stays s has a l.value l.first two.0) (typed_stays s has b m.value m.first two.1)))
    form_stays_of s has node (trees.assign operator a b) f is k =
        let two = kept_parts (of_nodes (referent_of s.context) a) (of_nodes (referent_of s.context) b) k in
        let l = followed (typed s a) _ f is in
        let m = followed (typed s b) _ f l.then in
        assign_stays s.context.structs operator l.value m.value f m.then (typed_stays s has a l.value l.first two.0) (typed_stays s has b m.value m.first two.1)
    form_stays_of s has node (trees.comma a b) f is k =
        let two = kept_parts (of_nodes (referent_of s.context) a) (of_nodes (referent_of s.context) b) k in
        let l = followed (typed s a) _ f is in
        let m = followed (typed s b) _ f l.then in
        subst FormStays (same_Some _ f m.then)
        (and_from (effect_stays r (effect_in_use l.value)) (form_stays m.value.form) (effect_stays_of l.value.type l.value.form (typed_stays s has a l.value l.first two.0))
        (typed_stays s has b m.value m.first two.1))

    all_stay : (s : Scope) → Has s → (es : Exprs) (args : List TypedExpr) → all_typed s es ≡ Some args → AllKept (of_all (referent_of s.context) es) → AllTyped args
    all_stay s has no_exprs args is k = subst AllTyped (same_Some _ args is) tt
    all_stay s has (expr_and e es) args is k =
        let two = kept_parts (of_nodes (referent_of s.context) e) (of_all (referent_of s.context) es) k in
        let a = followed (typed s e) _ args is in
        let rest = followed (all_typed s es) _ args a.then in
        subst AllTyped (same_Some _ args rest.then) (typed_stays s has e a.value a.first two.0, all_stay s has es rest.value rest.first two.1)

  -- ---- initialisers

  abbrev AllNamed : Context → List Piece → Type 0
  AllNamed c [] = Unit {0}
  AllNamed c (p ∷ ps) = Named c p.expression × AllNamed c ps

  named_more : (c : Context) (ps qs : List Piece) → AllNamed c ps → AllNamed c qs → AllNamed c (ps ++ qs)
  named_more c [] qs h k = k
  named_more c (p ∷ ps) qs h k = (h.0, named_more c ps qs h.1 k)

  mutual
    pieces_named : (c : Context) (structs : Structs) (t : TypeTree) (offset : ℕ) (i : InitialiserTree) (ps : List Piece) → pieces structs t offset i ≡ Some ps
        → AllKept (of_initialiser no_referent referent_of c i) → AllNamed c ps
    pieces_named c structs t offset (trees.value e) ps is k = subst (AllNamed c) (same_Some _ ps is) (k, tt)
    pieces_named c structs t offset (trees.list node is) ps e k = pieces_from_named c structs t offset 0 is ps e k

    pieces_from_named : (c : Context) (structs : Structs) (t : TypeTree) (offset i : ℕ) (is : Initialisers) (ps : List Piece) → pieces_from structs t offset i is ≡ Some ps
        → AllKept (of_initialisers no_referent referent_of c is) → AllNamed c ps
    pieces_from_named c structs t offset i no_initialisers ps e k = subst (AllNamed c) (same_Some _ ps e) tt
    pieces_from_named c structs t offset i (initialiser_and first rest) ps e k =
        let two = kept_parts (of_initialiser no_referent referent_of c first) (of_initialisers no_referent referent_of c rest) k in
        let u = followed (part_type structs t i) _ ps e in
        let at = followed (part_offset structs t i) _ ps u.then in
        let now = followed (pieces structs u.value (offset + at.value) first) _ ps at.then in
        let later = followed (pieces_from structs t offset (i + 1) rest) _ ps now.then in
        subst (AllNamed c) (same_Some _ ps later.then)
        (named_more c now.value later.value (pieces_named c structs u.value (offset + at.value) first now.value now.first two.0)
        (pieces_from_named c structs t offset (i + 1) rest later.value later.first two.1))

  assigned_stays : (s : Scope) → Has s → (part : TypedExpr) (e : ExprTree) (a : Effect) → assigned_set s part e ≡ Some a → TypedStays part → Named s.context e → EffectStays a
  assigned_stays s has part e a is h k =
      let b = followed (typed s e) _ a is in
      let f = followed (plain_form s.context.structs part b.value) _ a b.then in
      subst EffectStays (same_Some _ a f.then) (effect_stays_of part.type f.value (plain_stays s.context.structs part b.value f.value f.first h (typed_stays s has e b.value b.first k)))

  text_set_stays : (s : Scope) → Has s → (t : TypeTree) (to : Expr) (e : ExprTree) (a : Effect) → text_set s t to e ≡ Some a → ExprStays to → Named s.context e → EffectStays a
  text_set_stays s has t to e a is h k =
      let bytes = followed (text_of e) _ a is in
      let b = followed (typed s e) _ a bytes.then in
      let from = followed (address_of b.value.form) _ a b.then in
      subst EffectStays (same_Some _ a from.then)
      (and_from (expression_stays r to) (expression_stays r from.value) h (address_stays b.value.form from.value from.first (typed_stays s has e b.value b.first k)))

  abbrev part_at : Expr → Piece → TypedExpr
  part_at base p = record { type = p.type; form = lvalue (object (member p.offset base)) }

  piece_stays : (s : Scope) → Has s → (base : Expr) (p : Piece) (a : Effect) → piece_set s base p ≡ Some a → ExprStays base → Named s.context p.expression → EffectStays a
  piece_stays s has base p a is h k = by (is_array p.type) is
    where
      by : (t : Bool) → (if t then text_set s p.type (member p.offset base) p.expression else assigned_set s (part_at base p) p.expression) ≡ Some a → EffectStays a
      by true e = text_set_stays s has p.type (member p.offset base) p.expression a e h k
      by false e = assigned_stays s has (part_at base p) p.expression a e h k

  pieces_stay : (s : Scope) → Has s → (base : Expr) (ps : List Piece) (a : Effect) → pieces_set s base ps ≡ Some a → ExprStays base → AllNamed s.context ps → EffectStays a
  pieces_stay s has base [] a is h k = subst EffectStays (same_Some _ a is) refl
  pieces_stay s has base (p ∷ ps) a is h k =
      let now = followed (piece_set s base p) _ a is in
      let later = followed (pieces_set s base ps) _ a now.then in
      subst EffectStays (same_Some _ a later.then)
      (and_from (effect_stays r now.value) (effect_stays r later.value) (piece_stays s has base p now.value now.first h k.0) (pieces_stay s has base ps later.value later.first h k.1))

  object_set_stays : (s : Scope) → Has s → (a : TypedExpr) (i : InitialiserTree) (b : Effect) → object_set s a i ≡ Some b → TypedStays a
      → AllKept (of_initialiser no_referent referent_of s.context i) → EffectStays b
  object_set_stays s has a i b is h k =
      let base = followed (address_of a.form) _ b is in
      let stays = address_stays a.form base.value base.first h in
      let blank = followed (blank_of s.context.structs a.type) _ b base.then in
      let ps = followed (pieces s.context.structs a.type 0 i) _ b blank.then in
      let sets = followed (pieces_set s base.value ps.value) _ b ps.then in
      subst EffectStays (same_Some _ b sets.then)
      (and_from (expression_stays r base.value) (effect_stays r sets.value) stays
      (pieces_stay s has base.value ps.value sets.value sets.first stays (pieces_named s.context s.context.structs a.type 0 i ps.value ps.first k)))

  local_set_stays : (s : Scope) → Has s → (a : TypedExpr) (i : InitialiserTree) (b : Effect) → local_set s a i ≡ Some b → TypedStays a
      → AllKept (of_initialiser no_referent referent_of s.context i) → EffectStays b
  local_set_stays s has a (trees.value e) b is h k = by (is_array a.type) is
    where
      by : (t : Bool) → (if t then object_set s a (trees.value e) else assigned_set s a e) ≡ Some b → EffectStays b
      by true is = object_set_stays s has a (trees.value e) b is h k
      by false is = assigned_stays s has a e b is h k
  local_set_stays s has a (trees.list node is) b e h k = object_set_stays s has a (trees.list node is) b e h k

  -- ---- statements

  initialised_stays : (s : Scope) → Has s → (node : ℕ) (t : TypeTree) (i : Option InitialiserTree) (a : Effect) → initialised s node t i ≡ Some a
      → AllKept (of_option_initialiser no_referent referent_of s.context i) → EffectStays a
  initialised_stays s has node t None a is k = subst EffectStays (same_Some _ a is) refl
  initialised_stays s has node t (Some i) a is k = local_set_stays s has (record { type = t; form = lvalue (local_lvalue s.locals node) }) i a is (local_stays s.locals node) k

  variables_stay : (s : Scope) → Has s → (base : Base) (ds : List VariableTree) (a : Effect) → variables_typed s base ds ≡ Some a
      → AllKept (of_variables no_referent referent_of false s.context base ds) → EffectStays a
  variables_stay s has base [] a is k = subst EffectStays (same_Some _ a is) refl
  variables_stay s has base (v ∷ ds) a is k =
      let after = after_variable false s.context base v in
      let two = kept_parts (of_declarator no_referent referent_of s.context (variable_declared s.context base v).type v.declarator ++ of_option_initialiser no_referent referent_of after v.initialiser)
      (of_variables no_referent referent_of false after base ds) k in
      let own = kept_parts (of_declarator no_referent referent_of s.context (variable_declared s.context base v).type v.declarator) (of_option_initialiser no_referent referent_of after v.initialiser) two.0 in
      let now = followed (variable_typed s base v) _ a is in
      let later = followed (variables_typed (behind_variable s base v) base ds) _ a now.then in
      let t = followed (variable_declared s.context base v).type _ now.value now.first in
      subst EffectStays (same_Some _ a later.then)
      (and_from (effect_stays r now.value) (effect_stays r later.value)
      (initialised_stays (behind_variable s base v) has v.declarator.node.id t.value v.initialiser now.value t.then own.1)
      (variables_stay (behind_variable s base v) has base ds later.value later.first two.1))

  effect_typed_stays : (s : Scope) → Has s → (e : ExprTree) (a : Effect) → effect_typed s e ≡ Some a → Named s.context e → EffectStays a
  effect_typed_stays s has e a is k =
      let b = followed (typed s e) _ a is in
      subst EffectStays (same_Some _ a b.then) (effect_stays_of b.value.type b.value.form (typed_stays s has e b.value b.first k))

  option_effect_stays : (s : Scope) → Has s → (e : Option ExprTree) (a : Effect) → option_effect s e ≡ Some a → AllKept (of_option no_referent referent_of s.context e) → EffectStays a
  option_effect_stays s has None a is k = subst EffectStays (same_Some _ a is) refl
  option_effect_stays s has (Some e) a is k = effect_typed_stays s has e a is k

  condition_typed_stays : (s : Scope) → Has s → (e : ExprTree) (a : Expr) → condition_typed s e ≡ Some a → Named s.context e → ExprStays a
  condition_typed_stays s has e a is k =
      let b = followed (typed s e) _ a is in
      subst ExprStays (same_Some _ a b.then) (use_stays b.value (typed_stays s has e b.value b.first k))

  option_condition_stays : (s : Scope) → Has s → (e : Option ExprTree) (a : Option Expr) → option_condition s e ≡ Some a → AllKept (of_option no_referent referent_of s.context e)
      → condition_stays r a ≡ true
  option_condition_stays s has None a is k = subst (λ (x : Option Expr). condition_stays r x ≡ true) (same_Some _ a is) refl
  option_condition_stays s has (Some e) a is k =
      let b = followed (condition_typed s e) _ a is in
      subst (λ (x : Option Expr). condition_stays r x ≡ true) (same_Some _ a b.then) (condition_typed_stays s has e b.value b.first k)

  start_stays : (s : Scope) → Has s → (start : StartTree) (a : Effect) → start_typed s start ≡ Some a → AllKept (of_start no_referent referent_of s.context start) → EffectStays a
  start_stays s has no_start a is k = subst EffectStays (same_Some _ a is) refl
  start_stays s has (start_expression e) a is k = effect_typed_stays s has e a is k
  start_stays s has (start_declaration d) a is k = variables_stay s has d.base d.variables a is k

  abbrev StmtStays : Stmt → Type 0
  StmtStays t = statement_stays r t ≡ true

  abbrev StmtsStay : Stmts → Type 0
  StmtsStay ts = statements_stay r ts ≡ true

  return_stays : (s : Scope) → Has s → (e : Option ExprTree) (t : Stmt) → return_typed s e ≡ Some t → AllKept (of_option no_referent referent_of s.context e) → StmtStays t
  return_stays s has None t is k = subst StmtStays (same_Some _ t is) refl
  return_stays s has (Some e) t is k =
      let u = followed s.context.result _ t is in
      let a = followed (typed s e) _ t u.then in
      subst StmtStays (same_Some _ t a.then) (use_stays a.value (typed_stays s has e a.value a.first k))

  mutual
    statement_typed_stays : (s : Scope) → Has s → (t : StmtTree) (u : Stmt) → statement_typed s t ≡ Some u → AllKept (of_statement no_referent referent_of s.context t) → StmtStays u
    statement_typed_stays s has (trees.block ss) u is k =
        let b = followed (statements_typed (inner s) ss) _ u is in
        subst StmtStays (same_Some _ u b.then) (statements_typed_stay (inner s) has ss b.value b.first k)
    statement_typed_stays s has (trees.declaration d) u is k =
        let a = followed (variables_typed s d.base d.variables) _ u is in
        subst StmtStays (same_Some _ u a.then) (variables_stay s has d.base d.variables a.value a.first k)
    statement_typed_stays s has (trees.expression node e) u is k =
        let a = followed (effect_typed s e) _ u is in
        subst StmtStays (same_Some _ u a.then) (effect_typed_stays s has e a.value a.first k)
    statement_typed_stays s has (trees.empty node) u is k = subst StmtStays (same_Some _ u is) refl
    statement_typed_stays s has (trees.branch node e t other) u is k =
        let g = of_nodes (referent_of s.context) e in
        let three = kept_parts g (of_statement no_referent referent_of (inner_scope s.context) t ++ of_else no_referent referent_of s.context other) k in
        let two = kept_parts (of_statement no_referent referent_of (inner_scope s.context) t) (of_else no_referent referent_of s.context other) three.1 in
        let c = followed (condition_typed s e) _ u is in
        let a = followed (statement_typed (inner s) t) _ u c.then in
        let b = followed (else_typed s other) _ u a.then in
        subst StmtStays (same_Some _ u b.then)
        (and_from (expression_stays r c.value) (statement_stays r a.value && statement_stays r b.value) (condition_typed_stays s has e c.value c.first three.0)
        (and_from (statement_stays r a.value) (statement_stays r b.value) (statement_typed_stays (inner s) has t a.value a.first two.0) (else_stays s has other b.value b.first two.1)))
    statement_typed_stays s has (trees.switch node e ts) u is k =
        let two = kept_parts (of_nodes (referent_of s.context) e) (of_statements no_referent referent_of (in_switch s e).context ts) k in
        let a = followed (typed s e) _ u is in
        let b = followed (statements_typed (in_switch s e) ts) _ u a.then in
        subst StmtStays (same_Some _ u b.then)
        (and_from (expression_stays r (value_in_use a.value)) (statements_stay r b.value) (use_stays a.value (typed_stays s has e a.value a.first two.0))
        (statements_typed_stay (in_switch s e) has ts b.value b.first two.1))
    statement_typed_stays s has (trees.case_label node e) u is k = let n = followed (constant_of s.context e) _ u is in subst StmtStays (same_Some _ u n.then) refl
    statement_typed_stays s has (trees.default_label node) u is k = subst StmtStays (same_Some _ u is) refl
    statement_typed_stays s has (trees.while_loop node e t) u is k =
        let two = kept_parts (of_nodes (referent_of s.context) e) (of_statement no_referent referent_of (loop_body s).context t) k in
        let c = followed (condition_typed s e) _ u is in
        let b = followed (statement_typed (loop_body s) t) _ u c.then in
        subst StmtStays (same_Some _ u b.then)
        (and_from (expression_stays r c.value) (statement_stays r b.value) (condition_typed_stays s has e c.value c.first two.0) (statement_typed_stays (loop_body s) has t b.value b.first two.1))
    statement_typed_stays s has (trees.do_loop node t e) u is k =
        let two = kept_parts (of_statement no_referent referent_of (loop_body s).context t) (of_nodes (referent_of s.context) e) k in
        let b = followed (statement_typed (loop_body s) t) _ u is in
        let c = followed (condition_typed s e) _ u b.then in
        subst StmtStays (same_Some _ u c.then)
        (and_from (statement_stays r b.value) (expression_stays r c.value) (statement_typed_stays (loop_body s) has t b.value b.first two.0) (condition_typed_stays s has e c.value c.first two.1))
    statement_typed_stays s has (trees.for_loop node start e v t) u is k =
        let w = in_for s start in
        let four = kept_parts (of_start no_referent referent_of (inner s).context start)
        ((of_option no_referent referent_of w.context e ++ of_option no_referent referent_of w.context v) ++ of_statement no_referent referent_of (loop_body w).context t) k in
        let three = kept_parts (of_option no_referent referent_of w.context e ++ of_option no_referent referent_of w.context v) (of_statement no_referent referent_of (loop_body w).context t) four.1 in
        let two = kept_parts (of_option no_referent referent_of w.context e) (of_option no_referent referent_of w.context v) three.0 in
        let a = followed (start_typed (inner s) start) _ u is in
        let c = followed (option_condition w e) _ u a.then in
        let b = followed (option_effect w v) _ u c.then in
        let d = followed (statement_typed (loop_body w) t) _ u b.then in
        subst StmtStays (same_Some _ u d.then)
        (and_from (effect_stays r a.value) (condition_stays r c.value && (effect_stays r b.value && statement_stays r d.value)) (start_stays (inner s) has start a.value a.first four.0)
        (and_from (condition_stays r c.value) (effect_stays r b.value && statement_stays r d.value) (option_condition_stays w has e c.value c.first two.0)
        (and_from (effect_stays r b.value) (statement_stays r d.value) (option_effect_stays w has v b.value b.first two.1) (statement_typed_stays (loop_body w) has t d.value d.first three.1))))
    statement_typed_stays s has (trees.break node) u is k = subst StmtStays (same_Some _ u is) refl
    statement_typed_stays s has (trees.continue node) u is k = subst StmtStays (same_Some _ u is) refl
    statement_typed_stays s has (trees.return node e) u is k = return_stays s has e u is k

    pub statements_typed_stay : (s : Scope) → Has s → (ts : trees.Stmts) (us : Stmts) → statements_typed s ts ≡ Some us → AllKept (of_statements no_referent referent_of s.context ts) → StmtsStay us
    statements_typed_stay s has trees.no_stmts us is k = subst StmtsStay (same_Some _ us is) refl
    statements_typed_stay s has (trees.stmt_and t ts) us is k =
        let after = after_statement s.context t in
        let two = kept_parts (of_statement no_referent referent_of s.context t) (of_statements no_referent referent_of after ts) k in
        let a = followed (statement_typed s t) _ us is in
        let b = followed (statements_typed (within s after) ts) _ us a.then in
        subst StmtsStay (same_Some _ us b.then)
        (and_from (statement_stays r a.value) (statements_stay r b.value) (statement_typed_stays s has t a.value a.first two.0) (statements_typed_stay (within s after) has ts b.value b.first two.1))

    else_stays : (s : Scope) → Has s → (other : Else) (u : Stmt) → else_typed s other ≡ Some u → AllKept (of_else no_referent referent_of s.context other) → StmtStays u
    else_stays s has no_else u is k = subst StmtStays (same_Some _ u is) refl
    else_stays s has (else_by t) u is k = statement_typed_stays (inner s) has t u is k
