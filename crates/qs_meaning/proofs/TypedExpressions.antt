-- Where an expression has a type, it has a typed tree.
use Rattle.std.proofs.Common.{◌≡◌, ◌⊎◌, inl, inr, ℕ, suc, ◌==◌, Bool, true, false, not, ◌&&◌, ◌||◌, List, [], ◌∷◌, Option, Some, None, is_some, length, refl, sym, ap, ◌∙◌, subst, arith, if◌then◌else◌}
use Rattle.std.proofs.lemmas.Bool.{eqb-true, or_cases, not-false, or_left, or_right, and_from}
use Rattle.std.specs.Cmp.{first_so, second_so}
use Rattle.std.proofs.lemmas.Option.{same_Some}
use Rattle.qs_syntax.specs.declared.nodes.Node.{Node}
use Rattle.qs_syntax_vocabulary.specs.declared.operators.UnaryOperator.{UnaryOperator}
use Rattle.qs_syntax_vocabulary.specs.declared.operators.UnaryOperator.TheVariants as unaries
use Rattle.qs_syntax_vocabulary.specs.declared.operators.StepOperator.{StepOperator}
use Rattle.qs_syntax_vocabulary.specs.declared.operators.StepOperator.TheVariants as steps
use Rattle.qs_syntax_vocabulary.specs.declared.operators.BinaryOperator.{BinaryOperator}
use Rattle.qs_syntax_vocabulary.specs.declared.operators.BinaryOperator.TheVariants as binaries
use Rattle.qs_syntax_vocabulary.specs.declared.operators.AssignmentOperator.{AssignmentOperator}
use Rattle.qs_syntax_vocabulary.specs.declared.operators.AssignmentOperator.TheVariants as assigns
use Rattle.qs_syntax_vocabulary.specs.declared.operators.Access.{Access}
use Rattle.qs_syntax_vocabulary.specs.declared.operators.Access.TheVariants as accesses
use Rattle.qs_syntax.specs.Trees.{ExprTree, expr, ShapeTree, Exprs, no_exprs, expr_and}
use Rattle.qs_syntax.specs.Trees as trees
use Rattle.qs_memory.specs.Partial.{◌>>=◌}
use Rattle.qs_types.specs.declared.extent.Extent.{Extent}
use Rattle.qs_types.specs.Types.{TypeTree, int, unsigned, char, void, pointer, array, struct, is_integer, is_pointer, is_array, is_struct, is_scalar, same_type, referenced, Structs}
use Rattle.qs_types.specs.Layout.{and_then, extent_of, size_of, is_complete}
use Rattle.qs_types.specs.Conversions.{decayed}
use Rattle.qs_types.specs.Rules.{Test, keeps, breaks_one, type_unless}
use Rattle.qs_types.specs.declared.rules.Rule.TheVariants as rules
use Rattle.qs_types.specs.Contexts.{Entity, local_variable, file_variable, function, given, entity_of, named_type, is_void_base}
use Rattle.qs_types.specs.Expressions.{is_lvalue, is_lvalue_shape, is_assignable, both_integers, is_object_pointer, may_add, Judged, judged, unary_judged, step_judged, cast_judged, type_or_void, binary_judged, conditional_judged, assign_judged, may_assign, may_combine, sum_type, subscript_judged, member_type, member_judged, name_judged, call_judged, type_of, shape_judged, types_of}
use Rattle.qs_types.specs.Placed.{is_one_of, local_node, named_local, operand_of, addressed, shape_addressed, all_addressed}
use Rattle.qs_meaning.specs.Typed.{Expr, pointer_to, Lvalue, variable, object, local, no_arguments}
use Rattle.qs_meaning.specs.Typed as typed_trees
use Rattle.qs_meaning.specs.Operations.{Operated, operation_of}
use Rattle.qs_meaning.specs.Forms.{Form, lvalue, TypedExpr, lvalue_of, address_in, address_of, type_in_use, value_in_use}
use Rattle.qs_meaning.specs.Names.{Scope, place_among, local_lvalue, entity_lvalue, Designator, entity_designated}
use Rattle.qs_meaning.specs.Expressions.{object_at, operated, operator_value, arguments_of, call_form, member_offset, member_form, set_form, struct_form, plain_form, compound_form, assign_form, one, step_after_form, step_form, unary_form, size_form, operator_form, binary_form, typed, form_of, all_typed}
use Rattle.qs_meaning.specs.TypedLaws.{IsReady, are_placed, TypedWhereTypes}
use Rattle.qs_meaning.proofs.Options.{never, all_left, all_right, nothing, went, goes, Known, known, onward}
use Rattle.qs_meaning.proofs.CompleteTypes.{struct_is_large, same_is_struct, summed_known, subtracted_known, member_offset_known, member_complete, has_members_is_large}

-- ---- tests that aren't broken

pub kept : (b : Bool) → (not b || false) ≡ false → b ≡ true
kept true e = refl
kept false e = never (sym e)

pub unbroken_left : (x y : Bool) → (x || y) ≡ false → x ≡ false
unbroken_left true y e = never (sym e)
unbroken_left false y e = refl

pub unbroken_right : (x y : Bool) → (x || y) ≡ false → y ≡ false
unbroken_right true y e = never (sym e)
unbroken_right false y e = e

pub record Unless (ts : List Test) (t u : TypeTree) : Type 0 where
  pub unbroken : breaks_one ts ≡ false
  pub type : t ≡ u

pub unless : (ts : List Test) (t u : TypeTree) → type_unless ts t ≡ Some u → Unless ts t u
unless ts t u e = go (breaks_one ts) refl e
  where
    go : (b : Bool) → breaks_one ts ≡ b → (if b then None else Some t) ≡ Some u → Unless ts t u
    go true h e = nothing u e
    go false h e = record { unbroken = h; type = same_Some t u e }

-- ---- forms

-- an lvalue of a complete type; it is in memory where the type is no scalar, and where its name, if it is one, is that of a placed local
pub record IsPlace (s : Scope) (names : List ℕ) (t : TypeTree) (form : Form) : Type 0 where
  pub at : Lvalue
  pub is : form ≡ lvalue at
  pub complete : is_complete s.context.structs t ≡ true
  pub large : is_scalar t ≡ false → Known (address_in at)
  pub taken : are_placed s names ≡ true → Known (address_in at)

-- there is a form; that of an lvalue is such a place
pub record Stands (s : Scope) (o : Option Form) (is_place : Bool) (names : List ℕ) (t : TypeTree) : Type 0 where
  pub form : Form
  pub is : o ≡ Some form
  pub place : is_place ≡ true → IsPlace s names t form

pub record TypedBy (s : Scope) (e : ExprTree) (t : TypeTree) : Type 0 where
  pub form : Form
  pub is : typed s e ≡ Some (record { type = t; form = form })
  pub place : is_lvalue e ≡ true → IsPlace s (named_local s.context e) t form

by_judged : {s : Scope} {o : Option Form} {b : Bool} {names : List ℕ} (j k : Judged) → k ≡ j → breaks_one j.tests ≡ false
    → (breaks_one k.tests ≡ false → Stands s o b names k.type) → Stands s o b names j.type
by_judged {s = s} {o = o} {b = b} {names = names} j k e h f = subst (λ z. breaks_one z.tests ≡ false → Stands s o b names z.type) e f h

-- a form that is no place
value_stands : {s : Scope} {names : List ℕ} {t : TypeTree} (o : Option Form) → Known o → Stands s o false names t
value_stands o k = record { form = k.value; is = k.is; place = λ e. never e }

object_stands : {s : Scope} {b : Bool} {names : List ℕ} {t : TypeTree} (o : Option Form) (p : Expr) → o ≡ Some (object_at p) → is_complete s.context.structs t ≡ true
    → Stands s o b names t
object_stands o p e c =
    record {
      form = object_at p;
      is = e;
      place = λ _. record
          { at = object p; is = refl; complete = c; large = λ _. record { value = p; is = refl }; taken = λ _. record { value = p; is = refl } };
    }

-- the address of a form that is an lvalue
pub address_known : (form : Form) (l : Lvalue) → form ≡ lvalue l → Known (address_in l) → Known (address_of form)
address_known form l e k = record { value = k.value; is = ap address_of e ∙ k.is }

pub lvalue_known : (form : Form) (l : Lvalue) → form ≡ lvalue l → Known (lvalue_of form)
lvalue_known form l e = record { value = l; is = ap lvalue_of e }

-- ---- names

local_address : (b : Bool) (k x : ℕ) → b ≡ true → Known (address_in (if b then object (pointer_to (local k)) else variable x))
local_address true k x e = record { value = _; is = refl }
local_address false k x e = never e

name_stands : (s : Scope) (o : Option Entity) (j : Judged)
    → ((node : ℕ) (t : TypeTree) → o ≡ Some (local_variable node (Some t)) → is_scalar t ≡ false → is_one_of node s.locals.placed ≡ true)
    → ((node : ℕ) (t : TypeTree) → o ≡ Some (local_variable node (Some t)) → is_complete s.context.structs t ≡ true)
    → ((node : ℕ) (t : TypeTree) → o ≡ Some (file_variable node (Some t)) → is_complete s.context.structs t ≡ true)
    → name_judged o ≡ Some j → breaks_one j.tests ≡ false → Stands s ((o >>= entity_lvalue s) >>= λ l. Some (lvalue l)) true (local_node o) j.type
name_stands s None j placed complete file e h = by_judged j _ (same_Some _ _ e) h (λ h. never (sym h))
name_stands s (Some (local_variable node None)) j placed complete file e h = nothing j e
name_stands s (Some (local_variable node (Some t))) j placed complete file e h = by_judged j _ (same_Some _ _ e) h (λ h. record {
  form = lvalue (local_lvalue s.locals node);
  is = refl;
  place = λ _. record {
    at = local_lvalue s.locals node;
    is = refl;
    complete = complete node t refl;
    large = λ f. local_address (is_one_of node s.locals.placed) (place_among node s.locals.placed) (place_among node s.locals.variables) (placed node t refl f);
    taken = λ f. local_address (is_one_of node s.locals.placed) (place_among node s.locals.placed) (place_among node s.locals.variables) (first_so _ _ f);
  };
})
name_stands s (Some (file_variable node None)) j placed complete file e h = nothing j e
name_stands s (Some (file_variable node (Some t))) j placed complete file e h = by_judged j _ (same_Some _ _ e) h (λ h. object_stands _ _ refl (file node t refl))
name_stands s (Some (function node signature body)) j placed complete file e h = by_judged j _ (same_Some _ _ e) h (λ h. never (sym h))
name_stands s (Some (given signature)) j placed complete file e h = by_judged j _ (same_Some _ _ e) h (λ h. never (sym h))

-- ---- unary operators

module _ (s : Scope) where
  abbrev structs : Structs
  structs = s.context.structs

  -- the names that stand in the place of an lvalue
  abbrev Place : ExprTree → TypeTree → Form → Type 0
  Place a t form = is_lvalue a ≡ true → IsPlace s (named_local s.context a) t form

  unary_stands : (operator : UnaryOperator) (node : Node) (a : ExprTree) (t : TypeTree) (form : Form) → Place a t form
      → are_placed s (shape_addressed s.context (trees.unary operator a)) ≡ true → breaks_one (unary_judged structs operator a t (decayed t)).tests ≡ false
      → Stands s (unary_form operator (record { type = t; form = form })) (is_lvalue_shape (trees.unary operator a))
      (named_local s.context (expr node (trees.unary operator a))) (unary_judged structs operator a t (decayed t)).type
  unary_stands unaries.Address node a t form place ready h =
      let p = place (kept _ h) in
      let k = address_known form p.at p.is (p.taken (all_left _ (named_local s.context a) _ ready)) in
      value_stands _ (onward (address_of form) _ k (record { value = _; is = refl }))
  unary_stands unaries.Indirect node a t form place ready h =
      object_stands _ _ refl (second_so (is_pointer (decayed t)) _ (kept _ h))
  unary_stands unaries.Plus node a t form place ready h = value_stands _ (record { value = _; is = refl })
  unary_stands unaries.Minus node a t form place ready h = value_stands _ (record { value = _; is = refl })
  unary_stands unaries.Complement node a t form place ready h = value_stands _ (record { value = _; is = refl })
  unary_stands unaries.Not node a t form place ready h = value_stands _ (record { value = _; is = refl })

  -- ---- operators between two operands

  operator_known : (operator : BinaryOperator) (a b : TypedExpr) → Known (operation_of structs operator (type_in_use a) (type_in_use b)) → Known
      (operator_form structs operator a b)
  operator_known operator a b k =
      onward (operator_value structs operator a b) _
      (onward (operation_of structs operator (type_in_use a) (type_in_use b)) _ k (record { value = _; is = refl }))
      (record { value = _; is = refl })

  binary_known : (operator : BinaryOperator) (x y : ExprTree) (a b : TypedExpr) → breaks_one
      (binary_judged structs operator x (type_in_use a) y (type_in_use b)).tests ≡ false → Known (binary_form structs operator a b)
  binary_known binaries.And x y a b h = record { value = _; is = refl }
  binary_known binaries.Or x y a b h = record { value = _; is = refl }
  binary_known binaries.Add x y a b h = operator_known binaries.Add a b (summed_known structs (type_in_use a) (type_in_use b) (kept _ h))
  binary_known binaries.Subtract x y a b h = operator_known binaries.Subtract a b (subtracted_known structs (type_in_use a) (type_in_use b) (kept _ h))
  binary_known binaries.Multiply x y a b h = operator_known binaries.Multiply a b (record { value = _; is = refl })
  binary_known binaries.Divide x y a b h = operator_known binaries.Divide a b (record { value = _; is = refl })
  binary_known binaries.Remainder x y a b h = operator_known binaries.Remainder a b (record { value = _; is = refl })
  binary_known binaries.ShiftLeft x y a b h = operator_known binaries.ShiftLeft a b (record { value = _; is = refl })
  binary_known binaries.ShiftRight x y a b h = operator_known binaries.ShiftRight a b (record { value = _; is = refl })
  binary_known binaries.Less x y a b h = operator_known binaries.Less a b (record { value = _; is = refl })
  binary_known binaries.Greater x y a b h = operator_known binaries.Greater a b (record { value = _; is = refl })
  binary_known binaries.LessEqual x y a b h = operator_known binaries.LessEqual a b (record { value = _; is = refl })
  binary_known binaries.GreaterEqual x y a b h = operator_known binaries.GreaterEqual a b (record { value = _; is = refl })
  binary_known binaries.Equal x y a b h = operator_known binaries.Equal a b (record { value = _; is = refl })
  binary_known binaries.NotEqual x y a b h = operator_known binaries.NotEqual a b (record { value = _; is = refl })
  binary_known binaries.BitAnd x y a b h = operator_known binaries.BitAnd a b (record { value = _; is = refl })
  binary_known binaries.BitXor x y a b h = operator_known binaries.BitXor a b (record { value = _; is = refl })
  binary_known binaries.BitOr x y a b h = operator_known binaries.BitOr a b (record { value = _; is = refl })

  -- ---- assignments and steps

  -- an integer or a pointer to an object, and an integer
  adds : (t u : TypeTree) → ((is_integer t || is_object_pointer structs t) && is_integer u) ≡ true → may_add structs t u ≡ true
  adds t u e = go (or_cases (is_integer t) _ (first_so _ _ e))
    where
      go : (is_integer t ≡ true) ⊎ (is_object_pointer structs t ≡ true) → may_add structs t u ≡ true
      go (inl h) = or_left _ _ (and_from _ _ h (second_so (is_integer t || is_object_pointer structs t) _ e))
      go (inr h) = or_right (both_integers t u) _ (or_left _ _ (and_from _ _ h (second_so (is_integer t || is_object_pointer structs t) _ e)))

  subtracts : (t u : TypeTree) → ((is_integer t || is_object_pointer structs t) && is_integer u) ≡ true → Known (operation_of structs binaries.Subtract t u)
  subtracts t u e = go (or_cases (is_integer t) _ (first_so _ _ e))
    where
      integer : is_integer u ≡ true
      integer = second_so (is_integer t || is_object_pointer structs t) _ e

      go : (is_integer t ≡ true) ⊎ (is_object_pointer structs t ≡ true) → Known (operation_of structs binaries.Subtract t u)
      go (inl h) = subtracted_known structs t u (or_left _ _ (and_from _ _ h integer))
      go (inr h) = subtracted_known structs t u (or_right (both_integers t u) _ (and_from _ _ h (or_left _ _ integer)))

  compound_known : (operator : BinaryOperator) (a b : TypedExpr) → Known (lvalue_of a.form) → Known (operation_of structs operator a.type (type_in_use b)) → Known
      (compound_form structs operator a b)
  compound_known operator a b l o =
      onward (lvalue_of a.form) _ l (onward (operation_of structs operator a.type (type_in_use b)) _ o (record { value = _; is = refl }))

  after_known : (operator : BinaryOperator) (a : TypedExpr) → Known (lvalue_of a.form) → Known (operation_of structs operator a.type int) → Known
      (step_after_form structs operator a)
  after_known operator a l o = onward (lvalue_of a.form) _ l (onward (operation_of structs operator a.type int) _ o (record { value = _; is = refl }))

  step_known : (operator : StepOperator) (a : ExprTree) (t : TypeTree) (form : Form) → Place a t form → breaks_one (step_judged structs a t).tests ≡ false
      → Known (step_form structs operator (record { type = t; form = form }))
  step_known operator a t form place h = go operator
    where
      may : ((is_integer t || is_object_pointer structs t) && is_integer int) ≡ true
      may = and_from _ _ (second_so (is_lvalue a) _ (kept _ h)) refl

      typed_a : TypedExpr
      typed_a = record { type = t; form = form }

      at : Known (lvalue_of form)
      at = let p = place (first_so _ _ (kept _ h)) in lvalue_known form p.at p.is

      go : (operator : StepOperator) → Known (step_form structs operator (record { type = t; form = form }))
      go steps.IncrementBefore = compound_known binaries.Add typed_a one at (summed_known structs t int (adds t int may))
      go steps.DecrementBefore = compound_known binaries.Subtract typed_a one at (subtracts t int may)
      go steps.IncrementAfter = after_known binaries.Add typed_a at (summed_known structs t int (adds t int may))
      go steps.DecrementAfter = after_known binaries.Subtract typed_a at (subtracts t int may)

  set_known : (a b : TypedExpr) → Known (lvalue_of a.form) → Known (set_form a b)
  set_known a b l = onward (lvalue_of a.form) _ l (record { value = _; is = refl })

  struct_known : (a b : TypedExpr) → is_complete structs a.type ≡ true → Known (address_of a.form) → Known (address_of b.form) → Known (struct_form structs a b)
  struct_known a b c p q =
      let e : Known (extent_of structs a.type) = known _ c in
      onward (extent_of structs a.type) _ e (onward (address_of a.form) _ p (onward (address_of b.form) _ q (record { value = _; is = refl })))

  -- an object or a variable of type t, and a value that fits it
  pub assigned_known : (y : ExprTree) (t u : TypeTree) (f g : Form) → Known (lvalue_of f) → (is_scalar t ≡ false → Known (address_of f)) → is_complete structs t ≡ true
      → Place y u g
      → (is_assignable t y (decayed u) || (is_struct t && (same_type t u && is_lvalue y))) ≡ true
      → Known (plain_form structs (record { type = t; form = f }) (record { type = u; form = g }))
  assigned_known y (struct k) u f g at large complete other h =
      let q = other (second_so (same_type (struct k) u) _ h) in
      struct_known (record { type = struct k; form = f }) (record { type = u; form = g }) complete (large refl)
      (address_known g q.at q.is (q.large (struct_is_large u (same_is_struct (struct k) u refl (first_so _ _ h)))))
  assigned_known y int u f g at large complete other h = set_known (record { type = int; form = f }) (record { type = u; form = g }) at
  assigned_known y unsigned u f g at large complete other h = set_known (record { type = unsigned; form = f }) (record { type = u; form = g }) at
  assigned_known y char u f g at large complete other h = set_known (record { type = char; form = f }) (record { type = u; form = g }) at
  assigned_known y void u f g at large complete other h = set_known (record { type = void; form = f }) (record { type = u; form = g }) at
  assigned_known y (pointer t) u f g at large complete other h = set_known (record { type = pointer t; form = f }) (record { type = u; form = g }) at
  assigned_known y (array t n) u f g at large complete other h = set_known (record { type = array t n; form = f }) (record { type = u; form = g }) at

  plain_known : (x y : ExprTree) (t u : TypeTree) (f g : Form) → Place x t f → Place y u g → may_assign x t y u ≡ true
      → Known (plain_form structs (record { type = t; form = f }) (record { type = u; form = g }))
  plain_known x y t u f g place other h =
      let p = place (first_so _ _ (first_so _ _ h)) in
      assigned_known y t u f g (lvalue_known f p.at p.is) (λ l. address_known f p.at p.is (p.large l)) p.complete other (second_so (is_lvalue x && not (is_array t)) _ h)

  assign_known : (operator : AssignmentOperator) (x y : ExprTree) (t u : TypeTree) (f g : Form) → Place x t f → Place y u g
      → breaks_one (assign_judged structs operator x t y u).tests ≡ false
      → Known (assign_form structs operator (record { type = t; form = f }) (record { type = u; form = g }))
  assign_known operator x y t u f g place other = go operator
    where
      a : TypedExpr
      a = record { type = t; form = f }

      b : TypedExpr
      b = record { type = u; form = g }

      at : is_lvalue x ≡ true → Known (lvalue_of f)
      at e = let p = place e in lvalue_known f p.at p.is

      combines : (operator : BinaryOperator) → (not (may_combine x t (decayed u)) || false) ≡ false → Known (operation_of structs operator t (decayed u)) → Known
          (compound_form structs operator a b)
      combines operator h o = compound_known operator a b (at (first_so _ _ (kept _ h))) o

      go : (operator : AssignmentOperator) → breaks_one (assign_judged structs operator x t y u).tests ≡ false → Known (assign_form structs operator a b)
      go assigns.Plain h = plain_known x y t u f g place other (kept _ h)
      go assigns.Multiply h = combines binaries.Multiply h (record { value = _; is = refl })
      go assigns.Divide h = combines binaries.Divide h (record { value = _; is = refl })
      go assigns.Remainder h = combines binaries.Remainder h (record { value = _; is = refl })
      go assigns.Add h =
          compound_known binaries.Add a b (at (first_so _ _ (kept _ h))) (summed_known structs t (decayed u) (adds t (decayed u) (second_so (is_lvalue x) _ (kept _ h))))
      go assigns.Subtract h = compound_known binaries.Subtract a b (at (first_so _ _ (kept _ h))) (subtracts t (decayed u) (second_so (is_lvalue x) _ (kept _ h)))
      go assigns.ShiftLeft h = combines binaries.ShiftLeft h (record { value = _; is = refl })
      go assigns.ShiftRight h = combines binaries.ShiftRight h (record { value = _; is = refl })
      go assigns.BitAnd h = combines binaries.BitAnd h (record { value = _; is = refl })
      go assigns.BitXor h = combines binaries.BitXor h (record { value = _; is = refl })
      go assigns.BitOr h = combines binaries.BitOr h (record { value = _; is = refl })

  -- ---- sizes, members

  size_form_known : (t : TypeTree) → is_complete structs t ≡ true → Known (size_form structs t)
  size_form_known t c =
      let e : Known (extent_of structs t) = known _ c in
      onward (size_of structs t) _ (record { value = e.value.size; is = ap (λ o. and_then o (λ (x : Extent). Some x.size)) e.is }) (record { value = _; is = refl })

  member_stands : (ready : IsReady s) (access : Access) (node : Node) (a : ExprTree) (t : TypeTree) (form : Form) (x : List ℕ) → Place a t form
      → breaks_one (member_judged structs access a t x).tests ≡ false
      → Stands s (member_form structs access (record { type = t; form = form }) x) (is_lvalue_shape (trees.member access a x))
      (named_local s.context (expr node (trees.member access a x))) (member_judged structs access a t x).type
  member_stands ready accesses.Dot node a t form x place h =
      let found = second_so (is_lvalue a) _ (kept _ h) in
      let p = place (first_so _ _ (kept _ h)) in
      let base = address_known form p.at p.is (p.large (has_members_is_large structs t x found)) in
      let m : Known (member_type structs t x) = known _ found in
      let offset = member_offset_known structs ready.laid_out t x found in
      object_stands _ (typed_trees.member offset.value base.value)
      (goes (address_of form) base.value _ _ base.is (goes (member_offset structs t x) offset.value _ _ offset.is refl))
      (subst (λ o. is_complete structs (type_or_void o) ≡ true) (sym m.is) (member_complete structs ready.members t m.value x m.is))
  member_stands ready accesses.Arrow node a t form x place h =
      let found = second_so (is_pointer (decayed t)) _ (kept _ h) in
      let m : Known (member_type structs (referenced (decayed t)) x) = known _ found in
      let offset = member_offset_known structs ready.laid_out (referenced (decayed t)) x found in
      object_stands _ (typed_trees.member offset.value (value_in_use (record { type = t; form = form })))
      (goes (member_offset structs (referenced (decayed t)) x) offset.value _ _ offset.is refl)
      (subst (λ o. is_complete structs (type_or_void o) ≡ true) (sym m.is) (member_complete structs ready.members (referenced (decayed t)) m.value x m.is))

  -- ---- calls

  record AllTyped (es : Exprs) (us : List TypeTree) : Type 0 where
    list : List TypedExpr
    is : all_typed s es ≡ Some list
    count : length list ≡ length us

  arguments_known : (ts : List TypeTree) (list : List TypedExpr) → length ts ≡ length list → Known (arguments_of ts list)
  arguments_known [] [] e = record { value = no_arguments; is = refl }
  arguments_known [] (a ∷ list) e = absurd (omega arith)
  arguments_known (t ∷ ts) [] e = absurd (omega arith)
  arguments_known (t ∷ ts) (a ∷ list) e =
      let shorter : length ts ≡ length list = omega arith in
      onward (arguments_of ts list) _ (arguments_known ts list shorter) (record { value = _; is = refl })

  counted : (ts us : List TypeTree) (rest : Bool) → (not (length ts == length us) || rest) ≡ false → length ts ≡ length us
  counted ts us rest e = eqb-true (length ts) (length us) (not-false _ (unbroken_left _ rest e))

  call_stands : (f : List ℕ) (o : Option Entity) (es : Exprs) (us : List TypeTree) (list : List TypedExpr) (j : Judged) {names : List ℕ} → length list ≡ length us
      → call_judged o es us ≡ Some j → breaks_one j.tests ≡ false
      → Stands s ((o >>= entity_designated s f) >>= λ (d : Designator). arguments_of d.parameters list >>= λ converted. Some (Form.call d.callee converted)) false names j.type
  call_stands f None es us list j count e h = by_judged j _ (same_Some _ _ e) h (λ h. never (sym h))
  call_stands f (Some (local_variable node t)) es us list j count e h = by_judged j _ (same_Some _ _ e) h (λ h. never (sym h))
  call_stands f (Some (file_variable node t)) es us list j count e h = by_judged j _ (same_Some _ _ e) h (λ h. never (sym h))
  call_stands f (Some (function node None body)) es us list j count e h = nothing j e
  call_stands f (Some (function node (Some signature) body)) es us list j count e h = by_judged j _ (same_Some _ _ e) h (λ h.
      let arguments = arguments_known signature.parameters list (counted signature.parameters us _ h ∙ sym count) in
      value_stands _ (onward (arguments_of signature.parameters list) _ arguments (record { value = _; is = refl })))
  call_stands f (Some (given signature)) es us list j count e h = by_judged j _ (same_Some _ _ e) h (λ h.
      let arguments = arguments_known signature.parameters list (counted signature.parameters us _ h ∙ sym count) in
      value_stands _ (onward (arguments_of signature.parameters list) _ arguments (record { value = _; is = refl })))

  -- ---- expressions

  -- a form behind something known
  behind : {A : Type 0} {b : Bool} {names : List ℕ} {t : TypeTree} (o : Option A) (x : A) (go : A → Option Form) → o ≡ Some x → Stands s (go x) b names t → Stands s
      (o >>= go) b names t
  behind o x go e f = record { form = f.form; is = goes o x go _ e f.is; place = f.place }

  named_known : (o : Option TypeTree) (rest : Bool) → (not (is_some o) || rest) ≡ false → Known o
  named_known o rest e = known o (not-false _ (unbroken_left _ rest e))

  sized : (o : Option TypeTree) (v : TypeTree) → o ≡ Some v → ((is_some o && not (is_complete structs (type_or_void o))) || false) ≡ false → is_complete structs v ≡ true
  sized None v e h = nothing v e
  sized (Some x) v e h = subst (λ z. is_complete structs z ≡ true) (same_Some _ _ e) (kept _ h)

  object_kept : (may b : Bool) → may ≡ true → ((may && not b) || false) ≡ false → b ≡ true
  object_kept true b e h = kept b h
  object_kept false b e h = never e

  module _ (ready : IsReady s) where
    mutual
      pub expression_typed : (e : ExprTree) (t : TypeTree) → are_placed s (addressed s.context e) ≡ true → type_of s.context e ≡ Some t → TypedBy s e t
      expression_typed (expr node shape) t placed e =
          let w = went (shape_judged s.context shape) (λ (j : Judged). type_unless j.tests j.type) t e in
          let u = unless w.value.tests w.value.type t w.gave in
          let f = shape_stands shape node w.value placed w.had u.unbroken in
          record {
            form = f.form;
            is = goes (type_of s.context (expr node shape)) t _ _ e (goes (form_of s node shape) f.form _ _ f.is refl);
            place = λ l. subst (λ z. IsPlace s (named_local s.context (expr node shape)) z f.form) u.type (f.place l);
          }

      shape_stands : (shape : ShapeTree) (node : Node) (j : Judged) → are_placed s (shape_addressed s.context shape) ≡ true
          → shape_judged s.context shape ≡ Some j → breaks_one j.tests ≡ false
          → Stands s (form_of s node shape) (is_lvalue_shape shape) (named_local s.context (expr node shape)) j.type
      shape_stands (trees.constant n u) node j placed e h = by_judged j _ (same_Some _ _ e) h (λ h. value_stands _ (record { value = _; is = refl }))
      shape_stands (trees.text bytes) node j placed e h = by_judged j _ (same_Some _ _ e) h (λ h. object_stands _ _ refl refl)
      shape_stands (trees.name x) node j placed e h =
          name_stands s (entity_of s.context x) j (ready.placed x) (ready.local_complete x) (ready.file_complete x) e h
      shape_stands (trees.subscript a b) node j placed e h =
          let x = went (type_of s.context a) (λ t. and_then (type_of s.context b) (λ u. Some (subscript_judged structs (decayed t) (decayed u)))) j e in
          let y = went (type_of s.context b) (λ u. Some (subscript_judged structs (decayed x.value) (decayed u))) j x.gave in
          let f = expression_typed a x.value (all_left _ (addressed s.context a) _ placed) x.had in
          let g = expression_typed b y.value (all_right _ (addressed s.context a) _ placed) y.had in
          by_judged j _ (same_Some _ _ y.gave) h (λ h.
          let may = not-false _ (unbroken_left _ _ h) in
          let o = summed_known structs (decayed x.value) (decayed y.value) may in
          behind (typed s a) _ _ f.is (behind (typed s b) _ _ g.is
          (object_stands _ _ (goes (operation_of structs binaries.Add (decayed x.value) (decayed y.value) >>= λ (o : Operated). Some
          (operated o (record { type = x.value; form = f.form }) (record { type = y.value; form = g.form })))
          _ _ _ (goes (operation_of structs binaries.Add (decayed x.value) (decayed y.value)) o.value _ _ o.is refl) refl)
          (second_so (is_pointer (sum_type (decayed x.value) (decayed y.value))) _
          (object_kept (may_add structs (decayed x.value) (decayed y.value)) _ may (unbroken_right (not (may_add structs (decayed x.value) (decayed y.value))) _ h))))))
      shape_stands (trees.call f es) node j placed e h =
          let w = went (types_of s.context es) (λ us. call_judged (entity_of s.context f) es us) j e in
          let all = all_typed_by es w.value placed w.had in
          behind (all_typed s es) all.list (call_form s f) all.is (call_stands f (entity_of s.context f) es w.value all.list j all.count w.gave h)
      shape_stands (trees.member access a x) node j placed e h =
          let w = went (type_of s.context a) (λ t. Some (member_judged structs access a t x)) j e in
          let f = expression_typed a w.value placed w.had in
          by_judged j _ (same_Some _ _ w.gave) h (λ h. behind (typed s a) _ _ f.is (member_stands ready access node a w.value f.form x f.place h))
      shape_stands (trees.step operator a) node j placed e h =
          let w = went (type_of s.context a) (λ t. Some (step_judged structs a t)) j e in
          let f = expression_typed a w.value placed w.had in
          by_judged j _ (same_Some _ _ w.gave) h (λ h. behind (typed s a) _ _ f.is (value_stands _ (step_known operator a w.value f.form f.place h)))
      shape_stands (trees.unary operator a) node j placed e h =
          let w = went (type_of s.context a) (λ t. Some (unary_judged structs operator a t (decayed t))) j e in
          let f = expression_typed a w.value (all_right _ (operand_of operator (named_local s.context a)) _ placed) w.had in
          by_judged j _ (same_Some _ _ w.gave) h (λ h. behind (typed s a) _ _ f.is (unary_stands operator node a w.value f.form f.place placed h))
      shape_stands (trees.sizeof_expr a) node j placed e h =
          let w = went (type_of s.context a) (λ t. Some (judged (keeps rules.IncompleteType (is_complete structs t)) unsigned)) j e in
          by_judged j _ (same_Some _ _ w.gave) h (λ h. behind (type_of s.context a) w.value (size_form structs) w.had (value_stands _ (size_form_known w.value (kept _ h))))
      shape_stands (trees.sizeof_type name) node j placed e h = by_judged j _ (same_Some _ _ e) h (λ h.
          let n = named_known (named_type s.context name) _ h in
          behind (named_type s.context name) n.value (size_form structs) n.is
          (value_stands _ (size_form_known n.value (sized (named_type s.context name) n.value n.is
          (unbroken_right (is_void_base name.base) _ (unbroken_right (not (is_some (named_type s.context name))) _ h))))))
      shape_stands (trees.cast name a) node j placed e h =
          let w = went (type_of s.context a) (λ t. Some (cast_judged s.context name a (decayed t))) j e in
          let f = expression_typed a w.value placed w.had in
          by_judged j _ (same_Some _ _ w.gave) h (λ h.
          let n = named_known (named_type s.context name) _ h in
          behind (named_type s.context name) n.value _ n.is (behind (typed s a) _ _ f.is (value_stands _ (record { value = _; is = refl }))))
      shape_stands (trees.binary operator a b) node j placed e h =
          let x = went (type_of s.context a) (λ t. and_then (type_of s.context b) (λ u. Some (binary_judged structs operator a (decayed t) b (decayed u)))) j e in
          let y = went (type_of s.context b) (λ u. Some (binary_judged structs operator a (decayed x.value) b (decayed u))) j x.gave in
          let f = expression_typed a x.value (all_left _ (addressed s.context a) _ placed) x.had in
          let g = expression_typed b y.value (all_right _ (addressed s.context a) _ placed) y.had in
          by_judged j _ (same_Some _ _ y.gave) h (λ h. behind (typed s a) _ _ f.is (behind (typed s b) _ _ g.is
          (value_stands _ (binary_known operator a b (record { type = x.value; form = f.form }) (record { type = y.value; form = g.form }) h))))
      shape_stands (trees.conditional c a b) node j placed e h =
          let z = went (type_of s.context c) (λ r. and_then (type_of s.context a)
          (λ t. and_then (type_of s.context b) (λ u. Some (conditional_judged (decayed r) a (decayed t) b (decayed u))))) j e in
          let x = went (type_of s.context a) (λ t. and_then (type_of s.context b) (λ u. Some (conditional_judged (decayed z.value) a (decayed t) b (decayed u)))) j z.gave in
          let y = went (type_of s.context b) (λ u. Some (conditional_judged (decayed z.value) a (decayed x.value) b (decayed u))) j x.gave in
          let k = expression_typed c z.value (all_left _ (addressed s.context c) _ placed) z.had in
          let f = expression_typed a x.value (all_left _ (addressed s.context a) _ (all_right _ (addressed s.context c) _ placed)) x.had in
          let g = expression_typed b y.value (all_right _ (addressed s.context a) _ (all_right _ (addressed s.context c) _ placed)) y.had in
          by_judged j _ (same_Some _ _ y.gave) h (λ h. behind (typed s c) _ _ k.is
          (behind (typed s a) _ _ f.is (behind (typed s b) _ _ g.is (value_stands _ (record { value = _; is = refl })))))
      shape_stands (trees.assign operator a b) node j placed e h =
          let x = went (type_of s.context a) (λ t. and_then (type_of s.context b) (λ u. Some (assign_judged structs operator a t b u))) j e in
          let y = went (type_of s.context b) (λ u. Some (assign_judged structs operator a x.value b u)) j x.gave in
          let f = expression_typed a x.value (all_left _ (addressed s.context a) _ placed) x.had in
          let g = expression_typed b y.value (all_right _ (addressed s.context a) _ placed) y.had in
          by_judged j _ (same_Some _ _ y.gave) h (λ h. behind (typed s a) _ _ f.is (behind (typed s b) _ _ g.is
          (value_stands _ (assign_known operator a b x.value y.value f.form g.form f.place g.place h))))
      shape_stands (trees.comma a b) node j placed e h =
          let x = went (type_of s.context a) (λ t. and_then (type_of s.context b) (λ u. Some (judged [] (decayed u)))) j e in
          let y = went (type_of s.context b) (λ u. Some (judged [] (decayed u))) j x.gave in
          let f = expression_typed a x.value (all_left _ (addressed s.context a) _ placed) x.had in
          let g = expression_typed b y.value (all_right _ (addressed s.context a) _ placed) y.had in
          by_judged j _ (same_Some _ _ y.gave) h (λ h. behind (typed s a) _ _ f.is (behind (typed s b) _ _ g.is (value_stands _ (record { value = _; is = refl }))))

      all_typed_by : (es : Exprs) (us : List TypeTree) → are_placed s (all_addressed s.context es) ≡ true → types_of s.context es ≡ Some us → AllTyped es us
      all_typed_by no_exprs us placed e = record { list = []; is = refl; count = ap length (same_Some _ _ e) }
      all_typed_by (expr_and a es) us placed e =
          let x = went (type_of s.context a) (λ t. and_then (types_of s.context es) (λ ts. Some (t ∷ ts))) us e in
          let y = went (types_of s.context es) (λ ts. Some (x.value ∷ ts)) us x.gave in
          let f = expression_typed a x.value (all_left _ (addressed s.context a) _ placed) x.had in
          let rest = all_typed_by es y.value (all_right _ (addressed s.context a) _ placed) y.had in
          record {
            list = record { type = x.value; form = f.form } ∷ rest.list;
            is = goes (typed s a) _ _ _ f.is (goes (all_typed s es) rest.list _ _ rest.is refl);
            count = ap suc rest.count ∙ ap length (same_Some _ _ y.gave);
          }

pub typed_where_types : TypedWhereTypes
typed_where_types s ready e t placed is = let f = expression_typed s ready e t placed is in (f.form, f.is)
