-- The typed tree of an expression counts at most the nodes of the expression.
use Rattle.std.proofs.Common.{◌≡◌, ◌≤◌, ℕ, ◌+◌, ◌==◌, Bool, true, false, not, ◌&&◌, ◌||◌, List, [], ◌∷◌, ◌++◌, Option, Some, None, is_some, length, refl, sym, ap, ◌∙◌, subst, arith, if◌then◌else◌}
use Rattle.std.proofs.lemmas.Bool.{not-false}
use Rattle.std.specs.Cmp.{first_so, second_so}
use Rattle.std.proofs.lemmas.Option.{same_Some}
use Rattle.qs_syntax.specs.declared.nodes.Node.{Node}
use Rattle.qs_syntax.specs.declared.types.TypeName.{TypeName}
use Rattle.qs_syntax_vocabulary.specs.declared.operators.AssignmentOperator.{AssignmentOperator}
use Rattle.qs_syntax_vocabulary.specs.declared.operators.AssignmentOperator.TheVariants as assigns
use Rattle.qs_syntax.specs.Trees.{ExprTree, expr, ShapeTree, Exprs, no_exprs, expr_and}
use Rattle.qs_syntax.specs.Trees as trees
use Rattle.qs_syntax.specs.Nodes.{expr_count, shape_count, exprs_count}
use Rattle.qs_memory.specs.Partial.{◌>>=◌}
use Rattle.qs_memory.proofs.Options.{followed}
use Rattle.qs_types.specs.Types.{TypeTree, Structs}
use Rattle.qs_types.specs.Layout.{and_then}
use Rattle.qs_types.specs.Conversions.{decayed}
use Rattle.qs_types.specs.Rules.{keeps, test, breaks_one, type_unless}
use Rattle.qs_types.specs.declared.rules.Rule.TheVariants as rules
use Rattle.qs_types.specs.Contexts.{Entity, local_variable, file_variable, function, given, Context, entity_of, named_type, is_void_base}
use Rattle.qs_types.specs.Placed.{is_one_of}
use Rattle.qs_types.specs.Expressions.{is_assignable, may_cast, may_choose, Judged, judged, type_or_void, arguments_fit, signature_judged, call_judged, assign_judged, type_of, shape_judged, types_of}
use Rattle.qs_types.specs.GivenFunctions.{Signature}
use Rattle.qs_calls.specs.declared.callee.Callee.{Callee}
use Rattle.qs_meaning.specs.Typed.{variable, object, pointer_to, local, Arguments}
use Rattle.qs_meaning.specs.Forms.{Form, lvalue, call, TypedExpr, type_in_use}
use Rattle.qs_meaning.specs.Names.{Scope, Locals, local_lvalue, place_among, entity_lvalue, Designator, entity_designated}
use Rattle.qs_meaning.specs.Expressions.{arguments_of, typed, form_of, all_typed}
use Rattle.qs_meaning.proofs.Options.{nothing, went}
use Rattle.qs_elaborate_laws.specs.Counts.{lvalue_nodes, arguments_nodes}
use Rattle.qs_elaborate_laws.proofs.CountedTypes.{kept, first_unbroken, second_unbroken, unless, tests_kept, gave_at, typed_type, NullHasValue, null_value, scalar_value, assignable_value, cast_value, alike_values, operand_values}
use Rattle.qs_elaborate_laws.proofs.CountedForms.{Counted, CountedIn, counted_as, lvalue_counted, result_counted, call_counted, comma_counted, subscript_counted, binary_counted, unary_counted, member_counted, size_counted, cast_counted, conditional_counted, step_form_counted, assign_counted}

-- ---- names

local_one : (locals : Locals) (node : ℕ) → lvalue_nodes (local_lvalue locals node) 1 ≤ 1
local_one locals node = go (is_one_of node locals.placed)
  where
    go : (b : Bool) → lvalue_nodes (if b then object (pointer_to (local (place_among node locals.placed))) else variable (place_among node locals.variables)) 1 ≤ 1
    go true = omega arith
    go false = omega arith

name_counted : (s : Scope) (o : Option Entity) (t : TypeTree) (form : Form) → ((o >>= entity_lvalue s) >>= λ l. Some (lvalue l)) ≡ Some form → Counted 1 t form
name_counted s None t form h = nothing form h
name_counted s (Some (local_variable node u)) t form h = counted_as 1 t _ form h (lvalue_counted 1 t (local_lvalue s.locals node) (local_one s.locals node))
name_counted s (Some (file_variable node u)) t form h = counted_as 1 t _ form h (lvalue_counted 1 t _ (omega arith))
name_counted s (Some (function node signature body)) t form h = nothing form h
name_counted s (Some (given signature)) t form h = nothing form h

-- ---- the tests of a cast by the named type

abbrev cast_judged_by : Option TypeTree → TypeName → ExprTree → TypeTree → Judged
cast_judged_by o n e u =
    judged (keeps rules.UnknownTag (is_some o) ++ (test rules.IncompleteType (is_void_base n.base) ++ test rules.CastType (is_some o && not (may_cast (type_or_void o) e u))))
    (type_or_void o)

assigned_type_is : (structs : Structs) (operator : AssignmentOperator) (a b : ExprTree) (t u : TypeTree) → (assign_judged structs operator a t b u).type ≡ t
assigned_type_is structs assigns.Plain a b t u = refl
assigned_type_is structs assigns.Multiply a b t u = refl
assigned_type_is structs assigns.Divide a b t u = refl
assigned_type_is structs assigns.Remainder a b t u = refl
assigned_type_is structs assigns.Add a b t u = refl
assigned_type_is structs assigns.Subtract a b t u = refl
assigned_type_is structs assigns.ShiftLeft a b t u = refl
assigned_type_is structs assigns.ShiftRight a b t u = refl
assigned_type_is structs assigns.BitAnd a b t u = refl
assigned_type_is structs assigns.BitXor a b t u = refl
assigned_type_is structs assigns.BitOr a b t u = refl

-- ---- expressions

module _ (s : Scope) where
  abbrev c : Context
  c = s.context

  abbrev structs : Structs
  structs = s.context.structs

  -- ---- calls

  -- the arguments, with their types
  abbrev AllCounted : Exprs → List TypedExpr → List TypeTree → Type 0
  AllCounted no_exprs [] us = us ≡ []
  AllCounted no_exprs (a ∷ list) us = ⊥
  AllCounted (expr_and e es) [] us = ⊥
  AllCounted (expr_and e es) (a ∷ list) [] = ⊥
  AllCounted (expr_and e es) (a ∷ list) (u ∷ us) = (u ≡ a.type) × NullHasValue e (type_in_use a) × CountedIn (expr_count e) a × AllCounted es list us

  arguments_counted : (ts : List TypeTree) (es : Exprs) (list : List TypedExpr) (us : List TypeTree) (all : Arguments) → AllCounted es list us → arguments_fit ts es us ≡ true
      → arguments_of ts list ≡ Some all → arguments_nodes all 1 ≤ exprs_count es
  arguments_counted [] es [] us all h r e = subst (λ z. arguments_nodes z 1 ≤ exprs_count es) (same_Some _ all e) (omega arith)
  arguments_counted [] es (a ∷ list) us all h r e = nothing all e
  arguments_counted (t ∷ ts) es [] us all h r e = nothing all e
  arguments_counted (t ∷ ts) no_exprs (a ∷ list) us all h r e = absurd h
  arguments_counted (t ∷ ts) (expr_and x es) (a ∷ list) [] all h r e = absurd h
  arguments_counted (t ∷ ts) (expr_and x es) (a ∷ list) (u ∷ us) all h r e =
      let later = followed (arguments_of ts list) _ all e in
      let fits = subst (λ z. is_assignable t x (decayed z) ≡ true) h.0 (first_so _ _ r) in
      let v = h.2.value (assignable_value t x (type_in_use a) h.1 fits) in
      let rest = arguments_counted ts es list us later.value h.3 (second_so (is_assignable t x (decayed u)) _ r) later.first in
      subst (λ z. arguments_nodes z 1 ≤ expr_count x + exprs_count es) (same_Some _ all later.then) (omega arith)

  fitting : (m n : ℕ) (b : Bool) → (not (m == n) || (not b || false)) ≡ false → b ≡ true
  fitting m n b r = kept b (second_unbroken (not (m == n)) _ r)

  signature_counted : (signature : Signature) (f : Callee) (es : Exprs) (us : List TypeTree) (list : List TypedExpr) (t : TypeTree) (form : Form) → AllCounted es list us
      → breaks_one (signature_judged signature es us).tests ≡ false → (arguments_of signature.parameters list >>= λ converted. Some (call f converted)) ≡ Some form
      → Counted (1 + exprs_count es) t form
  signature_counted signature f es us list t form all r h =
      let w = followed (arguments_of signature.parameters list) _ form h in
      let k = arguments_counted signature.parameters es list us w.value all (fitting (length signature.parameters) (length us) _ r) w.first in
      counted_as _ t _ form w.then (call_counted _ t f w.value (omega arith))

  designated_counted : (f : List ℕ) (o : Option Entity) (es : Exprs) (us : List TypeTree) (list : List TypedExpr) (j : Judged) (t : TypeTree) (form : Form) → AllCounted es list us
      → call_judged o es us ≡ Some j → breaks_one j.tests ≡ false
      → ((o >>= entity_designated s f) >>= λ (d : Designator). arguments_of d.parameters list >>= λ converted. Some (call d.callee converted)) ≡ Some form
      → Counted (1 + exprs_count es) t form
  designated_counted f None es us list j t form all e r h = nothing form h
  designated_counted f (Some (local_variable node u)) es us list j t form all e r h = nothing form h
  designated_counted f (Some (file_variable node u)) es us list j t form all e r h = nothing form h
  designated_counted f (Some (function node None body)) es us list j t form all e r h = nothing form h
  designated_counted f (Some (function node (Some signature) body)) es us list j t form all e r h =
      signature_counted signature _ es us list t form all (tests_kept _ j e r) h
  designated_counted f (Some (given signature)) es us list j t form all e r h = signature_counted signature _ es us list t form all (tests_kept _ j e r) h

  null_of : (e : ExprTree) (a : TypedExpr) → typed s e ≡ Some a → NullHasValue e (type_in_use a)
  null_of e a h = null_value c e a.type (typed_type s e a h)

  mutual
    pub expression_counted : (e : ExprTree) (a : TypedExpr) → typed s e ≡ Some a → CountedIn (expr_count e) a
    expression_counted (expr node shape) a h =
        let t = followed (type_of c (expr node shape)) _ a h in
        let f = followed (form_of s node shape) _ a t.then in
        let w = went (shape_judged c shape) (λ (j : Judged). type_unless j.tests j.type) t.value t.first in
        let u = unless w.value.tests w.value.type t.value w.gave in
        subst (λ (z : TypedExpr). CountedIn (1 + shape_count shape) z) (same_Some _ a f.then)
        (subst (λ z. Counted (1 + shape_count shape) z f.value) u.type (shape_counted shape node w.value f.value w.had u.unbroken f.first))

    shape_counted : (shape : ShapeTree) (node : Node) (j : Judged) (form : Form) → shape_judged c shape ≡ Some j → breaks_one j.tests ≡ false → form_of s node shape ≡ Some form
        → Counted (1 + shape_count shape) j.type form
    shape_counted (trees.constant n u) node j form e r h = counted_as _ j.type _ form h (result_counted _ j.type _ (omega arith))
    shape_counted (trees.text bytes) node j form e r h = counted_as _ j.type _ form h (lvalue_counted _ j.type _ (omega arith))
    shape_counted (trees.name x) node j form e r h = name_counted s (entity_of c x) j.type form h
    shape_counted (trees.subscript a b) node j form e r h =
        let x = followed (typed s a) _ form h in
        let y = followed (typed s b) _ form x.then in
        let k = gave_at (type_of c b) y.value.type _ j (typed_type s b y.value y.first) (gave_at (type_of c a) x.value.type _ j (typed_type s a x.value x.first) e) in
        subscript_counted structs x.value y.value (expr_count a) (expr_count b) j.type form (expression_counted a x.value x.first) (expression_counted b y.value y.first)
        (tests_kept _ j k r) y.then
    shape_counted (trees.call f es) node j form e r h =
        let list = followed (all_typed s es) _ form h in
        let w = went (types_of c es) (λ us. call_judged (entity_of c f) es us) j e in
        designated_counted f (entity_of c f) es w.value list.value j j.type form (all_counted es list.value w.value list.first w.had) w.gave r list.then
    shape_counted (trees.member access a m) node j form e r h =
        let x = followed (typed s a) _ form h in
        let k = gave_at (type_of c a) x.value.type _ j (typed_type s a x.value x.first) e in
        member_counted structs access a x.value m (expr_count a) j.type form (expression_counted a x.value x.first) (tests_kept _ j k r) x.then
    shape_counted (trees.step operator a) node j form e r h =
        let x = followed (typed s a) _ form h in
        step_form_counted structs operator x.value (expr_count a) j.type form (expression_counted a x.value x.first) x.then
    shape_counted (trees.unary operator a) node j form e r h =
        let x = followed (typed s a) _ form h in
        let k = gave_at (type_of c a) x.value.type _ j (typed_type s a x.value x.first) e in
        unary_counted structs operator a x.value (expr_count a) j.type form (expression_counted a x.value x.first) (tests_kept _ j k r) x.then
    shape_counted (trees.sizeof_expr a) node j form e r h =
        let t = followed (type_of c a) _ form h in
        size_counted structs t.value (expr_count a) j.type form t.then
    shape_counted (trees.sizeof_type name) node j form e r h =
        let t = followed (named_type c name) _ form h in
        size_counted structs t.value 0 j.type form t.then
    shape_counted (trees.cast name a) node j form e r h =
        let t = followed (named_type c name) _ form h in
        let x = followed (typed s a) _ form t.then in
        let k = gave_at (type_of c a) x.value.type _ j (typed_type s a x.value x.first) e in
        let tests = subst (λ o. breaks_one (cast_judged_by o name a (type_in_use x.value)).tests ≡ false) t.first (tests_kept _ j k r) in
        let may = not-false _ (first_unbroken _ _ (second_unbroken (is_void_base name.base) _ tests)) in
        counted_as _ j.type _ form x.then (cast_counted t.value x.value (expr_count a) j.type
        ((expression_counted a x.value x.first).value (cast_value t.value a (type_in_use x.value) (null_of a x.value x.first) may)))
    shape_counted (trees.binary operator a b) node j form e r h =
        let x = followed (typed s a) _ form h in
        let y = followed (typed s b) _ form x.then in
        let k = gave_at (type_of c b) y.value.type _ j (typed_type s b y.value y.first) (gave_at (type_of c a) x.value.type _ j (typed_type s a x.value x.first) e) in
        let values = operand_values structs operator a (type_in_use x.value) b (type_in_use y.value) (null_of a x.value x.first) (null_of b y.value y.first) (tests_kept _ j k r) in
        binary_counted structs operator x.value y.value (expr_count a) (expr_count b) j.type form
        ((expression_counted a x.value x.first).value values.0) ((expression_counted b y.value y.first).value values.1) y.then
    shape_counted (trees.conditional d a b) node j form e r h =
        let z = followed (typed s d) _ form h in
        let x = followed (typed s a) _ form z.then in
        let y = followed (typed s b) _ form x.then in
        let e1 = gave_at (type_of c d) z.value.type _ j (typed_type s d z.value z.first) e in
        let k = gave_at (type_of c b) y.value.type _ j (typed_type s b y.value y.first) (gave_at (type_of c a) x.value.type _ j (typed_type s a x.value x.first) e1) in
        let may : may_choose (type_in_use z.value) a (type_in_use x.value) b (type_in_use y.value) ≡ true = kept _ (tests_kept _ j k r) in
        let values = alike_values a (type_in_use x.value) b (type_in_use y.value) (null_of a x.value x.first) (null_of b y.value y.first) (second_so _ _ may) in
        counted_as _ j.type _ form y.then (conditional_counted z.value x.value y.value (expr_count d) (expr_count a) (expr_count b) j.type
        ((expression_counted d z.value z.first).value (scalar_value (type_in_use z.value) (first_so _ _ may)))
        ((expression_counted a x.value x.first).value values.0) ((expression_counted b y.value y.first).value values.1))
    shape_counted (trees.assign operator a b) node j form e r h =
        let x = followed (typed s a) _ form h in
        let y = followed (typed s b) _ form x.then in
        let k = gave_at (type_of c b) y.value.type _ j (typed_type s b y.value y.first) (gave_at (type_of c a) x.value.type _ j (typed_type s a x.value x.first) e) in
        let type = sym (assigned_type_is structs operator a b x.value.type y.value.type) ∙ ap (λ (z : Judged). z.type) (same_Some _ j k) in
        subst (λ z. Counted (1 + (expr_count a + expr_count b)) z form) type
        (assign_counted structs operator a b x.value y.value (expr_count a) (expr_count b) form (expression_counted a x.value x.first) (expression_counted b y.value y.first)
        (null_of b y.value y.first) (tests_kept _ j k r) y.then)
    shape_counted (trees.comma a b) node j form e r h =
        let x = followed (typed s a) _ form h in
        let y = followed (typed s b) _ form x.then in
        let k = gave_at (type_of c b) y.value.type _ j (typed_type s b y.value y.first) (gave_at (type_of c a) x.value.type _ j (typed_type s a x.value x.first) e) in
        subst (λ z. Counted (1 + (expr_count a + expr_count b)) z form) (ap (λ (z : Judged). z.type) (same_Some _ j k))
        (counted_as _ _ _ form y.then (comma_counted (expr_count a) (expr_count b) x.value y.value (expression_counted a x.value x.first) (expression_counted b y.value y.first)))

    all_counted : (es : Exprs) (list : List TypedExpr) (us : List TypeTree) → all_typed s es ≡ Some list → types_of c es ≡ Some us → AllCounted es list us
    all_counted no_exprs list us h e = subst (λ z. AllCounted no_exprs z us) (same_Some _ list h) (sym (same_Some _ us e))
    all_counted (expr_and x es) list us h e =
        let a = followed (typed s x) _ list h in
        let rest = followed (all_typed s es) _ list a.then in
        let f = gave_at (type_of c x) a.value.type (λ t. and_then (types_of c es) (λ ts. Some (t ∷ ts))) us (typed_type s x a.value a.first) e in
        let w = went (types_of c es) (λ ts. Some (a.value.type ∷ ts)) us f in
        subst (λ z. AllCounted (expr_and x es) z us) (same_Some _ list rest.then)
        (subst (λ z. AllCounted (expr_and x es) (a.value ∷ rest.value) z) (same_Some _ us w.gave)
        (refl, null_of x a.value a.first, expression_counted x a.value a.first, all_counted es rest.value w.value rest.first w.had))
