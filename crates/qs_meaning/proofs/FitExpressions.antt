-- The typed tree of an expression fits.
use Rattle.std.proofs.Common.{◌≡◌, ◌≤◌, ◌⊎◌, inl, inr, ℕ, ◌+◌, ◌^◌, nat_lt, nat_le, ◌==◌, Bool, true, false, not, ◌&&◌, ◌||◌, List, [], ◌∷◌, ◌++◌, map, length, Option, Some, None, is_some, refl, sym, ap, ◌∙◌, subst, arith, le-leb}
use Rattle.std.proofs.lemmas.Bool.Decides.{nat_tests}
use Rattle.std.proofs.lemmas.Bool.{and_from, or_cases, not-false}
use Rattle.std.specs.Cmp.{first_so, second_so}
use Rattle.std.proofs.lemmas.Option.{same_Some}
use Rattle.qs_syntax.specs.declared.nodes.Node.{Node}
use Rattle.qs_syntax.specs.declared.types.TypeName.{TypeName}
use Rattle.qs_syntax_vocabulary.specs.declared.operators.UnaryOperator.{UnaryOperator}
use Rattle.qs_syntax_vocabulary.specs.declared.operators.UnaryOperator.TheVariants as unaries
use Rattle.qs_syntax_vocabulary.specs.declared.operators.StepOperator.{StepOperator}
use Rattle.qs_syntax_vocabulary.specs.declared.operators.StepOperator.TheVariants as steps
use Rattle.qs_syntax_vocabulary.specs.declared.operators.BinaryOperator.{BinaryOperator}
use Rattle.qs_syntax_vocabulary.specs.declared.operators.BinaryOperator.TheVariants as binaries
use Rattle.qs_syntax_vocabulary.specs.declared.operators.AssignmentOperator.{AssignmentOperator}
use Rattle.qs_syntax_vocabulary.specs.declared.operators.AssignmentOperator.TheVariants as assigns
use Rattle.qs_syntax_vocabulary.specs.declared.operators.Access.{Access}
use Rattle.qs_syntax_vocabulary.specs.declared.operators.Access.TheVariants as accesses
use Rattle.qs_syntax.specs.Trees.{ExprTree, expr, ShapeTree, Exprs, no_exprs, expr_and}
use Rattle.qs_syntax.specs.Trees as trees
use Rattle.qs_memory.specs.Partial.{◌>>=◌}
use Rattle.qs_memory.specs.Operations.{integer_type, unary_type, binary_type}
use Rattle.qs_memory.specs.Sizes.{largest_size}
use Rattle.qs_memory.specs.Scalars.{same_scalar}
use Rattle.qs_memory.specs.Operands.{unary_takes, binary_takes}
use Rattle.qs_memory.proofs.ScalarLaws.{same_self, same_as}
use Rattle.qs_memory.specs.declared.operation.Signedness.{Signedness}
use Rattle.qs_memory.specs.declared.operation.UnaryOperation.{UnaryOperation}
use Rattle.qs_memory.specs.declared.operation.UnaryOperation.TheVariants as operations
use Rattle.qs_memory.specs.declared.scalar.Scalar.TheVariants as scalars
use Rattle.qs_memory.specs.declared.operation.Arithmetic.{Arithmetic}
use Rattle.qs_memory.specs.declared.operation.Arithmetic.TheVariants as arithmetics
use Rattle.qs_memory.specs.declared.operation.Comparison.{Comparison}
use Rattle.qs_memory.specs.declared.operation.Comparison.TheVariants as comparisons
use Rattle.qs_memory.proofs.Options.{followed}
use Rattle.qs_calls.specs.Starts.{Interface}
use Rattle.qs_types.specs.Types.{TypeTree, int, unsigned, char, void, pointer, array, struct, is_integer, is_pointer, is_array, is_struct, is_scalar, is_void, same_type, referenced, Structs}
use Rattle.qs_types.specs.Layout.{and_then, extent_of, size_of}
use Rattle.qs_types.specs.Conversions.{promoted, arithmetic, common}
use Rattle.qs_types.specs.Rules.{breaks_one, type_unless, test, keeps}
use Rattle.qs_types.specs.declared.rules.Rule.TheVariants as rules
use Rattle.qs_types.specs.Contexts.{Entity, local_variable, file_variable, function, given, Context, entity_of, named_type, is_void_base}
use Rattle.qs_types.specs.Expressions.{is_lvalue, is_null_constant, is_assignable, both_integers, is_object_pointer, may_add, may_cast, may_choose, Judged, judged, unary_judged, step_judged, type_or_void, binary_judged, assign_judged, may_combine, may_move, subscript_judged, member_type, member_judged, name_judged, call_judged, type_of, shape_judged, types_of}
use Rattle.qs_types.specs.Expressions as expressions
use Rattle.qs_types.specs.References.{TextBlock}
use Rattle.qs_meaning.specs.Typed.{Expr, member, stepped_after, unary, Lvalue, object, Arguments, update, Function}
use Rattle.qs_meaning.specs.Conversions.{scalar_of, conversion}
use Rattle.qs_meaning.specs.Operations.{Operated, operation_of, combined, shifted, compared, signedness}
use Rattle.qs_meaning.specs.Forms.{Form, lvalue, call, TypedExpr, lvalue_of, address_of, type_in_use, value_in_use}
use Rattle.qs_meaning.specs.Names.{Scope, entity_lvalue, Designator, entity_designated, text_object}
use Rattle.qs_meaning.specs.Expressions.{operated, operator_value, arguments_of, member_offset, member_form, set_form, struct_form, plain_form, compound_form, assign_form, one, step_after_form, step_form, unary_form, size_form, cast_form, beside_zero, operator_form, binary_form, subscript_form, conditional_form, typed, form_of, all_typed}
use Rattle.qs_meaning.specs.Fits as fitting
use Rattle.qs_meaning.specs.Fits.{type_after, conversion_fits, is_null, takes_in_order, amount_type, expr_fits, lvalue_fits, arguments_fit, object_there}
use Rattle.qs_meaning.proofs.Options.{never, nothing, went}
use Rattle.qs_meaning.proofs.TypedExpressions.{kept, unbroken_left, unbroken_right, unless}
use Rattle.qs_meaning.proofs.FitConversions.{Integer, an_int, an_unsigned, a_char, Pointing, a_pointer, integer, pointing, scalar_kind, may_convert, conversion_type, plain, combined_fits, Shifts, shifted_fits, Alike, compared_fits, shared, Elements, added, ResultFits, summed_fits, subtracts, subtracted_fits, UpdateFits, combined_update, shifted_update, summed_update, subtracted_update, summed_amount, subtracted_amount, conversion_taken}
use Rattle.qs_meaning.proofs.FitForms.{Has, AssignmentFits, FormFits, integer_solid, pointing_solid, scalar_solid, pointer_object, lvalue_there, address_there, in_use, effect_there, conversion_there, becomes_there, null_value, MaybeNull, Assignable, integers_assignable, pointers_assignable, null_assignable, assignable, alike, alike_first, alike_second, added_solid, subtracted_solid}
use Rattle.qs_meaning.proofs.FitTypes.{is_small, SmallTable, size_room, room, elements, alignment_positive, member_offset_small, small_decayed}
use Rattle.qs_meaning.proofs.FitLeaves.{is_sure, shape_sure, all_sure, is_short, places, EntityFits, scalar_signature}
use Rattle.qs_meaning.proofs.FitSmall.{Place, starred_small, type_small}

-- ---- operations by the rules on their operands (6.5.5 to 6.5.12)

module _ (structs : Structs) (x y : ExprTree) (t u : TypeTree) (n m : Bool) (first : MaybeNull x n t) (second : MaybeNull y m u) (h : Elements structs t) (k : Elements structs u) where
  combined_result : (op : Arithmetic) (o : Operated) → (not (both_integers t u) || false) ≡ false → Some (combined op t u) ≡ Some o → ResultFits o t u n m (arithmetic t u)
  combined_result op o r e =
      let i = integer t (first_so _ _ (kept _ r)) in
      let j = integer u (second_so (is_integer t) _ (kept _ r)) in
      subst (λ (z : Operated). ResultFits z t u n m (arithmetic t u)) (same_Some _ o e) (record { fits = plain _ t u n m (combined_fits op i j); result = refl })

  shifted_result : (op : Arithmetic) (o : Operated) → Shifts op → (not (both_integers t u) || false) ≡ false → Some (shifted op t u) ≡ Some o → ResultFits o t u n m (promoted t)
  shifted_result op o shifts r e =
      let i = integer t (first_so _ _ (kept _ r)) in
      let j = integer u (second_so (is_integer t) _ (kept _ r)) in
      subst (λ (z : Operated). ResultFits z t u n m (promoted t)) (same_Some _ o e) (record { fits = plain _ t u n m (shifted_fits op shifts i j); result = refl })

  compared_result : (c : Comparison) (o : Operated) → Alike t u n m → Some (compared c t u) ≡ Some o → ResultFits o t u n m int
  compared_result c o a e = subst (λ (z : Operated). ResultFits z t u n m int) (same_Some _ o e) (record { fits = compared_fits c a; result = refl })

  -- 6.5.8p2 and 6.5.9p2 of pointers of one type
  ordered : (not (expressions.may_order t u) || false) ≡ false → Alike t u n m
  ordered r = alike x t y u n m first second (weaker (both_integers t u) (expressions.same_pointers t u) _ (kept _ r))
    where
      weaker : (a b c : Bool) → (a || b) ≡ true → (a || (b || c)) ≡ true
      weaker true b c e = refl
      weaker false true c e = refl
      weaker false false c e = never e

  equalled : (not (expressions.may_equal x t y u) || false) ≡ false → Alike t u n m
  equalled r = alike x t y u n m first second (kept _ r)

  operation_result : (operator : BinaryOperator) (o : Operated) → breaks_one (binary_judged structs operator x t y u).tests ≡ false → operation_of structs operator t u ≡ Some o
      → ResultFits o t u n m (binary_judged structs operator x t y u).type
  operation_result binaries.Multiply o r e = combined_result arithmetics.Multiply o r e
  operation_result binaries.Divide o r e = combined_result arithmetics.Divide o r e
  operation_result binaries.Remainder o r e = combined_result arithmetics.Remainder o r e
  operation_result binaries.Add o r e = summed_fits structs o n m (added structs t u (kept _ r)) h k e
  operation_result binaries.Subtract o r e = subtracted_fits structs o n m (subtracts structs t u (kept _ r)) h e
  operation_result binaries.ShiftLeft o r e = shifted_result arithmetics.ShiftLeft o (λ s z p. p) r e
  operation_result binaries.ShiftRight o r e = shifted_result arithmetics.ShiftRight o (λ s z p. p) r e
  operation_result binaries.Less o r e = compared_result comparisons.Less o (ordered r) e
  operation_result binaries.LessEqual o r e = compared_result comparisons.LessOrEqual o (ordered r) e
  operation_result binaries.Greater o r e = compared_result comparisons.Greater o (ordered r) e
  operation_result binaries.GreaterEqual o r e = compared_result comparisons.GreaterOrEqual o (ordered r) e
  operation_result binaries.Equal o r e = compared_result comparisons.Equal o (equalled r) e
  operation_result binaries.NotEqual o r e = compared_result comparisons.NotEqual o (equalled r) e
  operation_result binaries.BitAnd o r e = combined_result arithmetics.And o r e
  operation_result binaries.BitXor o r e = combined_result arithmetics.Xor o r e
  operation_result binaries.BitOr o r e = combined_result arithmetics.Or o r e
  operation_result binaries.And o r e = nothing o e
  operation_result binaries.Or o r e = nothing o e

-- the types of the operands of an operator have values
operands_solid : (structs : Structs) (operator : BinaryOperator) (x y : ExprTree) (t u : TypeTree) (n m : Bool) → MaybeNull x n t → MaybeNull y m u
    → breaks_one (binary_judged structs operator x t y u).tests ≡ false → (is_void t ≡ false) × (is_void u ≡ false)
operands_solid structs operator x y t u n m first second = go operator
  where
    numbers : (not (both_integers t u) || false) ≡ false → (is_void t ≡ false) × (is_void u ≡ false)
    numbers r = (integer_solid (integer t (first_so _ _ (kept _ r))), integer_solid (integer u (second_so (is_integer t) _ (kept _ r))))

    likes : Alike t u n m → (is_void t ≡ false) × (is_void u ≡ false)
    likes a = (alike_first a, alike_second a)

    tested : (not (is_scalar t && is_scalar u) || false) ≡ false → (is_void t ≡ false) × (is_void u ≡ false)
    tested r = (scalar_solid t (first_so _ _ (kept _ r)), scalar_solid u (second_so (is_scalar t) _ (kept _ r)))

    sums : (not (may_add structs t u) || false) ≡ false → (is_void t ≡ false) × (is_void u ≡ false)
    sums r = added_solid (added structs t u (kept _ r))

    differences : (not (expressions.may_subtract structs t u) || false) ≡ false → (is_void t ≡ false) × (is_void u ≡ false)
    differences r = subtracted_solid (subtracts structs t u (kept _ r))

    weaker : (a b c : Bool) → (a || b) ≡ true → (a || (b || c)) ≡ true
    weaker true b c e = refl
    weaker false true c e = refl
    weaker false false c e = never e

    orders : (not (expressions.may_order t u) || false) ≡ false → (is_void t ≡ false) × (is_void u ≡ false)
    orders r = likes (alike x t y u n m first second (weaker (both_integers t u) (expressions.same_pointers t u) _ (kept _ r)))

    equals : (not (expressions.may_equal x t y u) || false) ≡ false → (is_void t ≡ false) × (is_void u ≡ false)
    equals r = likes (alike x t y u n m first second (kept _ r))

    go : (operator : BinaryOperator) → breaks_one (binary_judged structs operator x t y u).tests ≡ false → (is_void t ≡ false) × (is_void u ≡ false)
    go binaries.Multiply r = numbers r
    go binaries.Divide r = numbers r
    go binaries.Remainder r = numbers r
    go binaries.Add r = sums r
    go binaries.Subtract r = differences r
    go binaries.ShiftLeft r = numbers r
    go binaries.ShiftRight r = numbers r
    go binaries.Less r = orders r
    go binaries.LessEqual r = orders r
    go binaries.Greater r = orders r
    go binaries.GreaterEqual r = orders r
    go binaries.Equal r = equals r
    go binaries.NotEqual r = equals r
    go binaries.BitAnd r = numbers r
    go binaries.BitXor r = numbers r
    go binaries.BitOr r = numbers r
    go binaries.And r = tested r
    go binaries.Or r = tested r

module _ (i : Interface) (g : Function) where
  operated_has : (o : Operated) (a b : TypedExpr) (gives : TypeTree) → Has i g (value_in_use a) (scalar_of (type_in_use a)) → Has i g (value_in_use b) (scalar_of (type_in_use b))
      → ResultFits o (type_in_use a) (type_in_use b) (is_null (value_in_use a)) (is_null (value_in_use b)) gives → Has i g (operated o a b) (scalar_of gives)
  operated_has o a b gives p q r =
      let x = value_in_use a in
      let y = value_in_use b in
      record {
        fits = and_from _ _ (and_from _ _ p.fits q.fits)
            (subst (λ z. ((conversion_fits o.left z (is_null x) && conversion_fits o.right (fitting.type_of y) (is_null y))
            && takes_in_order o.order o.operation (type_after o.left z) (type_after o.right (fitting.type_of y))) ≡ true) (sym p.type)
            (subst (λ z. ((conversion_fits o.left (scalar_of (type_in_use a)) (is_null x) && conversion_fits o.right z (is_null y))
            && takes_in_order o.order o.operation (type_after o.left (scalar_of (type_in_use a))) (type_after o.right z)) ≡ true) (sym q.type)
            (and_from _ _ (and_from _ _ r.fits.left r.fits.right) r.fits.takes)));
        type = r.fits.type ∙ r.result;
      }

  -- ---- assignments (6.5.16)

  back_there : (o : Operated) (t : TypeTree) → binary_type o.operation ≡ scalar_of o.type → may_convert o.type t false ≡ true
      → (conversion_fits (conversion o.type t) (binary_type o.operation) false && same_scalar (type_after (conversion o.type t) (binary_type o.operation)) (scalar_of t)) ≡ true
  back_there o t e h =
      subst (λ z. (conversion_fits (conversion o.type t) z false && same_scalar (type_after (conversion o.type t) z) (scalar_of t)) ≡ true) (sym e)
      (and_from _ _ (conversion_taken o.type t false h) (same_as _ _ (conversion_type o.type t)))

  update_has : (o : Operated) (t u : TypeTree) (l : Lvalue) (x : Expr) → lvalue_fits i g (scalar_of t) l ≡ true → Has i g x (scalar_of u) → UpdateFits o t u
      → AssignmentFits i g (update (scalar_of t) l o.operation o.left o.right (conversion o.type t) x) (scalar_of t)
  update_has o t u l x h p f = record {
    fits = and_from _ _ (and_from _ _ h p.fits)
        (subst (λ z. ((conversion_fits o.left (scalar_of t) false && conversion_fits o.right z (is_null x))
        && (binary_takes o.operation (type_after o.left (scalar_of t)) (type_after o.right z)
        && (conversion_fits (conversion o.type t) (binary_type o.operation) false && same_scalar (type_after (conversion o.type t) (binary_type o.operation)) (scalar_of t)))) ≡ true)
        (sym p.type)
        (and_from _ _ (and_from _ _ (f.plain.left false) (f.plain.right (is_null x))) (and_from _ _ f.plain.takes (back_there o t f.plain.type f.back))));
    type = refl;
  }

  -- 6.5.2.4: the value before a step
  before_has : (o : Operated) (t : TypeTree) (l : Lvalue) → lvalue_fits i g (scalar_of t) l ≡ true → UpdateFits o t int → type_after o.right scalars.Int ≡ amount_type o.operation
      → Has i g (stepped_after (scalar_of t) l o.operation o.left (conversion o.type t)) (scalar_of t)
  before_has o t l h f e = record {
    fits = and_from _ _ h (and_from _ _ (f.plain.left false)
        (and_from _ _ (subst (λ z. binary_takes o.operation (type_after o.left (scalar_of t)) z ≡ true) e f.plain.takes) (back_there o t f.plain.type f.back)));
    type = refl;
  }

  one_has : Has i g (value_in_use one) (scalar_of int)
  one_has = record { fits = refl; type = refl }

-- ---- forms

-- a value that an operator takes
pub record Value (i : Interface) (g : Function) (e : ExprTree) (a : TypedExpr) : Type 0 where
  pub form : FormFits i g a.type a.form
  pub null : MaybeNull e (is_null (value_in_use a)) (type_in_use a)

judge : (i : Interface) (g : Function) (form : Form) (k j : Judged) → Some k ≡ Some j → breaks_one j.tests ≡ false → (breaks_one k.tests ≡ false → FormFits i g k.type form)
    → FormFits i g j.type form
judge i g form k j e h f = subst (λ (z : Judged). breaks_one z.tests ≡ false → FormFits i g z.type form) (same_Some k j e) f h

object_kept : (may b : Bool) → may ≡ true → ((may && not b) || false) ≡ false → b ≡ true
object_kept true b e h = kept b h
object_kept false b e h = never e

-- the first of two where the second one fails
pub first_of : (b : Bool) → (b || false) ≡ true → b ≡ true
first_of true e = refl
first_of false e = never e

pointing_scalar : {t : TypeTree} → Pointing t → scalar_of t ≡ scalars.Pointer
pointing_scalar (a_pointer t) = refl

assigned_type_is : (structs : Structs) (operator : AssignmentOperator) (a b : ExprTree) (t u : TypeTree) → (assign_judged structs operator a t b u).type ≡ t
assigned_type_is structs assigns.Plain a b t u = refl
assigned_type_is structs assigns.Multiply a b t u = refl
assigned_type_is structs assigns.Divide a b t u = refl
assigned_type_is structs assigns.Remainder a b t u = refl
assigned_type_is structs assigns.Add a b t u = refl
assigned_type_is structs assigns.Subtract a b t u = refl
assigned_type_is structs assigns.ShiftLeft a b t u = refl
assigned_type_is structs assigns.ShiftRight a b t u = refl
assigned_type_is structs assigns.BitAnd a b t u = refl
assigned_type_is structs assigns.BitXor a b t u = refl
assigned_type_is structs assigns.BitOr a b t u = refl

-- the tests of a cast by the named type
abbrev cast_judged_by : Option TypeTree → TypeName → ExprTree → TypeTree → Judged
cast_judged_by o n e u =
    judged (keeps rules.UnknownTag (is_some o) ++ (test rules.IncompleteType (is_void_base n.base) ++ test rules.CastType (is_some o && not (may_cast (type_or_void o) e u))))
    (type_or_void o)

-- what an option that is known goes on with
gave_at : {A B : Type 0} (o : Option A) (x : A) (go : A → Option B) (y : B) → o ≡ Some x → and_then o go ≡ Some y → go x ≡ Some y
gave_at o x go y e f = sym (ap (λ o. and_then o go) e) ∙ f

module _ (i : Interface) (g : Function) where
  form_is : (t : TypeTree) (f form : Form) → Some f ≡ Some form → FormFits i g t f → FormFits i g t form
  form_is t f form e h = subst (λ z. FormFits i g t z) (same_Some f form e) h

  module _ (structs : Structs) (table : SmallTable structs) where
    operator_there : (operator : BinaryOperator) (x y : ExprTree) (a b : TypedExpr) (form : Form) → Value i g x a → Value i g y b
        → is_small structs a.type ≡ true → is_small structs b.type ≡ true
        → breaks_one (binary_judged structs operator x (type_in_use a) y (type_in_use b)).tests ≡ false → operator_form structs operator a b ≡ Some form
        → FormFits i g (binary_judged structs operator x (type_in_use a) y (type_in_use b)).type form
    operator_there operator x y a b form p q h k r e =
        let w = followed (operator_value structs operator a b) _ form e in
        let o = followed (operation_of structs operator (type_in_use a) (type_in_use b)) _ w.value w.first in
        let solid = operands_solid structs operator x y (type_in_use a) (type_in_use b) (is_null (value_in_use a)) (is_null (value_in_use b)) p.null q.null r in
        let fits = operation_result structs x y (type_in_use a) (type_in_use b) (is_null (value_in_use a)) (is_null (value_in_use b)) p.null q.null
        (elements structs table (type_in_use a) (small_decayed structs a.type h)) (elements structs table (type_in_use b) (small_decayed structs b.type k)) operator o.value r o.first in
        form_is _ _ form w.then (subst (λ z. Has i g z (scalar_of (binary_judged structs operator x (type_in_use a) y (type_in_use b)).type)) (same_Some _ w.value o.then)
        (operated_has i g o.value a b _ (in_use i g a p.form solid.0) (in_use i g b q.form solid.1) fits))

    logical_there : (operator : BinaryOperator) (x y : ExprTree) (a b : TypedExpr) → Value i g x a → Value i g y b
        → (not (is_scalar (type_in_use a) && is_scalar (type_in_use b)) || false) ≡ false → (expr_fits i g (value_in_use a) && expr_fits i g (value_in_use b)) ≡ true
    logical_there operator x y a b p q r =
        and_from _ _ (in_use i g a p.form (scalar_solid (type_in_use a) (first_so _ _ (kept _ r)))).fits
        (in_use i g b q.form (scalar_solid (type_in_use b) (second_so (is_scalar (type_in_use a)) _ (kept _ r)))).fits

    binary_there : (operator : BinaryOperator) (x y : ExprTree) (a b : TypedExpr) (form : Form) → Value i g x a → Value i g y b
        → is_small structs a.type ≡ true → is_small structs b.type ≡ true
        → breaks_one (binary_judged structs operator x (type_in_use a) y (type_in_use b)).tests ≡ false → binary_form structs operator a b ≡ Some form
        → FormFits i g (binary_judged structs operator x (type_in_use a) y (type_in_use b)).type form
    binary_there binaries.And x y a b form p q h k r e = form_is _ _ form e (record { fits = logical_there binaries.And x y a b p q r; type = refl })
    binary_there binaries.Or x y a b form p q h k r e = form_is _ _ form e (record { fits = logical_there binaries.Or x y a b p q r; type = refl })
    binary_there binaries.Add x y a b form p q h k r e = operator_there binaries.Add x y a b form p q h k r e
    binary_there binaries.Subtract x y a b form p q h k r e = operator_there binaries.Subtract x y a b form p q h k r e
    binary_there binaries.Multiply x y a b form p q h k r e = operator_there binaries.Multiply x y a b form p q h k r e
    binary_there binaries.Divide x y a b form p q h k r e = operator_there binaries.Divide x y a b form p q h k r e
    binary_there binaries.Remainder x y a b form p q h k r e = operator_there binaries.Remainder x y a b form p q h k r e
    binary_there binaries.ShiftLeft x y a b form p q h k r e = operator_there binaries.ShiftLeft x y a b form p q h k r e
    binary_there binaries.ShiftRight x y a b form p q h k r e = operator_there binaries.ShiftRight x y a b form p q h k r e
    binary_there binaries.Less x y a b form p q h k r e = operator_there binaries.Less x y a b form p q h k r e
    binary_there binaries.LessEqual x y a b form p q h k r e = operator_there binaries.LessEqual x y a b form p q h k r e
    binary_there binaries.Greater x y a b form p q h k r e = operator_there binaries.Greater x y a b form p q h k r e
    binary_there binaries.GreaterEqual x y a b form p q h k r e = operator_there binaries.GreaterEqual x y a b form p q h k r e
    binary_there binaries.Equal x y a b form p q h k r e = operator_there binaries.Equal x y a b form p q h k r e
    binary_there binaries.NotEqual x y a b form p q h k r e = operator_there binaries.NotEqual x y a b form p q h k r e
    binary_there binaries.BitAnd x y a b form p q h k r e = operator_there binaries.BitAnd x y a b form p q h k r e
    binary_there binaries.BitXor x y a b form p q h k r e = operator_there binaries.BitXor x y a b form p q h k r e
    binary_there binaries.BitOr x y a b form p q h k r e = operator_there binaries.BitOr x y a b form p q h k r e

    -- ---- assignments and steps

    compound_there : (operator : BinaryOperator) (a b : TypedExpr) (form : Form) → FormFits i g a.type a.form → Has i g (value_in_use b) (scalar_of (type_in_use b))
        → ((o : Operated) → operation_of structs operator a.type (type_in_use b) ≡ Some o → UpdateFits o a.type (type_in_use b))
        → compound_form structs operator a b ≡ Some form → FormFits i g a.type form
    compound_there operator a b form h p f e =
        let l = followed (lvalue_of a.form) _ form e in
        let o = followed (operation_of structs operator a.type (type_in_use b)) _ form l.then in
        form_is _ _ form o.then (update_has i g o.value a.type (type_in_use b) l.value (value_in_use b) (lvalue_there i g a.type a.form l.value l.first h) p (f o.value o.first))

    after_there : (operator : BinaryOperator) (a : TypedExpr) (form : Form) → FormFits i g a.type a.form
        → ((o : Operated) → operation_of structs operator a.type int ≡ Some o → UpdateFits o a.type int × (type_after o.right scalars.Int ≡ amount_type o.operation))
        → step_after_form structs operator a ≡ Some form → FormFits i g a.type form
    after_there operator a form h f e =
        let l = followed (lvalue_of a.form) _ form e in
        let o = followed (operation_of structs operator a.type int) _ form l.then in
        let at = lvalue_there i g a.type a.form l.value l.first h in
        let u = f o.value o.first in
        form_is _ _ form o.then
        (update_has i g o.value a.type int l.value (value_in_use one) at (one_has i g) u.0, before_has i g o.value a.type l.value at u.0 u.1)

    step_kind : (x : ExprTree) (t : TypeTree) → breaks_one (step_judged structs x t).tests ≡ false → Integer t ⊎ Pointing t
    step_kind x t r = go (or_cases (is_integer t) _ (second_so (is_lvalue x) _ (kept _ r)))
      where
        go : (is_integer t ≡ true) ⊎ (is_object_pointer structs t ≡ true) → Integer t ⊎ Pointing t
        go (inl h) = inl (integer t h)
        go (inr h) = inr (pointing t (first_so _ _ h))

    step_there : (operator : StepOperator) (x : ExprTree) (a : TypedExpr) (form : Form) → FormFits i g a.type a.form → is_small structs a.type ≡ true
        → breaks_one (step_judged structs x a.type).tests ≡ false → step_form structs operator a ≡ Some form → FormFits i g a.type form
    step_there operator x a form h s r e = go operator e
      where
        kind : Integer a.type ⊎ Pointing a.type
        kind = step_kind x a.type r

        sizes : Elements structs a.type
        sizes = elements structs table a.type s

        go : (operator : StepOperator) → step_form structs operator a ≡ Some form → FormFits i g a.type form
        go steps.IncrementBefore e = compound_there binaries.Add a one form h (one_has i g) (λ o q. summed_update structs o kind an_int sizes q) e
        go steps.DecrementBefore e = compound_there binaries.Subtract a one form h (one_has i g) (λ o q. subtracted_update structs o kind an_int sizes q) e
        go steps.IncrementAfter e = after_there binaries.Add a form h (λ o q. (summed_update structs o kind an_int sizes q, summed_amount structs o kind q)) e
        go steps.DecrementAfter e = after_there binaries.Subtract a form h (λ o q. (subtracted_update structs o kind an_int sizes q, subtracted_amount structs o kind q)) e

    set_there : (a b : TypedExpr) (form : Form) → FormFits i g a.type a.form → FormFits i g b.type b.form → Assignable a.type (type_in_use b) (is_null (value_in_use b))
        → set_form a b ≡ Some form → FormFits i g a.type form
    set_there a b form h k c e =
        let l = followed (lvalue_of a.form) _ form e in
        let x = in_use i g b k c.solid in
        form_is _ _ form l.then (record {
          fits = and_from _ _ (lvalue_there i g a.type a.form l.value l.first h) (and_from _ _ x.fits (becomes_there i g (value_in_use b) (type_in_use b) a.type x c.converts));
          type = refl;
        })

    struct_there : (k : ℕ) (f : Form) (b : TypedExpr) (form : Form) → FormFits i g (struct k) f → FormFits i g b.type b.form
        → struct_form structs (record { type = struct k; form = f }) b ≡ Some form → FormFits i g (struct k) form
    struct_there k f b form h m e =
        let x = followed (extent_of structs (struct k)) _ form e in
        let to = followed (address_of f) _ form x.then in
        let from = followed (address_of b.form) _ form to.then in
        let p = address_there i g (struct k) f to.value to.first h in
        let q = address_there i g b.type b.form from.value from.first m in
        let size = (room structs table (struct k) refl x.value x.first).most in
        form_is _ _ form from.then (
          and_from _ _ (and_from _ _ p.fits (same_as _ _ p.type)) (and_from _ _ (and_from _ _ q.fits (same_as _ _ q.type))
              (and_from _ _ (le-leb 1 x.value.alignment (alignment_positive structs (struct k) x.value x.first)) (le-leb x.value.size largest_size size))),
          p,
          refl,
        )

    -- an object of type t and an expression for it
    pub plain_there : (y : ExprTree) (t : TypeTree) (f : Form) (b : TypedExpr) (form : Form) → FormFits i g t f → Value i g y b
        → (is_assignable t y (type_in_use b) || (is_struct t && (same_type t b.type && is_lvalue y))) ≡ true
        → plain_form structs (record { type = t; form = f }) b ≡ Some form → FormFits i g t form
    plain_there y (struct k) f b form h q r e = struct_there k f b form h q.form e
    plain_there y int f b form h q r e = set_there (record { type = int; form = f }) b form h q.form (assignable int y (type_in_use b) _ q.null (first_of _ r)) e
    plain_there y unsigned f b form h q r e = set_there (record { type = unsigned; form = f }) b form h q.form (assignable unsigned y (type_in_use b) _ q.null (first_of _ r)) e
    plain_there y char f b form h q r e = set_there (record { type = char; form = f }) b form h q.form (assignable char y (type_in_use b) _ q.null (first_of _ r)) e
    plain_there y void f b form h q r e = set_there (record { type = void; form = f }) b form h q.form (assignable void y (type_in_use b) _ q.null (first_of _ r)) e
    plain_there y (pointer t) f b form h q r e =
        set_there (record { type = pointer t; form = f }) b form h q.form (assignable (pointer t) y (type_in_use b) _ q.null (first_of _ r)) e
    plain_there y (array t n) f b form h q r e =
        set_there (record { type = array t n; form = f }) b form h q.form (assignable (array t n) y (type_in_use b) _ q.null (first_of _ r)) e

    assign_there : (operator : AssignmentOperator) (x y : ExprTree) (a b : TypedExpr) (form : Form) → Value i g x a → Value i g y b → is_small structs a.type ≡ true
        → breaks_one (assign_judged structs operator x a.type y b.type).tests ≡ false → assign_form structs operator a b ≡ Some form → FormFits i g a.type form
    assign_there operator x y a b form p q s r e = go operator r e
      where
        combines : (op : Arithmetic) (operator : BinaryOperator) → (not (may_combine x a.type (type_in_use b)) || false) ≡ false
            → ((t u : TypeTree) → operation_of structs operator t u ≡ Some (combined op t u)) → compound_form structs operator a b ≡ Some form → FormFits i g a.type form
        combines op operator r is e =
            let n = integer a.type (first_so _ _ (second_so (is_lvalue x) _ (kept _ r))) in
            let m = integer (type_in_use b) (second_so (is_integer a.type) _ (second_so (is_lvalue x) _ (kept _ r))) in
            compound_there operator a b form p.form (in_use i g b q.form (integer_solid m))
            (λ o h. subst (λ (z : Operated). UpdateFits z a.type (type_in_use b)) (same_Some _ o (sym (is a.type (type_in_use b)) ∙ h)) (combined_update op n m)) e

        shift : (op : Arithmetic) (operator : BinaryOperator) → Shifts op → (not (may_combine x a.type (type_in_use b)) || false) ≡ false
            → ((t u : TypeTree) → operation_of structs operator t u ≡ Some (shifted op t u)) → compound_form structs operator a b ≡ Some form → FormFits i g a.type form
        shift op operator shifts r is e =
            let n = integer a.type (first_so _ _ (second_so (is_lvalue x) _ (kept _ r))) in
            let m = integer (type_in_use b) (second_so (is_integer a.type) _ (second_so (is_lvalue x) _ (kept _ r))) in
            compound_there operator a b form p.form (in_use i g b q.form (integer_solid m))
            (λ o h. subst (λ (z : Operated). UpdateFits z a.type (type_in_use b)) (same_Some _ o (sym (is a.type (type_in_use b)) ∙ h)) (shifted_update op shifts n m)) e

        kind : (not (may_move structs x a.type (type_in_use b)) || false) ≡ false → Integer a.type ⊎ Pointing a.type
        kind r = one (or_cases (is_integer a.type) _ (first_so _ _ (second_so (is_lvalue x) _ (kept _ r))))
          where
            one : (is_integer a.type ≡ true) ⊎ (is_object_pointer structs a.type ≡ true) → Integer a.type ⊎ Pointing a.type
            one (inl h) = inl (integer a.type h)
            one (inr h) = inr (pointing a.type (first_so _ _ h))

        second : (not (may_move structs x a.type (type_in_use b)) || false) ≡ false → Integer (type_in_use b)
        second r = integer (type_in_use b) (second_so (is_integer a.type || is_object_pointer structs a.type) _ (second_so (is_lvalue x) _ (kept _ r)))

        sizes : Elements structs a.type
        sizes = elements structs table a.type s

        go : (operator : AssignmentOperator) → breaks_one (assign_judged structs operator x a.type y b.type).tests ≡ false → assign_form structs operator a b ≡ Some form
            → FormFits i g a.type form
        go assigns.Plain r e = plain_there y a.type a.form b form p.form q (second_so (is_lvalue x && not (is_array a.type)) _ (kept _ r)) e
        go assigns.Multiply r e = combines arithmetics.Multiply binaries.Multiply r (λ t u. refl) e
        go assigns.Divide r e = combines arithmetics.Divide binaries.Divide r (λ t u. refl) e
        go assigns.Remainder r e = combines arithmetics.Remainder binaries.Remainder r (λ t u. refl) e
        go assigns.Add r e =
            compound_there binaries.Add a b form p.form (in_use i g b q.form (integer_solid (second r))) (λ o h. summed_update structs o (kind r) (second r) sizes h) e
        go assigns.Subtract r e =
            compound_there binaries.Subtract a b form p.form (in_use i g b q.form (integer_solid (second r))) (λ o h. subtracted_update structs o (kind r) (second r) sizes h) e
        go assigns.ShiftLeft r e = shift arithmetics.ShiftLeft binaries.ShiftLeft (λ s z p. p) r (λ t u. refl) e
        go assigns.ShiftRight r e = shift arithmetics.ShiftRight binaries.ShiftRight (λ s z p. p) r (λ t u. refl) e
        go assigns.BitAnd r e = combines arithmetics.And binaries.BitAnd r (λ t u. refl) e
        go assigns.BitXor r e = combines arithmetics.Xor binaries.BitXor r (λ t u. refl) e
        go assigns.BitOr r e = combines arithmetics.Or binaries.BitOr r (λ t u. refl) e

    -- ---- unary operators, subscripts, members, sizes

    promoted_scalar : {u : TypeTree} → Integer u → scalar_of (promoted u) ≡ integer_type (signedness (promoted u))
    promoted_scalar an_int = refl
    promoted_scalar an_unsigned = refl
    promoted_scalar a_char = refl

    promoted_converts : {u : TypeTree} (n : Bool) → Integer u → may_convert u (promoted u) n ≡ true
    promoted_converts n an_int = refl
    promoted_converts n an_unsigned = refl
    promoted_converts n a_char = refl

    arithmetic_there : (operation : Signedness → UnaryOperation) (a : TypedExpr) → ((s : Signedness) → unary_takes (operation s) (integer_type s) ≡ true)
        → ((s : Signedness) → unary_type (operation s) ≡ integer_type s) → FormFits i g a.type a.form → Integer (type_in_use a)
        → Has i g (unary (operation (signedness (promoted (type_in_use a)))) (conversion (type_in_use a) (promoted (type_in_use a))) (value_in_use a)) (scalar_of (promoted (type_in_use a)))
    arithmetic_there operation a takes type h n =
        let u = type_in_use a in
        let x = in_use i g a h (integer_solid n) in
        let s = signedness (promoted u) in
        record {
          fits = and_from _ _ x.fits (and_from _ _ (conversion_there i g (value_in_use a) u (promoted u) x (promoted_converts (is_null (value_in_use a)) n))
              (subst (λ z. unary_takes (operation s) (type_after (conversion u (promoted u)) z) ≡ true) (sym x.type)
              (subst (λ z. unary_takes (operation s) z ≡ true) (sym (conversion_type u (promoted u) ∙ promoted_scalar n)) (takes s))));
          type = type s ∙ sym (promoted_scalar n);
        }

    beside_converts : (u : TypeTree) (n : Bool) → Integer u ⊎ Pointing u → may_convert u (beside_zero u) n ≡ true
    beside_converts u n (inl an_int) = refl
    beside_converts u n (inl an_unsigned) = refl
    beside_converts u n (inl a_char) = refl
    beside_converts u n (inr (a_pointer t)) = refl

    unary_there : (operator : UnaryOperator) (x : ExprTree) (a : TypedExpr) (form : Form) → FormFits i g a.type a.form
        → breaks_one (unary_judged structs operator x a.type (type_in_use a)).tests ≡ false → unary_form operator a ≡ Some form
        → FormFits i g (unary_judged structs operator x a.type (type_in_use a)).type form
    unary_there unaries.Address x a form h r e =
        let p = followed (address_of a.form) _ form e in
        form_is _ _ form p.then (address_there i g a.type a.form p.value p.first h)
    unary_there unaries.Indirect x a form h r e =
        let p = pointing (type_in_use a) (first_so _ _ (kept _ r)) in
        let v = in_use i g a h (pointing_solid p) in
        form_is _ _ form e (pointer_object i g (value_in_use a) (scalar_of (referenced (type_in_use a))) (record { fits = v.fits; type = v.type ∙ pointing_scalar p }))
    unary_there unaries.Plus x a form h r e =
        form_is _ _ form e (arithmetic_there operations.Plus a (λ s. same_self (integer_type s)) (λ s. refl) h (integer (type_in_use a) (kept _ r)))
    unary_there unaries.Minus x a form h r e =
        form_is _ _ form e (arithmetic_there operations.Minus a (λ s. same_self (integer_type s)) (λ s. refl) h (integer (type_in_use a) (kept _ r)))
    unary_there unaries.Complement x a form h r e =
        form_is _ _ form e (arithmetic_there operations.Complement a (λ s. same_self (integer_type s)) (λ s. refl) h (integer (type_in_use a) (kept _ r)))
    unary_there unaries.Not x a form h r e =
        let u = type_in_use a in
        let v = in_use i g a h (scalar_solid u (kept _ r)) in
        form_is _ _ form e (record {
          fits = and_from _ _ v.fits (and_from _ _ (conversion_there i g (value_in_use a) u (beside_zero u) v (beside_converts u (is_null (value_in_use a)) (scalar_kind u (kept _ r)))) refl);
          type = refl;
        })

    subscript_there : (x y : ExprTree) (a b : TypedExpr) (form : Form) → Value i g x a → Value i g y b → is_small structs a.type ≡ true → is_small structs b.type ≡ true
        → breaks_one (subscript_judged structs (type_in_use a) (type_in_use b)).tests ≡ false → subscript_form structs a b ≡ Some form
        → FormFits i g (subscript_judged structs (type_in_use a) (type_in_use b)).type form
    subscript_there x y a b form p q h k r e =
        let t = type_in_use a in
        let u = type_in_use b in
        let may = not-false _ (unbroken_left _ _ r) in
        let w = followed (operator_value structs binaries.Add a b) _ form e in
        let o = followed (operation_of structs binaries.Add t u) _ w.value w.first in
        let kind = added structs t u may in
        let solid = added_solid kind in
        let fits = summed_fits structs o.value (is_null (value_in_use a)) (is_null (value_in_use b)) kind
        (elements structs table t (small_decayed structs a.type h)) (elements structs table u (small_decayed structs b.type k)) o.first in
        let v = operated_has i g o.value a b (common t u) (in_use i g a p.form solid.0) (in_use i g b q.form solid.1) fits in
        let points = pointing (common t u) (first_so _ _ (object_kept (may_add structs t u) _ may (unbroken_right (not (may_add structs t u)) _ r))) in
        form_is _ _ form w.then (subst (λ z. lvalue_fits i g (scalar_of (referenced (common t u))) (object z) ≡ true) (same_Some _ w.value o.then)
        (pointer_object i g (operated o.value a b) (scalar_of (referenced (common t u))) (record { fits = v.fits; type = v.type ∙ pointing_scalar points })))

    member_has : (offset : ℕ) (p : Expr) → Has i g p scalars.Pointer → nat_le offset largest_size ≡ true → Has i g (member offset p) scalars.Pointer
    member_has offset p h o = record { fits = and_from _ _ h.fits (and_from _ _ (same_as _ _ h.type) o); type = refl }

    member_there : (access : Access) (x : ExprTree) (a : TypedExpr) (m : List ℕ) (form : Form) → FormFits i g a.type a.form
        → breaks_one (member_judged structs access x a.type m).tests ≡ false → member_form structs access a m ≡ Some form
        → FormFits i g (member_judged structs access x a.type m).type form
    member_there accesses.Dot x a m form h r e =
        let p = followed (address_of a.form) _ form e in
        let o = followed (member_offset structs a.type m) _ form p.then in
        form_is _ _ form o.then (pointer_object i g (member o.value p.value) (scalar_of (type_or_void (member_type structs a.type m)))
        (member_has o.value p.value (address_there i g a.type a.form p.value p.first h) (member_offset_small structs table a.type m o.value o.first)))
    member_there accesses.Arrow x a m form h r e =
        let o = followed (member_offset structs (referenced (type_in_use a)) m) _ form e in
        let p = pointing (type_in_use a) (first_so _ _ (kept _ r)) in
        let v = in_use i g a h (pointing_solid p) in
        form_is _ _ form o.then (pointer_object i g (member o.value (value_in_use a)) (scalar_of (type_or_void (member_type structs (referenced (type_in_use a)) m)))
        (member_has o.value (value_in_use a) (record { fits = v.fits; type = v.type ∙ pointing_scalar p }) (member_offset_small structs table (referenced (type_in_use a)) m o.value o.first)))

    word : (n : ℕ) → n ≤ 16777216 → nat_lt n (2 ^ 32) ≡ true
    word n h = grind (arith, nat_tests)

    size_there : (t : TypeTree) (form : Form) → is_small structs t ≡ true → size_form structs t ≡ Some form → FormFits i g unsigned form
    size_there t form s e =
        let n = followed (size_of structs t) _ form e in
        form_is _ _ form n.then (record { fits = word n.value (size_room structs table t s n.value n.first).most; type = refl })

  -- ---- casts, conditionals

  cast_converts : (t : TypeTree) (y : ExprTree) (u : TypeTree) (n : Bool) → MaybeNull y n u → may_cast t y u ≡ true → Assignable t u n
  cast_converts t y u n null h = go (or_cases (both_integers t u) _ h)
    where
      pointers : is_pointer t ≡ true → (is_pointer u ≡ true) ⊎ (is_null_constant y ≡ true) → Assignable t u n
      pointers p (inl q) = pointers_assignable n (pointing t p) (pointing u q)
      pointers p (inr z) = null_assignable n (pointing t p) (null z)

      go : (both_integers t u ≡ true) ⊎ ((is_pointer t && (is_pointer u || is_null_constant y)) ≡ true) → Assignable t u n
      go (inl k) = integers_assignable n (integer t (first_so _ _ k)) (integer u (second_so (is_integer t) _ k))
      go (inr k) = pointers (first_so _ _ k) (or_cases (is_pointer u) _ (second_so (is_pointer t) _ k))

  cast_there : (t : TypeTree) (b : TypedExpr) → FormFits i g b.type b.form → Assignable t (type_in_use b) (is_null (value_in_use b)) → FormFits i g t (cast_form t b)
  cast_there t b h c =
      let x = in_use i g b h c.solid in
      record {
        fits = and_from _ _ x.fits (conversion_there i g (value_in_use b) (type_in_use b) t x c.converts);
        type = ap (type_after (conversion (type_in_use b) t)) x.type ∙ conversion_type (type_in_use b) t;
      }

  conditional_there : (y z : ExprTree) (c a b : TypedExpr) → FormFits i g c.type c.form → Value i g y a → Value i g z b
      → may_choose (type_in_use c) y (type_in_use a) z (type_in_use b) ≡ true → FormFits i g (common (type_in_use a) (type_in_use b)) (conditional_form c a b)
  conditional_there y z c a b h p q r =
      let t = type_in_use a in
      let u = type_in_use b in
      let likes = alike y t z u (is_null (value_in_use a)) (is_null (value_in_use b)) p.null q.null (second_so (is_scalar (type_in_use c)) _ r) in
      let k = shared likes in
      let d = in_use i g c h (scalar_solid (type_in_use c) (first_so _ _ r)) in
      let v = in_use i g a p.form (alike_first likes) in
      let w = in_use i g b q.form (alike_second likes) in
      record {
        fits = and_from _ _ d.fits (and_from _ _ (and_from _ _ v.fits (becomes_there i g (value_in_use a) t (common t u) v k.first))
            (and_from _ _ w.fits (becomes_there i g (value_in_use b) u (common t u) w k.second)));
        type = refl;
      }

-- ---- expressions

pub typed_type : (s : Scope) (e : ExprTree) (a : TypedExpr) → typed s e ≡ Some a → type_of s.context e ≡ Some a.type
typed_type s (expr node shape) a h =
    let t = followed (type_of s.context (expr node shape)) _ a h in
    let f = followed (form_of s node shape) _ a t.then in
    t.first ∙ ap (λ (z : TypedExpr). Some z.type) (same_Some _ a f.then)

module _ (i : Interface) (g : Function) (called : List ℕ → Bool) (there : TextBlock → Bool) (s : Scope) (place : Place i g called s s.context)
    (short : (t : TextBlock) → there t ≡ true → is_short t ≡ true)
    (blocks : (t : TextBlock) → there t ≡ true → object_there i g (text_object s.statics t.node) ≡ true) where
  abbrev c : Context
  c = s.context

  abbrev types : Structs
  types = s.context.structs

  small : (e : ExprTree) (a : TypedExpr) → is_sure called there e ≡ true → typed s e ≡ Some a → is_small types a.type ≡ true
  small e a sure h = type_small i g called there s c place short e a.type sure (typed_type s e a h)

  name_there : (x : List ℕ) (o : Option Entity) (j : Judged) (form : Form) → ((e : Entity) → o ≡ Some e → EntityFits i g called (places s) types x e)
      → name_judged o ≡ Some j → breaks_one j.tests ≡ false → ((o >>= entity_lvalue s) >>= λ l. Some (lvalue l)) ≡ Some form → FormFits i g j.type form
  name_there x None j form fit e r h = nothing form h
  name_there x (Some (local_variable node None)) j form fit e r h = nothing j e
  name_there x (Some (local_variable node (Some t))) j form fit e r h = judge i g form _ j e r (λ r. form_is i g t _ form h (fit (local_variable node (Some t)) refl).0)
  name_there x (Some (file_variable node None)) j form fit e r h = nothing j e
  name_there x (Some (file_variable node (Some t))) j form fit e r h = judge i g form _ j e r (λ r. form_is i g t _ form h (and_from _ _ (fit (file_variable node (Some t)) refl).0 refl))
  name_there x (Some (function node signature body)) j form fit e r h = nothing form h
  name_there x (Some (given signature)) j form fit e r h = nothing form h

  -- ---- calls

  -- the typed arguments
  abbrev Good : Exprs → List TypedExpr → Type 0
  Good no_exprs [] = Unit {0}
  Good no_exprs (a ∷ list) = ⊥
  Good (expr_and e es) [] = ⊥
  Good (expr_and e es) (a ∷ list) = (typed s e ≡ Some a) × Value i g e a × Good es list

  types_good : (es : Exprs) (list : List TypedExpr) (us : List TypeTree) → Good es list → types_of c es ≡ Some us → us ≡ map (λ (a : TypedExpr). a.type) list
  types_good no_exprs [] us h e = sym (same_Some _ us e)
  types_good no_exprs (a ∷ list) us h e = absurd h
  types_good (expr_and x es) [] us h e = absurd h
  types_good (expr_and x es) (a ∷ list) us h e =
      let f = gave_at (type_of c x) a.type (λ t. and_then (types_of c es) (λ ts. Some (t ∷ ts))) us (typed_type s x a h.0) e in
      let w = went (types_of c es) (λ ts. Some (a.type ∷ ts)) us f in
      sym (same_Some _ us w.gave) ∙ ap (λ ts. a.type ∷ ts) (types_good es list w.value h.2 w.had)

  arguments_there : (ts : List TypeTree) (es : Exprs) (list : List TypedExpr) (all : Arguments) → Good es list
      → expressions.arguments_fit ts es (map (λ (a : TypedExpr). a.type) list) ≡ true → arguments_of ts list ≡ Some all → arguments_fit i g (map scalar_of ts) all ≡ true
  arguments_there [] es [] all h r e = subst (λ z. arguments_fit i g [] z ≡ true) (same_Some _ all e) refl
  arguments_there [] es (a ∷ list) all h r e = nothing all e
  arguments_there (t ∷ ts) es [] all h r e = nothing all e
  arguments_there (t ∷ ts) no_exprs (a ∷ list) all h r e = absurd h
  arguments_there (t ∷ ts) (expr_and x es) (a ∷ list) all h r e =
      let later = followed (arguments_of ts list) _ all e in
      let c = assignable t x (type_in_use a) (is_null (value_in_use a)) h.1.null (first_so _ _ r) in
      let v = in_use i g a h.1.form c.solid in
      subst (λ z. arguments_fit i g (scalar_of t ∷ map scalar_of ts) z ≡ true) (same_Some _ all later.then)
      (and_from _ _ (and_from _ _ v.fits (becomes_there i g (value_in_use a) (type_in_use a) t v c.converts))
      (arguments_there ts es list later.value h.2 (second_so (is_assignable t x (type_in_use a)) _ r) later.first))

  call_there : (f : List ℕ) (o : Option Entity) (es : Exprs) (us : List TypeTree) (list : List TypedExpr) (j : Judged) (form : Form)
      → ((e : Entity) → o ≡ Some e → EntityFits i g called (places s) types f e) → called f ≡ true → Good es list → us ≡ map (λ (a : TypedExpr). a.type) list
      → call_judged o es us ≡ Some j → breaks_one j.tests ≡ false
      → ((o >>= entity_designated s f) >>= λ (d : Designator). arguments_of d.parameters list >>= λ converted. Some (call d.callee converted)) ≡ Some form
      → FormFits i g j.type form
  call_there f None es us list j form fit is good same_types e r h = nothing form h
  call_there f (Some (local_variable node t)) es us list j form fit is good same_types e r h = nothing form h
  call_there f (Some (file_variable node t)) es us list j form fit is good same_types e r h = nothing form h
  call_there f (Some (function node None body)) es us list j form fit is good same_types e r h = nothing form h
  call_there f (Some (function node (Some signature) body)) es us list j form fit is good same_types e r h = judge i g form _ j e r (λ r.
      let w = followed (arguments_of signature.parameters list) _ form h in
      form_is i g signature.result _ form w.then (record {
        signature = scalar_signature signature;
        is = (fit (function node (Some signature) body) refl).0 is;
        arguments = arguments_there signature.parameters es list w.value good
            (subst (λ z. expressions.arguments_fit signature.parameters es z ≡ true) same_types (not-false _ (unbroken_left _ _ (unbroken_right (not (length signature.parameters == length us)) _ r)))) w.first;
        result = refl;
      }))
  call_there f (Some (given signature)) es us list j form fit is good same_types e r h = judge i g form _ j e r (λ r.
      let w = followed (arguments_of signature.parameters list) _ form h in
      form_is i g signature.result _ form w.then (record {
        signature = scalar_signature signature;
        is = (fit (given signature) refl).0;
        arguments = arguments_there signature.parameters es list w.value good
            (subst (λ z. expressions.arguments_fit signature.parameters es z ≡ true) same_types (not-false _ (unbroken_left _ _ (unbroken_right (not (length signature.parameters == length us)) _ r)))) w.first;
        result = refl;
      }))

  named_small : (name : TypeName) (t : TypeTree) → named_type c name ≡ Some t → is_small types t ≡ true
  named_small name t e = subst (λ o. is_small types (type_or_void o) ≡ true) e (starred_small c place.named name.base name.stars)

  mutual
    pub expression_there : (e : ExprTree) (a : TypedExpr) → is_sure called there e ≡ true → typed s e ≡ Some a → FormFits i g a.type a.form
    expression_there (expr node shape) a sure h =
        let t = followed (type_of c (expr node shape)) _ a h in
        let f = followed (form_of s node shape) _ a t.then in
        let w = went (shape_judged c shape) (λ (j : Judged). type_unless j.tests j.type) t.value t.first in
        let u = unless w.value.tests w.value.type t.value w.gave in
        subst (λ (z : TypedExpr). FormFits i g z.type z.form) (same_Some _ a f.then)
        (subst (λ z. FormFits i g z f.value) u.type (shape_there shape node w.value f.value sure w.had u.unbroken f.first))

    shape_there : (shape : ShapeTree) (node : Node) (j : Judged) (form : Form) → shape_sure called there node.id shape ≡ true → shape_judged c shape ≡ Some j
        → breaks_one j.tests ≡ false → form_of s node shape ≡ Some form → FormFits i g j.type form
    shape_there (trees.constant n true) node j form sure e r h = judge i g form _ j e r (λ r. form_is i g unsigned _ form h (record { fits = sure; type = refl }))
    shape_there (trees.constant n false) node j form sure e r h = judge i g form _ j e r (λ r. form_is i g int _ form h (record { fits = sure; type = refl }))
    shape_there (trees.text bytes) node j form sure e r h =
        judge i g form _ j e r (λ r. form_is i g (array char (length bytes + 1)) _ form h (and_from _ _ (blocks (record { node = node.id; bytes = bytes }) sure) refl))
    shape_there (trees.name x) node j form sure e r h = name_there x (entity_of c x) j form (place.entities x) e r h
    shape_there (trees.subscript a b) node j form sure e r h =
        let x = followed (typed s a) _ form h in
        let y = followed (typed s b) _ form x.then in
        let first = first_so _ _ sure in
        let second = second_so (is_sure called there a) _ sure in
        let e2 = gave_at (type_of c b) y.value.type _ j (typed_type s b y.value y.first) (gave_at (type_of c a) x.value.type _ j (typed_type s a x.value x.first) e) in
        judge i g form _ j e2 r (λ r. subscript_there i g types place.table a b x.value y.value form
        (record { form = expression_there a x.value first x.first; null = null_value s a x.value x.first })
        (record { form = expression_there b y.value second y.first; null = null_value s b y.value y.first })
        (small a x.value first x.first) (small b y.value second y.first) r y.then)
    shape_there (trees.call f es) node j form sure e r h =
        let list = followed (all_typed s es) _ form h in
        let w = went (types_of c es) (λ us. call_judged (entity_of c f) es us) j e in
        let good = all_good es list.value (second_so (called f) _ sure) list.first in
        call_there f (entity_of c f) es w.value list.value j form (place.entities f) (first_so _ _ sure) good (types_good es list.value w.value good w.had) w.gave r list.then
    shape_there (trees.member access a m) node j form sure e r h =
        let x = followed (typed s a) _ form h in
        judge i g form _ j (gave_at (type_of c a) x.value.type _ j (typed_type s a x.value x.first) e) r (λ r.
        member_there i g types place.table access a x.value m form (expression_there a x.value sure x.first) r x.then)
    shape_there (trees.step operator a) node j form sure e r h =
        let x = followed (typed s a) _ form h in
        judge i g form _ j (gave_at (type_of c a) x.value.type _ j (typed_type s a x.value x.first) e) r (λ r.
        step_there i g types place.table operator a x.value form (expression_there a x.value sure x.first) (small a x.value sure x.first) r x.then)
    shape_there (trees.unary operator a) node j form sure e r h =
        let x = followed (typed s a) _ form h in
        judge i g form _ j (gave_at (type_of c a) x.value.type _ j (typed_type s a x.value x.first) e) r (λ r.
        unary_there i g types place.table operator a x.value form (expression_there a x.value sure x.first) r x.then)
    shape_there (trees.sizeof_expr a) node j form sure e r h =
        let t = followed (type_of c a) _ form h in
        judge i g form _ j (gave_at (type_of c a) t.value _ j t.first e) r (λ r.
        size_there i g types place.table t.value form (type_small i g called there s c place short a t.value sure t.first) t.then)
    shape_there (trees.sizeof_type name) node j form sure e r h =
        let t = followed (named_type c name) _ form h in
        judge i g form _ j e r (λ r. size_there i g types place.table t.value form (named_small name t.value t.first) t.then)
    shape_there (trees.cast name a) node j form sure e r h =
        let t = followed (named_type c name) _ form h in
        let x = followed (typed s a) _ form t.then in
        let k = gave_at (type_of c a) x.value.type _ j (typed_type s a x.value x.first) e in
        judge i g form _ j k r (λ r. subst (λ o. breaks_one (cast_judged_by o name a (type_in_use x.value)).tests ≡ false → FormFits i g (type_or_void o) form) (sym t.first)
        (λ r. form_is i g t.value _ form x.then (cast_there i g t.value x.value (expression_there a x.value sure x.first)
        (cast_converts i g t.value a (type_in_use x.value) (is_null (value_in_use x.value)) (null_value s a x.value x.first)
        (not-false _ (unbroken_left _ _ (unbroken_right (is_void_base name.base) _ r)))))) r)
    shape_there (trees.binary operator a b) node j form sure e r h =
        let x = followed (typed s a) _ form h in
        let y = followed (typed s b) _ form x.then in
        let first = first_so _ _ sure in
        let second = second_so (is_sure called there a) _ sure in
        let e2 = gave_at (type_of c b) y.value.type _ j (typed_type s b y.value y.first) (gave_at (type_of c a) x.value.type _ j (typed_type s a x.value x.first) e) in
        judge i g form _ j e2 r (λ r. binary_there i g types place.table operator a b x.value y.value form
        (record { form = expression_there a x.value first x.first; null = null_value s a x.value x.first })
        (record { form = expression_there b y.value second y.first; null = null_value s b y.value y.first })
        (small a x.value first x.first) (small b y.value second y.first) r y.then)
    shape_there (trees.conditional d a b) node j form sure e r h =
        let z = followed (typed s d) _ form h in
        let x = followed (typed s a) _ form z.then in
        let y = followed (typed s b) _ form x.then in
        let rest = second_so (is_sure called there d) _ sure in
        let first = first_so _ _ rest in
        let second = second_so (is_sure called there a) _ rest in
        let e1 = gave_at (type_of c d) z.value.type _ j (typed_type s d z.value z.first) e in
        let e3 = gave_at (type_of c b) y.value.type _ j (typed_type s b y.value y.first) (gave_at (type_of c a) x.value.type _ j (typed_type s a x.value x.first) e1) in
        judge i g form _ j e3 r (λ r. form_is i g _ _ form y.then (conditional_there i g a b z.value x.value y.value (expression_there d z.value (first_so _ _ sure) z.first)
        (record { form = expression_there a x.value first x.first; null = null_value s a x.value x.first })
        (record { form = expression_there b y.value second y.first; null = null_value s b y.value y.first })
        (kept _ r)))
    shape_there (trees.assign operator a b) node j form sure e r h =
        let x = followed (typed s a) _ form h in
        let y = followed (typed s b) _ form x.then in
        let first = first_so _ _ sure in
        let second = second_so (is_sure called there a) _ sure in
        let e2 = gave_at (type_of c b) y.value.type _ j (typed_type s b y.value y.first) (gave_at (type_of c a) x.value.type _ j (typed_type s a x.value x.first) e) in
        judge i g form _ j e2 r (λ r. subst (λ z. FormFits i g z form) (sym (assigned_type_is types operator a b x.value.type y.value.type))
        (assign_there i g types place.table operator a b x.value y.value form
        (record { form = expression_there a x.value first x.first; null = null_value s a x.value x.first })
        (record { form = expression_there b y.value second y.first; null = null_value s b y.value y.first })
        (small a x.value first x.first) r y.then))
    shape_there (trees.comma a b) node j form sure e r h =
        let x = followed (typed s a) _ form h in
        let y = followed (typed s b) _ form x.then in
        let e2 = gave_at (type_of c b) y.value.type _ j (typed_type s b y.value y.first) (gave_at (type_of c a) x.value.type _ j (typed_type s a x.value x.first) e) in
        judge i g form _ j e2 r (λ r. form_is i g _ _ form y.then (
          effect_there i g x.value.type x.value.form (expression_there a x.value (first_so _ _ sure) x.first),
          expression_there b y.value (second_so (is_sure called there a) _ sure) y.first,
          refl,
        ))

    all_good : (es : Exprs) (list : List TypedExpr) → all_sure called there es ≡ true → all_typed s es ≡ Some list → Good es list
    all_good no_exprs list sure h = subst (Good no_exprs) (same_Some _ list h) tt
    all_good (expr_and e es) list sure h =
        let x = followed (typed s e) _ list h in
        let rest = followed (all_typed s es) _ list x.then in
        subst (Good (expr_and e es)) (same_Some _ list rest.then) (
          x.first,
          record { form = expression_there e x.value (first_so _ _ sure) x.first; null = null_value s e x.value x.first },
          all_good es rest.value (second_so (is_sure called there e) _ sure) rest.first,
        )
