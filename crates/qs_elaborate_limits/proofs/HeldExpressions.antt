-- What an expression of the typed tree gives in core holds at most 1 more than its height.
use Rattle.std.proofs.Common.{◌||◌, [], ◌∷◌, arith}
use Rattle.qs_memory.specs.declared.scalar.Scalar.TheVariants as scalars
use Rattle.qs_core.specs.Trees as core
use Rattle.qs_meaning.specs.Typed.{Expr, constant, value, pointer_to, member, called, stepped_after, unary, cast, binary, logical_and, logical_or, conditional, assigned, sequence, Lvalue, variable, object, Arguments, no_arguments, argument_and, Assignment, set, update, Effect, nothing, discard, assign, perform, copy, fill, in_order}
use Rattle.qs_elaborate_bodies.specs.Literals.{converted_core}
use Rattle.qs_elaborate_bodies.specs.Acting.{acts, arguments_act}
use Rattle.qs_elaborate_bodies.specs.Parts.{Temporaries, with_temporary, saved_if, address_saved_if, value_read}
use Rattle.qs_elaborate_bodies.specs.Expressions.{expression_core, lvalue_core, arguments_core, assignment_core, effect_core}
use Rattle.qs_elaborate_laws.proofs.SizeFacts.{held_by_parts, converted_below}
use Rattle.qs_elaborate_limits.proofs.TypedHeights.{height, lvalue_height, arguments_height, assignment_height, effect_height}
use Rattle.qs_elaborate_limits.proofs.MostHeld.{most-append}
use Rattle.qs_elaborate_limits.proofs.HeldParts.{Few, ListFew, either_few, saved_few, saved_if_few, valued_few, operation_few, logical_few, and_few, or_few, choice_few, choice_joined_few, before_few, AllFew, argument_few, call_few, call_listed_few, PlaceFew, read_few, place_saved_few, WrittenFew, set_few, update_few, discarded_few, write_valued_few, step_few, copied_few}

mutual
  pub expression_few : (a : Expr) (ts : Temporaries) → Few (expression_core a ts) (height a)
  expression_few (constant s n) ts = record { statements_few = omega arith; value_few = omega arith }
  expression_few (value s l) ts = read_few s (lvalue_core l ts) (lvalue_height l) (lvalue_few l ts)
  expression_few (pointer_to o) ts = record { statements_few = omega arith; value_few = omega arith }
  expression_few (member offset a) ts =
      let v = expression_core a ts in valued_few (core.member offset) v (height a) (held_by_parts (core.member offset v.value)) (expression_few a ts)
  expression_few (called s f es) ts = call_few s f (arguments_core es ts) (arguments_height es) (arguments_few es ts)
  expression_few (stepped_after s l op left back) ts = step_few s op left back (lvalue_core l ts) (lvalue_height l) (lvalue_few l ts)
  expression_few (unary op c a) ts =
      let v = expression_core a ts in
      let x = converted_below c v.value in
      valued_few (λ y. core.unary op (converted_core c y)) v (height a) (omega (arith, x.held_less)) (expression_few a ts)
  expression_few (cast c a) ts =
      let v = expression_core a ts in
      let x = converted_below c v.value in
      valued_few (converted_core c) v (height a) (omega (arith, x.held_less)) (expression_few a ts)
  expression_few (binary op order left right a b) ts =
      let first = saved_if (acts b) (expression_core a ts) in
      operation_few op order left right first (expression_core b first.temporaries) (height a) (height b)
      (saved_if_few (acts b) (expression_core a ts) (height a) (expression_few a ts)) (expression_few b first.temporaries)
  expression_few (logical_and a b) ts =
      let first = expression_core a ts in
      let second = expression_core b first.temporaries in
      let h = expression_few a ts in
      let k = expression_few b first.temporaries in
      either_few (acts b) _ _ _ (and_few first second (height a) (height b) h k) (logical_few core.logical_and first second (height a) (height b) (omega arith) h k)
  expression_few (logical_or a b) ts =
      let first = expression_core a ts in
      let behind = with_temporary first.temporaries scalars.Int in
      let h = expression_few a ts in
      either_few (acts b) _ _ _ (or_few first (expression_core b behind) (height a) (height b) h (expression_few b behind))
      (logical_few core.logical_or first (expression_core b first.temporaries) (height a) (height b) (omega arith) h (expression_few b first.temporaries))
  expression_few (conditional s a second third b c) ts =
      let first = expression_core a ts in
      let met = expression_core b first.temporaries in
      let behind = with_temporary met.temporaries s in
      let h = expression_few a ts in
      let i = expression_few b first.temporaries in
      either_few (acts b || acts c) _ _ _
      (choice_few s second third first met (expression_core c behind) (height a) (height b) (height c) h i (expression_few c behind))
      (choice_joined_few second third first met (expression_core c met.temporaries) (height a) (height b) (height c) h i (expression_few c met.temporaries))
  expression_few (assigned a) ts = write_valued_few (assignment_core a ts) (assignment_height a) (assignment_few a ts)
  expression_few (sequence a b) ts =
      let first = effect_core a ts in
      before_few first (expression_core b first.temporaries) (effect_height a) (height b) (effect_few a ts) (expression_few b first.temporaries)

  lvalue_few : (l : Lvalue) (ts : Temporaries) → PlaceFew (lvalue_core l ts) (lvalue_height l)
  lvalue_few (variable x) ts = record { statements_few = omega arith; place_few = omega arith }
  lvalue_few (object a) ts = let h = expression_few a ts in record { statements_few = h.statements_few; place_few = h.value_few }

  arguments_few : (es : Arguments) (ts : Temporaries) → AllFew (arguments_core es ts) (arguments_height es)
  arguments_few no_arguments ts = record { statements_few = omega arith; values_few = omega arith }
  arguments_few (argument_and c a es) ts =
      let first = saved_if (arguments_act es) (expression_core a ts) in
      argument_few c first (arguments_core es first.temporaries) (height a) (arguments_height es)
      (saved_if_few (arguments_act es) (expression_core a ts) (height a) (expression_few a ts)) (arguments_few es first.temporaries)

  assignment_few : (a : Assignment) (ts : Temporaries) → WrittenFew (assignment_core a ts) (assignment_height a)
  assignment_few (set s l c a) ts =
      let at = address_saved_if (acts a) (lvalue_core l ts) in
      set_few s c at (expression_core a at.temporaries) (lvalue_height l) (height a)
      (place_saved_few (acts a) (lvalue_core l ts) (lvalue_height l) (lvalue_few l ts)) (expression_few a at.temporaries)
  assignment_few (update s l op left right back a) ts =
      let at = address_saved_if (acts a) (lvalue_core l ts) in
      let old = saved_if (acts a) (value_read s at) in
      let p = place_saved_few (acts a) (lvalue_core l ts) (lvalue_height l) (lvalue_few l ts) in
      update_few s op left right back at.location old (expression_core a old.temporaries) (lvalue_height l) (height a) p.place_few
      (saved_if_few (acts a) (value_read s at) (lvalue_height l) (read_few s at (lvalue_height l) p)) (expression_few a old.temporaries)

  pub effect_few : (a : Effect) (ts : Temporaries) → ListFew (effect_core a ts) (effect_height a)
  effect_few nothing ts = omega arith
  effect_few (discard a) ts = (saved_few (expression_core a ts) (height a) (expression_few a ts)).statements_few
  effect_few (assign a) ts = discarded_few (assignment_core a ts) (assignment_height a) (assignment_few a ts)
  effect_few (perform f es) ts = call_listed_few f (arguments_core es ts) (arguments_height es) (arguments_few es ts)
  effect_few (copy size alignment a b) ts =
      let to = saved_if (acts b) (expression_core a ts) in
      copied_few size alignment to (expression_core b to.temporaries) (height a) (height b)
      (saved_if_few (acts b) (expression_core a ts) (height a) (expression_few a ts)) (expression_few b to.temporaries)
  effect_few (fill blank a) ts =
      let at = expression_core a ts in
      let h = expression_few a ts in
      omega (arith, most-append at.statements (core.fill blank at.value ∷ []), h.statements_few, h.value_few)
  effect_few (in_order a b) ts =
      let first = effect_core a ts in
      let h = effect_few a ts in
      let k = effect_few b first.temporaries in
      omega (arith, h, k, most-append first.statements (effect_core b first.temporaries).statements)
