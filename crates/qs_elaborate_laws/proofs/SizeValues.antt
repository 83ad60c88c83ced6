-- Core needs few values: one for each variable of a function, and two for each expression.
use Rattle.std.proofs.Common.{◌≡◌, ◌≤◌, ℕ, ◌+◌, ◌*◌, max, ◌||◌, Bool, true, false, [], ◌∷◌, length, refl, ap, arith, if◌then◌else◌}
use Rattle.qs_memory.specs.declared.scalar.Scalar.TheVariants as scalars
use Rattle.qs_core.specs.Trees.{CoreExprTree}
use Rattle.qs_core.specs.Trees as core
use Rattle.qs_core.specs.Expressions.{type_of}
use Rattle.qs_core.specs.Sizes.{parts_held, held}
use Rattle.qs_meaning.specs.Typed.{Expr, constant, value, pointer_to, member, called, stepped_after, unary, cast, binary, logical_and, logical_or, conditional, assigned, sequence}
use Rattle.qs_meaning.specs.Typed.{Lvalue, variable, object, Arguments, no_arguments, argument_and, Assignment, set, update}
use Rattle.qs_meaning.specs.Typed.{Effect, nothing, discard, assign, perform, copy, fill, in_order}
use Rattle.qs_elaborate_bodies.specs.Acting.{acts, arguments_act}
use Rattle.qs_elaborate_bodies.specs.Literals.{is_literal, converted_core}
use Rattle.qs_elaborate_bodies.specs.Parts.{Temporaries, next_number, with_temporary, keep, Valued, Listed, in_temporary, saved_if, address_saved_if, at_address, before}
use Rattle.qs_elaborate_bodies.specs.Expressions.{expression_core, lvalue_core, arguments_core, assignment_core, effect_core, write_discarded, ValuedAll, Written}
use Rattle.qs_elaborate_laws.specs.Counts.{indirection, is_object, is_fixed, is_amount, nodes, lvalue_nodes, arguments_nodes, assignment_nodes, discarded_nodes, target_nodes, effect_nodes}
use Rattle.qs_elaborate_laws.proofs.SizeFacts.{address_small, converted_below, list_held, held-append, one_more}
use Rattle.qs_elaborate_laws.proofs.SizeParts.{Within, widened, with_less_to_spare, either_within, saved_kept, saved_if_kept, operation_within, logical_within, and_within, or_within, choice_within, choice_joined_within}
use Rattle.qs_elaborate_laws.proofs.SizeParts.{AllWithin, argument_within, call_within, ListWithin, call_listed_within, LocatedWithin, read_within, place_kept, WrittenWithin, set_within, update_within}
use Rattle.qs_elaborate_laws.proofs.SizeParts.{write_valued_within, write_discarded_within, step_within, Aimed, kept_aimed, copied_within, AimedAt, kept_aimed_at, discarded_set_within}

-- an expression of n nodes, and one more where it is the operand of `*`
pub record Good (v : Valued) (t n i : ℕ) : Type 0 where
  pub alone : Within 1 v (t + 2 * n)
  pub reached : Within 2 v (t + 2 * (n + i))

reached_by_one : (v : Valued) (t n : ℕ) → Within 1 v (t + 2 * n) → Good v t n 1
reached_by_one v t n h = record {
  alone = h;
  reached = record { statements_fit = omega (arith, h.statements_fit); value_fits = omega (arith, h.value_fits) };
}

reached_itself : (v : Valued) (t n : ℕ) → Within 2 v (t + 2 * n) → Good v t n 0
reached_itself v t n h = record {
  alone = record { statements_fit = omega (arith, h.statements_fit); value_fits = omega (arith, h.value_fits) };
  reached = record { statements_fit = omega (arith, h.statements_fit); value_fits = omega (arith, h.value_fits) };
}

reached_alone : (v : Valued) (t n i : ℕ) → Good v t n i → Within 1 v (t + 2 * (n + i))
reached_alone v t n i g = with_less_to_spare 1 v _ g.reached

-- a value that holds no more, with the same statements
with_held : (f : CoreExprTree → CoreExprTree) (v : Valued) (t n : ℕ) → held (f v.value) ≤ max 1 (held v.value) → Within 1 v (t + 2 * n) → Within 2 (record v { value = f v.value }) (t + 2 * (1 + n))
with_held f v t n e h = record { statements_fit = omega (arith, h.statements_fit); value_fits = omega (arith, e, h.statements_fit, h.value_fits) }

pub member_held : (offset : ℕ) (a : CoreExprTree) → held (core.member offset a) ≤ max 1 (held a)
member_held offset a = omega arith

-- ---- addresses of objects

record Fixed (v : Valued) (ts : Temporaries) : Type 0 where
  quiet : list_held v.statements ≡ 0
  same : v.temporaries ≡ ts
  few : held v.value ≤ 1
  none : parts_held v.value ≡ 0

fixed_gives : (a : Expr) (ts : Temporaries) → is_fixed a ≡ true → Fixed (expression_core a ts) ts
fixed_gives (pointer_to o) ts h = record { quiet = refl; same = refl; few = omega arith; none = refl }
fixed_gives (member offset (pointer_to o)) ts h = record { quiet = refl; same = refl; few = omega arith; none = refl }
fixed_gives _ ts h = absurd (cc)

itself_aimed : (v : Valued) (ts : Temporaries) → Fixed v ts → Aimed v (length ts)
itself_aimed v ts f =
    let e = ap length f.same in
    let q = f.quiet in
    let n = f.few in
    record { statements_fit = omega arith; value_fits = omega arith; own_fits = omega (arith, address_small v.value) }

temporary_aimed : (v : Valued) (ts : Temporaries) → Fixed v ts → Aimed (in_temporary v) (length ts)
temporary_aimed v ts f =
    let e = ap length f.same in
    let q = f.quiet in
    let n = f.none in
    let m = one_more v.temporaries (type_of v.value) in
    record {
      statements_fit = omega (arith, m, held-append v.statements (keep (next_number v.temporaries) v.value ∷ []));
      value_fits = omega (arith, m);
      own_fits = omega (arith, m);
    }

literal_or_aimed : (z : Bool) (v : Valued) (ts : Temporaries) → Fixed v ts → Aimed (if z then v else in_temporary v) (length ts)
literal_or_aimed true v ts f = itself_aimed v ts f
literal_or_aimed false v ts f = temporary_aimed v ts f

fixed_aimed : (z : Bool) (v : Valued) (ts : Temporaries) → Fixed v ts → Aimed (saved_if z v) (length ts)
fixed_aimed true v ts f = literal_or_aimed (is_literal v.value) v ts f
fixed_aimed false v ts f = itself_aimed v ts f

-- what is filled is an object
record IsObject (v : Valued) (ts : Temporaries) : Type 0 where
  quiet : list_held v.statements ≡ 0
  same : v.temporaries ≡ ts
  none : held v.value ≡ 0

object_gives : (a : Expr) (ts : Temporaries) → is_object a ≡ true → IsObject (expression_core a ts) ts
object_gives (pointer_to o) ts h = record { quiet = refl; same = refl; none = refl }
object_gives _ ts h = absurd (cc)

-- ---- the operand of `op=`; the 1 of `++a` counts nothing

amount_within : (a : Expr) (k : ℕ) (ts : Temporaries) → Within 1 (expression_core a ts) (length ts + 2 * nodes a k) → Within 0 (expression_core a ts) (length ts + 2 * (if is_amount a then 0 else nodes a k))
amount_within (constant s n) k ts h = record { statements_fit = omega arith; value_fits = omega arith }
amount_within _ k ts h = record { statements_fit = omega (arith, h.statements_fit); value_fits = omega (arith, h.value_fits) }

amount_quiet : (a : Expr) (k : ℕ) → acts a ≡ true → 2 * nodes a k ≤ 2 * (if is_amount a then 0 else nodes a k)
amount_quiet (constant s n) k h = absurd (cc)
amount_quiet _ k h = omega arith

behind_effect : (a : Listed) (b : Valued) (t m n : ℕ) → ListWithin a (t + 2 * m) → Within 1 b (length a.temporaries + 2 * n) → Within 1 (before a b) (t + 2 * (m + n))
behind_effect a b t m n h k = record {
  statements_fit = omega (arith, held-append a.statements b.statements, h, k.statements_fit);
  value_fits = omega (arith, h, k.value_fits);
}

all_widened : (v : ValuedAll) (l m : ℕ) → AllWithin v l → l ≤ m → AllWithin v m
all_widened v l m h e = record { statements_fit = omega (arith, h.statements_fit); values_fit = omega (arith, h.values_fit) }

written_widened : (w : Written) (l m : ℕ) → WrittenWithin w l → l ≤ m → WrittenWithin w m
written_widened w l m h e = record {
  statements_fit = omega (arith, h.statements_fit);
  value_fits = omega (arith, h.value_fits);
  place_fits = omega (arith, h.place_fits);
  own_fits = omega (arith, h.own_fits);
  both_fit = omega (arith, h.both_fit);
}

-- ---- where nothing counts but the expression that initialises

fixed_place : (z : Bool) (v : Valued) (ts : Temporaries) → Fixed v ts → AimedAt (address_saved_if z (at_address v)) (length ts)
fixed_place true v ts f = let a = fixed_aimed true v ts f in record { statements_fit = a.statements_fit; place_fits = a.value_fits; own_fits = a.own_fits }
fixed_place false v ts f = let a = fixed_aimed false v ts f in record { statements_fit = a.statements_fit; place_fits = a.value_fits; own_fits = a.own_fits }

aimed_by : (f z : Bool) (v : Valued) (ts : Temporaries) (n : ℕ) → (f ≡ true → Fixed v ts) → Within 1 v (length ts + 2 * n) → Aimed (saved_if z v) (length ts + 2 * (if f then 0 else n))
aimed_by true z v ts n h k = let a = fixed_aimed z v ts (h refl) in record { statements_fit = omega (arith, a.statements_fit); value_fits = omega (arith, a.value_fits); own_fits = omega (arith, a.own_fits) }
aimed_by false z v ts n h k = kept_aimed (saved_if z v) _ (saved_if_kept 0 z v _ k)

placed_by : (f z : Bool) (v : Valued) (ts : Temporaries) (n : ℕ) → (f ≡ true → Fixed v ts) → Within 2 v (length ts + 2 * n) → AimedAt (address_saved_if z (at_address v)) (length ts + 2 * (if f then 0 else n))
placed_by true z v ts n h k = let a = fixed_place z v ts (h refl) in record { statements_fit = omega (arith, a.statements_fit); place_fits = omega (arith, a.place_fits); own_fits = omega (arith, a.own_fits) }
placed_by false z v ts n h k = kept_aimed_at (address_saved_if z (at_address v)) _ (place_kept 1 z (at_address v) _ (record { statements_fit = k.statements_fit; place_fits = k.value_fits }))

filled_by : (f : Bool) (v : Valued) (ts : Temporaries) (n : ℕ) → (f ≡ true → IsObject v ts) → Within 1 v (length ts + 2 * n) → Within 0 v (length ts + 2 * (if f then 0 else n))
filled_by true v ts n h k =
    let g = h refl in
    let o = g.none in
    let e = ap length g.same in
    let q = g.quiet in
    record { statements_fit = omega arith; value_fits = omega arith }
filled_by false v ts n h k = with_less_to_spare 0 v _ k

variable_aimed : (z : Bool) (x k : ℕ) (ts : Temporaries) → AimedAt (address_saved_if z (lvalue_core (variable x) ts)) (length ts + 2 * target_nodes (variable x) k)
variable_aimed true x k ts = record { statements_fit = omega arith; place_fits = omega arith; own_fits = omega arith }
variable_aimed false x k ts = record { statements_fit = omega arith; place_fits = omega arith; own_fits = omega arith }

-- an assignment whose value is used, and one whose value is discarded
record AssignmentGood (w : Written) (t used thrown : ℕ) : Type 0 where
  used_fits : WrittenWithin w (t + 2 * used)
  thrown_fits : ListWithin (write_discarded w) (t + 2 * thrown)

-- a place that is written, and one of a declaration
record PlaceGood (l : Lvalue) (k : ℕ) (ts : Temporaries) : Type 0 where
  whole : LocatedWithin 2 (lvalue_core l ts) (length ts + 2 * lvalue_nodes l k)
  aimed : (z : Bool) → AimedAt (address_saved_if z (lvalue_core l ts)) (length ts + 2 * target_nodes l k)

discarded_by : (w : Written) (l m : ℕ) → WrittenWithin w l → l ≤ m → ListWithin (write_discarded w) m
discarded_by w l m h e = let d = write_discarded_within w l h in omega (arith, d)

-- ---- expressions

mutual
  pub expression_good : (a : Expr) (k : ℕ) (ts : Temporaries) → Good (expression_core a ts) (length ts) (nodes a k) (indirection a)
  expression_good (constant s n) k ts = reached_by_one _ _ _ (record { statements_fit = omega arith; value_fits = omega arith })
  expression_good (value s l) k ts = reached_by_one _ _ _ (read_within s (lvalue_core l ts) _ (place_good l k ts).whole)
  expression_good (pointer_to o) k ts = reached_itself _ _ _ (record { statements_fit = omega arith; value_fits = omega arith })
  expression_good (member offset a) k ts =
      let v = expression_core a ts in reached_itself _ _ _ (with_held (core.member offset) v _ _ (member_held offset v.value) (expression_good a k ts).alone)
  expression_good (called s f es) k ts =
      let g = arguments_core es ts in
      reached_by_one _ _ _ (widened 1 _ _ _ (call_within s f g _ (arguments_within es k ts)) (omega arith))
  expression_good (stepped_after s l op left back) k ts =
      reached_by_one _ _ _ (widened 1 _ _ _ (step_within s op left back (lvalue_core l ts) _ (place_good l k ts).whole) (omega arith))
  expression_good (unary op c a) k ts =
      let v = expression_core a ts in
      let x = converted_below c v.value in
      reached_by_one _ _ _ (with_less_to_spare 1 _ _ (with_held (λ y. core.unary op (converted_core c y)) v _ _ (omega (arith, x.held_less)) (expression_good a k ts).alone))
  expression_good (cast c a) k ts =
      let v = expression_core a ts in
      let x = converted_below c v.value in
      reached_by_one _ _ _ (with_less_to_spare 1 _ _ (with_held (converted_core c) v _ _ (omega (arith, x.held_less)) (expression_good a k ts).alone))
  expression_good (binary op order left right a b) k ts =
      let first = saved_if (acts b) (expression_core a ts) in
      reached_itself _ _ _
      (widened 2 _ _ _
      (operation_within op order left right first (expression_core b first.temporaries) _ _ (saved_if_kept 0 (acts b) (expression_core a ts) _ (expression_good a k ts).alone)
      (expression_good b k first.temporaries).alone)
      (omega arith))
  expression_good (logical_and a b) k ts =
      let first = expression_core a ts in
      let g = (expression_good a k ts).alone in
      let h = (expression_good b k first.temporaries).alone in
      reached_by_one _ _ _
      (widened 1 _ _ _
      (either_within 1 (acts b) _ _ _ (and_within first (expression_core b first.temporaries) _ _ g h)
      (logical_within core.logical_and first (expression_core b first.temporaries) _ _ (omega arith) g h))
      (omega arith))
  expression_good (logical_or a b) k ts =
      let first = expression_core a ts in
      let g = (expression_good a k ts).alone in
      reached_by_one _ _ _
      (widened 1 _ _ _
      (either_within 1 (acts b) _ _ _
      (or_within first (expression_core b (with_temporary first.temporaries scalars.Int)) _ _ g (expression_good b k (with_temporary first.temporaries scalars.Int)).alone)
      (logical_within core.logical_or first (expression_core b first.temporaries) _ _ (omega arith) g (expression_good b k first.temporaries).alone))
      (omega arith))
  expression_good (conditional s a second third b c) k ts =
      let first = expression_core a ts in
      let met = expression_core b first.temporaries in
      let g = (expression_good a k ts).alone in
      let h = (expression_good b k first.temporaries).alone in
      reached_by_one _ _ _
      (widened 1 _ _ _
      (either_within 1 (acts b || acts c) _ _ _
      (choice_within s second third first met (expression_core c (with_temporary met.temporaries s)) _ _ _ g h (expression_good c k (with_temporary met.temporaries s)).alone)
      (choice_joined_within second third first met (expression_core c met.temporaries) _ _ _ g h (expression_good c k met.temporaries).alone))
      (omega arith))
  expression_good (assigned a) k ts =
      reached_by_one _ _ _ (widened 1 _ _ _ (write_valued_within (assignment_core a ts) _ (assignment_good a k ts).used_fits) (omega arith))
  expression_good (sequence a b) k ts =
      let first = effect_core a ts in
      reached_by_one _ _ _ (behind_effect first (expression_core b first.temporaries) _ _ _ (effect_within a k ts) (expression_good b k first.temporaries).alone)

  place_good : (l : Lvalue) (k : ℕ) (ts : Temporaries) → PlaceGood l k ts
  place_good (variable x) k ts = record {
    whole = record { statements_fit = omega arith; place_fits = omega arith };
    aimed = λ z. variable_aimed z x k ts;
  }
  place_good (object a) k ts =
      let g = (expression_good a k ts).reached in
      record {
        whole = record { statements_fit = g.statements_fit; place_fits = g.value_fits };
        aimed = λ z. placed_by (is_fixed a) z (expression_core a ts) ts _ (fixed_gives a ts) g;
      }

  arguments_within : (es : Arguments) (k : ℕ) (ts : Temporaries) → AllWithin (arguments_core es ts) (length ts + 2 * arguments_nodes es k)
  arguments_within no_arguments k ts = record { statements_fit = omega arith; values_fit = omega arith }
  arguments_within (argument_and c a es) k ts =
      let first = saved_if (arguments_act es) (expression_core a ts) in
      all_widened _ _ _
      (argument_within c first (arguments_core es first.temporaries) _ _ (saved_if_kept 0 (arguments_act es) (expression_core a ts) _ (expression_good a k ts).alone)
      (arguments_within es k first.temporaries))
      (omega arith)

  assignment_good : (a : Assignment) (k : ℕ) (ts : Temporaries) → AssignmentGood (assignment_core a ts) (length ts) (1 + assignment_nodes a k) (discarded_nodes a k)
  assignment_good (set s l c a) k ts =
      let at = address_saved_if (acts a) (lvalue_core l ts) in
      let p = place_good l k ts in
      let g = (expression_good a k at.temporaries).alone in
      let d = discarded_set_within s c at (expression_core a at.temporaries) _ _ (p.aimed (acts a)) g in
      record {
        used_fits = written_widened _ _ _ (set_within s c at (expression_core a at.temporaries) _ _ (place_kept 1 (acts a) (lvalue_core l ts) _ p.whole) g) (omega arith);
        thrown_fits = omega (arith, d);
      }
  assignment_good (update s l op left right back a) k ts =
      let u =
      update_within (acts a) s op left right back (lvalue_core l ts) (λ us. expression_core a us) _ _ _ (place_good l k ts).whole
      (λ us. (expression_good a k us).alone)
      (λ us. amount_within a k us (expression_good a k us).alone)
      (amount_quiet a k)
      in
      record { used_fits = written_widened _ _ _ u (omega arith); thrown_fits = discarded_by _ _ _ u (omega arith) }

  pub effect_within : (a : Effect) (k : ℕ) (ts : Temporaries) → ListWithin (effect_core a ts) (length ts + 2 * effect_nodes a k)
  effect_within nothing k ts = omega arith
  effect_within (discard a) k ts =
      let s = saved_kept 0 (expression_core a ts) _ (expression_good a k ts).alone in omega (arith, s.statements_fit)
  effect_within (assign a) k ts = (assignment_good a k ts).thrown_fits
  effect_within (perform f es) k ts = let c = call_listed_within f (arguments_core es ts) _ (arguments_within es k ts) in omega (arith, c)
  effect_within (copy size alignment a b) k ts =
      let to = saved_if (acts b) (expression_core a ts) in
      let c =
      copied_within size alignment to (expression_core b to.temporaries) _ _
      (aimed_by (is_fixed a) (acts b) (expression_core a ts) ts (nodes a k + indirection a) (fixed_gives a ts) (reached_alone _ _ _ _ (expression_good a k ts)))
      (expression_good b k to.temporaries).alone
      in
      omega (arith, c)
  effect_within (fill blank a) k ts =
      let at = expression_core a ts in
      let f = filled_by (is_object a) at ts (nodes a k + indirection a) (object_gives a ts) (reached_alone _ _ _ _ (expression_good a k ts)) in
      omega (arith, held-append at.statements (core.fill blank at.value ∷ []), f.statements_fit, f.value_fits)
  effect_within (in_order a b) k ts =
      let first = effect_core a ts in
      let g = effect_within a k ts in
      let h = effect_within b k first.temporaries in
      let p = held-append first.statements (effect_core b first.temporaries).statements in
      omega (arith, g, h, p)
