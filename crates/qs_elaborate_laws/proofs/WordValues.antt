-- Core needs few words: 24 for each node of an expression.
use Rattle.std.proofs.Common.{◌≡◌, ◌≤◌, ℕ, ◌+◌, ◌*◌, ◌||◌, Bool, true, false, [], ◌∷◌, refl, arith, if◌then◌else◌}
use Rattle.qs_memory.specs.declared.scalar.Scalar.TheVariants as scalars
use Rattle.qs_core.specs.Trees.{CoreExprTree}
use Rattle.qs_core.specs.Trees as core
use Rattle.qs_core.specs.Sizes.{taken_words, address_words, assigned_words}
use Rattle.qs_meaning.specs.Typed.{Conversion, Expr, constant, value, pointer_to, member, called, stepped_after, unary, cast, binary, logical_and, logical_or, conditional, assigned, sequence}
use Rattle.qs_meaning.specs.Typed.{Lvalue, variable, object, Arguments, no_arguments, argument_and, Assignment, set, update}
use Rattle.qs_meaning.specs.Typed.{Effect, nothing, discard, assign, perform, copy, fill, in_order}
use Rattle.qs_elaborate_bodies.specs.Acting.{acts, arguments_act}
use Rattle.qs_elaborate_bodies.specs.Literals.{is_literal, converted_core}
use Rattle.qs_elaborate_bodies.specs.Parts.{Temporaries, next_number, with_temporary, keep, Valued, in_temporary, saved_if, address_saved_if, at_address}
use Rattle.qs_elaborate_bodies.specs.Expressions.{expression_core, lvalue_core, arguments_core, assignment_core, effect_core, write_discarded, Written}
use Rattle.qs_elaborate_laws.specs.Counts.{indirection, is_object, is_fixed, is_amount, nodes, lvalue_nodes, arguments_nodes, assignment_nodes, discarded_nodes, target_nodes, effect_nodes}
use Rattle.qs_elaborate_laws.proofs.WordFacts.{computed, member_computed, member_reached, converted_taken, constant_taken, converted_computed, list_words, words-append}
use Rattle.qs_elaborate_laws.proofs.WordParts.{Few, operand_few, Reached, either_few, below_star, saved_kept, saved_if_kept, operation_few, operation_reached, logical_few, and_few, or_few, choice_few, choice_joined_few}
use Rattle.qs_elaborate_laws.proofs.WordParts.{AllFew, argument_few, call_few, ListFew, call_listed_few, behind_few, place_words, LocatedFew, read_few, place_kept, WrittenFew, set_few, OperandFew, update_few, write_valued_few, write_discarded_few, step_few}
use Rattle.qs_elaborate_laws.proofs.WordParts.{temporary_words, AimedAt, kept_aimed_at, discarded_set_few, Aimed, copied_few}

-- an expression of n nodes, and one more where it is the operand of `*`
pub record Good (v : Valued) (n i : ℕ) : Type 0 where
  pub alone : Few v n
  pub reached : Reached v (n + i)

by_star : (v : Valued) (n : ℕ) → Few v n → Good v n 1
by_star v n h = record { alone = h; reached = below_star v n h }

by_itself : (v : Valued) (n m : ℕ) → Few v n → Reached v n → n ≡ m → Good v m 0
by_itself v n m h k e = record {
  alone = record { once = omega (arith, h.once); twice = omega (arith, h.twice) };
  reached = record { saved_once = omega (arith, k.saved_once); once = omega (arith, k.once); twice = omega (arith, k.twice) };
}

-- another value, with the same statements, for one node more
with_words : (f : CoreExprTree → CoreExprTree) (v : Valued) (n : ℕ) → computed (f v.value) ≤ computed v.value + 7 → Few v n → Few (record v { value = f v.value }) (1 + n)
with_words f v n e h = record { once = omega (arith, e, h.once); twice = omega (arith, e, h.twice) }

member_good : (offset : ℕ) (v : Valued) (n : ℕ) → Few v n → Good (record v { value = core.member offset v.value }) (1 + n) 0
member_good offset v n h =
    let r = member_reached offset v.value in
    let c = member_computed offset v.value in
    by_itself (record v { value = core.member offset v.value }) (1 + n) (1 + n) (with_words (core.member offset) v n c h)
    (record { saved_once = omega (arith, c, h.once); once = omega (arith, r, h.once); twice = omega (arith, r, h.twice) })
    refl

-- ---- addresses of objects

record Fixed (v : Valued) : Type 0 where
  quiet : list_words v.statements ≡ 0
  near : address_words v.value ≤ 3
  kept : assigned_words v.value ≤ 6

fixed_gives : (a : Expr) (ts : Temporaries) → is_fixed a ≡ true → Fixed (expression_core a ts)
fixed_gives (pointer_to o) ts h = record { quiet = refl; near = omega arith; kept = omega arith }
fixed_gives (member offset (pointer_to o)) ts h = record { quiet = refl; near = omega arith; kept = omega arith }
fixed_gives _ ts h = absurd (cc)

fixed_either : (z : Bool) (v : Valued) → Fixed v → Aimed (if z then v else in_temporary v) 0
fixed_either true v f = let q = f.quiet in omega (arith, f.near)
fixed_either false v f = let q = f.quiet in omega (arith, words-append v.statements (keep (next_number v.temporaries) v.value ∷ []), f.kept)

fixed_aimed : (z : Bool) (v : Valued) → Fixed v → Aimed (saved_if z v) 0
fixed_aimed true v f = fixed_either (is_literal v.value) v f
fixed_aimed false v f = let q = f.quiet in omega (arith, f.near)

fixed_place : (z : Bool) (v : Valued) → Fixed v → AimedAt (address_saved_if z (at_address v)) 0
fixed_place true v f = fixed_aimed true v f
fixed_place false v f = fixed_aimed false v f

either_aimed : (z : Bool) (v : Valued) (n : ℕ) → Reached v n → Aimed (if z then v else in_temporary v) n
either_aimed true v n h = omega (arith, h.once)
either_aimed false v n h = omega (arith, temporary_words v, h.saved_once)

reached_aimed : (z : Bool) (v : Valued) (n : ℕ) → Reached v n → Aimed (saved_if z v) n
reached_aimed true v n h = either_aimed (is_literal v.value) v n h
reached_aimed false v n h = omega (arith, h.once)

aimed_by : (f z : Bool) (v : Valued) (n : ℕ) → (f ≡ true → Fixed v) → Reached v n → Aimed (saved_if z v) (if f then 0 else n)
aimed_by true z v n h k = fixed_aimed z v (h refl)
aimed_by false z v n h k = reached_aimed z v n k

located_few : (v : Valued) (n : ℕ) → Reached v n → LocatedFew (at_address v) n
located_few v n h = record { saved_once = omega (arith, h.saved_once); once = omega (arith, h.once); twice = omega (arith, h.twice) }

placed_by : (f z : Bool) (v : Valued) (n : ℕ) → (f ≡ true → Fixed v) → Reached v n → AimedAt (address_saved_if z (at_address v)) (if f then 0 else n)
placed_by true z v n h k = fixed_place z v (h refl)
placed_by false z v n h k = kept_aimed_at (address_saved_if z (at_address v)) n (place_kept z (at_address v) n (located_few v n k))

-- a fill takes its address and ten words; what is filled is an object
object_fixed : (a : Expr) (ts : Temporaries) → is_object a ≡ true → Fixed (expression_core a ts)
object_fixed (pointer_to o) ts h = fixed_gives (pointer_to o) ts refl
object_fixed _ ts h = absurd (cc)

filled_by : (f : Bool) (v : Valued) (n : ℕ) → (f ≡ true → Fixed v) → Reached v n → list_words v.statements + address_words v.value + 10 ≤ 24 * (1 + (if f then 0 else n))
filled_by true v n h k = let g = h refl in let q = g.quiet in omega (arith, g.near)
filled_by false v n h k = omega (arith, k.once)

-- ---- the operand of `op=`; the 1 of `++a` counts nothing

amount_few : (c : Conversion) (a : Expr) (k : ℕ) (ts : Temporaries) → Few (expression_core a ts) (nodes a k) → OperandFew c (expression_core a ts) (if is_amount a then 0 else nodes a k)
amount_few c (constant s n) k ts h = omega (arith, constant_taken c s n)
amount_few c a k ts h = omega (arith, h.once, converted_taken c (expression_core a ts).value)

amount_quiet : (a : Expr) (k : ℕ) → acts a ≡ true → nodes a k ≤ (if is_amount a then 0 else nodes a k)
amount_quiet (constant s n) k h = absurd (cc)
amount_quiet _ k h = omega arith

variable_aimed : (z : Bool) (x : ℕ) (ts : Temporaries) → AimedAt (address_saved_if z (lvalue_core (variable x) ts)) 0
variable_aimed true x ts = omega arith
variable_aimed false x ts = omega arith

record AssignmentGood (w : Written) (used thrown : ℕ) : Type 0 where
  used_few : WrittenFew w used
  thrown_few : ListFew (write_discarded w) thrown

record PlaceGood (l : Lvalue) (ts : Temporaries) : Type 0 where
  whole : LocatedFew (lvalue_core l ts) (lvalue_nodes l 1)
  aimed : (z : Bool) → AimedAt (address_saved_if z (lvalue_core l ts)) (target_nodes l 1)

written_grown : (w : Written) (m n : ℕ) → WrittenFew w m → m ≤ n → WrittenFew w n
written_grown w m n h e = record { used = omega (arith, h.used); thrown = omega (arith, h.thrown) }

thrown_grown :
    (w : Written) (m n : ℕ) → WrittenFew w m → m ≤ n → list_words w.statements + taken_words w.value + place_words w.location + 3 ≤ 24 * n
thrown_grown w m n h e = omega (arith, h.thrown)

-- ---- expressions

mutual
  pub expression_good : (a : Expr) (ts : Temporaries) → Good (expression_core a ts) (nodes a 1) (indirection a)
  expression_good (constant s n) ts = by_star _ _ (operand_few _ _ refl (omega arith))
  expression_good (value s l) ts = by_star _ _ (read_few s (lvalue_core l ts) _ (place_good l ts).whole)
  expression_good (pointer_to o) ts =
      by_itself _ 1 _ (operand_few _ _ refl (omega arith)) (record { saved_once = omega arith; once = omega arith; twice = omega arith }) refl
  expression_good (member offset a) ts = member_good offset (expression_core a ts) _ (expression_good a ts).alone
  expression_good (called s f es) ts = by_star _ _ (call_few s f (arguments_core es ts) _ (arguments_few es ts))
  expression_good (stepped_after s l op left back) ts = by_star _ _ (step_few s op left back (lvalue_core l ts) _ (place_good l ts).whole)
  expression_good (unary op c a) ts =
      let v = expression_core a ts in
      by_star _ _
      (with_words (λ y. core.unary op (converted_core c y)) v _ (omega (arith, converted_taken c v.value))
      (expression_good a ts).alone)
  expression_good (cast c a) ts =
      let v = expression_core a ts in
      by_star _ _ (with_words (converted_core c) v _ (omega (arith, converted_computed c v.value)) (expression_good a ts).alone)
  expression_good (binary op order left right a b) ts =
      let first = saved_if (acts b) (expression_core a ts) in
      let g = saved_if_kept (acts b) (expression_core a ts) _ (expression_good a ts).alone in
      let h = (expression_good b first.temporaries).alone in
      by_itself _ (1 + nodes a 1 + nodes b 1) _ (operation_few op order left right first (expression_core b first.temporaries) _ _ g h)
      (operation_reached op order left right first (expression_core b first.temporaries) _ _ g h) refl
  expression_good (logical_and a b) ts =
      let first = expression_core a ts in
      let g = (expression_good a ts).alone in
      let h = (expression_good b first.temporaries).alone in
      by_star _ _
      (either_few (acts b) _ _ _ (and_few first (expression_core b first.temporaries) _ _ g h)
      (logical_few core.logical_and first (expression_core b first.temporaries) _ _ (omega arith) g h))
  expression_good (logical_or a b) ts =
      let first = expression_core a ts in
      let g = (expression_good a ts).alone in
      by_star _ _
      (either_few (acts b) _ _ _
      (or_few first (expression_core b (with_temporary first.temporaries scalars.Int)) _ _ g (expression_good b (with_temporary first.temporaries scalars.Int)).alone)
      (logical_few core.logical_or first (expression_core b first.temporaries) _ _ (omega arith) g (expression_good b first.temporaries).alone))
  expression_good (conditional s a second third b c) ts =
      let first = expression_core a ts in
      let met = expression_core b first.temporaries in
      let g = (expression_good a ts).alone in
      let h = (expression_good b first.temporaries).alone in
      by_star _ _
      (either_few (acts b || acts c) _ _ _
      (choice_few s second third first met (expression_core c (with_temporary met.temporaries s)) _ _ _ g h (expression_good c (with_temporary met.temporaries s)).alone)
      (choice_joined_few second third first met (expression_core c met.temporaries) _ _ _ g h (expression_good c met.temporaries).alone))
  expression_good (assigned a) ts = by_star _ _ (write_valued_few (assignment_core a ts) _ (assignment_good a ts).used_few)
  expression_good (sequence a b) ts =
      let first = effect_core a ts in
      by_star _ _ (behind_few first (expression_core b first.temporaries) _ _ (effect_few a ts) (expression_good b first.temporaries).alone)

  place_good : (l : Lvalue) (ts : Temporaries) → PlaceGood l ts
  place_good (variable x) ts = record {
    whole = record { saved_once = omega arith; once = omega arith; twice = omega arith };
    aimed = λ z. variable_aimed z x ts;
  }
  place_good (object a) ts =
      let g = (expression_good a ts).reached in
      record { whole = located_few _ _ g; aimed = λ z. placed_by (is_fixed a) z (expression_core a ts) _ (fixed_gives a ts) g }

  arguments_few : (es : Arguments) (ts : Temporaries) → AllFew (arguments_core es ts) (arguments_nodes es 1)
  arguments_few no_arguments ts = omega arith
  arguments_few (argument_and c a es) ts =
      let first = saved_if (arguments_act es) (expression_core a ts) in
      argument_few c first (arguments_core es first.temporaries) _ _ (saved_if_kept (arguments_act es) (expression_core a ts) _ (expression_good a ts).alone)
      (arguments_few es first.temporaries)

  assignment_good : (a : Assignment) (ts : Temporaries) → AssignmentGood (assignment_core a ts) (1 + assignment_nodes a 1) (discarded_nodes a 1)
  assignment_good (set s l c a) ts =
      let at = address_saved_if (acts a) (lvalue_core l ts) in
      let p = place_good l ts in
      let g = (expression_good a at.temporaries).alone in
      record {
        used_few = written_grown _ _ _ (set_few s c at (expression_core a at.temporaries) _ _ (place_kept (acts a) (lvalue_core l ts) _ p.whole) g) (omega arith);
        thrown_few = discarded_set_few s c at (expression_core a at.temporaries) _ _ (p.aimed (acts a)) g;
      }
  assignment_good (update s l op left right back a) ts =
      let w = assignment_core (update s l op left right back a) ts in
      let u =
      update_few (acts a) s op left right back (lvalue_core l ts) (λ us. expression_core a us) _ _ _ (place_good l ts).whole
      (λ us. (expression_good a us).alone)
      (λ us. amount_few right a 1 us (expression_good a us).alone)
      (amount_quiet a 1)
      in
      record { used_few = written_grown w _ _ u (omega arith); thrown_few = write_discarded_few w _ (thrown_grown w _ _ u (omega arith)) }

  pub effect_few : (a : Effect) (ts : Temporaries) → ListFew (effect_core a ts) (effect_nodes a 1)
  effect_few nothing ts = omega arith
  effect_few (discard a) ts = let s = saved_kept (expression_core a ts) _ (expression_good a ts).alone in omega (arith, s.once)
  effect_few (assign a) ts = (assignment_good a ts).thrown_few
  effect_few (perform f es) ts = call_listed_few f (arguments_core es ts) _ (arguments_few es ts)
  effect_few (copy size alignment a b) ts =
      let to = saved_if (acts b) (expression_core a ts) in
      copied_few size alignment to (expression_core b to.temporaries) _ _
      (aimed_by (is_fixed a) (acts b) (expression_core a ts) _ (fixed_gives a ts) (expression_good a ts).reached)
      (expression_good b to.temporaries).reached
  effect_few (fill blank a) ts =
      let at = expression_core a ts in
      let f = filled_by (is_object a) at _ (object_fixed a ts) (expression_good a ts).reached in
      omega (arith, words-append at.statements (core.fill blank at.value ∷ []), f)
  effect_few (in_order a b) ts =
      let first = effect_core a ts in
      let g = effect_few a ts in
      let h = effect_few b first.temporaries in
      omega (arith, g, h, words-append first.statements (effect_core b first.temporaries).statements)
