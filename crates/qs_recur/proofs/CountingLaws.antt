-- What is written for a function that counts derives its entry, where its statements fit what is needed before them.
use Rattle.std.proofs.Common.{◌≡◌, ℕ, ◌≤◌, ◌^◌, ◌==◌, zero, suc, refl, sym, ap, ◌∙◌, subst, Bool, true, false, List, [], ◌∷◌, ◌++◌, Some, None, Ok, arith}
use Rattle.std.specs.Prelude.{◌&&◌, not, pos, if◌then◌else◌, Option, option_map}
use Rattle.std.specs.List.{slice_get, find}
use Rattle.std.specs.Option.{option_or}
use Rattle.std.proofs.lemmas.Bool.{eqb-false, ne_eqb, not-true, false_from_ne_true}
use Rattle.qs_base.specs.Results.{bind, fault_or}
use Rattle.qs_memory.specs.Partial.{◌>>=◌, only_if}
use Rattle.qs_memory.specs.declared.scalar.Scalar.{Scalar}
use Rattle.qs_memory.specs.declared.scalar.Scalar.TheVariants as scalars
use Rattle.qs_assert.specs.declared.define.Define.{Define}
use Rattle.qs_assert.specs.declared.variable.NumberType.TheVariants as numbers
use Rattle.qs_assert.specs.declared.variable.Var.{Var}
use Rattle.qs_assert.specs.declared.variable.VarKind.{VarKind}
use Rattle.qs_assert.specs.declared.variable.VarKind.TheVariants as kinds
use Rattle.qs_assert.specs.Images.{Images, assertion_image}
use Rattle.qs_assert.specs.Order.{IsInOrder}
use Rattle.qs_assert.specs.Sameness.{same_assertion}
use Rattle.qs_assert.specs.Substitution.{one_image, same_kind, same_number_type}
use Rattle.qs_assert.specs.Trees.{TermTree, variable, bits, CondTree, eq, le, AssertionTree, guard, choose}
use Rattle.qs_assert.specs.Trees as tree
use Rattle.qs_assert.specs.Variables.{variables}
use Rattle.qs_assert.proofs.SamenessLaws.{assertion_same}
use Rattle.qs_core.specs.Expressions.{type_of}
use Rattle.qs_core.specs.Interfaces.{variable_type}
use Rattle.qs_core.specs.Terms.{condition_of}
use Rattle.qs_core.specs.TermTrees.{CoreConditionTree}
use Rattle.qs_core.specs.Trees as core
use Rattle.qs_core.specs.Trees.{CoreExprTree, CoreStmtTree, CoreStmts, no_stmts, stmt_and, CoreParameterTree, CoreFunctionTree, CoreUnitTree}
use Rattle.qs_core.specs.declared.numbers.Target.{Target}
use Rattle.qs_core.specs.declared.numbers.Target.TheVariants as targets
use Rattle.qs_poly.specs.Operations.{number}
use Rattle.qs_entail.specs.Faults.{branch}
use Rattle.qs_entail.specs.Pushing.{Known}
use Rattle.qs_entail.specs.Verdicts.{fault, verdict}
use Rattle.qs_recur.specs.Around.{shown, Ways, before, to_itself}
use Rattle.qs_triples.specs.Derivations.{DerivationTree, sequence, conditional, consequence, derivation_and, count_derivations, EntryTree, ProofsTree, spec_of}
use Rattle.qs_triples.specs.Entries.{function_posts, scope_of, order_told, mentions_fault, entry_told, result_at_end, ends_in_return, fault_of_known, IsDerived}
use Rattle.qs_triples.specs.ExpressionTerms.{var, expression_term, expression_condition, condition_tree}
use Rattle.qs_triples.specs.Mentions.{is_plain_parameter, is_placed_parameter, has_plain_parameter, may_mention, in_body, in_pre, in_post, first_other, first_of, first_of_destination, argument_term, pre_images, as_old, as_plain}
use Rattle.qs_triples.specs.Rules.{Answer, DerivFault, Posts, Scope, in_precondition, in_postcondition, unless, replaced, returned_rule, target_kind, by_condition, either, part, with_next, pre, sequence_pre, count_stmts}
use Rattle.qs_triples.specs.Valuations.{is_own, is_number_type, if_number}
use Rattle.qs_recur.proofs.AroundLaws.{IsWithoutChoice, Reaches, IsClean, Leaves, Enough, Fits, AllFit, counts, sequence_of, drawn, needed, same_again, before_others, stmt_ok, stmts_ok, return_ok, returning_seq_ok}
use Rattle.qs_recur.specs.Certificates.{entry_guarded, value_kept, bits_kept}
use Rattle.qs_recur.specs.Counters.{Test, below, at_least, least_of, test_in}
use Rattle.qs_recur.specs.Needs.{unsigned, costs, measure, is_unsigned, returns, Helper, with_helpers, Counting, own_need, counting_pre, balanced}
use Rattle.qs_recur.specs.Written.{all_kept, least_in, as_entered, past_least, pay_entered, pay_past, measure_kept, entered_left, past_left, ways_by, back_ways, before_entered, before_past, test_branches, test_certificate, test_by, test_written, behind_written, parts_written, counting_entry}
use Rattle.qs_recur.proofs.CostsLaws.{AreOfCosts, with_variables, with_image, with_branch, all_kept_holds}
use Rattle.qs_recur.proofs.GuardLaws.{entry_holds, r0_plain, r1_plain, guard_dropped_holds, under_first, under_both}
use Rattle.qs_recur.proofs.TestLaws.{test_shows}
use Rattle.qs_recur.proofs.WayLaws.{y_less_x, x_less_y}
use Rattle.qs_recur.proofs.KeptLaws.{value_kept_holds, bits_kept_holds}
use Rattle.qs_recur.proofs.Identities.{x_less}
use Rattle.qs_recur.proofs.SmallFacts.{x_of}

-- ---- lists of variables

pub pass : (p : Var → Bool) (x : Var) (xs : List Var) → p x ≡ false → find p xs ≡ None → find p (x ∷ xs) ≡ None
pass p x xs h e = ap (λ (b : Bool). if b then Some x else find p xs) h ∙ e

-- ---- what is measured

pub measure_variables : (b : Bool) (v : Var) (f : ℕ) → variables (costs (measure b v) f) ≡ v ∷ []
measure_variables true v f = refl
measure_variables false v f = refl

measure_image : (m : Images) (b : Bool) (v w : Var) (f : ℕ) → m v ≡ variable w → assertion_image m (costs (measure b v) f) ≡ costs (measure b w) f
measure_image m true v w f h = ap (λ (t : TermTree). costs (bits t) f) h
measure_image m false v w f h = ap (λ (t : TermTree). costs t f) h

measure_branch : (c : CondTree) (first b : Bool) (v : Var) (f : ℕ) → branch c first (costs (measure b v) f) ≡ costs (measure b v) f
measure_branch c first true v f = refl
measure_branch c first false v f = refl

pub own_is : (s : Option Scalar) → is_unsigned s ≡ true → is_number_type (s >>= if_number) numbers.Unsigned ≡ true
own_is None h = cc
own_is (Some scalars.Char) h = cc
own_is (Some scalars.Int) h = cc
own_is (Some scalars.Unsigned) h = refl
own_is (Some scalars.Pointer) h = cc

pub placed : (p : Option CoreParameterTree) → is_plain_parameter p ≡ true → is_placed_parameter p ≡ false
placed None h = cc
placed (Some p) h = ap not h

-- all but the counter may be assigned
abbrev pub may_assign : ℕ → Target → Bool
may_assign i (targets.Variable j) = not (j == i)
may_assign i (targets.Temporary k) = true

turned : (i j : ℕ) → (j == i) ≡ false → (i == j) ≡ false
turned i j h = ne_eqb i j (λ e. eqb-false j i h (sym e))

module _ (f : ℕ) (c : Counting) (closed : AreOfCosts c.helpers) where
  abbrev i : ℕ
  i = c.counter

  abbrev x : VarKind
  x = kinds.Plain c.counter

  abbrev o : VarKind
  o = kinds.Old c.counter

  abbrev vx : Var
  vx = unsigned x

  abbrev vo : Var
  vo = unsigned o

  abbrev n : ℕ
  n = least_in c

  abbrev pub need : AssertionTree
  need = counting_pre f c

  -- what is left at the end
  abbrev pub left : AssertionTree
  left = with_helpers c.helpers (costs (measure c.by_bits vo) f)

  abbrev pub start : AssertionTree
  start = as_entered f c

  abbrev pub past : AssertionTree
  past = past_least f c

  abbrev past_at : ℕ → AssertionTree
  past_at j = guard (eq (variable vx) (variable vo)) (guard (le (tree.number (pos j)) (variable vx)) need)

  need_image : (m : Images) (w : Var) → m vx ≡ variable w → assertion_image m need ≡ with_helpers c.helpers (costs (measure c.by_bits w) f)
  need_image m w h = with_image m c.helpers (own_need f c) closed ∙ ap (λ (a : AssertionTree). with_helpers c.helpers a) (measure_image m c.by_bits vx w f h)

  left_image : (m : Images) (w : Var) → m vo ≡ variable w → assertion_image m left ≡ with_helpers c.helpers (costs (measure c.by_bits w) f)
  left_image m w h = with_image m c.helpers (costs (measure c.by_bits vo) f) closed ∙ ap (λ (a : AssertionTree). with_helpers c.helpers a) (measure_image m c.by_bits vo w f h)

  pub post_is : assertion_image as_old need ≡ left
  post_is = need_image as_old vo refl

  need_variables : variables need ≡ vx ∷ []
  need_variables = with_variables c.helpers (own_need f c) closed ∙ measure_variables c.by_bits vx f

  left_variables : variables left ≡ vo ∷ []
  left_variables = with_variables c.helpers (costs (measure c.by_bits vo) f) closed ∙ measure_variables c.by_bits vo f

  pub need_plain : IsWithoutChoice need
  need_plain b first = with_branch b first c.helpers (own_need f c) closed ∙ ap (λ (a : AssertionTree). with_helpers c.helpers a) (measure_branch b first c.by_bits vx f)

  left_plain : IsWithoutChoice left
  left_plain b first = with_branch b first c.helpers (costs (measure c.by_bits vo) f) closed ∙ ap (λ (a : AssertionTree). with_helpers c.helpers a) (measure_branch b first c.by_bits vo f)

  start_plain : IsWithoutChoice start
  start_plain = r0_plain x o need need_plain

  past_plain : IsWithoutChoice past
  past_plain = r1_plain x o need need_plain n

  -- ---- images that leave the counter

  start_image : (m : Images) → m vx ≡ variable vx → m vo ≡ variable vo → assertion_image m start ≡ start
  start_image m h e =
      ap (λ (t : TermTree). guard (eq t (m vo)) (assertion_image m need)) h ∙ ap (λ (t : TermTree). guard (eq (variable vx) t) (assertion_image m need)) e
      ∙ ap (λ (a : AssertionTree). guard (eq (variable vx) (variable vo)) a) (need_image m vx h)

  past_image : (m : Images) → m vx ≡ variable vx → m vo ≡ variable vo → assertion_image m past ≡ past
  past_image m h e =
      ap (λ (t : TermTree). guard (eq t (m vo)) (guard (le (tree.number (pos n)) t) (assertion_image m need))) h
      ∙ ap (λ (t : TermTree). guard (eq (variable vx) t) (guard (le (tree.number (pos n)) (variable vx)) (assertion_image m need))) e
      ∙ ap (λ (a : AssertionTree). guard (eq (variable vx) (variable vo)) (guard (le (tree.number (pos n)) (variable vx)) a)) (need_image m vx h)

  -- an assertion that mentions the counter alone, now and at the entry
  kept_under :
      (a : AssertionTree) (k : VarKind) (s : Scalar) (t : Option TermTree) → first_of k a ≡ None → ((m : Images) → m vx ≡ variable vx → m vo ≡ variable vo → assertion_image m a ≡ a)
      → same_kind x k ≡ false → same_kind o k ≡ false → replaced (var k s) t a ≡ Ok a
  kept_under a k s None first image h e = ap (λ (found : Option Var). unless found (Ok a)) first
  kept_under a k s (Some t) first image h e =
      ap (λ (b : AssertionTree). Ok b)
      (image (one_image (var k s) t)
      (ap (λ (b : Bool). if b && same_number_type numbers.Unsigned (var k s).number then t else variable vx) h)
      (ap (λ (b : Bool). if b && same_number_type numbers.Unsigned (var k s).number then t else variable vo) e))

  start_first : (p : Var → Bool) → p vx ≡ false → p vo ≡ false → find p (variables start) ≡ None
  start_first p h e = ap (λ (xs : List Var). find p (vx ∷ vo ∷ xs)) need_variables ∙ pass p vx (vo ∷ vx ∷ []) h (pass p vo (vx ∷ []) e (pass p vx [] h refl))

  past_first : (p : Var → Bool) → p vx ≡ false → p vo ≡ false → find p (variables past) ≡ None
  past_first p h e =
      ap (λ (xs : List Var). find p (vx ∷ vo ∷ vx ∷ xs)) need_variables ∙ pass p vx (vo ∷ vx ∷ vx ∷ []) h (pass p vo (vx ∷ vx ∷ []) e (pass p vx (vx ∷ []) h (pass p vx [] h refl)))

  left_first : (p : Var → Bool) → p vo ≡ false → find p (variables left) ≡ None
  left_first p e = ap (λ (xs : List Var). find p xs) left_variables ∙ pass p vo [] e refl

  need_first : (p : Var → Bool) → p vx ≡ false → find p (variables need) ≡ None
  need_first p h = ap (λ (xs : List Var). find p xs) need_variables ∙ pass p vx [] h refl

  differs : (y : Target) → may_assign i y ≡ true → same_kind x (target_kind y) ≡ false
  differs (targets.Temporary k) h = refl
  differs (targets.Variable j) h = turned i j (not-true (j == i) h)

  old_differs : (y : Target) → same_kind o (target_kind y) ≡ false
  old_differs (targets.Temporary k) = refl
  old_differs (targets.Variable j) = refl

  start_clean : IsClean (may_assign i) start
  start_clean = record {
    assigned = λ y e h.
        kept_under start (target_kind y) (type_of e) (expression_term e) (start_first (λ v. same_kind v.kind (target_kind y)) (differs y h) (old_differs y)) start_image (differs y h) (old_differs y);
    received = start_received;
  }
    where
      start_received : (k : Option ℕ) → first_of_destination k start ≡ None
      start_received None = refl
      start_received (Some k) = start_first (λ v. same_kind v.kind (kinds.Temporary k)) refl refl

  past_clean : IsClean (may_assign i) past
  past_clean = record {
    assigned = λ y e h.
        kept_under past (target_kind y) (type_of e) (expression_term e) (past_first (λ v. same_kind v.kind (target_kind y)) (differs y h) (old_differs y)) past_image (differs y h) (old_differs y);
    received = past_received;
  }
    where
      past_received : (k : Option ℕ) → first_of_destination k past ≡ None
      past_received None = refl
      past_received (Some k) = past_first (λ v. same_kind v.kind (kinds.Temporary k)) refl refl

  left_unchanged : (k : VarKind) (s : Scalar) (t : Option TermTree) → same_kind o k ≡ false → replaced (var k s) t left ≡ Ok left
  left_unchanged k s None e = ap (λ (found : Option Var). unless found (Ok left)) (left_first (λ v. same_kind v.kind k) e)
  left_unchanged k s (Some t) e =
      ap (λ (b : AssertionTree). Ok b)
      (left_image (one_image (var k s) t) vo (ap (λ (b : Bool). if b && same_number_type numbers.Unsigned (var k s).number then t else variable vo) e))

  left_clean : IsClean (may_assign i) left
  left_clean = record { assigned = λ y e h. left_unchanged (target_kind y) (type_of e) (expression_term e) (old_differs y); received = left_received }
    where
      left_received : (k : Option ℕ) → first_of_destination k left ≡ None
      left_received None = refl
      left_received (Some k) = left_first (λ v. same_kind v.kind (kinds.Temporary k)) refl

  left_kept : (e : Option CoreExprTree) → returned_rule e left ≡ Ok left
  left_kept None = ap (λ (found : Option Var). unless found (Ok left)) (left_first (λ v. same_kind v.kind kinds.Returned) refl)
  left_kept (Some e) = left_unchanged kinds.Returned (type_of e) (expression_term e) refl

  -- ---- they differ

  guard_is_not : (d : CondTree) (a : AssertionTree) (hs : List Helper) (b : Bool) (v : Var) → guard d a ≡ with_helpers hs (costs (measure b v) f) → ⊥
  guard_is_not d a [] b v h = cc
  guard_is_not d a (g ∷ hs) b v h = cc

  start_is_not_left : same_assertion start left ≡ false
  start_is_not_left = false_from_ne_true (same_assertion start left) (λ h. guard_is_not (eq (variable vx) (variable vo)) need c.helpers c.by_bits vo (assertion_same start left h))

  past_is_not_left : same_assertion past left ≡ false
  past_is_not_left =
      false_from_ne_true (same_assertion past left) (λ h. guard_is_not (eq (variable vx) (variable vo)) (guard (le (tree.number (pos n)) (variable vx)) need) c.helpers c.by_bits vo (assertion_same past left h))

  abbrev inside : AssertionTree → AssertionTree
  inside (guard d a) = a
  inside a = a

  start_is_not_past : same_assertion start past ≡ false
  start_is_not_past = false_from_ne_true (same_assertion start past) (λ h. guard_is_not (le (tree.number (pos n)) (variable vx)) need c.helpers c.by_bits vx (sym (ap inside (assertion_same start past h))))

  past_is_not_start : same_assertion past start ≡ false
  past_is_not_start = false_from_ne_true (same_assertion past start) (λ h. guard_is_not (le (tree.number (pos n)) (variable vx)) need c.helpers c.by_bits vx (ap inside (assertion_same past start h)))

  -- ---- the ways to the end

  abbrev known_three : List CondTree → Known
  known_three cs = record { conditions = cs; polynomials = number (pos 1) ∷ y_less_x x o ∷ x_less_y x o ∷ [] }

  abbrev known_four : List CondTree → Known
  known_four cs = record { conditions = cs; polynomials = number (pos 1) ∷ y_less_x x o ∷ x_less_y x o ∷ x_less (x_of x) n ∷ [] }

  module _ (ds : List Define) where
    measured_three : (b : Bool) (cs : List CondTree) → fault (if b then bits_kept 3 f x o else value_kept 3 f x o) ds (known_three cs) (costs (measure b vx) f) (costs (measure b vo) f) ≡ None
    measured_three true cs = bits_kept_holds x o f (number (pos 1) ∷ y_less_x x o ∷ x_less_y x o ∷ []) 2 (omega arith) refl cs ds
    measured_three false cs = value_kept_holds x o f (number (pos 1) ∷ y_less_x x o ∷ x_less_y x o ∷ []) 1 2 (omega arith) (omega arith) refl refl cs ds

    measured_four : (b : Bool) (cs : List CondTree) → fault (if b then bits_kept 4 f x o else value_kept 4 f x o) ds (known_four cs) (costs (measure b vx) f) (costs (measure b vo) f) ≡ None
    measured_four true cs = bits_kept_holds x o f (number (pos 1) ∷ y_less_x x o ∷ x_less_y x o ∷ x_less (x_of x) n ∷ []) 2 (omega arith) refl cs ds
    measured_four false cs = value_kept_holds x o f (number (pos 1) ∷ y_less_x x o ∷ x_less_y x o ∷ x_less (x_of x) n ∷ []) 1 2 (omega arith) (omega arith) refl refl cs ds

    start_reaches : Reaches ds start (shown (entered_left f c)) left
    start_reaches = (
      λ cs.
          under_first x o need need_plain (all_kept c.helpers (measure_kept 3 f c)) ds cs left
          (all_kept_holds c.helpers (measure_kept 3 f c) ds (known_three (cs ++ eq (variable vx) (variable vo) ∷ [])) (own_need f c) (costs (measure c.by_bits vo) f) (measured_three c.by_bits (cs ++ eq (variable vx) (variable vo) ∷ []))),
      start_is_not_left,
      left_plain,
    )

    past_reaches : n ≤ 2 ^ 32 → Reaches ds past (shown (past_left f c)) left
    past_reaches fits = (
      λ cs.
          under_both x o need need_plain (all_kept c.helpers (measure_kept 4 f c)) n fits ds cs left
          (all_kept_holds c.helpers (measure_kept 4 f c) ds (known_four ((cs ++ eq (variable vx) (variable vo) ∷ []) ++ le (tree.number (pos n)) (variable vx) ∷ [])) (own_need f c) (costs (measure c.by_bits vo) f)
          (measured_four c.by_bits ((cs ++ eq (variable vx) (variable vo) ∷ []) ++ le (tree.number (pos n)) (variable vx) ∷ []))),
      past_is_not_left,
      left_plain,
    )

    start_leaves : (next : AssertionTree) → Leaves start ds (ways_by (entered_left f c)) (with_next (function_posts left) next)
    start_leaves next = record { on_break = start_reaches; on_continue = start_reaches; on_return = start_reaches; kept = left_kept }

    start_enough : Enough (may_assign i) start ds (ways_by (entered_left f c)) (function_posts left)
    start_enough = record { leaves = record { on_break = start_reaches; on_continue = start_reaches; on_return = start_reaches; kept = left_kept }; next = start_reaches; clean = left_clean }

    past_enough : n ≤ 2 ^ 32 → Enough (may_assign i) past ds (ways_by (past_left f c)) (function_posts left)
    past_enough fits =
        let v = past_reaches fits in
        record { leaves = record { on_break = v; on_continue = v; on_return = v; kept = left_kept }; next = v; clean = left_clean }

    -- back to where the counter is as it was, if something stands behind
    abbrev next_of : CoreStmts → AssertionTree
    next_of no_stmts = left
    next_of (stmt_and s ss) = start

    back_enough : n ≤ 2 ^ 32 → (ss : CoreStmts) → Enough (may_assign i) past ds (back_ways ss (ways_by (past_left f c))) (with_next (function_posts left) (next_of ss))
    back_enough fits no_stmts = past_enough fits
    back_enough fits (stmt_and s ss) =
        let v = past_reaches fits in
        record {
          leaves = record { on_break = v; on_continue = v; on_return = v; kept = left_kept };
          next = (guard_dropped_holds x o need need_plain n fits ds, past_is_not_start, start_plain);
          clean = start_clean;
        }

  -- ---- the function

  pub record IsSetting (u : CoreUnitTree) (proofs : ProofsTree) (function : CoreFunctionTree) : Type 0 where
    pub stands : slice_get u.functions f ≡ Some function
    pub order : IsInOrder proofs.defines
    pub plain : has_plain_parameter function c.counter ≡ true
    pub type_is : is_unsigned (variable_type function c.counter) ≡ true
    pub specified : spec_of proofs f ≡ Some (balanced (counting_pre f c))
    pub small : least_in c ≤ 2 ^ 32

  module _ (u : CoreUnitTree) (proofs : ProofsTree) (function : CoreFunctionTree) (is : IsSetting u proofs function) where
    abbrev pub scope : Scope
    scope = scope_of u proofs function

    own : is_own function vx ≡ true
    own = own_is (variable_type function c.counter) is.type_is

    old_own : is_own function vo ≡ true
    old_own = own_is (variable_type function c.counter) is.type_is

    body_x : not (may_mention function (in_body function) vx) ≡ false
    body_x = ap (λ (b : Bool). not (not b && is_own function vx)) (placed (slice_get function.parameters i) is.plain) ∙ ap not own

    body_o : not (may_mention function (in_body function) vo) ≡ false
    body_o = ap (λ (b : Bool). not (b && is_own function vo)) is.plain ∙ ap not old_own

    start_fits : first_other function (in_body function) start ≡ None
    start_fits = start_first (λ v. not (may_mention function (in_body function) v)) body_x body_o

    past_fits : first_other function (in_body function) past ≡ None
    past_fits = past_first (λ v. not (may_mention function (in_body function) v)) body_x body_o

    need_fits : first_other function (in_pre function) need ≡ None
    need_fits = need_first (λ v. not (may_mention function (in_pre function) v)) (ap (λ (b : Bool). not (b && is_own function vx)) is.plain ∙ ap not own)

    left_fits : first_other function (in_post function) left ≡ None
    left_fits = left_first (λ v. not (may_mention function (in_post function) v)) body_o

    -- what is mentioned at a call of the function itself
    pub image_at_call : (es : List CoreExprTree) (t : TermTree) → argument_term es i ≡ Some t → pre_images function es vx ≡ Some t
    image_at_call es t h =
        ap (λ (b : Bool). only_if b (argument_term es i)) (ap (λ (b : Bool). b && is_own function vx) is.plain ∙ own) ∙ h

    -- ---- the parts of the body

    abbrev pub FitsStart : CoreStmtTree → Ways → Type 0
    FitsStart s w = Fits start (pay_entered f c) scope (may_assign i) s w

    abbrev pub FitsPast : CoreStmtTree → Ways → Type 0
    FitsPast s w = Fits past (pay_past f c) scope (may_assign i) s w

    -- the branches of the test, and what stands behind it
    abbrev pub BranchesFit : Test → (first second : CoreStmtTree) → (behind : CoreStmts) → Type 0
    BranchesFit (below k) s t ss =
        (returns s ≡ true) × FitsStart s (ways_by (entered_left f c)) × FitsPast t (before ss (ways_by (past_left f c))) × AllFit past (pay_past f c) scope (may_assign i) ss (ways_by (past_left f c))
    BranchesFit (at_least k) s t ss =
        FitsPast s (back_ways ss (ways_by (past_left f c))) × FitsStart t (before ss (ways_by (entered_left f c))) × AllFit start (pay_entered f c) scope (may_assign i) ss (ways_by (entered_left f c))

    pub record IsTest (s : CoreStmtTree) (ss : CoreStmts) : Type 0 where
      pub operand : CoreExprTree
      pub first : CoreStmtTree
      pub second : CoreStmtTree
      pub form : s ≡ core.branch operand first second
      pub condition : CoreConditionTree
      pub has : condition_of operand ≡ Some condition
      pub tests : test_in c.counter condition ≡ Some c.place.test
      pub fits : BranchesFit c.place.test first second ss

    abbrev pub PartsFit : ℕ → CoreStmts → Type 0
    PartsFit n no_stmts = ⊥
    PartsFit zero (stmt_and s ss) = IsTest s ss
    PartsFit (suc n) (stmt_and s ss) = FitsStart s (to_itself (ways_by (entered_left f c))) × PartsFit n ss

    surely_returns : (s : CoreStmtTree) (next : AssertionTree) → returns s ≡ true → FitsStart s (ways_by (entered_left f c)) → pre (before_entered f c s (ways_by (entered_left f c))) scope s (with_next (function_posts left) next) ≡ Ok start
    surely_returns core.skip next h i = cc
    surely_returns (core.seq no_stmts) next h i = cc
    surely_returns (core.seq (stmt_and s ss)) next h i =
        returning_seq_ok start (pay_entered f c) scope (may_assign c.counter) refl start_fits start_clean start_plain s ss (ways_by (entered_left f c)) (with_next (function_posts left) next) h (start_leaves proofs.defines next) i
    surely_returns (core.assign y e) next h i = cc
    surely_returns (core.store s to e) next h i = cc
    surely_returns (core.copy size alignment to from) next h i = cc
    surely_returns (core.fill contents to) next h i = cc
    surely_returns (core.call k g es) next h i = cc
    surely_returns (core.branch e s t) next h i = cc
    surely_returns (core.loop body step) next h i = cc
    surely_returns (core.switch e labels ss) next h i = cc
    surely_returns core.break next h i = cc
    surely_returns core.continue next h i = cc
    surely_returns (core.return e) next h i =
        return_ok start (pay_entered f c) scope (may_assign c.counter) refl start_fits start_clean start_plain (core.return e) (ways_by (entered_left f c)) (with_next (function_posts left) next) refl (start_leaves proofs.defines next)

    next_is : (ss : CoreStmts) → needed start (pay_entered f c) scope (may_assign i) refl start_fits start_clean start_plain ss (function_posts left) ≡ next_of proofs.defines ss
    next_is no_stmts = refl
    next_is (stmt_and s ss) = refl

    -- both branches of the test, where they need these
    either_is :
        (e : CoreExprTree) (d : CondTree) (a b : AssertionTree) (s t : CoreStmtTree) (v w : DerivationTree) (q : Posts) → expression_condition e ≡ Some d → same_assertion a b ≡ false → pre v scope s q ≡ Ok a → pre w scope t q ≡ Ok b
        → pre (conditional v w) scope (core.branch e s t) q ≡ Ok (choose d a b)
    either_is e d a b s t v w q h apart s_ok t_ok =
        ap (λ (r : Answer). bind (part 0 r) (λ a. bind (part 1 (pre w scope t q)) (λ b. Ok (either (expression_condition e) a b)))) s_ok
        ∙ ap (λ (r : Answer). bind (part 1 r) (λ b. Ok (either (expression_condition e) a b))) t_ok
        ∙ ap (λ (z : Bool). Ok (if z then a else by_condition (expression_condition e) a b)) apart
        ∙ ap (λ (z : Option CondTree). Ok (by_condition z a b)) h

    test_ok :
        (test : Test) (e : CoreExprTree) (d : CoreConditionTree) (s t : CoreStmtTree) (ss : CoreStmts) (m : ℕ) → c.place.test ≡ test → expression_condition e ≡ Some (condition_tree d) → test_in c.counter d ≡ Some test → BranchesFit test s t ss
        → sequence_pre (derivation_and (consequence start (test_certificate f c test (condition_tree d)) (test_branches f c test s t ss)) (behind_written f c test ss)) m scope (stmt_and (core.branch e s t) ss) (function_posts left) ≡ Ok start
    test_ok (below k) e d s t ss m is_test h tests fit =
        let q = function_posts left in
        let w = ways_by (past_left f c) in
        let next = needed past (pay_past f c) scope (may_assign i) refl past_fits past_clean past_plain ss q in
        let last = test_branches f c (below k) s t ss in
        let least : k ≡ n = sym (ap least_of is_test) in
        ap (λ (a : Answer). bind a (λ r. part m (pre (consequence start (test_certificate f c (below k) (condition_tree d)) last) scope (core.branch e s t) (with_next q r))))
        (stmts_ok past (pay_past f c) scope (may_assign i) refl past_fits past_clean past_plain ss (suc m) w q (past_enough proofs.defines is.small) fit.3)
        ∙ ap (part m)
        (drawn start (pay_entered f c) scope (may_assign i) refl start_fits start_clean start_plain last (test_certificate f c (below k) (condition_tree d)) (core.branch e s t) (with_next q next) (choose (condition_tree d) start past) refl
        (either_is e (condition_tree d) start past s t (before_entered f c s (ways_by (entered_left f c))) (before_past f c t (before ss w)) (with_next q next) h start_is_not_past (surely_returns s next fit.0 fit.1)
        (stmt_ok past (pay_past f c) scope (may_assign i) refl past_fits past_clean past_plain t (before ss w) (with_next q next)
        (before_others past (pay_past f c) scope (may_assign i) refl past_fits past_clean past_plain ss w q (past_enough proofs.defines is.small)) fit.2))
        (subst (λ (j : ℕ). verdict [] proofs.defines start (choose (condition_tree d) start (past_at j)) (test_certificate f c (below k) (condition_tree d)) ≡ None) least
        (test_shows c.counter need need_plain proofs.defines d (below k) tests (subst (λ (j : ℕ). j ≤ 2 ^ 32) (sym least) is.small))))
    test_ok (at_least k) e d s t ss m is_test h tests fit =
        let q = function_posts left in
        let w = ways_by (entered_left f c) in
        let next = needed start (pay_entered f c) scope (may_assign i) refl start_fits start_clean start_plain ss q in
        let last = test_branches f c (at_least k) s t ss in
        let least : k ≡ n = sym (ap least_of is_test) in
        ap (λ (a : Answer). bind a (λ r. part m (pre (consequence start (test_certificate f c (at_least k) (condition_tree d)) last) scope (core.branch e s t) (with_next q r))))
        (stmts_ok start (pay_entered f c) scope (may_assign i) refl start_fits start_clean start_plain ss (suc m) w q (start_enough proofs.defines) fit.2)
        ∙ ap (part m)
        (drawn start (pay_entered f c) scope (may_assign i) refl start_fits start_clean start_plain last (test_certificate f c (at_least k) (condition_tree d)) (core.branch e s t) (with_next q next) (choose (condition_tree d) past start) refl
        (either_is e (condition_tree d) past start s t (before_past f c s (back_ways ss (ways_by (past_left f c)))) (before_entered f c t (before ss w)) (with_next q next) h past_is_not_start
        (ap (λ (r : AssertionTree). pre (before_past f c s (back_ways ss (ways_by (past_left f c)))) scope s (with_next q r)) (next_is ss)
        ∙ stmt_ok past (pay_past f c) scope (may_assign i) refl past_fits past_clean past_plain s (back_ways ss (ways_by (past_left f c))) (with_next q (next_of proofs.defines ss)) (back_enough proofs.defines is.small ss) fit.0)
        (stmt_ok start (pay_entered f c) scope (may_assign i) refl start_fits start_clean start_plain t (before ss w) (with_next q next)
        (before_others start (pay_entered f c) scope (may_assign i) refl start_fits start_clean start_plain ss w q (start_enough proofs.defines)) fit.1))
        (subst (λ (j : ℕ). verdict [] proofs.defines start (choose (condition_tree d) (past_at j) start) (test_certificate f c (at_least k) (condition_tree d)) ≡ None) least
        (test_shows c.counter need need_plain proofs.defines d (at_least k) tests (subst (λ (j : ℕ). j ≤ 2 ^ 32) (sym least) is.small))))

    part_ok :
        (s : CoreStmtTree) (ss : CoreStmts) (m : ℕ) → IsTest s ss → sequence_pre (derivation_and (test_written f c s ss) (behind_written f c c.place.test ss)) m scope (stmt_and s ss) (function_posts left) ≡ Ok start
    part_ok s ss m t =
        let has : expression_condition t.operand ≡ Some (condition_tree t.condition) = ap (λ (o : Option CoreConditionTree). option_map condition_tree o) t.has in
        ap (λ (s : CoreStmtTree). sequence_pre (derivation_and (test_written f c s ss) (behind_written f c c.place.test ss)) m scope (stmt_and s ss) (function_posts left)) t.form
        ∙ ap (λ (o : Option CondTree). sequence_pre (derivation_and (test_by f c o (test_branches f c c.place.test t.first t.second ss)) (behind_written f c c.place.test ss)) m scope (stmt_and (core.branch t.operand t.first t.second) ss) (function_posts left)) has
        ∙ test_ok c.place.test t.operand t.condition t.first t.second ss m refl has t.tests t.fits

    parts_ok : (k : ℕ) (ss : CoreStmts) (m : ℕ) → PartsFit k ss → sequence_pre (parts_written f c k ss) m scope ss (function_posts left) ≡ Ok start
    parts_ok k no_stmts m fit = absurd fit
    parts_ok zero (stmt_and s ss) m fit = part_ok s ss m fit
    parts_ok (suc k) (stmt_and s ss) m fit =
        let w = to_itself (ways_by (entered_left f c)) in
        let q = function_posts left in
        ap (λ (a : Answer). bind a (λ r. part m (pre (before_entered f c s w) scope s (with_next q r)))) (parts_ok k ss (suc m) fit.1)
        ∙ ap (part m)
        (stmt_ok start (pay_entered f c) scope (may_assign i) refl start_fits start_clean start_plain s w (with_next q start)
        (same_again start (pay_entered f c) scope (may_assign i) refl start_fits start_clean start_plain (ways_by (entered_left f c)) q (start_enough proofs.defines).leaves) fit.0)

    parts_count : (k : ℕ) (ss : CoreStmts) → PartsFit k ss → count_derivations (parts_written f c k ss) ≡ count_stmts ss
    parts_count k no_stmts fit = absurd fit
    parts_count zero (stmt_and s ss) fit = ap suc (by c.place.test)
      where
        by : (test : Test) → count_derivations (behind_written f c test ss) ≡ count_stmts ss
        by (below k) = counts past (pay_past f c) ss (ways_by (past_left f c))
        by (at_least k) = counts start (pay_entered f c) ss (ways_by (entered_left f c))
    parts_count (suc k) (stmt_and s ss) fit = ap suc (parts_count k ss fit.1)

    abbrev entry_with : AssertionTree → EntryTree
    entry_with post = record { function = f; spec = record { pre = need; post = post }; entry = entry_guarded; body = sequence (parts_written f c c.place.part function.body) }

    no_result : (b : Bool) → (elim b as (λ b. Option Var) [ true ↦ None | false ↦ first_of kinds.Returned left ]) ≡ None
    no_result true = refl
    no_result false = left_first (λ v. same_kind v.kind kinds.Returned) refl

    plain_image : assertion_image as_plain start ≡ guard (eq (variable vx) (variable vx)) need
    plain_image = ap (λ (a : AssertionTree). guard (eq (variable vx) (variable vx)) a) (need_image as_plain vx refl)

    left_derived : PartsFit c.place.part function.body → IsDerived u proofs (entry_with left)
    left_derived fit =
        let posts = function_posts left in
        let d = sequence (parts_written f c c.place.part function.body) in
        let walk = λ (a : Answer). fault_or (λ (fault : DerivFault). fault) a (λ p. entry_told (verdict [] proofs.defines need (assertion_image as_plain p) entry_guarded)) in
        let last = walk (pre d scope (core.seq function.body) posts) in
        let third = option_or (mentions_fault in_postcondition (result_at_end function left)) last in
        let second = option_or (mentions_fault in_postcondition (first_other function (in_post function) left)) third in
        ap (λ z. fault_of_known u proofs z (entry_with left)) is.stands
        ∙ ap (λ z. option_or (order_told z) (option_or (mentions_fault in_precondition (first_other function (in_pre function) need)) second)) is.order
        ∙ ap (λ z. option_or (mentions_fault in_precondition z) second) need_fits
        ∙ ap (λ z. option_or (mentions_fault in_postcondition z) third) left_fits
        ∙ ap (λ z. option_or (mentions_fault in_postcondition z) last) (no_result (ends_in_return function.body))
        ∙ ap walk (sequence_of (parts_written f c c.place.part function.body) function.body scope posts start (parts_count c.place.part function.body fit) (parts_ok c.place.part function.body 0 fit))
        ∙ ap (λ (a : AssertionTree). entry_told (verdict [] proofs.defines need a entry_guarded)) plain_image
        ∙ ap entry_told (entry_holds x need proofs.defines)

    pub counting_derived : PartsFit c.place.part function.body → IsDerived u proofs (counting_entry f c function)
    counting_derived fit = subst (λ (post : AssertionTree). IsDerived u proofs (entry_with post)) (sym post_is) (left_derived fit)
