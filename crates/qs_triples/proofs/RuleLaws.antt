-- Each rule is sound: over all that may follow whose weight is at most the posts and x besides.
use Rattle.std.proofs.Common.{◌≡◌, ℕ, zero, suc, ◌+◌, ◌-◌, ◌%◌, ◌^◌, ◌<◌, ◌==◌, ◌&&◌, not, Bool, true, false, if◌then◌else◌, List, [], ◌∷◌, map, Option, Some, None, option_map, All, refl, sym, ap, ◌∙◌, subst, arith}
use Rattle.std.specs.Prelude.{ℤ, pos, Ok}
use Rattle.std.specs.List.{slice_get, list_all}
use Rattle.qs_base.specs.Results.{bind}
use Rattle.std.proofs.lemmas.List.Elements.{All-head, All-tail}
use Rattle.std.proofs.lemmas.Option.{slice_get-map, same_Some}
use Rattle.std.proofs.lemmas.Bool.Decides.{nat_tests}
use Rattle.std.proofs.lemmas.Bool.{and_parts}
use Rattle.qs_memory.specs.Partial.{◌>>=◌, only_if}
use Rattle.qs_memory.specs.Values.{Pointer, Value, integer, address, as_integer, as_pointer}
use Rattle.qs_memory.specs.Memory.{Memory}
use Rattle.qs_memory.specs.Memory as memory
use Rattle.qs_memory.specs.Pointers.{truth}
use Rattle.qs_memory.specs.Soundness.{ComesAfter}
use Rattle.qs_memory.specs.Scalars.{same_scalar, same_scalars, is_type, is_integer, is_promoted}
use Rattle.qs_memory.proofs.ScalarLaws.{scalars_same, type_is}
use Rattle.qs_memory.specs.declared.scalar.Scalar.{Scalar}
use Rattle.qs_memory.specs.declared.scalar.Scalar.TheVariants as scalars
use Rattle.qs_memory.specs.declared.operation.Signedness.TheVariants.{Signed}
use Rattle.qs_memory.proofs.BlockLaws.{after_same}
use Rattle.qs_memory.proofs.Options.{followed}
use Rattle.qs_memory.proofs.StepLaws.{memory_goes_on}
use Rattle.qs_memory.proofs.SoundLaws.{soundness_is_kept}
use Rattle.qs_events.specs.Weights.{Costs, Metric, run_weight_by}
use Rattle.qs_calls.specs.World.{World, with_memory, RootRun, Return, Environment}
use Rattle.qs_calls.specs.Calls.{CallsOf, take_byte, get_char, put_char}
use Rattle.qs_calls.specs.Starts.{Signature, signature_of, AreOf, ResultIsOf, IsReady, Takes, MayStart, IsReturn}
use Rattle.qs_calls.specs.declared.callee.Callee.TheVariants.{Function, PutChar, GetChar}
use Rattle.qs_assert.specs.declared.define.Define.{Define}
use Rattle.qs_assert.specs.declared.variable.NumberType.{NumberType}
use Rattle.qs_assert.specs.declared.variable.VarKind.{VarKind}
use Rattle.qs_assert.specs.declared.variable.VarKind.TheVariants as kinds
use Rattle.qs_assert.specs.Order.{IsInOrder}
use Rattle.qs_assert.specs.Sameness.{same_assertion}
use Rattle.qs_assert.specs.Simultaneous.{first_without}
use Rattle.qs_assert.specs.Trees.{TermTree, CondTree, AssertionTree}
use Rattle.qs_assert.specs.Values.{State, Extended, finite, plus, greater, term_value, holds, value}
use Rattle.qs_assert.proofs.SamenessLaws.{assertion_same}
use Rattle.qs_entail.specs.Certificates.{CertTree}
use Rattle.qs_entail.specs.Meaning.{AtLeast}
use Rattle.qs_entail.specs.Verdicts.{verdict}
use Rattle.qs_entail.proofs.Amounts.{at_least_itself, at_least_through, first_at_most, second_at_most}
use Rattle.qs_core.specs.declared.labels.CoreLabel.{CoreLabel}
use Rattle.qs_core.specs.declared.numbers.Target.{Target}
use Rattle.qs_core.specs.declared.numbers.Target.TheVariants as targets
use Rattle.qs_core.specs.Trees as core
use Rattle.qs_core.specs.Trees.{CoreExprTree, CoreStmtTree, CoreStmts, no_stmts, stmt_and, CoreFunctionTree, CoreUnitTree}
use Rattle.qs_core.specs.Expressions.{Locals, values, type_of}
use Rattle.qs_core.specs.Expressions as expressions
use Rattle.qs_core.specs.Statements.{Continuation, Continuations, Context, assigned, take_result, given_pointer, repeated, after_step, after_body, chosen_part, at_part, in_switch, runs, runs_all, runs_from}
use Rattle.qs_core.specs.Interfaces.{temporary_type, target_type, parameter_types, signature, interface_of}
use Rattle.qs_core.specs.Fits.{expr_fits, exprs_fit, pointer_fits, any_mentions, call_fits, taken_fits, destination_fits, label_fits, stmt_fits, stmts_fit, unit_fits}
use Rattle.qs_core.specs.Outline.{count_of}
use Rattle.qs_core.specs.Ranges.{IsMoment}
use Rattle.qs_core.specs.TermTrees.{CoreTermTree}
use Rattle.qs_core.specs.Terms.{term_of}
use Rattle.qs_core.proofs.FitLaws.{FunctionFits, function_at_fits}
use Rattle.qs_core.proofs.TypeLaws.{integer_is_of, value_is_of}
use Rattle.qs_core.proofs.RangeLaws.{of_type, moment_stepped, moment_assigned, arguments_are}
use Rattle.qs_triples.specs.declared.resource.Resource.{Resource}
use Rattle.qs_triples.specs.declared.resource.Resource.TheVariants.{Stack, Calls}
use Rattle.qs_triples.specs.Resources.{given_back, metric_of}
use Rattle.qs_triples.specs.Derivations.{DerivationTree, leaf, sequence, conditional, loop, switch, call, balanced_call, consequence, DerivationTrees, no_derivations, derivation_and, count_derivations, SpecTree}
use Rattle.qs_triples.specs.Valuations.{number_or_zero, number_type, if_number, own_type, is_number_type, Valuation, value_of, number_at, within, entered, at_entry, at_exit}
use Rattle.qs_triples.specs.ExpressionTerms.{var, term_tree, expression_term, expression_condition}
use Rattle.qs_triples.specs.Mentions.{first_of, first_of_destination, pre_images, post_images}
use Rattle.qs_triples.specs.Rules.{Answer, part, unless, Posts, Scope, with_next, target_kind, replaced, leaf_rule, by_condition, either, step_posts, body_posts, switch_posts, before_part, before_chosen, switched, with_frame, with_frame_behind, around, at_call, is_balanced, CallSite, of_call, known_callee, balanced_rule, is_consequence, count_stmts, pre, sequence_pre, parts_pre}
use Rattle.qs_triples.specs.Entries.{AreClosed}
use Rattle.qs_triples.proofs.Answers.{Gives, ok_same, bind_ok, part_ok, require_ok, unless_ok, unless_of_ok, given_back_ok, by_verdict_ok, sequence_ok, branch_ok, loop_ok, switch_ok, call_at, call_ok, spec_ok}
use Rattle.qs_triples.proofs.Bounds.{IsBelow, zero_below, below_more, below_at, given_below, choice_below, framed, framed_alone, with_frame_below, around_below}
use Rattle.qs_triples.proofs.Names.{seen, shown}
use Rattle.qs_triples.proofs.ValuationLaws.{in_range, OthersStay, unmentioned, replaced_value}
use Rattle.qs_triples.proofs.TermLaws.{Stands, expression_stands}
use Rattle.qs_triples.proofs.ConditionLaws.{expression_holds}
use Rattle.qs_triples.proofs.SwitchLaws.{enough_at_chosen}
use Rattle.qs_triples.proofs.MomentLaws.{landed, IsResult, result_below}
use Rattle.qs_triples.proofs.ArgumentLaws.{argument_at, argument_fits, TermsAre}
use Rattle.qs_triples.proofs.CallLaws.{pre_at_call, ResultsAre, post_at_call, balanced_at_call, IsApart, apart_at, value_apart}

-- ---- calls

-- the value of an assertion of a function
abbrev pub at_valuation : Costs → List Define → CoreFunctionTree → Valuation → AssertionTree → Extended
at_valuation cost ds f v a = value a (seen cost ds (number_at f v))

-- a function keeps its specification, whatever follows
abbrev pub KeepsSpec : Resource → Costs → CoreUnitTree → List Define → CallsOf → (g : ℕ) → CoreFunctionTree → SpecTree → Type 0
KeepsSpec resource cost u ds calls g f spec =
    (x : ℕ) (arguments : List Value) (k : Return) (w : World) → MayStart (interface_of u) g arguments w
    → ((result : Option Value) (z : World) → IsReturn (interface_of u) f.result_type w.memory result z
    → IsBelow (run_weight_by (metric_of resource cost) (k result z)) (at_valuation cost ds f (at_exit (entered f arguments) result) spec.post) (given_back resource cost g + x))
    → IsBelow (run_weight_by (metric_of resource cost) (calls g arguments k w)) (at_valuation cost ds f (at_entry f arguments) spec.pre) (cost g + x)

abbrev pub AllKeepSpecs : Resource → Costs → CoreUnitTree → List Define → (ℕ → Option SpecTree) → CallsOf → Type 0
AllKeepSpecs resource cost u ds specs calls =
    (g : ℕ) (f : CoreFunctionTree) (spec : SpecTree) → slice_get u.functions g ≡ Some f → specs g ≡ Some spec
    → KeepsSpec resource cost u ds calls g f spec

module _ (u : CoreUnitTree) (fits : unit_fits u ≡ true) (resource : Resource) (cost : Costs) (ds : List Define) (closed : AreClosed ds) (f : CoreFunctionTree) (start : Memory) (old : Environment) (turns : ℕ) (calls : CallsOf) where
  abbrev metric : Metric
  metric = metric_of resource cost

  abbrev context : Context
  context = record { turns = turns; calls = calls }

  -- the state of a moment
  abbrev pub at : Locals → State
  at l = seen cost ds (number_at f (within old l))

  -- at each moment, what follows weighs at most p, and x besides
  abbrev pub Holds : AssertionTree → Continuation → ℕ → Type 0
  Holds p k x = (l : Locals) (w : World) → IsMoment u f start l w → IsBelow (run_weight_by metric (k l w)) (value p (at l)) x

  -- the valuation in which the function has returned this
  abbrev pub with_result : Locals → Option Value → Valuation
  with_result l result = record { variables = l.variables; temporaries = l.temporaries; old = old; result = result }

  -- what follows weighs at most the posts, and x besides; breaks and continues only where they may stand
  pub record Ready (x : ℕ) (may_break may_continue : Bool) (k : Continuations) (q : Posts) : Type 0 where
    pub next : Holds q.next k.next x
    pub on_break : may_break ≡ true → Holds q.on_break k.on_break x
    pub on_continue : may_continue ≡ true → Holds q.on_continue k.on_continue x
    pub on_return :
        (result : Option Value) (w : World) (l : Locals) → IsReturn (interface_of u) f.result_type start result w
        → IsBelow (run_weight_by metric (k.on_return result w)) (at_valuation cost ds f (with_result l result) q.on_return) x

  -- p is enough before the statement
  abbrev pub IsEnough : AssertionTree → CoreStmtTree → Posts → Type 0
  IsEnough p s q =
      (b c : Bool) → stmt_fits u f b c s ≡ true → (x : ℕ) (k : Continuations) → Ready x b c k q → Holds p (runs s context k) x

  abbrev pub AreEnough : AssertionTree → CoreStmts → Posts → Type 0
  AreEnough p ss q =
      (b c : Bool) → stmts_fit u f b c ss ≡ true → (x : ℕ) (k : Continuations) → Ready x b c k q → Holds p (runs_all ss context k) x

  abbrev pub Covered : AssertionTree → AssertionTree → Type 0
  Covered r p = (l : Locals) → AtLeast (value r (at l)) (value p (at l))

  same_answer : (a p : AssertionTree) → Gives (Ok a) p → (n x : ℕ) (l : Locals) → IsBelow n (value a (at l)) x → IsBelow n (value p (at l)) x
  same_answer a p is n x l h = below_at n x (ap (λ (a : AssertionTree). value a (at l)) (ok_same a p is)) h

  -- ---- leaf

  assign_others : (x : Target) (l : Locals) (v : Value) → OthersStay (target_kind x) (within old l) (within old (assigned x l v))
  assign_others (targets.Variable x) l v (kinds.Plain y) h = sym (ap (λ b. if b then Some v else l.variables y) h)
  assign_others (targets.Variable x) l v (kinds.Temporary y) h = refl
  assign_others (targets.Variable x) l v (kinds.Old y) h = refl
  assign_others (targets.Variable x) l v kinds.Returned h = refl
  assign_others (targets.Temporary x) l v (kinds.Plain y) h = refl
  assign_others (targets.Temporary x) l v (kinds.Temporary y) h = sym (ap (λ b. if b then Some v else l.temporaries y) h)
  assign_others (targets.Temporary x) l v (kinds.Old y) h = refl
  assign_others (targets.Temporary x) l v kinds.Returned h = refl

  equal_self : (x : ℕ) → (x == x) ≡ true
  equal_self x = grind (arith, nat_tests)

  assigned_value : (x : Target) (l : Locals) (v : Value) → value_of (target_kind x) (within old (assigned x l v)) ≡ Some v
  assigned_value (targets.Variable x) l v = ap (λ b. if b then Some v else l.variables x) (equal_self x)
  assigned_value (targets.Temporary x) l v = ap (λ b. if b then Some v else l.temporaries x) (equal_self x)

  return_others : (l : Locals) (result : Option Value) → OthersStay kinds.Returned (within old l) (with_result l result)
  return_others l result (kinds.Plain y) h = refl
  return_others l result (kinds.Temporary y) h = refl
  return_others l result (kinds.Old y) h = refl
  return_others l result kinds.Returned h = cc

  target_own : (x : Target) (s : Scalar) → target_type f x ≡ Some s → is_integer s ≡ true → own_type f (target_kind x) ≡ Some (number_type s)
  target_own (targets.Variable x) s is i = ap (λ (o : Option Scalar). o >>= if_number) is ∙ ap (λ b. only_if b (Some (number_type s))) i
  target_own (targets.Temporary x) s is i = ap (λ (o : Option Scalar). o >>= if_number) is ∙ ap (λ b. only_if b (Some (number_type s))) i

  term_number : (e : CoreExprTree) (l : Locals) (w : World) (v : Value) (t : TermTree) → expr_fits u f e ≡ true → IsMoment u f start l w → expressions.value e l w.memory ≡ Some v → expression_term e ≡ Some t → Stands (type_of e) v (term_value t (at l))
  term_number e l w v t fit is h j = expression_stands u f l w is.range old cost (seen cost ds (λ x. pos 0)).names e t v fit j h

  assign_rule : (x : Target) (e : CoreExprTree) (q p : AssertionTree) → Gives (replaced (var (target_kind x) (type_of e)) (expression_term e) q) p → (qs : Posts) → qs.next ≡ q → IsEnough p (core.assign x e) qs
  assign_rule x e q p is qs same b c fit y k r l w moment =
      let two = and_parts (expr_fits u f e) (is_type (target_type f x) (type_of e)) fit in
      let type = type_is (target_type f x) (type_of e) two.1 in
      given_below metric (expressions.value e l w.memory) _ (value p (at l)) y (λ v i.
      below_at _ y
      (sym (replaced_value f (target_kind x) (within old l) (within old (assigned x l v)) (assign_others x l v) cost ds (number_type (type_of e)) v (expression_term e) q p is (assigned_value x l v)
      (λ t h. let s = term_number e l w v t two.0 moment i h in (target_own x (type_of e) type s.integer, s.number))))
      (subst (λ (a : AssertionTree). IsBelow (run_weight_by metric (k.next (assigned x l v) w)) (value a (at (assigned x l v))) y) same
      (r.next (assigned x l v) w (moment_assigned u f start x l w v (of_type w.memory (target_type f x) (type_of e) v type (value_is_of u f e l w v two.0 moment.range i)) moment))))

  pointer_below :
      (e : CoreExprTree) (l : Locals) (w : World) (g : Pointer → RootRun) (a : Extended) (x : ℕ)
      → ((p : Pointer) → IsBelow (run_weight_by metric (g p)) a x) → IsBelow (run_weight_by metric (given_pointer e l w g)) a x
  pointer_below e l w g a x h =
      given_below metric (expressions.value e l w.memory) _ a x (λ v i. given_below metric (as_pointer v) g a x (λ p j. h p))

  -- what a given function returns
  returned_number :
      (w v : World) (n : ℕ) → n < 2 ^ 32 → w.memory ≡ v.memory → IsReady (interface_of u) v
      → IsReturn (interface_of u) (Some scalars.Int) w.memory (Some (integer n)) v
  returned_number w v n small same ready = record {
    typed = integer_is_of v.memory Signed n small;
    ready = ready;
    after = subst (λ (m : Memory). ComesAfter w.memory m) same (after_same w.memory);
  }

  abbrev ReturnsBelow : (start : Memory) → (result_type : Option Scalar) → Return → Extended → ℕ → Type 0
  ReturnsBelow m result_type k a x = (result : Option Value) (z : World) → IsReturn (interface_of u) result_type m result z → IsBelow (run_weight_by metric (k result z)) a x

  put_below : (vs : List Value) (k : Return) (w : World) (a : Extended) (x : ℕ) → IsReady (interface_of u) w → ReturnsBelow w.memory (Some scalars.Int) k a x → IsBelow (run_weight_by metric (put_char vs k w)) a x
  put_below [] k w a x ready h = zero_below a x
  put_below (address p ∷ others) k w a x ready h = zero_below a x
  put_below (integer n ∷ v ∷ others) k w a x ready h = zero_below a x
  put_below (integer n ∷ []) k w a x ready h = h (Some (integer (n % 256))) w (returned_number w w (n % 256) (omega arith) refl ready)

  take_below : (input : List ℕ) (k : Return) (w : World) (a : Extended) (x : ℕ) → IsReady (interface_of u) w → All (λ byte. byte < 256) input → ReturnsBelow w.memory (Some scalars.Int) k a x → IsBelow (run_weight_by metric (take_byte input k w)) a x
  take_below [] k w a x ready are h = h (Some (integer (2 ^ 32 - 1))) w (returned_number w w (2 ^ 32 - 1) (omega arith) refl ready)
  take_below (b ∷ input) k w a x ready are h =
      let small : b < 256 = All-head (λ byte. byte < 256) b input are in
      h (Some (integer b)) (record w { input = input })
      (returned_number w (record w { input = input }) b (omega arith) refl
      (record { sound = ready.sound; data_blocks = ready.data_blocks; input = All-tail (λ byte. byte < 256) b input are }))

  get_below : (vs : List Value) (k : Return) (w : World) (a : Extended) (x : ℕ) → IsReady (interface_of u) w → ReturnsBelow w.memory (Some scalars.Int) k a x → IsBelow (run_weight_by metric (get_char vs k w)) a x
  get_below [] k w a x ready h = take_below w.input k w a x ready ready.input h
  get_below (v ∷ others) k w a x ready h = zero_below a x

  -- the frame stays where a result lands
  destination_stays : (x : Option ℕ) (l : Locals) (v : Value) (a : AssertionTree) → first_of_destination x a ≡ None → value a (at l) ≡ value a (at (landed x l v))
  destination_stays None l v a none = refl
  destination_stays (Some k) l v a none = unmentioned f (kinds.Temporary k) (within old l) (within old (assigned (targets.Temporary k) l v)) (assign_others (targets.Temporary k) l v) cost ds a none

  environment_rule : (x : Option ℕ) (es : List CoreExprTree) (q : Posts) (p : AssertionTree) → Gives (unless (first_of_destination x q.next) (Ok q.next)) p → (y : ℕ) (k : Continuations) → Holds q.next k.next y → destination_fits f (Some scalars.Int) x es ≡ true → (l : Locals) (w : World) → IsMoment u f start l w → ReturnsBelow w.memory (Some scalars.Int) (take_result x k.next l) (value p (at l)) y
  environment_rule x es q p is y k next fit l w moment result z returns =
      let g = unless_ok (first_of_destination x q.next) (Ok q.next) p is in
      result_below metric (value p (at l)) y u f start (Some scalars.Int) x es fit k.next l w moment result z returns (λ v some later.
      same_answer q.next p g.1 _ y l (below_at _ y (sym (destination_stays x l v q.next g.0)) (next (landed x l v) z later)))

  pub leaf_is_enough : (s : CoreStmtTree) (q : Posts) (p : AssertionTree) → Gives (leaf_rule s q) p → IsEnough p s q
  leaf_is_enough core.skip q p is b c fit x k r l w moment = same_answer q.next p is _ x l (r.next l w moment)
  leaf_is_enough (core.assign y e) q p is b c fit x k r l w moment = assign_rule y e q.next p is q refl b c fit x k r l w moment
  leaf_is_enough (core.store s a e) q p is b c fit x k r l w moment =
      let three = and_parts (pointer_fits u f a && expr_fits u f e) (same_scalar (type_of e) s) fit in
      let two = and_parts (pointer_fits u f a) (expr_fits u f e) three.0 in
      pointer_below a l w _ _ x (λ i. given_below metric (expressions.value e l w.memory) _ _ x (λ v vis. given_below metric (memory.store s w.memory i v) _ _ x (λ m stored.
      same_answer q.next p is _ x l (r.next l (with_memory w m) (moment_stepped u f start l w m moment (memory_goes_on.store s w.memory m i v stored)
      (soundness_is_kept.store s w.memory m i v moment.range.ready.sound (value_is_of u f e l w v two.1 moment.range vis).sound stored))))))
  leaf_is_enough (core.copy size alignment a e) q p is b c fit x k r l w moment =
      pointer_below a l w _ _ x (λ i. pointer_below e l w _ _ x (λ j. given_below metric (memory.copy size alignment w.memory i j) _ _ x (λ m copied.
      same_answer q.next p is _ x l (r.next l (with_memory w m) (moment_stepped u f start l w m moment (memory_goes_on.copy size alignment w.memory m i j copied)
      (soundness_is_kept.copy size alignment w.memory m i j moment.range.ready.sound copied))))))
  leaf_is_enough (core.fill blank a) q p is b c fit x k r l w moment =
      pointer_below a l w _ _ x (λ i. given_below metric (memory.fill blank w.memory i) _ _ x (λ m filled.
      same_answer q.next p is _ x l (r.next l (with_memory w m) (moment_stepped u f start l w m moment (memory_goes_on.fill blank w.memory m i filled)
      (soundness_is_kept.fill blank w.memory m i moment.range.ready.sound filled)))))
  leaf_is_enough (core.call y PutChar es) q p is b c fit x k r l w moment =
      let two = and_parts (exprs_fit u f es) (call_fits f y (signature_of (interface_of u) PutChar) es) fit in
      let called = and_parts (same_scalars (map type_of es) (scalars.Int ∷ [])) (destination_fits f (Some scalars.Int) y es) two.1 in
      given_below metric (values es l w.memory) _ _ x (λ vs i. put_below vs _ w _ x moment.range.ready (environment_rule y es q p is x k r.next called.1 l w moment))
  leaf_is_enough (core.call y GetChar es) q p is b c fit x k r l w moment =
      let two = and_parts (exprs_fit u f es) (call_fits f y (signature_of (interface_of u) GetChar) es) fit in
      let called = and_parts (same_scalars (map type_of es) []) (destination_fits f (Some scalars.Int) y es) two.1 in
      given_below metric (values es l w.memory) _ _ x (λ vs i. get_below vs _ w _ x moment.range.ready (environment_rule y es q p is x k r.next called.1 l w moment))
  leaf_is_enough (core.call y (Function g) es) q p is b c fit x k r l w moment = cc
  leaf_is_enough core.break q p is b c fit x k r l w moment = same_answer q.on_break p is _ x l (r.on_break fit l w moment)
  leaf_is_enough core.continue q p is b c fit x k r l w moment = same_answer q.on_continue p is _ x l (r.on_continue fit l w moment)
  leaf_is_enough (core.return None) q p is b c fit x k r l w moment =
      let g = unless_ok (first_of kinds.Returned q.on_return) (Ok q.on_return) p is in
      same_answer q.on_return p g.1 _ x l
      (r.on_return None w l (record { typed = tt; ready = moment.range.ready; after = moment.after }))
  leaf_is_enough (core.return (Some e)) q p is b c fit x k r l w moment =
      let two = and_parts (expr_fits u f e) (is_type f.result_type (type_of e)) fit in
      let type = type_is f.result_type (type_of e) two.1 in
      given_below metric (expressions.value e l w.memory) _ (value p (at l)) x (λ v i.
      below_at _ x
      (sym (replaced_value f kinds.Returned (within old l) (with_result l (Some v)) (return_others l (Some v)) cost ds (number_type (type_of e)) v (expression_term e) q.on_return p is refl
      (λ t h. let s = term_number e l w v t two.0 moment i h in (ap (λ (o : Option Scalar). o >>= if_number) type ∙ ap (λ b. only_if b (Some (number_type (type_of e)))) s.integer, s.number))))
      (r.on_return (Some v) w l (record {
        typed = subst (λ (o : Option Scalar). ResultIsOf w.memory o (Some v)) (sym type) (value_is_of u f e l w v two.0 moment.range i);
        ready = moment.range.ready;
        after = moment.after;
      })))
  leaf_is_enough (core.seq ss) q p is b c fit x k r l w moment = cc
  leaf_is_enough (core.branch e s t) q p is b c fit x k r l w moment = cc
  leaf_is_enough (core.loop body step) q p is b c fit x k r l w moment = cc
  leaf_is_enough (core.switch e labels ss) q p is b c fit x k r l w moment = cc

  -- ---- sequence

  pub first_is_enough : (p m : AssertionTree) (s : CoreStmtTree) (ss : CoreStmts) (q : Posts) → IsEnough p s (with_next q m) → AreEnough m ss q → AreEnough p (stmt_and s ss) q
  first_is_enough p m s ss q one others b c fit x k r =
      let two = and_parts (stmt_fits u f b c s) (stmts_fit u f b c ss) fit in
      one b c two.0 x (record k { next = runs_all ss context k }) (record {
        next = others b c two.1 x k r;
        on_break = r.on_break;
        on_continue = r.on_continue;
        on_return = r.on_return;
      })

  -- ---- conditional

  by_left : (o : Option CondTree) (a b : AssertionTree) (st : State) → ((c : CondTree) → o ≡ Some c → holds c st ≡ true) → AtLeast (value (by_condition o a b) st) (value a st)
  by_left None a b st is = first_at_most (value a st) _
  by_left (Some c) a b st is = subst (λ t. AtLeast (if t then value a st else value b st) (value a st)) (sym (is c refl)) (at_least_itself (value a st))

  by_right : (o : Option CondTree) (a b : AssertionTree) (st : State) → ((c : CondTree) → o ≡ Some c → holds c st ≡ false) → AtLeast (value (by_condition o a b) st) (value b st)
  by_right None a b st is =
      at_least_through (greater (value a st) (greater (value b st) (finite 0))) (greater (value b st) (finite 0)) (value b st)
      (second_at_most (value a st) (greater (value b st) (finite 0))) (first_at_most (value b st) (finite 0))
  by_right (Some c) a b st is = subst (λ t. AtLeast (if t then value a st else value b st) (value b st)) (sym (is c refl)) (at_least_itself (value b st))

  either_left : (o : Option CondTree) (a b : AssertionTree) (st : State) → ((c : CondTree) → o ≡ Some c → holds c st ≡ true) → AtLeast (value (either o a b) st) (value a st)
  either_left o a b st is = by (same_assertion a b)
    where
      by : (t : Bool) → AtLeast (value (if t then a else by_condition o a b) st) (value a st)
      by true = at_least_itself (value a st)
      by false = by_left o a b st is

  either_right : (o : Option CondTree) (a b : AssertionTree) (st : State) → ((c : CondTree) → o ≡ Some c → holds c st ≡ false) → AtLeast (value (either o a b) st) (value b st)
  either_right o a b st is = by (same_assertion a b) refl
    where
      by : (t : Bool) → same_assertion a b ≡ t → AtLeast (value (if t then a else by_condition o a b) st) (value b st)
      by true same = subst (λ (c : AssertionTree). AtLeast (value a st) (value c st)) (assertion_same a b same) (at_least_itself (value a st))
      by false same = by_right o a b st is

  pub branch_is_enough : (e : CoreExprTree) (s t : CoreStmtTree) (a b : AssertionTree) (q : Posts) → IsEnough a s q → IsEnough b t q → IsEnough (either (expression_condition e) a b) (core.branch e s t) q
  branch_is_enough e s t a d q one other b c fit x k r l w moment =
      let three = and_parts (expr_fits u f e && stmt_fits u f b c s) (stmt_fits u f b c t) fit in
      let two = and_parts (expr_fits u f e) (stmt_fits u f b c s) three.0 in
      given_below metric (expressions.value e l w.memory) _ _ x (λ v i. given_below metric (truth w.memory v) _ _ x (λ yes told.
      choice_below metric yes (runs s context k l w) (runs t context k l w) _ x
      (λ is. below_more _ (value a (at l)) _ x (one b c two.1 x k r l w moment)
      (either_left (expression_condition e) a d (at l) (λ n ns. expression_holds u f l w moment.range old cost (seen cost ds (λ x. pos 0)).names e n v true two.0 ns i (told ∙ ap Some is))))
      (λ is. below_more _ (value d (at l)) _ x (other b c three.1 x k r l w moment)
      (either_right (expression_condition e) a d (at l) (λ n ns. expression_holds u f l w moment.range old cost (seen cost ds (λ x. pos 0)).names e n v false two.0 ns i (told ∙ ap Some is))))))

  -- ---- loop

  turns_hold : (i : AssertionTree) (x : ℕ) (turn : Continuation → Continuation) → ((again : Continuation) → Holds i again x → Holds i (turn again) x) → (n : ℕ) → Holds i (repeated n turn) x
  turns_hold i x turn h zero l w moment = zero_below (value i (at l)) x
  turns_hold i x turn h (suc n) l w moment = h (repeated n turn) (turns_hold i x turn h n) l w moment

  pub loop_is_enough : (i j p : AssertionTree) (body step : CoreStmtTree) (q : Posts) → IsEnough p body (body_posts j q) → IsEnough j step (step_posts i q) → Covered i p → IsEnough i (core.loop body step) q
  loop_is_enough i j p body step q one other least b c fit x k r =
      let two = and_parts (stmt_fits u f true true body) (stmt_fits u f true false step) fit in
      turns_hold i x _ (λ again holds l w moment.
      let st : Holds j (runs step context (after_step k again)) x =
      other true false two.1 x (after_step k again) (record { next = holds; on_break = λ _. r.next; on_continue = λ never. cc; on_return = r.on_return }) in
      below_more _ (value p (at l)) _ x
      (one true true two.0 x (after_body k (runs step context (after_step k again))) (record { next = st; on_break = λ _. r.next; on_continue = λ _. st; on_return = r.on_return }) l w moment)
      (least l)) turns

  -- ---- switch

  -- p is enough before the statements from this one on
  abbrev pub IsEnoughFrom : AssertionTree → (part : ℕ) → CoreStmts → Posts → Type 0
  IsEnoughFrom p part ss q =
      (b c : Bool) → stmts_fit u f b c ss ≡ true → (x : ℕ) (k : Continuations) → Ready x b c k q → Holds p (runs_from ss part context k) x

  abbrev pub PartsAreEnough : (before : ℕ → AssertionTree) → CoreStmts → Posts → Type 0
  PartsAreEnough before ss q = (part : ℕ) → IsEnoughFrom (before part) part ss q

  pub all_from_first : (p : AssertionTree) (ss : CoreStmts) (q : Posts) → IsEnoughFrom p 0 ss q → AreEnough p ss q
  all_from_first p no_stmts q h = h
  all_from_first p (stmt_and s ss) q h = h

  pub one_more_part :
      (before : List AssertionTree) (p : AssertionTree) (s : CoreStmtTree) (ss : CoreStmts) (q : Posts)
      → IsEnough p s (with_next q (before_part q.next before 0)) → PartsAreEnough (before_part q.next before) ss q
      → PartsAreEnough (before_part q.next (p ∷ before)) (stmt_and s ss) q
  one_more_part before p s ss q one others zero =
      first_is_enough p (before_part q.next before 0) s ss q one (all_from_first (before_part q.next before 0) ss q (others 0))
  one_more_part before p s ss q one others (suc part) =
      λ b c fit x k r. others part b c (and_parts (stmt_fits u f b c s) (stmts_fit u f b c ss) fit).1 x k r

  -- where the operand has these bits, p is at least what is needed where the switch goes on
  abbrev pub CoversChosen : AssertionTree → (next : AssertionTree) → (before : ℕ → AssertionTree) → CoreExprTree → List CoreLabel → CoreStmts → Type 0
  CoversChosen p next before e labels ss =
      (l : Locals) (w : World) (n : ℕ) → IsMoment u f start l w → expr_fits u f e ≡ true → is_integer (type_of e) ≡ true
      → list_all (label_fits (type_of e) (count_of ss)) labels ≡ true → expressions.value e l w.memory ≡ Some (integer n)
      → AtLeast (value p (at l)) (value (before_chosen next before (chosen_part labels n)) (at l))

  entered_below :
      (before : ℕ → AssertionTree) (ss : CoreStmts) (q : Posts) (c : Bool) → stmts_fit u f true c ss ≡ true
      → PartsAreEnough before ss (switch_posts q) → (x : ℕ) (b : Bool) (k : Continuations) → Ready x b c k q
      → (o : Option ℕ) (l : Locals) (w : World) → IsMoment u f start l w
      → IsBelow (run_weight_by metric (at_part o (λ part. runs_from ss part context (in_switch k)) k.next l w)) (value (before_chosen q.next before o) (at l)) x
  entered_below before ss q c fit parts x b k r None l w moment = r.next l w moment
  entered_below before ss q c fit parts x b k r (Some part) l w moment =
      parts part true c fit x (in_switch k) (record { next = r.next; on_break = λ _. r.next; on_continue = r.on_continue; on_return = r.on_return }) l w moment

  pub switch_is_enough :
      (p : AssertionTree) (before : ℕ → AssertionTree) (e : CoreExprTree) (labels : List CoreLabel) (ss : CoreStmts) (q : Posts)
      → PartsAreEnough before ss (switch_posts q) → CoversChosen p q.next before e labels ss → IsEnough p (core.switch e labels ss) q
  switch_is_enough p before e labels ss q parts least b c fit x k r l w moment =
      let three = and_parts _ (stmts_fit u f true c ss) fit in
      let two = and_parts _ (list_all (label_fits (type_of e) (count_of ss)) labels) three.0 in
      let one = and_parts (expr_fits u f e) (is_promoted (type_of e)) two.0 in
      given_below metric (expressions.value e l w.memory) _ _ x (λ v i. given_below metric (as_integer v) _ _ x (λ n j.
      below_more _ (value (before_chosen q.next before (chosen_part labels n)) (at l)) _ x
      (entered_below before ss q c three.1 parts x b k r (chosen_part labels n) l w moment)
      (least l w n moment one.0 (promoted_integer (type_of e) one.1) two.1 (i ∙ ap Some (integer_is v n j)))))
    where
      integer_is : (v : Value) (n : ℕ) → as_integer v ≡ Some n → v ≡ integer n
      integer_is (integer m) n h = ap integer (same_Some m n h)
      integer_is (address p) n h = cc

      promoted_integer : (s : Scalar) → is_promoted s ≡ true → is_integer s ≡ true
      promoted_integer scalars.Char h = refl
      promoted_integer scalars.Int h = refl
      promoted_integer scalars.Unsigned h = refl
      promoted_integer scalars.Pointer h = cc

  pub labels_cover :
      (next : AssertionTree) (before : ℕ → AssertionTree) (e : CoreExprTree) (labels : List CoreLabel) (ss : CoreStmts)
      → CoversChosen (switched next before e labels) next before e labels ss
  labels_cover next before e labels ss l w n moment fit integral fits i =
      enough_at_chosen (at l) next before (type_of e) (expression_term e) (count_of ss) n labels integral
      (value_is_of u f e l w (integer n) fit moment.range i).typed
      (λ t is. (term_number e l w (integer n) t fit moment i is).number) fits

  -- ---- consequence

  pub consequence_is_enough : (r p : AssertionTree) (s : CoreStmtTree) (q : Posts) → IsEnough p s q → Covered r p → IsEnough r s q
  consequence_is_enough r p s q one least b c fit x k ready l w moment = below_more _ (value p (at l)) _ x (one b c fit x k ready l w moment) (least l)

  module _ (order : IsInOrder ds) where
    certificate_covers : (w : CertTree) (p q : AssertionTree) → verdict [] ds p q w ≡ None → Covered p q
    certificate_covers w p q fine l = shown cost ds closed order p q w fine (number_at f (within old l)) (in_range cost ds f (within old l))

  -- ---- calls

  module _ (specs : ℕ → Option SpecTree) (keep : AllKeepSpecs resource cost u ds specs calls) where
    -- what a call at this moment has
    pub record CallFits (g : CoreFunctionTree) (site : CallSite) (l : Locals) (w : World) (vs : List Value) : Type 0 where
      pub types : map type_of site.arguments ≡ parameter_types g
      pub destination : destination_fits f g.result_type site.destination site.arguments ≡ true
      pub may : MayStart (interface_of u) site.function vs w

    pub call_fits_at :
        (g : CoreFunctionTree) (site : CallSite) (b c : Bool) → slice_get u.functions site.function ≡ Some g → stmt_fits u f b c (call_at site) ≡ true
        → (l : Locals) (w : World) → IsMoment u f start l w → (vs : List Value) → values site.arguments l w.memory ≡ Some vs → CallFits g site l w vs
    call_fits_at g site b c is fit l w moment vs vis =
        let two = and_parts (exprs_fit u f site.arguments) (call_fits f site.destination (slice_get (interface_of u).functions site.function) site.arguments) fit in
        let known : slice_get (interface_of u).functions site.function ≡ Some (signature g) =
        slice_get-map signature u.functions site.function ∙ ap (option_map signature) is in
        let called : call_fits f site.destination (Some (signature g)) site.arguments ≡ true =
        ap (λ (o : Option Signature). call_fits f site.destination o site.arguments) (sym known) ∙ two.1 in
        let three = and_parts (same_scalars (map type_of site.arguments) (parameter_types g)) (destination_fits f g.result_type site.destination site.arguments) called in
        let types = scalars_same (map type_of site.arguments) (parameter_types g) three.0 in
        let are = subst (λ (ts : List Scalar). AreOf w.memory ts vs) types (arguments_are u f l w moment.range site.arguments vs two.0 vis) in
        record {
          types = types;
          destination = three.1;
          may = record {
            takes = subst (λ (o : Option Signature). Takes w.memory o vs) (sym known) are;
            ready = moment.range.ready;
          };
        }

    -- the terms of the arguments have the arguments' numbers, before the call and where its result has landed
    terms_now :
        (g : CoreFunctionTree) (site : CallSite) (b c : Bool) (gf : FunctionFits u g) (fit : stmt_fits u f b c (call_at site) ≡ true) (l : Locals) (w : World) → IsMoment u f start l w
        → (vs : List Value) → values site.arguments l w.memory ≡ Some vs → (types : map type_of site.arguments ≡ parameter_types g)
        → TermsAre g gf.parameters site.arguments vs types (at l)
    terms_now g site b c gf fit l w moment vs vis types i t is =
        let two = and_parts (exprs_fit u f site.arguments) (call_fits f site.destination (slice_get (interface_of u).functions site.function) site.arguments) fit in
        let a = followed (slice_get site.arguments i) expression_term t is in
        let d = argument_at site.arguments vs l w.memory i a.value vis a.first in
        (a.value, d.value, a.first, d.is, term_number a.value l w d.value t (argument_fits u f site.arguments i a.value two.0 a.first) moment d.from a.then)

    away : (x : Option ℕ) (result_type : Option Scalar) (es : List CoreExprTree) (i : ℕ) (e : CoreExprTree) → destination_fits f result_type x es ≡ true → slice_get es i ≡ Some e → IsApart x e
    away None result_type es i e fit is = tt
    away (Some k) result_type es i e fit is =
        apart_at (Some k) k es i e (is_false (any_mentions k es) (and_parts (taken_fits f result_type k) (not (any_mentions k es)) fit).1) is
      where
        is_false : (b : Bool) → not b ≡ true → b ≡ false
        is_false true h = cc
        is_false false h = refl

    terms_landed :
        (g : CoreFunctionTree) (site : CallSite) (b c : Bool) (gf : FunctionFits u g) (fit : stmt_fits u f b c (call_at site) ≡ true) (l : Locals) (w : World)
        → (vs : List Value) → values site.arguments l w.memory ≡ Some vs → (types : map type_of site.arguments ≡ parameter_types g)
        → destination_fits f g.result_type site.destination site.arguments ≡ true → (v : Value) (z : World) → IsMoment u f start (landed site.destination l v) z
        → TermsAre g gf.parameters site.arguments vs types (at (landed site.destination l v))
    terms_landed g site b c gf fit l w vs vis types destination v z later i t is =
        let two = and_parts (exprs_fit u f site.arguments) (call_fits f site.destination (slice_get (interface_of u).functions site.function) site.arguments) fit in
        let a = followed (slice_get site.arguments i) expression_term t is in
        let d = argument_at site.arguments vs l w.memory i a.value vis a.first in
        let n = has_term a.value t a.then in
        let same = value_apart site.destination l v w.memory z.memory a.value n.0 n.1 (away site.destination g.result_type site.arguments i a.value destination a.first) in
        (a.value, d.value, a.first, d.is, term_number a.value (landed site.destination l v) z d.value t (argument_fits u f site.arguments i a.value two.0 a.first) later (same ∙ d.from) a.then)
      where
        has_term : (e : CoreExprTree) (t : TermTree) → expression_term e ≡ Some t → (c : CoreTermTree) × (term_of e ≡ Some c)
        has_term e t h = by (term_of e) refl h
          where
            by : (o : Option CoreTermTree) → term_of e ≡ o → option_map term_tree o ≡ Some t → (c : CoreTermTree) × (term_of e ≡ Some c)
            by None is h = cc
            by (Some c) is h = (c, is)

    -- the destination has the number of the result
    result_landed :
        (g : CoreFunctionTree) (gf : FunctionFits u g) (es : List CoreExprTree) (vs : List Value) (types : map type_of es ≡ parameter_types g)
        (x : Option ℕ) (l : Locals) (v : Value) (result : Option Value) (are : TermsAre g gf.parameters es vs types (at (landed x l v)))
        → destination_fits f g.result_type x es ≡ true → IsResult x result v
        → ResultsAre cost ds g gf.parameters es vs types (number_at f (within old (landed x l v))) are x result
    result_landed g gf es vs types None l v result are fit is y t kind own term = cc
    result_landed g gf es vs types (Some k) l v result are fit is y t kind own term =
        let first = and_parts (taken_fits f g.result_type k) (not (any_mentions k es)) fit in
        sym (ap (λ (t : TermTree). term_value t (at (landed (Some k) l v))) (same_Some _ t term))
        ∙ (λ i. chosen (is_number_type (own_same g.result_type first.0 i) y.number) (landed_value i) y.number)
        ∙ ap (λ (j : VarKind). number_at g (at_exit (entered g vs) result) (record { kind = j; number = y.number })) (sym kind)
      where
        chosen : Bool → Option Value → NumberType → ℤ
        chosen b o n = if b then number_or_zero o n else pos 0

        landed_value : (landed (Some k) l v).temporaries k ≡ result
        landed_value = ap (λ b. if b then Some v else l.temporaries k) (equal_self k) ∙ sym is

        own_same : (o : Option Scalar) → taken_fits f o k ≡ true → (temporary_type f k >>= if_number) ≡ (o >>= if_number)
        own_same None h = cc
        own_same (Some s) h = ap (λ (o : Option Scalar). o >>= if_number) (type_is (temporary_type f k) s h)

    -- what is there behind a call with a frame is enough for what the call must leave
    framed_behind :
        (r : Resource) (g : ℕ) (b a : AssertionTree) (m : Locals) (n y x : ℕ) (v : Extended) → value a (at m) ≡ finite y → IsBelow n v x
        → AtLeast (value (with_frame_behind r g b a) (at m)) v → IsBelow n (value b (at m)) (given_back r cost g + (y + x))
    framed_behind Stack g b a m n y x v is h k =
        framed n (cost g) y x (value b (at m)) v h
        (subst (λ (e : Extended). AtLeast (plus (finite (cost g)) (plus (value b (at m)) (plus e (finite 0)))) v) is k)
    framed_behind Calls g b a m n y x v is h k =
        framed_alone n y x (value b (at m)) v h
        (subst (λ (e : Extended). AtLeast (plus (value b (at m)) (plus e (finite 0))) v) is k)

    call_is_enough :
        (site : CallSite) (g : CoreFunctionTree) (spec : SpecTree) (a : AssertionTree) (q : Posts)
        → slice_get u.functions site.function ≡ Some g → specs site.function ≡ Some spec
        → first_of_destination site.destination a ≡ None → first_without (pre_images g site.arguments) spec.pre ≡ None
        → first_without (post_images g site.destination site.arguments) spec.post ≡ None
        → Covered (with_frame_behind resource site.function (at_call (post_images g site.destination site.arguments) spec.post) a) q.next
        → IsEnough (with_frame site.function (at_call (pre_images g site.arguments) spec.pre) a) (call_at site) q
    call_is_enough site g spec a q is known framed_away pre_none post_none least b c fit x k r l w moment =
        let n : ℕ = site.function in
        let gf = function_at_fits u fits n g is in
        given_below metric (values site.arguments l w.memory) _ (value (with_frame n (at_call (pre_images g site.arguments) spec.pre) a) (at l)) x (λ vs vis.
        let called = call_fits_at g site b c is fit l w moment vs vis in
        with_frame_below _ (cost n) x (value (at_call (pre_images g site.arguments) spec.pre) (at l)) (value a (at l)) (λ y ais.
        below_at _ (cost n + (y + x))
        (sym (pre_at_call cost ds g gf.parameters site.arguments vs called.types (number_at f (within old l)) (terms_now g site b c gf fit l w moment vs vis called.types) spec.pre pre_none))
        (keep n g spec is known (y + x) vs (take_result site.destination k.next l) w called.may (λ result z ret.
        result_below metric (at_valuation cost ds g (at_exit (entered g vs) result) spec.post) (given_back resource cost n + (y + x)) u f start g.result_type site.destination site.arguments called.destination k.next l w moment result z ret (λ v some later.
        let m : Locals = landed site.destination l v in
        let are = terms_landed g site b c gf fit l w vs vis called.types called.destination v z later in
        below_at _ (given_back resource cost n + (y + x))
        (post_at_call cost ds g gf.parameters site.arguments vs called.types (number_at f (within old m)) are site.destination result (result_landed g gf site.arguments vs called.types site.destination l v result are called.destination some) spec.post post_none)
        (framed_behind resource n (at_call (post_images g site.destination site.arguments) spec.post) a m _ y x (value q.next (at m))
        (sym (destination_stays site.destination l v a framed_away) ∙ ais) (r.next m z later) (least m)))))))

    balanced_is_enough :
        (site : CallSite) (g : CoreFunctionTree) (spec : SpecTree) (q : Posts) → given_back resource cost site.function ≡ cost site.function
        → slice_get u.functions site.function ≡ Some g → specs site.function ≡ Some spec → is_balanced spec ≡ true
        → first_of_destination site.destination q.next ≡ None → first_without (pre_images g site.arguments) spec.pre ≡ None
        → IsEnough (around site.function q.next (at_call (pre_images g site.arguments) spec.pre)) (call_at site) q
    balanced_is_enough site g spec q whole is known even next_away pre_none b c fit x k r l w moment =
        let n : ℕ = site.function in
        let gf = function_at_fits u fits n g is in
        given_below metric (values site.arguments l w.memory) _ (value (around n q.next (at_call (pre_images g site.arguments) spec.pre)) (at l)) x (λ vs vis.
        let called = call_fits_at g site b c is fit l w moment vs vis in
        let before = pre_at_call cost ds g gf.parameters site.arguments vs called.types (number_at f (within old l)) (terms_now g site b c gf fit l w moment vs vis called.types) spec.pre pre_none in
        around_below _ (cost n) x (value q.next (at l)) (value (at_call (pre_images g site.arguments) spec.pre) (at l)) (λ y raise.
        below_at _ (cost n + (y + x)) (sym before)
        (keep n g spec is known (y + x) vs (take_result site.destination k.next l) w called.may (λ result z ret.
        subst (λ (c : ℕ). IsBelow (run_weight_by metric (take_result site.destination k.next l result z)) (at_valuation cost ds g (at_exit (entered g vs) result) spec.post) (c + (y + x))) (sym whole)
        (below_at _ (cost n + (y + x)) (before ∙ sym (balanced_at_call cost ds g site.arguments vs spec even pre_none result))
        (raise _
        (result_below metric (value q.next (at l)) x u f start g.result_type site.destination site.arguments called.destination k.next l w moment result z ret (λ v some later.
        below_at _ x (sym (destination_stays site.destination l v q.next next_away)) (r.next (landed site.destination l v) z later)))))))))

    -- ---- all rules

    module _ (order : IsInOrder ds) (functions : List CoreFunctionTree) (same_functions : functions ≡ u.functions) where
      abbrev scope : Scope
      scope = record { resource = resource; function = f; functions = functions; specs = specs; defines = ds }

      at_statement : (p : AssertionTree) (s t : CoreStmtTree) (q : Posts) → s ≡ t → IsEnough p t q → IsEnough p s q
      at_statement p s t q e h = subst (λ (s : CoreStmtTree). IsEnough p s q) (sym e) h

      at_answer : (p r : AssertionTree) (s : CoreStmtTree) (q : Posts) → p ≡ r → IsEnough p s q → IsEnough r s q
      at_answer p r s q e h = subst (λ (p : AssertionTree). IsEnough p s q) e h

      in_unit : (g : CoreFunctionTree) (n : ℕ) → slice_get functions n ≡ Some g → slice_get u.functions n ≡ Some g
      in_unit g n is = ap (λ (l : List CoreFunctionTree). slice_get l n) (sym same_functions) ∙ is

      call_sound : (a : AssertionTree) (w : CertTree) (s : CoreStmtTree) (q : Posts) (p : AssertionTree) → Gives (pre (call a w) scope s q) p → IsEnough p s q
      call_sound a w s q p is =
          let i = call_ok s _ p is in
          let site : CallSite = i.0 in
          let j = spec_ok site.function (slice_get functions site.function) (specs site.function) _ p i.1.1 in
          let g : CoreFunctionTree = j.known.function in
          let m1 = unless_ok _ _ p j.gives in
          let m2 = unless_ok _ _ p m1.1 in
          let m3 = unless_of_ok (Some site.function) _ _ p m2.1 in
          let m4 = unless_of_ok (Some site.function) _ _ p m3.1 in
          let m5 = unless_of_ok (Some site.function) _ _ p m4.1 in
          let v = by_verdict_ok (verdict [] ds (with_frame_behind resource site.function (at_call (post_images g site.destination site.arguments) j.known.spec.post) a) q.next w) _ p m5.1 in
          at_statement p s (call_at site) q i.1.0 (at_answer _ p (call_at site) q v.1
          (call_is_enough site g j.known.spec a q (in_unit g site.function j.function_is) j.spec_is m2.0 m3.0 m5.0 (certificate_covers order w _ q.next v.0)))

      balanced_sound : (s : CoreStmtTree) (q : Posts) (p : AssertionTree) → Gives (pre balanced_call scope s q) p → IsEnough p s q
      balanced_sound s q p is =
          let back = given_back_ok resource (of_call s (λ site. known_callee scope site (balanced_rule q site))) p is in
          let i = call_ok s _ p back.1 in
          let site : CallSite = i.0 in
          let j = spec_ok site.function (slice_get functions site.function) (specs site.function) _ p i.1.1 in
          let g : CoreFunctionTree = j.known.function in
          let m1 = require_ok (is_balanced j.known.spec) _ _ p j.gives in
          let m2 = unless_ok _ _ p m1.1 in
          let m3 = unless_of_ok (Some site.function) _ _ p m2.1 in
          at_statement p s (call_at site) q i.1.0 (at_answer _ p (call_at site) q (ok_same _ p m3.1)
          (balanced_is_enough site g j.known.spec q (ap (λ (r : Resource). given_back r cost site.function) back.0) (in_unit g site.function j.function_is) j.spec_is m1.0 m2.0 m3.0))

      -- what is needed before the parts of a switch, and enough there
      record IsParts (ss : CoreStmts) (q : Posts) (rule : List AssertionTree → Answer) (p : AssertionTree) : Type 0 where
        before : List AssertionTree
        enough : PartsAreEnough (before_part q.next before) ss q
        gives : Gives (rule before) p

      mutual
        pub sound : (d : DerivationTree) (s : CoreStmtTree) (q : Posts) (p : AssertionTree) → Gives (pre d scope s q) p → IsEnough p s q
        sound leaf s q p is = leaf_is_enough s q p is
        sound (sequence ds') s q p is =
            let i = sequence_ok s _ p is in
            let j = require_ok (count_derivations ds' == count_stmts i.0) _ _ p i.1.1 in
            at_statement p s (core.seq i.0) q i.1.0 (all_sound ds' 0 i.0 q p j.1)
        sound (conditional d e) s q p is =
            let i = branch_ok s _ p is in
            let j = bind_ok (part 0 (pre d scope i.first q)) _ p i.gives in
            let k = bind_ok (part 1 (pre e scope i.second q)) _ p j.1.1 in
            at_statement p s (core.branch i.condition i.first i.second) q i.is (at_answer _ p (core.branch i.condition i.first i.second) q (ok_same _ p k.1.1)
            (branch_is_enough i.condition i.first i.second j.0 k.0 q (sound d i.first q j.0 (part_ok 0 _ j.0 j.1.0)) (sound e i.second q k.0 (part_ok 1 _ k.0 k.1.0))))
        sound (loop i w d e) s q p is =
            let a = loop_ok s _ p is in
            let m = unless_ok _ _ p a.gives in
            let j = bind_ok (part 1 (pre e scope a.step (step_posts i q))) _ p m.1 in
            let k = bind_ok (part 0 (pre d scope a.body (body_posts j.0 q))) _ p j.1.1 in
            let v = by_verdict_ok (verdict [] ds i k.0 w) i p k.1.1 in
            at_statement p s (core.loop a.body a.step) q a.is (at_answer i p (core.loop a.body a.step) q v.1
            (loop_is_enough i j.0 k.0 a.body a.step q
            (sound d a.body (body_posts j.0 q) k.0 (part_ok 0 _ k.0 k.1.0))
            (sound e a.step (step_posts i q) j.0 (part_ok 1 _ j.0 j.1.0))
            (certificate_covers order w i k.0 v.0)))
        sound (switch ds') s q p is =
            let i = switch_ok s _ p is in
            let j = require_ok (count_derivations ds' == count_stmts i.parts) _ _ p i.gives in
            let parts = parts_sound ds' 0 i.parts (switch_posts q) _ p j.1 in
            let before : ℕ → AssertionTree = before_part q.next parts.before in
            at_statement p s (core.switch i.operand i.labels i.parts) q i.is (at_answer _ p (core.switch i.operand i.labels i.parts) q (ok_same _ p parts.gives)
            (switch_is_enough (switched q.next before i.operand i.labels) before i.operand i.labels i.parts q parts.enough (labels_cover q.next before i.operand i.labels i.parts)))
        sound (call a w) s q p is = call_sound a w s q p is
        sound balanced_call s q p is = balanced_sound s q p is
        sound (consequence r w d) s q p is =
            let i = require_ok (not (is_consequence d)) _ _ p is in
            let m = unless_ok _ _ p i.1 in
            let j = bind_ok (pre d scope s q) _ p m.1 in
            let v = by_verdict_ok (verdict [] ds r j.0 w) r p j.1.1 in
            at_answer r p s q v.1 (consequence_is_enough r j.0 s q (sound d s q j.0 j.1.0) (certificate_covers order w r j.0 v.0))

        pub all_sound : (ds' : DerivationTrees) (i : ℕ) (ss : CoreStmts) (q : Posts) (p : AssertionTree) → Gives (sequence_pre ds' i scope ss q) p → AreEnough p ss q
        all_sound no_derivations i no_stmts q p is = λ b c fit x k r l w moment. same_answer q.next p is _ x l (r.next l w moment)
        all_sound no_derivations i (stmt_and s ss) q p is = cc
        all_sound (derivation_and d ds') i no_stmts q p is = cc
        all_sound (derivation_and d ds') i (stmt_and s ss) q p is =
            let j = bind_ok (sequence_pre ds' (suc i) scope ss q) _ p is in
            first_is_enough p j.0 s ss q (sound d s (with_next q j.0) p (part_ok i _ p j.1.1)) (all_sound ds' (suc i) ss q j.0 j.1.0)

        parts_sound : (ds' : DerivationTrees) (i : ℕ) (ss : CoreStmts) (q : Posts) (rule : List AssertionTree → Answer) (p : AssertionTree) → Gives (parts_pre ds' i scope ss q rule) p → IsParts ss q rule p
        parts_sound no_derivations i no_stmts q rule p is = record { before = []; enough = λ part b c fit x k r. r.next; gives = is }
        parts_sound no_derivations i (stmt_and s ss) q rule p is = cc
        parts_sound (derivation_and d ds') i no_stmts q rule p is = cc
        parts_sound (derivation_and d ds') i (stmt_and s ss) q rule p is =
            let others = parts_sound ds' (suc i) ss q (λ before. bind (part i (pre d scope s (with_next q (before_part q.next before 0)))) (λ a. rule (a ∷ before))) p is in
            let j = bind_ok (part i (pre d scope s (with_next q (before_part q.next others.before 0)))) _ p others.gives in
            record {
              before = j.0 ∷ others.before;
              enough =
                  one_more_part others.before j.0 s ss q
                  (sound d s (with_next q (before_part q.next others.before 0)) j.0 (part_ok i _ j.0 j.1.0)) others.enough;
              gives = j.1.1;
            }
