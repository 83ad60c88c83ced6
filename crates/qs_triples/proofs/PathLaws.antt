-- Path entries are sound: a call gives back what it takes, so what the precondition pays for stays free.
use Rattle.std.proofs.Common.{◌≡◌, ℕ, zero, suc, ◌+◌, ◌≤◌, ◌==◌, ◌||◌, Bool, true, false, if◌then◌else◌, List, [], ◌∷◌, ◌++◌, Option, Some, None, option_map, refl, sym, ap, ◌∙◌, subst, arith}
use Rattle.std.specs.Prelude.{ℤ, Ok}
use Rattle.std.specs.List.{slice_get, find, list_any}
use Rattle.std.proofs.lemmas.Option.{slice_get-map}
use Rattle.std.proofs.lemmas.Bool.Decides.{nat_tests}
use Rattle.std.proofs.lemmas.List.Folds.{list_any-append}
use Rattle.std.proofs.lemmas.Bool.{and_parts}
use Rattle.qs_memory.specs.Values.{Value}
use Rattle.qs_memory.specs.Memory.{Memory}
use Rattle.qs_memory.specs.declared.scalar.Scalar.{Scalar}
use Rattle.qs_events.specs.Runs.{has_ended, ending_of, Left}
use Rattle.qs_events.specs.Weights.{Costs, of_stack, run_weight}
use Rattle.qs_calls.specs.World.{World, RootRun, Return, leaves, Environment}
use Rattle.qs_calls.specs.Calls.{CallsOf}
use Rattle.qs_calls.specs.Relations.{Relation, Keeps}
use Rattle.qs_calls.specs.Starts.{Signature, result_type_of, MayStart, IsReturn}
use Rattle.qs_calls.specs.declared.callee.Callee.TheVariants.{Function, PutChar, GetChar}
use Rattle.qs_assert.specs.declared.define.Define.{Define}
use Rattle.qs_assert.specs.declared.variable.VarKind.TheVariants as kinds
use Rattle.qs_assert.specs.declared.variable.Var.{Var}
use Rattle.qs_assert.specs.Substitution.{same_kind, same_variable, in_assertion}
use Rattle.qs_assert.specs.Trees.{TermTree, AssertionTree}
use Rattle.qs_assert.specs.Values.{State, Extended, finite, plus, term_value, value}
use Rattle.qs_assert.specs.Variables.{variables}
use Rattle.qs_assert.proofs.Agreement.{value_after}
use Rattle.qs_assert.proofs.SamenessLaws.{assertion_self}
use Rattle.qs_entail.specs.Meaning.{AtLeast}
use Rattle.qs_entail.proofs.Amounts.{at_least_itself}
use Rattle.qs_core.specs.Trees as core
use Rattle.qs_core.specs.Trees.{CoreExprTree, CoreStmtTree, CoreStmts, no_stmts, stmt_and, CoreFunctionTree, CoreUnitTree}
use Rattle.qs_core.specs.CallGraph.{callees, all_callees}
use Rattle.qs_core.specs.Expressions.{Locals, values, type_of}
use Rattle.qs_core.specs.Statements.{take_result, chosen_part}
use Rattle.qs_core.specs.Interfaces.{signature, interface_of}
use Rattle.qs_core.specs.Units.{calls_within}
use Rattle.qs_core.specs.Fits.{exprs_fit, call_fits, stmt_fits, stmts_fit, unit_fits}
use Rattle.qs_core.specs.Ranges.{result_type_at}
use Rattle.qs_core.proofs.RangeLaws.{calls_in_range}
use Rattle.qs_core.proofs.RelationLaws.{calls_alone}
use Rattle.qs_triples.specs.declared.resource.Resource.TheVariants.{Stack}
use Rattle.qs_triples.specs.Derivations.{EntryTree, ProofsTree, entry_of, spec_of}
use Rattle.qs_triples.specs.Valuations.{number_at, within, at_entry}
use Rattle.qs_triples.specs.ExpressionTerms.{var, expression_term, expression_condition}
use Rattle.qs_triples.specs.Mentions.{first_of, first_of_destination}
use Rattle.qs_triples.specs.Rules.{unless, replaced, target_kind, leaf_rule, by_condition, switch_posts, before_chosen, CallSite}
use Rattle.qs_triples.specs.Entries.{function_posts, AreClosed}
use Rattle.qs_triples.proofs.Answers.{Gives, call_at}
use Rattle.qs_triples.proofs.Bounds.{zero_below, below_at, given_below, paid, below_finite, finite_below}
use Rattle.qs_triples.proofs.Names.{closed_value, seen}
use Rattle.qs_triples.proofs.SumLaws.{call_alone_sums, followed_weighs}
use Rattle.qs_triples.proofs.MomentLaws.{landed, result_below}
use Rattle.qs_triples.proofs.RuleLaws.{at_valuation, AllKeepSpecs, IsEnough, AreEnough, IsEnoughFrom, first_is_enough, leaf_is_enough, branch_is_enough, loop_is_enough, switch_is_enough, consequence_is_enough, call_fits_at}

-- ---- assertions without variables

nothing_found : (a : AssertionTree) (p : Var → Bool) → variables a ≡ [] → find p (variables a) ≡ None
nothing_found a p none = ap (find p) none

no_destination : (x : Option ℕ) (a : AssertionTree) → variables a ≡ [] → first_of_destination x a ≡ None
no_destination None a none = refl
no_destination (Some k) a none = nothing_found a (λ x. same_kind x.kind (kinds.Temporary k)) none

-- ---- what the first run of a call leaves

abbrev LeavesSound : CoreUnitTree → (result_type : Option Scalar) → (start : Memory) → Relation
LeavesSound u result_type start o p =
    (left : Left Value Memory) → ending_of o ≡ has_ended left
    → IsReturn (interface_of u) result_type start left.result (record { memory = left.memory; input = left.input })

leaves_keep : (u : CoreUnitTree) (result_type : Option Scalar) (start : Memory) → Keeps (LeavesSound u result_type start)
leaves_keep u result_type start = record { emit = λ event o p h. h; undefined = λ left is. cc }

call_leaves_sound :
    (u : CoreUnitTree) → unit_fits u ≡ true → (turns depth g : ℕ) (vs : List Value) (w : World) → MayStart (interface_of u) g vs w
    → (left : Left Value Memory) → ending_of (calls_within u turns depth g vs leaves w) ≡ has_ended left
    → IsReturn (interface_of u) (result_type_at u g) w.memory left.result (record { memory = left.memory; input = left.input })
call_leaves_sound u fits turns depth g vs w may left is =
    calls_in_range (LeavesSound u (result_type_at u g) w.memory) (leaves_keep u (result_type_at u g) w.memory) (λ left is. cc) u fits turns depth
    g vs leaves leaves w may
    (λ result v r other ended.
    subst (λ (x : Left Value Memory). IsReturn (interface_of u) (result_type_at u g) w.memory x.result (record { memory = x.memory; input = x.input })) (ended_same _ other ended) r)
    left is
  where
    ended_same : (x y : Left Value Memory) → has_ended x ≡ has_ended y → x ≡ y
    ended_same x y h = cc

-- ---- bodies

module _ (u : CoreUnitTree) (fits : unit_fits u ≡ true) (cost : Costs) (proofs : ProofsTree) (closed : AreClosed proofs.defines) (known : (g : ℕ) (f : CoreFunctionTree) → slice_get u.functions g ≡ Some f → (e : EntryTree) × (entry_of proofs g ≡ Some e)) (turns depth : ℕ) (keep : AllKeepSpecs Stack cost u proofs.defines (spec_of proofs) (calls_within u turns depth)) (f : CoreFunctionTree) (start : Memory) (old : Environment) (need : AssertionTree) (none : variables need ≡ []) where
  abbrev ds : List Define
  ds = proofs.defines

  abbrev calls : CallsOf
  calls = calls_within u turns depth

  abbrev at : Locals → State
  at l = seen cost ds (number_at f (within old l))

  abbrev Enough : AssertionTree → CoreStmtTree → Type 0
  Enough p s = IsEnough u fits Stack cost ds closed f start old turns calls p s (function_posts need)

  same_anywhere : (g h : Var → ℤ) → value need (seen cost ds g) ≡ value need (seen cost ds h)
  same_anywhere g h = closed_value need (seen cost ds g) g h none

  -- what a call of g needs
  abbrev pub Pays : ℕ → Type 0
  Pays g =
      (fg : CoreFunctionTree) (e : EntryTree) (arguments : List Value) → slice_get u.functions g ≡ Some fg → entry_of proofs g ≡ Some e
      → AtLeast (at_valuation cost ds fg (at_entry fg arguments) need) (plus (finite (cost g)) (at_valuation cost ds fg (at_entry fg arguments) e.spec.pre))

  -- what is paid for in a statement
  abbrev pub PaysIn : List ℕ → Type 0
  PaysIn gs = (g : ℕ) → list_any (λ h. h == g) gs ≡ true → Pays g

  -- a leaf changes nothing
  leaf_stays : (s : CoreStmtTree) (p : AssertionTree) → Gives (leaf_rule s (function_posts need)) p → ((l : Locals) → value need (at l) ≡ value p (at l)) → Enough need s
  leaf_stays s p gives same =
      consequence_is_enough u fits Stack cost ds closed f start old turns calls need p s (function_posts need)
      (leaf_is_enough u fits Stack cost ds closed f start old turns calls s (function_posts need) p gives)
      (λ l. subst (λ (v : Extended). AtLeast (value need (at l)) v) (same l) (at_least_itself (value need (at l))))

  unless_none : (o : Option Var) → o ≡ None → Gives (unless o (Ok need)) need
  unless_none o h = ap (λ (o : Option Var). unless o (Ok need)) h

  assign_stays : (x : Var) (o : Option TermTree) → (p : AssertionTree) × (Gives (replaced x o need) p × ((l : Locals) → value need (at l) ≡ value p (at l)))
  assign_stays x (Some t) = (
    in_assertion x t need,
    (
      refl,
      λ l.
          sym (value_after x t need (in_assertion x t need) refl (at l)
          ∙ closed_value need (at l) (λ y. if same_variable y x then term_value t (at l) else number_at f (within old l) y) (number_at f (within old l)) none),
    ),
  )
  assign_stays x None = (need, (unless_none (first_of x.kind need) (nothing_found need (λ y. same_kind y.kind x.kind) none), λ l. refl))

  callee_known : (g : ℕ) (x : Option ℕ) (es : List CoreExprTree) → call_fits f x (slice_get (interface_of u).functions g) es ≡ true → (fg : CoreFunctionTree) × (slice_get u.functions g ≡ Some fg)
  callee_known g x es fit = by (slice_get u.functions g) refl
    where
      by : (o : Option CoreFunctionTree) → slice_get u.functions g ≡ o → (fg : CoreFunctionTree) × (slice_get u.functions g ≡ Some fg)
      by (Some fg) is = (fg, is)
      by None is =
          let no : slice_get (interface_of u).functions g ≡ None = slice_get-map signature u.functions g ∙ ap (option_map signature) is in
          let never = ap (λ (o : Option Signature). call_fits f x o es) no in
          cc

  call_stays : (site : CallSite) → Pays site.function → Enough need (call_at site)
  call_stays site pays b c fit x k r l w moment =
      let g : ℕ = site.function in
      let two = and_parts (exprs_fit u f site.arguments) (call_fits f site.destination (slice_get (interface_of u).functions g) site.arguments) fit in
      let fg = callee_known g site.destination site.arguments two.1 in
      let e = known g fg.0 fg.1 in
      let has_spec : spec_of proofs g ≡ Some e.0.spec = ap (option_map (λ (e : EntryTree). e.spec)) e.1 in
      let type : result_type_at u g ≡ fg.0.result_type =
      ap result_type_of (slice_get-map signature u.functions g ∙ ap (option_map signature) fg.1) in
      given_below (of_stack cost) (values site.arguments l w.memory) _ (value need (at l)) x (λ vs vis.
      let called = call_fits_at u fits Stack cost ds closed f start old turns calls (spec_of proofs) keep fg.0 site b c fg.1 fit l w moment vs vis in
      below_finite _ x (value need (at l)) (λ m is.
      let after : Return = take_result site.destination k.next l in
      let alone : RootRun = calls g vs leaves w in
      let next : Left Value Memory → RootRun = λ left. after left.result (record { memory = left.memory; input = left.input }) in
      let weighs = followed_weighs cost alone next (m + x) (call_alone_sums cost u turns depth g vs w) (λ left ended.
      finite_below (run_weight cost (next left)) m x (value need (at l)) is
      (result_below (of_stack cost) (value need (at l)) x u f start fg.0.result_type site.destination site.arguments called.destination k.next l w moment left.result (record { memory = left.memory; input = left.input })
      (subst (λ (t : Option Scalar). IsReturn (interface_of u) t w.memory left.result (record { memory = left.memory; input = left.input })) type (call_leaves_sound u fits turns depth g vs w called.may left ended))
      (λ v some later. below_at _ x (same_anywhere (number_at f (within old (landed site.destination l v))) (number_at f (within old l))) (r.next (landed site.destination l v) _ later)))) in
      let whole = ap (run_weight cost) (calls_alone u turns depth g vs after w) in
      let own = keep g fg.0 e.0.spec fg.1 has_spec 0 vs leaves w called.may (λ result z ret. zero_below _ (cost g + 0)) in
      let first : run_weight cost alone ≤ m =
      paid (run_weight cost alone) m (cost g) (at_valuation cost ds fg.0 (at_entry fg.0 vs) e.0.spec.pre) (at_valuation cost ds fg.0 (at_entry fg.0 vs) need)
      (same_anywhere (number_at fg.0 (at_entry fg.0 vs)) (number_at f (within old l)) ∙ is) (pays fg.0 e.0 vs fg.1 e.1) own in
      omega (arith, weighs, whole, first)))

  in_first : (xs ys : List ℕ) → PaysIn (xs ++ ys) → PaysIn xs
  in_first xs ys h g is = h g (list_any-append (λ h. h == g) xs ys ∙ left (list_any (λ h. h == g) xs) (list_any (λ h. h == g) ys) is)
    where
      left : (a b : Bool) → a ≡ true → (a || b) ≡ true
      left true b h = refl
      left false b h = cc

  in_second : (xs ys : List ℕ) → PaysIn (xs ++ ys) → PaysIn ys
  in_second xs ys h g is = h g (list_any-append (λ h. h == g) xs ys ∙ right (list_any (λ h. h == g) xs) (list_any (λ h. h == g) ys) is)
    where
      right : (a b : Bool) → b ≡ true → (a || b) ≡ true
      right true b h = refl
      right false b h = h

  one_there : (g : ℕ) → list_any (λ h. h == g) (g ∷ []) ≡ true
  one_there g = grind (arith, nat_tests)

  mutual
    stmt_stays : (s : CoreStmtTree) → PaysIn (callees s) → Enough need s
    stmt_stays core.skip pays = leaf_stays core.skip need refl (λ l. refl)
    stmt_stays (core.seq ss) pays = stmts_stay ss pays
    stmt_stays (core.assign x e) pays = let a = assign_stays (var (target_kind x) (type_of e)) (expression_term e) in leaf_stays (core.assign x e) a.0 a.1.0 a.1.1
    stmt_stays (core.store s to e) pays = leaf_stays (core.store s to e) need refl (λ l. refl)
    stmt_stays (core.copy size alignment to from) pays = leaf_stays (core.copy size alignment to from) need refl (λ l. refl)
    stmt_stays (core.fill contents to) pays = leaf_stays (core.fill contents to) need refl (λ l. refl)
    stmt_stays (core.call x (Function g) es) pays = call_stays (record { destination = x; function = g.0; arguments = es }) (pays g.0 (one_there g.0))
    stmt_stays (core.call x PutChar es) pays = leaf_stays (core.call x PutChar es) need (unless_none (first_of_destination x need) (no_destination x need none)) (λ l. refl)
    stmt_stays (core.call x GetChar es) pays = leaf_stays (core.call x GetChar es) need (unless_none (first_of_destination x need) (no_destination x need none)) (λ l. refl)
    stmt_stays (core.branch e s t) pays =
        subst (λ (p : AssertionTree). Enough p (core.branch e s t)) (ap (λ b. if b then need else by_condition (expression_condition e) need need) (assertion_self need))
        (branch_is_enough u fits Stack cost ds closed f start old turns calls e s t need need (function_posts need)
        (stmt_stays s (in_first (callees s) (callees t) pays)) (stmt_stays t (in_second (callees s) (callees t) pays)))
    stmt_stays (core.loop body step) pays =
        loop_is_enough u fits Stack cost ds closed f start old turns calls need need need body step (function_posts need)
        (stmt_stays body (in_first (callees body) (callees step) pays)) (stmt_stays step (in_second (callees body) (callees step) pays)) (λ l. at_least_itself (value need (at l)))
    stmt_stays (core.switch e labels ss) pays =
        switch_is_enough u fits Stack cost ds closed f start old turns calls need (λ part. need) e labels ss (function_posts need) (λ part. parts_stay ss part pays)
        (λ l w n moment fit integral labels_fit i. by (chosen_part labels n) l)
      where
        by : (o : Option ℕ) (l : Locals) → AtLeast (value need (at l)) (value (before_chosen need (λ part. need) o) (at l))
        by None l = at_least_itself (value need (at l))
        by (Some part) l = at_least_itself (value need (at l))
    stmt_stays core.break pays = leaf_stays core.break need refl (λ l. refl)
    stmt_stays core.continue pays = leaf_stays core.continue need refl (λ l. refl)
    stmt_stays (core.return None) pays = leaf_stays (core.return None) need (unless_none (first_of kinds.Returned need) (nothing_found need (λ y. same_kind y.kind kinds.Returned) none)) (λ l. refl)
    stmt_stays (core.return (Some e)) pays = let a = assign_stays (var kinds.Returned (type_of e)) (expression_term e) in leaf_stays (core.return (Some e)) a.0 a.1.0 a.1.1

    pub stmts_stay : (ss : CoreStmts) → PaysIn (all_callees ss) → AreEnough u fits Stack cost ds closed f start old turns calls need ss (function_posts need)
    stmts_stay no_stmts pays = λ b c fit x k r l w moment. r.next l w moment
    stmts_stay (stmt_and s ss) pays =
        first_is_enough u fits Stack cost ds closed f start old turns calls need need s ss (function_posts need)
        (stmt_stays s (in_first (callees s) (all_callees ss) pays)) (stmts_stay ss (in_second (callees s) (all_callees ss) pays))

    parts_stay : (ss : CoreStmts) (part : ℕ) → PaysIn (all_callees ss) → IsEnoughFrom u fits Stack cost ds closed f start old turns calls need part ss (switch_posts (function_posts need))
    parts_stay no_stmts part pays = λ b c fit x k r l w moment. r.next l w moment
    parts_stay (stmt_and s ss) zero pays =
        first_is_enough u fits Stack cost ds closed f start old turns calls need need s ss (function_posts need)
        (stmt_stays s (in_first (callees s) (all_callees ss) pays)) (stmts_stay ss (in_second (callees s) (all_callees ss) pays))
    parts_stay (stmt_and s ss) (suc part) pays =
        λ b c fit x k r. parts_stay ss part (in_second (callees s) (all_callees ss) pays) b c (and_parts (stmt_fits u f b c s) (stmts_fit u f b c ss) fit).1 x k r
