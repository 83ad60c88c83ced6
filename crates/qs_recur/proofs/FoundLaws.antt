-- Where a function is found to count, its statements fit what is written for it.
use Rattle.std.proofs.Common.{◌≡◌, ◌≤◌, ◌+◌, ◌^◌, ◌==◌, ℕ, zero, suc, refl, sym, ap, ◌∙◌, subst, arith, Bool, true, false, List, [], ◌∷◌, ◌++◌, append_assoc, Some, None}
use Rattle.std.specs.Prelude.{◌&&◌, ◌||◌, not, nat_le, if◌then◌else◌, Option, option_map}
use Rattle.std.specs.List.{list_any}
use Rattle.std.specs.Option.{option_or}
use Rattle.std.proofs.lemmas.Bool.{and_parts, eq-eqb, eqb-true, or_left, or_parts, or_right, not-true}
use Rattle.std.proofs.lemmas.List.Folds.{list_any-append}
use Rattle.qs_memory.specs.Partial.{◌>>=◌, only_if}
use Rattle.qs_calls.specs.declared.callee.Callee.{Callee}
use Rattle.qs_calls.specs.declared.callee.Callee.TheVariants.{Function, PutChar, GetChar}
use Rattle.qs_core.specs.CallGraph.{callee, callees, all_callees, is_member}
use Rattle.qs_core.specs.Fits.{stmt_fits, stmts_fit, expr_fits}
use Rattle.qs_core.specs.Terms.{condition_of}
use Rattle.qs_core.specs.TermTrees.{CoreConditionTree}
use Rattle.qs_core.specs.Trees as core
use Rattle.qs_core.specs.Trees.{CoreExprTree, CoreStmtTree, CoreStmts, no_stmts, stmt_and, CoreFunctionTree, CoreUnitTree}
use Rattle.qs_recur.specs.Around.{Way, itself, shown, Ways, before, to_itself}
use Rattle.qs_triples.specs.Derivations.{ProofsTree}
use Rattle.qs_triples.specs.Entries.{is_return, ends_in_return, scope_of, IsDerived}
use Rattle.qs_recur.proofs.AroundLaws.{IsPaid, Fits, AllFit}
use Rattle.qs_recur.specs.Bodies.{CallTree, call_of, calls_made, all_calls_made, has_call, have_call, assigns, one_assigns, end_passes, last_end_passes}
use Rattle.qs_recur.specs.Counters.{Test, below, at_least, least_of, test_in, Step, step_of, falls, is_quotient}
use Rattle.qs_recur.specs.Needs.{Place, returns, end_passes_before, is_guarded, calls_fall, branch_test, part_test, place_in, Counting}
use Rattle.qs_recur.specs.Written.{least_in, pay_entered, pay_past, ways_by, entered_left, past_left, back_ways, counting_entry}
use Rattle.qs_recur.proofs.CostsLaws.{AreOfCosts}
use Rattle.qs_recur.proofs.CountingLaws.{start, past, may_assign, IsSetting, BranchesFit, IsTest, PartsFit, counting_derived}
use Rattle.qs_recur.proofs.FitLaws.{Ends, Each, each_first, each_second, others_than, only_this, statement_fits, statements_fit}
use Rattle.qs_recur.proofs.OwnLaws.{IsNarrow, OwnPaid, own_call_paid}
use Rattle.qs_recur.proofs.TestLaws.{step_before, test_before, some_same}

-- ---- the ends of statements

pub ends_hold : (w : Way) (passes : Bool) → passes ≡ true → Ends w passes
ends_hold itself passes h = tt
ends_hold (shown c) passes h = h

behind_ends : (s : CoreStmtTree) (ss : CoreStmts) → last_end_passes (stmt_and s ss) ≡ true → last_end_passes ss ≡ true
behind_ends s no_stmts h = refl
behind_ends s (stmt_and t ss) h = h

first_ends : (e : CoreExprTree) (s t : CoreStmtTree) (ss : CoreStmts) → last_end_passes (stmt_and (core.branch e s t) ss) ≡ true → end_passes_before ss s ≡ true → end_passes s ≡ true
first_ends e s t no_stmts h k = (and_parts (end_passes s) (end_passes t) h).0
first_ends e s t (stmt_and r ss) h k = k

second_ends : (e : CoreExprTree) (s t : CoreStmtTree) (ss : CoreStmts) (w : Ways) → last_end_passes (stmt_and (core.branch e s t) ss) ≡ true → Ends (before ss w).next (end_passes t)
second_ends e s t no_stmts w h = ends_hold w.next (end_passes t) (and_parts (end_passes s) (end_passes t) h).1
second_ends e s t (stmt_and r ss) w h = tt

return_ends : (s : CoreStmtTree) → returns s ≡ true → end_passes s ≡ true
return_ends (core.return e) h = refl
return_ends (core.seq ss) h = of ss h
  where
    single : (s : CoreStmtTree) → is_return s ≡ true → end_passes s ≡ true
    single core.skip h = cc
    single (core.seq ss) h = cc
    single (core.assign x e) h = cc
    single (core.store s to e) h = cc
    single (core.copy size alignment to from) h = cc
    single (core.fill contents to) h = cc
    single (core.call x g es) h = cc
    single (core.branch e s t) h = cc
    single (core.loop body step) h = cc
    single (core.switch e labels ss) h = cc
    single core.break h = cc
    single core.continue h = cc
    single (core.return e) h = refl

    of : (ss : CoreStmts) → ends_in_return ss ≡ true → last_end_passes ss ≡ true
    of no_stmts h = refl
    of (stmt_and s no_stmts) h = single s h
    of (stmt_and s (stmt_and t ss)) h = of (stmt_and t ss) h
return_ends core.skip h = cc
return_ends (core.assign x e) h = cc
return_ends (core.store s to e) h = cc
return_ends (core.copy size alignment to from) h = cc
return_ends (core.fill contents to) h = cc
return_ends (core.call x g es) h = cc
return_ends (core.branch e s t) h = cc
return_ends (core.loop body step) h = cc
return_ends (core.switch e labels ss) h = cc
return_ends core.break h = cc
return_ends core.continue h = cc

-- ---- the functions that are called

module _ (f : ℕ) where
  abbrev pub is_own : CallTree → Bool
  is_own c = c.function == f

  called_is : (g : Callee) (es : List CoreExprTree) → is_member f (callee g) ≡ list_any is_own (call_of g es)
  called_is (Function g) es = refl
  called_is PutChar es = refl
  called_is GetChar es = refl

  two_called : (fs gs : List ℕ) (cs ds : List CallTree) → is_member f fs ≡ list_any is_own cs → is_member f gs ≡ list_any is_own ds → is_member f (fs ++ gs) ≡ list_any is_own (cs ++ ds)
  two_called fs gs cs ds h e =
      list_any-append (λ (g : ℕ). g == f) fs gs ∙ ap (λ (b : Bool). b || is_member f gs) h ∙ ap (λ (b : Bool). list_any is_own cs || b) e ∙ sym (list_any-append is_own cs ds)

  mutual
    pub has_call_is : (s : CoreStmtTree) → has_call f s ≡ list_any is_own (calls_made s)
    has_call_is core.skip = refl
    has_call_is (core.seq ss) = have_call_is ss
    has_call_is (core.assign x e) = refl
    has_call_is (core.store s to e) = refl
    has_call_is (core.copy size alignment to from) = refl
    has_call_is (core.fill contents to) = refl
    has_call_is (core.call x g es) = called_is g es
    has_call_is (core.branch e s t) = two_called (callees s) (callees t) (calls_made s) (calls_made t) (has_call_is s) (has_call_is t)
    has_call_is (core.loop body step) = two_called (callees body) (callees step) (calls_made body) (calls_made step) (has_call_is body) (has_call_is step)
    has_call_is (core.switch e labels ss) = have_call_is ss
    has_call_is core.break = refl
    has_call_is core.continue = refl
    has_call_is (core.return e) = refl

    pub have_call_is : (ss : CoreStmts) → have_call f ss ≡ list_any is_own (all_calls_made ss)
    have_call_is no_stmts = refl
    have_call_is (stmt_and s ss) = two_called (callees s) (all_callees ss) (calls_made s) (all_calls_made ss) (has_call_is s) (have_call_is ss)

-- each call is one of a function that is called
pub called_among : (cs : List CallTree) (done : List CallTree) → Each (λ call. list_any (is_own call.function) (done ++ cs) ≡ true) cs
called_among [] done = tt
called_among (call ∷ cs) done = (
  list_any-append (is_own call.function) done (call ∷ cs)
      ∙ or_right (list_any (is_own call.function) done) (list_any (is_own call.function) (call ∷ cs)) (or_left (call.function == call.function) (list_any (is_own call.function) cs) (eq-eqb call.function call.function refl)),
  subst (λ (all : List CallTree). Each (λ call. list_any (is_own call.function) all ≡ true) cs) (append_assoc done (call ∷ []) cs) (called_among cs (done ++ call ∷ [])),
)

-- ---- the place of the test

module _ (f x : ℕ) (body : CoreStmts) where
  -- so many parts stand before the one that is the test, and none calls f
  abbrev pub TestAt : Test → ℕ → CoreStmts → Type 0
  TestAt test k no_stmts = ⊥
  TestAt test zero (stmt_and s ss) = part_test f x body s ss ≡ Some test
  TestAt test (suc k) (stmt_and s ss) = (has_call f s ≡ false) × TestAt test k ss

  pub record IsFound (i : ℕ) (ss : CoreStmts) (p : Place) : Type 0 where
    pub ahead : ℕ
    pub part_is : p.part ≡ i + ahead
    pub there : TestAt p.test ahead ss

  pub place_found : (i : ℕ) (ss : CoreStmts) (p : Place) → place_in f x body i ss ≡ Some p → IsFound i ss p
  place_found i no_stmts p h = cc
  place_found i (stmt_and s ss) p h = by (part_test f x body s ss) refl h (place_found (suc i) ss p)
    where
      by :
          (o : Option Test) → part_test f x body s ss ≡ o
          → option_or (option_map (λ test. record { part = i; test = test }) o) (only_if (not (has_call f s)) (place_in f x body (suc i) ss)) ≡ Some p
          → (place_in f x body (suc i) ss ≡ Some p → IsFound (suc i) ss p) → IsFound i (stmt_and s ss) p
      by (Some test) e h next =
          let q = some_same {A = Place} (record { part = i; test = test }) p h in
          record { ahead = 0; part_is = sym (ap (λ (r : Place). r.part) q) ∙ with_nothing i; there = e ∙ ap (λ (r : Place). Some r.test) q }
        where
          with_nothing : (i : ℕ) → i ≡ i + 0
          with_nothing i = omega arith
      by None e h next =
          let q = test_before (not (has_call f s)) (place_in f x body (suc i) ss) p h in
          let n = next q.1 in
          record { ahead = suc n.ahead; part_is = n.part_is ∙ one_more i n.ahead; there = (not-true (has_call f s) q.0, n.there) }
        where
          one_more : (i k : ℕ) → suc i + k ≡ i + suc k
          one_more i k = omega arith

  -- what a test is
  pub record IsBranch (s : CoreStmtTree) (ss : CoreStmts) (test : Test) : Type 0 where
    pub operand : CoreExprTree
    pub first : CoreStmtTree
    pub second : CoreStmtTree
    pub form : s ≡ core.branch operand first second
    pub condition : CoreConditionTree
    pub has : condition_of operand ≡ Some condition
    pub tests : test_in x condition ≡ Some test
    pub positive : nat_le 1 (least_of test) ≡ true
    pub guarded : is_guarded f test first second ss ≡ true
    pub fall : calls_fall f x body (least_of test) ≡ true

  branch_found : (e : CoreExprTree) (s t : CoreStmtTree) (ss : CoreStmts) (test : Test) → branch_test f x body e s t ss ≡ Some test → IsBranch (core.branch e s t) ss test
  branch_found e s t ss test h =
      let next = λ (test : Test). only_if (nat_le 1 (least_of test) && is_guarded f test s t ss && calls_fall f x body (least_of test)) (Some test) in
      let p = step_before (condition_of e >>= test_in x) next test h in
      let q = step_before (condition_of e) (test_in x) p.0 p.1 in
      let r = test_before (nat_le 1 (least_of p.0) && is_guarded f p.0 s t ss && calls_fall f x body (least_of p.0)) (Some p.0) test p.2 in
      let same = some_same p.0 test r.1 in
      let a = and_parts (nat_le 1 (least_of p.0) && is_guarded f p.0 s t ss) (calls_fall f x body (least_of p.0)) r.0 in
      let b = and_parts (nat_le 1 (least_of p.0)) (is_guarded f p.0 s t ss) a.0 in
      record {
        operand = e;
        first = s;
        second = t;
        form = refl;
        condition = q.0;
        has = q.1;
        tests = q.2 ∙ ap (λ (test : Test). Some test) same;
        positive = subst (λ (test : Test). nat_le 1 (least_of test) ≡ true) same b.0;
        guarded = subst (λ (test : Test). is_guarded f test s t ss ≡ true) same b.1;
        fall = subst (λ (test : Test). calls_fall f x body (least_of test) ≡ true) same a.1;
      }

  pub part_found : (s : CoreStmtTree) (ss : CoreStmts) (test : Test) → part_test f x body s ss ≡ Some test → IsBranch s ss test
  part_found (core.branch e s t) ss test h = branch_found e s t ss test h
  part_found core.skip ss test h = cc
  part_found (core.seq parts) ss test h = cc
  part_found (core.assign y e) ss test h = cc
  part_found (core.store s to e) ss test h = cc
  part_found (core.copy size alignment to from) ss test h = cc
  part_found (core.fill contents to) ss test h = cc
  part_found (core.call k g es) ss test h = cc
  part_found (core.loop b step) ss test h = cc
  part_found (core.switch e labels parts) ss test h = cc
  part_found core.break ss test h = cc
  part_found core.continue ss test h = cc
  part_found (core.return e) ss test h = cc

-- ---- the body fits

module _ (f : ℕ) (c : Counting) (closed : AreOfCosts c.helpers) (positive : 1 ≤ least_in c) (small : least_in c ≤ 2 ^ 32) (u : CoreUnitTree) (proofs : ProofsTree) (function : CoreFunctionTree) (is : IsSetting f c closed u proofs function) (with_others : OwnPaid f c closed positive small proofs.defines) where
  abbrev i : ℕ
  i = c.counter

  abbrev PaidStart : CallTree → Type 0
  PaidStart call = IsPaid (start f c closed) (pay_entered f c call.function call.arguments) (scope_of u proofs function) call.function call.arguments

  abbrev PaidPast : CallTree → Type 0
  PaidPast call = IsPaid (past f c closed) (pay_past f c call.function call.arguments) (scope_of u proofs function) call.function call.arguments

  -- a call of f itself makes the counter smaller
  pub record Falls (call : CallTree) : Type 0 where
    pub step : Step
    pub handed : step_of c.counter call.arguments ≡ Some step
    pub falls_by : falls (least_in c) step ≡ true
    pub narrow : IsNarrow step
    pub by_bits : c.by_bits ≡ true → is_quotient step ≡ true

  -- what is to be shown of a call
  pub record IsPayable (call : CallTree) : Type 0 where
    pub own : (call.function == f) ≡ true → Falls call
    pub other : (call.function == f) ≡ false → PaidStart call × PaidPast call

  own_paid_past : (call : CallTree) → call.function ≡ f → Falls call → PaidPast call
  own_paid_past call e w =
      subst (λ (g : ℕ). IsPaid (past f c closed) (pay_past f c g call.arguments) (scope_of u proofs function) g call.arguments) (sym e)
      (own_call_paid f c closed positive small u proofs function is with_others call.arguments w.step w.handed w.falls_by w.narrow w.by_bits)

  past_paid : (cs : List CallTree) → Each IsPayable cs → Each PaidPast cs
  past_paid [] h = tt
  past_paid (call ∷ cs) h = (by (call.function == f) refl, past_paid cs h.1)
    where
      by : (b : Bool) → (call.function == f) ≡ b → PaidPast call
      by true e = own_paid_past call (eqb-true call.function f e) (h.0.own e)
      by false e = (h.0.other e).1

  start_paid : (cs : List CallTree) → list_any (is_own f) cs ≡ false → Each IsPayable cs → Each PaidStart cs
  start_paid [] n h = tt
  start_paid (call ∷ cs) n h =
      let p = or_parts (call.function == f) (list_any (is_own f) cs) n in
      ((h.0.other p.0).0, start_paid cs p.1 h.1)

  -- statements under the first guard, and under both
  pub record Sound (b k : Bool) (s : CoreStmtTree) : Type 0 where
    pub typed : stmt_fits u function b k s ≡ true
    pub unassigned : assigns i s ≡ false
    pub payable : Each IsPayable (calls_made s)

  pub record AllSound (b k : Bool) (ss : CoreStmts) : Type 0 where
    pub typed : stmts_fit u function b k ss ≡ true
    pub unassigned : one_assigns i ss ≡ false
    pub ends : last_end_passes ss ≡ true
    pub payable : Each IsPayable (all_calls_made ss)

  start_fits : (s : CoreStmtTree) (w : Ways) (b k : Bool) → Sound b k s → Ends w.next (end_passes s) → has_call f s ≡ false → Fits (start f c closed) (pay_entered f c) (scope_of u proofs function) (may_assign i) s w
  start_fits s w b k h e n =
      statement_fits u function (λ (x : ℕ). x ≡ i) (may_assign i) (others_than i) (start f c closed) (pay_entered f c) (scope_of u proofs function) s w b k h.typed (only_this i (λ (x : ℕ). assigns x s) h.unassigned) e (start_paid (calls_made s) (sym (has_call_is f s) ∙ n) h.payable)

  all_start_fit : (ss : CoreStmts) (w : Ways) (b k : Bool) → AllSound b k ss → have_call f ss ≡ false → AllFit (start f c closed) (pay_entered f c) (scope_of u proofs function) (may_assign i) ss w
  all_start_fit ss w b k h n =
      statements_fit u function (λ (x : ℕ). x ≡ i) (may_assign i) (others_than i) (start f c closed) (pay_entered f c) (scope_of u proofs function) ss w b k h.typed (only_this i (λ (x : ℕ). one_assigns x ss) h.unassigned) (ends_hold w.next (last_end_passes ss) h.ends) (start_paid (all_calls_made ss) (sym (have_call_is f ss) ∙ n) h.payable)

  past_fits : (s : CoreStmtTree) (w : Ways) (b k : Bool) → Sound b k s → Ends w.next (end_passes s) → Fits (past f c closed) (pay_past f c) (scope_of u proofs function) (may_assign i) s w
  past_fits s w b k h e =
      statement_fits u function (λ (x : ℕ). x ≡ i) (may_assign i) (others_than i) (past f c closed) (pay_past f c) (scope_of u proofs function) s w b k h.typed (only_this i (λ (x : ℕ). assigns x s) h.unassigned) e (past_paid (calls_made s) h.payable)

  all_past_fit : (ss : CoreStmts) (w : Ways) (b k : Bool) → AllSound b k ss → AllFit (past f c closed) (pay_past f c) (scope_of u proofs function) (may_assign i) ss w
  all_past_fit ss w b k h =
      statements_fit u function (λ (x : ℕ). x ≡ i) (may_assign i) (others_than i) (past f c closed) (pay_past f c) (scope_of u proofs function) ss w b k h.typed (only_this i (λ (x : ℕ). one_assigns x ss) h.unassigned) (ends_hold w.next (last_end_passes ss) h.ends) (past_paid (all_calls_made ss) h.payable)

  first_sound : (s : CoreStmtTree) (ss : CoreStmts) (b k : Bool) → AllSound b k (stmt_and s ss) → Sound b k s × AllSound b k ss
  first_sound s ss b k h =
      let p = and_parts (stmt_fits u function b k s) (stmts_fit u function b k ss) h.typed in
      let n = or_parts (assigns i s) (one_assigns i ss) h.unassigned in (
        record { typed = p.0; unassigned = n.0; payable = each_first IsPayable (calls_made s) (all_calls_made ss) h.payable },
        record { typed = p.1; unassigned = n.1; ends = behind_ends s ss h.ends; payable = each_second IsPayable (calls_made s) (all_calls_made ss) h.payable },
      )

  branches_sound : (e : CoreExprTree) (s t : CoreStmtTree) (b k : Bool) → Sound b k (core.branch e s t) → Sound b k s × Sound b k t
  branches_sound e s t b k h =
      let p = and_parts (expr_fits u function e && stmt_fits u function b k s) (stmt_fits u function b k t) h.typed in
      let n = or_parts (assigns i s) (assigns i t) h.unassigned in (
        record { typed = (and_parts (expr_fits u function e) (stmt_fits u function b k s) p.0).1; unassigned = n.0; payable = each_first IsPayable (calls_made s) (calls_made t) h.payable },
        record { typed = p.1; unassigned = n.1; payable = each_second IsPayable (calls_made s) (calls_made t) h.payable },
      )

  test_fits : (s : CoreStmtTree) (ss : CoreStmts) → Sound false false s → AllSound false false ss → last_end_passes (stmt_and s ss) ≡ true → IsBranch f i function.body s ss c.place.test → IsTest f c closed u proofs function is s ss
  test_fits s ss h hs last t =
      let both = branches_sound t.operand t.first t.second false false (subst (λ (s : CoreStmtTree). Sound false false s) t.form h) in
      let ends = subst (λ (s : CoreStmtTree). last_end_passes (stmt_and s ss) ≡ true) t.form last in
      record { operand = t.operand; first = t.first; second = t.second; form = t.form; condition = t.condition; has = t.has; tests = t.tests; fits = by c.place.test t.guarded ends both.0 both.1 }
    where
      by :
          (test : Test) → is_guarded f test t.first t.second ss ≡ true → last_end_passes (stmt_and (core.branch t.operand t.first t.second) ss) ≡ true → Sound false false t.first → Sound false false t.second
          → BranchesFit f c closed u proofs function is test t.first t.second ss
      by (below j) g e a b =
          let p = and_parts (not (has_call f t.first)) (returns t.first) g in (
            p.1,
            start_fits t.first (ways_by (entered_left f c)) false false a (return_ends t.first p.1) (not-true (has_call f t.first) p.0),
            past_fits t.second (before ss (ways_by (past_left f c))) false false b (second_ends t.operand t.first t.second ss (ways_by (past_left f c)) e),
            all_past_fit ss (ways_by (past_left f c)) false false hs,
          )
      by (at_least j) g e a b =
          let q = and_parts (not (has_call f t.second) && not (have_call f ss)) (end_passes_before ss t.first) g in
          let p = and_parts (not (has_call f t.second)) (not (have_call f ss)) q.0 in (
            past_fits t.first (back_ways ss (ways_by (past_left f c))) false false a (ends_hold (back_ways ss (ways_by (past_left f c))).next (end_passes t.first) (first_ends t.operand t.first t.second ss e q.1)),
            start_fits t.second (before ss (ways_by (entered_left f c))) false false b (second_ends t.operand t.first t.second ss (ways_by (entered_left f c)) e) (not-true (has_call f t.second) p.0),
            all_start_fit ss (ways_by (entered_left f c)) false false hs (not-true (have_call f ss) p.1),
          )

  pub parts_fit : (k : ℕ) (ss : CoreStmts) → AllSound false false ss → TestAt f i function.body c.place.test k ss → PartsFit f c closed u proofs function is k ss
  parts_fit k no_stmts h t = t
  parts_fit zero (stmt_and s ss) h t =
      let p = first_sound s ss false false h in
      test_fits s ss p.0 p.1 h.ends (part_found f i function.body s ss c.place.test t)
  parts_fit (suc k) (stmt_and s ss) h t =
      let p = first_sound s ss false false h in
      (start_fits s (to_itself (ways_by (entered_left f c))) false false p.0 tt t.0, parts_fit k ss p.1 t.1)

  -- ---- the whole

  pub found_derived :
      stmts_fit u function false false function.body ≡ true → one_assigns i function.body ≡ false → last_end_passes function.body ≡ true → Each IsPayable (all_calls_made function.body)
      → place_in f i function.body 0 function.body ≡ Some c.place → IsDerived u proofs (counting_entry f c function)
  found_derived typed unassigned ends payable found =
      let w = place_found f i function.body 0 function.body c.place found in
      let sound : AllSound false false function.body = record { typed = typed; unassigned = unassigned; ends = ends; payable = payable } in
      counting_derived f c closed u proofs function is
      (subst (λ (k : ℕ). PartsFit f c closed u proofs function is k function.body) (sym (w.part_is ∙ none_before w.ahead)) (parts_fit w.ahead function.body sound w.there))
    where
      none_before : (k : ℕ) → 0 + k ≡ k
      none_before k = omega arith
