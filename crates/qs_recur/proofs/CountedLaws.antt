-- A function that counts has a derived entry, where the calls of other functions are paid.
use Rattle.std.proofs.Common.{◌≡◌, ◌≤◌, ◌+◌, ◌^◌, ◌==◌, ℕ, zero, suc, refl, sym, ap, ◌∙◌, subst, arith, Bool, true, false, List, [], ◌∷◌, ◌++◌, Some, None}
use Rattle.std.specs.Prelude.{◌&&◌, not, length, map, nat_le, if◌then◌else◌, Option, option_map}
use Rattle.std.specs.List.{slice_get, list_all}
use Rattle.std.specs.Option.{option_or}
use Rattle.std.proofs.lemmas.Bool.{and_parts, not-true}
use Rattle.std.proofs.lemmas.Bool.Decides.{nat_tests}
use Rattle.qs_memory.specs.Partial.{◌>>=◌, only_if}
use Rattle.qs_memory.specs.Scalars.{same_scalars}
use Rattle.qs_memory.proofs.ScalarLaws.{scalars_same}
use Rattle.qs_calls.specs.Starts.{Signature, signature_of}
use Rattle.qs_assert.specs.Order.{IsInOrder}
use Rattle.qs_assert.specs.Trees.{AssertionTree}
use Rattle.qs_core.specs.CallGraph.{below as numbers_below}
use Rattle.qs_core.specs.Expressions.{type_of}
use Rattle.qs_core.specs.Fits.{expr_fits, exprs_fit, destination_fits, call_fits, stmt_fits, stmts_fit, unit_fits}
use Rattle.qs_core.specs.Interfaces.{variable_type, parameter_types, signature, interface_of}
use Rattle.qs_calls.specs.declared.callee.Callee.{Callee}
use Rattle.qs_calls.specs.declared.callee.Callee.TheVariants.{Function, PutChar, GetChar}
use Rattle.qs_core.specs.Terms.{term_of}
use Rattle.qs_core.specs.Trees as core
use Rattle.qs_core.specs.Trees.{CoreExprTree, CoreStmtTree, CoreStmts, no_stmts, stmt_and, CoreFunctionTree, CoreUnitTree}
use Rattle.qs_recur.proofs.AroundLaws.{IsPaid}
use Rattle.qs_core.proofs.FitLaws.{function_at_fits}
use Rattle.qs_triples.specs.Derivations.{ProofsTree, spec_of}
use Rattle.qs_triples.specs.Entries.{scope_of, IsDerived}
use Rattle.qs_triples.specs.Mentions.{has_plain_parameter}
use Rattle.qs_triples.proofs.ArgumentLaws.{argument_fits}
use Rattle.qs_recur.specs.Bodies.{CallTree, call_of, calls_made, all_calls_made, one_assigns, all_switches_fit, last_end_passes}
use Rattle.qs_recur.specs.Counters.{Test, least_of}
use Rattle.qs_recur.specs.Needs.{Preconditions, Place, place_in, helpers, Helper, helpers_with, helpers_cost_little, Counting, counting_pre, is_unsigned, body_fits, may_count, step_falls, call_falls, calls_fall, step_divides, divides, if_short, counting_with, first_counting, counting, all_divide, balanced}
use Rattle.qs_recur.specs.Sizes.{is_of_costs, is_short}
use Rattle.qs_recur.specs.Counters.{Step, step_in, step_of, falls}
use Rattle.qs_recur.specs.Written.{least_in, pay_entered, pay_past, counting_entry}
use Rattle.qs_recur.proofs.CostsLaws.{AreOfCosts}
use Rattle.qs_recur.proofs.CountingLaws.{start, past, IsSetting}
use Rattle.qs_recur.proofs.FitLaws.{Each}
use Rattle.qs_recur.proofs.FoundLaws.{TestAt, IsFound, place_found, IsBranch, part_found, Falls, IsPayable, found_derived}
use Rattle.qs_recur.proofs.NarrowLaws.{terms_narrow, conditions_narrow, tests_are_small, steps_are_narrow}
use Rattle.qs_recur.proofs.OwnLaws.{IsNarrow, OwnPaid}
use Rattle.qs_recur.proofs.TestLaws.{step_before, test_before, some_same}

-- ---- how it is found

-- all that the test on a counting function asks
pub record IsCounting (u : CoreUnitTree) (pres : Preconditions) (f : ℕ) (function : CoreFunctionTree) (c : Counting) : Type 0 where
  pub switches : body_fits function ≡ true
  pub helpers_are : helpers_with pres (helpers u f) ≡ Some c.helpers
  pub little : helpers_cost_little c.helpers ≡ true
  pub may : may_count function c.counter ≡ true
  pub found : place_in f c.counter function.body 0 function.body ≡ Some c.place
  pub measured : c.by_bits ≡ all_divide f c.counter function.body
  pub short : is_short (counting_pre f c) ≡ true

module _ (u : CoreUnitTree) (pres : Preconditions) (f : ℕ) (function : CoreFunctionTree) where
  with_is :
      (x : ℕ) (hs : List Helper) (c : Counting) → body_fits function ≡ true → helpers_with pres (helpers u f) ≡ Some hs → helpers_cost_little hs ≡ true → counting_with function f x hs ≡ Some c
      → IsCounting u pres f function c
  with_is x hs c switches helpers_are little h =
      let next = λ (place : Place). if_short f (record { counter = x; place = place; by_bits = all_divide f x function.body; helpers = hs }) in
      let p = step_before (only_if (may_count function x) (place_in f x function.body 0 function.body)) next c h in
      let q = test_before (may_count function x) (place_in f x function.body 0 function.body) p.0 p.1 in
      let d : Counting = record { counter = x; place = p.0; by_bits = all_divide f x function.body; helpers = hs } in
      let r = test_before (is_short (counting_pre f d)) (Some d) c p.2 in
      subst (IsCounting u pres f function) (some_same d c r.1)
      (record { switches = switches; helpers_are = helpers_are; little = little; may = q.0; found = q.1; measured = refl; short = r.0 })

  first_is :
      (xs : List ℕ) (hs : List Helper) (c : Counting) → body_fits function ≡ true → helpers_with pres (helpers u f) ≡ Some hs → helpers_cost_little hs ≡ true → first_counting function f xs hs ≡ Some c
      → IsCounting u pres f function c
  first_is [] hs c switches helpers_are little h = cc
  first_is (x ∷ xs) hs c switches helpers_are little h = by (counting_with function f x hs) refl h (first_is xs hs c switches helpers_are little)
    where
      by :
          (o : Option Counting) → counting_with function f x hs ≡ o → option_or o (first_counting function f xs hs) ≡ Some c
          → (first_counting function f xs hs ≡ Some c → IsCounting u pres f function c) → IsCounting u pres f function c
      by (Some d) e h next = with_is x hs c switches helpers_are little (e ∙ h)
      by None e h next = next h

  pub counting_is : (c : Counting) → counting u pres f function ≡ Some c → IsCounting u pres f function c
  counting_is c h =
      let next = λ (hs : List Helper). only_if (helpers_cost_little hs) (first_counting function f (numbers_below (length function.parameters)) hs) in
      let p = step_before (only_if (body_fits function) (helpers_with pres (helpers u f))) next c h in
      let q = test_before (body_fits function) (helpers_with pres (helpers u f)) p.0 p.1 in
      let r = test_before (helpers_cost_little p.0) (first_counting function f (numbers_below (length function.parameters)) p.0) c p.2 in
      first_is (numbers_below (length function.parameters)) p.0 c q.0 q.1 r.0 r.1

-- what helpers need has only numbers, costs, sums and products
pub helpers_of_costs : (pres : Preconditions) (gs : List ℕ) (hs : List Helper) → helpers_with pres gs ≡ Some hs → AreOfCosts hs
helpers_of_costs pres [] hs h = subst AreOfCosts (some_same {A = List Helper} [] hs h) refl
helpers_of_costs pres (g ∷ gs) hs h =
    let last = λ (pre : AssertionTree) (others : List Helper). only_if (is_of_costs pre) (Some (record { function = g; need = pre } ∷ others)) in
    let p = step_before (pres g) (λ pre. helpers_with pres gs >>= λ others. last pre others) hs h in
    let q = step_before (helpers_with pres gs) (last p.0) hs p.2 in
    let r = test_before (is_of_costs p.0) (Some (record { function = g; need = p.0 } ∷ q.0)) hs q.2 in
    subst AreOfCosts (some_same {A = List Helper} (record { function = g; need = p.0 } ∷ q.0) hs r.1)
    (ap (λ (b : Bool). b && list_all (λ (h : Helper). is_of_costs h.need) q.0) r.0 ∙ helpers_of_costs pres gs q.0 q.1)

-- ---- calls and their arguments

-- a call of a function with a body, whose arguments have the types of its parameters
pub record HasTypes (u : CoreUnitTree) (call : CallTree) : Type 0 where
  pub callee : CoreFunctionTree
  pub there : slice_get u.functions call.function ≡ Some callee
  pub types : map type_of call.arguments ≡ parameter_types callee

signature_at : (fs : List CoreFunctionTree) (g : ℕ) → slice_get (map signature fs) g ≡ option_map signature (slice_get fs g)
signature_at [] g = refl
signature_at (f ∷ fs) zero = refl
signature_at (f ∷ fs) (suc g) = signature_at fs g

module _ (u : CoreUnitTree) (function : CoreFunctionTree) where
  abbrev pub ArgumentsFit : CallTree → Type 0
  ArgumentsFit call = (exprs_fit u function call.arguments ≡ true) × HasTypes u call

  joined : (P : CallTree → Type 0) (cs ds : List CallTree) → Each P cs → Each P ds → Each P (cs ++ ds)
  joined P [] ds h i = i
  joined P (c ∷ cs) ds h i = (h.0, joined P cs ds h.1 i)

  typed_call : (x : Option ℕ) (call : CallTree) → call_fits function x (slice_get (map signature u.functions) call.function) call.arguments ≡ true → HasTypes u call
  typed_call x call h = by (slice_get u.functions call.function) refl
    where
      by : (o : Option CoreFunctionTree) → slice_get u.functions call.function ≡ o → HasTypes u call
      by None e = absurd (none_fits (sym (ap (λ (o : Option Signature). call_fits function x o call.arguments) (signature_at u.functions call.function ∙ ap (option_map signature) e)) ∙ h))
        where
          none_fits : false ≡ true → ⊥
          none_fits h = cc
      by (Some g) e =
          let p = and_parts (same_scalars (map type_of call.arguments) (parameter_types g)) (destination_fits function g.result_type x call.arguments)
          (sym (ap (λ (o : Option Signature). call_fits function x o call.arguments) (signature_at u.functions call.function ∙ ap (option_map signature) e)) ∙ h) in
          record { callee = g; there = e; types = scalars_same (map type_of call.arguments) (parameter_types g) p.0 }

  called_fit : (x : Option ℕ) (g : Callee) (es : List CoreExprTree) → (exprs_fit u function es && call_fits function x (signature_of (interface_of u) g) es) ≡ true → Each ArgumentsFit (call_of g es)
  called_fit x (Function g) es h =
      let p = and_parts (exprs_fit u function es) (call_fits function x (slice_get (map signature u.functions) g.0) es) h in
      ((p.0, typed_call x (record { function = g.0; arguments = es }) p.1), tt)
  called_fit x PutChar es h = tt
  called_fit x GetChar es h = tt

  mutual
    arguments_fit : (s : CoreStmtTree) (b k : Bool) → stmt_fits u function b k s ≡ true → Each ArgumentsFit (calls_made s)
    arguments_fit core.skip b k h = tt
    arguments_fit (core.seq ss) b k h = all_arguments_fit ss b k h
    arguments_fit (core.assign y e) b k h = tt
    arguments_fit (core.store s to e) b k h = tt
    arguments_fit (core.copy size alignment to from) b k h = tt
    arguments_fit (core.fill contents to) b k h = tt
    arguments_fit (core.call x g es) b k h = called_fit x g es h
    arguments_fit (core.branch e s t) b k h =
        let p = and_parts (expr_fits u function e && stmt_fits u function b k s) (stmt_fits u function b k t) h in
        joined ArgumentsFit (calls_made s) (calls_made t) (arguments_fit s b k (and_parts (expr_fits u function e) (stmt_fits u function b k s) p.0).1) (arguments_fit t b k p.1)
    arguments_fit (core.loop body step) b k h =
        let p = and_parts (stmt_fits u function true true body) (stmt_fits u function true false step) h in
        joined ArgumentsFit (calls_made body) (calls_made step) (arguments_fit body true true p.0) (arguments_fit step true false p.1)
    arguments_fit (core.switch e labels ss) b k h = all_arguments_fit ss true k (and_parts _ (stmts_fit u function true k ss) h).1
    arguments_fit core.break b k h = tt
    arguments_fit core.continue b k h = tt
    arguments_fit (core.return e) b k h = tt

    pub all_arguments_fit : (ss : CoreStmts) (b k : Bool) → stmts_fit u function b k ss ≡ true → Each ArgumentsFit (all_calls_made ss)
    all_arguments_fit no_stmts b k h = tt
    all_arguments_fit (stmt_and s ss) b k h =
        let p = and_parts (stmt_fits u function b k s) (stmts_fit u function b k ss) h in
        joined ArgumentsFit (calls_made s) (all_calls_made ss) (arguments_fit s b k p.0) (all_arguments_fit ss b k p.1)

  -- what a call hands on is of 32 bits
  step_narrow : (x : ℕ) (es : List CoreExprTree) (s : Step) → exprs_fit u function es ≡ true → step_of x es ≡ Some s → IsNarrow s
  step_narrow x es s h e =
      let p = step_before (slice_get es x) (λ e. term_of e >>= step_in x) s e in
      let q = step_before (term_of p.0) (step_in x) s p.2 in
      steps_are_narrow x q.0 (terms_narrow u function p.0 (argument_fits u function es x p.0 h p.1) q.0 q.1) s q.2

  -- ---- the test

  branch_small : (f x : ℕ) (body : CoreStmts) (s : CoreStmtTree) (ss : CoreStmts) (test : Test) → stmt_fits u function false false s ≡ true → IsBranch f x body s ss test → least_of test ≤ 2 ^ 32
  branch_small f x body s ss test h t =
      let fits = subst (λ (s : CoreStmtTree). stmt_fits u function false false s ≡ true) t.form h in
      let p = and_parts (expr_fits u function t.operand && stmt_fits u function false false t.first) (stmt_fits u function false false t.second) fits in
      let q = and_parts (expr_fits u function t.operand) (stmt_fits u function false false t.first) p.0 in
      tests_are_small x t.condition (conditions_narrow u function t.operand q.0 t.condition t.has) test t.tests

  -- the part that is the test
  pub record HasTest (f x : ℕ) (body : CoreStmts) (test : Test) : Type 0 where
    pub positive : nat_le 1 (least_of test) ≡ true
    pub small : least_of test ≤ 2 ^ 32
    pub fall : calls_fall f x body (least_of test) ≡ true

  test_is : (f x : ℕ) (body : CoreStmts) (test : Test) (k : ℕ) (ss : CoreStmts) → stmts_fit u function false false ss ≡ true → TestAt f x body test k ss → HasTest f x body test
  test_is f x body test k no_stmts h t = absurd t
  test_is f x body test zero (stmt_and s ss) h t =
      let b = part_found f x body s ss test t in
      record { positive = b.positive; small = branch_small f x body s ss test (and_parts (stmt_fits u function false false s) (stmts_fit u function false false ss) h).0 b; fall = b.fall }
  test_is f x body test (suc k) (stmt_and s ss) h t = test_is f x body test k ss (and_parts (stmt_fits u function false false s) (stmts_fit u function false false ss) h).1 t.1

-- ---- the whole

module _ (u : CoreUnitTree) (fits : unit_fits u ≡ true) (pres : Preconditions) (f : ℕ) (function : CoreFunctionTree) (stands : slice_get u.functions f ≡ Some function) (c : Counting) (found : counting u pres f function ≡ Some c) where
  pub has : IsCounting u pres f function c
  has = counting_is u pres f function c found

  abbrev pub closed_helpers : AreOfCosts c.helpers
  closed_helpers = helpers_of_costs pres (helpers u f) c.helpers has.helpers_are

  body_typed : stmts_fit u function false false function.body ≡ true
  body_typed = (function_at_fits u fits f function stands).body

  place_is : IsFound f c.counter function.body 0 function.body c.place
  place_is = place_found f c.counter function.body 0 function.body c.place has.found

  test_has : HasTest u function f c.counter function.body c.place.test
  test_has = test_is u function f c.counter function.body c.place.test place_is.ahead function.body body_typed place_is.there

  pub least_positive : 1 ≤ least_in c
  least_positive = let h = test_has.positive in grind (arith, nat_tests, h)

  pub least_small : least_in c ≤ 2 ^ 32
  least_small = test_has.small

  pub has_helpers : helpers_with pres (helpers u f) ≡ Some c.helpers
  has_helpers = has.helpers_are

  pub may_be : (has_plain_parameter function c.counter ≡ true) × (is_unsigned (variable_type function c.counter) ≡ true) × (one_assigns c.counter function.body ≡ false)
  may_be =
      let p = and_parts (has_plain_parameter function c.counter && is_unsigned (variable_type function c.counter)) (not (one_assigns c.counter function.body)) has.may in
      let q = and_parts (has_plain_parameter function c.counter) (is_unsigned (variable_type function c.counter)) p.0 in
      (q.0, q.1, not-true (one_assigns c.counter function.body) p.1)

  module _ (proofs : ProofsTree) (order : IsInOrder proofs.defines) (specified : spec_of proofs f ≡ Some (balanced (counting_pre f c))) where
    pub setting : IsSetting f c closed_helpers u proofs function
    setting = record { stands = stands; order = order; plain = may_be.0; type_is = may_be.1; specified = specified; small = least_small }

    abbrev pub Other : CallTree → Type 0
    Other call =
        (call.function == f) ≡ false
        → IsPaid (start f c closed_helpers) (pay_entered f c call.function call.arguments) (scope_of u proofs function) call.function call.arguments
        × IsPaid (past f c closed_helpers) (pay_past f c call.function call.arguments) (scope_of u proofs function) call.function call.arguments

    module _ (with_others : OwnPaid f c closed_helpers least_positive least_small proofs.defines) where
      fallen : (o : Option Step) → step_falls (least_in c) o ≡ true → (s : Step) × (o ≡ Some s) × (falls (least_in c) s ≡ true)
      fallen None h = cc
      fallen (Some s) h = (s, refl, h)

      own_falls : (call : CallTree) → call_falls f c.counter (least_in c) call ≡ true → ArgumentsFit u function call → (c.by_bits ≡ true → divides f c.counter call ≡ true) → (call.function == f) ≡ true
          → Falls f c closed_helpers least_positive least_small u proofs function setting with_others call
      own_falls call h args bits own =
          let fall : step_falls (least_in c) (step_of c.counter call.arguments) ≡ true = sym (ap (λ (b : Bool). if b then step_falls (least_in c) (step_of c.counter call.arguments) else true) own) ∙ h in
          let p = fallen (step_of c.counter call.arguments) fall in
          record {
            step = p.0;
            handed = p.1;
            falls_by = p.2;
            narrow = step_narrow u function c.counter call.arguments p.0 args.0 p.1;
            by_bits = λ b. ap step_divides (sym p.1) ∙ (sym (ap (λ (b : Bool). if b then step_divides (step_of c.counter call.arguments) else true) own) ∙ bits b);
          }

      payable :
          (calls : List CallTree) → list_all (call_falls f c.counter (least_in c)) calls ≡ true → (c.by_bits ≡ true → list_all (divides f c.counter) calls ≡ true) → Each (ArgumentsFit u function) calls → Each Other calls
          → Each (IsPayable f c closed_helpers least_positive least_small u proofs function setting with_others) calls
      payable [] h bits args others = tt
      payable (call ∷ calls) h bits args others =
          let p = and_parts (call_falls f c.counter (least_in c) call) (list_all (call_falls f c.counter (least_in c)) calls) h in (
            record { own = own_falls call p.0 args.0 (λ b. (and_parts (divides f c.counter call) (list_all (divides f c.counter) calls) (bits b)).0); other = others.0 },
            payable calls p.1 (λ b. (and_parts (divides f c.counter call) (list_all (divides f c.counter) calls) (bits b)).1) args.1 others.1,
          )

      -- where there is enough for the calls of others
      pub counted_derived : Each Other (all_calls_made function.body) → IsDerived u proofs (counting_entry f c function)
      counted_derived others =
          found_derived f c closed_helpers least_positive least_small u proofs function setting with_others body_typed may_be.2
          (and_parts (all_switches_fit function.body) (last_end_passes function.body) has.switches).1
          (payable (all_calls_made function.body) test_has.fall (λ b. sym has.measured ∙ b) (all_arguments_fit u function function.body false false body_typed) others)
          has.found
