-- The runs of linear code follow those of core, and back.
use Rattle.std.proofs.Common.{◌≡◌, ℕ, zero, suc, ◌+◌, ◌-◌, ◌*◌, ◌<◌, ◌≤◌, ◌⊎◌, inl, inr, ◌==◌, false, if◌then◌else◌, List, [], ◌∷◌, length, map, Option, Some, None, refl, sym, ap, ◌∙◌, subst, arith, suc-mul}
use Rattle.std.proofs.Math.Nat.{mul-le-mul_right}
use Rattle.std.proofs.lemmas.Bool.{cases_lt}
use Rattle.std.proofs.lemmas.Bool.Decides.{nat_tests}
use Rattle.std.specs.List.{slice_get}
use Rattle.std.specs.Option.{option_map}
use Rattle.std.proofs.lemmas.Option.{slice_get-map}
use Rattle.qs_memory.specs.Values.{into, Value}
use Rattle.qs_memory.specs.Memory.{Memory, store, make, release}
use Rattle.qs_events.specs.Events.{Calls, Returns}
use Rattle.qs_events.specs.Runs.{undefined, short, emit, Within}
use Rattle.qs_events.proofs.RunLaws.{within_same}
use Rattle.qs_calls.specs.World.{World, with_memory, RootRun, Return, leaves, Environment, no_values, with_value}
use Rattle.qs_calls.specs.Calls.{Frame, Entered, pass, activate}
use Rattle.qs_calls.specs.Relations.{CallsRelated}
use Rattle.qs_calls.proofs.RelationLaws.{given_related, activate_related}
use Rattle.qs_calls.specs.declared.parameter.Parameter.{Parameter}
use Rattle.qs_calls.specs.declared.parameter.Parameter.TheVariants.{Plain, Placed}
use Rattle.qs_core.specs.Trees.{CoreFunctionTree, CoreUnitTree}
use Rattle.qs_core.specs.Statements.{Context}
use Rattle.qs_core.specs.Units.{body_of, calls_within, core_run}
use Rattle.qs_core.specs.Units as units
use Rattle.qs_core.proofs.RelationLaws as laws
use Rattle.qs_tac.specs.Trees.{TacUnitTree}
use Rattle.qs_tac.specs.Holders.{temporaries}
use Rattle.qs_tac.specs.Steps.{Next, begins, enters, resume, steps}
use Rattle.qs_tac.specs.Units.{tac_run}
use Rattle.qs_lower_expressions.specs.Threads.{threaded_function, threaded_unit}
use Rattle.qs_lower.specs.Units.{function_code, straight_function, straight_unit}
use Rattle.qs_lower_expressions.proofs.ThreadLaws.{code_in}
use Rattle.qs_lower_expressions.proofs.JumpLaws.{IsWeight}
use Rattle.qs_lower_expressions.proofs.RealisationLaws.{Stack, Tally, counted, weighed, Suits, Model, moved_by, ComesBy, BoundedBy, comes_same, comes_alike, comes_emit, comes_real_by, CallsMade, entering_in, IsCode}
use Rattle.qs_lower.proofs.StmtReal.{Equal, equal_keeps}
use Rattle.qs_lower.proofs.UnitReal as unit
use Rattle.qs_lower.proofs.PlainReal as plain

-- ---- calls of core go on alike where what follows does

turns_equal : (n : ℕ) → laws.TurnsRelated Equal n n
turns_equal zero g h same l w = refl
turns_equal (suc n) g h same l w = same _ _ (turns_equal n g h same) l w

calls_alike : (u : CoreUnitTree) (turns depth : ℕ) → CallsRelated Equal (calls_within u turns depth) (calls_within u turns depth)
calls_alike u turns zero f vs k j h w = refl
calls_alike u turns (suc depth) f vs k j h w =
    given_related Equal equal_keeps (slice_get u.functions f) _ _
    (λ g. activate_related Equal equal_keeps f (units.frame_of g) _ _
    (laws.body_related Equal equal_keeps turns turns (turns_equal turns) _ _ (calls_alike u turns depth) g) vs k j h w)

-- ---- parameters get their values, or the call is undefined whatever its body is

-- no variable from this number on has a value
abbrev BelowAlone : ℕ → Environment → Type 0
BelowAlone n e = (x : ℕ) → n ≤ x → e x ≡ None

abbrev pub ParametersThere : ℕ → List Parameter → Type 0
ParametersThere n [] = Unit {0}
ParametersThere n (Plain x ∷ ps) = (x < n) × ParametersThere n ps
ParametersThere n (Placed i s ∷ ps) = ParametersThere n ps

pub record Passed (n : ℕ) (ps : List Parameter) (vs : List Value) (first : ℕ) (e : Environment) (w : World) : Type 0 where
  pub values : Environment
  pub world : World
  pub below : BelowAlone n values
  pub is : (k : Entered) → pass ps vs first e w k ≡ k values world

abbrev pub Passes : (n : ℕ) → List Parameter → List Value → (first : ℕ) → Environment → World → Type 0
Passes n ps vs first e w = ((k : Entered) → pass ps vs first e w k ≡ undefined) ⊎ Passed n ps vs first e w

below_more : (n : ℕ) (e : Environment) (x : ℕ) (v : Value) → x < n → BelowAlone n e → BelowAlone n (with_value e x v)
below_more n e x v lt below y le =
    let other : (y == x) ≡ false = grind (arith, nat_tests, lt, le) in
    ap (λ b. if b then Some v else e y) other ∙ below y le

passes : (n : ℕ) (ps : List Parameter) (vs : List Value) (first : ℕ) (e : Environment) (w : World) → ParametersThere n ps → BelowAlone n e → Passes n ps vs first e w
passes n [] [] first e w there below = inr (record { values = e; world = w; below = below; is = λ k. refl })
passes n [] (v ∷ vs) first e w there below = inl (λ k. refl)
passes n (Plain x ∷ ps) [] first e w there below = inl (λ k. refl)
passes n (Placed i s ∷ ps) [] first e w there below = inl (λ k. refl)
passes n (Plain x ∷ ps) (v ∷ vs) first e w there below = go (passes n ps vs first (with_value e x v) w there.1 (below_more n e x v there.0 below))
  where
    go : Passes n ps vs first (with_value e x v) w → Passes n (Plain x ∷ ps) (v ∷ vs) first e w
    go (inl none) = inl none
    go (inr some) = inr (record { values = some.values; world = some.world; below = some.below; is = some.is })
passes n (Placed i s ∷ ps) (v ∷ vs) first e w there below = stored (store s w.memory (into (first + i) 0) v) refl (λ m. passes n ps vs first e (with_memory w m) there below)
  where
    go : (m : Memory) → store s w.memory (into (first + i) 0) v ≡ Some m → Passes n ps vs first e (with_memory w m) → Passes n (Placed i s ∷ ps) (v ∷ vs) first e w
    go m is (inl none) = inl (λ k. plain.given_some (store s w.memory (into (first + i) 0) v) m (λ m. pass ps vs first e (with_memory w m) k) is ∙ none k)
    go m is (inr some) = inr (record {
      values = some.values;
      world = some.world;
      below = some.below;
      is = λ k. plain.given_some (store s w.memory (into (first + i) 0) v) m (λ m. pass ps vs first e (with_memory w m) k) is ∙ some.is k;
    })

    stored : (o : Option Memory) → store s w.memory (into (first + i) 0) v ≡ o → ((m : Memory) → Passes n ps vs first e (with_memory w m)) → Passes n (Placed i s ∷ ps) (v ∷ vs) first e w
    stored None is others = inl (λ k. plain.given_none (store s w.memory (into (first + i) 0) v) (λ m. pass ps vs first e (with_memory w m) k) is)
    stored (Some m) is others = go m is (others m)

-- a run begins as a call does
entering_run : (t : TacUnitTree) (j root : ℕ) (arguments : List Value) (w : World) → tac_run t root arguments w j ≡ entering_in t j [] root arguments leaves w
entering_run t zero root arguments w = refl
entering_run t (suc j) root arguments w = refl

-- ---- functions of a unit

module _ (u : CoreUnitTree) (turns : ℕ) where
  abbrev pub t : TacUnitTree
  t = straight_unit u

  abbrev pub context : ℕ → Context
  context depth = record { turns = turns; calls = calls_within u turns depth }

  abbrev pub told : (q : Tally) → Suits t q → Model
  told q suits = record { unit = t; tally = q; suits = suits }

  found : (f : ℕ) (o : Option CoreFunctionTree) → slice_get u.functions f ≡ o → slice_get t.functions f ≡ option_map straight_function o
  found f o is = slice_get-map straight_function u.functions f ∙ ap (option_map straight_function) is

  found_threaded :
      (f : ℕ) (o : Option CoreFunctionTree) → slice_get u.functions f ≡ o
      → slice_get (threaded_unit t).functions f ≡ option_map threaded_function (option_map straight_function o)
  found_threaded f o is = slice_get-map threaded_function t.functions f ∙ ap (option_map threaded_function) (found f o is)

  pub code_is : (q : Tally) (suits : Suits t q) (f : ℕ) (g : CoreFunctionTree) (stack : Stack) → slice_get u.functions f ≡ Some g → IsCode (told q suits) g (function_code g) f stack
  code_is q suits f g stack is at = ap (λ o. slice_get (code_in o) at) (found f (Some g) is)

  -- what is there of a function does not depend on what calls it
  abbrev pub IsThere :
      (q : Tally) → Suits t q → (depth f : ℕ) (g : CoreFunctionTree) (stack : Stack) (first : ℕ) → slice_get u.functions f ≡ Some g
      → CallsMade t depth (calls_within u turns depth) → Type 0
  IsThere q suits depth f g stack first is real =
      unit.StmtsThere (told q suits) g (function_code g) f stack (code_is q suits f g stack is) (context depth) first depth real g.body

  -- ---- a call that is entered

  abbrev frame : CoreFunctionTree → Frame
  frame g = units.frame_of g

  enters_none :
      (q : Tally) (next : Next Environment) (stack : Stack) (f : ℕ) (vs : List Value) (k : Return) (w : World) → slice_get u.functions f ≡ None
      → enters temporaries (moved_by t q) next stack f vs k w ≡ undefined
  enters_none counted next stack f vs k w is = plain.given_none (slice_get t.functions f) _ (found f None is)
  enters_none (weighed weight) next stack f vs k w is = plain.given_none (slice_get (threaded_unit t).functions f) _ (found_threaded f None is)

  enters_some :
      (q : Tally) (next : Next Environment) (stack : Stack) (f : ℕ) (vs : List Value) (k : Return) (w : World) (g : CoreFunctionTree) → slice_get u.functions f ≡ Some g
      → enters temporaries (moved_by t q) next stack f vs k w ≡ activate f (frame g) (begins temporaries next stack f) vs k w
  enters_some counted next stack f vs k w g is = plain.given_some (slice_get t.functions f) (straight_function g) _ (found f (Some g) is)
  enters_some (weighed weight) next stack f vs k w g is =
      plain.given_some (slice_get (threaded_unit t).functions f) (threaded_function (straight_function g)) _ (found_threaded f (Some g) is)

  module _ (parameters_there : (f : ℕ) (g : CoreFunctionTree) → slice_get u.functions f ≡ Some g → ParametersThere (length g.variables) (map (λ p. p.place) g.parameters))
      (statements_there : (q : Tally) (suits : Suits t q) (depth f : ℕ) (g : CoreFunctionTree) (stack : Stack) (first : ℕ) (is : slice_get u.functions f ≡ Some g) (real : CallsMade t depth (calls_within u turns depth)) → IsThere q suits depth f g stack first is real)
      (q : Tally) (suits : Suits t q) (depth d : ℕ) (bound : BoundedBy q d turns depth) (real : CallsMade t depth (calls_within u turns depth))
      (f : ℕ) (vs : List Value) (k : Return) (w : World) (stack : Stack)
      (resumes : (result : Option Value) (v : World) → ComesBy q d (λ j. resume temporaries (steps temporaries (moved_by t q) j) stack result v) (k result v)) where
    abbrev first : ℕ
    first = length w.memory

    abbrev after : Return
    after result v = emit (Returns f) (k result (with_memory v (release first v.memory)))

    -- the steps behind its event
    abbrev passing : CoreFunctionTree → ℕ → RootRun
    passing g i = pass (frame g).parameters vs first no_values (with_memory w (make g.blocks w.memory)) (begins temporaries (steps temporaries (moved_by t q) i) stack f first after)

    abbrev passed : CoreFunctionTree → RootRun
    passed g = pass (frame g).parameters vs first no_values (with_memory w (make g.blocks w.memory)) (body_of g (context depth) first after)

    body_comes : (g : CoreFunctionTree) → slice_get u.functions f ≡ Some g → ComesBy q d (passing g) (passed g)
    body_comes g is = go (passes (length g.variables) (map (λ p. p.place) g.parameters) vs first no_values (with_memory w (make g.blocks w.memory)) (parameters_there f g is) (λ x h. refl))
      where
        go : Passes (length g.variables) (map (λ p. p.place) g.parameters) vs first no_values (with_memory w (make g.blocks w.memory)) → ComesBy q d (passing g) (passed g)
        go (inl none) = comes_same q d (passing g) (passed g) (λ i. none _ ∙ sym (none _))
        go (inr some) =
            let r =
            unit.body_real (told q suits) g f stack (code_is q suits f g stack is) (context depth) first depth real (calls_alike u turns depth)
            (statements_there q suits depth f g stack first is real) d bound after
            (λ result v. comes_emit q d (Returns f) _ _ (resumes result (with_memory v (release first v.memory))))
            (record { first_block = first; variables = some.values; temporaries = no_values }) some.values some.world refl
            (record { variables = λ x h. refl; temporaries = λ x h. some.below (length g.variables + x) (omega arith) }) in
            subst (λ (o : RootRun). ComesBy q d (passing g) o) (sym (some.is _))
            (comes_alike q d _ (passing g) _ (λ i. some.is _) (comes_real_by t q suits d _ some.world stack _ r))

    function_comes : (o : Option CoreFunctionTree) → slice_get u.functions f ≡ o
        → ComesBy q d (λ i. enters temporaries (moved_by t q) (steps temporaries (moved_by t q) i) stack f vs k w) (calls_within u turns (suc depth) f vs k w)
    function_comes None is =
        comes_same q d _ _
        (λ i. enters_none q (steps temporaries (moved_by t q) i) stack f vs k w is ∙ sym (plain.given_none (slice_get u.functions f) _ is))
    function_comes (Some g) is =
        subst (λ (o : RootRun). ComesBy q d (λ i. enters temporaries (moved_by t q) (steps temporaries (moved_by t q) i) stack f vs k w) o)
        (sym (plain.given_some (slice_get u.functions f) g _ is))
        (comes_alike q d (λ i. emit (Calls f) (passing g i)) _ _ (λ i. enters_some q (steps temporaries (moved_by t q) i) stack f vs k w g is)
        (comes_emit q d (Calls f) (passing g) (passed g) (body_comes g is)))

    pub call_comes : ComesBy q d (λ i. enters temporaries (moved_by t q) (steps temporaries (moved_by t q) i) stack f vs k w) (calls_within u turns (suc depth) f vs k w)
    call_comes = function_comes (slice_get u.functions f) refl

  -- ---- all calls

  module _ (parameters_there : (f : ℕ) (g : CoreFunctionTree) → slice_get u.functions f ≡ Some g → ParametersThere (length g.variables) (map (λ p. p.place) g.parameters))
      (statements_there : (q : Tally) (suits : Suits t q) (depth f : ℕ) (g : CoreFunctionTree) (stack : Stack) (first : ℕ) (is : slice_get u.functions f ≡ Some g) (real : CallsMade t depth (calls_within u turns depth)) → IsThere q suits depth f g stack first is real)
      (weight : ℕ) (is_weight : IsWeight t weight) where
    -- what weighs less than n steps and one is no more of them
    few_steps : (n i : ℕ) → i * weight < n * weight + weight → i < suc n
    few_steps n i le = by_order (cases_lt n i)
      where
        by_order : (n < i) ⊎ (i ≤ n) → i < suc n
        by_order (inr few) = omega (arith, few)
        by_order (inl more) =
            let heavy : suc n * weight ≤ i * weight = mul-le-mul_right weight more in
            let step = suc-mul n weight in
            absurd (omega (arith, heavy, step, le))

    counts :
        (depth : ℕ) → suc depth ≤ turns → CallsMade t depth (calls_within u turns depth) → (d f : ℕ) (vs : List Value) (k : Return) (w : World) (stack : Stack) → d ≤ suc depth
        → ((result : Option Value) (v : World) → ComesBy counted (d - 1) (λ j. resume temporaries (steps temporaries t j) stack result v) (k result v))
        → (j : ℕ) × (d ≤ j) × (entering_in t j stack f vs k w ≡ calls_within u turns (suc depth) f vs k w)
    counts depth few real d f vs k w stack le resumes =
        let r = call_comes parameters_there statements_there counted tt depth (d - 1) (omega (arith, le, few), omega (arith, le)) real f vs k w stack resumes in
        (suc r.0, let enough = r.1 in omega (arith, enough), r.2)

    weighs :
        (depth : ℕ) → suc depth ≤ turns → CallsMade t depth (calls_within u turns depth) → (n f : ℕ) (vs : List Value) (k : Return) (w : World) (stack : Stack) → n ≤ suc depth
        → ((result : Option Value) (v : World) (i : ℕ) → i < n → Within (resume temporaries (steps temporaries (threaded_unit t) i) stack result v) (k result v))
        → Within (entering_in (threaded_unit t) n stack f vs k w) (calls_within u turns (suc depth) f vs k w)
    weighs depth few real zero f vs k w stack le resumes = tt
    weighs depth few real (suc n) f vs k w stack le resumes =
        let positive = is_weight.positive in
        let top : n * weight + weight - 1 + 1 ≡ n * weight + weight = omega (arith, positive) in
        call_comes parameters_there statements_there (weighed weight) is_weight depth (n * weight + weight - 1)
        (λ i light. let fewer = few_steps n i (omega (arith, light, positive)) in (omega (arith, fewer, few, le), omega (arith, fewer, le)))
        real f vs k w stack
        (λ result v i light. resumes result v i (few_steps n i (omega (arith, light, top, positive))))
        n (omega (arith, top))

    calls_made : (depth : ℕ) → depth ≤ turns → CallsMade t depth (calls_within u turns depth)
    calls_made zero few = record {
      counts = λ d f vs k w stack le resumes. (0, omega (arith, le), refl);
      weighs = λ n f vs k w stack le resumes. none n f vs k w stack le;
    }
      where
        none : (n f : ℕ) (vs : List Value) (k : Return) (w : World) (stack : Stack) → n ≤ 0 → Within (entering_in (threaded_unit t) n stack f vs k w) short
        none zero f vs k w stack le = tt
        none (suc n) f vs k w stack le = absurd (omega (arith, le))
    calls_made (suc depth) few =
        let real = calls_made depth (omega (arith, few)) in record { counts = counts depth few real; weighs = weighs depth few real }

    -- the run of core within a bound is that of linear code within as many steps at least
    pub same_run :
        (root : ℕ) (arguments : List Value) (w : World)
        → (m : ℕ) × (turns ≤ m) × (tac_run t root arguments w m ≡ core_run u root arguments w turns)
    same_run root arguments w =
        let r = (calls_made turns (omega arith)).counts turns root arguments leaves w [] (omega arith) (λ result v. (turns - 1, omega arith, refl)) in
        (r.0, r.1, entering_run t r.0 root arguments w ∙ r.2)

    -- the run of threaded code is within that of core
    pub threaded_run : (root : ℕ) (arguments : List Value) (w : World) → Within (tac_run (threaded_unit t) root arguments w turns) (core_run u root arguments w turns)
    threaded_run root arguments w =
        subst (λ (o : RootRun). Within o (core_run u root arguments w turns)) (sym (entering_run (threaded_unit t) turns root arguments w))
        ((calls_made turns (omega arith)).weighs turns root arguments leaves w [] (omega arith) (λ result v i less. within_same (leaves result v)))
