-- Every moment that a run comes to is in range.
use Rattle.std.proofs.Common.{◌≡◌, ℕ, zero, suc, ◌+◌, ◌-◌, ◌%◌, ◌^◌, ◌<◌, ◌≤◌, ◌==◌, ◌&&◌, not, Bool, true, false, if◌then◌else◌, List, [], ◌∷◌, length, map, Option, Some, None, option_map, All, refl, sym, ap, ◌∙◌, subst, arith}
use Rattle.std.specs.Prelude.{bytes_eq}
use Rattle.std.specs.List.{slice_get}
use Rattle.std.proofs.lemmas.Bool.Decides.{nat_tests}
use Rattle.std.proofs.lemmas.List.Elements.{All-head, All-tail}
use Rattle.std.proofs.lemmas.Option.{slice_get-map, same_Some}
use Rattle.std.proofs.lemmas.Bool.{and_parts}
use Rattle.qs_memory.specs.Values.{Pointer, into, Value, integer, address, as_integer, as_pointer}
use Rattle.qs_memory.specs.Memory.{Memory, make, release}
use Rattle.qs_memory.specs.Memory as memory
use Rattle.qs_memory.specs.Pointers.{truth}
use Rattle.qs_memory.specs.Soundness.{IsSound, ComesAfter}
use Rattle.qs_memory.specs.Scalars.{same_scalar, same_scalars, is_type}
use Rattle.qs_memory.proofs.ScalarLaws.{scalars_same, type_is}
use Rattle.qs_memory.specs.declared.scalar.Scalar.{Scalar}
use Rattle.qs_memory.specs.declared.scalar.Scalar.TheVariants as scalars
use Rattle.qs_memory.specs.declared.operation.Signedness.TheVariants.{Signed}
use Rattle.qs_memory.proofs.BlockLaws.{after_make, after_release, after_same, after_next, blocks_are_fresh}
use Rattle.qs_memory.proofs.Options.{followed}
use Rattle.qs_memory.proofs.StepLaws.{memory_goes_on}
use Rattle.qs_memory.proofs.SoundLaws.{soundness_is_kept}
use Rattle.qs_events.specs.Runs.{emit, short, given, has_ended, ending_of, Left}
use Rattle.qs_calls.specs.World.{World, with_memory, RootRun, Return, leaves, Environment, no_values, with_value}
use Rattle.qs_calls.specs.Calls.{CallsOf, take_byte, get_char, put_char, invoke, Entered, pass}
use Rattle.qs_calls.specs.Relations.{Relation, Keeps}
use Rattle.qs_calls.specs.Starts.{Signature, signature_of, result_type_of, IsOf, AreOf, ResultIsOf, IsReady, Takes, IsReturn}
use Rattle.qs_calls.specs.declared.callee.Callee.{Callee}
use Rattle.qs_calls.specs.declared.callee.Callee.TheVariants.{Function, PutChar, GetChar}
use Rattle.qs_calls.specs.declared.parameter.Parameter.{Parameter}
use Rattle.qs_calls.specs.declared.parameter.Parameter.TheVariants.{Plain, Placed}
use Rattle.qs_calls.proofs.StartLaws.{is_of_later, are_of_later, result_is_of_later, ready_later}
use Rattle.qs_core.specs.declared.numbers.Target.{Target}
use Rattle.qs_core.specs.declared.numbers.Target.TheVariants as targets
use Rattle.qs_core.specs.Trees.{CoreExprTree, CoreStmtTree, skip, seq, assign, store, copy, fill, call, branch, loop, switch, break, continue, return, CoreStmts, no_stmts, stmt_and, CoreParameterTree, CoreVariableTree, CoreFunctionTree, CoreUnitTree}
use Rattle.qs_core.specs.Expressions.{Locals, value, values, type_of}
use Rattle.qs_core.specs.Statements.{Continuation, Continuations, Context, assigned, take_result, given_pointer, repeated, after_step, chosen_part, at_part, runs, runs_all, runs_from}
use Rattle.qs_core.specs.Units.{calls_within}
use Rattle.qs_core.specs.Interfaces.{variable_type, temporary_type, target_type, types_of, parameter_types, signature, interface_of}
use Rattle.qs_core.specs.Fits.{expr_fits, exprs_fit, pointer_fits, call_fits, taken_fits, destination_fits, any_mentions, stmt_fits, stmts_fit, place_fits, parameter_fits, parameters_fit, unit_fits}
use Rattle.qs_core.specs.Ranges.{VariablesAreOf, IsInRange, IsMoment, RelatedInRange, ReturnsInRange, AllInRange, CallsInRange, result_type_at, CallsStayInRange, BodiesStayInRange, RunsLeaveSound}
use Rattle.qs_core.proofs.FitLaws.{function_at_fits}
use Rattle.qs_core.proofs.TypeLaws.{integer_is_of, value_is_of}

-- ---- moments one after another

pub variables_later :
    (m later : Memory) (types : ℕ → Option Scalar) (e : Environment) → ComesAfter m later
    → VariablesAreOf m types e → VariablesAreOf later types e
variables_later m later types e after h =
    record { each = λ x s v t i. is_of_later m later s v after (h.each x s v t i) }

pub no_values_are_of : (m : Memory) (types : ℕ → Option Scalar) → VariablesAreOf m types no_values
no_values_are_of m types = record { each = λ x s v t h. cc }

-- a variable that is given a value of its type
pub with_value_are_of :
    (m : Memory) (types : ℕ → Option Scalar) (e : Environment) (x : ℕ) (v : Value)
    → VariablesAreOf m types e
    → ((s : Scalar) → types x ≡ Some s → IsOf m s v) → VariablesAreOf m types (with_value e x v)
with_value_are_of m types e x v h of = record { each = λ y t w ty i. at y t w ty (y == x) refl i }
  where
    at :
        (y : ℕ) (t : Scalar) (w : Value) → types y ≡ Some t → (b : Bool) → (y == x) ≡ b
        → (if b then Some v else e y) ≡ Some w
        → IsOf m t w
    at y t w ty true same i =
        let here : x ≡ y = grind (arith, nat_tests, same) in
        subst (λ (z : Value). IsOf m t z) (same_Some v w i) (of t (ap types here ∙ ty))
    at y t w ty false same i = h.each y t w ty i

-- of one type
pub of_type :
    (m : Memory) (o : Option Scalar) (s : Scalar) (v : Value) → o ≡ Some s → IsOf m s v
    → (t : Scalar) → o ≡ Some t → IsOf m t v
of_type m o s v is of t j = subst (λ (z : Scalar). IsOf m z v) (same_Some s t (sym is ∙ j)) of

-- the world of a moment goes on
pub moment_later :
    (u : CoreUnitTree) (f : CoreFunctionTree) (start : Memory) (l : Locals) (w v : World)
    → IsMoment u f start l w
    → ComesAfter w.memory v.memory → IsReady (interface_of u) v → IsMoment u f start l v
moment_later u f start l w v h after ready =
    let r = h.range in
    record {
      range = record {
        variables =
            variables_later w.memory v.memory (variable_type f) l.variables after r.variables;
        temporaries = variables_later w.memory v.memory
            (temporary_type f) l.temporaries after r.temporaries;
        blocks = let longer = after.longer in let room = r.blocks in omega arith;
        ready = ready;
      };
      after = after_next start w.memory v.memory h.after after;
    }

-- a step of the memory
pub moment_stepped :
    (u : CoreUnitTree) (f : CoreFunctionTree) (start : Memory) (l : Locals) (w : World) (m : Memory)
    → IsMoment u f start l w
    → ComesAfter w.memory m → IsSound m → IsMoment u f start l (with_memory w m)
moment_stepped u f start l w m h after sound =
    moment_later u f start l w (with_memory w m) h after
    (ready_later (interface_of u) w m h.range.ready after sound)

-- a target of a moment gets a value of its type
pub moment_assigned :
    (u : CoreUnitTree) (f : CoreFunctionTree) (start : Memory) (x : Target) (l : Locals) (w : World)
    (v : Value)
    → ((s : Scalar) → target_type f x ≡ Some s → IsOf w.memory s v) → IsMoment u f start l w
    → IsMoment u f start (assigned x l v) w
moment_assigned u f start (targets.Variable x) l w v of h =
    let r = h.range in
    record {
      range = record {
        variables = with_value_are_of w.memory (variable_type f) l.variables x v r.variables of;
        temporaries = r.temporaries;
        blocks = r.blocks;
        ready = r.ready;
      };
      after = h.after;
    }
moment_assigned u f start (targets.Temporary k) l w v of h =
    let r = h.range in
    record {
      range = record {
        variables = r.variables;
        temporaries = with_value_are_of w.memory
            (temporary_type f) l.temporaries k v r.temporaries of;
        blocks = r.blocks;
        ready = r.ready;
      };
      after = h.after;
    }

-- ---- arguments

pub arguments_are :
    (u : CoreUnitTree) (f : CoreFunctionTree) (l : Locals) (w : World) → IsInRange u f l w
    → (es : List CoreExprTree) (vs : List Value)
    → exprs_fit u f es ≡ true → values es l w.memory ≡ Some vs → AreOf w.memory (map type_of es) vs
arguments_are u f l w r [] vs fits h =
    subst (λ (z : List Value). AreOf w.memory [] z) (same_Some [] vs h) tt
arguments_are u f l w r (e ∷ es) vs fits h =
    let fit = and_parts (expr_fits u f e) (exprs_fit u f es) fits in
    let a = followed (value e l w.memory) _ vs h in
    let b = followed (values es l w.memory) _ vs a.then in
    subst (λ (z : List Value). AreOf w.memory (map type_of (e ∷ es)) z)
    (same_Some (a.value ∷ b.value) vs b.then) (
      value_is_of u f e l w a.value fit.0 r a.first,
      arguments_are u f l w r es b.value fit.1 b.first,
    )

-- ---- what follows

module _ (R : Relation) (keeps : Keeps R) (shorts : R short short) (u : CoreUnitTree)
    (fits : unit_fits u ≡ true) where
  given_in_range :
      {A : Type 0} → (o : Option A) (f g : A → RootRun) → ((a : A) → o ≡ Some a → R (f a) (g a))
      → R (given o f) (given o g)
  given_in_range None f g h = keeps.undefined
  given_in_range (Some a) f g h = h a refl

  pointer_in_range :
      (e : CoreExprTree) (l : Locals) (w : World) (f g : Pointer → RootRun)
      → ((p : Pointer) → R (f p) (g p))
      → R (given_pointer e l w f) (given_pointer e l w g)
  pointer_in_range e l w f g h =
      given_in_range (value e l w.memory) _ _
      (λ v i. given_in_range (as_pointer v) _ _ (λ p j. h p))

  either_in_range :
      (b : Bool) (o p q r : RootRun) → R o q → R p r → R (if b then o else p) (if b then q else r)
  either_in_range true o p q r h g = h
  either_in_range false o p q r h g = g

  -- ---- the given functions

  number_returned :
      (w v : World) (n : ℕ) → n < 2 ^ 32 → w.memory ≡ v.memory → IsReady (interface_of u) v
      → IsReturn (interface_of u) (Some scalars.Int) w.memory (Some (integer n)) v
  number_returned w v n small same ready = record {
    typed = integer_is_of v.memory Signed n small;
    ready = ready;
    after = subst (λ (m : Memory). ComesAfter w.memory m) same (after_same w.memory);
  }

  put_in_range :
      (vs : List Value) (k j : Return) (w : World) → IsReady (interface_of u) w
      → ReturnsInRange R u (Some scalars.Int) w.memory k j
      → R (put_char vs k w) (put_char vs j w)
  put_in_range [] k j w ready h = keeps.undefined
  put_in_range (address p ∷ others) k j w ready h = keeps.undefined
  put_in_range (integer n ∷ v ∷ others) k j w ready h = keeps.undefined
  put_in_range (integer n ∷ []) k j w ready h =
      keeps.emit _ _ _ (h (Some (integer (n % 256))) w
      (number_returned w w (n % 256) (omega arith) refl ready))

  take_in_range :
      (input : List ℕ) → (k j : Return) (w : World) → IsReady (interface_of u) w
      → All (λ byte. byte < 256) input
      → ReturnsInRange R u (Some scalars.Int) w.memory k j
      → R (take_byte input k w) (take_byte input j w)
  take_in_range [] k j w ready are h =
      keeps.emit _ _ _ (h (Some (integer (2 ^ 32 - 1))) w
      (number_returned w w (2 ^ 32 - 1) (omega arith) refl ready))
  take_in_range (b ∷ input) k j w ready are h =
      let small : b < 256 = All-head (λ byte. byte < 256) b input are in
      let others = All-tail (λ byte. byte < 256) b input are in
      keeps.emit _ _ _ (h (Some (integer b)) (record w { input = input })
      (number_returned w (record w { input = input }) b (omega arith) refl
      (record { sound = ready.sound; data_blocks = ready.data_blocks; input = others })))

  get_in_range :
      (vs : List Value) (k j : Return) (w : World) → IsReady (interface_of u) w
      → ReturnsInRange R u (Some scalars.Int) w.memory k j
      → R (get_char vs k w) (get_char vs j w)
  get_in_range [] k j w ready h = take_in_range w.input k j w ready ready.input h
  get_in_range (v ∷ others) k j w ready h = keeps.undefined

  -- ---- passing arguments

  record Passed (f : CoreFunctionTree) (start : Memory) (first : ℕ) (e : Environment)
      (w : World) : Type 0 where
    variables : VariablesAreOf w.memory (variable_type f) e
    ready : IsReady (interface_of u) w
    after : ComesAfter start w.memory
    blocks : first + length f.blocks ≤ length w.memory

  module _ (f : CoreFunctionTree) (start : Memory) (first : ℕ) where
    -- the variables from this number on
    abbrev From : ℕ → List CoreVariableTree → Type 0
    From i vs = (x : ℕ) → slice_get f.variables (i + x) ≡ slice_get vs x

    next_from :
        (i : ℕ) (v : CoreVariableTree) (vs : List CoreVariableTree) → From i (v ∷ vs)
        → From (i + 1) vs
    next_from i v vs from x =
        let same : i + 1 + x ≡ i + suc x = omega arith in
        ap (slice_get f.variables) same ∙ from (suc x)

    type_from :
        (i : ℕ) (v : CoreVariableTree) (vs : List CoreVariableTree) → From i (v ∷ vs)
        → variable_type f i ≡ Some v.scalar
    type_from i v vs from =
        let same : i ≡ i + 0 = omega arith in
        ap (λ (x : ℕ). variable_type f x) same ∙ ap (option_map (λ v. v.scalar)) (from 0)

    -- one argument
    one_passed :
        (i : ℕ) (s : Scalar) (place : Parameter) (places : List Parameter) (v : Value)
        (vs : List Value) (e : Environment) (w : World) (k j : Entered)
        → place_fits f.blocks i s place ≡ true → variable_type f i ≡ Some s → IsOf w.memory s v
        → Passed f start first e w
        → ((e : Environment) (x : World) → ComesAfter w.memory x.memory → Passed f start first e x
        → R (pass places vs first e x k) (pass places vs first e x j))
        → R (pass (place ∷ places) (v ∷ vs) first e w k)
        (pass (place ∷ places) (v ∷ vs) first e w j)
    one_passed i s (Plain x) places v vs e w k j fit type of is h =
        let here : i ≡ x = grind (arith, nat_tests, fit) in
        let types = ap (λ (y : ℕ). variable_type f y) (sym here) ∙ type in
        h (with_value e x v) w (after_same w.memory) (record {
          variables =
              with_value_are_of w.memory (variable_type f) e x v is.variables
              (of_type w.memory (variable_type f x) s v types of);
          ready = is.ready;
          after = is.after;
          blocks = is.blocks;
        })
    one_passed i s (Placed b t) places v vs e w k j fit type of is h =
        given_in_range (memory.store t w.memory (into (first + b) 0) v) _ _ (λ m stored.
        let on = memory_goes_on.store t w.memory m (into (first + b) 0) v stored in
        let sound = soundness_is_kept.store t w.memory m
        (into (first + b) 0) v is.ready.sound of.sound stored in
        h e (with_memory w m) on (record {
          variables = variables_later w.memory m (variable_type f) e on is.variables;
          ready = ready_later (interface_of u) w m is.ready on sound;
          after = after_next start w.memory m is.after on;
          blocks = let longer = on.longer in let room = is.blocks in omega arith;
        }))

    pass_in_range :
        (i : ℕ) (ps : List CoreParameterTree) (xs : List CoreVariableTree) (vs : List Value)
        (e : Environment) (w : World) (k j : Entered)
        → From i xs → parameters_fit f.blocks i ps xs ≡ true → AreOf w.memory (types_of ps xs) vs
        → Passed f start first e w
        → ((e : Environment) (w : World) → Passed f start first e w → R (k e w) (j e w))
        → R (pass (map (λ p. p.place) ps) vs first e w k)
        (pass (map (λ p. p.place) ps) vs first e w j)
    pass_in_range i [] xs [] e w k j from fit are is h = h e w is
    pass_in_range i [] xs (v ∷ vs) e w k j from fit are is h = absurd are
    pass_in_range i (p ∷ ps) [] vs e w k j from fit are is h = cc
    pass_in_range i (p ∷ ps) (x ∷ xs) [] e w k j from fit are is h = absurd are
    pass_in_range i (p ∷ ps) (x ∷ xs) (v ∷ vs) e w k j from fit are is h =
        let two = and_parts (parameter_fits f.blocks i p x)
        (parameters_fit f.blocks (i + 1) ps xs) fit in
        let place = and_parts (bytes_eq p.name x.name && x.ordinal == 1)
        (place_fits f.blocks i x.scalar p.place) two.0 in
        one_passed i x.scalar p.place (map (λ p. p.place) ps) v vs e w k j place.1
        (type_from i x xs from) are.0 is
        (λ e y on passed.
        pass_in_range (i + 1) ps xs vs e y k j (next_from i x xs from) two.1
        (are_of_later w.memory y.memory (types_of ps xs) vs on are.1) passed h)

  -- ---- bodies

  module _ (turns : ℕ) (c d : CallsOf) (cd : CallsInRange R u c d) (f : CoreFunctionTree)
      (start : Memory) where
    abbrev one : Context
    one = record { turns = turns; calls = c }

    abbrev other : Context
    other = record { turns = turns; calls = d }

    turns_in_range :
        (n : ℕ) (t s : Continuation → Continuation)
        → ((k j : Continuation) → RelatedInRange R u f start k j
        → RelatedInRange R u f start (t k) (s j))
        → RelatedInRange R u f start (repeated n t) (repeated n s)
    turns_in_range zero t s h l w is = shorts
    turns_in_range (suc n) t s h l w is = h _ _ (turns_in_range n t s h) l w is

    part_in_range :
        (part : Option ℕ) (g i : ℕ → Continuation) → ((n : ℕ) → RelatedInRange R u f start (g n) (i n))
        → (k j : Continuation) → RelatedInRange R u f start k j
        → RelatedInRange R u f start (at_part part g k) (at_part part i j)
    part_in_range None g i h k j e = e
    part_in_range (Some part) g i h k j e = h part

    taken :
        (result_type : Option Scalar) (k : ℕ) → taken_fits f result_type k ≡ true
        → (m : Memory) (v : Value) → ResultIsOf m result_type (Some v)
        → (s : Scalar) → temporary_type f k ≡ Some s → IsOf m s v
    taken None k fit m v h s is = cc
    taken (Some t) k fit m v h s is =
        of_type m (temporary_type f k) t v (type_is (temporary_type f k) t fit) h s is

    result_in_range :
        (result_type : Option Scalar) (x : Option ℕ) (es : List CoreExprTree)
        → destination_fits f result_type x es ≡ true
        → (k j : Continuation) → RelatedInRange R u f start k j → (l : Locals) (w : World)
        → IsMoment u f start l w
        → ReturnsInRange R u result_type w.memory (take_result x k l) (take_result x j l)
    result_in_range result_type None es fit k j h l w is result v r =
        h l v (moment_later u f start l w v is r.after r.ready)
    result_in_range result_type (Some x) es fit k j h l w is result v r =
        let first = and_parts (taken_fits f result_type x) (not (any_mentions x es)) fit in
        given_in_range result _ _ (λ value some.
        h _ v (moment_assigned u f start (targets.Temporary x) l v value
        (taken result_type x first.0 v.memory value
        (subst (λ (o : Option Value). ResultIsOf v.memory result_type o) some r.typed))
        (moment_later u f start l w v is r.after r.ready)))

    invoke_in_range :
        (g : Callee) (type : Signature) (vs : List Value) (w : World) (k j : Return)
        → signature_of (interface_of u) g ≡ Some type
        → AreOf w.memory type.parameters vs → IsReady (interface_of u) w
        → ReturnsInRange R u type.result_type w.memory k j
        → R (invoke g c vs k w) (invoke g d vs j w)
    invoke_in_range (Function g) type vs w k j is are ready kj =
        cd g.0 vs k j w
        (record {
          takes = subst (λ (o : Option Signature). Takes w.memory o vs) (sym is) are;
          ready = ready;
        })
        (subst (λ (o : Option Signature). ReturnsInRange R u (result_type_of o) w.memory k j)
        (sym is) kj)
    invoke_in_range PutChar type vs w k j is are ready kj =
        put_in_range vs k j w ready
        (subst (λ (t : Signature). ReturnsInRange R u t.result_type w.memory k j)
        (sym (same_Some _ type is)) kj)
    invoke_in_range GetChar type vs w k j is are ready kj =
        get_in_range vs k j w ready
        (subst (λ (t : Signature). ReturnsInRange R u t.result_type w.memory k j)
        (sym (same_Some _ type is)) kj)

    call_in_range :
        (x : Option ℕ) (g : Callee) (es : List CoreExprTree) (o : Option Signature)
        → signature_of (interface_of u) g ≡ o
        → call_fits f x o es ≡ true → exprs_fit u f es ≡ true → (k j : Continuation)
        → RelatedInRange R u f start k j
        → (l : Locals) (w : World) → IsMoment u f start l w → (vs : List Value)
        → values es l w.memory ≡ Some vs
        → R (invoke g c vs (take_result x k l) w) (invoke g d vs (take_result x j l) w)
    call_in_range x g es None known fit fits k j h l w is vs given = cc
    call_in_range x g es (Some type) known fit fits k j h l w is vs given =
        let two = and_parts (same_scalars (map type_of es) type.parameters)
        (destination_fits f type.result_type x es) fit in
        let are =
        subst (λ (types : List Scalar). AreOf w.memory types vs)
        (scalars_same (map type_of es) type.parameters two.0)
        (arguments_are u f l w is.range es vs fits given) in
        invoke_in_range g type vs w _ _ known are is.range.ready
        (result_in_range type.result_type x es two.1 k j h l w is)

    mutual
      pub stmt_in_range :
          (may_break may_continue : Bool) (s : CoreStmtTree)
          → stmt_fits u f may_break may_continue s ≡ true
          → (k j : Continuations) → AllInRange R u f start k j
          → RelatedInRange R u f start (runs s one k) (runs s other j)
      stmt_in_range b c skip fit k j h l w is = h.next l w is
      stmt_in_range b c (seq ss) fit k j h l w is = stmts_in_range b c ss fit k j h l w is
      stmt_in_range b c (assign x e) fit k j h l w is =
          let two = and_parts (expr_fits u f e) (is_type (target_type f x) (type_of e)) fit in
          given_in_range (value e l w.memory) _ _ (λ v i.
          h.next _ w (moment_assigned u f start x l w v
          (of_type w.memory (target_type f x) (type_of e) v
          (type_is (target_type f x) (type_of e) two.1)
          (value_is_of u f e l w v two.0 is.range i)) is))
      stmt_in_range b c (store s p e) fit k j h l w is =
          let three = and_parts (pointer_fits u f p && expr_fits u f e)
          (same_scalar (type_of e) s) fit in
          let two = and_parts (pointer_fits u f p) (expr_fits u f e) three.0 in
          pointer_in_range p l w _ _ (λ q. given_in_range (value e l w.memory) _ _
          (λ v i. given_in_range (memory.store s w.memory q v) _ _ (λ m stored.
          h.next l _ (moment_stepped u f start l w m is
          (memory_goes_on.store s w.memory m q v stored)
          (soundness_is_kept.store s w.memory m q v is.range.ready.sound
          (value_is_of u f e l w v two.1 is.range i).sound stored)))))
      stmt_in_range b c (copy size alignment p q) fit k j h l w is =
          pointer_in_range p l w _ _ (λ x. pointer_in_range q l w _ _
          (λ y. given_in_range (memory.copy size alignment w.memory x y) _ _ (λ m copied.
          h.next l _ (moment_stepped u f start l w m is
          (memory_goes_on.copy size alignment w.memory m x y copied)
          (soundness_is_kept.copy size alignment w.memory m x y is.range.ready.sound copied)))))
      stmt_in_range b c (fill blank p) fit k j h l w is =
          pointer_in_range p l w _ _ (λ x. given_in_range (memory.fill blank w.memory x) _ _
          (λ m filled.
          h.next l _ (moment_stepped u f start l w m is
          (memory_goes_on.fill blank w.memory m x filled)
          (soundness_is_kept.fill blank w.memory m x is.range.ready.sound filled))))
      stmt_in_range b c (call x g es) fit k j h l w is =
          let two = and_parts (exprs_fit u f es)
          (call_fits f x (signature_of (interface_of u) g) es) fit in
          given_in_range (values es l w.memory) _ _ (λ vs i.
          call_in_range x g es (signature_of (interface_of u) g) refl two.1 two.0 k.next j.next
          h.next l w is vs i)
      stmt_in_range b c (branch e p q) fit k j h l w is =
          let three = and_parts (expr_fits u f e && stmt_fits u f b c p) (stmt_fits u f b c q) fit in
          let two = and_parts (expr_fits u f e) (stmt_fits u f b c p) three.0 in
          given_in_range (value e l w.memory) _ _
          (λ v i. given_in_range (truth w.memory v) _ _ (λ yes t.
          either_in_range yes _ _ _ _ (stmt_in_range b c p two.1 k j h l w is)
          (stmt_in_range b c q three.1 k j h l w is)))
      stmt_in_range b c (loop body step) fit k j h l w is =
          let two = and_parts (stmt_fits u f true true body) (stmt_fits u f true false step) fit in
          turns_in_range turns _ _ (λ again more fg.
          let st = stmt_in_range true false step two.1 (after_step k again) (after_step j more)
          (record { next = fg; on_break = h.next; on_continue = fg; on_return = h.on_return })
          in
          stmt_in_range true true body two.0 _ _
          (record { next = st; on_break = h.next; on_continue = st; on_return = h.on_return })) l w
          is
      stmt_in_range b c (switch e labels ss) fit k j h l w is =
          let two = and_parts _ (stmts_fit u f true c ss) fit in
          given_in_range (value e l w.memory) _ _ (λ v i. given_in_range (as_integer v) _ _ (λ n m.
          part_in_range (chosen_part labels n) _ _ (λ part. parts_in_range c ss part two.1 _ _ (record {
            next = h.next;
            on_break = h.next;
            on_continue = h.on_continue;
            on_return = h.on_return;
          })) _ _ h.next l w is))
      stmt_in_range b c break fit k j h l w is = h.on_break l w is
      stmt_in_range b c continue fit k j h l w is = h.on_continue l w is
      stmt_in_range b c (return None) fit k j h l w is =
          h.on_return None w (record { typed = tt; ready = is.range.ready; after = is.after })
      stmt_in_range b c (return (Some e)) fit k j h l w is =
          let two = and_parts (expr_fits u f e) (is_type f.result_type (type_of e)) fit in
          given_in_range (value e l w.memory) _ _ (λ v i.
          h.on_return (Some v) w (record {
            typed =
                subst (λ (o : Option Scalar). ResultIsOf w.memory o (Some v))
                (sym (type_is f.result_type (type_of e) two.1))
                (value_is_of u f e l w v two.0 is.range i);
            ready = is.range.ready;
            after = is.after;
          }))

      pub stmts_in_range :
          (may_break may_continue : Bool) (ss : CoreStmts)
          → stmts_fit u f may_break may_continue ss ≡ true
          → (k j : Continuations) → AllInRange R u f start k j
          → RelatedInRange R u f start (runs_all ss one k) (runs_all ss other j)
      stmts_in_range b c no_stmts fit k j h l w is = h.next l w is
      stmts_in_range b c (stmt_and s ss) fit k j h l w is =
          let two = and_parts (stmt_fits u f b c s) (stmts_fit u f b c ss) fit in
          stmt_in_range b c s two.0 _ _
          (record {
            next = stmts_in_range b c ss two.1 k j h;
            on_break = h.on_break;
            on_continue = h.on_continue;
            on_return = h.on_return;
          }) l w is

      pub parts_in_range :
          (may_continue : Bool) (ss : CoreStmts) (part : ℕ) → stmts_fit u f true may_continue ss ≡ true
          → (k j : Continuations) → AllInRange R u f start k j
          → RelatedInRange R u f start (runs_from ss part one k) (runs_from ss part other j)
      parts_in_range c no_stmts part fit k j h l w is = h.next l w is
      parts_in_range c (stmt_and s ss) zero fit k j h l w is =
          let two = and_parts (stmt_fits u f true c s) (stmts_fit u f true c ss) fit in
          stmt_in_range true c s two.0 _ _
          (record {
            next = stmts_in_range true c ss two.1 k j h;
            on_break = h.on_break;
            on_continue = h.on_continue;
            on_return = h.on_return;
          }) l w is
      parts_in_range c (stmt_and s ss) (suc part) fit k j h l w is =
          parts_in_range c ss part (and_parts (stmt_fits u f true c s) (stmts_fit u f true c ss) fit).1 k j h l w is

  -- ---- calls

  returned_later :
      (result_type : Option Scalar) (start : Memory) (first : ℕ) (result : Option Value) (w : World)
      → IsReturn (interface_of u) result_type start result w
      → IsReturn (interface_of u) result_type start result (with_memory w (release first w.memory))
  returned_later result_type start first result w h =
      let on = after_release first w.memory in
      record {
        typed = result_is_of_later w.memory (release first w.memory) result_type result on h.typed;
        ready = ready_later (interface_of u) w (release first w.memory) h.ready on
            (soundness_is_kept.release first w.memory h.ready.sound);
        after = after_next start w.memory (release first w.memory) h.after on;
      }

  pub calls_in_range :
      (turns depth : ℕ) → CallsInRange R u (calls_within u turns depth) (calls_within u turns depth)
  calls_in_range turns zero number vs k j w may h = shorts
  calls_in_range turns (suc depth) number vs k j w may h =
      given_in_range (slice_get u.functions number) _ _ (λ f is.
      let known : slice_get (interface_of u).functions number ≡ Some (signature f) =
      slice_get-map signature u.functions number ∙ ap (option_map signature) is in
      let fit = function_at_fits u fits number f is in
      let first : ℕ = length w.memory in
      let m : Memory = make f.blocks w.memory in
      let on = after_make f.blocks w.memory in
      let count = (blocks_are_fresh f.blocks w.memory).count in
      let are = subst (λ (o : Option Signature). Takes w.memory o vs) known may.takes in
      let returns = subst (λ (o : Option Signature). ReturnsInRange R u
      (result_type_of o) w.memory k j) known h in
      keeps.emit _ _ _ (pass_in_range f w.memory first 0 f.parameters f.variables vs no_values
      (with_memory w m) _ _
      (λ x. ap (slice_get f.variables) (omega arith)) fit.parameters
      (are_of_later w.memory m (parameter_types f) vs on are)
      (record {
        variables = no_values_are_of m (variable_type f);
        ready = ready_later (interface_of u) w m may.ready on
            (soundness_is_kept.make f.blocks w.memory may.ready.sound);
        after = on;
        blocks = omega (arith, count);
      })
      (λ e v passed.
      stmts_in_range turns _ _ (calls_in_range turns depth) f w.memory false false f.body fit.body _
      _
      (record {
        next = λ l x moment.
            keeps.emit _ _ _ (returns None _ (returned_later f.result_type w.memory first None x
            (record { typed = tt; ready = moment.range.ready; after = moment.after })));
        on_break = λ l x moment. keeps.undefined;
        on_continue = λ l x moment. keeps.undefined;
        on_return = λ result x r. keeps.emit _ _ _
            (returns result _ (returned_later f.result_type w.memory first result x r));
      })
      (record { first_block = first; variables = e; temporaries = no_values }) v
      (record {
        range = record {
          variables = passed.variables;
          temporaries = no_values_are_of v.memory (temporary_type f);
          blocks = passed.blocks;
          ready = passed.ready;
        };
        after = passed.after;
      }))))

-- ---- what follows at other moments makes no difference

same_keeps : Keeps ◌≡◌
same_keeps = record { emit = λ event o p h. ap (emit event) h; undefined = refl }

pub calls_stay_in_range : CallsStayInRange
calls_stay_in_range u turns depth fits = calls_in_range ◌≡◌ same_keeps refl u fits turns depth

pub bodies_stay_in_range : BodiesStayInRange
bodies_stay_in_range u turns depth f b c ss start k j fits fit h l w is =
    stmts_in_range ◌≡◌ same_keeps refl u fits turns _ _
    (calls_in_range ◌≡◌ same_keeps refl u fits turns depth) f start b c ss fit k j h l w is

-- ---- what a run leaves

-- what the first run leaves is in range
abbrev Leaves : CoreUnitTree → (result_type : Option Scalar) → (start : Memory) → Relation
Leaves u result_type start o p =
    (left : Left Value Memory) → ending_of o ≡ has_ended left
    → IsReturn (interface_of u) result_type start left.result
    (record { memory = left.memory; input = left.input })

leaves_keeps :
    (u : CoreUnitTree) (result_type : Option Scalar) (start : Memory)
    → Keeps (Leaves u result_type start)
leaves_keeps u result_type start = record { emit = λ event o p h. h; undefined = λ left is. cc }

pub runs_leave_sound : RunsLeaveSound
runs_leave_sound u root arguments w n left fits may is =
    calls_in_range (Leaves u (result_type_at u root) w.memory)
    (leaves_keeps u (result_type_at u root) w.memory) (λ left is. cc) u fits n n root
    arguments leaves leaves w may
    (λ result v r other ended.
    subst (λ (x : Left Value Memory). IsReturn (interface_of u)
    (result_type_at u root) w.memory x.result (record { memory = x.memory; input = x.input }))
    (ended_same _ other ended) r)
    left is
  where
    ended_same : (x y : Left Value Memory) → has_ended x ≡ has_ended y → x ≡ y
    ended_same x y h = cc
