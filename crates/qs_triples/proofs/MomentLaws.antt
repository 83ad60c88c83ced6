-- Moments: the entry of a call, its return, and what a call's result does.
use Rattle.std.proofs.Common.{◌≡◌, ℕ, suc, ◌+◌, ◌≤◌, ◌==◌, ◌&&◌, not, true, List, [], ◌∷◌, length, map, Option, Some, None, option_map, refl, sym, ap, ◌∙◌, subst, arith}
use Rattle.std.specs.Prelude.{bytes_eq}
use Rattle.std.specs.List.{slice_get}
use Rattle.std.proofs.lemmas.Bool.Decides.{nat_tests}
use Rattle.std.proofs.lemmas.Bool.{and_parts}
use Rattle.qs_memory.specs.Values.{into, Value, integer}
use Rattle.qs_memory.specs.Memory.{Memory, release}
use Rattle.qs_memory.specs.Memory as memory
use Rattle.qs_memory.specs.Soundness.{ComesAfter}
use Rattle.qs_memory.proofs.ScalarLaws.{type_is}
use Rattle.qs_memory.specs.declared.scalar.Scalar.{Scalar}
use Rattle.qs_memory.proofs.BlockLaws.{after_release, after_same, after_next}
use Rattle.qs_memory.proofs.StepLaws.{memory_goes_on}
use Rattle.qs_memory.proofs.SoundLaws.{soundness_is_kept}
use Rattle.qs_events.specs.Weights.{Metric, run_weight_by}
use Rattle.qs_calls.specs.World.{World, with_memory, Environment, no_values, with_value}
use Rattle.qs_calls.specs.Calls.{Entered, pass}
use Rattle.qs_calls.specs.Starts.{IsOf, AreOf, ResultIsOf, IsReady, IsReturn}
use Rattle.qs_calls.specs.declared.parameter.Parameter.{Parameter}
use Rattle.qs_calls.specs.declared.parameter.Parameter.TheVariants.{Plain, Placed}
use Rattle.qs_calls.proofs.StartLaws.{are_of_later, result_is_of_later, ready_later}
use Rattle.qs_assert.specs.Values.{Extended}
use Rattle.qs_core.specs.declared.numbers.Target.TheVariants as targets
use Rattle.qs_core.specs.Trees.{CoreExprTree, CoreParameterTree, CoreVariableTree, CoreFunctionTree, CoreUnitTree}
use Rattle.qs_core.specs.Expressions.{Locals}
use Rattle.qs_core.specs.Statements.{Continuation, assigned, take_result}
use Rattle.qs_core.specs.Interfaces.{variable_type, temporary_type, types_of, parameter_types, interface_of}
use Rattle.qs_core.specs.Fits.{any_mentions, taken_fits, destination_fits, place_fits, parameter_fits, parameters_fit}
use Rattle.qs_core.specs.Ranges.{VariablesAreOf, IsMoment}
use Rattle.qs_core.proofs.RangeLaws.{variables_later, no_values_are_of, with_value_are_of, of_type, moment_later, moment_assigned}
use Rattle.qs_triples.specs.Valuations.{passed}
use Rattle.qs_triples.proofs.Bounds.{IsBelow, given_below}

-- ---- the entry

-- while arguments are passed
record Passed (u : CoreUnitTree) (f : CoreFunctionTree) (start : Memory) (first : ℕ) (e : Environment) (w : World) : Type 0 where
  variables : VariablesAreOf w.memory (variable_type f) e
  ready : IsReady (interface_of u) w
  after : ComesAfter start w.memory
  blocks : first + length f.blocks ≤ length w.memory

abbrev pub entry_locals : (first : ℕ) → Environment → Locals
entry_locals first e = record { first_block = first; variables = e; temporaries = no_values }

module _ (metric : Metric) (a : Extended) (more : ℕ) (u : CoreUnitTree) (f : CoreFunctionTree) (start : Memory) (first : ℕ) where
  abbrev From : ℕ → List CoreVariableTree → Type 0
  From i vs = (x : ℕ) → slice_get f.variables (i + x) ≡ slice_get vs x

  next_from : (i : ℕ) (v : CoreVariableTree) (vs : List CoreVariableTree) → From i (v ∷ vs) → From (i + 1) vs
  next_from i v vs from x =
      let same : i + 1 + x ≡ i + suc x = omega arith in
      ap (slice_get f.variables) same ∙ from (suc x)

  type_from : (i : ℕ) (v : CoreVariableTree) (vs : List CoreVariableTree) → From i (v ∷ vs) → variable_type f i ≡ Some v.scalar
  type_from i v vs from =
      let same : i ≡ i + 0 = omega arith in
      ap (λ (x : ℕ). variable_type f x) same ∙ ap (option_map (λ v. v.scalar)) (from 0)

  one_passed :
      (i : ℕ) (s : Scalar) (place : Parameter) (places : List Parameter) (v : Value) (vs : List Value) (e : Environment) (w : World) (k : Entered)
      → place_fits f.blocks i s place ≡ true → variable_type f i ≡ Some s → IsOf w.memory s v → Passed u f start first e w
      → ((d : Environment) (x : World) → ComesAfter w.memory x.memory → Passed u f start first d x → passed places vs d ≡ passed (place ∷ places) (v ∷ vs) e → IsBelow (run_weight_by metric (pass places vs first d x k)) a more)
      → IsBelow (run_weight_by metric (pass (place ∷ places) (v ∷ vs) first e w k)) a more
  one_passed i s (Plain x) places v vs e w k fit type of is h =
      let here : i ≡ x = grind (arith, nat_tests, fit) in
      let types = ap (λ (y : ℕ). variable_type f y) (sym here) ∙ type in
      h (with_value e x v) w (after_same w.memory) (record {
        variables = with_value_are_of w.memory (variable_type f) e x v is.variables (of_type w.memory (variable_type f x) s v types of);
        ready = is.ready;
        after = is.after;
        blocks = is.blocks;
      }) refl
  one_passed i s (Placed b t) places v vs e w k fit type of is h =
      given_below metric (memory.store t w.memory (into (first + b) 0) v) _ a more (λ m stored.
      let on = memory_goes_on.store t w.memory m (into (first + b) 0) v stored in
      let sound = soundness_is_kept.store t w.memory m (into (first + b) 0) v is.ready.sound of.sound stored in
      h e (with_memory w m) on (record {
        variables = variables_later w.memory m (variable_type f) e on is.variables;
        ready = ready_later (interface_of u) w m is.ready on sound;
        after = after_next start w.memory m is.after on;
        blocks = let longer = on.longer in let room = is.blocks in omega arith;
      }) refl)

  pass_below :
      (i : ℕ) (ps : List CoreParameterTree) (xs : List CoreVariableTree) (vs : List Value) (e : Environment) (w : World) (k : Entered)
      → From i xs → parameters_fit f.blocks i ps xs ≡ true → AreOf w.memory (types_of ps xs) vs → Passed u f start first e w
      → ((w : World) → Passed u f start first (passed (map (λ p. p.place) ps) vs e) w → IsBelow (run_weight_by metric (k (passed (map (λ p. p.place) ps) vs e) w)) a more)
      → IsBelow (run_weight_by metric (pass (map (λ p. p.place) ps) vs first e w k)) a more
  pass_below i [] xs [] e w k from fit are is h = h w is
  pass_below i [] xs (v ∷ vs) e w k from fit are is h = absurd are
  pass_below i (p ∷ ps) [] vs e w k from fit are is h = cc
  pass_below i (p ∷ ps) (x ∷ xs) [] e w k from fit are is h = absurd are
  pass_below i (p ∷ ps) (x ∷ xs) (v ∷ vs) e w k from fit are is h =
      let two = and_parts (parameter_fits f.blocks i p x) (parameters_fit f.blocks (i + 1) ps xs) fit in
      let place = and_parts (bytes_eq p.name x.name && x.ordinal == 1) (place_fits f.blocks i x.scalar p.place) two.0 in
      one_passed i x.scalar p.place (map (λ p. p.place) ps) v vs e w k place.1 (type_from i x xs from) are.0 is
      (λ d y on passing same.
      pass_below (i + 1) ps xs vs d y k (next_from i x xs from) two.1 (are_of_later w.memory y.memory (types_of ps xs) vs on are.1) passing
      (λ w. subst (λ (e' : Environment). (Passed u f start first e' w → IsBelow (run_weight_by metric (k e' w)) a more)) (sym same) (h w)))

  -- the body of a call begins at a moment, with the parameters' values
  pub entry_below :
      (vs : List Value) (w : World) (k : Entered) → parameters_fit f.blocks 0 f.parameters f.variables ≡ true
      → AreOf w.memory (parameter_types f) vs → IsReady (interface_of u) w → ComesAfter start w.memory → first + length f.blocks ≤ length w.memory
      → ((w : World) → IsMoment u f start (entry_locals first (passed (map (λ p. p.place) f.parameters) vs no_values)) w → IsBelow (run_weight_by metric (k (passed (map (λ p. p.place) f.parameters) vs no_values) w)) a more)
      → IsBelow (run_weight_by metric (pass (map (λ p. p.place) f.parameters) vs first no_values w k)) a more
  entry_below vs w k fit are ready after room h =
      pass_below 0 f.parameters f.variables vs no_values w k (λ x. ap (slice_get f.variables) (omega arith)) fit are
      (record { variables = no_values_are_of w.memory (variable_type f); ready = ready; after = after; blocks = room })
      (λ v passing. h v (record {
        range = record {
          variables = passing.variables;
          temporaries = no_values_are_of v.memory (temporary_type f);
          blocks = passing.blocks;
          ready = passing.ready;
        };
        after = passing.after;
      }))

-- ---- the return

pub returned_later :
    (u : CoreUnitTree) (result_type : Option Scalar) (start : Memory) (first : ℕ) (result : Option Value) (w : World)
    → IsReturn (interface_of u) result_type start result w → IsReturn (interface_of u) result_type start result (with_memory w (release first w.memory))
returned_later u result_type start first result w h =
    let on = after_release first w.memory in
    record {
      typed = result_is_of_later w.memory (release first w.memory) result_type result on h.typed;
      ready = ready_later (interface_of u) w (release first w.memory) h.ready on (soundness_is_kept.release first w.memory h.ready.sound);
      after = after_next start w.memory (release first w.memory) h.after on;
    }

-- ---- what a call's result does

-- the locals where the result has this value
abbrev pub landed : (destination : Option ℕ) → Locals → Value → Locals
landed None l v = l
landed (Some k) l v = assigned (targets.Temporary k) l v

-- the result, where there is a destination
abbrev pub IsResult : (destination : Option ℕ) → (result : Option Value) → Value → Type 0
IsResult None result v = Unit {0}
IsResult (Some k) result v = result ≡ Some v

module _ (metric : Metric) (a : Extended) (more : ℕ) (u : CoreUnitTree) (f : CoreFunctionTree) (start : Memory) where
  taken :
      (result_type : Option Scalar) (k : ℕ) → taken_fits f result_type k ≡ true → (m : Memory) (v : Value) → ResultIsOf m result_type (Some v)
      → (s : Scalar) → temporary_type f k ≡ Some s → IsOf m s v
  taken None k fit m v h s is = cc
  taken (Some t) k fit m v h s is = of_type m (temporary_type f k) t v (type_is (temporary_type f k) t fit) h s is

  pub result_below :
      (result_type : Option Scalar) (x : Option ℕ) (es : List CoreExprTree) → destination_fits f result_type x es ≡ true
      → (next : Continuation) (l : Locals) (w : World) → IsMoment u f start l w
      → (result : Option Value) (z : World) → IsReturn (interface_of u) result_type w.memory result z
      → ((v : Value) → IsResult x result v → IsMoment u f start (landed x l v) z → IsBelow (run_weight_by metric (next (landed x l v) z)) a more)
      → IsBelow (run_weight_by metric (take_result x next l result z)) a more
  result_below result_type None es fit next l w is result z r h = h (integer 0) tt (moment_later u f start l w z is r.after r.ready)
  result_below result_type (Some k) es fit next l w is result z r h =
      let first = and_parts (taken_fits f result_type k) (not (any_mentions k es)) fit in
      given_below metric result _ a more (λ v some.
      h v some (moment_assigned u f start (targets.Temporary k) l z v
      (taken result_type k first.0 z.memory v (subst (λ (o : Option Value). ResultIsOf z.memory result_type o) some r.typed))
      (moment_later u f start l w z is r.after r.ready)))
