-- Metrics that agree on a unit's functions give its runs the same weight.
use Rattle.std.proofs.Common.{◌≡◌, ℕ, zero, suc, ◌+◌, ◌-◌, ◌<◌, List, [], ◌∷◌, length, Option, Some, None, refl, ap, ◌∙◌}
use Rattle.std.specs.Prelude.{slice_get}
use Rattle.std.proofs.lemmas.Option.{slice_get_within}
use Rattle.qs_memory.specs.Values.{Value, integer, address, into}
use Rattle.qs_memory.specs.Memory.{Memory, store, make, release}
use Rattle.qs_events.specs.Events.{Event, Calls, Returns, Takes, TakesEnd, Puts}
use Rattle.qs_events.specs.Runs.{emit, given, events_of}
use Rattle.qs_events.specs.Weights.{Costs}
use Rattle.qs_events.specs.Weights.{weight as weight_of}
use Rattle.qs_calls.specs.World.{World, RootRun, Return, Environment, with_memory, no_values, with_value, leaves}
use Rattle.qs_calls.specs.Calls.{CallsOf, Entered, invoke, take_byte, put_char, get_char, pass, activate}
use Rattle.qs_calls.specs.declared.callee.Callee.{Callee}
use Rattle.qs_calls.specs.declared.callee.Callee.TheVariants.{Function, PutChar, GetChar}
use Rattle.qs_calls.specs.declared.parameter.Parameter.{Parameter}
use Rattle.qs_calls.specs.declared.parameter.Parameter.TheVariants.{Plain, Placed}
use Rattle.qs_tac.specs.Trees.{InstructionTree, move, unary, binary, convert, address_of, load, copy, fill, call, jump, branch, return, TacFunctionTree, TacUnitTree}
use Rattle.qs_tac.specs.Trees.{store as store_there}
use Rattle.qs_tac.specs.Holders.{Holder, temporaries}
use Rattle.qs_tac.specs.Values.{Activation, operand, operands, holds}
use Rattle.qs_tac.specs.Steps.{Waiting, Next, gives, leaves_memory, take_result, resume, begins, frame_of, enters, ends, waits, step, instruction_at, steps}
use Rattle.qs_tac.specs.Units.{run, tac_run}
use Rattle.qs_emit.specs.Entries.{x2_behind}

-- two metrics see the same of a trace
pub record SameStack (costs others : Costs) (trace : List Event) : Type 0 where
  pub weight : weight_of costs trace ≡ weight_of others trace
  pub x2 : (x2 : ℕ) → x2_behind costs trace x2 ≡ x2_behind others trace x2

abbrev DoesNotMove : Event → Type 0
DoesNotMove (Calls f) = ⊥
DoesNotMove (Returns f) = ⊥
DoesNotMove (Takes byte) = Unit {0}
DoesNotMove TakesEnd = Unit {0}
DoesNotMove (Puts byte) = Unit {0}

module _ (u : TacUnitTree) (costs others : Costs) (same : (f : ℕ) → f < length u.functions → costs f ≡ others f) where
  abbrev Weighs : RootRun → Type 0
  Weighs o = SameStack costs others (events_of o)

  no_events : SameStack costs others []
  no_events = record { weight = refl; x2 = λ x2. refl }

  abbrev ReturnWeighs : Return → Type 0
  ReturnWeighs k = (result : Option Value) (w : World) → Weighs (k result w)

  given_weighs : {A : Type 0} → (o : Option A) (next : A → RootRun) → ((v : A) → Weighs (next v)) → Weighs (given o next)
  given_weighs None next h = no_events
  given_weighs (Some v) next h = h v

  called : (f : ℕ) → f < length u.functions → (o : RootRun) → Weighs o → Weighs (emit (Calls f) o)
  called f lt o h = record {
    weight = ap (λ (n : ℕ). n + weight_of costs (events_of o)) (same f lt) ∙ ap (λ (n : ℕ). others f + n) h.weight;
    x2 = λ x2. ap (λ (n : ℕ). x2_behind costs (events_of o) (x2 - n)) (same f lt) ∙ h.x2 (x2 - others f);
  }

  returned : (f : ℕ) → f < length u.functions → (o : RootRun) → Weighs o → Weighs (emit (Returns f) o)
  returned f lt o h = record {
    weight = ap (λ (n : ℕ). weight_of costs (events_of o) - n) (same f lt) ∙ ap (λ (n : ℕ). n - others f) h.weight;
    x2 = λ x2. ap (λ (n : ℕ). x2_behind costs (events_of o) (x2 + n)) (same f lt) ∙ h.x2 (x2 + others f);
  }

  -- an event that moves no frame
  still : (e : Event) (o : RootRun) → DoesNotMove e → Weighs o → Weighs (emit e o)
  still (Calls f) o stays h = absurd stays
  still (Returns f) o stays h = absurd stays
  still (Takes byte) o stays h = record { weight = h.weight; x2 = h.x2 }
  still TakesEnd o stays h = record { weight = h.weight; x2 = h.x2 }
  still (Puts byte) o stays h = record { weight = h.weight; x2 = h.x2 }

  -- ---- calls

  put_weighs : (vs : List Value) (k : Return) (w : World) → ReturnWeighs k → Weighs (put_char vs k w)
  put_weighs [] k w h = no_events
  put_weighs (integer c ∷ []) k w h = still (Puts _) _ tt (h _ w)
  put_weighs (integer c ∷ v ∷ vs) k w h = no_events
  put_weighs (address p ∷ vs) k w h = no_events

  take_weighs : (input : List ℕ) (k : Return) (w : World) → ReturnWeighs k → Weighs (take_byte input k w)
  take_weighs [] k w h = still TakesEnd _ tt (h _ w)
  take_weighs (b ∷ input) k w h = still (Takes b) _ tt (h _ _)

  get_weighs : (vs : List Value) (k : Return) (w : World) → ReturnWeighs k → Weighs (get_char vs k w)
  get_weighs [] k w h = take_weighs w.input k w h
  get_weighs (v ∷ vs) k w h = no_events

  invoke_weighs : (f : Callee) (calls : CallsOf) (vs : List Value) (k : Return) (w : World) → ((g : ℕ) → Weighs (calls g vs k w)) → ReturnWeighs k → Weighs (invoke f calls vs k w)
  invoke_weighs (Function f) calls vs k w h r = h f.0
  invoke_weighs PutChar calls vs k w h r = put_weighs vs k w r
  invoke_weighs GetChar calls vs k w h r = get_weighs vs k w r

  pass_weighs : (ps : List Parameter) (vs : List Value) (first : ℕ) (e : Environment) (w : World) (k : Entered) → ((e : Environment) (w : World) → Weighs (k e w)) → Weighs (pass ps vs first e w k)
  pass_weighs [] [] first e w k h = h e w
  pass_weighs [] (v ∷ vs) first e w k h = no_events
  pass_weighs (p ∷ ps) [] first e w k h = no_events
  pass_weighs (Plain x ∷ ps) (v ∷ vs) first e w k h = pass_weighs ps vs first (with_value e x v) w k h
  pass_weighs (Placed i s ∷ ps) (v ∷ vs) first e w k h =
      given_weighs (store s w.memory (into (first + i) 0) v) _ (λ m. pass_weighs ps vs first e (with_memory w m) k h)

  -- ---- steps

  module _ {S : Type 0} (h : Holder S) where
    abbrev AreKnown : List (Waiting S) → Type 0
    AreKnown [] = Unit {0}
    AreKnown (c ∷ stack) = (c.activation.function < length u.functions) × AreKnown stack

    abbrev NextWeighs : Next S → Type 0
    NextWeighs next = (a : Activation S) (w : World) (stack : List (Waiting S)) → a.function < length u.functions → AreKnown stack → Weighs (next a w stack)

    module _ (next : Next S) (more : NextWeighs next) where
      gives_weighs : (x : ℕ) (o : Option Value) → NextWeighs (gives h next x o)
      gives_weighs x o a w stack lt known = given_weighs o _ (λ v. more _ w stack lt known)

      memory_weighs : (o : Option Memory) → NextWeighs (leaves_memory next o)
      memory_weighs o a w stack lt known = given_weighs o _ (λ m. more _ _ stack lt known)

      result_weighs : (x : Option ℕ) (a : Activation S) (stack : List (Waiting S)) → a.function < length u.functions → AreKnown stack → ReturnWeighs (take_result h next x a stack)
      result_weighs None a stack lt known result w = more a w stack lt known
      result_weighs (Some x) a stack lt known result w = given_weighs result _ (λ v. more _ w stack lt known)

      resume_weighs : (stack : List (Waiting S)) → AreKnown stack → ReturnWeighs (resume h next stack)
      resume_weighs [] known result w = no_events
      resume_weighs (c ∷ stack) known result w = result_weighs c.taken_by c.activation stack known.0 known.1 result w

      enters_weigh : (stack : List (Waiting S)) → AreKnown stack → (f : ℕ) (vs : List Value) (k : Return) (w : World) → Weighs (enters h u next stack f vs k w)
      enters_weigh stack known f vs k w = by (slice_get u.functions f) refl
        where
          by : (o : Option TacFunctionTree) → slice_get u.functions f ≡ o → Weighs (given o (λ g. activate f (frame_of g) (begins h next stack f) vs k w))
          by None e = no_events
          by (Some g) e =
              let lt = slice_get_within u.functions f g e in
              called f lt _ (pass_weighs g.parameters vs (length w.memory) no_values (with_memory w (make g.blocks w.memory)) _ (λ e v. more _ v stack lt known))

      ends_weigh : (a : Activation S) (stack : List (Waiting S)) → a.function < length u.functions → AreKnown stack → ReturnWeighs (ends h next a stack)
      ends_weigh a stack lt known result w = returned a.function lt _ (resume_weighs stack known result (with_memory w (release a.first_block w.memory)))

      step_weighs : (i : Option InstructionTree) → NextWeighs (step h u i next)
      step_weighs None a w stack lt known = no_events
      step_weighs (Some (move x o)) a w stack lt known = gives_weighs x _ a w stack lt known
      step_weighs (Some (unary op x o)) a w stack lt known = gives_weighs x _ a w stack lt known
      step_weighs (Some (binary op x o p)) a w stack lt known = gives_weighs x _ a w stack lt known
      step_weighs (Some (convert s x o)) a w stack lt known = gives_weighs x _ a w stack lt known
      step_weighs (Some (address_of x p)) a w stack lt known = gives_weighs x _ a w stack lt known
      step_weighs (Some (load s x p)) a w stack lt known = gives_weighs x _ a w stack lt known
      step_weighs (Some (store_there s p o)) a w stack lt known = memory_weighs _ a w stack lt known
      step_weighs (Some (copy size alignment p q)) a w stack lt known = memory_weighs _ a w stack lt known
      step_weighs (Some (fill blank p)) a w stack lt known = memory_weighs _ a w stack lt known
      step_weighs (Some (call x f arguments)) a w stack lt known =
          given_weighs (operands h arguments a) _
          (λ vs. invoke_weighs f _ vs _ w (λ g. enters_weigh (record { activation = waits h a; taken_by = x } ∷ stack) (lt, known) g vs (take_result h next x (waits h a) stack) w) (result_weighs x (waits h a) stack lt known))
      step_weighs (Some (jump to)) a w stack lt known = more _ w stack lt known
      step_weighs (Some (branch c to)) a w stack lt known = given_weighs (holds h c a w.memory) _ (λ yes. more _ w stack lt known)
      step_weighs (Some (return None)) a w stack lt known = ends_weigh a stack lt known None w
      step_weighs (Some (return (Some o))) a w stack lt known = given_weighs (operand h o a) _ (λ v. ends_weigh a stack lt known (Some v) w)

    steps_weigh : (m : ℕ) → NextWeighs (steps h u m)
    steps_weigh zero a w stack lt known = no_events
    steps_weigh (suc m) a w stack lt known = step_weighs (steps h u m) (steps_weigh m) (instruction_at u a) a w stack lt known

    run_weighs : (root : ℕ) (arguments : List Value) (w : World) (m : ℕ) → Weighs (run h u root arguments w m)
    run_weighs root arguments w zero = no_events
    run_weighs root arguments w (suc m) = enters_weigh (steps h u m) (steps_weigh m) [] tt root arguments leaves w

  pub tac_run_weighs : (root : ℕ) (arguments : List Value) (w : World) (m : ℕ) → Weighs (tac_run u root arguments w m)
  tac_run_weighs root arguments w m = run_weighs temporaries root arguments w m
