-- A step goes on at one moment at most: what it makes depends on what follows at that moment alone.
use Rattle.std.proofs.Common.{◌≡◌, ℕ, ◌+◌, if◌then◌else◌, List, [], ◌∷◌, length, Option, Some, None, refl, ap}
use Rattle.std.specs.List.{slice_get}
use Rattle.qs_memory.specs.Values.{into, Value, integer, address}
use Rattle.qs_memory.specs.Memory.{Memory, store, make, release}
use Rattle.qs_events.specs.Events.{Event, Calls, Returns}
use Rattle.qs_events.specs.Runs.{emit, undefined, given}
use Rattle.qs_calls.specs.World.{World, with_memory, RootRun, Return, leaves, Environment, no_values, with_value}
use Rattle.qs_calls.specs.Calls.{take_byte, get_char, put_char, invoke, Entered, pass}
use Rattle.qs_calls.specs.declared.callee.Callee.{Callee}
use Rattle.qs_calls.specs.declared.callee.Callee.TheVariants.{Function, PutChar, GetChar}
use Rattle.qs_calls.specs.declared.parameter.Parameter.{Parameter}
use Rattle.qs_calls.specs.declared.parameter.Parameter.TheVariants.{Plain, Placed}
use Rattle.qs_tac.specs.Trees as tac
use Rattle.qs_tac.specs.Trees.{InstructionTree, move, unary, binary, convert, address_of, load, copy, fill, call, jump, branch, return, TacUnitTree}
use Rattle.qs_tac.specs.Holders.{Holder}
use Rattle.qs_tac.specs.Values.{Activation, operand, operands, holds}
use Rattle.qs_tac.specs.Steps.{Waiting, Next, going_to, onward, written, gives, leaves_memory, take_result, resume, enters, ends, waits, step}

-- a moment of a run
pub record Moment (S : Type 0) : Type 0 where
  pub activation : Activation S
  pub world : World
  pub stack : List (Waiting S)

abbrev pub follows_at : {S : Type 0} → Next S → Moment S → RootRun
follows_at next at = next at.activation at.world at.stack

-- the same with whatever follows alike at one moment
pub record Once {S : Type 0} (F : Next S → RootRun) : Type 0 where
  pub at : Moment S
  pub same : (k j : Next S) → follows_at k at ≡ follows_at j at → F k ≡ F j

module _ {S : Type 0} (here : Moment S) where
  once_never : (o : RootRun) → Once (λ (k : Next S). o)
  once_never o = record { at = here; same = λ k j h. refl }

  once_at : (a : Activation S) (w : World) (stack : List (Waiting S)) → Once (λ (k : Next S). k a w stack)
  once_at a w stack = record { at = record { activation = a; world = w; stack = stack }; same = λ k j h. h }

  once_emit : (e : Event) (F : Next S → RootRun) → Once F → Once (λ (k : Next S). emit e (F k))
  once_emit e F o = record { at = o.at; same = λ k j h. ap (emit e) (o.same k j h) }

  once_given : {A : Type 0} → (o : Option A) (F : A → Next S → RootRun) → ((x : A) → Once (F x)) → Once (λ (k : Next S). given o (λ x. F x k))
  once_given None F h = once_never undefined
  once_given (Some x) F h = h x

  -- ---- calls

  once_result : (h : Holder S) (x : Option ℕ) (a : Activation S) (stack : List (Waiting S)) (result : Option Value) (w : World) → Once (λ (k : Next S). take_result h k x a stack result w)
  once_result h None a stack result w = once_at a w stack
  once_result h (Some x) a stack result w = once_given result (λ v k. k (written h x v a) w stack) (λ v. once_at (written h x v a) w stack)

  once_resume : (h : Holder S) (stack : List (Waiting S)) (result : Option Value) (w : World) → Once (λ (k : Next S). resume h k stack result w)
  once_resume h [] result w = once_never (leaves result w)
  once_resume h (c ∷ stack) result w = once_result h c.taken_by c.activation stack result w

  once_ends : (h : Holder S) (a : Activation S) (stack : List (Waiting S)) (result : Option Value) (w : World) → Once (λ (k : Next S). ends h k a stack result w)
  once_ends h a stack result w = once_emit (Returns a.function) _ (once_resume h stack result (with_memory w (release a.first_block w.memory)))

  once_pass :
      (ps : List Parameter) (vs : List Value) (first : ℕ) (e : Environment) (w : World) (F : Next S → Entered)
      → ((e : Environment) (w : World) → Once (λ (k : Next S). F k e w)) → Once (λ (k : Next S). pass ps vs first e w (F k))
  once_pass [] [] first e w F h = h e w
  once_pass [] (v ∷ vs) first e w F h = once_never undefined
  once_pass (Plain x ∷ ps) [] first e w F h = once_never undefined
  once_pass (Placed i s ∷ ps) [] first e w F h = once_never undefined
  once_pass (Plain x ∷ ps) (v ∷ vs) first e w F h = once_pass ps vs first (with_value e x v) w F h
  once_pass (Placed i s ∷ ps) (v ∷ vs) first e w F h =
      once_given (store s w.memory (into (first + i) 0) v) (λ m k. pass ps vs first e (with_memory w m) (F k))
      (λ m. once_pass ps vs first e (with_memory w m) F h)

  pub once_enters : (h : Holder S) (u : TacUnitTree) (stack : List (Waiting S)) (f : ℕ) (vs : List Value) (c : Next S → Return) (w : World) → Once (λ (k : Next S). enters h u k stack f vs (c k) w)
  once_enters h u stack f vs c w =
      once_given (slice_get u.functions f) _
      (λ g. once_emit (Calls f) _
      (once_pass g.parameters vs (length w.memory) no_values (with_memory w (make g.blocks w.memory)) _
      (λ e x. once_at (record { function = f; at = 0; first_block = length w.memory; held = h.enter f e }) x stack)))

  once_put : (vs : List Value) (c : Next S → Return) (w : World) → ((result : Option Value) (w : World) → Once (λ (k : Next S). c k result w)) → Once (λ (k : Next S). put_char vs (c k) w)
  once_put [] c w h = once_never undefined
  once_put (integer n ∷ []) c w h = once_emit _ _ (h _ w)
  once_put (integer n ∷ v ∷ others) c w h = once_never undefined
  once_put (address p ∷ others) c w h = once_never undefined

  once_take : (input : List ℕ) (c : Next S → Return) (w : World) → ((result : Option Value) (w : World) → Once (λ (k : Next S). c k result w)) → Once (λ (k : Next S). take_byte input (c k) w)
  once_take [] c w h = once_emit _ _ (h _ _)
  once_take (b ∷ input) c w h = once_emit _ _ (h _ _)

  once_get : (vs : List Value) (c : Next S → Return) (w : World) → ((result : Option Value) (w : World) → Once (λ (k : Next S). c k result w)) → Once (λ (k : Next S). get_char vs (c k) w)
  once_get [] c w h = once_take w.input c w h
  once_get (v ∷ others) c w h = once_never undefined

  once_invoke :
      (h : Holder S) (u : TacUnitTree) (f : Callee) (waiting : List (Waiting S)) (vs : List Value) (x : Option ℕ) (a : Activation S) (stack : List (Waiting S)) (w : World)
      → Once (λ (k : Next S). invoke f (enters h u k waiting) vs (take_result h k x a stack) w)
  once_invoke h u (Function f) waiting vs x a stack w = once_enters h u waiting f.0 vs (λ k. take_result h k x a stack) w
  once_invoke h u PutChar waiting vs x a stack w = once_put vs (λ k. take_result h k x a stack) w (once_result h x a stack)
  once_invoke h u GetChar waiting vs x a stack w = once_get vs (λ k. take_result h k x a stack) w (once_result h x a stack)

  -- ---- steps

  once_gives : (h : Holder S) (x : ℕ) (o : Option Value) (a : Activation S) (w : World) (stack : List (Waiting S)) → Once (λ (k : Next S). gives h k x o a w stack)
  once_gives h x o a w stack = once_given o (λ v k. k (onward (written h x v a)) w stack) (λ v. once_at (onward (written h x v a)) w stack)

  once_memory : (o : Option Memory) (a : Activation S) (w : World) (stack : List (Waiting S)) → Once (λ (k : Next S). leaves_memory k o a w stack)
  once_memory o a w stack = once_given o (λ m k. k (onward a) (with_memory w m) stack) (λ m. once_at (onward a) (with_memory w m) stack)

pub once_step : {S : Type 0} → (h : Holder S) (u : TacUnitTree) (i : Option InstructionTree) (a : Activation S) (w : World) (stack : List (Waiting S)) → Once (λ (k : Next S). step h u i k a w stack)
once_step {S} h u i a w stack = by i
  where
    here : Moment S
    here = record { activation = a; world = w; stack = stack }

    by : (i : Option InstructionTree) → Once (λ (k : Next S). step h u i k a w stack)
    by None = once_never here undefined
    by (Some (move x o)) = once_gives here h x _ a w stack
    by (Some (unary op x o)) = once_gives here h x _ a w stack
    by (Some (binary op x o p)) = once_gives here h x _ a w stack
    by (Some (convert s x o)) = once_gives here h x _ a w stack
    by (Some (address_of x p)) = once_gives here h x _ a w stack
    by (Some (load s x p)) = once_gives here h x _ a w stack
    by (Some (tac.store s p o)) = once_memory here _ a w stack
    by (Some (copy size alignment p q)) = once_memory here _ a w stack
    by (Some (fill blank p)) = once_memory here _ a w stack
    by (Some (call x f arguments)) =
        once_given here (operands h arguments a) _
        (λ vs. once_invoke here h u f (record { activation = waits h a; taken_by = x } ∷ stack) vs x (waits h a) stack w)
    by (Some (jump to)) = once_at here (going_to to a) w stack
    by (Some (branch c to)) =
        once_given here (holds h c a w.memory) (λ yes k. k (going_to (if yes then to else (a.at + 1)) a) w stack)
        (λ yes. once_at here (going_to (if yes then to else (a.at + 1)) a) w stack)
    by (Some (return None)) = once_ends here h a stack None w
    by (Some (return (Some o))) = once_given here (operand h o a) _ (λ v. once_ends here h a stack (Some v) w)
