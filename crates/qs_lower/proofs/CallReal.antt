-- The code of a call makes the run that it means.
use Rattle.std.proofs.Common.{◌≡◌, ℕ, suc, ◌+◌, ◌-◌, ◌%◌, ◌<◌, ◌≤◌, List, [], ◌∷◌, length, map, Option, Some, None, refl, sym, ap, ◌∙◌, subst, arith}
use Rattle.std.specs.List.{slice_get}
use Rattle.qs_memory.specs.Partial.{◌>>=◌}
use Rattle.qs_memory.specs.Values.{Value, integer, address}
use Rattle.qs_events.specs.Events.{Takes, TakesEnd, Puts}
use Rattle.qs_events.specs.Runs.{undefined, given}
use Rattle.qs_calls.specs.World.{World, RootRun, Return, Environment, with_value}
use Rattle.qs_calls.specs.Calls.{take_byte, invoke}
use Rattle.qs_calls.specs.declared.callee.Callee.{Callee}
use Rattle.qs_calls.specs.declared.callee.Callee.TheVariants.{Function, PutChar, GetChar}
use Rattle.qs_core.specs.Trees as core
use Rattle.qs_core.specs.Trees.{CoreExprTree, CoreFunctionTree}
use Rattle.qs_core.specs.declared.numbers.Target.TheVariants as targets
use Rattle.qs_core.specs.Expressions.{Locals, value, values}
use Rattle.qs_core.specs.Statements.{Continuation, Continuations, Context, assigned}
use Rattle.qs_core.specs.Statements as statements
use Rattle.qs_tac.specs.Trees.{InstructionTree, call}
use Rattle.qs_tac.specs.Holders.{temporaries}
use Rattle.qs_tac.specs.Values.{operands}
use Rattle.qs_tac.specs.Steps.{Waiting, take_result, enters, steps}
use Rattle.qs_lower_expressions.specs.Expressions.{ExprCode, size_of, code_of, own, all_size, all_code, all_operands}
use Rattle.qs_lower.specs.Statements.{of_call, taken_by}
use Rattle.qs_lower_expressions.proofs.SizeLaws.{one_more, code_length, all_length}
use Rattle.qs_lower_expressions.proofs.RealisationLaws.{Model, Comes, NoJump, moves, real_comes, real_call, comes_real, comes_same, comes_less, comes_emit, Act, Stack, HasAt, has_left, has_right, Kept, kept_all, kept_then, Real, real_fault, CallsReal, moment, IsCode, Agree, free}
use Rattle.qs_lower_expressions.proofs.ValueReal as value_real
use Rattle.qs_lower_expressions.proofs.ExprReal as expr
use Rattle.qs_lower.proofs.PlainReal as plain

no_values : {A : Type 0} (o : Option A) (p : Option (List A)) → p ≡ None → (o >>= λ v. p >>= λ vs. Some (v ∷ vs)) ≡ None
no_values None p h = refl
no_values (Some v) p h = ap (λ q. q >>= λ vs. Some (v ∷ vs)) h

module _ (u : Model) (f : CoreFunctionTree) (code : List InstructionTree) (function : ℕ) (stack : Stack) (is_code : IsCode u f code function stack) (c : Context) (first depth : ℕ) (calls_real : CallsReal u depth c.calls) where
  abbrev at_moment : (at first : ℕ) → Environment → Act
  at_moment at n e = moment u f code function stack at n e

  abbrev Makes : (d at first : ℕ) → Environment → World → RootRun → Type 0
  Makes d at n e w r = Real u d (at_moment at n e) w stack r

  abbrev Agrees : Locals → Environment → Type 0
  Agrees l e = Agree u f code function stack l e

  abbrev first_free : ℕ
  first_free = free u f code function stack

  abbrev code_for : CoreExprTree → ExprCode
  code_for s = expr.code_for u f code function stack is_code s

  abbrev pub AreThere : List CoreExprTree → Type 0
  AreThere [] = Unit {0}
  AreThere (s ∷ ss) = expr.IsThere u f code function stack is_code s × AreThere ss

  -- the arguments
  all_real :
      (ss : List CoreExprTree) → AreThere ss → (d t at : ℕ) (l : Locals) (e : Environment) (w : World) (r : RootRun) → first_free ≤ t → Agrees l e
      → HasAt code at (all_code (map code_for ss) t at) → (values ss l w.memory ≡ None → r ≡ undefined)
      → ((after : Environment) → Kept t e after
      → ((i : ℕ) → operands temporaries (all_operands (map code_for ss) t) (at_moment i l.first_block after) ≡ values ss l w.memory)
      → Makes d (at + all_size (map code_for ss)) l.first_block after w r)
      → Makes d at l.first_block e w r
  all_real [] there d t at l e w r le agree has none next =
      value_real.moved u f code function stack is_code d (at + 0) at l.first_block e w r (omega arith) (next e (kept_all t e) (λ i. refl))
  all_real (s ∷ ss) there d t at l e w r le agree has none next =
      let h = expr.correct u f code function stack is_code s there.0 in
      value_real.as_operand u f code function stack is_code s (code_for s) h d t at l e w r le agree (has_left code at (code_of (code_for s) t at) _ has)
      (λ k. none (value_real.none_bind (value s l w.memory) (λ v. values ss l w.memory >>= λ vs. Some (v ∷ vs)) k))
      (λ after kept same.
      all_real ss there.1 d (t + own (code_for s)) (at + size_of (code_for s)) l after w r (omega (arith, le))
      (value_real.agree_kept u f code function stack is_code t l e after le agree kept)
      (has_right code at (size_of (code_for s)) (code_of (code_for s) t at) _ (code_length (code_for s) h.sized.into t at) has)
      (λ k. none (no_values (value s l w.memory) (values ss l w.memory) k))
      (λ last kept_last others.
      value_real.moved u f code function stack is_code d (at + (size_of (code_for s) + all_size (map code_for ss))) (at + size_of (code_for s) + all_size (map code_for ss)) l.first_block last w r (omega arith)
      (next last (kept_then t (t + own (code_for s)) e after last (omega arith) kept kept_last)
      (λ i.
      ap (λ o. o >>= λ v. operands temporaries (all_operands (map code_for ss) (t + own (code_for s))) (at_moment i l.first_block last) >>= λ vs. Some (v ∷ vs)) (same i last kept_last)
      ∙ ap (λ o. value s l w.memory >>= λ v. o >>= λ vs. Some (v ∷ vs)) (others i)))))

  -- ---- what follows a call

  abbrev pub IsTaken : Option ℕ → Type 0
  IsTaken None = Unit {0}
  IsTaken (Some k) = k < length f.temporaries

  abbrev IsTakenOn : (d at : ℕ) → Option ℕ → Locals → Environment → Return → Type 0
  IsTakenOn d at x l e k =
      (result : Option Value) (w : World)
      → Comes u d (λ j. take_result temporaries (steps temporaries (moves u) j) (taken_by (length f.variables) x) (at_moment at l.first_block e) stack result w) (k result w)

  taken_real :
      (d at : ℕ) (x : Option ℕ) (l : Locals) (e : Environment) (n : Continuation) → IsTaken x → plain.IsReady u f code function stack is_code c first depth calls_real n d at
      → l.first_block ≡ first → Agrees l e → IsTakenOn d at x l e (statements.take_result x n l)
  taken_real d at None l e n there ready here agree result w = comes_real u d _ w stack _ (ready l e w here agree)
  taken_real d at (Some k) l e n there ready here agree None w = comes_same u.tally d _ _ (λ j. refl)
  taken_real d at (Some k) l e n there ready here agree (Some v) w =
      comes_real u d _ w stack _
      (ready (assigned (targets.Temporary k) l v) (with_value e (length f.variables + k) v) w here
      (plain.agree_assigned u f code function stack is_code c first depth calls_real (targets.Temporary k) l e (with_value e (length f.variables + k) v) v there agree
      (λ y lt other. value_real.with_other u f code function stack is_code e (length f.variables + k) y v other)
      (value_real.with_itself u f code function stack is_code e (length f.variables + k) v)))

  -- ---- the callee

  abbrev waiting : (at : ℕ) → Option ℕ → Locals → Environment → Waiting Environment
  waiting at x l e = record { activation = at_moment (at + 1) l.first_block e; taken_by = taken_by (length f.variables) x }

  -- the run of the call's instruction, with so many steps behind it
  abbrev called : (j at : ℕ) → Option ℕ → Callee → Locals → Environment → List Value → World → RootRun
  called j at x g l e vs w =
      invoke g (enters temporaries (moves u) (steps temporaries (moves u) j) (waiting at x l e ∷ stack)) vs
      (take_result temporaries (steps temporaries (moves u) j) (taken_by (length f.variables) x) (at_moment (at + 1) l.first_block e) stack) w

  abbrev IsCalled : (d at : ℕ) → Option ℕ → Callee → Locals → Environment → List Value → World → Return → Type 0
  IsCalled d at x g l e vs w k = Comes u d (λ j. called j at x g l e vs w) (invoke g c.calls vs k w)

  put_real : (d at : ℕ) (x : Option ℕ) (l : Locals) (e : Environment) (vs : List Value) (w : World) (k : Return) → IsTakenOn d (at + 1) x l e k → IsCalled d at x PutChar l e vs w k
  put_real d at x l e [] w k takes = comes_same u.tally d _ _ (λ j. refl)
  put_real d at x l e (integer n ∷ []) w k takes = comes_emit u.tally d (Puts (n % 256)) _ _ (takes (Some (integer (n % 256))) w)
  put_real d at x l e (integer n ∷ v ∷ vs) w k takes = comes_same u.tally d _ _ (λ j. refl)
  put_real d at x l e (address p ∷ vs) w k takes = comes_same u.tally d _ _ (λ j. refl)

  get_real : (d at : ℕ) (x : Option ℕ) (l : Locals) (e : Environment) (vs : List Value) (w : World) (k : Return) → IsTakenOn d (at + 1) x l e k → IsCalled d at x GetChar l e vs w k
  get_real d at x l e [] w k takes = of_input w.input
    where
      of_input :
          (input : List ℕ)
          → Comes u d (λ j. take_byte input (take_result temporaries (steps temporaries (moves u) j) (taken_by (length f.variables) x) (at_moment (at + 1) l.first_block e) stack) w) (take_byte input k w)
      of_input [] = comes_emit u.tally d TakesEnd _ _ (takes (Some (integer 4294967295)) w)
      of_input (b ∷ input) = comes_emit u.tally d (Takes b) _ _ (takes (Some (integer b)) (record w { input = input }))
  get_real d at x l e (v ∷ vs) w k takes = comes_same u.tally d _ _ (λ j. refl)

  -- a call is made, or the run is cut off before its event
  callee_real :
      (d at : ℕ) (x : Option ℕ) (g : Callee) (l : Locals) (e : Environment) (vs : List Value) (w : World) (k : Return)
      → plain.IsBounded u f code function stack is_code c first depth calls_real d
      → IsTakenOn d (at + 1) x l e k → NoJump u.unit (at_moment at l.first_block e)
      → ((i : ℕ) → steps temporaries (moves u) (suc i) (at_moment at l.first_block e) w stack ≡ called i at x g l e vs w)
      → Makes d at l.first_block e w (invoke g c.calls vs k w)
  callee_real d at x PutChar l e vs w k le takes jumps_not is =
      real_comes u d _ w stack _ _ jumps_not is (comes_less u.tally (d - 1) d _ _ (omega arith) (put_real d at x l e vs w k takes))
  callee_real d at x GetChar l e vs w k le takes jumps_not is =
      real_comes u d _ w stack _ _ jumps_not is (comes_less u.tally (d - 1) d _ _ (omega arith) (get_real d at x l e vs w k takes))
  callee_real d at x (Function fn) l e vs w k le takes jumps_not is =
      real_call u.unit u.tally c.turns depth c.calls calls_real d le (at_moment at l.first_block e) w stack (waiting at x l e ∷ stack) fn.0 vs k k jumps_not is
      (λ result v. comes_less u.tally (d - 1) d _ _ (omega arith) (takes result v))

  -- ---- the call

  pub call_real :
      (x : Option ℕ) (g : Callee) (es : List CoreExprTree) → IsTaken x → AreThere es
      → plain.IsReal u f code function stack is_code c first depth calls_real (core.call x g es) (of_call first_free (taken_by (length f.variables) x) g (map code_for es)).part
  call_real x g es taken there =
      plain.straight_real u f code function stack is_code c first depth calls_real (core.call x g es) (all_size (map code_for es) + 1) 0 _
      (λ at. one_more _ _ _ (all_length (length f.variables) es first_free at))
      (λ d at k le has ready l env w here agree.
      all_real es there d first_free at l env w _ (omega arith) agree (has_left code at (all_code (map code_for es) first_free at) _ has)
      (λ none. plain.given_none (values es l w.memory) _ none)
      (λ after kept same.
      made d at k l after w le (has_right code at (all_size (map code_for es)) (all_code (map code_for es) first_free at) _ (all_length (length f.variables) es first_free at) has).0
      (ready_at d k (at + (all_size (map code_for es) + 1)) (at + all_size (map code_for es) + 1) (omega arith) ready) here
      (value_real.agree_kept u f code function stack is_code first_free l env after (omega arith) agree kept)
      (same (at + all_size (map code_for es))) (values es l w.memory) refl))
    where
      ready_at : (d : ℕ) (k : Continuations) (i j : ℕ) → i ≡ j → plain.IsReady u f code function stack is_code c first depth calls_real k.next d i → plain.IsReady u f code function stack is_code c first depth calls_real k.next d j
      ready_at d k i j same h = subst (λ (n : ℕ). plain.IsReady u f code function stack is_code c first depth calls_real k.next d n) same h

      made :
          (d at : ℕ) (k : Continuations) (l : Locals) (after : Environment) (w : World) → plain.IsBounded u f code function stack is_code c first depth calls_real d
          → slice_get code (at + all_size (map code_for es)) ≡ Some (call (taken_by (length f.variables) x) g (all_operands (map code_for es) first_free))
          → plain.IsReady u f code function stack is_code c first depth calls_real k.next d (at + all_size (map code_for es) + 1) → l.first_block ≡ first → Agrees l after
          → operands temporaries (all_operands (map code_for es) first_free) (at_moment (at + all_size (map code_for es)) l.first_block after) ≡ values es l w.memory
          → (o : Option (List Value)) → values es l w.memory ≡ o
          → Makes d (at + all_size (map code_for es)) l.first_block after w (given (values es l w.memory) (λ vs. invoke g c.calls vs (statements.take_result x k.next l) w))
      made d at k l after w le has ready here agree same None is =
          subst (λ (r : RootRun). Makes d (at + all_size (map code_for es)) l.first_block after w r)
          (sym (plain.given_none (values es l w.memory) (λ vs. invoke g c.calls vs (statements.take_result x k.next l) w) is))
          (real_fault u d (at_moment (at + all_size (map code_for es)) l.first_block after) w stack
          (value_real.no_jump u f code function stack is_code (at + all_size (map code_for es)) l.first_block after (Some (call (taken_by (length f.variables) x) g (all_operands (map code_for es) first_free))) has (refl, λ g. refl))
          (λ j. value_real.at_instruction u f code function stack is_code j (at + all_size (map code_for es)) l.first_block after w
          (call (taken_by (length f.variables) x) g (all_operands (map code_for es) first_free)) has (refl, λ g. refl)
          ∙ plain.given_none (operands temporaries (all_operands (map code_for es) first_free) (at_moment (at + all_size (map code_for es)) l.first_block after))
          (λ vs. called j (at + all_size (map code_for es)) x g l after vs w) (same ∙ is)))
      made d at k l after w le has ready here agree same (Some vs) is =
          subst (λ (r : RootRun). Makes d (at + all_size (map code_for es)) l.first_block after w r)
          (sym (plain.given_some (values es l w.memory) vs (λ vs. invoke g c.calls vs (statements.take_result x k.next l) w) is))
          (callee_real d (at + all_size (map code_for es)) x g l after vs w (statements.take_result x k.next l) le
          (taken_real d (at + all_size (map code_for es) + 1) x l after k.next taken ready here agree)
          (value_real.no_jump u f code function stack is_code (at + all_size (map code_for es)) l.first_block after (Some (call (taken_by (length f.variables) x) g (all_operands (map code_for es) first_free))) has (refl, λ g. refl))
          (λ i. value_real.at_instruction u f code function stack is_code i (at + all_size (map code_for es)) l.first_block after w
          (call (taken_by (length f.variables) x) g (all_operands (map code_for es) first_free)) has (refl, λ g. refl)
          ∙ plain.given_some (operands temporaries (all_operands (map code_for es) first_free) (at_moment (at + all_size (map code_for es)) l.first_block after)) vs
          (λ vs. called i (at + all_size (map code_for es)) x g l after vs w) (same ∙ is)))
