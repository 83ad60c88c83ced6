-- A call gives back what it takes: the trace of a call that has ended sums to 0. So a call and what follows it weigh no more
-- than the call alone, or what follows.
use Rattle.std.proofs.Common.{◌≡◌, ◌⊎◌, inl, inr, ⊎_elim, ℕ, zero, suc, ◌+◌, ◌≤◌, Bool, true, false, if◌then◌else◌, List, [], ◌∷◌, ◌++◌, Option, Some, None, refl, ap, ◌∙◌, arith}
use Rattle.std.specs.Prelude.{ℤ, pos, neg_ℤ, ◌+ℤ◌, ◌-ℤ◌, max}
use Rattle.std.specs.List.{slice_get}
use Rattle.std.proofs.lemmas.Int.{ints}
use Rattle.qs_memory.specs.Values.{Pointer, Value, integer, address, as_integer, as_pointer}
use Rattle.qs_memory.specs.Memory.{Memory}
use Rattle.qs_memory.specs.Memory as memory
use Rattle.qs_memory.specs.Values.{into}
use Rattle.qs_memory.specs.Pointers.{truth}
use Rattle.qs_events.specs.Events.{Event}
use Rattle.qs_events.specs.Runs.{emit, ended, undefined, short, events_of, Ending, has_ended, is_undefined, is_short, ending_of, followed_by, given, Left}
use Rattle.qs_events.specs.Weights.{Costs, of_stack, sum, weight, run_weight}
use Rattle.qs_events.proofs.WeightLaws.{joined_traces_weigh}
use Rattle.qs_events.proofs.RunLaws.{runs_follow}
use Rattle.qs_calls.specs.World.{World, with_memory, RootRun, Return, leaves, Environment}
use Rattle.qs_calls.specs.Calls.{CallsOf, take_byte, get_char, put_char, invoke, Entered, pass}
use Rattle.qs_calls.specs.declared.callee.Callee.{Callee}
use Rattle.qs_calls.specs.declared.callee.Callee.TheVariants.{Function, PutChar, GetChar}
use Rattle.qs_calls.specs.declared.parameter.Parameter.{Parameter}
use Rattle.qs_calls.specs.declared.parameter.Parameter.TheVariants.{Plain, Placed}
use Rattle.qs_core.specs.declared.numbers.Target.TheVariants as targets
use Rattle.qs_core.specs.Trees.{CoreExprTree, CoreStmtTree, skip, seq, assign, copy, fill, call, branch, loop, switch, break, continue, return, CoreStmts, no_stmts, stmt_and, CoreUnitTree}
use Rattle.qs_core.specs.Trees as core
use Rattle.qs_core.specs.Expressions.{Locals, value, values}
use Rattle.qs_core.specs.Statements.{Continuation, Continuations, Context, assigned, take_result, given_pointer, repeated, after_step, chosen_part, at_part, runs, runs_all, runs_from}
use Rattle.qs_core.specs.Units.{calls_within}
use Rattle.qs_triples.proofs.PropertyLaws.{IsKept, CallsKeep, given_keeps, pass_keeps, stmts_keep}

module _ (cost : Costs) where
  -- where the run ends, its trace has this sum
  abbrev pub SumsTo : ℤ → RootRun → Type 0
  SumsTo c o = (left : Left Value Memory) → ending_of o ≡ has_ended left → sum (of_stack cost) (events_of o) ≡ c

  no_sum : (c : ℤ) → SumsTo c undefined
  no_sum c left is = cc

  no_sum_short : (c : ℤ) → SumsTo c short
  no_sum_short c left is = cc

  nothing_more : (z : ℤ) → pos 0 +ℤ z ≡ z
  nothing_more z = omega (arith, ints)

  sums_kept : (c : ℤ) → IsKept (SumsTo c)
  sums_kept c = record {
    undefined = no_sum c;
    short = no_sum_short c;
    takes = λ byte o h left is. nothing_more _ ∙ h left is;
    takes_end = λ o h left is. nothing_more _ ∙ h left is;
    puts = λ byte o h left is. nothing_more _ ∙ h left is;
  }

  -- ---- calls

  taken : (c d : ℤ) → d +ℤ (c -ℤ d) ≡ c
  taken c d = omega (arith, ints)

  given_back : (c d : ℤ) → neg_ℤ d +ℤ c ≡ c -ℤ d
  given_back c d = omega (arith, ints)

  calls_sum : (u : CoreUnitTree) (turns depth : ℕ) (c : ℤ) → CallsKeep (SumsTo c) (calls_within u turns depth)
  calls_sum u turns zero c f vs k h w = no_sum_short c
  calls_sum u turns (suc depth) c number vs k h w =
      let d : ℤ = c -ℤ pos (cost number) in
      given_keeps (SumsTo c) (sums_kept c) (slice_get u.functions number) _ (λ f left is.
      ap (λ z. pos (cost number) +ℤ z) (
      pass_keeps (SumsTo d) (sums_kept d) _ vs _ _ _ _ (λ e w.
      stmts_keep (SumsTo d) (sums_kept d) turns (calls_within u turns depth) (calls_sum u turns depth d) f.body _
      (record {
        next = λ l w left is. ap (λ z. neg_ℤ (pos (cost number)) +ℤ z) (h None _ left is) ∙ given_back c (pos (cost number));
        on_break = λ l w. no_sum d;
        on_continue = λ l w. no_sum d;
        on_return = λ result w left is. ap (λ z. neg_ℤ (pos (cost number)) +ℤ z) (h result _ left is) ∙ given_back c (pos (cost number));
      })
      _ w) left is) ∙ taken c (pos (cost number)))

  -- the trace of a call alone sums to 0
  pub call_alone_sums : (u : CoreUnitTree) (turns depth f : ℕ) (vs : List Value) (w : World) → SumsTo (pos 0) (calls_within u turns depth f vs leaves w)
  call_alone_sums u turns depth f vs w = calls_sum u turns depth (pos 0) f vs leaves (λ result w left is. refl) w

  -- ---- weights

  over : (o : RootRun) (next : Left Value Memory → RootRun) → (ending_of o ≡ is_undefined) ⊎ (ending_of o ≡ is_short) → events_of (followed_by o next) ≡ events_of o
  over (emit e o) next h = ap (λ (l : List Event). e ∷ l) (over o next h)
  over (ended left) next h = ⊎_elim (λ i. cc) (λ i. cc) h
  over undefined next h = refl
  over short next h = refl

  -- what follows weighs at most b, where the run ends with sum 0
  pub followed_weighs :
      (o : RootRun) (next : Left Value Memory → RootRun) (b : ℕ) → SumsTo (pos 0) o
      → ((left : Left Value Memory) → ending_of o ≡ has_ended left → run_weight cost (next left) ≤ b)
      → run_weight cost (followed_by o next) ≤ max (run_weight cost o) b
  followed_weighs o next b zero_sum h = by (ending_of o) refl
    where
      at_end : (left : Left Value Memory) → ending_of o ≡ has_ended left → run_weight cost (followed_by o next) ≤ max (run_weight cost o) b
      at_end left is =
          let follow = runs_follow (Left Value Memory) (Left Value Memory) (Left Value Memory) in
          let events = follow.events o next left is in
          let joined = joined_traces_weigh (of_stack cost) (events_of o) (events_of (next left)) in
          let none = zero_sum left is in
          let le = h left is in
          let whole : run_weight cost (followed_by o next) ≡ weight cost (events_of o ++ events_of (next left)) = ap (weight cost) events in
          ⊎_elim
          (λ first. omega (arith, whole, first))
          (λ second. let s : pos (weight cost (events_of o ++ events_of (next left))) ≡ pos 0 +ℤ pos (weight cost (events_of (next left))) = second ∙ ap (λ z. z +ℤ pos (weight cost (events_of (next left)))) none in omega (arith, ints, whole, s, le))
          joined.one

      not_at_end : events_of (followed_by o next) ≡ events_of o → run_weight cost (followed_by o next) ≤ max (run_weight cost o) b
      not_at_end same = let e = ap (weight cost) same in omega (arith, e)

      by : (e : Ending (Left Value Memory)) → ending_of o ≡ e → run_weight cost (followed_by o next) ≤ max (run_weight cost o) b
      by (has_ended left) is = at_end left is
      by is_undefined is = not_at_end (over o next (inl is))
      by is_short is = not_at_end (over o next (inr is))
