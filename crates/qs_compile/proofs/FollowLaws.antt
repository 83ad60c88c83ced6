-- A machine that does what some code does also does what a source does whose runs that code follows.
use Rattle.std.proofs.Common.{◌≡◌, ◌≢◌, ◌⊎◌, ℕ, List, ◌++◌, refl, sym, ap, ◌∙◌, inl, inr}
use Rattle.std.proofs.lemmas.List.{append_assoc}
use Rattle.qs_events.specs.Events.{Event, output_of}
use Rattle.qs_events.specs.BoundedRun.{BoundedRun, Ended, Undefined, Short, trace_of}
use Rattle.qs_events.specs.Runs.{Run, events_of, Ending, has_ended, is_undefined, is_short, ending_of, Within, bounded, seen}
use Rattle.qs_events.specs.Weights.{Costs}
use Rattle.qs_events.proofs.RunLaws.{within_over, within_output, bounded_is_seen}
use Rattle.qs_machine.specs.Run.{Outcome}
use Rattle.qs_emit.specs.Agree.{Agree, Accounts, Begins, IsUndefinedWithin, HasEndedWith}
use Rattle.qs_compile.specs.Follows.{Follows, AgreementGoesThrough, AccountsGoThrough}

-- ---- what is seen of a run

seen_ended : {End : Type 0} (status : End → ℕ) (events trace : List Event) (number : ℕ) (ending : Ending End)
    → seen status events ending ≡ Ended trace number → ending ≢ is_short
seen_ended status events trace number (has_ended end) h e = cc
seen_ended status events trace number is_undefined h e = cc
seen_ended status events trace number is_short h e = cc

seen_undefined : {End : Type 0} (status : End → ℕ) (events trace : List Event) (ending : Ending End)
    → seen status events ending ≡ Undefined trace → ending ≢ is_short
seen_undefined status events trace (has_ended end) h e = cc
seen_undefined status events trace is_undefined h e = cc
seen_undefined status events trace is_short h e = cc

seen_trace : {End : Type 0} (status : End → ℕ) (events : List Event) (ending : Ending End)
    → trace_of (seen status events ending) ≡ events
seen_trace status events (has_ended end) = refl
seen_trace status events is_undefined = refl
seen_trace status events is_short = refl

bounded_trace : {End : Type 0} (status : End → ℕ) (o : Run End) → trace_of (bounded status o) ≡ events_of o
bounded_trace {End} status o =
    ap trace_of (bounded_is_seen End status o) ∙ seen_trace status (events_of o) (ending_of o)

-- what has ended, or is undefined, is the same in each longer run
ended_same : {End : Type 0} (status : End → ℕ) (o p : Run End) (trace : List Event) (number : ℕ)
    → Within o p → bounded status o ≡ Ended trace number → p ≡ o
ended_same {End} status o p trace number h e =
    within_over o p h (seen_ended status (events_of o) trace number (ending_of o) (sym (bounded_is_seen End status o) ∙ e))

undefined_same : {End : Type 0} (status : End → ℕ) (o p : Run End) (trace : List Event)
    → Within o p → bounded status o ≡ Undefined trace → p ≡ o
undefined_same {End} status o p trace h e =
    within_over o p h (seen_undefined status (events_of o) trace (ending_of o) (sym (bounded_is_seen End status o) ∙ e))

-- the output of a longer run begins with that of a shorter one
longer_begins : {End : Type 0} (status : End → ℕ) (o p : Run End) → Within o p
    → Begins (output_of (trace_of (bounded status p))) (output_of (trace_of (bounded status o)))
longer_begins status o p h =
    let w = within_output o p h in
    (w.0, ap output_of (bounded_trace status p) ∙ w.1 ∙ ap (λ (l : List Event). output_of l ++ w.0) (sym (bounded_trace status o)))

begins_next : (a b c : List ℕ) → Begins a b → Begins b c → Begins a c
begins_next a b c h k =
    (k.0 ++ h.0, h.1 ∙ ap (λ l. l ++ h.0) k.1 ∙ append_assoc c k.0 h.0)

-- ---- the parts of agreement

module _ {End : Type 0} (status : End → ℕ) (source code : ℕ → Run End) (follows : Follows source code)
    (machine : ℕ → Outcome) where
  abbrev seen_of_source : ℕ → BoundedRun
  seen_of_source n = bounded status (source n)

  abbrev seen_of_code : ℕ → BoundedRun
  seen_of_code m = bounded status (code m)

  -- each run of the source is seen as one of the code is
  seen_same : (n : ℕ) (run : BoundedRun) → seen_of_source n ≡ run → seen_of_code (follows.forth n).0 ≡ run
  seen_same n run e = ap (bounded status) (follows.forth n).1 ∙ e

  undefined_so : (m : ℕ) (output : List ℕ) → IsUndefinedWithin (seen_of_code m) output → IsUndefinedWithin (seen_of_source m) output
  undefined_so m output u = record {
    trace = u.trace;
    undefined = ap (bounded status) (undefined_same status (code m) (source m) u.trace (follows.back m) u.undefined) ∙ u.undefined;
    within = u.within;
  }

  ended_so : (m : ℕ) (output : List ℕ) (number : ℕ) → HasEndedWith (seen_of_code m) output number → HasEndedWith (seen_of_source m) output number
  ended_so m output number e = record {
    trace = e.trace;
    ended = ap (bounded status) (ended_same status (code m) (source m) e.trace number (follows.back m) e.ended) ∙ e.ended;
    same_output = e.same_output;
  }

  exits_so : (m : ℕ) (output : List ℕ) (number : ℕ)
      → HasEndedWith (seen_of_code m) output number ⊎ IsUndefinedWithin (seen_of_code m) output
      → HasEndedWith (seen_of_source m) output number ⊎ IsUndefinedWithin (seen_of_source m) output
  exits_so m output number (inl e) = inl (ended_so m output number e)
  exits_so m output number (inr u) = inr (undefined_so m output u)

  goes_so : (m : ℕ) (output : List ℕ)
      → Begins (output_of (trace_of (seen_of_code m))) output ⊎ IsUndefinedWithin (seen_of_code m) output
      → Begins (output_of (trace_of (seen_of_source m))) output ⊎ IsUndefinedWithin (seen_of_source m) output
  goes_so m output (inl b) = inl (begins_next _ _ output (longer_begins status (code m) (source m) (follows.back m)) b)
  goes_so m output (inr u) = inr (undefined_so m output u)

  comes_so : (n : ℕ) (trace : List Event) → (seen_of_source n ≡ Short trace) ⊎ (seen_of_source n ≡ Undefined trace)
      → (seen_of_code (follows.forth n).0 ≡ Short trace) ⊎ (seen_of_code (follows.forth n).0 ≡ Undefined trace)
  comes_so n trace (inl e) = inl (seen_same n (Short trace) e)
  comes_so n trace (inr e) = inr (seen_same n (Undefined trace) e)

  agrees_through : Agree (λ m. bounded status (code m)) machine → Agree (λ n. bounded status (source n)) machine
  agrees_through agree = record {
    ends = λ n trace number e. agree.ends (follows.forth n).0 trace number (seen_same n (Ended trace number) e);
    exits_only = λ m output number e. exits_so m output number (agree.exits_only m output number e);
    traps_only = λ m cause pc output e. undefined_so m output (agree.traps_only m cause pc output e);
    goes_on = λ n trace e. agree.goes_on (follows.forth n).0 trace (comes_so n trace e);
    goes_on_only = λ m output e. goes_so m output (agree.goes_on_only m output e);
  }

  accounts_through : (costs : Costs) (least : ℕ → ℕ) → Accounts costs (λ m. bounded status (code m)) machine least → Accounts costs (λ n. bounded status (source n)) machine least
  accounts_through costs least accounts = record {
    ends = λ n trace number e. accounts.ends (follows.forth n).0 trace number (seen_same n (Ended trace number) e);
    goes_on = λ n trace e. accounts.goes_on (follows.forth n).0 trace (seen_same n (Short trace) e);
  }

pub agreement_goes_through : (End : Type 0) → AgreementGoesThrough End
agreement_goes_through End status source code machine follows agree = agrees_through status source code follows machine agree

pub accounts_go_through : (End : Type 0) → AccountsGoThrough End
accounts_go_through End status source code machine costs least follows accounts =
    accounts_through status source code follows machine costs least accounts
