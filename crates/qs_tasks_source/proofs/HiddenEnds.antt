-- How runs end whose memory is hidden, and what they put.
use Rattle.std.proofs.Common.{◌≡◌, ◌≢◌, List, ◌∷◌, refl, sym, ap, ◌∙◌, subst}
use Rattle.qs_memory.specs.Values.{Value}
use Rattle.qs_memory.specs.Memory.{Memory}
use Rattle.qs_events.specs.Events.{Event}
use Rattle.qs_events.specs.Runs.{Run, Left, emit, ended, undefined, short, events_of, ending_of, has_ended, is_undefined, is_short}
use Rattle.qs_calls.specs.World.{RootRun}
use Rattle.qs_hiding.specs.Hidden.{Reach, hidden, hidden_run, LeavesAlone, IsBehind}

-- ---- endings differ

pub same_end : {End : Type 0} (a b : End) → has_ended a ≡ has_ended b → a ≡ b
same_end a b h = cc

ended_isn't_short : {End : Type 0} (a : End) → has_ended a ≡ is_short → ⊥
ended_isn't_short a h = cc

undefined_isn't_short : {End : Type 0} (o : Run End) → ending_of o ≡ is_undefined → ending_of o ≡ is_short → ⊥
undefined_isn't_short o e s = cc

pub not_short : {End : Type 0} (o : Run End) (a : End) → ending_of o ≡ has_ended a → ending_of o ≢ is_short
not_short o a e s = ended_isn't_short a (sym e ∙ s)

pub not_short_either : {End : Type 0} (o : Run End) → ending_of o ≡ is_undefined → ending_of o ≢ is_short
not_short_either o e s = undefined_isn't_short o e s

-- ---- hidden runs

module _ (r : Reach) where
  pub events_hidden : (o : RootRun) → events_of (hidden_run r o) ≡ events_of o
  events_hidden (emit e o) = ap (λ (t : List Event). e ∷ t) (events_hidden o)
  events_hidden (ended left) = refl
  events_hidden undefined = refl
  events_hidden short = refl

  pub undefined_hidden : (o : RootRun) → ending_of (hidden_run r o) ≡ is_undefined → ending_of o ≡ is_undefined
  undefined_hidden (emit e o) h = undefined_hidden o h
  undefined_hidden (ended left) h = cc
  undefined_hidden undefined h = refl
  undefined_hidden short h = cc

  -- the whole run has ended too, with what is hidden here
  pub record EndsAs (o : RootRun) (left : Left Value Memory) : Type 0 where
    pub whole : Left Value Memory
    pub ends : ending_of o ≡ has_ended whole
    pub is : left ≡ record whole { memory = hidden r whole.memory }

  pub ended_hidden : (o : RootRun) (left : Left Value Memory) → ending_of (hidden_run r o) ≡ has_ended left → EndsAs o left
  ended_hidden (emit e o) left h = let b = ended_hidden o left h in record { whole = b.whole; ends = b.ends; is = b.is }
  ended_hidden (ended whole) left h = record { whole = whole; ends = refl; is = sym (same_end (record whole { memory = hidden r whole.memory }) left h) }
  ended_hidden undefined left h = absurd (let never : ⊥ = cc in never)
  ended_hidden short left h = absurd (let never : ⊥ = cc in never)

  pub behind_at_end : (start : Memory) (o : RootRun) (left : Left Value Memory) → LeavesAlone r start o → ending_of o ≡ has_ended left → IsBehind r start left.memory
  behind_at_end start (emit e o) left h k = behind_at_end start o left h k
  behind_at_end start (ended whole) left h k = subst (λ (l : Left Value Memory). IsBehind r start l.memory) (same_end whole left k) h.0
  behind_at_end start undefined left h k = absurd (let never : ⊥ = cc in never)
  behind_at_end start short left h k = absurd (let never : ⊥ = cc in never)
