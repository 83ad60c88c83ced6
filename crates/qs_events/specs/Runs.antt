-- Runs within a bound n: each run of a loop makes at most n turns, and calls nest at most n deep. A run begins with a root function,
-- its arguments, a memory and an input; its events stand in front, in the order in which they happen.
use Rattle.std.specs.Prelude.{◌≡◌, ℕ, List, [], ◌∷◌, Option, Some, None}
use Rattle.qs_events.specs.Events.{Event}
use Rattle.qs_events.specs.BoundedRun.{BoundedRun, Ended, Undefined, Short, after}

-- what a run leaves: the result of the root function, where it returned one, the memory, and the bytes of the input that weren't taken
pub record Left (Value Memory : Type 0) : Type 0 where
  pub result : Option Value
  pub memory : Memory
  pub input : List ℕ

pub data Run (End : Type 0) : Type 0 where
  emit : Event → Run End → Run End
  -- the root function has ended
  ended : End → Run End
  -- the next step has no defined meaning
  undefined : Run End
  -- the bound is used up
  short : Run End

-- ---- the events, and how a run ends

abbrev pub events_of : {End : Type 0} → Run End → List Event
events_of (emit event run) = event ∷ events_of run
events_of (ended end) = []
events_of undefined = []
events_of short = []

pub data Ending (End : Type 0) : Type 0 where
  has_ended : End → Ending End
  is_undefined : Ending End
  is_short : Ending End

abbrev pub ending_of : {End : Type 0} → Run End → Ending End
ending_of (emit event run) = ending_of run
ending_of (ended end) = has_ended end
ending_of undefined = is_undefined
ending_of short = is_short

-- ---- what follows

-- the run, and where it has ended what follows
abbrev pub followed_by : {End Next : Type 0} → Run End → (End → Run Next) → Run Next
followed_by (emit event run) next = emit event (followed_by run next)
followed_by (ended end) next = next end
followed_by undefined next = undefined
followed_by short next = short

-- goes on with what a step gives, and is undefined where it gives nothing
abbrev pub given : {A End : Type 0} → Option A → (A → Run End) → Run End
given None next = undefined
given (Some a) next = next a

-- ---- longer runs

-- p is what o is where o has ended or is undefined, and goes on from where o is short
abbrev pub Within : {End : Type 0} → Run End → Run End → Type 0
Within {End} (emit event o) p = (q : Run End) × (p ≡ emit event q) × Within o q
Within (ended end) p = p ≡ ended end
Within undefined p = p ≡ undefined
Within short p = Unit {0}

-- ---- what agreement sees

-- the run as agreement sees it: its events, and the status, which is a number of what is left
abbrev pub bounded : {End : Type 0} → (End → ℕ) → Run End → BoundedRun
bounded status (emit event run) = after event (bounded status run)
bounded status (ended end) = Ended [] (status end)
bounded status undefined = Undefined []
bounded status short = Short []

abbrev pub seen : {End : Type 0} → (End → ℕ) → List Event → Ending End → BoundedRun
seen status trace (has_ended end) = Ended trace (status end)
seen status trace is_undefined = Undefined trace
seen status trace is_short = Short trace
