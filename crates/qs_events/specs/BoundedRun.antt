-- What agreement sees of a run within a bound: its events, how it ends, and the status.
use Rattle.std.specs.Prelude.{ℕ, List, ◌∷◌}
use Rattle.qs_events.specs.Events.{Event}

pub data BoundedRun : Type 0 where
  -- main has returned (C11 5.1.2.2.3); the status is its result modulo 256
  Ended : (trace : List Event) (status : ℕ) → BoundedRun
  -- the next step has no defined meaning
  Undefined : (trace : List Event) → BoundedRun
  -- the bound is used up
  Short : (trace : List Event) → BoundedRun

abbrev pub trace_of : BoundedRun → List Event
trace_of (Ended trace status) = trace
trace_of (Undefined trace) = trace
trace_of (Short trace) = trace

-- the run with this event before its own
abbrev pub after : Event → BoundedRun → BoundedRun
after event (Ended trace status) = Ended (event ∷ trace) status
after event (Undefined trace) = Undefined (event ∷ trace)
after event (Short trace) = Short (event ∷ trace)
