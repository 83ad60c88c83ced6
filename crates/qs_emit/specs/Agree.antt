-- The machine does what a source does: both ways, and with account of the least x2.
use Rattle.std.specs.Prelude.{◌≡◌, ◌⊎◌, ℕ, ◌-◌, List, ◌++◌}
use Rattle.qs_events.specs.Events.{Event, output_of}
use Rattle.qs_events.specs.BoundedRun.{BoundedRun, Ended, Undefined, Short, trace_of}
use Rattle.qs_events.specs.Weights.{Costs, weight}
use Rattle.qs_machine.specs.declared.answers.Cause.{Cause}
use Rattle.qs_machine.specs.State.{stack_top}
use Rattle.qs_machine.specs.Run.{Outcome, Exited, Trapped, Going, output_so_far}

-- the whole begins with this part
abbrev pub Begins : List ℕ → List ℕ → Type 0
Begins whole part = (rest : List ℕ) × (whole ≡ part ++ rest)

-- the run is undefined, after an output with which this one begins
pub record IsUndefinedWithin (run : BoundedRun) (output : List ℕ) : Type 0 where
  pub trace : List Event
  pub undefined : run ≡ Undefined trace
  pub within : Begins output (output_of trace)

pub record HasEndedWith (run : BoundedRun) (output : List ℕ) (status : ℕ) : Type 0 where
  pub trace : List Event
  pub ended : run ≡ Ended trace status
  pub same_output : output_of trace ≡ output

-- `source n` is the source's run within the bound n, `machine m` is where the machine stands after at most m
-- steps
pub record Agree (source : ℕ → BoundedRun) (machine : ℕ → Outcome) : Type 0 where
  -- where the source ends, the machine exits with the same output and status
  pub ends :
      (n : ℕ) (trace : List Event) (status : ℕ) → source n ≡ Ended trace status
      → (m : ℕ) × (machine m ≡ Exited (output_of trace) status)
  -- where the machine exits, the source has ended with the same output and status, or is undefined
  pub exits_only :
      (m : ℕ) (output : List ℕ) (status : ℕ) → machine m ≡ Exited output status
      → HasEndedWith (source m) output status ⊎ IsUndefinedWithin (source m) output
  -- the machine traps only where the source is undefined
  pub traps_only :
      (m : ℕ) (cause : Cause) (pc : ℕ) (output : List ℕ) → machine m ≡ Trapped cause pc output
      → IsUndefinedWithin (source m) output
  -- as far as the source comes, the machine comes
  pub goes_on :
      (n : ℕ) (trace : List Event) → (source n ≡ Short trace) ⊎ (source n ≡ Undefined trace)
      → (m : ℕ) × Begins (output_so_far (machine m)) (output_of trace)
  -- while the machine goes on, its output is the source's so far, or the source is undefined
  pub goes_on_only :
      (m : ℕ) (output : List ℕ) → machine m ≡ Going output
      → Begins (output_of (trace_of (source m))) output ⊎ IsUndefinedWithin (source m) output

-- `least m` is the least x2 within m steps: where the source ends, the whole machine run takes the trace's weight of the
-- stack, and where the source is short, some steps take the weight so far
pub record Accounts (costs : Costs) (source : ℕ → BoundedRun) (machine : ℕ → Outcome) (least : ℕ → ℕ) : Type 0 where
  pub ends :
      (n : ℕ) (trace : List Event) (status : ℕ) → source n ≡ Ended trace status
      → (m : ℕ) (output : List ℕ) (exit : ℕ) → machine m ≡ Exited output exit
      → least m ≡ stack_top - weight costs trace
  pub goes_on :
      (n : ℕ) (trace : List Event) → source n ≡ Short trace → (m : ℕ) × (least m ≡ stack_top - weight costs trace)
