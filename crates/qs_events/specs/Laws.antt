-- What is promised of runs, traces and weights.
use Rattle.std.specs.Prelude.{◌≡◌, ◌≢◌, ◌⊎◌, ℕ, ◌≤◌, pos, ◌+ℤ◌, ◌≤ℤ◌, List, ◌++◌}
use Rattle.qs_events.specs.Events.{Event, output_of}
use Rattle.qs_events.specs.Runs.{Run, ended, events_of, has_ended, is_short, ending_of, followed_by, Within, bounded, seen}
use Rattle.qs_events.specs.Weights.{Metric, of_calls, sum, weight_by, run_weight_by, calls_in, IsGreatestSum, IsFront}

-- ---- longer runs

pub record RunsGrow (End : Type 0) : Type 0 where
  pub same : (o : Run End) → Within o o
  pub next : (o p q : Run End) → Within o p → Within p q → Within o q
  -- what has ended or is undefined stays as it is
  pub over : (o p : Run End) → Within o p → ending_of o ≢ is_short → p ≡ o
  -- and the events of what is short go on
  pub fronts : (o p : Run End) → Within o p → IsFront (events_of o) (events_of p)
  pub outputs : (o p : Run End) → Within o p → (rest : List ℕ) × (output_of (events_of p) ≡ output_of (events_of o) ++ rest)

-- a longer run weighs no less
abbrev pub LongerRunsWeighMore : Type 0 → Type 0
LongerRunsWeighMore End = (metric : Metric) (o p : Run End) → Within o p → run_weight_by metric o ≤ run_weight_by metric p

-- ---- what follows

pub record RunsFollow (A B C : Type 0) : Type 0 where
  pub nothing : (o : Run A) → followed_by o ended ≡ o
  pub twice : (o : Run A) (next : A → Run B) (last : B → Run C) → followed_by (followed_by o next) last ≡ followed_by o (λ a. followed_by (next a) last)
  pub grow : (o p : Run A) (next other : A → Run B) → Within o p → ((a : A) → Within (next a) (other a)) → Within (followed_by o next) (followed_by p other)
  -- the events of what follows come behind
  pub events : (o : Run A) (next : A → Run B) (a : A) → ending_of o ≡ has_ended a → events_of (followed_by o next) ≡ events_of o ++ events_of (next a)
  pub ending : (o : Run A) (next : A → Run B) (a : A) → ending_of o ≡ has_ended a → ending_of (followed_by o next) ≡ ending_of (next a)

-- ---- weights

-- the weight bounds the sum of each front, and one front attains it
abbrev pub WeightIsGreatest : Type 0
WeightIsGreatest = (metric : Metric) (trace : List Event) → IsGreatestSum metric trace (weight_by metric trace)

-- the weight of two traces, one behind the other: that of the first, or its sum and the weight of the second, whichever is greater
pub record WeighsJoined (metric : Metric) (front back : List Event) : Type 0 where
  pub sums : sum metric (front ++ back) ≡ sum metric front +ℤ sum metric back
  pub first : weight_by metric front ≤ weight_by metric (front ++ back)
  pub second : (sum metric front +ℤ pos (weight_by metric back)) ≤ℤ pos (weight_by metric (front ++ back))
  pub one : (weight_by metric (front ++ back) ≡ weight_by metric front) ⊎ (pos (weight_by metric (front ++ back)) ≡ sum metric front +ℤ pos (weight_by metric back))

abbrev pub JoinedTracesWeigh : Type 0
JoinedTracesWeigh = (metric : Metric) (front back : List Event) → WeighsJoined metric front back

-- where each call costs 1, what they cost together is how many they are
abbrev pub CallsAreCounted : Type 0
CallsAreCounted = (trace : List Event) → weight_by (of_calls (λ f. 1)) trace ≡ calls_in trace

-- ---- what agreement sees

-- it sees the events and the ending
abbrev pub BoundedIsSeen : Type 0 → Type 0
BoundedIsSeen End = (status : End → ℕ) (run : Run End) → bounded status run ≡ seen status (events_of run) (ending_of run)
