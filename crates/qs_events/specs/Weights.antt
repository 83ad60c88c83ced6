-- What a trace takes, of the stack or in calls: metrics and weights (Carbonneaux, Hoffmann, Ramananandro and Shao, PLDI 2014).
use Rattle.std.specs.Prelude.{◌≡◌, ℕ, ◌+◌, ◌-◌, ℤ, pos, neg_ℤ, ◌+ℤ◌, ◌≤ℤ◌, List, [], ◌∷◌, ◌++◌}
use Rattle.qs_events.specs.Events.{Event, Calls, Returns, Takes, TakesEnd, Puts}
use Rattle.qs_events.specs.Runs.{Run, events_of}

-- ---- metrics

-- a number for each function
abbrev pub Costs : Type 0
Costs = (function : ℕ) → ℕ

-- what a call of each function takes, and what its return gives back; no other event takes anything
pub record Metric : Type 0 where
  pub taken : Costs
  pub given_back : Costs

-- a stack metric: a return gives back what the call took of the stack
abbrev pub of_stack : Costs → Metric
of_stack cost = record { taken = cost; given_back = cost }

-- a call metric: a call has happened, and no return takes it back
abbrev pub of_calls : Costs → Metric
of_calls cost = record { taken = cost; given_back = λ f. 0 }

abbrev pub amount : Metric → Event → ℤ
amount metric (Calls f) = pos (metric.taken f)
amount metric (Returns f) = neg_ℤ (pos (metric.given_back f))
amount metric (Takes byte) = pos 0
amount metric TakesEnd = pos 0
amount metric (Puts byte) = pos 0

-- ---- weights

-- what a trace has taken in all
abbrev pub sum : Metric → List Event → ℤ
sum metric [] = pos 0
sum metric (event ∷ trace) = amount metric event +ℤ sum metric trace

-- the weight of a trace that begins with the event and whose rest has this weight
abbrev pub weight_from : Metric → Event → ℕ → ℕ
weight_from metric (Calls f) rest = metric.taken f + rest
weight_from metric (Returns f) rest = rest - metric.given_back f
weight_from metric (Takes byte) rest = rest
weight_from metric TakesEnd rest = rest
weight_from metric (Puts byte) rest = rest

-- the greatest sum over the fronts of a trace, the empty one included
abbrev pub weight_by : Metric → List Event → ℕ
weight_by metric [] = 0
weight_by metric (event ∷ trace) = weight_from metric event (weight_by metric trace)

-- the weight of a run's trace
abbrev pub run_weight_by : {End : Type 0} → Metric → Run End → ℕ
run_weight_by metric run = weight_by metric (events_of run)

-- how much stack a trace needs, and a run
abbrev pub weight : Costs → List Event → ℕ
weight cost trace = weight_by (of_stack cost) trace

abbrev pub run_weight : {End : Type 0} → Costs → Run End → ℕ
run_weight cost run = weight cost (events_of run)

-- what the calls of a run cost together
abbrev pub run_count : {End : Type 0} → Costs → Run End → ℕ
run_count cost run = run_weight_by (of_calls cost) run

-- how many calls there are in a trace
abbrev pub calls_in : List Event → ℕ
calls_in [] = 0
calls_in (Calls f ∷ trace) = 1 + calls_in trace
calls_in (Returns f ∷ trace) = calls_in trace
calls_in (Takes byte ∷ trace) = calls_in trace
calls_in (TakesEnd ∷ trace) = calls_in trace
calls_in (Puts byte ∷ trace) = calls_in trace

-- ---- what a weight is, apart from how it is computed

-- a trace as a front and what follows it
pub record IsFront (front trace : List Event) : Type 0 where
  pub back : List Event
  pub whole : front ++ back ≡ trace

-- a front whose sum is this number
pub record Attains (metric : Metric) (trace : List Event) (n : ℕ) : Type 0 where
  pub front : List Event
  pub is : IsFront front trace
  pub reaches : sum metric front ≡ pos n

-- the greatest sum over the fronts of a trace
pub record IsGreatestSum (metric : Metric) (trace : List Event) (n : ℕ) : Type 0 where
  pub bounds : (front : List Event) → IsFront front trace → sum metric front ≤ℤ pos n
  pub attained : Attains metric trace n
