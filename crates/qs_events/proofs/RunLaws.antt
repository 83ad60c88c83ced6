-- Longer runs, and runs one after another.
use Rattle.std.proofs.Common.{◌≡◌, ◌≢◌, ℕ, ◌≤◌, List, [], ◌∷◌, ◌++◌, refl, sym, ap, ◌∙◌, subst, arith}
use Rattle.qs_events.specs.Events.{Event, Calls, Returns, Takes, TakesEnd, Puts, output_of}
use Rattle.qs_events.specs.BoundedRun.{after}
use Rattle.qs_events.specs.Runs.{Run, emit, ended, undefined, short, events_of, Ending, has_ended, is_undefined, is_short, ending_of, followed_by, Within, seen}
use Rattle.qs_events.specs.Weights.{Costs, Metric, of_stack, weight_from, run_weight, run_weight_by, IsFront}
use Rattle.qs_events.specs.Laws.{RunsGrow, LongerRunsWeighMore, RunsFollow, BoundedIsSeen}

pub within_same : {End : Type 0} → (o : Run End) → Within o o
within_same (emit e o) = (o, refl, within_same o)
within_same (ended x) = refl
within_same undefined = refl
within_same short = tt

pub within_next : {End : Type 0} → (o p q : Run End) → Within o p → Within p q → Within o q
within_next {End} (emit e o) p q h k =
    let k2 : Within (emit e h.0) q = subst (λ (r : Run End). Within r q) h.1 k in
    (k2.0, k2.1, within_next o h.0 k2.0 h.2 k2.2)
within_next {End} (ended x) p q h k = subst (λ (r : Run End). Within r q) h k
within_next {End} undefined p q h k = subst (λ (r : Run End). Within r q) h k
within_next short p q h k = tt

pub within_over : {End : Type 0} → (o p : Run End) → Within o p → ending_of o ≢ is_short → p ≡ o
within_over (emit e o) p h over = h.1 ∙ ap (emit e) (within_over o h.0 h.2 over)
within_over (ended x) p h over = h
within_over undefined p h over = h
within_over short p h over = absurd (over refl)

pub within_front : {End : Type 0} → (o p : Run End) → Within o p → IsFront (events_of o) (events_of p)
within_front (emit e o) p h =
    let r = within_front o h.0 h.2 in
    record { back = r.back; whole = ap (λ l. e ∷ l) r.whole ∙ ap events_of (sym h.1) }
within_front (ended x) p h = record { back = []; whole = ap events_of (sym h) }
within_front undefined p h = record { back = []; whole = ap events_of (sym h) }
within_front short p h = record { back = events_of p; whole = refl }

output-append : (a b : List Event) → output_of (a ++ b) ≡ output_of a ++ output_of b
output-append [] b = refl
output-append (Calls f ∷ a) b = output-append a b
output-append (Returns f ∷ a) b = output-append a b
output-append (Takes x ∷ a) b = output-append a b
output-append (TakesEnd ∷ a) b = output-append a b
output-append (Puts x ∷ a) b = ap (λ l. x ∷ l) (output-append a b)

pub within_output : {End : Type 0} → (o p : Run End) → Within o p → (rest : List ℕ) × (output_of (events_of p) ≡ output_of (events_of o) ++ rest)
within_output o p h =
    let r = within_front o p h in
    (output_of r.back, ap output_of (sym r.whole) ∙ output-append (events_of o) r.back)

pub runs_grow : (End : Type 0) → RunsGrow End
runs_grow End = record { same = within_same; next = within_next; over = within_over; fronts = within_front; outputs = within_output }

-- ---- weights of longer runs

pub weight_from_more : (metric : Metric) (e : Event) (m n : ℕ) → m ≤ n → weight_from metric e m ≤ weight_from metric e n
weight_from_more metric (Calls f) m n h = omega arith
weight_from_more metric (Returns f) m n h = omega arith
weight_from_more metric (Takes x) m n h = h
weight_from_more metric TakesEnd m n h = h
weight_from_more metric (Puts x) m n h = h

pub longer_runs_weigh_more_by : (End : Type 0) → LongerRunsWeighMore End
longer_runs_weigh_more_by End metric (emit e o) p h =
    subst (λ (q : Run End). weight_from metric e (run_weight_by metric o) ≤ run_weight_by metric q) (sym h.1)
    (weight_from_more metric e _ _ (longer_runs_weigh_more_by End metric o h.0 h.2))
longer_runs_weigh_more_by End metric (ended x) p h = omega arith
longer_runs_weigh_more_by End metric undefined p h = omega arith
longer_runs_weigh_more_by End metric short p h = omega arith

-- of the stack
pub longer_runs_weigh_more : (End : Type 0) (cost : Costs) (o p : Run End) → Within o p → run_weight cost o ≤ run_weight cost p
longer_runs_weigh_more End cost o p h = longer_runs_weigh_more_by End (of_stack cost) o p h

-- ---- what follows

follow_nothing : {A : Type 0} → (o : Run A) → followed_by o ended ≡ o
follow_nothing (emit e o) = ap (emit e) (follow_nothing o)
follow_nothing (ended a) = refl
follow_nothing undefined = refl
follow_nothing short = refl

follow_twice : {A B C : Type 0} → (o : Run A) (next : A → Run B) (last : B → Run C) → followed_by (followed_by o next) last ≡ followed_by o (λ a. followed_by (next a) last)
follow_twice (emit e o) next last = ap (emit e) (follow_twice o next last)
follow_twice (ended a) next last = refl
follow_twice undefined next last = refl
follow_twice short next last = refl

follow_grow : {A B : Type 0} → (o p : Run A) (next other : A → Run B) → Within o p → ((a : A) → Within (next a) (other a)) → Within (followed_by o next) (followed_by p other)
follow_grow (emit e o) p next other h k = (followed_by h.0 other, ap (λ r. followed_by r other) h.1, follow_grow o h.0 next other h.2 k)
follow_grow {A} {B} (ended a) p next other h k = subst (λ (r : Run A). Within (next a) (followed_by r other)) (sym h) (k a)
follow_grow undefined p next other h k = ap (λ r. followed_by r other) h
follow_grow short p next other h k = tt

has_ended_same : {A : Type 0} → (a b : A) → has_ended a ≡ has_ended b → a ≡ b
has_ended_same a b h = cc

follow_events : {A B : Type 0} → (o : Run A) (next : A → Run B) (a : A) → ending_of o ≡ has_ended a → events_of (followed_by o next) ≡ events_of o ++ events_of (next a)
follow_events (emit e o) next a h = ap (λ l. e ∷ l) (follow_events o next a h)
follow_events (ended b) next a h = ap (λ c. events_of (next c)) (has_ended_same b a h)
follow_events undefined next a h = cc
follow_events short next a h = cc

follow_ending : {A B : Type 0} → (o : Run A) (next : A → Run B) (a : A) → ending_of o ≡ has_ended a → ending_of (followed_by o next) ≡ ending_of (next a)
follow_ending (emit e o) next a h = follow_ending o next a h
follow_ending (ended b) next a h = ap (λ c. ending_of (next c)) (has_ended_same b a h)
follow_ending undefined next a h = cc
follow_ending short next a h = cc

pub runs_follow : (A B C : Type 0) → RunsFollow A B C
runs_follow A B C = record { nothing = follow_nothing; twice = follow_twice; grow = follow_grow; events = follow_events; ending = follow_ending }

-- ---- what agreement sees

after_seen : {End : Type 0} → (status : End → ℕ) (e : Event) (trace : List Event) (ending : Ending End) → after e (seen status trace ending) ≡ seen status (e ∷ trace) ending
after_seen status e trace (has_ended x) = refl
after_seen status e trace is_undefined = refl
after_seen status e trace is_short = refl

pub bounded_is_seen : (End : Type 0) → BoundedIsSeen End
bounded_is_seen End status (emit e o) = ap (after e) (bounded_is_seen End status o) ∙ after_seen status e (events_of o) (ending_of o)
bounded_is_seen End status (ended x) = refl
bounded_is_seen End status undefined = refl
bounded_is_seen End status short = refl
