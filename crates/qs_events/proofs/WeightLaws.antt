-- The weight of a trace is the greatest sum over its fronts, whatever the metric.
use Rattle.std.proofs.Common.{◌≡◌, ◌⊎◌, inl, inr, ⊎_elim, ℕ, ◌+◌, ◌<◌, ◌≤◌, ℤ, pos, ◌+ℤ◌, ◌≤ℤ◌, List, [], ◌∷◌, ◌++◌, refl, sym, ap, ◌∙◌, subst, arith}
use Rattle.std.proofs.lemmas.Int.{ints}
use Rattle.std.proofs.lemmas.Bool.{cases_lt}
use Rattle.qs_events.specs.Events.{Event, Calls, Returns, Takes, TakesEnd, Puts}
use Rattle.qs_events.specs.Weights.{Metric, of_calls, amount, sum, weight_from, weight_by, calls_in, Attains}
use Rattle.qs_events.specs.Laws.{WeightIsGreatest, JoinedTracesWeigh, CallsAreCounted}

-- the weight as a sum with what comes first: at least 0, at least that sum, and one of these
weight_parts : (metric : Metric) (e : Event) (n : ℕ) → ((amount metric e +ℤ pos n) ≤ℤ pos (weight_from metric e n)) × ((weight_from metric e n ≡ 0) ⊎ (pos (weight_from metric e n) ≡ amount metric e +ℤ pos n))
weight_parts metric (Calls f) n = (omega (arith, ints), inr (omega (arith, ints)))
weight_parts metric (Returns f) n =
    (omega (arith, ints), ⊎_elim (λ (less : n < metric.given_back f). inl (omega arith)) (λ (more : metric.given_back f ≤ n). inr (omega (arith, ints))) (cases_lt n (metric.given_back f)))
weight_parts metric (Takes x) n = (omega (arith, ints), inr (omega (arith, ints)))
weight_parts metric TakesEnd n = (omega (arith, ints), inr (omega (arith, ints)))
weight_parts metric (Puts x) n = (omega (arith, ints), inr (omega (arith, ints)))

bounds : (metric : Metric) (front back : List Event) → sum metric front ≤ℤ pos (weight_by metric (front ++ back))
bounds metric [] back = omega (arith, ints)
bounds metric (e ∷ front) back =
    let h = bounds metric front back in
    let p = (weight_parts metric e (weight_by metric (front ++ back))).0 in
    omega (arith, ints, h, p)

attained : (metric : Metric) (trace : List Event) → Attains metric trace (weight_by metric trace)
attained metric [] = record { front = []; is = record { back = []; whole = refl }; reaches = refl }
attained metric (e ∷ trace) = at (attained metric trace) ((weight_parts metric e (weight_by metric trace)).1)
  where
    at : Attains metric trace (weight_by metric trace) → (weight_from metric e (weight_by metric trace) ≡ 0) ⊎ (pos (weight_from metric e (weight_by metric trace)) ≡ amount metric e +ℤ pos (weight_by metric trace)) → Attains metric (e ∷ trace) (weight_from metric e (weight_by metric trace))
    at a (inl none) = record { front = []; is = record { back = e ∷ trace; whole = refl }; reaches = ap pos (sym none) }
    at a (inr sums) = record {
      front = e ∷ a.front;
      is = record { back = a.is.back; whole = ap (λ l. e ∷ l) a.is.whole };
      reaches = ap (λ z. amount metric e +ℤ z) a.reaches ∙ sym sums;
    }

pub weight_is_greatest : WeightIsGreatest
weight_is_greatest metric trace = record {
  bounds = λ front is. subst (λ (t : List Event). sum metric front ≤ℤ pos (weight_by metric t)) is.whole (bounds metric front is.back);
  attained = attained metric trace;
}

-- ---- joined traces

sum-append : (metric : Metric) (front back : List Event) → sum metric (front ++ back) ≡ sum metric front +ℤ sum metric back
sum-append metric [] back = omega (arith, ints)
sum-append metric (e ∷ front) back = let h = sum-append metric front back in omega (arith, ints, h)

first_weighs : (metric : Metric) (front back : List Event) → weight_by metric front ≤ weight_by metric (front ++ back)
first_weighs metric [] back = omega arith
first_weighs metric (e ∷ front) back = more e (weight_by metric front) (weight_by metric (front ++ back)) (first_weighs metric front back)
  where
    more : (e : Event) (m n : ℕ) → m ≤ n → weight_from metric e m ≤ weight_from metric e n
    more (Calls f) m n h = omega arith
    more (Returns f) m n h = omega arith
    more (Takes x) m n h = h
    more TakesEnd m n h = h
    more (Puts x) m n h = h

second_weighs : (metric : Metric) (front back : List Event) → (sum metric front +ℤ pos (weight_by metric back)) ≤ℤ pos (weight_by metric (front ++ back))
second_weighs metric [] back = omega (arith, ints)
second_weighs metric (e ∷ front) back =
    let h = second_weighs metric front back in
    let p = (weight_parts metric e (weight_by metric (front ++ back))).0 in
    omega (arith, ints, h, p)

-- one event before both
carried : (metric : Metric) (e : Event) (m n : ℕ) (s : ℤ) → m ≤ n → (n ≡ m) ⊎ (pos n ≡ s) → (weight_from metric e n ≡ weight_from metric e m) ⊎ (pos (weight_from metric e n) ≡ amount metric e +ℤ s)
carried metric e m n s le (inl same) = inl (ap (weight_from metric e) same)
carried metric (Calls f) m n s le (inr sums) = inr (omega (arith, ints))
carried metric (Returns f) m n s le (inr sums) =
    ⊎_elim (λ (less : n < metric.given_back f). inl (omega arith)) (λ (more : metric.given_back f ≤ n). inr (omega (arith, ints))) (cases_lt n (metric.given_back f))
carried metric (Takes x) m n s le (inr sums) = inr (omega (arith, ints))
carried metric TakesEnd m n s le (inr sums) = inr (omega (arith, ints))
carried metric (Puts x) m n s le (inr sums) = inr (omega (arith, ints))

one_weighs : (metric : Metric) (front back : List Event) → (weight_by metric (front ++ back) ≡ weight_by metric front) ⊎ (pos (weight_by metric (front ++ back)) ≡ sum metric front +ℤ pos (weight_by metric back))
one_weighs metric [] back = inr (omega (arith, ints))
one_weighs metric (e ∷ front) back =
    ⊎_elim (λ same. inl same) (λ sums. inr (sums ∙ omega (arith, ints)))
    (carried metric e (weight_by metric front) (weight_by metric (front ++ back)) (sum metric front +ℤ pos (weight_by metric back)) (first_weighs metric front back) (one_weighs metric front back))

pub joined_traces_weigh : JoinedTracesWeigh
joined_traces_weigh metric front back = record {
  sums = sum-append metric front back;
  first = first_weighs metric front back;
  second = second_weighs metric front back;
  one = one_weighs metric front back;
}

-- ---- counts

pub calls_are_counted : CallsAreCounted
calls_are_counted [] = refl
calls_are_counted (Calls f ∷ trace) = ap (λ n. 1 + n) (calls_are_counted trace)
calls_are_counted (Returns f ∷ trace) = let h = calls_are_counted trace in omega (arith, h)
calls_are_counted (Takes x ∷ trace) = calls_are_counted trace
calls_are_counted (TakesEnd ∷ trace) = calls_are_counted trace
calls_are_counted (Puts x ∷ trace) = calls_are_counted trace
