-- Two calls of a function one after the other, and one within the other: their stack, and their count.
use Rattle.std.proofs.Common.{◌≡◌, [], ◌∷◌, List, refl}
use Rattle.qs_events.specs.Events.{Event, Calls, Returns, Takes, TakesEnd, Puts}
use Rattle.qs_events.specs.Weights.{of_calls, weight, weight_by, calls_in}

abbrev one_after_the_other : List Event
one_after_the_other = Calls 0 ∷ Returns 0 ∷ Puts 65 ∷ Calls 0 ∷ Returns 0 ∷ []

abbrev one_in_the_other : List Event
one_in_the_other = Calls 0 ∷ Takes 65 ∷ Calls 0 ∷ TakesEnd ∷ Returns 0 ∷ Returns 0 ∷ []

one_at_a_time : weight (λ f. 16) one_after_the_other ≡ 16
one_at_a_time = refl

two_at_a_time : weight (λ f. 16) one_in_the_other ≡ 32
two_at_a_time = refl

-- what is counted doesn't go by how calls stand
two_calls : weight_by (of_calls (λ f. 16)) one_after_the_other ≡ 32
two_calls = refl

two_calls_too : weight_by (of_calls (λ f. 16)) one_in_the_other ≡ 32
two_calls_too = refl

two_in_all : calls_in one_after_the_other ≡ 2
two_in_all = refl
