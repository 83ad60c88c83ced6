-- What derivations bound: the stack that runs take, or the calls that they make.
use Rattle.qs_events.specs.Weights.{Costs, Metric}
use Rattle.qs_triples.specs.declared.resource.Resource.{Resource}
use Rattle.qs_triples.specs.declared.resource.Resource.TheVariants.{Stack, Calls}

-- what the return of a function gives back of what its call cost
abbrev pub given_back : Resource → Costs → Costs
given_back Stack cost = cost
given_back Calls cost = λ f. 0

-- the metric of a resource, where a call of each function costs so much
abbrev pub metric_of : Resource → Costs → Metric
metric_of resource cost = record { taken = cost; given_back = given_back resource cost }
