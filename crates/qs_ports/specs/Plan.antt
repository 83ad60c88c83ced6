-- Which calls on a store in memory fail: a list of calls, each by its kind and its number among the calls of that kind.
use Rattle.std.specs.Prelude.{◌≡◌, ◌≢◌, ℕ, Contains}
use Rattle.qs_ports.specs.Causes.{one_more}
use Rattle.qs_ports.specs.declared.memory.plan.Plan.{Plan}
use Rattle.qs_ports.specs.declared.memory.plan.StoreCall.{StoreCall}
use Rattle.qs_ports.specs.declared.memory.plan.StoreCall.TheVariants.{Open, Read, Create, Write}

-- how many calls of this kind there were, those that failed included; a count stands still at its last value
abbrev pub calls_in : Plan → StoreCall → ℕ
calls_in p Open = p.opens
calls_in p Read = p.reads
calls_in p Create = p.creates
calls_in p Write = p.writes

-- this call, the next one of its kind, is one that fails
abbrev pub IsListed : Plan → StoreCall → Type 0
IsListed p kind = Contains p.failing.items (kind, calls_in p kind)

-- one call more of this kind was counted: the list and the other counts are as before
pub record CountsIn (p q : Plan) (kind : StoreCall) : Type 0 where
  pub failing_stays : q.failing.items ≡ p.failing.items
  pub calls_rise : calls_in q kind ≡ one_more (calls_in p kind)
  pub others_stay : (other : StoreCall) → other ≢ kind → calls_in q other ≡ calls_in p other
