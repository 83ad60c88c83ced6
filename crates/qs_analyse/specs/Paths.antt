-- Chains of calls, and the greatest sum of costs along one.
use Rattle.std.specs.Prelude.{◌≡◌, ℕ, ◌+◌, ◌≤◌, List, [], ◌∷◌}
use Rattle.qs_core.specs.CallGraph.{HasCall}
use Rattle.qs_core.specs.Trees.{CoreUnitTree}
use Rattle.qs_events.specs.Weights.{Costs}

-- f calls the first function of the list, and each of them the next
abbrev pub IsChainFrom : CoreUnitTree → (f : ℕ) → List ℕ → Type 0
IsChainFrom u f [] = Unit {0}
IsChainFrom u f (g ∷ gs) = HasCall u f g × IsChainFrom u g gs

abbrev pub total_cost : Costs → List ℕ → ℕ
total_cost cost [] = 0
total_cost cost (g ∷ gs) = cost g + total_cost cost gs

-- n is the greatest sum of costs over the chains of calls that begin at f: one has it, and none has more
pub record IsLongestPath (u : CoreUnitTree) (cost : Costs) (f n : ℕ) : Type 0 where
  pub chain : List ℕ
  pub is_chain : IsChainFrom u f chain
  pub reached : cost f + total_cost cost chain ≡ n
  pub bound : (gs : List ℕ) → IsChainFrom u f gs → cost f + total_cost cost gs ≤ n
