-- What is promised of orders.
use Rattle.std.specs.Prelude.{◌≡◌, ℕ, Bool, false, List}
use Rattle.qs_core.specs.CallGraph.{IsCycle, IsWithoutRecursion}
use Rattle.qs_core.specs.Trees.{CoreUnitTree}
use Rattle.qs_callgraph.specs.Orders.{IsDepthFirst, IsOrder}

-- where there is an order, there is no cycle
abbrev pub OrdersExcludeCycles : Type 0
OrdersExcludeCycles =
    (u : CoreUnitTree) (has_spec : ℕ → Bool) (order cycle : List ℕ) → IsOrder u has_spec order
    → IsCycle u has_spec cycle → ⊥

-- an order of all functions shows that there is no recursion
abbrev pub OrdersExcludeRecursion : Type 0
OrdersExcludeRecursion = (u : CoreUnitTree) (order : List ℕ) → IsOrder u (λ f. false) order → IsWithoutRecursion u

-- a depth first search finds the functions in one order
abbrev pub OneDepthFirst : Type 0
OneDepthFirst =
    (u : CoreUnitTree) (has_spec : ℕ → Bool) (fs gs : List ℕ) → IsDepthFirst u has_spec fs
    → IsDepthFirst u has_spec gs → fs ≡ gs
