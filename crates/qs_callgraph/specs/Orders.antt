-- Orders of functions in which callees stand before callers, and cycles.
use Rattle.std.specs.Prelude.{◌≡◌, ℕ, ◌<◌, ◌||◌, Bool, true, false, List, [], ◌∷◌, ◌++◌, length}
use Rattle.std.specs.List.{list_any}
use Rattle.qs_core.specs.CallGraph.{below, called_by, IsCycle, is_member}
use Rattle.qs_core.specs.Trees.{CoreUnitTree}
use Rattle.qs_callgraph.specs.CallLists.{numbers}
use Rattle.qs_callgraph.specs.declared.fault.CycleFault.{CycleFault}
use Rattle.qs_callgraph.specs.declared.fault.CycleFault.TheVariants.{NoMemory, Cycle}

-- Functions in an order in which each stands once, and behind those without a specification that it calls; earlier ones
-- stand before them all. A callee with a specification ends the search: it may stand anywhere or nowhere.
abbrev pub CalleesFirst : (callees : ℕ → List ℕ) → (has_spec : ℕ → Bool) → (earlier fs : List ℕ) → Type 0
CalleesFirst callees has_spec earlier [] = Unit {0}
CalleesFirst callees has_spec earlier (f ∷ fs) =
    (is_member f earlier ≡ false)
    × ((g : ℕ) → is_member g (callees f) ≡ true → has_spec g ≡ false → is_member g earlier ≡ true)
    × CalleesFirst callees has_spec (f ∷ earlier) fs

-- the functions without a specification, each once, callees before their callers
pub record IsOrder (u : CoreUnitTree) (has_spec : ℕ → Bool) (fs : List ℕ) : Type 0 where
  pub known : (f : ℕ) → is_member f fs ≡ true → f < length u.functions
  pub none : list_any has_spec fs ≡ false
  pub all_there : (f : ℕ) → f < length u.functions → has_spec f ≡ false → is_member f fs ≡ true
  pub in_order : CalleesFirst (called_by u) has_spec [] fs

-- A depth first search goes through functions one after another. It passes over those that have a specification or that it
-- has found. Each other it enters: it goes through those that it calls, and then has found it too.
pub data DepthFirst (callees : ℕ → List ℕ) (has_spec : ℕ → Bool) : (found fs all : List ℕ) → Type 0 where
  ended : {found : List ℕ} → DepthFirst callees has_spec found [] found
  passes : {f : ℕ} {found fs all : List ℕ} → (has_spec f || is_member f found) ≡ true
      → DepthFirst callees has_spec found fs all → DepthFirst callees has_spec found (f ∷ fs) all
  enters : {f : ℕ} {found fs behind all : List ℕ} → (has_spec f || is_member f found) ≡ false
      → DepthFirst callees has_spec found (callees f) behind → DepthFirst callees has_spec (behind ++ f ∷ []) fs all
      → DepthFirst callees has_spec found (f ∷ fs) all

-- the order in which a search through all functions of the unit finds them
abbrev pub IsDepthFirst : CoreUnitTree → (has_spec : ℕ → Bool) → List ℕ → Type 0
IsDepthFirst u has_spec fs = DepthFirst (called_by u) has_spec [] (below (length u.functions)) fs

-- the fault is a cycle, if it isn't want of memory
abbrev pub IsTrueCycle : CoreUnitTree → (has_spec : ℕ → Bool) → CycleFault → Type 0
IsTrueCycle u has_spec NoMemory = Unit {0}
IsTrueCycle u has_spec (Cycle fs) = IsCycle u has_spec (numbers fs.items)
