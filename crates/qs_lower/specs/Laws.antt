-- What is promised of lowering.
use Rattle.std.specs.Prelude.{◌≡◌, ℕ, true, List}
use Rattle.qs_memory.specs.Values.{Value}
use Rattle.qs_events.specs.Runs.{Within}
use Rattle.qs_calls.specs.World.{World}
use Rattle.qs_core.specs.Trees.{CoreUnitTree}
use Rattle.qs_core.specs.Units.{core_run}
use Rattle.qs_core.specs.Fits.{unit_fits}
use Rattle.qs_tac.specs.Trees.{TacUnitTree}
use Rattle.qs_tac.specs.Fits as tac
use Rattle.qs_tac.specs.Units.{tac_run}
use Rattle.qs_lower.specs.Units.{lower_unit}

-- The runs of linear code follow those of core, from every root function, with every arguments, memory and input. Each
-- run of core is one of linear code, within some number of steps: with the same events, and the same result, memory and
-- input where it has ended. What linear code comes to in some steps core comes to within the same bound, since each turn
-- of a loop and each call takes a step at least.
pub record Follows (u : CoreUnitTree) (t : TacUnitTree) : Type 0 where
  pub forth :
      (root : ℕ) (arguments : List Value) (w : World) (n : ℕ)
      → (m : ℕ) × (tac_run t root arguments w m ≡ core_run u root arguments w n)
  pub back :
      (root : ℕ) (arguments : List Value) (w : World) (m : ℕ)
      → Within (tac_run t root arguments w m) (core_run u root arguments w m)

abbrev pub LoweringFollows : Type 0
LoweringFollows = (u : CoreUnitTree) → unit_fits u ≡ true → Follows u (lower_unit u)

-- What is made of a unit that fits is a unit that fits.
abbrev pub LoweredFits : Type 0
LoweredFits = (u : CoreUnitTree) → unit_fits u ≡ true → tac.unit_fits (lower_unit u) ≡ true
