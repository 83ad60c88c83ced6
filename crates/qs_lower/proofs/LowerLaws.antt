-- The parts of a unit's linear code make a unit.
use Rattle.std.proofs.Common.{◌≡◌, ℕ, true, List, map, ap, ◌∙◌}
use Rattle.qs_core.specs.Trees.{CoreUnitTree}
use Rattle.qs_core.specs.Fits as core
use Rattle.qs_tac.specs.Trees.{TacFunctionTree, TacUnitTree}
use Rattle.qs_tac.specs.Fits as tac
use Rattle.qs_tac.specs.declared.units.TacData.{TacData}
use Rattle.qs_lower_expressions.specs.Threads.{threaded_function}
use Rattle.qs_lower.specs.Units.{straight_function, lower_data, lower_unit}
use Rattle.qs_lower.proofs.UnitFits.{lowered_fits}

module _
    (u : CoreUnitTree) (functions : List TacFunctionTree) (main : ℕ) (data_blocks : List TacData)
    (fs : functions ≡ map threaded_function (map straight_function u.functions)) (m : main ≡ u.main)
    (ds : data_blocks ≡ map lower_data u.data_blocks)
  where
    abbrev made : TacUnitTree
    made = record { functions = functions; main = main; data_blocks = data_blocks }

    pub is_lowered : made ≡ lower_unit u
    is_lowered =
        ap (λ (l : List TacFunctionTree). record { functions = l; main = main; data_blocks = data_blocks }) fs
        ∙ ap (λ (n : ℕ). record { functions = map threaded_function (map straight_function u.functions); main = n; data_blocks = data_blocks }) m
        ∙ ap (λ (l : List TacData). record { functions = map threaded_function (map straight_function u.functions); main = u.main; data_blocks = l }) ds

    pub lowered_is_unit : core.unit_fits u ≡ true → tac.unit_fits made ≡ true
    lowered_is_unit fits = ap tac.unit_fits is_lowered ∙ lowered_fits u fits
