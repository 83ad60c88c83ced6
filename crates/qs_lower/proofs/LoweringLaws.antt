-- What lowering promises.
use Rattle.std.proofs.Common.{◌≡◌, ℕ, ◌+◌, ◌≤◌, true, false, List, length, map, Some, ◌∙◌, arith}
use Rattle.std.specs.List.{slice_get}
use Rattle.qs_memory.specs.Values.{Value}
use Rattle.qs_events.specs.Runs.{Within}
use Rattle.qs_calls.specs.World.{World}
use Rattle.qs_core.specs.Trees.{CoreFunctionTree, CoreUnitTree}
use Rattle.qs_core.specs.Units.{core_run}
use Rattle.qs_core.specs.Fits.{function_fits, unit_fits}
use Rattle.qs_core.proofs.FitLaws.{all_at, function_parts, unit_parts}
use Rattle.qs_tac.specs.Holders.{temporaries}
use Rattle.qs_tac.specs.Units.{tac_run}
use Rattle.qs_lower.specs.Units.{function_code, straight_unit, lower_unit}
use Rattle.qs_lower.specs.Laws.{LoweringFollows}
use Rattle.qs_lower.proofs.ExactLaws.{run_exact}
use Rattle.qs_lower_expressions.proofs.JumpLaws.{weight_of}
use Rattle.qs_lower.proofs.FollowLaws.{told, code_is, context, ParametersThere, same_run, threaded_run}
use Rattle.qs_lower.proofs.PresenceLaws.{stmts_there, more_there, parameters_there}

module _ (u : CoreUnitTree) (fits : unit_fits u ≡ true) where
  function_at : (f : ℕ) (g : CoreFunctionTree) → slice_get u.functions f ≡ Some g → function_fits u g ≡ true
  function_at f g is = all_at (function_fits u) u.functions f g (unit_parts u fits).functions is

  all_parameters_there : (f : ℕ) (g : CoreFunctionTree) → slice_get u.functions f ≡ Some g → ParametersThere (length g.variables) (map (λ p. p.place) g.parameters)
  all_parameters_there f g is =
      more_there (0 + length g.variables) (length g.variables) (map (λ p. p.place) g.parameters) (omega arith)
      (parameters_there g.blocks 0 g.parameters g.variables (function_parts u g (function_at f g is)).parameters)

  straight_run :
      (root : ℕ) (arguments : List Value) (w : World) (n : ℕ)
      → (m : ℕ) × (n ≤ m) × (tac_run (straight_unit u) root arguments w m ≡ core_run u root arguments w n)
  straight_run root arguments w n =
      let weight = weight_of (straight_unit u) in
      same_run u n all_parameters_there
      (λ q suits depth f g stack first is real. stmts_there u (told u n q suits) g (function_code g) f stack (code_is u n q suits f g stack is) (context u n depth) first depth real false false g.body (function_parts u g (function_at f g is)).body)
      weight.0 weight.1 root arguments w

  run_back : (root : ℕ) (arguments : List Value) (w : World) (m : ℕ) → Within (tac_run (lower_unit u) root arguments w m) (core_run u root arguments w m)
  run_back root arguments w m =
      let weight = weight_of (straight_unit u) in
      threaded_run u m all_parameters_there
      (λ q suits depth f g stack first is real. stmts_there u (told u m q suits) g (function_code g) f stack (code_is u m q suits f g stack is) (context u m depth) first depth real false false g.body (function_parts u g (function_at f g is)).body)
      weight.0 weight.1 root arguments w

pub lowering_follows : LoweringFollows
lowering_follows u fits = record {
  forth = λ root arguments w n.
      let r = straight_run u fits root arguments w n in
      let e = run_exact temporaries (straight_unit u) root arguments w r.0 in
      (e.0, e.1 ∙ r.2);
  back = λ root arguments w m. run_back u fits root arguments w m;
}
