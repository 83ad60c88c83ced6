use Rattle.std.proofs.Common.{◌≡◌, map, refl, ap, ◌∙◌}
use Rattle.qs_core.specs.TreeOf.{data_block_tree}
use Rattle.qs_core.specs.TreeOf as core
use Rattle.qs_core.specs.UnitTrees.{unit_tree}
use Rattle.qs_tac.specs.TreeOf.{function_tree}
use Rattle.qs_lower_expressions.specs.Threads.{threaded_function}
use Rattle.qs_lower.specs.Units.{straight_function, lower_data}
use Rattle.qs_lower.proofs.LowerLaws.{lowered_is_unit}
use Rattle.qs_lower.proofs.unit.lower.Goals as goal

pub invariant_of-result : goal.invariant_of-result
invariant_of-result c =
    let u = unit_tree c.args.unit.now in
    let functions : map function_tree c.in_ok-functions.functions.items ≡ map threaded_function (map straight_function u.functions) =
    c.in_ok-functions.ensures ∙ ap (λ l. map threaded_function (map straight_function (map core.function_tree l))) c.deref.ensures.value in
    let data_blocks : c.in_ok-data_blocks.data_blocks.items ≡ map lower_data u.data_blocks =
    c.in_ok-data_blocks.ensures ∙ ap (λ l. map lower_data (map data_block_tree l)) c.deref-2.ensures.value in
    record {
      fits =
          lowered_is_unit u (map function_tree c.in_ok-functions.functions.items) c.args.unit.now.main.0 c.in_ok-data_blocks.data_blocks.items functions refl data_blocks
          c.args.unit.now.fits;
    }
