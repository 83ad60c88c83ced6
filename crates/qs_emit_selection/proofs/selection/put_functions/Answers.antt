use Rattle.std.proofs.Common.{◌+◌, ◌++◌, map, drop, refl}
use Rattle.qs_tac.specs.TreeOf.{function_tree}
use Rattle.qs_tac.specs.UnitTrees.{unit_tree}
use Rattle.qs_tac.specs.Fits.{function_fits}
use Rattle.qs_tac.specs.Places.{places_tree}
use Rattle.qs_emit_selection.specs.Data.{data_address}
use Rattle.qs_emit_selection.specs.Emission.{functions_items}
use Rattle.qs_emit_selection.proofs.FitLaws.{functions_fit, first_passes}
use Rattle.qs_emit_selection.proofs.UnitLaws.{next_function, functions_go_on, faults_go_on, no_fault_now}
use Rattle.qs_emit_selection.proofs.selection.put_functions.Goals as goal

pub put_function_at-requires-clause-fault : goal.put_function_at-requires-clause-fault
put_function_at-requires-clause-fault c =
    let functions = c.args.unit.now.functions.items in
    let at = c.loop-f in
    let g = c.function-item.result in
    no_fault_now (map places_tree c.args.places.now) at.f (function_tree g) (places_tree c.places_of-own.result.now)
    (map function_tree (drop at.f functions)) (map function_tree (drop (at.f + 1) functions))
    (next_function functions c.deref-function-items.result.now at.f g c.deref-function-items.ensures.value c.function-item.is c.loop-f-test.true)
    c.places_of-own.ensures at.invariant.fit

pub put_function_at-requires-clause-fits : goal.put_function_at-requires-clause-fits
put_function_at-requires-clause-fits c =
    let functions = c.args.unit.now.functions.items in
    let at = c.loop-f in
    let g = c.function-item.result in
    (first_passes (function_fits (unit_tree c.args.unit.now)) (function_tree g) (map function_tree (drop at.f functions))
    (map function_tree (drop (at.f + 1) functions))
    (next_function functions c.deref-function-items.result.now at.f g c.deref-function-items.ensures.value c.function-item.is c.loop-f-test.true)
    at.invariant.fits).0

pub loop-f-init : goal.loop-f-init
loop-f-init c = record {
  rest = refl;
  fit = c.requires.fit;
  fits = functions_fit (unit_tree c.args.unit.now) c.args.unit.now.fits;
}

pub loop-f-preserved : goal.loop-f-preserved
loop-f-preserved c =
    let u = unit_tree c.args.unit.now in
    let ps = map places_tree c.args.places.now in
    let functions = c.args.unit.now.functions.items in
    let at = c.loop-f in
    let g = c.function-item.result in
    let next = next_function functions c.deref-function-items.result.now at.f g c.deref-function-items.ensures.value c.function-item.is c.loop-f-test.true in
    record {
      rest =
          functions_go_on u ps at.items.items c.put_function_at.new.items.items
          (c.args.items.now.items ++ functions_items u ps (data_address u.data_blocks) 0 (map function_tree functions))
          at.f c.in_ok-number.number (function_tree g) (places_tree c.places_of-own.result.now) (map function_tree (drop at.f functions))
          (map function_tree (drop (at.f + 1) functions)) next c.in_ok-number.ensures c.places_of-own.ensures
          c.in_ok-put_function_at.ensures at.invariant.rest;
      fit =
          faults_go_on ps at.f (function_tree g) (map function_tree (drop at.f functions)) (map function_tree (drop (at.f + 1) functions)) next
          at.invariant.fit;
      fits = (first_passes (function_fits u) (function_tree g) (map function_tree (drop at.f functions)) (map function_tree (drop (at.f + 1) functions)) next at.invariant.fits).1;
    }
