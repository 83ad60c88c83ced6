use Rattle.std.proofs.Common.{◌+◌, ◌++◌, ◌==◌, ◌<◌, List, length, subst, map, drop, arith}
use Rattle.std.proofs.lemmas.Bool.Decides.{nat_tests}
use Rattle.qs_tac.specs.TreeOf.{instruction_tree, function_tree}
use Rattle.qs_tac.specs.UnitTrees.{unit_tree}
use Rattle.qs_tac.specs.Fits.{instruction_fits}
use Rattle.qs_tac.specs.declared.instruction.Instruction.{Instruction}
use Rattle.qs_emit_selection.specs.ContextOf.{context_tree, labels_tree}
use Rattle.qs_emit_selection.specs.Emission.{body_items}
use Rattle.qs_emit_selection.specs.Limits.{passes_few}
use Rattle.qs_emit_selection.proofs.FitLaws.{first_passes}
use Rattle.qs_emit_selection.proofs.FunctionLaws.{next_instruction, end_is, body_goes_on}
use Rattle.qs_emit_selection.proofs.functions.put_body.Goals as goal

pub put_code-requires-clause-fits : goal.put_code-requires-clause-fits
put_code-requires-clause-fits c =
    let d = c.args.c.now in
    let code = d.function.now.code.items in
    let at = c.loop-i in
    let i = c.i-item.result in
    (first_passes (instruction_fits (unit_tree d.unit.now) (function_tree d.function.now)) (instruction_tree i)
    (map instruction_tree (drop at.i-index code)) (map instruction_tree (drop (at.i-index + 1) code))
    (next_instruction code c.deref-i-items.result.now at.i-index i c.deref-i-items.ensures.value c.i-item.is c.loop-i-test.true) at.invariant.fits).0

pub loop-i-preserved : goal.loop-i-preserved
loop-i-preserved c =
    let d = c.args.c.now in
    let code = d.function.now.code.items in
    let at = c.loop-i in
    let i = c.i-item.result in
    let all = map instruction_tree (drop at.i-index code) in
    let rest = map instruction_tree (drop (at.i-index + 1) code) in
    let item = next_instruction code c.deref-i-items.result.now at.i-index i c.deref-i-items.ensures.value c.i-item.is c.loop-i-test.true in
    let next = c.in_ok-next.next in
    let end = c.in_ok-end.end in
    let same = c.in_ok-next.ensures in
    let whole = c.in_ok-end.ensures in
    let index = at.invariant.at in
    let items = c.deref-i-items.ensures.value in
    let inside : at.i-index < length code = subst (λ (l : List Instruction). at.i-index < length l) items c.loop-i-test.true in
    let last =
    end_is code (at.i-index + 1) (next == end) (λ e. grind (arith, nat_tests, e, same, whole, index))
    (λ h. grind (arith, nat_tests, h, same, whole, index, inside)) in
    record {
      rest =
          body_goes_on (context_tree d) (labels_tree d) at.items.items c.put_item.new.items.items c.put_code.new.items.items
          (c.args.items.now.items ++ body_items (context_tree d) (labels_tree d) 0 (map instruction_tree code)) at.k next
          c.in_ok-instruction_label.field-0 (next == end) (instruction_tree i) all rest item last same c.in_ok-instruction_label.ensures
          c.in_ok-put_item.ensures c.in_ok-put_code.ensures at.invariant.rest;
      at = omega (arith, same, index);
      few = (first_passes passes_few (instruction_tree i) all rest item at.invariant.few).1;
      fits =
          (first_passes (instruction_fits (unit_tree d.unit.now) (function_tree d.function.now)) (instruction_tree i) all rest item at.invariant.fits).1;
    }
