use Rattle.std.proofs.Common.{◌≡◌, ◌<◌, true, false, map, take}
use Rattle.qs_syntax.specs.TreeOf.{parameter_tree}
use Rattle.qs_print.specs.Printed.{printed_parameter, with_commas}
use Rattle.qs_print.specs.Words.{Writes}
use Rattle.qs_print.proofs.declarations.put_some_parameters.Given as goal

-- those so far are written
abbrev pub invariant-loop-p : goal.invariant-loop-p
invariant-loop-p l = record {
  start : l.is_first ≡ true → l.p-index ≡ 0;
  later : l.is_first ≡ false → 0 < l.p-index;
  written : Writes l.fn.out.items (with_commas (printed_parameter) (map parameter_tree (take l.p-index l.parameters))) l.out.items;
}
