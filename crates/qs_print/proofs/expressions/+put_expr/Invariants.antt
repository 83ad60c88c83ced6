use Rattle.std.proofs.Common.{◌≡◌, ◌<◌, true, false, map, take}
use Rattle.qs_syntax.specs.TreeOf.{expr_tree}
use Rattle.qs_print.specs.Levels.{assignment_level}
use Rattle.qs_print.specs.Printed.{printed_part, with_commas}
use Rattle.qs_print.specs.Words.{Writes}
use Rattle.qs_print.proofs.expressions.+put_expr.Given as goal

-- those so far are written
abbrev pub invariant-put_arguments-loop-e : goal.invariant-put_arguments-loop-e
invariant-put_arguments-loop-e l = record {
  start : l.is_first ≡ true → l.e-index ≡ 0;
  later : l.is_first ≡ false → 0 < l.e-index;
  written : Writes l.fn.out.items (with_commas (printed_part assignment_level) (map expr_tree (take l.e-index l.arguments))) l.out.items;
}
