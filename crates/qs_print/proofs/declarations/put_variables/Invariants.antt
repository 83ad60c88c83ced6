use Rattle.std.proofs.Common.{◌≡◌, ◌<◌, true, false, map, take}
use Rattle.qs_syntax.specs.TreeOf.{variable_tree}
use Rattle.qs_print.specs.Printed.{printed_variable, with_commas}
use Rattle.qs_print.specs.Words.{Writes}
use Rattle.qs_print.proofs.declarations.put_variables.Given as goal

-- those so far are written
abbrev pub invariant-loop-v : goal.invariant-loop-v
invariant-loop-v l = record {
  start : l.is_first ≡ true → l.v-index ≡ 0;
  later : l.is_first ≡ false → 0 < l.v-index;
  written : Writes l.fn.out.items (with_commas (printed_variable) (map variable_tree (take l.v-index l.variables))) l.out.items;
}
