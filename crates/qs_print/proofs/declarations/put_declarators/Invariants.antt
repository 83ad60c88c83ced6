use Rattle.std.proofs.Common.{◌≡◌, ◌<◌, true, false, map, take}
use Rattle.qs_syntax.specs.TreeOf.{declarator_tree}
use Rattle.qs_print.specs.Printed.{printed_declarator, with_commas}
use Rattle.qs_print.specs.Words.{Writes}
use Rattle.qs_print.proofs.declarations.put_declarators.Given as goal

-- those so far are written
abbrev pub invariant-loop-d : goal.invariant-loop-d
invariant-loop-d l = record {
  start : l.is_first ≡ true → l.d-index ≡ 0;
  later : l.is_first ≡ false → 0 < l.d-index;
  written : Writes l.fn.out.items (with_commas (printed_declarator) (map declarator_tree (take l.d-index l.declarators))) l.out.items;
}
