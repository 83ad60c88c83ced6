use Rattle.std.proofs.Common.{◌≡◌, ◌<◌, true, false, map, take}
use Rattle.qs_syntax.specs.TreeOf.{initialiser_tree}
use Rattle.qs_print.specs.Printed.{printed_initialiser, with_commas}
use Rattle.qs_print.specs.Words.{Writes}
use Rattle.qs_print.proofs.declarations.+put_initialiser.Given as goal

-- those so far are written
abbrev pub invariant-put_initialisers-loop-i : goal.invariant-put_initialisers-loop-i
invariant-put_initialisers-loop-i l = record {
  start : l.is_first ≡ true → l.i-index ≡ 0;
  later : l.is_first ≡ false → 0 < l.i-index;
  written : Writes l.fn.out.items (with_commas (printed_initialiser) (map initialiser_tree (take l.i-index l.items))) l.out.items;
}
