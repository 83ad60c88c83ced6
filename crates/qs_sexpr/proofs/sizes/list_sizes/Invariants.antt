use Rattle.std.proofs.Common.{◌≤◌, drop, length, map}
use Rattle.qs_sexpr.specs.Marks.{mark_of}
use Rattle.qs_sexpr.specs.Pages.{AreSizes}
use Rattle.qs_sexpr.proofs.sizes.list_sizes.Given as goal

abbrev pub invariant-loop-at : goal.invariant-loop-at
invariant-loop-at l = record {
  within : l.at ≤ length l.tokens;
  sizes : AreSizes l.left.items l.found.items (map mark_of (drop l.at l.tokens));
}

abbrev pub decreases-loop-at : goal.decreases-loop-at
decreases-loop-at l = l.at
