use Rattle.std.proofs.Common.{◌≡◌, take, reverse, pos, negsuc}
use Rattle.std.specs.Prelude.{◌+ℤ◌, ◌≤ℤ◌}
use Rattle.qs_assert.specs.Stacks.{joined, some_none}
use Rattle.qs_assert.specs.Totals.{total_value}
use Rattle.qs_assert.proofs.numbers.sum.Given as goal

-- what is done is the sum of the parts so far, whose last stands in front
abbrev pub invariant-loop-part : goal.invariant-loop-part
invariant-loop-part l = record {
  value : total_value l.total ≡ joined ◌+ℤ◌ (pos 0) (reverse (take l.part-index l.parts));
  wide : l.wide ≡ some_none (reverse (take l.part-index l.parts));
  below : l.total.carry ≤ℤ pos l.part-index;
  above : negsuc l.part-index ≤ℤ l.total.carry;
}
