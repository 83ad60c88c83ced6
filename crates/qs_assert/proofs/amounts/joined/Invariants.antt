use Rattle.std.proofs.Common.{◌≡◌, take, reverse}
use Rattle.qs_assert.specs.Stacks.{joined_amounts, some_amount_wide, amount_known}
use Rattle.qs_assert.specs.Joining.{operation, start}
use Rattle.qs_assert.proofs.amounts.joined.Given as goal

-- what is done is the join of the parts so far, whose last stands in front
abbrev pub invariant-loop-part : goal.invariant-loop-part
invariant-loop-part l = record {
  whole : l.whole ≡ amount_known (joined_amounts (operation l.joining) (start l.joining) (reverse (take l.part-index l.parts)));
  wide : l.wide ≡ some_amount_wide (reverse (take l.part-index l.parts));
}
