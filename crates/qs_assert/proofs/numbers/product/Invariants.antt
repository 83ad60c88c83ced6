use Rattle.std.proofs.Common.{◌≡◌, take, reverse, pos}
use Rattle.std.specs.Prelude.{◌*ℤ◌}
use Rattle.qs_assert.specs.Stacks.{joined, some_none, known}
use Rattle.qs_assert.proofs.numbers.product.Given as goal

-- what is done is the product of the parts so far, whose last stands in front
abbrev pub invariant-loop-part : goal.invariant-loop-part
invariant-loop-part l = record {
  value : l.product ≡ known (joined ◌*ℤ◌ (pos 1) (reverse (take l.part-index l.parts)));
  wide : l.wide ≡ some_none (reverse (take l.part-index l.parts));
}
