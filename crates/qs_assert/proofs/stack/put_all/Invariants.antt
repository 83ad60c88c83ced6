use Rattle.std.proofs.Common.{◌≡◌, ◌++◌, reverse, replicate}
use Rattle.qs_assert.proofs.stack.put_all.Given as goal

abbrev pub invariant-loop-index : goal.invariant-loop-index
invariant-loop-index g l = reverse l.stack.items ≡ replicate l._index l.item ++ reverse l.initial.stack.items
