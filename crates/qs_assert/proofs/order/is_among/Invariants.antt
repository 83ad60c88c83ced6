use Rattle.std.proofs.Common.{◌≡◌, ◌-◌, take, drop, length, false}
use Rattle.qs_assert.specs.Order.{is_among}
use Rattle.qs_assert.proofs.order.is_among.Given as goal

-- none of so many definitions at either end has the name
abbrev pub invariant-loop-k : goal.invariant-loop-k
invariant-loop-k l = record {
  count : l.count ≡ length l.defines;
  front : is_among (take l.k l.defines) l.name ≡ false;
  back : is_among (drop (length l.defines - l.k) l.defines) l.name ≡ false;
}
