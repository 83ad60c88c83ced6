-- The order of natural numbers with infinity.
use Rattle.std.proofs.Common.{arith}
use Rattle.qs_assert.specs.Values.{Extended, finite, infinite, plus, greater}
use Rattle.qs_entail.specs.Meaning.{AtLeast}

pub at_least_itself : (a : Extended) → AtLeast a a
at_least_itself infinite = tt
at_least_itself (finite a) = omega arith

pub at_least_through : (a b c : Extended) → AtLeast a b → AtLeast b c → AtLeast a c
at_least_through infinite b c h k = tt
at_least_through (finite a) infinite c h k = absurd h
at_least_through (finite a) (finite b) infinite h k = absurd k
at_least_through (finite a) (finite b) (finite c) h k = omega arith

pub first_at_most : (a b : Extended) → AtLeast (greater a b) a
first_at_most infinite b = tt
first_at_most (finite a) infinite = tt
first_at_most (finite a) (finite b) = omega arith

pub second_at_most : (a b : Extended) → AtLeast (greater a b) b
second_at_most infinite b = tt
second_at_most (finite a) infinite = tt
second_at_most (finite a) (finite b) = omega arith

pub both_at_most : (v a b : Extended) → AtLeast v a → AtLeast v b → AtLeast v (greater a b)
both_at_most infinite a b h k = tt
both_at_most (finite v) infinite b h k = absurd h
both_at_most (finite v) (finite a) infinite h k = absurd k
both_at_most (finite v) (finite a) (finite b) h k = omega arith

pub sums_at_least : (a b c d : Extended) → AtLeast a c → AtLeast b d → AtLeast (plus a b) (plus c d)
sums_at_least infinite b c d h k = tt
sums_at_least (finite a) infinite c d h k = tt
sums_at_least (finite a) (finite b) infinite d h k = absurd h
sums_at_least (finite a) (finite b) (finite c) infinite h k = absurd k
sums_at_least (finite a) (finite b) (finite c) (finite d) h k = omega arith

pub zero_at_most : (a : Extended) → AtLeast a (finite 0)
zero_at_most infinite = tt
zero_at_most (finite a) = omega arith
