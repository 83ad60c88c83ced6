-- How the parts of a node are joined.
use Rattle.std.specs.Prelude.{ℕ}
use Rattle.qs_assert.specs.declared.amounts.Joining.{Joining}
use Rattle.qs_assert.specs.declared.amounts.Joining.TheVariants.{Sum, Greatest, Product}
use Rattle.qs_assert.specs.Values.{Extended, finite, plus, greater, times}
use Rattle.qs_assert.specs.Stacks.{Stacks, joined_step}

abbrev pub operation : Joining → Extended → Extended → Extended
operation Sum = plus
operation Greatest = greater
operation Product = times

abbrev pub start : Joining → Extended
start Sum = finite 0
start Greatest = finite 0
start Product = finite 1

-- the first n amounts are joined
abbrev pub join_step : Joining → ℕ → Stacks → Stacks
join_step joining n = joined_step (operation joining) (start joining) n
