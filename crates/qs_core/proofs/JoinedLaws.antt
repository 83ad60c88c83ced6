-- How deep joined lists nest.
use Rattle.std.proofs.Common.{[], ◌∷◌, arith}
use Rattle.qs_core.specs.Nesting.{JoinedNest}

pub joined_nest : JoinedNest
joined_nest [] rest = omega arith
joined_nest (s ∷ ss) rest = let e = joined_nest ss rest in omega arith
