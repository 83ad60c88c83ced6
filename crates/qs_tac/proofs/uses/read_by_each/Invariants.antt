use Rattle.std.proofs.Common.{◌≡◌, flat_map, drop}
use Rattle.std.specs.List.{slice_get}
use Rattle.qs_tac.specs.Uses.{read_by}
use Rattle.qs_tac.proofs.uses.read_by_each.Given as goal

-- what is looked for stands among those that the rest reads
abbrev pub invariant-loop-a : goal.invariant-loop-a
invariant-loop-a l = slice_get (flat_map read_by (drop l.a-index l.operands)) l.left ≡ slice_get (flat_map read_by l.operands) l.fn.k
