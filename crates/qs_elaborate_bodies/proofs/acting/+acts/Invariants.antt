use Rattle.std.proofs.Common.{◌≡◌, drop}
use Rattle.qs_typed_trees.specs.TreeOf.{effects_tree}
use Rattle.qs_elaborate_bodies.specs.Acting.{effect_acts}
use Rattle.qs_elaborate_bodies.proofs.acting.+acts.Given as goal

-- none so far acts
abbrev pub invariant-any_acts-loop-a : goal.invariant-any_acts-loop-a
invariant-any_acts-loop-a l = effect_acts (effects_tree l.all) ≡ effect_acts (effects_tree (drop l.a-index l.all))
