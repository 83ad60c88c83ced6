use Rattle.std.proofs.Common.{◌≡◌, drop}
use Rattle.qs_typed_trees.specs.TreeOf.{arguments_tree}
use Rattle.qs_elaborate_bodies.specs.Acting.{arguments_act}
use Rattle.qs_elaborate_bodies.proofs.acting.arguments_act.Given as goal

-- none so far acts
abbrev pub invariant-loop-a : goal.invariant-loop-a
invariant-loop-a l = arguments_act (arguments_tree l.given) ≡ arguments_act (arguments_tree (drop l.a-index l.given))
