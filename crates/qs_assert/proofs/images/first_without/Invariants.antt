use Rattle.std.proofs.Common.{◌≡◌, drop}
use Rattle.std.specs.List.{flat_map}
use Rattle.qs_assert.specs.Simultaneous.{images, first_lacking}
use Rattle.qs_assert.specs.Variables.{node_variables}
use Rattle.qs_assert.proofs.images.first_without.Given as goal

-- each variable so far has an image
abbrev pub invariant-loop-node : goal.invariant-loop-node
invariant-loop-node l =
    first_lacking (images l.list l.others) (flat_map node_variables l.nodes) ≡ first_lacking (images l.list l.others) (flat_map node_variables (drop l.node-index l.nodes))
