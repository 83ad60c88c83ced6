use Rattle.std.proofs.Common.{◌≡◌, ◌++◌, drop}
use Rattle.std.specs.List.{flat_map}
use Rattle.qs_assert.specs.Variables.{node_variables}
use Rattle.qs_triples.proofs.mentions.variables.Given as goal

-- those so far, and those of the rest
abbrev pub invariant-loop-node : goal.invariant-loop-node
invariant-loop-node l = l.xs.items ++ flat_map node_variables (drop l.node-index l.nodes) ≡ flat_map node_variables l.nodes
