use Rattle.std.proofs.Common.{◌≡◌, [], map, take}
use Rattle.qs_elaborate_bodies.specs.Names.{name_at}
use Rattle.qs_elaborate.specs.NamesOf.{variable_name_of}
use Rattle.qs_elaborate.specs.DeclaredOf.{declared_of}
use Rattle.qs_elaborate.proofs.naming.variable_names.Given as goal

-- those so far are named
abbrev pub invariant-loop-node : goal.invariant-loop-node
invariant-loop-node l = map variable_name_of l.variables.items ≡ map (λ node. name_at node [] (map declared_of l.declared)) (take l.node-index l.nodes)
