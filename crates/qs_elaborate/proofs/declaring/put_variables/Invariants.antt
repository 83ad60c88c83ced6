use Rattle.std.proofs.Common.{◌≡◌, ◌++◌, map, drop}
use Rattle.qs_syntax.specs.TreeOf.{variable_tree}
use Rattle.qs_elaborate.specs.DeclaredOf.{declared_of}
use Rattle.qs_elaborate_bodies.specs.Names.{declared_variable}
use Rattle.qs_elaborate.proofs.declaring.put_variables.Given as goal

-- those so far are there, and the rest gives the whole
abbrev pub invariant-loop-v : goal.invariant-loop-v
invariant-loop-v l =
    map declared_of l.out.items ++ map declared_variable (map variable_tree (drop l.v-index l.vs))
    ≡ map declared_of l.fn.out.items ++ map declared_variable (map variable_tree l.vs)
