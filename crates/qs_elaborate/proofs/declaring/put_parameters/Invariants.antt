use Rattle.std.proofs.Common.{◌≡◌, ◌++◌, map, drop}
use Rattle.qs_syntax.specs.TreeOf.{parameter_tree}
use Rattle.qs_elaborate.specs.DeclaredOf.{declared_of}
use Rattle.qs_elaborate_bodies.specs.Names.{declared_parameter}
use Rattle.qs_elaborate.proofs.declaring.put_parameters.Given as goal

-- those so far are there, and the rest gives the whole
abbrev pub invariant-loop-p : goal.invariant-loop-p
invariant-loop-p l =
    map declared_of l.out.items ++ map declared_parameter (map parameter_tree (drop l.p-index l.ps))
    ≡ map declared_of l.fn.out.items ++ map declared_parameter (map parameter_tree l.ps)
