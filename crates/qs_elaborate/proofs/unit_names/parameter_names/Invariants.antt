use Rattle.std.proofs.Common.{◌≡◌, ◌++◌, map, drop}
use Rattle.qs_syntax.specs.Trees.{ParameterTree}
use Rattle.qs_syntax.specs.TreeOf.{parameter_tree}
use Rattle.qs_elaborate_bodies.specs.Names.{parameter_name}
use Rattle.qs_elaborate.proofs.unit_names.parameter_names.Given as goal

-- those so far are there, and the rest gives the whole
abbrev pub invariant-loop-p : goal.invariant-loop-p
invariant-loop-p l =
    l.names.items ++ map (λ (p : ParameterTree). parameter_name p.name) (map parameter_tree (drop l.p-index l.ps))
    ≡ map (λ (p : ParameterTree). parameter_name p.name) (map parameter_tree l.ps)
