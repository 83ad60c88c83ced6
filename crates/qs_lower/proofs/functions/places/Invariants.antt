use Rattle.std.proofs.Common.{◌≡◌, ◌++◌, map, drop}
use Rattle.qs_core.specs.TreeOf.{parameter_tree}
use Rattle.qs_lower.proofs.functions.places.Given as goal

abbrev pub invariant-loop-p : goal.invariant-loop-p
invariant-loop-p l =
    l.all.items ++ map (λ p. p.place) (map parameter_tree (drop l.p-index l.parameters))
    ≡ map (λ p. p.place) (map parameter_tree l.parameters)
