use Rattle.std.proofs.Common.{◌≡◌, ◌++◌, drop}
use Rattle.qs_syntax.specs.TreeOf.{initialisers_tree}
use Rattle.qs_typed_units.specs.Addressed.{initialisers_addressed}
use Rattle.qs_typed_units.proofs.addressed.+initial.Given as goal

abbrev pub invariant-initialisers_addressed-loop-i : goal.invariant-initialisers_addressed-loop-i
invariant-initialisers_addressed-loop-i l =
    l.initial.nodes.items ++ initialisers_addressed l.names (initialisers_tree l.is) ≡ l.nodes.items ++ initialisers_addressed l.names (initialisers_tree (drop l.i-index l.is))
