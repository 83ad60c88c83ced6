-- The bound on the calls of main.
use Rattle.std.specs.Prelude.{ℕ, ℤ, List, length, replicate}
use Rattle.qs_assert.specs.declared.define.Amount.{Amount}
use Rattle.qs_core.specs.Trees.{CoreUnitTree}
use Rattle.qs_core.specs.UnitTrees.{unit_tree}
use Rattle.qs_core.specs.declared.unit.CoreUnit.{CoreUnit}
use Rattle.qs_triples.specs.Derivations.{ProofsTree}
use Rattle.qs_triples.specs.TreeOf.{proofs_tree}
use Rattle.qs_triples.specs.declared.derivation.Proofs.{Proofs}
use Rattle.qs_certify.specs.Bound.{main_bound}

-- each function costs 1
abbrev pub ones : CoreUnitTree → List ℕ
ones u = replicate (length u.functions) 1

-- main's call, and the calls below it
abbrev pub main_count : CoreUnitTree → ProofsTree → (arguments : List ℤ) → Amount
main_count u proofs arguments = main_bound u proofs (ones u) arguments

-- of the code's values
abbrev pub count_in : CoreUnit → Proofs → (arguments : List ℤ) → Amount
count_in unit proofs arguments = main_count (unit_tree unit) (proofs_tree proofs) arguments
