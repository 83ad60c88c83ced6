-- The order of atoms and of monomials: that of their codes, and of their lists of atoms.
use Rattle.std.specs.Prelude.{List, [], ◌∷◌}
use Rattle.std.specs.declared.cmp.Ordering.{Ordering}
use Rattle.std.specs.Ordering.{on}
use Rattle.std.specs.Cmp.{IsTotalOrder}
use Rattle.std.proofs.lemmas.Cmp.{nat_cmp_total, int_cmp_total, on_total, then_total, lists_total}
use Rattle.std.specs.Cmp.Lexicographic.{slice_cmp}
use Rattle.qs_poly.specs.Nodes.{node_cmp, node_rank, node_number}
use Rattle.qs_poly.specs.Polynomials.{AtomTree, Monomial, one, times}
use Rattle.qs_poly.specs.Codes.{code}

abbrev pub atom_cmp : AtomTree → AtomTree → Ordering
atom_cmp = on code (slice_cmp node_cmp)

abbrev pub atoms : Monomial → List AtomTree
atoms one = []
atoms (times a m) = a ∷ atoms m

abbrev pub monomial_cmp : Monomial → Monomial → Ordering
monomial_cmp = on atoms (slice_cmp atom_cmp)

node_cmp_total : IsTotalOrder node_cmp
node_cmp_total = then_total (on_total node_rank nat_cmp_total) (on_total node_number int_cmp_total)

pub atom_cmp_total : IsTotalOrder atom_cmp
atom_cmp_total = on_total code (lists_total node_cmp_total)

pub monomial_cmp_total : IsTotalOrder monomial_cmp
monomial_cmp_total = on_total atoms (lists_total atom_cmp_total)
