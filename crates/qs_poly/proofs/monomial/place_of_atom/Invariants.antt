use Rattle.std.proofs.Common.{◌≡◌, take, drop}
use Rattle.qs_poly.specs.Operations.{insert_atom}
use Rattle.qs_poly.specs.Views.{product_of}
use Rattle.qs_poly.specs.Terms.{atoms_before}
use Rattle.qs_poly.proofs.monomial.place_of_atom.Given as goal

abbrev pub invariant-loop-i : goal.invariant-loop-i
invariant-loop-i l = insert_atom l.atom (product_of l.atoms) ≡ atoms_before (take l.i l.atoms) (insert_atom l.atom (product_of (drop l.i l.atoms)))
