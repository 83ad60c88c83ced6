-- Atoms in code, as trees.
use Rattle.qs_poly.specs.Polynomials.{AtomTree, variable, cost, num, div, wrapu, wraps, bits}
use Rattle.qs_poly.specs.declared.atom.Atom.{Atom}
use Rattle.qs_poly.specs.declared.atom.Atom.TheVariants.{Variable, Cost, Num, Div, Wrapu, Wraps, Bits}

abbrev pub tree_of : Atom → AtomTree
tree_of (Variable x) = variable x
tree_of (Cost f) = cost f.0
tree_of (Num p) = num p
tree_of (Div p k) = div p k
tree_of (Wrapu p) = wrapu p
tree_of (Wraps p) = wraps p
tree_of (Bits p) = bits p
