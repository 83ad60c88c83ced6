-- Monomials and polynomials as lists of their parts.
use Rattle.std.specs.Prelude.{List, [], ◌∷◌, ◌≡◌, refl}
use Rattle.std.proofs.Common.{ap}
use Rattle.std.specs.Coded.{Coded, code_by, coded_list}
use Rattle.qs_poly.specs.Polynomials.{AtomTree, Monomial, one, times}
use Rattle.qs_poly.specs.Codes.{coded_atom}
use Rattle.qs_poly.specs.Orders.{atoms}

abbrev pub product_of : List AtomTree → Monomial
product_of [] = one
product_of (a ∷ others) = times a (product_of others)

pub product_of_atoms : (m : Monomial) → product_of (atoms m) ≡ m
product_of_atoms one = refl
product_of_atoms (times a m) = ap (λ n. times a n) (product_of_atoms m)

pub atoms_of_product : (xs : List AtomTree) → atoms (product_of xs) ≡ xs
atoms_of_product [] = refl
atoms_of_product (a ∷ others) = ap (λ ys. a ∷ ys) (atoms_of_product others)

-- a monomial is stored as the list of its atoms
abbrev pub coded_monomial : Coded Monomial
coded_monomial = code_by (List AtomTree) (coded_list coded_atom) atoms product_of product_of_atoms
