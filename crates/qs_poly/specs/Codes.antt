-- The code of an atom: its parts in prefix order, in one list without levels. It can be read back.
use Rattle.std.specs.Prelude.{ℤ, List, [], ◌∷◌, ◌++◌, ◌≡◌, refl}
use Rattle.std.proofs.Common.{◌∙◌, sym, ap}
use Rattle.std.specs.Coded.{Coded, code_by, coded_list}
use Rattle.qs_poly.specs.Nodes.{coded_node}
use Rattle.qs_poly.specs.Polynomials.{AtomTree, variable, cost, num, div, wrapu, wraps, bits, Monomial, one, times, Polynomial, nothing, plus}
use Rattle.qs_poly.specs.declared.node.Node.{Node}
use Rattle.qs_poly.specs.declared.node.Node.TheVariants.{Variable, Cost, Num, Div, Wrapu, Wraps, Bits, Coefficient, EndOfTerm, EndOfPoly}

abbrev mutual
  pub code : AtomTree → List Node
  code (variable x) = Variable x ∷ []
  code (cost f) = Cost (record { 0 = f }) ∷ []
  code (num p) = Num ∷ polynomial_code p
  code (div p k) = Div k ∷ polynomial_code p
  code (wrapu p) = Wrapu ∷ polynomial_code p
  code (wraps p) = Wraps ∷ polynomial_code p
  code (bits p) = Bits ∷ polynomial_code p

  pub monomial_code : Monomial → List Node
  monomial_code one = EndOfTerm ∷ []
  monomial_code (times a m) = code a ++ monomial_code m

  pub polynomial_code : Polynomial → List Node
  polynomial_code nothing = EndOfPoly ∷ []
  polynomial_code (plus c m p) = Coefficient c ∷ (monomial_code m ++ polynomial_code p)

-- ---- reading from the last node to the first: what is complete so far, the innermost first

pub data Read : Type 0 where
  bottom : Read
  monomial_on : Monomial → Read → Read
  polynomial_on : Polynomial → Read → Read

-- an atom before the innermost monomial
abbrev pub read_atom : AtomTree → Read → Read
read_atom a bottom = bottom
read_atom a (monomial_on m r) = monomial_on (times a m) r
read_atom a (polynomial_on p r) = bottom

-- an atom of the innermost polynomial
abbrev pub read_head : (Polynomial → AtomTree) → Read → Read
read_head head bottom = bottom
read_head head (monomial_on m r) = bottom
read_head head (polynomial_on p r) = read_atom (head p) r

abbrev pub read_plus : ℤ → Monomial → Read → Read
read_plus c m bottom = bottom
read_plus c m (monomial_on n r) = bottom
read_plus c m (polynomial_on p r) = polynomial_on (plus c m p) r

abbrev pub read_term : ℤ → Read → Read
read_term c bottom = bottom
read_term c (monomial_on m r) = read_plus c m r
read_term c (polynomial_on p r) = bottom

abbrev pub read_node : Node → Read → Read
read_node (Variable x) r = read_atom (variable x) r
read_node (Cost f) r = read_atom (cost f.0) r
read_node Num r = read_head num r
read_node (Div k) r = read_head (λ p. div p k) r
read_node Wrapu r = read_head wrapu r
read_node Wraps r = read_head wraps r
read_node Bits r = read_head bits r
read_node (Coefficient c) r = read_term c r
read_node EndOfTerm r = monomial_on one r
read_node EndOfPoly r = polynomial_on nothing r

abbrev pub read : List Node → Read → Read
read [] r = r
read (n ∷ ns) r = read_node n (read ns r)

abbrev pub first_atom : Monomial → AtomTree
first_atom one = num nothing
first_atom (times a m) = a

abbrev pub atom_read : Read → AtomTree
atom_read bottom = num nothing
atom_read (monomial_on m r) = first_atom m
atom_read (polynomial_on p r) = num nothing

-- the atom whose code this is
abbrev pub atom_of : List Node → AtomTree
atom_of nodes = atom_read (read nodes (monomial_on one bottom))

abbrev pub polynomial_read : Read → Polynomial
polynomial_read bottom = nothing
polynomial_read (monomial_on m r) = nothing
polynomial_read (polynomial_on p r) = p

-- the polynomial whose code this is
abbrev pub polynomial_of : List Node → Polynomial
polynomial_of nodes = polynomial_read (read nodes bottom)

-- the nodes are the code of an atom
abbrev pub IsCode : List Node → Type 0
IsCode nodes = code (atom_of nodes) ≡ nodes

-- ---- the code reads back

read_append : (xs ys : List Node) (r : Read) → read (xs ++ ys) r ≡ read xs (read ys r)
read_append [] ys r = refl
read_append (x ∷ xs) ys r = ap (λ s. read_node x s) (read_append xs ys r)

mutual
  code_reads : (a : AtomTree) (r : Read) → read (code a) r ≡ read_atom a r
  code_reads (variable x) r = refl
  code_reads (cost f) r = refl
  code_reads (num p) r = ap (λ s. read_head num s) (polynomial_reads p r)
  code_reads (div p k) r = ap (λ s. read_head (λ p. div p k) s) (polynomial_reads p r)
  code_reads (wrapu p) r = ap (λ s. read_head wrapu s) (polynomial_reads p r)
  code_reads (wraps p) r = ap (λ s. read_head wraps s) (polynomial_reads p r)
  code_reads (bits p) r = ap (λ s. read_head bits s) (polynomial_reads p r)

  monomial_reads : (m : Monomial) (r : Read) → read (monomial_code m) r ≡ monomial_on m r
  monomial_reads one r = refl
  monomial_reads (times a m) r = read_append (code a) (monomial_code m) r ∙ ap (λ s. read (code a) s) (monomial_reads m r) ∙ code_reads a (monomial_on m r)

  polynomial_reads : (p : Polynomial) (r : Read) → read (polynomial_code p) r ≡ polynomial_on p r
  polynomial_reads nothing r = refl
  polynomial_reads (plus c m p) r =
      ap (λ s. read_term c s) (read_append (monomial_code m) (polynomial_code p) r ∙ ap (λ s. read (monomial_code m) s) (polynomial_reads p r) ∙ monomial_reads m (polynomial_on p r))

pub atom_back : (a : AtomTree) → atom_of (code a) ≡ a
atom_back a = ap atom_read (code_reads a (monomial_on one bottom))

pub polynomial_back : (p : Polynomial) → polynomial_of (polynomial_code p) ≡ p
polynomial_back p = ap polynomial_read (polynomial_reads p bottom)

-- equal codes are codes of equal atoms
pub code_injective : (a b : AtomTree) → code a ≡ code b → a ≡ b
code_injective a b h = sym (atom_back a) ∙ ap atom_of h ∙ atom_back b

pub code_is_code : (a : AtomTree) → IsCode (code a)
code_is_code a = ap code (atom_back a)

-- atoms and polynomials are stored as their codes
abbrev pub coded_atom : Coded AtomTree
coded_atom = code_by (List Node) (coded_list coded_node) code atom_of atom_back

abbrev pub coded_polynomial : Coded Polynomial
coded_polynomial = code_by (List Node) (coded_list coded_node) polynomial_code polynomial_of polynomial_back
