-- The polynomials of terms and assertions, built from their parts from left to right under the limits.
use Rattle.std.specs.Prelude.{ℕ, ℤ, pos, negsuc, Bool, true, false, ◌&&◌, List, [], ◌∷◌, slice_index_or, Result, Ok, Err}
use Rattle.std.specs.Result.{result_map_both}
use Rattle.qs_base.specs.Results.{bind}
use Rattle.qs_assert.specs.Trees.{TermTree, number, variable, add, sub, mul, div, wrapu, wraps, bits, TermTrees, no_terms, term_and, AssertionTree, natural, infinity, cost, num, total, greatest, product, guard, choose, named, AssertionTrees, no_assertions, assertion_and}
use Rattle.qs_poly.specs.Polynomials as poly
use Rattle.qs_poly.specs.Polynomials.{Polynomial, nothing}
use Rattle.qs_poly.specs.Operations.{sum, multiple, lessened, single}
use Rattle.qs_poly.specs.Operations as operation
use Rattle.qs_poly.specs.Limits.{within}
use Rattle.qs_poly.specs.declared.fault.PolyFault.{PolyFault}
use Rattle.qs_entail.specs.Certificates.{Item, once, twice}

-- ---- what fails at a node: its rule's side condition, or a limit

pub data Stop : Type 0 where
  breaks : Stop
  passes : PolyFault → Stop

abbrev pub limits : Result Polynomial PolyFault → Result Polynomial Stop
limits = result_map_both (λ p. p) passes

-- a true result, where it passes no limit
abbrev pub limited : Polynomial → Result Polynomial Stop
limited p = limits (within p)

-- p less q
abbrev pub difference : Polynomial → Polynomial → Result Polynomial Stop
difference p q = limited (lessened p 1 q 0)

-- ---- terms

abbrev mutual
  pub term_polynomial : TermTree → Result Polynomial Stop
  term_polynomial (number k) = limited (operation.number k)
  term_polynomial (variable x) = Ok (single (poly.variable x))
  term_polynomial (add ts) = sum_onto ts nothing
  term_polynomial (sub t u) = bind (term_polynomial t) (λ p. bind (term_polynomial u) (λ q. difference p q))
  term_polynomial (mul ts) = product_onto ts (operation.number (pos 1))
  term_polynomial (div t k) = bind (term_polynomial t) (λ p. Ok (single (poly.div p k)))
  term_polynomial (wrapu t) = bind (term_polynomial t) (λ p. Ok (single (poly.wrapu p)))
  term_polynomial (wraps t) = bind (term_polynomial t) (λ p. Ok (single (poly.wraps p)))
  term_polynomial (bits t) = bind (term_polynomial t) (λ p. Ok (single (poly.bits p)))

  pub sum_onto : TermTrees → Polynomial → Result Polynomial Stop
  sum_onto no_terms p = Ok p
  sum_onto (term_and t ts) p = bind (term_polynomial t) (λ q. bind (limited (sum p q)) (λ r. sum_onto ts r))

  pub product_onto : TermTrees → Polynomial → Result Polynomial Stop
  product_onto no_terms p = Ok p
  product_onto (term_and t ts) p = bind (term_polynomial t) (λ q. bind (limited (operation.product p q)) (λ r. product_onto ts r))

-- ---- assertions

-- only numbers, cost, num, sums and products
abbrev mutual
  pub is_plain : AssertionTree → Bool
  is_plain (natural n) = true
  is_plain infinity = false
  is_plain (cost f) = true
  is_plain (num t) = true
  is_plain (total parts) = all_plain parts
  is_plain (greatest parts) = false
  is_plain (product parts) = all_plain parts
  is_plain (guard c a) = false
  is_plain (choose c a b) = false
  is_plain (named n) = false

  pub all_plain : AssertionTrees → Bool
  all_plain no_assertions = true
  all_plain (assertion_and a parts) = is_plain a && all_plain parts

-- of an assertion that is plain
abbrev mutual
  pub assertion_polynomial : AssertionTree → Result Polynomial Stop
  assertion_polynomial (natural n) = limited (operation.number (pos n))
  assertion_polynomial infinity = Err breaks
  assertion_polynomial (cost f) = Ok (single (poly.cost f))
  assertion_polynomial (num t) = bind (term_polynomial t) (λ p. Ok (single (poly.num p)))
  assertion_polynomial (total parts) = total_onto parts nothing
  assertion_polynomial (greatest parts) = Err breaks
  assertion_polynomial (product parts) = factors_onto parts (operation.number (pos 1))
  assertion_polynomial (guard c a) = Err breaks
  assertion_polynomial (choose c a b) = Err breaks
  assertion_polynomial (named n) = Err breaks

  pub total_onto : AssertionTrees → Polynomial → Result Polynomial Stop
  total_onto no_assertions p = Ok p
  total_onto (assertion_and a parts) p = bind (assertion_polynomial a) (λ q. bind (limited (sum p q)) (λ r. total_onto parts r))

  pub factors_onto : AssertionTrees → Polynomial → Result Polynomial Stop
  factors_onto no_assertions p = Ok p
  factors_onto (assertion_and a parts) p = bind (assertion_polynomial a) (λ q. bind (limited (operation.product p q)) (λ r. factors_onto parts r))

-- ---- combinations

-- the polynomial of a number, or 0
abbrev pub at : List Polynomial → ℤ → Polynomial
at l (pos i) = slice_index_or l i nothing
at l (negsuc i) = nothing

-- k times a product
abbrev pub product_times : ℕ → Polynomial → Polynomial → Result Polynomial Stop
product_times k p q = bind (limited (operation.product p q)) (λ r. limited (multiple (pos k) r))

abbrev pub item_polynomial : Item → List Polynomial → Result Polynomial Stop
item_polynomial (once k i) l = limited (multiple (pos k) (at l i))
item_polynomial (twice k i j) l = product_times k (at l i) (at l j)

abbrev pub item_polynomials : List Item → List Polynomial → Result (List Polynomial) Stop
item_polynomials [] l = Ok []
item_polynomials (item ∷ items) l = bind (item_polynomial item l) (λ p. bind (item_polynomials items l) (λ ps. Ok (p ∷ ps)))

-- the sums from left to right
abbrev pub sum_all : Polynomial → List Polynomial → Result Polynomial Stop
sum_all p [] = Ok p
sum_all p (q ∷ qs) = bind (limited (sum p q)) (λ r. sum_all r qs)

-- all items, and then the sums
abbrev pub combination : List Item → List Polynomial → Result Polynomial Stop
combination items l = bind (item_polynomials items l) (λ ps. sum_all nothing ps)

pub record Two : Type 0 where
  pub first : Polynomial
  pub second : Polynomial

-- all items of both, and then the sums of both
abbrev pub two_combinations : List Item → List Item → List Polynomial → Result Two Stop
two_combinations v w l =
    bind (item_polynomials v l) (λ ps. bind (item_polynomials w l) (λ qs. bind (sum_all nothing ps) (λ p. bind (sum_all nothing qs) (λ q. Ok (record { first = p; second = q })))))
