-- The number of bits of x counts down: f(x / 2) and f(x / k) where x is at least n, and the way to the postcondition.
use Rattle.std.proofs.Common.{◌≡◌, ◌+◌, ◌-◌, ◌^◌, ℕ, ap, ◌∙◌, arith, Bool, true, List, [], ◌∷◌, Ok}
use Rattle.std.specs.Prelude.{ℤ, pos, negsuc, ◌+ℤ◌, ◌-ℤ◌}
use Rattle.std.proofs.lemmas.Int.{ints}
use Rattle.qs_base.specs.Results.{require}
use Rattle.qs_assert.specs.Trees.{TermTree, div, bits}
use Rattle.qs_poly.specs.Polynomials as poly
use Rattle.qs_poly.specs.Polynomials.{AtomTree, Monomial, Polynomial}
use Rattle.qs_poly.specs.Operations.{sum, multiple, number, lessened, single}
use Rattle.qs_poly.specs.Terms.{polynomial_eq}
use Rattle.qs_entail.specs.Building.{breaks, limited, difference, term_polynomial, at, combination}
use Rattle.qs_entail.specs.Certificates.{Item, once, num_is, bits_half, bits_rise}
use Rattle.qs_entail.specs.Facts.{added}
use Rattle.qs_entail.specs.Pushing.{Known}
use Rattle.qs_recur.proofs.Readings.{reading, once_reading, difference_reading, with_atom, found_equal}
use Rattle.qs_recur.proofs.Smallness.{small_more, small_multiple, small_one_less}
use Rattle.qs_recur.proofs.StepLaws.{bound}
use Rattle.qs_recur.proofs.SmallFacts.{IsOne, IsKnown, one_number, one_single, one_is_two, one_is_known, difference_is, num_added, one_combined}
use Rattle.qs_recur.proofs.Identities.{x_less, once_of, term_of, once_with, three_read, once_with_reads, term_reads}
use Rattle.qs_recur.proofs.WayLaws.{known_limited, once_known}

-- ---- facts

abbrev pub bits_of : Polynomial → Polynomial
bits_of p = single (poly.bits p)

abbrev pub half_of : Polynomial → Polynomial
half_of p = single (poly.div p 2)

-- one bit less
abbrev pub bit_less : Polynomial → Polynomial
bit_less p = lessened (bits_of p) 1 (bits_of (half_of p)) 1

pub bits_one : (p : Polynomial) → IsOne p → IsOne (bits_of p)
bits_one p x = one_single (poly.bits p) x.canonical

pub half_one : (p : Polynomial) → IsOne p → IsOne (half_of p)
half_one p x = one_single (poly.div p 2) x.canonical

pub bit_less_known : (p : Polynomial) → IsOne p → IsKnown (bit_less p)
bit_less_known p x =
    small_more 3 (2 ^ 32 + 2 ^ 32 + 1) 1 4 (2 ^ 34) 1 (bit_less p) (omega arith) (omega arith) (omega arith)
    (small_one_less 1 (2 ^ 32) 1 (2 ^ 32) 1 (bits_of p) (bits_of (half_of p)) (bits_one p x) (bits_one (half_of p) (half_one p x)))

pub half_added :
    (t : TermTree) (w : List Item) (k : Known) (p z : Polynomial) → term_polynomial t ≡ Ok p → IsOne p → combination w k.polynomials ≡ Ok z → polynomial_eq z (x_less p 1) ≡ true
    → added (bits_half t w) k ≡ Ok (bit_less p ∷ multiple (negsuc 0) (bit_less p) ∷ [])
half_added t w k p z tp x c e =
    let a = bit_less p in
    let b = multiple (negsuc 0) a in
    let a_known = bit_less_known p x in
    bound (term_polynomial t) p _ _ tp
    (bound (difference p (number (pos 1))) (x_less p 1) _ _ (difference_is p (number (pos 1)) (one_is_two p x) (one_is_two (number (pos 1)) (one_number 1 (omega arith))))
    (bound (combination w k.polynomials) z _ _ c
    (bound (limited a) a _ _ (known_limited a a_known)
    (bound (limited b) b _ _ (known_limited b (small_multiple 4 (2 ^ 34) 1 (2 ^ 34) (negsuc 0) a (omega arith) a_known))
    (ap (λ (v : Bool). require v breaks (Ok (a ∷ b ∷ []))) e)))))

pub rise_added :
    (t u : TermTree) (w : List Item) (k : Known) (p q z : Polynomial) → term_polynomial t ≡ Ok p → term_polynomial u ≡ Ok q → IsOne p → IsOne q → combination w k.polynomials ≡ Ok z
    → polynomial_eq z (lessened q 1 p 0) ≡ true → added (bits_rise t u w) k ≡ Ok (lessened (bits_of q) 1 (bits_of p) 0 ∷ [])
rise_added t u w k p q z tp uq x y c e =
    let a = lessened (bits_of q) 1 (bits_of p) 0 in
    bound (term_polynomial t) p _ _ tp
    (bound (term_polynomial u) q _ _ uq
    (bound (combination w k.polynomials) z _ _ c
    (bound (difference q p) (lessened q 1 p 0) _ _ (difference_is q p (one_is_two q y) (one_is_two p x))
    (bound (difference (bits_of q) (bits_of p)) a _ _ (difference_is (bits_of q) (bits_of p) (one_is_two (bits_of q) (bits_one q y)) (one_is_two (bits_of p) (bits_one p x)))
    (ap (λ (v : Bool). require v breaks (Ok (a ∷ []))) e)))))

pub number_added : (t : TermTree) (k : Known) (i : ℕ) (p : Polynomial) → term_polynomial t ≡ Ok p → IsOne p → at k.polynomials (pos i) ≡ p → added (num_is t (once 1 (pos i) ∷ [])) k ≡ Ok (lessened (single (poly.num p)) 1 p 0 ∷ lessened p 1 (single (poly.num p)) 0 ∷ [])
number_added t k i p tp y h =
    let a = once_known k.polynomials i p h (one_is_known p y) in
    num_added t (once 1 (pos i) ∷ []) k p (once_of p) tp y (one_combined k.polynomials (once 1 (pos i)) (once_of p) a) (found_equal (once_of p) p a.1.canonical y.canonical (λ g. once_reading g p))

-- ---- what the combinations read

risen_linear : (a b c nx ny x y ra rb da : ℤ) → a ≡ x -ℤ y → b ≡ nx -ℤ x → c ≡ y -ℤ ny → ra ≡ nx → rb ≡ ny → da ≡ ra -ℤ rb → a +ℤ b +ℤ c ≡ da
risen_linear a b c nx ny x y ra rb da h i j k l m = omega (arith, ints, h, i, j, k, l, m)

module _ (x d : Polynomial) (n m a : AtomTree) where
  pub risen_kept :
      (g : Monomial → ℤ)
      → reading g (sum (sum (once_with a (lessened x 1 d 0)) (once_with a (lessened (single n) 1 x 0))) (once_with a (lessened d 1 (single m) 0)))
      ≡ reading g (lessened (term_of n a) 1 (term_of m a) 0)
  risen_kept g =
      let v = with_atom a g in
      let i = once_with a (lessened x 1 d 0) in
      let j = once_with a (lessened (single n) 1 x 0) in
      let o = once_with a (lessened d 1 (single m) 0) in
      three_read g i j o
      ∙ risen_linear (reading g i) (reading g j) (reading g o) (reading v (single n)) (reading v (single m)) (reading v x) (reading v d) (reading g (term_of n a)) (reading g (term_of m a)) (reading g (lessened (term_of n a) 1 (term_of m a) 0))
      (once_with_reads g a (lessened x 1 d 0) ∙ difference_reading v x d)
      (once_with_reads g a (lessened (single n) 1 x 0) ∙ difference_reading v (single n) x)
      (once_with_reads g a (lessened d 1 (single m) 0) ∙ difference_reading v d (single m))
      (term_reads g n a) (term_reads g m a) (difference_reading g (term_of n a) (term_of m a))
