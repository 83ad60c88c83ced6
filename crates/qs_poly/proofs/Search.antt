-- The place of a monomial among terms in order, found by halves.
use Rattle.std.proofs.Common.{◌≡◌, ◌<◌, ◌+◌, ◌-◌, ◌/◌, ℕ, zero, suc, List, [], ◌∷◌, take, drop, length, get_or, refl, sym, ap, ◌∙◌, subst, arith}
use Rattle.std.specs.Prelude.{ℤ, ◌+ℤ◌}
use Rattle.std.specs.Ordering.{ordering_reverse}
use Rattle.std.specs.declared.cmp.Ordering.TheVariants.{Less, Equal, Greater}
use Rattle.qs_poly.specs.declared.terms.Term.{Term}
use Rattle.qs_poly.specs.Polynomials.{Monomial, plus}
use Rattle.qs_poly.specs.Orders.{monomial_cmp, monomial_cmp_total}
use Rattle.qs_poly.specs.Canonical.{IsBefore, IsCanonicalMonomial, IsCanonical}
use Rattle.qs_poly.specs.Operations.{by_order, insert_term, plus_unless_zero}
use Rattle.qs_poly.specs.Terms.{sum_of, terms_before, join_first}
use Rattle.qs_poly.proofs.Order.{monomial_equal, monomial_less}
use Rattle.qs_poly.proofs.Steps.{term_passed}

-- the monomial of a term is canonical
pub item_canonical : (xs : List Term) (i : ℕ) (d : Term) → i < length xs → d ≡ get_or xs i d → IsCanonical (sum_of xs) → IsCanonicalMonomial d.monomial
item_canonical [] i d lt e o = absurd (omega arith)
item_canonical (x ∷ xs) zero d lt e o = subst (λ (t : Term). IsCanonicalMonomial t.monomial) (sym e) o.1
item_canonical (x ∷ xs) (suc i) d lt e o = item_canonical xs i d (omega arith) e o.3

greater : (m n : Monomial) → monomial_cmp m n ≡ Less → monomial_cmp n m ≡ Greater
greater m n h = monomial_cmp_total.antisymm n m ∙ ap ordering_reverse h

-- what is before n is before m
beyond : (m n x : Monomial) → monomial_cmp m n ≡ Greater → monomial_cmp x n ≡ Less → monomial_cmp m x ≡ Greater
beyond m n x h k = greater x m (monomial_cmp_total.trans x n m k (monomial_less m n h))

alike : (m n x : Monomial) → monomial_cmp m n ≡ Equal → monomial_cmp x n ≡ Less → monomial_cmp m x ≡ Greater
alike m n x h k = greater x m (ap (λ y. monomial_cmp x y) (monomial_equal m n h) ∙ k)

before_item : (m : Monomial) (xs : List Term) (i : ℕ) (d : Term) → IsBefore m (sum_of xs) → i < length xs → d ≡ get_or xs i d → monomial_cmp m d.monomial ≡ Less
before_item m [] i d b lt e = absurd (omega arith)
before_item m (x ∷ xs) zero d b lt e = ap (λ (t : Term). monomial_cmp m t.monomial) e ∙ b.0
before_item m (x ∷ xs) (suc i) d b lt e = before_item m xs i d b.1 (omega arith) e

over_head : (c : ℤ) (m : Monomial) (x : Term) (xs : List Term) → monomial_cmp m x.monomial ≡ Greater → insert_term c m (sum_of (x ∷ xs)) ≡ plus x.coefficient x.monomial (insert_term c m (sum_of xs))
over_head c m x xs h =
    ap (λ o. by_order o (plus_unless_zero c m (sum_of (x ∷ xs))) (plus_unless_zero (c +ℤ x.coefficient) x.monomial (sum_of xs)) (plus x.coefficient x.monomial (insert_term c m (sum_of xs)))) h

-- a monomial that is behind all that are before a term is sought from that term on
reached : (c : ℤ) (m : Monomial) (xs : List Term) (i : ℕ) (d : Term) → IsCanonical (sum_of xs) → i < length xs → d ≡ get_or xs i d → ((x : Monomial) → monomial_cmp x d.monomial ≡ Less → monomial_cmp m x ≡ Greater) → insert_term c m (sum_of xs) ≡ terms_before (take i xs) (insert_term c m (sum_of (drop i xs)))
reached c m [] i d o lt e k = absurd (omega arith)
reached c m (x ∷ xs) zero d o lt e k = refl
reached c m (x ∷ xs) (suc i) d o lt e k =
    over_head c m x xs (k x.monomial (before_item x.monomial xs i d o.2 (omega arith) e))
    ∙ ap (λ p. plus x.coefficient x.monomial p) (reached c m xs i d o.3 (omega arith) e k)

-- the term is before the monomial
pub searched_behind : (c : ℤ) (m : Monomial) (xs : List Term) (i : ℕ) (d : Term) → IsCanonical (sum_of xs) → i < length xs → d ≡ get_or xs i d → monomial_cmp m d.monomial ≡ Greater → insert_term c m (sum_of xs) ≡ terms_before (take (i + 1) xs) (insert_term c m (sum_of (drop (i + 1) xs)))
searched_behind c m xs i d o lt e h = reached c m xs i d o lt e (λ x k. beyond m d.monomial x h k) ∙ term_passed c m xs i d lt h e

same_here : (c : ℤ) (m : Monomial) (xs : List Term) (i : ℕ) (d : Term) → i < length xs → d ≡ get_or xs i d → monomial_cmp m d.monomial ≡ Equal → insert_term c m (sum_of (drop i xs)) ≡ join_first c (drop i xs)
same_here c m [] i d lt e h = absurd (omega arith)
same_here c m (x ∷ xs) zero d lt e h =
    ap (λ o. by_order o (plus_unless_zero c m (sum_of (x ∷ xs))) (plus_unless_zero (c +ℤ x.coefficient) x.monomial (sum_of xs)) (plus x.coefficient x.monomial (insert_term c m (sum_of xs)))) (ap (λ (t : Term). monomial_cmp m t.monomial) (sym e) ∙ h)
same_here c m (x ∷ xs) (suc i) d lt e h = same_here c m xs i d (omega arith) e h

-- the term has the monomial
pub searched_same : (c : ℤ) (m : Monomial) (xs : List Term) (i : ℕ) (d : Term) → IsCanonical (sum_of xs) → i < length xs → d ≡ get_or xs i d → monomial_cmp m d.monomial ≡ Equal → insert_term c m (sum_of xs) ≡ terms_before (take i xs) (join_first c (drop i xs))
searched_same c m xs i d o lt e h =
    reached c m xs i d o lt e (λ x k. alike m d.monomial x h k) ∙ ap (λ p. terms_before (take i xs) p) (same_here c m xs i d lt e h)

pub middle_below : (low high : ℕ) → low < high → low + (high - low) / 2 < high
middle_below low high h = omega arith
