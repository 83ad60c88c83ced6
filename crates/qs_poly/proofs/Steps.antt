-- One step of a search for a place, and what stands there afterwards.
use Rattle.std.proofs.Common.{◌≡◌, ◌≢◌, ◌≤◌, ◌<◌, ◌+◌, ◌++◌, ℕ, zero, suc, List, [], ◌∷◌, take, drop, length, get_or, refl, sym, ap, ◌∙◌, arith, add-one}
use Rattle.std.specs.Prelude.{ℤ, pos, negsuc, ◌+ℤ◌, ◌*ℤ◌, slice_set}
use mir.Val.{SFits, to_z, of_z}
use Rattle.std.specs.Int.{w128}
use Rattle.std.proofs.lemmas.Int.{to_z-of_z}
use Rattle.std.specs.List.{insert, remove}
use Rattle.std.specs.declared.cmp.Ordering.TheVariants.{Greater}
use Rattle.qs_poly.specs.declared.terms.Term.{Term}
use Rattle.qs_poly.specs.Polynomials.{AtomTree, Monomial, times, Polynomial, nothing, plus}
use Rattle.qs_poly.specs.Orders.{atom_cmp, monomial_cmp}
use Rattle.qs_poly.specs.Limits.{degree, count_terms}
use Rattle.qs_poly.specs.Operations.{by_order, insert_atom, monomial_product, insert_term, plus_unless_zero, sum, multiple, add_term_product, add_product}
use Rattle.qs_poly.specs.Views.{product_of}
use Rattle.qs_poly.specs.Terms.{sum_of, atoms_before, terms_before, join_first}

-- ---- atoms

pub degree_is : (xs : List AtomTree) → degree (product_of xs) ≡ length xs
degree_is [] = refl
degree_is (x ∷ xs) = let h = degree_is xs in omega arith

over_atom : (a : AtomTree) (xs : List AtomTree) (i : ℕ) (d : AtomTree) → i < length xs → atom_cmp a d ≡ Greater → d ≡ get_or xs i d → atoms_before (take i xs) (insert_atom a (product_of (drop i xs))) ≡ atoms_before (take (suc i) xs) (insert_atom a (product_of (drop (suc i) xs)))
over_atom a [] i d lt h e = absurd (omega arith)
over_atom a (x ∷ xs) zero d lt h e = ap (λ o. by_order o (times a (times x (product_of xs))) (times a (times x (product_of xs))) (times x (insert_atom a (product_of xs)))) (ap (λ y. atom_cmp a y) (sym e) ∙ h)
over_atom a (x ∷ xs) (suc i) d lt h e = ap (λ m. times x m) (over_atom a xs i d (omega arith) h e)

-- an atom that is less than the one to insert is passed
pub atom_passed : (a : AtomTree) (xs : List AtomTree) (i : ℕ) (d : AtomTree) → i < length xs → atom_cmp a d ≡ Greater → d ≡ get_or xs i d → atoms_before (take i xs) (insert_atom a (product_of (drop i xs))) ≡ atoms_before (take (i + 1) xs) (insert_atom a (product_of (drop (i + 1) xs)))
atom_passed a xs i d lt h e = rw add-one (over_atom a xs i d lt h e)

pub product_insert : (xs : List AtomTree) (i : ℕ) (a : AtomTree) → product_of (insert xs i a) ≡ atoms_before (take i xs) (times a (product_of (drop i xs)))
product_insert xs i a = go (take i xs) (drop i xs)
  where
    go : (ys zs : List AtomTree) → product_of (ys ++ a ∷ zs) ≡ atoms_before ys (times a (product_of zs))
    go [] zs = refl
    go (y ∷ ys) zs = ap (λ m. times y m) (go ys zs)

-- ---- terms

pub count_is : (xs : List Term) → count_terms (sum_of xs) ≡ length xs
count_is [] = refl
count_is (x ∷ xs) = let h = count_is xs in omega arith

over_term : (c : ℤ) (m : Monomial) (xs : List Term) (i : ℕ) (d : Term) → i < length xs → monomial_cmp m d.monomial ≡ Greater → d ≡ get_or xs i d → terms_before (take i xs) (insert_term c m (sum_of (drop i xs))) ≡ terms_before (take (suc i) xs) (insert_term c m (sum_of (drop (suc i) xs)))
over_term c m [] i d lt h e = absurd (omega arith)
over_term c m (x ∷ xs) zero d lt h e =
    ap (λ o. by_order o (plus_unless_zero c m (sum_of (x ∷ xs))) (plus_unless_zero (c +ℤ x.coefficient) x.monomial (sum_of xs)) (plus x.coefficient x.monomial (insert_term c m (sum_of xs)))) (ap (λ (y : Term). monomial_cmp m y.monomial) (sym e) ∙ h)
over_term c m (x ∷ xs) (suc i) d lt h e = ap (λ p. plus x.coefficient x.monomial p) (over_term c m xs i d (omega arith) h e)

-- a term whose monomial is less than the one to insert is passed
pub term_passed : (c : ℤ) (m : Monomial) (xs : List Term) (i : ℕ) (d : Term) → i < length xs → monomial_cmp m d.monomial ≡ Greater → d ≡ get_or xs i d → terms_before (take i xs) (insert_term c m (sum_of (drop i xs))) ≡ terms_before (take (i + 1) xs) (insert_term c m (sum_of (drop (i + 1) xs)))
term_passed c m xs i d lt h e = rw add-one (over_term c m xs i d lt h e)

sum_insert : (xs : List Term) (i : ℕ) (a : Term) → sum_of (insert xs i a) ≡ terms_before (take i xs) (plus a.coefficient a.monomial (sum_of (drop i xs)))
sum_insert xs i a = go (take i xs) (drop i xs)
  where
    go : (ys zs : List Term) → sum_of (ys ++ a ∷ zs) ≡ terms_before ys (plus a.coefficient a.monomial (sum_of zs))
    go [] zs = refl
    go (y ∷ ys) zs = ap (λ p. plus y.coefficient y.monomial p) (go ys zs)

all_of_it : (xs : List Term) (i : ℕ) → terms_before (take i xs) (sum_of (drop i xs)) ≡ sum_of xs
all_of_it [] zero = refl
all_of_it [] (suc i) = refl
all_of_it (x ∷ xs) zero = refl
all_of_it (x ∷ xs) (suc i) = ap (λ p. plus x.coefficient x.monomial p) (all_of_it xs i)

unless_not : (c : ℤ) (m : Monomial) (p : Polynomial) → c ≢ pos 0 → plus_unless_zero c m p ≡ plus c m p
unless_not (pos zero) m p h = absurd (h refl)
unless_not (pos (suc n)) m p h = refl
unless_not (negsuc n) m p h = refl

-- the coefficient isn't 0: a new term
pub inserted : (xs ys : List Term) (i : ℕ) (a : Term) → a.coefficient ≢ pos 0 → ys ≡ insert xs i a → sum_of ys ≡ terms_before (take i xs) (plus_unless_zero a.coefficient a.monomial (sum_of (drop i xs)))
inserted xs ys i a h e = ap sum_of e ∙ sum_insert xs i a ∙ ap (λ p. terms_before (take i xs) p) (sym (unless_not a.coefficient a.monomial (sum_of (drop i xs)) h))

-- the coefficient is 0: nothing new
pub not_inserted : (xs : List Term) (i : ℕ) (c : ℤ) (m : Monomial) → c ≡ pos 0 → sum_of xs ≡ terms_before (take i xs) (plus_unless_zero c m (sum_of (drop i xs)))
not_inserted xs i c m h = sym (all_of_it xs i) ∙ ap (λ z. terms_before (take i xs) (plus_unless_zero z m (sum_of (drop i xs)))) (sym h)

-- the sum is 0: the term goes
pub removed : (xs ys : List Term) (i : ℕ) (c : ℤ) (d : Term) → i < length xs → d ≡ get_or xs i d → c +ℤ d.coefficient ≡ pos 0 → ys ≡ remove xs i → sum_of ys ≡ terms_before (take i xs) (join_first c (drop i xs))
removed xs ys i c d lt e h k = ap sum_of k ∙ go xs i lt e
  where
    go : (xs : List Term) (i : ℕ) → i < length xs → d ≡ get_or xs i d → sum_of (remove xs i) ≡ terms_before (take i xs) (join_first c (drop i xs))
    go [] i lt e = absurd (omega arith)
    go (x ∷ xs) zero lt e = ap (λ z. plus_unless_zero z x.monomial (sum_of xs)) (sym h ∙ ap (λ (y : Term). c +ℤ y.coefficient) e)
    go (x ∷ xs) (suc i) lt e = ap (λ p. plus x.coefficient x.monomial p) (go xs i (omega arith) e)

-- the sum isn't 0: the term takes it
pub changed : (xs ys : List Term) (i : ℕ) (c : ℤ) (d : Term) → i < length xs → d ≡ get_or xs i d → c +ℤ d.coefficient ≢ pos 0 → ys ≡ slice_set xs i (record d { coefficient = c +ℤ d.coefficient }) → sum_of ys ≡ terms_before (take i xs) (join_first c (drop i xs))
changed xs ys i c d lt e h k = ap sum_of k ∙ go xs i lt e
  where
    go : (xs : List Term) (i : ℕ) → i < length xs → d ≡ get_or xs i d → sum_of (slice_set xs i (record d { coefficient = c +ℤ d.coefficient })) ≡ terms_before (take i xs) (join_first c (drop i xs))
    go [] i lt e = absurd (omega arith)
    go (x ∷ xs) zero lt e = sym (unless_not (c +ℤ d.coefficient) d.monomial (sum_of xs) h) ∙ ap (λ (y : Term). plus_unless_zero (c +ℤ y.coefficient) y.monomial (sum_of xs)) e
    go (x ∷ xs) (suc i) lt e = ap (λ p. plus x.coefficient x.monomial p) (go xs i (omega arith) e)

-- a term put at the end
pub pushed : (xs ys : List Term) (a : Term) (p : Polynomial) → a.coefficient ≢ pos 0 → ys ≡ xs ++ a ∷ [] → terms_before ys p ≡ terms_before xs (plus_unless_zero a.coefficient a.monomial p)
pushed xs ys a p h e = ap (λ zs. terms_before zs p) e ∙ go xs
  where
    go : (zs : List Term) → terms_before (zs ++ a ∷ []) p ≡ terms_before zs (plus_unless_zero a.coefficient a.monomial p)
    go [] = sym (unless_not a.coefficient a.monomial p h)
    go (z ∷ zs) = ap (λ q. plus z.coefficient z.monomial q) (go zs)

pub not_pushed : (xs : List Term) (c : ℤ) (m : Monomial) (p : Polynomial) → c ≡ pos 0 → terms_before xs p ≡ terms_before xs (plus_unless_zero c m p)
not_pushed xs c m p h = ap (λ z. terms_before xs (plus_unless_zero z m p)) (sym h)

pub none_after : (xs : List Term) → terms_before xs nothing ≡ sum_of xs
none_after [] = refl
none_after (x ∷ xs) = ap (λ p. plus x.coefficient x.monomial p) (none_after xs)

pub nothing_left : (xs : List Term) (i : ℕ) → length xs ≤ i → drop i xs ≡ []
nothing_left [] zero h = refl
nothing_left [] (suc i) h = refl
nothing_left (x ∷ xs) zero h = absurd (omega arith)
nothing_left (x ∷ xs) (suc i) h = nothing_left xs i (omega arith)

-- ---- one step of a sum, a multiple or a product

sum_step : (xs : List Term) (i : ℕ) (d : Term) (q : Polynomial) → i < length xs → d ≡ get_or xs i d → sum (sum_of (drop i xs)) q ≡ sum (sum_of (drop (suc i) xs)) (insert_term d.coefficient d.monomial q)
sum_step [] i d q lt e = absurd (omega arith)
sum_step (x ∷ xs) zero d q lt e = ap (λ (y : Term). sum (sum_of xs) (insert_term y.coefficient y.monomial q)) (sym e)
sum_step (x ∷ xs) (suc i) d q lt e = sum_step xs i d q (omega arith) e

pub term_added : (xs : List Term) (i : ℕ) (d : Term) (q : Polynomial) → i < length xs → d ≡ get_or xs i d → sum (sum_of (drop i xs)) q ≡ sum (sum_of (drop (i + 1) xs)) (insert_term d.coefficient d.monomial q)
term_added xs i d q lt e = rw add-one (sum_step xs i d q lt e)

multiple_step : (k : ℤ) (xs : List Term) (i : ℕ) (d : Term) → i < length xs → d ≡ get_or xs i d → multiple k (sum_of (drop i xs)) ≡ plus_unless_zero (k *ℤ d.coefficient) d.monomial (multiple k (sum_of (drop (suc i) xs)))
multiple_step k [] i d lt e = absurd (omega arith)
multiple_step k (x ∷ xs) zero d lt e = ap (λ (y : Term). plus_unless_zero (k *ℤ y.coefficient) y.monomial (multiple k (sum_of xs))) (sym e)
multiple_step k (x ∷ xs) (suc i) d lt e = multiple_step k xs i d (omega arith) e

pub term_scaled : (k : ℤ) (xs : List Term) (i : ℕ) (d : Term) → i < length xs → d ≡ get_or xs i d → multiple k (sum_of (drop i xs)) ≡ plus_unless_zero (k *ℤ d.coefficient) d.monomial (multiple k (sum_of (drop (i + 1) xs)))
term_scaled k xs i d lt e = rw add-one (multiple_step k xs i d lt e)

term_product_step : (c : ℤ) (m : Monomial) (xs : List Term) (i : ℕ) (d : Term) (q : Polynomial) → i < length xs → d ≡ get_or xs i d → add_term_product c m (sum_of (drop i xs)) q ≡ add_term_product c m (sum_of (drop (suc i) xs)) (insert_term (c *ℤ d.coefficient) (monomial_product m d.monomial) q)
term_product_step c m [] i d q lt e = absurd (omega arith)
term_product_step c m (x ∷ xs) zero d q lt e = ap (λ (y : Term). add_term_product c m (sum_of xs) (insert_term (c *ℤ y.coefficient) (monomial_product m y.monomial) q)) (sym e)
term_product_step c m (x ∷ xs) (suc i) d q lt e = term_product_step c m xs i d q (omega arith) e

pub term_multiplied : (c : ℤ) (m : Monomial) (xs : List Term) (i : ℕ) (d : Term) (q : Polynomial) → i < length xs → d ≡ get_or xs i d → add_term_product c m (sum_of (drop i xs)) q ≡ add_term_product c m (sum_of (drop (i + 1) xs)) (insert_term (c *ℤ d.coefficient) (monomial_product m d.monomial) q)
term_multiplied c m xs i d q lt e = rw add-one (term_product_step c m xs i d q lt e)

product_terms_step : (xs : List Term) (i : ℕ) (d : Term) (p q : Polynomial) → i < length xs → d ≡ get_or xs i d → add_product (sum_of (drop i xs)) p q ≡ add_product (sum_of (drop (suc i) xs)) p (add_term_product d.coefficient d.monomial p q)
product_terms_step [] i d p q lt e = absurd (omega arith)
product_terms_step (x ∷ xs) zero d p q lt e = ap (λ (y : Term). add_product (sum_of xs) p (add_term_product y.coefficient y.monomial p q)) (sym e)
product_terms_step (x ∷ xs) (suc i) d p q lt e = product_terms_step xs i d p q (omega arith) e

pub product_added : (xs : List Term) (i : ℕ) (d : Term) (p q : Polynomial) → i < length xs → d ≡ get_or xs i d → add_product (sum_of (drop i xs)) p q ≡ add_product (sum_of (drop (i + 1) xs)) p (add_term_product d.coefficient d.monomial p q)
product_added xs i d p q lt e = rw add-one (product_terms_step xs i d p q lt e)

-- ---- numbers and items as the code has them

-- a sum as the code computes it
pub computed_sum : (a b : ℤ) → SFits w128 a → SFits w128 b → SFits w128 (a +ℤ b) → to_z w128 (of_z w128 (to_z w128 (of_z w128 a) +ℤ to_z w128 (of_z w128 b))) ≡ a +ℤ b
computed_sum a b f g h = ap (λ z. to_z w128 (of_z w128 z)) (ap (λ x. x +ℤ to_z w128 (of_z w128 b)) (to_z-of_z w128 a f) ∙ ap (λ x. a +ℤ x) (to_z-of_z w128 b g)) ∙ to_z-of_z w128 (a +ℤ b) h

pub same_item : {A : Type 0} (xs : List A) (i : ℕ) (d e : A) → i < length xs → d ≡ get_or xs i d → e ≡ get_or xs i e → d ≡ e
same_item [] i d e lt h k = absurd (omega arith)
same_item (x ∷ xs) zero d e lt h k = h ∙ sym k
same_item (x ∷ xs) (suc i) d e lt h k = same_item xs i d e (omega arith) h k

pub set_same : (xs : List Term) (i : ℕ) (a b : ℤ) (d e : Term) → a ≡ b → d ≡ e → slice_set xs i (record { coefficient = a; monomial = d.monomial }) ≡ slice_set xs i (record { coefficient = b; monomial = e.monomial })
set_same xs i a b d e p q = ap (λ z. slice_set xs i (record { coefficient = z; monomial = d.monomial })) p ∙ ap (λ (y : Term). slice_set xs i (record { coefficient = b; monomial = y.monomial })) q
