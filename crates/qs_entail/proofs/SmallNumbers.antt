-- Numbers and negations under the limits.
use Rattle.std.proofs.Common.{◌≡◌, ◌≢◌, ◌≤◌, ◌^◌, ◌+◌, zero, suc, Bool, true, false, refl, sym, ap, ◌∙◌, subst, arith}
use Rattle.std.specs.Prelude.{ℤ, pos, negsuc, ◌*ℤ◌, ◌&&◌, nat_le, unsigned_abs, Result, Ok, Err}
use Rattle.std.proofs.lemmas.Int.{ints}
use Rattle.qs_base.specs.Results.{require}
use Rattle.qs_poly.specs.Polynomials.{Monomial, one, Polynomial, nothing, plus}
use Rattle.qs_poly.specs.Operations.{plus_unless_zero, multiple, number}
use Rattle.qs_poly.specs.Canonical.{IsCanonical}
use Rattle.qs_poly.specs.Limits.{is_narrow, all_narrow, count_terms, has_few_terms, is_low, all_low, within}
use Rattle.qs_poly.specs.declared.fault.PolyFault.{PolyFault}
use Rattle.qs_poly.specs.declared.fault.PolyFault.TheVariants.{Wide, ManyTerms, HighDegree}
use Rattle.qs_entail.specs.declared.stop.Stop.{Stop}
use Rattle.qs_entail.specs.declared.stop.Stop.TheVariants.{NoMemory, Breaks, Passes}
use Rattle.qs_entail.specs.Answers.{Follows, fault_of}
use Rattle.qs_entail.proofs.BuildingLaws.{limited_ok}
use Rattle.qs_entail.specs.Building.{breaks, passes, limits, limited}

abbrev judged : Bool → Bool → Bool → Polynomial → Result Polynomial PolyFault
judged a b c p = require a Wide (require b ManyTerms (require c HighDegree (Ok p)))

narrow : (c : ℤ) → unsigned_abs c ≤ 2 ^ 56 → is_narrow c ≡ true
narrow c h = grind arith

pub small_number : (k : ℤ) → unsigned_abs k ≤ 2 ^ 56 → within (number k) ≡ Ok (number k)
small_number (pos zero) h = refl
small_number (pos (suc n)) h = ap (λ b. judged (b && true) true true (plus (pos (suc n)) one nothing)) (narrow (pos (suc n)) h)
small_number (negsuc n) h = ap (λ b. judged (b && true) true true (plus (negsuc n) one nothing)) (narrow (negsuc n) h)

-- ---- the negation

unless_is : (d : ℤ) (m : Monomial) (p : Polynomial) → d ≢ pos 0 → plus_unless_zero d m p ≡ plus d m p
unless_is (pos zero) m p h = absurd (h refl)
unless_is (pos (suc n)) m p h = refl
unless_is (negsuc n) m p h = refl

negated_term : (c : ℤ) (m : Monomial) (p : Polynomial) → c ≢ pos 0 → multiple (negsuc 0) (plus c m p) ≡ plus (negsuc 0 *ℤ c) m (multiple (negsuc 0) p)
negated_term c m p h = unless_is (negsuc 0 *ℤ c) m (multiple (negsuc 0) p) (λ e. h (omega (arith, ints)))

negated_size : (c : ℤ) → unsigned_abs (negsuc 0 *ℤ c) ≡ unsigned_abs c
negated_size c = omega (arith, ints)

negated_narrow : (p : Polynomial) → IsCanonical p → all_narrow (multiple (negsuc 0) p) ≡ all_narrow p
negated_narrow nothing x = refl
negated_narrow (plus c m p) x =
    ap all_narrow (negated_term c m p x.0) ∙ (ap (λ n. nat_le n (2 ^ 56) && all_narrow (multiple (negsuc 0) p)) (negated_size c) ∙ ap (λ b. is_narrow c && b) (negated_narrow p x.3))

negated_count : (p : Polynomial) → IsCanonical p → count_terms (multiple (negsuc 0) p) ≡ count_terms p
negated_count nothing x = refl
negated_count (plus c m p) x = ap count_terms (negated_term c m p x.0) ∙ ap (λ n. n + 1) (negated_count p x.3)

negated_low : (p : Polynomial) → IsCanonical p → all_low (multiple (negsuc 0) p) ≡ all_low p
negated_low nothing x = refl
negated_low (plus c m p) x = ap all_low (negated_term c m p x.0) ∙ ap (λ b. is_low m && b) (negated_low p x.3)

negated_within : (p : Polynomial) → IsCanonical p → within (multiple (negsuc 0) p) ≡ judged (all_narrow p) (has_few_terms p) (all_low p) (multiple (negsuc 0) p)
negated_within p x =
    ap (λ b. judged b (has_few_terms (multiple (negsuc 0) p)) (all_low (multiple (negsuc 0) p)) (multiple (negsuc 0) p)) (negated_narrow p x) ∙ (ap (λ n. judged (all_narrow p) (nat_le n 64) (all_low (multiple (negsuc 0) p)) (multiple (negsuc 0) p)) (negated_count p x) ∙ ap (λ b. judged (all_narrow p) (has_few_terms p) b (multiple (negsuc 0) p)) (negated_low p x))

-- a polynomial and its negation pass the same limits
same_fault : (a b c : Bool) (p q : Polynomial) (fault : PolyFault) → judged a b c p ≡ Err fault → judged a b c q ≡ Err fault
same_fault true true true p q fault h = cc
same_fault true true false p q fault h = h
same_fault true false c p q fault h = h
same_fault false b c p q fault h = h

within_of : (p : Polynomial) (f : PolyFault) → limited p ≡ Err (passes f) → within p ≡ Err f
within_of p f h = under (within p) h
  where
    under : (r : Result Polynomial PolyFault) → limits r ≡ Err (passes f) → r ≡ Err f
    under (Ok q) h = cc
    under (Err g) h = cc

never_breaks : (r : Result Polynomial PolyFault) → limits r ≡ Err breaks → ⊥
never_breaks (Ok q) h = cc
never_breaks (Err g) h = cc

pub negated_err : (p : Polynomial) (stop : Stop) → IsCanonical p → Follows (Err stop) (limited p) → Follows (Err stop) (limited (multiple (negsuc 0) p))
negated_err p NoMemory x h = tt
negated_err p Breaks x h = absurd (never_breaks (within p) h)
negated_err p (Passes l) x h =
    ap limits (negated_within p x ∙ same_fault (all_narrow p) (has_few_terms p) (all_low p) p (multiple (negsuc 0) p) (fault_of l) (within_of p (fault_of l) h))

pub negated_ok : (p q : Polynomial) (r : Result Polynomial Stop) → limited p ≡ Ok q → Follows r (limited (multiple (negsuc 0) q)) → Follows r (limited (multiple (negsuc 0) p))
negated_ok p q r h k = subst (λ s. Follows r (limited (multiple (negsuc 0) s))) (sym (limited_ok p q h)) k
