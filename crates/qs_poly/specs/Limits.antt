-- The limits of polynomials: coefficients from -2^56 to 2^56, at most 64 terms, and degree at most 4.
use Rattle.std.specs.Prelude.{◌≡◌, ℕ, ◌+◌, ◌^◌, ℤ, Bool, true, ◌&&◌, nat_le, unsigned_abs, Result, Ok, Err}
use Rattle.qs_base.specs.Results.{require}
use Rattle.qs_poly.specs.Polynomials.{Monomial, one, times, Polynomial, nothing, plus}
use Rattle.qs_poly.specs.Canonical.{IsCanonical}
use Rattle.qs_poly.specs.declared.fault.PolyFault.{PolyFault}
use Rattle.qs_poly.specs.declared.fault.PolyFault.TheVariants.{NoMemory, Wide, ManyTerms, HighDegree}

abbrev pub is_narrow : ℤ → Bool
is_narrow c = nat_le (unsigned_abs c) (2 ^ 56)

abbrev pub all_narrow : Polynomial → Bool
all_narrow nothing = true
all_narrow (plus c m p) = is_narrow c && all_narrow p

abbrev pub count_terms : Polynomial → ℕ
count_terms nothing = 0
count_terms (plus c m p) = count_terms p + 1

abbrev pub degree : Monomial → ℕ
degree one = 0
degree (times a m) = degree m + 1

abbrev pub is_low : Monomial → Bool
is_low m = nat_le (degree m) 4

abbrev pub all_low : Polynomial → Bool
all_low nothing = true
all_low (plus c m p) = is_low m && all_low p

abbrev pub has_few_terms : Polynomial → Bool
has_few_terms p = nat_le (count_terms p) 64

-- a polynomial within the limits, or the first limit that it passes
abbrev pub within : Polynomial → Result Polynomial PolyFault
within p = require (all_narrow p) Wide (require (has_few_terms p) ManyTerms (require (all_low p) HighDegree (Ok p)))

-- what an operation answers whose true result this is
abbrev pub Gives : Result Polynomial PolyFault → Polynomial → Type 0
Gives (Ok p) q = within q ≡ Ok p
Gives (Err NoMemory) q = Unit {0}
Gives (Err Wide) q = within q ≡ Err Wide
Gives (Err ManyTerms) q = within q ≡ Err ManyTerms
Gives (Err HighDegree) q = within q ≡ Err HighDegree

-- what is true of each polynomial that the operations answer
pub record IsPolynomial (p : Polynomial) : Type 0 where
  pub canonical : IsCanonical p
  pub narrow : all_narrow p ≡ true
  pub few_terms : has_few_terms p ≡ true
  pub low : all_low p ≡ true
