-- What the limits say of a polynomial's terms.
use Rattle.std.proofs.Common.{◌≡◌, ◌≤◌, ◌^◌, true, List, length, arith, leb-true}
use Rattle.std.specs.Prelude.{unsigned_abs}
use Rattle.std.proofs.lemmas.Bool.{and_parts}
use Rattle.qs_poly.specs.Polynomials.{Polynomial, nothing, plus}
use Rattle.qs_poly.specs.Limits.{is_narrow, all_narrow, count_terms, has_few_terms}
use Rattle.qs_poly.specs.Terms.{sum_of, AllAtMost}
use Rattle.qs_poly.specs.declared.terms.Term.{Term}
use Rattle.qs_poly.proofs.Steps.{count_is}

pub narrow_at_most : (p : Polynomial) → all_narrow p ≡ true → AllAtMost (2 ^ 56) p
narrow_at_most nothing h = tt
narrow_at_most (plus c m p) h =
    let e = and_parts (is_narrow c) (all_narrow p) h in
    (leb-true (unsigned_abs c) (2 ^ 56) e.0, narrow_at_most p e.1)

pub few_at_most : (xs : List Term) → has_few_terms (sum_of xs) ≡ true → length xs ≤ 64
few_at_most xs h =
    let e = leb-true (count_terms (sum_of xs)) 64 h in
    let f = count_is xs in
    omega arith
