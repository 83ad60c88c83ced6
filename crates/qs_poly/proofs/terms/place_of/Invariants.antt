use Rattle.std.proofs.Common.{◌≡◌, ◌≤◌, ◌-◌, take, drop, length}
use Rattle.std.specs.Prelude.{ℤ}
use Rattle.qs_poly.specs.Operations.{insert_term, plus_unless_zero}
use Rattle.qs_poly.specs.Terms.{sum_of, terms_before}
use Rattle.qs_poly.proofs.terms.place_of.Given as goal

-- the monomial is behind the terms before `low`, and before those from `high` on
abbrev pub invariant-loop-low : goal.invariant-loop-low
invariant-loop-low l = record {
  order : l.low ≤ l.high;
  within : l.high ≤ length l.terms;
  front : (c : ℤ) → insert_term c l.monomial (sum_of l.terms) ≡ terms_before (take l.low l.terms) (insert_term c l.monomial (sum_of (drop l.low l.terms)));
  back : (c : ℤ) → insert_term c l.monomial (sum_of (drop l.high l.terms)) ≡ plus_unless_zero c l.monomial (sum_of (drop l.high l.terms));
}

abbrev pub decreases-loop-low : goal.decreases-loop-low
decreases-loop-low l = l.high - l.low
