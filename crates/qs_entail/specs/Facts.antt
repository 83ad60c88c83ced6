-- The polynomials that each fact adds, where its conditions without polynomials hold.
use Rattle.std.specs.Prelude.{ℕ, zero, suc, ◌^◌, ◌-◌, ℤ, pos, negsuc, ◌&&◌, ◌||◌, List, [], ◌∷◌, Result, Ok, Err}
use Rattle.qs_assert.specs.declared.variable.NumberType.{NumberType}
use Rattle.qs_assert.specs.declared.variable.NumberType.TheVariants.{Int, Unsigned, Char}
use Rattle.qs_assert.specs.Trees.{TermTree, CondTree, le, lt, eq, ne, not, and, or}
use Rattle.qs_poly.specs.Polynomials as poly
use Rattle.qs_poly.specs.Polynomials.{Polynomial}
use Rattle.qs_poly.specs.Operations.{sum, multiple, number, lessened, single}
use Rattle.qs_poly.specs.Terms.{polynomial_eq}
use Rattle.qs_entail.specs.Certificates.{Item, FactTree, range, cost_range, apart, num_is, num_bounds, wrapu_is, wraps_is, wrapu_bounds, wraps_bounds, quotient_bounds, bits_bound, bits_half, bits_rise}
use Rattle.qs_base.specs.Results.{bind, require}
use Rattle.qs_entail.specs.Building.{Stop, breaks, limited, difference, term_polynomial, combination, two_combinations}
use Rattle.qs_entail.specs.Pushing.{Known}

-- how many numbers of type int are below 0
abbrev pub ints_below_zero : ℕ
ints_below_zero = 2 ^ 31

-- the least and the greatest number of a type (C11 6.2.5 and 6.2.6.2)
abbrev pub least : NumberType → ℤ
least Int = negsuc (ints_below_zero - 1)
least Unsigned = pos 0
least Char = pos 0

abbrev pub greatest_of_type : NumberType → ℤ
greatest_of_type Int = pos (ints_below_zero - 1)
greatest_of_type Unsigned = pos (2 ^ 32 - 1)
greatest_of_type Char = pos 255

-- the two terms of a condition that says whether they are equal
pub record Sides : Type 0 where
  pub left : TermTree
  pub right : TermTree

abbrev pub equal_sides : CondTree → Result Sides Stop
equal_sides (eq t u) = Ok (record { left = t; right = u })
equal_sides (le t u) = Err breaks
equal_sides (lt t u) = Err breaks
equal_sides (ne t u) = Err breaks
equal_sides (not c) = Err breaks
equal_sides (and cs) = Err breaks
equal_sides (or cs) = Err breaks

abbrev pub different_sides : CondTree → Result Sides Stop
different_sides (ne t u) = Ok (record { left = t; right = u })
different_sides (not c) = equal_sides c
different_sides (le t u) = Err breaks
different_sides (lt t u) = Err breaks
different_sides (eq t u) = Err breaks
different_sides (and cs) = Err breaks
different_sides (or cs) = Err breaks

abbrev pub condition_at : List CondTree → ℕ → Result CondTree Stop
condition_at [] i = Err breaks
condition_at (c ∷ cs) zero = Ok c
condition_at (c ∷ cs) (suc i) = condition_at cs i

abbrev pub condition : List CondTree → ℤ → Result CondTree Stop
condition cs (pos i) = condition_at cs i
condition cs (negsuc i) = Err breaks

-- one less than the combination, where that is what t and u differ by
abbrev pub apart_by : TermTree → TermTree → List Item → List Polynomial → Result (List Polynomial) Stop
apart_by left right w l =
    bind (term_polynomial left) (λ t.
    bind (term_polynomial right) (λ u.
    bind (combination w l) (λ z.
    bind (difference t u) (λ more.
    bind (difference u t) (λ less.
    bind (limited (sum z (number (negsuc 0)))) (λ r.
    require (polynomial_eq z more || polynomial_eq z less) breaks (Ok (r ∷ []))))))))

-- p less q, and q less p
abbrev pub both_differences : Polynomial → Polynomial → Result (List Polynomial) Stop
both_differences p q = bind (difference p q) (λ a. bind (difference q p) (λ b. Ok (a ∷ b ∷ [])))

abbrev pub added : FactTree → Known → Result (List Polynomial) Stop
added (range x) k =
    bind (difference (single (poly.variable x)) (number (least x.number))) (λ a.
    bind (difference (number (greatest_of_type x.number)) (single (poly.variable x))) (λ b.
    Ok (a ∷ b ∷ [])))
added (cost_range f) k = Ok (single (poly.cost f) ∷ [])
added (apart i w) k =
    bind (condition k.conditions i) (λ c.
    bind (different_sides c) (λ sides.
    apart_by sides.left sides.right w k.polynomials))
added (num_is t w) k =
    bind (term_polynomial t) (λ p.
    bind (combination w k.polynomials) (λ z.
    bind (difference (single (poly.num p)) p) (λ a.
    bind (difference p (single (poly.num p))) (λ b.
    require (polynomial_eq z p) breaks (Ok (a ∷ b ∷ []))))))
added (num_bounds t) k =
    bind (term_polynomial t) (λ p.
    bind (difference (single (poly.num p)) p) (λ a.
    Ok (single (poly.num p) ∷ a ∷ [])))
added (wrapu_is t v w) k =
    bind (term_polynomial t) (λ p.
    bind (difference (number (greatest_of_type Unsigned)) p) (λ room.
    bind (two_combinations v w k.polynomials) (λ z.
    bind (difference (single (poly.wrapu p)) p) (λ a.
    bind (difference p (single (poly.wrapu p))) (λ b.
    require (polynomial_eq z.first p && polynomial_eq z.second room) breaks (Ok (a ∷ b ∷ [])))))))
added (wraps_is t v w) k =
    bind (term_polynomial t) (λ p.
    bind (limited (sum p (number (pos ints_below_zero)))) (λ above.
    bind (difference (number (greatest_of_type Int)) p) (λ room.
    bind (two_combinations v w k.polynomials) (λ z.
    bind (difference (single (poly.wraps p)) p) (λ a.
    bind (difference p (single (poly.wraps p))) (λ b.
    require (polynomial_eq z.first above && polynomial_eq z.second room) breaks (Ok (a ∷ b ∷ []))))))))
added (wrapu_bounds t) k =
    bind (term_polynomial t) (λ p.
    bind (difference (number (greatest_of_type Unsigned)) (single (poly.wrapu p))) (λ a.
    Ok (single (poly.wrapu p) ∷ a ∷ [])))
added (wraps_bounds t) k =
    bind (term_polynomial t) (λ p.
    bind (limited (sum (single (poly.wraps p)) (number (pos ints_below_zero)))) (λ a.
    bind (difference (number (greatest_of_type Int)) (single (poly.wraps p))) (λ b.
    Ok (a ∷ b ∷ []))))
added (quotient_bounds t n) k =
    bind (term_polynomial t) (λ p.
    bind (limited (lessened p n (single (poly.div p n)) 0)) (λ a.
    bind (limited (multiple (negsuc 0) (lessened p n (single (poly.div p n)) (n - 1)))) (λ b.
    Ok (a ∷ b ∷ []))))
added (bits_bound t) k = bind (term_polynomial t) (λ p. Ok (single (poly.bits p) ∷ []))
added (bits_half t w) k =
    bind (term_polynomial t) (λ p.
    bind (difference p (number (pos 1))) (λ side.
    bind (combination w k.polynomials) (λ z.
    bind (limited (lessened (single (poly.bits p)) 1 (single (poly.bits (single (poly.div p 2)))) 1)) (λ a.
    bind (limited (multiple (negsuc 0) a)) (λ b.
    require (polynomial_eq z side) breaks (Ok (a ∷ b ∷ [])))))))
added (bits_rise t u w) k =
    bind (term_polynomial t) (λ p.
    bind (term_polynomial u) (λ q.
    bind (combination w k.polynomials) (λ z.
    bind (difference q p) (λ more.
    bind (difference (single (poly.bits q)) (single (poly.bits p))) (λ a.
    require (polynomial_eq z more) breaks (Ok (a ∷ [])))))))
