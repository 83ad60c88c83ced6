-- A stack of attempts, whose front is a list's end.
use Rattle.std.proofs.Common.{◌≡◌, ◌<◌, ◌-◌, ℕ, zero, suc, List, [], ◌∷◌, map, drop, reverse, refl, sym, ap, ◌∙◌, arith}
use Rattle.std.specs.Prelude.{Result}
use Rattle.std.proofs.lemmas.List.{drop-map}
use Rattle.qs_assert.specs.Reading.{others}
use Rattle.qs_poly.specs.Polynomials.{Polynomial}
use Rattle.qs_entail.specs.declared.stack.Built.{Built}
use Rattle.qs_entail.specs.declared.operation.Operation.{Operation}
use Rattle.qs_entail.specs.Building.{Stop}
use Rattle.qs_entail.specs.Stacks.{attempt_of, seen, first, on_both, joined}

pub seen_cut : (xs ys : List Built) (n : ℕ) → reverse ys ≡ drop n (reverse xs) → seen ys ≡ drop n (seen xs)
seen_cut xs ys n h = ap (map attempt_of) h ∙ sym (drop-map attempt_of n (reverse xs))

less_one : (n : ℕ) → suc n - 1 ≡ n
less_one n = omega arith

joined_step : (operation : Operation) (n : ℕ) (xs : List (Result Polynomial Stop)) (a : Result Polynomial Stop) → 0 < n → joined operation n xs a ≡ joined operation (n - 1) (others xs) (on_both operation a (first xs))
joined_step operation zero xs a h = absurd (omega arith)
joined_step operation (suc n) xs a h = ap (λ k. joined operation k (others xs) (on_both operation a (first xs))) (sym (less_one n))

-- one of the first attempts is joined
pub joined_goes_on : (operation : Operation) (n : ℕ) (xs ys : List (Result Polynomial Stop)) (a b x : Result Polynomial Stop) → 0 < n → ys ≡ others xs → x ≡ first xs → b ≡ on_both operation a x → joined operation n xs a ≡ joined operation (n - 1) ys b
joined_goes_on operation n xs ys a b x h e f g =
    joined_step operation n xs a h ∙ (λ i. joined operation (n - 1) (sym e i) (on_both operation a (sym f i))) ∙ ap (joined operation (n - 1) ys) (sym g)

drop_suc : {A : Type 0} (n : ℕ) (xs : List A) → drop (suc n) xs ≡ drop n (others xs)
drop_suc zero [] = refl
drop_suc (suc n) [] = refl
drop_suc n (x ∷ xs) = refl

pub drop_goes_on : {A : Type 0} (n : ℕ) (xs ys : List A) → 0 < n → ys ≡ others xs → drop n xs ≡ drop (n - 1) ys
drop_goes_on zero xs ys h e = absurd (omega arith)
drop_goes_on (suc n) xs ys h e = drop_suc n xs ∙ (λ i. drop (sym (less_one n) i) (sym e i))
