-- Main's arguments as numbers of the types of its parameters.
use Rattle.std.proofs.Common.{◌≡◌, ℕ, zero, suc, true, ℤ, List, [], ◌∷◌, length, refl, ap, arith}
use Rattle.std.specs.Prelude.{◌≤ℤ◌, int_le}
use Rattle.std.proofs.lemmas.Int.{ints}
use Rattle.qs_memory.specs.declared.scalar.Scalar.{Scalar}
use Rattle.qs_certify.specs.Bound.{AreNumbersOf}
use Rattle.qs_driver_proofs.specs.Misfits.{IsFirstUnfit}

pub least_below : (a z : ℤ) → int_le a z ≡ true → a ≤ℤ z
least_below a z h = grind (arith, ints)

pub below_least : (a z : ℤ) → a ≤ℤ z → int_le a z ≡ true
below_least a z h = grind (arith, ints)

pub as_many : (types : List Scalar) (zs : List ℤ) → AreNumbersOf types zs → length zs ≡ length types
as_many [] [] are = refl
as_many [] (z ∷ zs) are = absurd are
as_many (s ∷ types) [] are = absurd are
as_many (s ∷ types) (z ∷ zs) are = let e = as_many types zs are.1 in omega (arith, e)

-- there is one such argument, and none where all are numbers of their types
pub one_unfit : (types : List Scalar) (zs : List ℤ) (i j : ℕ) → IsFirstUnfit types zs i → IsFirstUnfit types zs j → i ≡ j
one_unfit [] zs i j h k = absurd h
one_unfit (s ∷ types) [] i j h k = absurd h
one_unfit (s ∷ types) (z ∷ zs) zero zero h k = refl
one_unfit (s ∷ types) (z ∷ zs) zero (suc j) h k = absurd (h k.0)
one_unfit (s ∷ types) (z ∷ zs) (suc i) zero h k = absurd (k h.0)
one_unfit (s ∷ types) (z ∷ zs) (suc i) (suc j) h k = ap suc (one_unfit types zs i j h.1 k.1)

pub none_unfit : (types : List Scalar) (zs : List ℤ) (i : ℕ) → AreNumbersOf types zs → IsFirstUnfit types zs i → ⊥
none_unfit [] zs i are h = h
none_unfit (s ∷ types) [] i are h = h
none_unfit (s ∷ types) (z ∷ zs) zero are h = h are.0
none_unfit (s ∷ types) (z ∷ zs) (suc i) are h = none_unfit types zs i are.1 h.1
