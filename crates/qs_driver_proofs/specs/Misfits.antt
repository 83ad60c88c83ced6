-- Main's arguments by the types of its parameters: which of them is no number of its type.
use Rattle.std.specs.Prelude.{◌≡◌, ◌≢◌, ℕ, zero, suc, ℤ, List, [], ◌∷◌, length}
use Rattle.qs_memory.specs.declared.scalar.Scalar.{Scalar}
use Rattle.qs_certify.specs.Bound.{IsNumberOf}

-- there are so many parameters, and more or fewer arguments
pub record CountDiffers (types : List Scalar) (args : List ℤ) (parameters : ℕ) : Type 0 where
  pub parameters_are : parameters ≡ length types
  pub differ : length args ≢ parameters

-- the arguments before argument i are numbers of their parameters' types, and that one is none
abbrev pub IsFirstUnfit : List Scalar → List ℤ → (i : ℕ) → Type 0
IsFirstUnfit [] zs i = ⊥
IsFirstUnfit (s ∷ types) [] i = ⊥
IsFirstUnfit (s ∷ types) (z ∷ zs) zero = IsNumberOf s z → ⊥
IsFirstUnfit (s ∷ types) (z ∷ zs) (suc i) = IsNumberOf s z × IsFirstUnfit types zs i

-- there are as many arguments as parameters, and argument i is the first that is no number of its parameter's type
pub record IsMisfit (types : List Scalar) (args : List ℤ) (i : ℕ) : Type 0 where
  pub count : length args ≡ length types
  pub first : IsFirstUnfit types args i
