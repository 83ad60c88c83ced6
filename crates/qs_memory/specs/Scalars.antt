-- Tests of types (C11 6.2.5).
use Rattle.std.specs.Prelude.{◌&&◌, ◌||◌, Bool, true, false, List, [], ◌∷◌, Option, Some, None}
use denote.Enum.Bare.{sameb}
use Rattle.qs_memory.specs.contracts.scalar.Scalar.{the_type}
use Rattle.qs_memory.specs.declared.scalar.Scalar.{Scalar}
use Rattle.qs_memory.specs.declared.scalar.Scalar.TheVariants as scalars

abbrev pub same_scalar : Scalar → Scalar → Bool
same_scalar = sameb the_type

-- the same types in the same order
abbrev pub same_scalars : List Scalar → List Scalar → Bool
same_scalars [] [] = true
same_scalars [] (t ∷ ts) = false
same_scalars (s ∷ ss) [] = false
same_scalars (s ∷ ss) (t ∷ ts) = same_scalar s t && same_scalars ss ts

-- there is a type, and it is this one
abbrev pub is_type : Option Scalar → Scalar → Bool
is_type None s = false
is_type (Some t) s = same_scalar t s

-- 6.2.5p17
abbrev pub is_integer : Scalar → Bool
is_integer scalars.Char = true
is_integer scalars.Int = true
is_integer scalars.Unsigned = true
is_integer scalars.Pointer = false

abbrev pub is_pointer : Scalar → Bool
is_pointer s = same_scalar s scalars.Pointer

-- 6.3.1.1p2: what an integer is promoted to
abbrev pub is_promoted : Scalar → Bool
is_promoted s = same_scalar s scalars.Int || same_scalar s scalars.Unsigned
