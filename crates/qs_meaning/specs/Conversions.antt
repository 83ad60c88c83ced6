-- Conversions (C11 6.3) between the types of values.
use Rattle.std.specs.Prelude.{if◌then◌else◌}
use Rattle.qs_types.specs.Types.{TypeTree, int, unsigned, char, void, pointer, array, struct}
use Rattle.qs_memory.specs.Scalars.{same_scalar}
use Rattle.qs_memory.specs.declared.scalar.Scalar.{Scalar}
use Rattle.qs_memory.specs.declared.scalar.Scalar.TheVariants as scalars
use Rattle.qs_meaning.specs.Typed.{Conversion, unchanged, converted}

-- the scalar type of a value: that of an array or of a struct is a pointer to it (6.3.2.1p3); void, which has no values (6.3.2.2), counts as int
abbrev pub scalar_of : TypeTree → Scalar
scalar_of int = scalars.Int
scalar_of unsigned = scalars.Unsigned
scalar_of char = scalars.Char
scalar_of void = scalars.Int
scalar_of (pointer t) = scalars.Pointer
scalar_of (array t n) = scalars.Pointer
scalar_of (struct k) = scalars.Pointer

-- 6.3.1.3, 6.3.2.3: a value of one type as a value of another; between pointers nothing happens
abbrev pub conversion : (from to : TypeTree) → Conversion
conversion from to = if same_scalar (scalar_of from) (scalar_of to) then unchanged else converted (scalar_of from) (scalar_of to)
