-- The scalar type of a struct is that of its address.
use Rattle.std.proofs.Common.{◌≡◌, ℕ, Option, Some, None, refl}
use Rattle.qs_memory.specs.declared.scalar.Scalar.TheVariants as scalars
use Rattle.qs_types.specs.Layout.{and_then}
use Rattle.qs_types.specs.Types.{struct}
use Rattle.qs_typed_nodes.specs.KnownFunctions.{type_scalar}

pub struct_scalar : (o : Option ℕ) → scalars.Pointer ≡ type_scalar (and_then o (λ k. Some (struct k)))
struct_scalar None = refl
struct_scalar (Some k) = refl
