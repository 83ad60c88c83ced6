-- Small values, computed from the definitions.
use Rattle.std.proofs.Common.{◌≡◌, [], ◌∷◌, refl}
use Rattle.qs_memory.specs.declared.scalar.Scalar.TheVariants as scalars
use Rattle.qs_core.specs.Trees.{bytes, pointer}
use Rattle.qs_compile.specs.Bytes.{pieces_bytes}
use Rattle.qs_compile.specs.Units.{set_of}

-- of `(unsigned a, int b, unsigned c)` the first and the third are `unsigned`
unsigned_ones : set_of (scalars.Unsigned ∷ scalars.Int ∷ scalars.Unsigned ∷ []) ≡ 5
unsigned_ones = refl

none_is_unsigned : set_of (scalars.Int ∷ []) ≡ 0
none_is_unsigned = refl

-- `ab`, and a pointer to the third byte of a block that lies at 0x10000008
bytes_and_a_pointer :
    pieces_bytes (λ block. 0x10000008) (bytes (97 ∷ 98 ∷ []) ∷ pointer 1 2 ∷ []) ≡ 97 ∷ 98 ∷ 10 ∷ 0 ∷ 0 ∷ 16 ∷ []
bytes_and_a_pointer = refl
