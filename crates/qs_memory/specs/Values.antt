-- Values (C11 6.2.5, 6.2.6), their types, and conversions between these (6.3).
use Rattle.std.specs.Prelude.{ℕ, zero, suc, ◌%◌, ◌^◌, ◌==◌, ◌&&◌, nat_lt, Bool, true, false, Option, Some, None}
use Rattle.qs_memory.specs.declared.scalar.Scalar.{Scalar}
use Rattle.qs_memory.specs.declared.scalar.Scalar.TheVariants as scalars

-- a pointer: null (6.3.2.3p3), or into a block at an offset in bytes; there are no addresses
pub data Pointer : Type 0 where
  null : Pointer
  into : (block offset : ℕ) → Pointer

-- an integer of any type is a number below 2 ^ 32; a negative one is seen by its two's complement (6.2.6.2p2)
pub data Value : Type 0 where
  integer : ℕ → Value
  address : Pointer → Value

abbrev pub as_integer : Value → Option ℕ
as_integer (integer n) = Some n
as_integer (address p) = None

abbrev pub as_pointer : Value → Option Pointer
as_pointer (integer n) = None
as_pointer (address p) = Some p

abbrev pub same_pointer : Pointer → Pointer → Bool
same_pointer null null = true
same_pointer null (into c j) = false
same_pointer (into b i) null = false
same_pointer (into b i) (into c j) = b == c && i == j

-- the bytes that a scalar takes (6.5.3.4), and the multiple at which it lies (6.2.8)
abbrev pub width : Scalar → ℕ
width scalars.Char = 1
width scalars.Int = 4
width scalars.Unsigned = 4
width scalars.Pointer = 4

-- whether a value is one of this type
abbrev pub has_type : Scalar → Value → Bool
has_type scalars.Char (integer n) = nat_lt n (2 ^ 8)
has_type scalars.Int (integer n) = nat_lt n (2 ^ 32)
has_type scalars.Unsigned (integer n) = nat_lt n (2 ^ 32)
has_type scalars.Pointer (integer n) = false
has_type scalars.Char (address p) = false
has_type scalars.Int (address p) = false
has_type scalars.Unsigned (address p) = false
has_type scalars.Pointer (address p) = true

-- 6.3.2.3p3: a constant 0 becomes a null pointer; no other integer becomes a pointer
abbrev pub pointer_of_integer : ℕ → Option Value
pointer_of_integer zero = Some (address null)
pointer_of_integer (suc n) = None

-- 6.3.1.3: a number becomes the one of the new type that it equals modulo 2 ^ 8 or 2 ^ 32. `int` and `unsigned` see the same 32 bits.
-- 6.3.2.3: a pointer stays the pointer that it is
abbrev pub convert : Scalar → Value → Option Value
convert scalars.Char (integer n) = Some (integer (n % 2 ^ 8))
convert scalars.Int (integer n) = Some (integer n)
convert scalars.Unsigned (integer n) = Some (integer n)
convert scalars.Pointer (integer n) = pointer_of_integer n
convert scalars.Char (address p) = None
convert scalars.Int (address p) = None
convert scalars.Unsigned (address p) = None
convert scalars.Pointer (address p) = Some (address p)
