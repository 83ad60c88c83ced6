-- Loads, stores, copies, fills and lifetimes, computed from the definitions: what is just defined and just undefined.
use Rattle.std.proofs.Common.{ℕ, Bool, true, false, [], ◌∷◌, List, slice_index_or, Option, Some, is_some, refl}
use Rattle.qs_memory.specs.Partial.{◌>>=◌}
use Rattle.qs_memory.specs.Values.{Pointer, null, into, Value, integer, address}
use Rattle.qs_memory.specs.Memory.{unset, byte, Block, Memory, new_block, load, store, copy, fill, BlankTree, zeros, nulls, repeated, nothing, joined}
use Rattle.qs_memory.specs.Memory.{make, release}
use Rattle.qs_memory.specs.declared.scalar.Scalar.{Scalar}
use Rattle.qs_memory.specs.declared.scalar.Scalar.TheVariants as scalars
use Rattle.qs_memory.proofs.Tables.{◌gives◌, Holds, word, at, null_pointer, undefined}

-- the string literal "A"
abbrev literal : Block
literal = record { size = 2; is_live = true; is_writable = false; cells = λ i. slice_index_or (byte 65 ∷ byte 0 ∷ []) i unset }

-- four bytes 9, released
abbrev released : Block
released = record { size = 4; is_live = false; is_writable = true; cells = λ i. byte 9 }

-- blocks 0 and 3: eight bytes without a value; block 1: the literal; block 2 is released; block 4 was never made
abbrev start : Memory
start = new_block 8 ∷ literal ∷ released ∷ new_block 8 ∷ []

abbrev Step : Type 0
Step = Memory → Option Memory

abbrev put : Scalar → Pointer → ℕ → Step
put s p n m = store s m p (integer n)

abbrev point : Pointer → Pointer → Step
point p q m = store scalars.Pointer m p (address q)

abbrev copied : (size alignment : ℕ) → (to from : Pointer) → Step
copied size alignment to from m = copy size alignment m to from

abbrev filled : BlankTree → Pointer → Step
filled blank p m = fill blank m p

abbrev made : List ℕ → Step
made sizes m = Some (make sizes m)

abbrev gone_from : ℕ → Step
gone_from first m = Some (release first m)

-- steps one after another
abbrev after : List Step → Memory → Option Memory
after [] m = Some m
after (step ∷ steps) m = step m >>= after steps

-- whether they are defined, and what is loaded then
abbrev defined : List Step → Bool
defined steps = is_some (after steps start)

abbrev loaded : Scalar → Pointer → List Step → Option Value
loaded s p steps = after steps start >>= λ m. load s m p

-- ---- undefined 1: unset cells, and cells of another kind

abbrev bytes_1_to_4 : List Step
bytes_1_to_4 = put scalars.Char (into 0 0) 1 ∷ put scalars.Char (into 0 1) 2 ∷ put scalars.Char (into 0 2) 3 ∷ put scalars.Char (into 0 3) 4 ∷ []

abbrev bytes_1_to_3 : List Step
bytes_1_to_3 = put scalars.Char (into 0 0) 1 ∷ put scalars.Char (into 0 1) 2 ∷ put scalars.Char (into 0 2) 3 ∷ []

abbrev bytes_2_to_4 : List Step
bytes_2_to_4 = put scalars.Char (into 0 1) 2 ∷ put scalars.Char (into 0 2) 3 ∷ put scalars.Char (into 0 3) 4 ∷ []

abbrev zeros_and_a_word : List Step
zeros_and_a_word = filled (zeros 8) (into 0 0) ∷ put scalars.Int (into 0 4) 67305985 ∷ []

integers_loaded :
    Holds (
    (loaded scalars.Char (into 0 0) [] gives undefined)
    ∷ (loaded scalars.Char (into 0 0) (put scalars.Char (into 0 0) 7 ∷ []) gives word 7)
    ∷ (loaded scalars.Int (into 0 0) bytes_1_to_4 gives word 67305985)
    ∷ (loaded scalars.Unsigned (into 0 0) bytes_1_to_4 gives word 67305985)
    ∷ (loaded scalars.Int (into 0 0) bytes_1_to_3 gives undefined)
    ∷ (loaded scalars.Int (into 0 0) bytes_2_to_4 gives undefined)
    ∷ (loaded scalars.Pointer (into 0 0) bytes_1_to_4 gives undefined)
    ∷ (loaded scalars.Char (into 0 3) zeros_and_a_word gives word 0)
    ∷ (loaded scalars.Char (into 0 4) zeros_and_a_word gives word 1)
    ∷ (loaded scalars.Char (into 0 5) zeros_and_a_word gives word 2)
    ∷ (loaded scalars.Char (into 0 6) zeros_and_a_word gives word 3)
    ∷ (loaded scalars.Char (into 0 7) zeros_and_a_word gives word 4)
    ∷ (loaded scalars.Int (into 0 0) zeros_and_a_word gives word 0)
    ∷ (loaded scalars.Int (into 3 4) zeros_and_a_word gives undefined)
    ∷ [])
integers_loaded = refl

pointers_loaded :
    Holds (
    (loaded scalars.Pointer (into 0 4) (point (into 0 4) (into 0 8) ∷ []) gives at 0 8)
    ∷ (loaded scalars.Pointer (into 0 4) (point (into 0 4) null ∷ []) gives null_pointer)
    ∷ (loaded scalars.Pointer (into 0 4) (point (into 0 4) (into 2 0) ∷ []) gives at 2 0)
    ∷ (loaded scalars.Pointer (into 0 4) (point (into 0 0) (into 2 0) ∷ copied 4 4 (into 0 4) (into 0 0) ∷ []) gives at 2 0)
    ∷ (loaded scalars.Char (into 0 4) (point (into 0 4) (into 0 8) ∷ []) gives undefined)
    ∷ (loaded scalars.Char (into 0 4) (point (into 0 4) null ∷ []) gives undefined)
    ∷ (loaded scalars.Int (into 0 4) (point (into 0 4) null ∷ []) gives undefined)
    ∷ (loaded scalars.Unsigned (into 0 4) (point (into 0 4) null ∷ []) gives undefined)
    ∷ (loaded scalars.Pointer (into 0 4) (put scalars.Int (into 0 4) 0 ∷ []) gives undefined)
    ∷ (loaded scalars.Pointer (into 0 4) [] gives undefined)
    ∷ (loaded scalars.Pointer (into 0 0) (point (into 0 0) null ∷ put scalars.Char (into 0 3) 0 ∷ []) gives undefined)
    ∷ (loaded scalars.Pointer (into 0 0) (point (into 0 0) null ∷ put scalars.Char (into 0 0) 0 ∷ []) gives undefined)
    ∷ (loaded scalars.Int (into 0 0) (point (into 0 0) null ∷ put scalars.Char (into 0 0) 0 ∷ []) gives undefined)
    ∷ [])
pointers_loaded = refl

-- the first three parts of one pointer and the last of another
abbrev mixed : (p q : Pointer) → List Step
mixed p q = point (into 0 0) p ∷ point (into 0 4) q ∷ copied 1 1 (into 0 3) (into 0 7) ∷ []

-- the parts of a pointer with these numbers
abbrev parts : (a b c d : ℕ) → List Step
parts a b c d =
    point (into 3 0) (into 0 1) ∷ copied 1 1 (into 0 0) (into 3 a) ∷ copied 1 1 (into 0 1) (into 3 b)
    ∷ copied 1 1 (into 0 2) (into 3 c) ∷ copied 1 1 (into 0 3) (into 3 d) ∷ []

parts_in_order :
    Holds (
    (loaded scalars.Pointer (into 0 0) (mixed (into 0 1) (into 0 1)) gives at 0 1)
    ∷ (loaded scalars.Pointer (into 0 0) (mixed null null) gives null_pointer)
    ∷ (loaded scalars.Pointer (into 0 0) (mixed (into 0 1) (into 0 2)) gives undefined)
    ∷ (loaded scalars.Pointer (into 0 0) (mixed (into 0 1) (into 1 1)) gives undefined)
    ∷ (loaded scalars.Pointer (into 0 0) (mixed null (into 0 0)) gives undefined)
    ∷ (loaded scalars.Pointer (into 0 0) (mixed (into 0 0) null) gives undefined)
    ∷ (loaded scalars.Pointer (into 0 0) (parts 0 1 2 3) gives at 0 1)
    ∷ (loaded scalars.Pointer (into 0 0) (parts 1 0 2 3) gives undefined)
    ∷ (loaded scalars.Pointer (into 0 0) (parts 0 1 3 2) gives undefined)
    ∷ (loaded scalars.Pointer (into 0 0) (parts 0 0 0 0) gives undefined)
    ∷ (loaded scalars.Pointer (into 0 0) (parts 1 2 3 3) gives undefined)
    ∷ (loaded scalars.Pointer (into 0 0) (parts 0 1 2 4) gives undefined)
    ∷ [])
parts_in_order = refl

-- ---- undefined 4: outside, misaligned, released, not writable

places_stored_at :
    Holds (
    (defined (put scalars.Int (into 0 4) 5 ∷ []) gives true)
    ∷ (defined (put scalars.Int (into 0 8) 5 ∷ []) gives false)
    ∷ (defined (put scalars.Int (into 0 2) 5 ∷ []) gives false)
    ∷ (defined (put scalars.Unsigned (into 0 1) 5 ∷ []) gives false)
    ∷ (defined (put scalars.Char (into 0 3) 5 ∷ []) gives true)
    ∷ (defined (put scalars.Char (into 0 7) 5 ∷ []) gives true)
    ∷ (defined (put scalars.Char (into 0 8) 5 ∷ []) gives false)
    ∷ (defined (point (into 0 4) null ∷ []) gives true)
    ∷ (defined (point (into 0 2) null ∷ []) gives false)
    ∷ (defined (put scalars.Char null 5 ∷ []) gives false)
    ∷ (defined (put scalars.Char (into 2 0) 5 ∷ []) gives false)
    ∷ (defined (put scalars.Char (into 4 0) 5 ∷ []) gives false)
    ∷ (defined (put scalars.Char (into 1 0) 66 ∷ []) gives false)
    ∷ [])
places_stored_at = refl

places_loaded_from :
    Holds (
    (loaded scalars.Int (into 0 4) (filled (zeros 8) (into 0 0) ∷ []) gives word 0)
    ∷ (loaded scalars.Int (into 0 2) (filled (zeros 8) (into 0 0) ∷ []) gives undefined)
    ∷ (loaded scalars.Int (into 0 8) (filled (zeros 8) (into 0 0) ∷ []) gives undefined)
    ∷ (loaded scalars.Char (into 0 8) (filled (zeros 8) (into 0 0) ∷ []) gives undefined)
    ∷ (loaded scalars.Pointer (into 0 2) (point (into 3 0) null ∷ copied 4 1 (into 0 2) (into 3 0) ∷ []) gives undefined)
    ∷ (loaded scalars.Char (into 1 0) [] gives word 65)
    ∷ (loaded scalars.Char (into 1 1) [] gives word 0)
    ∷ (loaded scalars.Char (into 1 2) [] gives undefined)
    ∷ (loaded scalars.Int (into 1 0) [] gives undefined)
    ∷ (loaded scalars.Char null [] gives undefined)
    ∷ (loaded scalars.Char (into 2 0) [] gives undefined)
    ∷ (loaded scalars.Char (into 4 0) [] gives undefined)
    ∷ [])
places_loaded_from = refl

-- ---- values of the type, and others

abbrev put_pointer : Scalar → Step
put_pointer s m = store s m (into 0 0) (address null)

types_stored :
    Holds (
    (defined (put scalars.Char (into 0 0) 255 ∷ []) gives true)
    ∷ (defined (put scalars.Char (into 0 0) 256 ∷ []) gives false)
    ∷ (defined (put scalars.Int (into 0 0) 4294967295 ∷ []) gives true)
    ∷ (defined (put scalars.Int (into 0 0) 4294967296 ∷ []) gives false)
    ∷ (defined (put scalars.Unsigned (into 0 0) 4294967295 ∷ []) gives true)
    ∷ (defined (put scalars.Unsigned (into 0 0) 4294967296 ∷ []) gives false)
    ∷ (defined (put scalars.Pointer (into 0 0) 0 ∷ []) gives false)
    ∷ (defined (put_pointer scalars.Char ∷ []) gives false)
    ∷ (defined (put_pointer scalars.Int ∷ []) gives false)
    ∷ (defined (put_pointer scalars.Unsigned ∷ []) gives false)
    ∷ [])
types_stored = refl

greatest_loaded :
    Holds (
    (loaded scalars.Char (into 0 0) (put scalars.Char (into 0 0) 255 ∷ []) gives word 255)
    ∷ (loaded scalars.Int (into 0 0) (put scalars.Unsigned (into 0 0) 4294967295 ∷ []) gives word 4294967295)
    ∷ (loaded scalars.Unsigned (into 0 0) (put scalars.Int (into 0 0) 2147483648 ∷ []) gives word 2147483648)
    ∷ [])
greatest_loaded = refl

-- ---- copies

cells_copied :
    Holds (
    (loaded scalars.Char (into 0 3) (copied 2 1 (into 0 3) (into 1 0) ∷ []) gives word 65)
    ∷ (loaded scalars.Char (into 0 4) (copied 2 1 (into 0 3) (into 1 0) ∷ []) gives word 0)
    ∷ (loaded scalars.Char (into 0 4) (copied 1 1 (into 0 3) (into 1 0) ∷ []) gives undefined)
    ∷ (loaded scalars.Int (into 0 0) (put scalars.Int (into 0 0) 9 ∷ copied 4 4 (into 0 0) (into 0 0) ∷ []) gives word 9)
    ∷ (loaded scalars.Int (into 0 4) (put scalars.Int (into 0 0) 9 ∷ copied 4 4 (into 0 4) (into 0 0) ∷ []) gives word 9)
    ∷ (loaded scalars.Int (into 0 0) (put scalars.Int (into 0 0) 9 ∷ copied 4 4 (into 0 4) (into 0 0) ∷ []) gives word 9)
    ∷ (loaded scalars.Int (into 0 0) (put scalars.Int (into 0 4) 9 ∷ copied 4 4 (into 0 0) (into 0 4) ∷ []) gives word 9)
    ∷ (loaded scalars.Int (into 3 4) (put scalars.Int (into 0 4) 9 ∷ copied 4 4 (into 3 4) (into 0 4) ∷ []) gives word 9)
    ∷ (loaded scalars.Int (into 0 4) (put scalars.Int (into 0 4) 9 ∷ copied 4 4 (into 0 4) (into 0 0) ∷ []) gives undefined)
    ∷ [])
cells_copied = refl

-- undefined 8
overlaps :
    Holds (
    (defined (copied 4 1 (into 0 3) (into 0 0) ∷ []) gives false)
    ∷ (defined (copied 4 1 (into 0 0) (into 0 3) ∷ []) gives false)
    ∷ (defined (copied 4 1 (into 0 1) (into 0 0) ∷ []) gives false)
    ∷ (defined (copied 4 1 (into 0 0) (into 0 1) ∷ []) gives false)
    ∷ (defined (copied 4 1 (into 0 4) (into 0 0) ∷ []) gives true)
    ∷ (defined (copied 4 1 (into 0 0) (into 0 4) ∷ []) gives true)
    ∷ (defined (copied 8 1 (into 0 0) (into 0 0) ∷ []) gives true)
    ∷ (defined (copied 4 1 (into 3 3) (into 0 0) ∷ []) gives true)
    ∷ (defined (copied 4 1 (into 3 0) (into 0 3) ∷ []) gives true)
    ∷ (defined (copied 4 1 (into 3 0) (into 0 0) ∷ []) gives true)
    ∷ [])
overlaps = refl

places_copied :
    Holds (
    (defined (copied 4 4 (into 0 4) (into 3 4) ∷ []) gives true)
    ∷ (defined (copied 4 4 (into 0 2) (into 3 4) ∷ []) gives false)
    ∷ (defined (copied 4 4 (into 0 4) (into 3 2) ∷ []) gives false)
    ∷ (defined (copied 4 1 (into 0 2) (into 3 1) ∷ []) gives true)
    ∷ (defined (copied 4 1 (into 0 5) (into 3 0) ∷ []) gives false)
    ∷ (defined (copied 4 1 (into 0 0) (into 3 5) ∷ []) gives false)
    ∷ (defined (copied 4 1 null (into 3 0) ∷ []) gives false)
    ∷ (defined (copied 4 1 (into 0 0) null ∷ []) gives false)
    ∷ (defined (copied 4 1 (into 2 0) (into 3 0) ∷ []) gives false)
    ∷ (defined (copied 4 1 (into 0 0) (into 2 0) ∷ []) gives false)
    ∷ (defined (copied 2 1 (into 1 0) (into 0 0) ∷ []) gives false)
    ∷ (defined (copied 2 1 (into 1 0) (into 1 0) ∷ []) gives false)
    ∷ (defined (copied 2 1 (into 0 0) (into 1 0) ∷ []) gives true)
    ∷ [])
places_copied = refl

-- ---- fills

-- struct { char c; int *p; }: a byte and its padding, then a pointer
abbrev byte_and_pointer : BlankTree
byte_and_pointer = joined (zeros 4) (joined (nulls 1) nothing)

blanks_filled :
    Holds (
    (loaded scalars.Int (into 0 0) (filled byte_and_pointer (into 0 0) ∷ []) gives word 0)
    ∷ (loaded scalars.Pointer (into 0 4) (filled byte_and_pointer (into 0 0) ∷ []) gives null_pointer)
    ∷ (loaded scalars.Pointer (into 0 4) (filled (repeated 2 (nulls 1)) (into 0 0) ∷ []) gives null_pointer)
    ∷ (loaded scalars.Pointer (into 0 4) (filled (nulls 2) (into 0 0) ∷ []) gives null_pointer)
    ∷ (loaded scalars.Pointer (into 0 4) (filled (nulls 1) (into 0 0) ∷ []) gives undefined)
    ∷ (loaded scalars.Char (into 0 3) (filled (zeros 2) (into 0 2) ∷ []) gives word 0)
    ∷ (loaded scalars.Char (into 0 4) (filled (zeros 2) (into 0 2) ∷ []) gives undefined)
    ∷ (loaded scalars.Char (into 0 1) (filled (zeros 2) (into 0 2) ∷ []) gives undefined)
    ∷ (loaded scalars.Char (into 0 5) (filled (repeated 3 (zeros 2)) (into 0 0) ∷ []) gives word 0)
    ∷ (loaded scalars.Char (into 0 6) (filled (repeated 3 (zeros 2)) (into 0 0) ∷ []) gives undefined)
    ∷ (loaded scalars.Char (into 0 0) (filled nothing (into 0 0) ∷ []) gives undefined)
    ∷ [])
blanks_filled = refl

places_filled :
    Holds (
    (defined (filled (zeros 8) (into 0 0) ∷ []) gives true)
    ∷ (defined (filled (zeros 9) (into 0 0) ∷ []) gives false)
    ∷ (defined (filled (nulls 2) (into 0 1) ∷ []) gives false)
    ∷ (defined (filled (nulls 1) (into 0 1) ∷ []) gives true)
    ∷ (defined (filled (zeros 1) null ∷ []) gives false)
    ∷ (defined (filled (zeros 1) (into 2 0) ∷ []) gives false)
    ∷ (defined (filled (zeros 1) (into 4 0) ∷ []) gives false)
    ∷ (defined (filled (zeros 1) (into 1 0) ∷ []) gives false)
    ∷ [])
places_filled = refl

-- ---- lifetimes

blocks_made :
    Holds (
    (defined (made (4 ∷ 1 ∷ []) ∷ put scalars.Int (into 4 0) 6 ∷ put scalars.Char (into 5 0) 6 ∷ []) gives true)
    ∷ (defined (made (4 ∷ 1 ∷ []) ∷ put scalars.Char (into 5 1) 6 ∷ []) gives false)
    ∷ (defined (made (4 ∷ 1 ∷ []) ∷ put scalars.Char (into 4 4) 6 ∷ []) gives false)
    ∷ (defined (made (4 ∷ 1 ∷ []) ∷ put scalars.Char (into 6 0) 6 ∷ []) gives false)
    ∷ (defined (made (4 ∷ []) ∷ gone_from 4 ∷ put scalars.Char (into 4 0) 6 ∷ []) gives false)
    ∷ (defined (made (4 ∷ []) ∷ gone_from 4 ∷ put scalars.Char (into 3 0) 6 ∷ []) gives true)
    ∷ (defined (gone_from 1 ∷ put scalars.Char (into 0 0) 6 ∷ []) gives true)
    ∷ (defined (gone_from 1 ∷ put scalars.Char (into 3 0) 6 ∷ []) gives false)
    ∷ (defined (made (4 ∷ []) ∷ gone_from 4 ∷ made (4 ∷ []) ∷ put scalars.Char (into 4 0) 6 ∷ []) gives false)
    ∷ (defined (made (4 ∷ []) ∷ gone_from 4 ∷ made (4 ∷ []) ∷ put scalars.Char (into 5 0) 6 ∷ []) gives true)
    ∷ [])
blocks_made = refl

loaded_from_made :
    Holds (
    (loaded scalars.Int (into 4 0) (made (4 ∷ []) ∷ put scalars.Int (into 4 0) 6 ∷ []) gives word 6)
    ∷ (loaded scalars.Int (into 4 0) (made (4 ∷ []) ∷ []) gives undefined)
    ∷ (loaded scalars.Char (into 1 0) (made (4 ∷ []) ∷ gone_from 4 ∷ []) gives word 65)
    ∷ (loaded scalars.Char (into 1 0) (gone_from 1 ∷ []) gives undefined)
    ∷ [])
loaded_from_made = refl
