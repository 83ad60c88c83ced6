-- Pointers, computed from the definitions: each operation beside its neighbours, and what is just defined and just undefined.
use Rattle.std.proofs.Common.{ℕ, [], ◌∷◌, false, List, map, Option, Some, refl}
use Rattle.qs_memory.specs.Partial.{◌>>=◌}
use Rattle.qs_memory.specs.Values.{Pointer, null, into, Value, integer, address}
use Rattle.qs_memory.specs.Memory.{Memory, new_block}
use Rattle.qs_memory.specs.Pointers.{member_of}
use Rattle.qs_memory.specs.Operations.{apply_unary, apply_binary}
use Rattle.qs_memory.specs.declared.operation.Signedness.{Signedness}
use Rattle.qs_memory.specs.declared.operation.Signedness.TheVariants.{Signed, Unsigned}
use Rattle.qs_memory.specs.declared.operation.Comparison.{Comparison}
use Rattle.qs_memory.specs.declared.operation.Comparison.TheVariants.{Less, LessOrEqual, Greater, GreaterOrEqual, Equal, NotEqual}
use Rattle.qs_memory.specs.declared.operation.Direction.{Direction}
use Rattle.qs_memory.specs.declared.operation.Direction.TheVariants.{Up, Down}
use Rattle.qs_memory.specs.declared.operation.UnaryOperation.TheVariants as unaries
use Rattle.qs_memory.specs.declared.operation.BinaryOperation.TheVariants as binaries
use Rattle.qs_memory.proofs.Tables.{◌gives◌, Holds, word, at, undefined, yes, not_so}

-- blocks 0 and 1 have eight bytes, block 2 is released, block 3 was never made
abbrev blocks : Memory
blocks = new_block 8 ∷ new_block 8 ∷ record (new_block 8) { is_live = false } ∷ []

-- ---- undefined 5: moves

abbrev moves : Direction → Signedness → (element : ℕ) → Pointer → ℕ → Option Value
moves direction s element p n = apply_binary (binaries.Move direction s element) blocks (address p) (integer n)

each_move :
    Holds (
    (moves Up Signed 4 (into 0 0) 2 gives at 0 8)
    ∷ (moves Up Signed 4 (into 0 0) 3 gives undefined)
    ∷ (moves Up Signed 4 (into 1 4) 4294967295 gives at 1 0)
    ∷ (moves Up Signed 4 (into 0 4) 4294967294 gives undefined)
    ∷ (moves Up Signed 1 (into 0 3) 2 gives at 0 5)
    ∷ (moves Up Unsigned 4 (into 0 4) 1 gives at 0 8)
    ∷ (moves Up Unsigned 4 (into 0 4) 4294967295 gives undefined)
    ∷ (moves Up Signed 2147483648 (into 0 4) 2 gives undefined)
    ∷ (moves Down Unsigned 4 (into 0 8) 1 gives at 0 4)
    ∷ (moves Down Signed 4 (into 0 8) 2 gives at 0 0)
    ∷ (moves Down Signed 4 (into 0 4) 4294967295 gives at 0 8)
    ∷ (moves Down Unsigned 4 (into 0 0) 1 gives undefined)
    ∷ (moves Down Unsigned 4 (into 0 4) 4294967295 gives undefined)
    ∷ (moves Up Signed 4 (into 0 8) 0 gives at 0 8)
    ∷ (moves Up Signed 4 (into 0 9) 0 gives undefined)
    ∷ (moves Up Signed 4 null 0 gives undefined)
    ∷ (moves Up Signed 4 (into 2 0) 0 gives undefined)
    ∷ (moves Up Signed 4 (into 3 0) 0 gives undefined)
    ∷ [])
each_move = refl

-- `.` and `->`
abbrev member : Pointer → ℕ → Option Value
member p offset = member_of blocks p offset >>= λ q. Some (address q)

each_member :
    Holds (
    (member (into 1 0) 4 gives at 1 4)
    ∷ (member (into 0 4) 0 gives at 0 4)
    ∷ (member (into 0 4) 4 gives at 0 8)
    ∷ (member (into 0 8) 0 gives at 0 8)
    ∷ (member (into 0 8) 4 gives undefined)
    ∷ (member (into 0 9) 0 gives undefined)
    ∷ (member null 0 gives undefined)
    ∷ (member (into 2 0) 0 gives undefined)
    ∷ [])
each_member = refl

-- ---- undefined 6: differences

abbrev apart : (element : ℕ) → Pointer → Pointer → Option Value
apart element p q = apply_binary (binaries.Difference element) blocks (address p) (address q)

each_difference :
    Holds (
    (apart 4 (into 0 8) (into 0 0) gives word 2)
    ∷ (apart 4 (into 0 0) (into 0 8) gives word 4294967294)
    ∷ (apart 4 (into 0 4) (into 0 4) gives word 0)
    ∷ (apart 4 (into 0 7) (into 0 0) gives undefined)
    ∷ (apart 4 (into 0 0) (into 0 7) gives undefined)
    ∷ (apart 1 (into 0 7) (into 0 0) gives word 7)
    ∷ (apart 4 (into 0 0) (into 1 0) gives undefined)
    ∷ (apart 4 null null gives undefined)
    ∷ (apart 4 null (into 0 0) gives undefined)
    ∷ (apart 4 (into 0 0) null gives undefined)
    ∷ (apart 4 (into 2 0) (into 2 0) gives undefined)
    ∷ [])
each_difference = refl

-- ---- undefined 6 and 7: comparisons

abbrev compared : Comparison → Pointer → Pointer → Option Value
compared op p q = apply_binary (binaries.ComparePointers op) blocks (address p) (address q)

-- in one block: 4 with 8, 8 with 8, 8 with 4
abbrev in_a_block : Comparison → List (Option Value)
in_a_block op = compared op (into 0 4) (into 0 8) ∷ compared op (into 0 8) (into 0 8) ∷ compared op (into 0 8) (into 0 4) ∷ []

-- into two blocks: both inside at one offset, both inside, an end on the left, an end on the right
abbrev in_two_blocks : Comparison → List (Option Value)
in_two_blocks op =
    compared op (into 0 4) (into 1 4) ∷ compared op (into 0 7) (into 1 0) ∷ compared op (into 0 8) (into 1 0) ∷ compared op (into 0 0) (into 1 8) ∷ []

-- null with null, with a start, with an end, and those with null
abbrev with_null : Comparison → List (Option Value)
with_null op =
    compared op null null ∷ compared op null (into 0 0) ∷ compared op null (into 0 8) ∷ compared op (into 0 0) null ∷ compared op (into 0 8) null ∷ []

-- released with itself, with null, with a live one, and those with it
abbrev with_released : Comparison → List (Option Value)
with_released op =
    compared op (into 2 0) (into 2 0)
    ∷ compared op (into 2 0) null ∷ compared op null (into 2 0) ∷ compared op (into 2 0) (into 0 0) ∷ compared op (into 0 0) (into 2 0) ∷ []

compared_in_a_block :
    Holds (
    (in_a_block Less gives (yes ∷ not_so ∷ not_so ∷ []))
    ∷ (in_a_block LessOrEqual gives (yes ∷ yes ∷ not_so ∷ []))
    ∷ (in_a_block Greater gives (not_so ∷ not_so ∷ yes ∷ []))
    ∷ (in_a_block GreaterOrEqual gives (not_so ∷ yes ∷ yes ∷ []))
    ∷ (in_a_block Equal gives (not_so ∷ yes ∷ not_so ∷ []))
    ∷ (in_a_block NotEqual gives (yes ∷ not_so ∷ yes ∷ []))
    ∷ [])
compared_in_a_block = refl

equal_or_not :
    Holds (
    (in_two_blocks Equal gives (not_so ∷ not_so ∷ undefined ∷ undefined ∷ []))
    ∷ (in_two_blocks NotEqual gives (yes ∷ yes ∷ undefined ∷ undefined ∷ []))
    ∷ (with_null Equal gives (yes ∷ not_so ∷ not_so ∷ not_so ∷ not_so ∷ []))
    ∷ (with_null NotEqual gives (not_so ∷ yes ∷ yes ∷ yes ∷ yes ∷ []))
    ∷ (with_released Equal gives (undefined ∷ undefined ∷ undefined ∷ undefined ∷ undefined ∷ []))
    ∷ (with_released NotEqual gives (undefined ∷ undefined ∷ undefined ∷ undefined ∷ undefined ∷ []))
    ∷ [])
equal_or_not = refl

abbrev orders : List Comparison
orders = Less ∷ LessOrEqual ∷ Greater ∷ GreaterOrEqual ∷ []

-- all four orders are undefined outside one block
no_order :
    Holds (
    (map in_two_blocks orders gives map (λ op. undefined ∷ undefined ∷ undefined ∷ undefined ∷ []) orders)
    ∷ (map with_null orders gives map (λ op. undefined ∷ undefined ∷ undefined ∷ undefined ∷ undefined ∷ []) orders)
    ∷ (map with_released orders gives map (λ op. undefined ∷ undefined ∷ undefined ∷ undefined ∷ undefined ∷ []) orders)
    ∷ [])
no_order = refl

-- ---- undefined 7: truth

truth_of_pointers :
    Holds (
    (apply_unary unaries.Truth blocks (address null) gives word 0)
    ∷ (apply_unary unaries.Truth blocks (address (into 0 0)) gives word 1)
    ∷ (apply_unary unaries.Truth blocks (address (into 0 8)) gives word 1)
    ∷ (apply_unary unaries.Truth blocks (address (into 2 4)) gives undefined)
    ∷ (apply_unary unaries.Not blocks (address null) gives word 1)
    ∷ (apply_unary unaries.Not blocks (address (into 0 0)) gives word 0)
    ∷ (apply_unary unaries.Not blocks (address (into 2 4)) gives undefined)
    ∷ [])
truth_of_pointers = refl
