-- The bytes of a region, and how loads and stores see them.
use Rattle.std.specs.Prelude.{ℕ, zero, suc, ◌+◌, ◌-◌, ◌/◌, ◌%◌, ◌^◌, List, [], ◌∷◌, length, slice_index, slice_set, if◌then◌else◌}
use Rattle.byteorder.specs.Endian.{little_number}
use Rattle.qs_base.specs.Words.{sign_extend}
use Rattle.qs_isa.specs.declared.instruction.LoadKind.{LoadKind}
use Rattle.qs_isa.specs.declared.instruction.LoadKind.TheVariants.{Lb, Lh, Lw, Lbu, Lhu}
use Rattle.qs_isa.specs.declared.instruction.StoreKind.{StoreKind}
use Rattle.qs_isa.specs.declared.instruction.StoreKind.TheVariants.{Sb, Sh, Sw}
use Rattle.qs_machine.specs.State.{is_inside}

-- the byte at an address: that of the region that begins at `start`, or else the one that is given
abbrev pub byte_in : ℕ → List ℕ → (ℕ → ℕ) → ℕ → ℕ
byte_in start bytes otherwise address = if is_inside start (start + length bytes) address 1 then slice_index bytes (address - start) else otherwise address

-- so many bytes from an address on
abbrev pub bytes_from : (ℕ → ℕ) → ℕ → ℕ → List ℕ
bytes_from memory address zero = []
bytes_from memory address (suc width) = memory address ∷ bytes_from memory (address + 1) width

-- the word that a load makes of the bytes that it reads
abbrev pub loaded_from : LoadKind → List ℕ → ℕ
loaded_from Lb bytes = sign_extend 8 (little_number 1 bytes)
loaded_from Lh bytes = sign_extend 16 (little_number 2 bytes)
loaded_from Lw bytes = little_number 4 bytes
loaded_from Lbu bytes = little_number 1 bytes
loaded_from Lhu bytes = little_number 2 bytes

-- the low byte, half or whole of a word, put at a place
abbrev pub put_1 : List ℕ → ℕ → ℕ → List ℕ
put_1 bytes place value = slice_set bytes place (value % 2 ^ 8)

abbrev pub put_2 : List ℕ → ℕ → ℕ → List ℕ
put_2 bytes place value = put_1 (put_1 bytes place value) (place + 1) (value / 2 ^ 8)

abbrev pub put_4 : List ℕ → ℕ → ℕ → List ℕ
put_4 bytes place value = put_2 (put_2 bytes place value) (place + 2) (value / 2 ^ 16)

abbrev pub put_bytes : StoreKind → List ℕ → ℕ → ℕ → List ℕ
put_bytes Sb bytes place value = put_1 bytes place value
put_bytes Sh bytes place value = put_2 bytes place value
put_bytes Sw bytes place value = put_4 bytes place value
