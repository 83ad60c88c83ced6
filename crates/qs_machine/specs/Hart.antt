-- The code's registers and memory, seen as the functions of a state.
use Rattle.std.specs.Prelude.{◌≡◌, ℕ, ◌+◌, Bool, ◌||◌, ◌==◌, List, length, slice_index, Option, Some, None, if◌then◌else◌}
use Rattle.qs_isa.specs.Addresses.{code_start, data_start}
use Rattle.qs_isa.specs.Registers.{x0}
use Rattle.qs_isa.specs.declared.instruction.LoadKind.{LoadKind}
use Rattle.qs_isa.specs.declared.instruction.StoreKind.{StoreKind}
use Rattle.qs_machine.specs.declared.registers.Registers.{Registers}
use Rattle.qs_machine.specs.declared.memory.Memory.{Memory}
use Rattle.qs_machine.specs.declared.pages.Pages.{Pages}
use Rattle.qs_machine.specs.State.{with_value, is_inside}
use Rattle.qs_machine.specs.Bytes.{byte_in, bytes_from}
use Rattle.qs_machine.specs.Pages.{byte_in_pages}
use Rattle.qs_machine.specs.Step.{load_width, loaded, stored}

abbrev pub registers_of : Registers → ℕ → ℕ
registers_of r n = slice_index r.words n

-- the registers after a write; what is written to x0 is dropped
abbrev pub written : (ℕ → ℕ) → ℕ → ℕ → ℕ → ℕ
written registers n value = if n == x0 then registers else with_value registers n value

-- outside of code, data and stack every byte is 0
abbrev pub nothing : ℕ → ℕ
nothing address = 0

-- the byte at an address, where pages hold it, or else the one that is given
abbrev pub byte_of : Pages → (ℕ → ℕ) → ℕ → ℕ
byte_of p = byte_in_pages p.start p.end p.table.items p.bytes.items

abbrev pub memory_of : Memory → ℕ → ℕ
memory_of m = byte_in code_start m.code.items (byte_of m.data (byte_of m.stack nothing))

abbrev pub lies_in : Pages → ℕ → ℕ → Bool
lies_in p address width = is_inside p.start p.end address width

-- an access lies whole where it may write, and where it may read
abbrev pub can_write_in : Memory → ℕ → ℕ → Bool
can_write_in m address width = lies_in m.data address width || lies_in m.stack address width

abbrev pub can_read_in : Memory → ℕ → ℕ → Bool
can_read_in m address width =
    is_inside code_start (code_start + length m.code.items) address width || can_write_in m address width

-- the bytes of an access, where it may read
abbrev pub bytes_read : Memory → ℕ → ℕ → Option (List ℕ)
bytes_read m address width = if can_read_in m address width then Some (bytes_from (memory_of m) address width) else None

-- the word that a load reads, where it may
abbrev pub word_read : Memory → LoadKind → ℕ → Option ℕ
word_read m kind address = if can_read_in m address (load_width kind) then Some (loaded kind (memory_of m) address) else None

-- so many bytes from an address on
abbrev pub bytes_of : Pages → ℕ → ℕ → List ℕ
bytes_of p address width = bytes_from (byte_of p nothing) address width

-- pages from one address to another that hold zeros
pub record AreZeros (first behind : ℕ) (p : Pages) : Type 0 where
  pub start : p.start ≡ first
  pub end : p.end ≡ behind
  pub zeros : byte_of p nothing ≡ nothing

-- pages that hold these bytes, where data lies
pub record HoldsData (items : List ℕ) (p : Pages) : Type 0 where
  pub start : p.start ≡ data_start
  pub end : p.end ≡ data_start + length items
  pub bytes : byte_of p nothing ≡ byte_in data_start items nothing

-- pages that hold the same bytes
pub record SameBytes (p q : Pages) : Type 0 where
  pub start : q.start ≡ p.start
  pub end : q.end ≡ p.end
  pub bytes : (otherwise : ℕ → ℕ) → byte_of q otherwise ≡ byte_of p otherwise

-- pages in which a store has stored
pub record StoresIn (p q : Pages) (kind : StoreKind) (address value : ℕ) : Type 0 where
  pub start : q.start ≡ p.start
  pub end : q.end ≡ p.end
  pub bytes : (otherwise : ℕ → ℕ) → byte_of q otherwise ≡ stored kind (byte_of p otherwise) address value

-- the memory is that in which a store has stored
abbrev pub Stores : Memory → Memory → StoreKind → ℕ → ℕ → Type 0
Stores m n kind address value = memory_of n ≡ stored kind (memory_of m) address value
