-- The state of the machine: one hart over a flat memory (RISC-V Unprivileged ISA 20191213, 1.4 and 2.1).
use Rattle.std.specs.Prelude.{ℕ, ◌+◌, ◌-◌, ◌*◌, ◌/◌, ◌%◌, ◌^◌, Bool, ◌&&◌, ◌||◌, ◌==◌, nat_le, List, Option, Some, None, if◌then◌else◌, length}
use Rattle.qs_isa.specs.Addresses.{code_start, data_start}
use Rattle.qs_isa.specs.Registers.{x0, sp}
use Rattle.qs_image.specs.Image.{Image}
use Rattle.qs_image.specs.Limits.{largest_cost}

-- Registers and addresses are words below 2 ^ 32; memory gives the byte at each address.
pub record State : Type 0 where
  pub pc : ℕ
  pub registers : ℕ → ℕ
  pub memory : ℕ → ℕ
  -- the bytes of the input that are left
  pub input : List ℕ
  -- the bytes that were put on the output so far
  pub output : List ℕ

-- x0 reads 0, whatever was written to it
abbrev pub register : State → ℕ → ℕ
register s n = if n == x0 then 0 else s.registers n

-- a function that has another value at one place
abbrev pub with_value : (ℕ → ℕ) → ℕ → ℕ → ℕ → ℕ
with_value f place value n = if n == place then value else f n

-- what is written to x0 is dropped
abbrev pub set_register : State → ℕ → ℕ → State
set_register s n value = if n == x0 then s else record s { registers = with_value s.registers n value }

abbrev pub stack_pointer : State → ℕ
stack_pointer s = register s sp

-- Where things lie. The stack of `size` bytes lies below its top.
abbrev pub stack_top : ℕ
stack_top = 0x80000000

-- the largest stack, in bytes: as large as what one call may cost
abbrev pub stack_limit : ℕ
stack_limit = largest_cost

abbrev pub stack_base : ℕ → ℕ
stack_base size = stack_top - size

-- `width` bytes from `address` on lie whole in the region from `start` to `end`, the end not included
abbrev pub is_inside : ℕ → ℕ → ℕ → ℕ → Bool
is_inside start end address width = nat_le start address && nat_le (address + width) end

-- the place in a region of `count` bytes from `start` on of an access that lies in it whole
abbrev pub place_in : ℕ → ℕ → ℕ → ℕ → Option ℕ
place_in start count address width = if is_inside start (start + count) address width then Some (address - start) else None

abbrev pub is_code : Image → ℕ → ℕ → Bool
is_code image address width = is_inside code_start (code_start + 4 * length image.code) address width

abbrev pub is_data : Image → ℕ → ℕ → Bool
is_data image address width = is_inside data_start (data_start + length image.bytes) address width

abbrev pub is_stack : ℕ → ℕ → ℕ → Bool
is_stack size address width = is_inside (stack_base size) stack_top address width

-- Code can be read and not written; data and stack can be both.
abbrev pub can_write : Image → ℕ → ℕ → ℕ → Bool
can_write image size address width = is_data image address width || is_stack size address width

abbrev pub can_read : Image → ℕ → ℕ → ℕ → Bool
can_read image size address width = is_code image address width || can_write image size address width

-- The environment is little-endian (2.6 leaves it open). The number that 1, 2 or 4 bytes from an address on are:
abbrev pub load_1 : (ℕ → ℕ) → ℕ → ℕ
load_1 memory address = memory address

abbrev pub load_2 : (ℕ → ℕ) → ℕ → ℕ
load_2 memory address = memory address + 2 ^ 8 * memory (address + 1)

abbrev pub load_4 : (ℕ → ℕ) → ℕ → ℕ
load_4 memory address = load_2 memory address + 2 ^ 16 * load_2 memory (address + 2)

-- the memory after the low byte, half or whole of a word was stored
abbrev pub store_1 : (ℕ → ℕ) → ℕ → ℕ → ℕ → ℕ
store_1 memory address value = with_value memory address (value % 2 ^ 8)

abbrev pub store_2 : (ℕ → ℕ) → ℕ → ℕ → ℕ → ℕ
store_2 memory address value = store_1 (store_1 memory address value) (address + 1) (value / 2 ^ 8)

abbrev pub store_4 : (ℕ → ℕ) → ℕ → ℕ → ℕ → ℕ
store_4 memory address value = store_2 (store_2 memory address value) (address + 2) (value / 2 ^ 16)
