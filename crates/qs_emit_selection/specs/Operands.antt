-- How operands and addresses are made, and where results go.
use Rattle.std.specs.Prelude.{ℕ, ◌+◌, ◌*◌, ◌%◌, ◌^◌, ◌==◌, ◌&&◌, Bool, true, false, if◌then◌else◌}
use Rattle.std.specs.Prelude.{List, [], ◌∷◌, ◌++◌, Option, Some, None, unwrap_or}
use Rattle.qs_isa.specs.Registers.{x0, sp, a0, a1, a2, a3}
use Rattle.qs_isa.specs.declared.instruction.Instr.{Instr}
use Rattle.qs_isa.specs.declared.instruction.LoadKind.TheVariants.{Lw, Lbu}
use Rattle.qs_isa.specs.declared.instruction.StoreKind.TheVariants.{Sw}
use Rattle.qs_tac.specs.Trees.{TacFunctionTree}
use Rattle.qs_tac.specs.Places.{PlacesTree, place_of}
use Rattle.qs_tac.specs.declared.places.Place.{Place}
use Rattle.qs_tac.specs.declared.places.Place.TheVariants.{Slot, Register}
use Rattle.qs_tac.specs.Operands.{is_constant}
use Rattle.qs_tac.specs.declared.operands.Operand.{Operand}
use Rattle.qs_tac.specs.declared.operands.Operand.TheVariants.{Temporary, Integer, Byte, Constant, Null, Local, Data}
use Rattle.qs_tac.specs.declared.operands.Index.{Index}
use Rattle.qs_tac.specs.declared.operands.Address.{Address}
use Rattle.qs_frames.specs.declared.frame.Frame.{Frame}
use Rattle.qs_frames.specs.Layout.{layout, stored_registers, slot_at, block_offset}
use Rattle.qs_emit_selection.specs.Pieces.{lui, addi, andi, add, is_small, low_part, high_part, constant}
use Rattle.qs_emit_selection.specs.Pieces.{is_near, load_from, store_to, address_in_frame, product}

-- what the code of a function depends on
pub record Context : Type 0 where
  pub function : TacFunctionTree
  pub places : PlacesTree
  -- the address of a block of data
  pub data_at : (block : ℕ) → ℕ

abbrev pub frame_of : Context → Frame
frame_of c = layout c.function c.places

-- the registers that the entry stores and the return brings back
abbrev pub stored : Context → List ℕ
stored c = stored_registers c.function c.places

-- the offset of a slot, and of a placed block, from x2
abbrev pub slot_offset : Context → (k : ℕ) → ℕ
slot_offset c k = slot_at c.function c.places k

abbrev pub local_offset : Context → (i : ℕ) → ℕ
local_offset c i = block_offset c.function (frame_of c) i

-- ---- operands

-- the value of a place into a register
abbrev pub place_into : Context → (rd : ℕ) → Place → List Instr
place_into c rd (Slot k) = load_from Lw rd (slot_offset c k)
place_into c rd (Register r) = addi rd r 0 ∷ []

-- its low byte; bytes are stored the lowest first
abbrev pub byte_into : Context → (rd : ℕ) → Place → List Instr
byte_into c rd (Slot k) = load_from Lbu rd (slot_offset c k)
byte_into c rd (Register r) = andi rd r 255 ∷ []

-- an operand into a register
abbrev pub into : Context → (rd : ℕ) → Operand → List Instr
into c rd (Temporary t) = place_into c rd (place_of c.places t)
into c rd (Integer t) = place_into c rd (place_of c.places t)
into c rd (Byte t) = byte_into c rd (place_of c.places t)
into c rd (Constant n) = constant rd n
into c rd Null = addi rd x0 0 ∷ []
into c rd (Local i) = address_in_frame rd (local_offset c i)
into c rd (Data i) = constant rd (c.data_at i)

abbrev pub register_of : Place → Option ℕ
register_of (Slot k) = None
register_of (Register r) = Some r

-- the register in which an operand stands already, if it does
abbrev pub stands_in : Context → Operand → Option ℕ
stands_in c (Temporary t) = register_of (place_of c.places t)
stands_in c (Integer t) = register_of (place_of c.places t)
stands_in c (Byte t) = None
stands_in c (Constant n) = if n == 0 then Some x0 else None
stands_in c Null = Some x0
stands_in c (Local i) = None
stands_in c (Data i) = None

abbrev pub unless_there : Option ℕ → List Instr → List Instr
unless_there None code = code
unless_there (Some r) code = []

-- an operand in some register: the one in which it stands, or the one that is free
abbrev pub operand_code : Context → (free : ℕ) → Operand → List Instr
operand_code c free o = unless_there (stands_in c o) (into c free o)

abbrev pub operand_register : Context → (free : ℕ) → Operand → ℕ
operand_register c free o = unwrap_or (stands_in c o) free

-- ---- results

-- the register in which a result is made
abbrev pub result_register : Context → (x : ℕ) → ℕ
result_register c x = unwrap_or (register_of (place_of c.places x)) a0

abbrev pub put_place : Context → (rs : ℕ) → Place → List Instr
put_place c rs (Slot k) = store_to Sw rs (slot_offset c k)
put_place c rs (Register r) = addi r rs 0 ∷ []

-- a register into the place of a temporary
abbrev pub put : Context → (rs x : ℕ) → List Instr
put c rs x = put_place c rs (place_of c.places x)

-- a result, where it was made in a0, into its slot
abbrev pub result_code : Context → (x : ℕ) → List Instr
result_code c x = unless_there (register_of (place_of c.places x)) (put c a0 x)

abbrev pub move_to : Context → Operand → Place → List Instr
move_to c o (Slot k) = operand_code c a0 o ++ store_to Sw (operand_register c a0 o) (slot_offset c k)
move_to c o (Register r) = into c r o

-- ---- addresses

-- the code that makes an address as a register and an immediate
pub record Anchor : Type 0 where
  pub code : List Instr
  pub register : ℕ
  pub immediate : ℕ

-- a constant count of elements is a part of the displacement
abbrev pub constant_count : Operand → ℕ
constant_count (Temporary t) = 0
constant_count (Integer t) = 0
constant_count (Byte t) = 0
constant_count (Constant n) = n
constant_count Null = 0
constant_count (Local i) = 0
constant_count (Data i) = 0

abbrev pub index_displacement : Option Index → ℕ
index_displacement None = 0
index_displacement (Some index) = constant_count index.count * index.element + unwrap_or index.offset 0

-- how far an address lies behind its base, but for a count that isn't constant
abbrev pub displacement : Address → ℕ
displacement p = (unwrap_or p.offset 0 + index_displacement p.index) % 2 ^ 32

abbrev pub behind_frame : (offset : ℕ) → Anchor
behind_frame offset =
    if is_near offset then record { code = []; register = sp; immediate = offset }
    else record { code = lui a0 (high_part offset) ∷ add a0 a0 sp ∷ []; register = a0; immediate = low_part offset }

abbrev pub at_address : (address : ℕ) → Anchor
at_address address = record { code = lui a0 (high_part address) ∷ []; register = a0; immediate = low_part address }

abbrev pub behind_pointer : Context → (displacement : ℕ) → Operand → Anchor
behind_pointer c displacement o =
    if is_small displacement then
    record { code = operand_code c a0 o; register = operand_register c a0 o; immediate = displacement }
    else record {
      code = operand_code c a0 o ++ lui a2 (high_part displacement) ∷ add a2 a2 (operand_register c a0 o) ∷ [];
      register = a2;
      immediate = low_part displacement;
    }

abbrev pub based : Context → (displacement : ℕ) → Operand → Anchor
based c displacement (Temporary t) = behind_pointer c displacement (Temporary t)
based c displacement (Integer t) = behind_pointer c displacement (Integer t)
based c displacement (Byte t) = behind_pointer c displacement (Byte t)
based c displacement (Constant n) = behind_pointer c displacement (Constant n)
based c displacement Null = behind_pointer c displacement Null
based c displacement (Local i) = behind_frame ((local_offset c i + displacement) % 2 ^ 32)
based c displacement (Data i) = at_address ((c.data_at i + displacement) % 2 ^ 32)

-- a count that is in a register, times the size of an element, is added to the base: a3 becomes the new one
abbrev pub add_elements : (base count element : ℕ) → List Instr
add_elements base count element =
    if element == 1 then add a3 count base ∷ [] else product a3 count element ++ add a3 a3 base ∷ []

-- the elements of an index whose count isn't constant
abbrev pub element_code : Context → (base : ℕ) → Index → List Instr
element_code c base index =
    operand_code c a1 index.count ++ add_elements base (operand_register c a1 index.count) index.element

abbrev pub add_index : Context → Anchor → Option Index → Anchor
add_index c anchor None = anchor
add_index c anchor (Some index) =
    if is_constant index.count then anchor
    else record {
      code = anchor.code ++ element_code c anchor.register index;
      register = a3;
      immediate = anchor.immediate;
    }

abbrev pub anchor_of : Context → Address → Anchor
anchor_of c p = add_index c (based c (displacement p) p.base) p.index

-- an address into a register
abbrev pub address_into : Context → (rd : ℕ) → Address → List Instr
address_into c rd p = let anchor = anchor_of c p in anchor.code ++ addi rd anchor.register anchor.immediate ∷ []

-- ---- addresses that are multiples of 4 wherever the frame lies

abbrev pub is_block : Operand → Bool
is_block (Temporary t) = false
is_block (Integer t) = false
is_block (Byte t) = false
is_block (Constant n) = false
is_block Null = false
is_block (Local i) = true
is_block (Data i) = true

abbrev pub has_constant_index : Option Index → Bool
has_constant_index None = true
has_constant_index (Some index) = is_constant index.count

abbrev pub is_word_address : Address → Bool
is_word_address p = is_block p.base && has_constant_index p.index && displacement p % 4 == 0
