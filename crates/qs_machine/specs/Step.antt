-- One step: the word at the pc is fetched, decoded and acted on (RISC-V Unprivileged ISA 20191213, chapters 2 and 7).
-- A step that traps leaves the state as it was. Of several causes the one that is tested first counts.
use Rattle.std.specs.Prelude.{◌≡◌, ℕ, ◌+◌, ◌-◌, ◌*◌, ◌/◌, ◌%◌, Bool, true, false, not, ◌&&◌, ◌||◌, ◌==◌, nat_lt, List, [], ◌∷◌, ◌++◌, if◌then◌else◌, map, slice_index, Option, Some, None, option_map, int_lt}
use Rattle.qs_base.specs.Words.{add, sub, slt, sltu, and, or, xor, sll, srl, sra, mul, mulh, mulhsu, mulhu, div, divu, rem, remu, signed, sign_extend}
use Rattle.qs_isa.specs.Addresses.{code_start}
use Rattle.qs_isa.specs.EnvironmentCalls.{exit_call, put_byte_call, take_byte_call}
use Rattle.qs_isa.specs.declared.instruction.Instr.{Instr}
use Rattle.qs_isa.specs.declared.instruction.Instr.TheVariants.{Lui, Auipc, Jal, Jalr, Branch, Load, Store, OpImm, ShiftImm, Op, Fence, Ecall, Ebreak}
use Rattle.qs_isa.specs.declared.instruction.BranchKind.{BranchKind}
use Rattle.qs_isa.specs.declared.instruction.BranchKind.TheVariants.{Beq, Bne, Blt, Bge, Bltu, Bgeu}
use Rattle.qs_isa.specs.declared.instruction.LoadKind.{LoadKind}
use Rattle.qs_isa.specs.declared.instruction.LoadKind.TheVariants.{Lb, Lh, Lw, Lbu, Lhu}
use Rattle.qs_isa.specs.declared.instruction.StoreKind.{StoreKind}
use Rattle.qs_isa.specs.declared.instruction.StoreKind.TheVariants.{Sb, Sh, Sw}
use Rattle.qs_isa.specs.declared.instruction.OpImmKind.{OpImmKind}
use Rattle.qs_isa.specs.declared.instruction.OpImmKind.TheVariants.{Addi, Slti, Sltiu, Xori, Ori, Andi}
use Rattle.qs_isa.specs.declared.instruction.ShiftImmKind.{ShiftImmKind}
use Rattle.qs_isa.specs.declared.instruction.ShiftImmKind.TheVariants.{Slli, Srli, Srai}
use Rattle.qs_isa.specs.declared.instruction.OpKind.{OpKind}
use Rattle.qs_isa.specs.declared.instruction.OpKind.TheVariants.{Add, Sub, Sll, Slt, Sltu, Xor, Srl, Sra, Or, And, Mul, Mulh, Mulhsu, Mulhu, Div, Divu, Rem, Remu}
use Rattle.qs_isa.specs.Registers.{sp, a0, a7}
use Rattle.qs_isa.specs.Table.{decode_of}
use Rattle.qs_image.specs.Image.{Image}
use Rattle.qs_machine.specs.declared.answers.Cause.{Cause}
use Rattle.qs_machine.specs.declared.answers.Cause.TheVariants.{Overflow, IllegalInstruction, FetchOutside, JumpMisaligned, LoadMisaligned, LoadOutside, StoreMisaligned, StoreOutside, UnknownCall, Breakpoint}
use Rattle.qs_machine.specs.State.{State, register, set_register, stack_base, stack_top, is_code, can_read, can_write, load_1, load_2, load_4, store_1, store_2, store_4}

-- A step gives the next state, or the program exits, or the step isn't taken, for a cause.
pub data StepResult : Type 0 where
  Next : (s : State) → StepResult
  Exits : (status : ℕ) → StepResult
  Traps : (cause : Cause) → StepResult

-- the address after an instruction
abbrev pub next_pc : State → ℕ
next_pc s = s.pc + 4

-- Writes a register and goes on at an address. The stack pointer may not leave the stack.
abbrev pub write_and_go : ℕ → State → ℕ → ℕ → ℕ → StepResult
write_and_go size s rd value pc =
    if rd == sp && (nat_lt value (stack_base size) || nat_lt stack_top value) then Traps Overflow
    else Next (record (set_register s rd value) { pc = pc })

abbrev pub write : ℕ → State → ℕ → ℕ → StepResult
write size s rd value = write_and_go size s rd value (next_pc s)

-- ---- Operations (2.4, 7.1, 7.2)

abbrev pub op_imm_result : OpImmKind → ℕ → ℕ → ℕ
op_imm_result Addi a b = add a b
op_imm_result Slti a b = slt a b
op_imm_result Sltiu a b = sltu a b
op_imm_result Xori a b = xor a b
op_imm_result Ori a b = or a b
op_imm_result Andi a b = and a b

abbrev pub shift_result : ShiftImmKind → ℕ → ℕ → ℕ
shift_result Slli a b = sll a b
shift_result Srli a b = srl a b
shift_result Srai a b = sra a b

abbrev pub op_result : OpKind → ℕ → ℕ → ℕ
op_result Add a b = add a b
op_result Sub a b = sub a b
op_result Sll a b = sll a b
op_result Slt a b = slt a b
op_result Sltu a b = sltu a b
op_result Xor a b = xor a b
op_result Srl a b = srl a b
op_result Sra a b = sra a b
op_result Or a b = or a b
op_result And a b = and a b
op_result Mul a b = mul a b
op_result Mulh a b = mulh a b
op_result Mulhsu a b = mulhsu a b
op_result Mulhu a b = mulhu a b
op_result Div a b = div a b
op_result Divu a b = divu a b
op_result Rem a b = rem a b
op_result Remu a b = remu a b

-- ---- Jumps and branches (2.5)

-- Goes to an address that is a multiple of 4, and writes the address after this instruction.
abbrev pub jump : ℕ → State → ℕ → ℕ → StepResult
jump size s rd target = if target % 4 == 0 then write_and_go size s rd (next_pc s) target else Traps JumpMisaligned

abbrev pub is_taken : BranchKind → ℕ → ℕ → Bool
is_taken Beq a b = a == b
is_taken Bne a b = not (a == b)
is_taken Blt a b = int_lt (signed a) (signed b)
is_taken Bge a b = not (int_lt (signed a) (signed b))
is_taken Bltu a b = nat_lt a b
is_taken Bgeu a b = not (nat_lt a b)

abbrev pub go_to : State → ℕ → StepResult
go_to s pc = Next (record s { pc = pc })

abbrev pub branch : State → Bool → ℕ → StepResult
branch s false target = go_to s (next_pc s)
branch s true target = if target % 4 == 0 then go_to s target else Traps JumpMisaligned

-- ---- Loads and stores (2.6)

abbrev pub load_width : LoadKind → ℕ
load_width Lb = 1
load_width Lh = 2
load_width Lw = 4
load_width Lbu = 1
load_width Lhu = 2

abbrev pub loaded : LoadKind → (ℕ → ℕ) → ℕ → ℕ
loaded Lb memory address = sign_extend 8 (load_1 memory address)
loaded Lh memory address = sign_extend 16 (load_2 memory address)
loaded Lw memory address = load_4 memory address
loaded Lbu memory address = load_1 memory address
loaded Lhu memory address = load_2 memory address

-- misaligned is tested before outside
abbrev pub load : Image → ℕ → State → LoadKind → ℕ → ℕ → StepResult
load image size s kind rd address =
    if not (address % load_width kind == 0) then Traps LoadMisaligned
    else if can_read image size address (load_width kind) then write size s rd (loaded kind s.memory address)
    else Traps LoadOutside

abbrev pub store_width : StoreKind → ℕ
store_width Sb = 1
store_width Sh = 2
store_width Sw = 4

abbrev pub stored : StoreKind → (ℕ → ℕ) → ℕ → ℕ → ℕ → ℕ
stored Sb memory address value = store_1 memory address value
stored Sh memory address value = store_2 memory address value
stored Sw memory address value = store_4 memory address value

abbrev pub store : Image → ℕ → State → StoreKind → ℕ → ℕ → StepResult
store image size s kind address value =
    if not (address % store_width kind == 0) then Traps StoreMisaligned
    else if can_write image size address (store_width kind) then Next (record s { pc = next_pc s; memory = stored kind s.memory address value })
    else Traps StoreOutside

-- ---- The environment (2.8): a7 names the call, a0 is its argument and its answer

abbrev pub answer : State → ℕ → State
answer s value = record (set_register s a0 value) { pc = next_pc s }

-- the next byte of the input, or every bit set at its end
abbrev pub take_byte : State → List ℕ → StepResult
take_byte s [] = Next (answer s 0xffffffff)
take_byte s (byte ∷ bytes) = Next (record (answer s byte) { input = bytes })

-- the low byte of a0 goes to the output, and stays in a0
abbrev pub put_byte : State → ℕ → StepResult
put_byte s byte = Next (record (answer s byte) { output = s.output ++ byte ∷ [] })

abbrev pub environment_call : State → ℕ → StepResult
environment_call s call =
    if call == exit_call then Exits (register s a0 % 256)
    else if call == put_byte_call then put_byte s (register s a0 % 256)
    else if call == take_byte_call then take_byte s s.input
    else Traps UnknownCall

-- ---- The step

abbrev pub act : Image → ℕ → State → Instr → StepResult
act image size s (Lui rd immediate) = write size s rd immediate
act image size s (Auipc rd immediate) = write size s rd (add s.pc immediate)
act image size s (Jal rd offset) = jump size s rd (add s.pc offset)
act image size s (Jalr rd rs1 offset) = jump size s rd (add (register s rs1) offset / 2 * 2)
act image size s (Branch kind rs1 rs2 offset) = branch s (is_taken kind (register s rs1) (register s rs2)) (add s.pc offset)
act image size s (Load kind rd rs1 offset) = load image size s kind rd (add (register s rs1) offset)
act image size s (Store kind rs1 rs2 offset) = store image size s kind (add (register s rs1) offset) (register s rs2)
act image size s (OpImm kind rd rs1 immediate) = write size s rd (op_imm_result kind (register s rs1) immediate)
act image size s (ShiftImm kind rd rs1 amount) = write size s rd (shift_result kind (register s rs1) amount)
act image size s (Op kind rd rs1 rs2) = write size s rd (op_result kind (register s rs1) (register s rs2))
act image size s Fence = go_to s (next_pc s)
act image size s Ecall = environment_call s (register s a7)
act image size s Ebreak = Traps Breakpoint

abbrev pub act_on : Image → ℕ → State → Option Instr → StepResult
act_on image size s None = Traps IllegalInstruction
act_on image size s (Some instruction) = act image size s instruction

-- the word of code at an address
abbrev pub fetch : Image → ℕ → Option ℕ
fetch image address = if is_code image address 4 then Some (slice_index image.code ((address - code_start) / 4)) else None

-- for each image with these instructions this is the one at an address: `None` where no word of code stands there, and
-- `Some None` where the word is no instruction
abbrev pub Fetches : List (Option Instr) → ℕ → Option (Option Instr) → Type 0
Fetches instructions address result =
    (image : Image) → instructions ≡ map decode_of image.code → result ≡ option_map decode_of (fetch image address)

abbrev pub step_on : Image → ℕ → State → Option ℕ → StepResult
step_on image size s None = Traps FetchOutside
step_on image size s (Some word) = act_on image size s (decode_of word)

abbrev pub step : Image → ℕ → State → StepResult
step image size s = step_on image size s (fetch image s.pc)
