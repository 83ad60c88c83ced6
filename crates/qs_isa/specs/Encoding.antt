-- The word of an instruction (RISC-V Unprivileged ISA 20191213, chapter 24).
use Rattle.std.specs.Prelude.{ℕ, ◌+◌, ◌*◌, ◌^◌, ◌<◌}
use Rattle.qs_isa.specs.declared.instruction.Instr.{Instr}
use Rattle.qs_isa.specs.declared.instruction.Instr.TheVariants.{Lui, Auipc, Jal, Jalr, Branch, Load, Store, OpImm, ShiftImm, Op, Fence, Ecall, Ebreak}
use Rattle.qs_isa.specs.declared.instruction.BranchKind.{BranchKind}
use Rattle.qs_isa.specs.declared.instruction.BranchKind.TheVariants.{Beq, Bne, Blt, Bge, Bltu, Bgeu}
use Rattle.qs_isa.specs.declared.instruction.LoadKind.{LoadKind}
use Rattle.qs_isa.specs.declared.instruction.LoadKind.TheVariants.{Lb, Lh, Lw, Lbu, Lhu}
use Rattle.qs_isa.specs.declared.instruction.StoreKind.{StoreKind}
use Rattle.qs_isa.specs.declared.instruction.StoreKind.TheVariants.{Sb, Sh, Sw}
use Rattle.qs_isa.specs.declared.instruction.OpImmKind.{OpImmKind}
use Rattle.qs_isa.specs.declared.instruction.OpImmKind.TheVariants.{Addi, Slti, Sltiu, Xori, Ori, Andi}
use Rattle.qs_isa.specs.declared.instruction.ShiftImmKind.{ShiftImmKind}
use Rattle.qs_isa.specs.declared.instruction.ShiftImmKind.TheVariants.{Slli, Srli, Srai}
use Rattle.qs_isa.specs.declared.instruction.OpKind.{OpKind}
use Rattle.qs_isa.specs.declared.instruction.OpKind.TheVariants.{Add, Sub, Sll, Slt, Sltu, Xor, Srl, Sra, Or, And, Mul, Mulh, Mulhsu, Mulhu, Div, Divu, Rem, Remu}
use Rattle.qs_isa.specs.Ranges.{IsSigned, IsOffset, IsUpper}
use Rattle.qs_isa.specs.Fields.{bits}

-- ---- funct3 and funct7

abbrev pub branch_funct3 : BranchKind → ℕ
branch_funct3 Beq = 0b000
branch_funct3 Bne = 0b001
branch_funct3 Blt = 0b100
branch_funct3 Bge = 0b101
branch_funct3 Bltu = 0b110
branch_funct3 Bgeu = 0b111

abbrev pub load_funct3 : LoadKind → ℕ
load_funct3 Lb = 0b000
load_funct3 Lh = 0b001
load_funct3 Lw = 0b010
load_funct3 Lbu = 0b100
load_funct3 Lhu = 0b101

abbrev pub store_funct3 : StoreKind → ℕ
store_funct3 Sb = 0b000
store_funct3 Sh = 0b001
store_funct3 Sw = 0b010

abbrev pub op_imm_funct3 : OpImmKind → ℕ
op_imm_funct3 Addi = 0b000
op_imm_funct3 Slti = 0b010
op_imm_funct3 Sltiu = 0b011
op_imm_funct3 Xori = 0b100
op_imm_funct3 Ori = 0b110
op_imm_funct3 Andi = 0b111

abbrev pub shift_imm_funct3 : ShiftImmKind → ℕ
shift_imm_funct3 Slli = 0b001
shift_imm_funct3 Srli = 0b101
shift_imm_funct3 Srai = 0b101

abbrev pub shift_imm_funct7 : ShiftImmKind → ℕ
shift_imm_funct7 Slli = 0b0000000
shift_imm_funct7 Srli = 0b0000000
shift_imm_funct7 Srai = 0b0100000

abbrev pub op_funct3 : OpKind → ℕ
op_funct3 Add = 0b000
op_funct3 Sub = 0b000
op_funct3 Sll = 0b001
op_funct3 Slt = 0b010
op_funct3 Sltu = 0b011
op_funct3 Xor = 0b100
op_funct3 Srl = 0b101
op_funct3 Sra = 0b101
op_funct3 Or = 0b110
op_funct3 And = 0b111
op_funct3 Mul = 0b000
op_funct3 Mulh = 0b001
op_funct3 Mulhsu = 0b010
op_funct3 Mulhu = 0b011
op_funct3 Div = 0b100
op_funct3 Divu = 0b101
op_funct3 Rem = 0b110
op_funct3 Remu = 0b111

abbrev pub op_funct7 : OpKind → ℕ
op_funct7 Add = 0b0000000
op_funct7 Sub = 0b0100000
op_funct7 Sll = 0b0000000
op_funct7 Slt = 0b0000000
op_funct7 Sltu = 0b0000000
op_funct7 Xor = 0b0000000
op_funct7 Srl = 0b0000000
op_funct7 Sra = 0b0100000
op_funct7 Or = 0b0000000
op_funct7 And = 0b0000000
op_funct7 Mul = 0b0000001
op_funct7 Mulh = 0b0000001
op_funct7 Mulhsu = 0b0000001
op_funct7 Mulhu = 0b0000001
op_funct7 Div = 0b0000001
op_funct7 Divu = 0b0000001
op_funct7 Rem = 0b0000001
op_funct7 Remu = 0b0000001

-- ---- the formats (section 2.2)

-- funct7, rs2, rs1, funct3, rd, opcode
abbrev pub r_word : ℕ → ℕ → ℕ → ℕ → ℕ → ℕ → ℕ
r_word funct7 rs2 rs1 funct3 rd opcode = funct7 * 2 ^ 25 + rs2 * 2 ^ 20 + rs1 * 2 ^ 15 + funct3 * 2 ^ 12 + rd * 2 ^ 7 + opcode

-- the operations on two registers, and on a register and an amount to shift by
abbrev pub op_word : OpKind → ℕ → ℕ → ℕ → ℕ
op_word kind rs2 rs1 rd = r_word (op_funct7 kind) rs2 rs1 (op_funct3 kind) rd 0b0110011

abbrev pub shift_imm_word : ShiftImmKind → ℕ → ℕ → ℕ → ℕ
shift_imm_word kind amount rs1 rd = r_word (shift_imm_funct7 kind) amount rs1 (shift_imm_funct3 kind) rd 0b0010011

-- imm[11:0], rs1, funct3, rd, opcode
abbrev pub i_word : ℕ → ℕ → ℕ → ℕ → ℕ → ℕ
i_word imm rs1 funct3 rd opcode = r_word (bits imm 5 7) (bits imm 0 5) rs1 funct3 rd opcode

-- imm[11:5], rs2, rs1, funct3, imm[4:0], opcode
abbrev pub s_word : ℕ → ℕ → ℕ → ℕ → ℕ → ℕ
s_word imm rs2 rs1 funct3 opcode = r_word (bits imm 5 7) rs2 rs1 funct3 (bits imm 0 5) opcode

-- imm[12|10:5], rs2, rs1, funct3, imm[4:1|11], opcode
abbrev pub b_word : ℕ → ℕ → ℕ → ℕ → ℕ → ℕ
b_word imm rs2 rs1 funct3 opcode = r_word (bits imm 12 1 * 2 ^ 6 + bits imm 5 6) rs2 rs1 funct3 (bits imm 1 4 * 2 ^ 1 + bits imm 11 1) opcode

-- imm[31:12], rd, opcode
abbrev pub u_word : ℕ → ℕ → ℕ → ℕ
u_word imm rd opcode = bits imm 12 20 * 2 ^ 12 + rd * 2 ^ 7 + opcode

-- imm[20|10:1|11|19:12], rd, opcode
abbrev pub j_word : ℕ → ℕ → ℕ → ℕ
j_word imm rd opcode = bits imm 20 1 * 2 ^ 31 + bits imm 1 10 * 2 ^ 21 + bits imm 11 1 * 2 ^ 20 + bits imm 12 8 * 2 ^ 12 + rd * 2 ^ 7 + opcode

-- ---- the words

-- the word of an instruction; of FENCE the one that orders all accesses (section 2.7)
unfoldable pub encode_of : Instr → ℕ
encode_of (Lui rd immediate) = u_word immediate rd 0b0110111
encode_of (Auipc rd immediate) = u_word immediate rd 0b0010111
encode_of (Jal rd offset) = j_word offset rd 0b1101111
encode_of (Jalr rd rs1 offset) = i_word offset rs1 0b000 rd 0b1100111
encode_of (Branch kind rs1 rs2 offset) = b_word offset rs2 rs1 (branch_funct3 kind) 0b1100011
encode_of (Load kind rd rs1 offset) = i_word offset rs1 (load_funct3 kind) rd 0b0000011
encode_of (Store kind rs1 rs2 offset) = s_word offset rs2 rs1 (store_funct3 kind) 0b0100011
encode_of (OpImm kind rd rs1 immediate) = i_word immediate rs1 (op_imm_funct3 kind) rd 0b0010011
encode_of (ShiftImm kind rd rs1 amount) = shift_imm_word kind amount rs1 rd
encode_of (Op kind rd rs1 rs2) = op_word kind rs2 rs1 rd
encode_of Fence = 0x0ff0000f
encode_of Ecall = 0x00000073
encode_of Ebreak = 0x00100073

-- the registers and immediates are within their ranges, as those of each `Instr` in code are
abbrev pub IsInstr : Instr → Type 0
IsInstr (Lui rd immediate) = (rd < 32) × IsUpper immediate
IsInstr (Auipc rd immediate) = (rd < 32) × IsUpper immediate
IsInstr (Jal rd offset) = (rd < 32) × IsOffset 21 offset
IsInstr (Jalr rd rs1 offset) = (rd < 32) × (rs1 < 32) × IsSigned 12 offset
IsInstr (Branch kind rs1 rs2 offset) = (rs1 < 32) × (rs2 < 32) × IsOffset 13 offset
IsInstr (Load kind rd rs1 offset) = (rd < 32) × (rs1 < 32) × IsSigned 12 offset
IsInstr (Store kind rs1 rs2 offset) = (rs1 < 32) × (rs2 < 32) × IsSigned 12 offset
IsInstr (OpImm kind rd rs1 immediate) = (rd < 32) × (rs1 < 32) × IsSigned 12 immediate
IsInstr (ShiftImm kind rd rs1 amount) = (rd < 32) × (rs1 < 32) × (amount < 32)
IsInstr (Op kind rd rs1 rs2) = (rd < 32) × (rs1 < 32) × (rs2 < 32)
IsInstr Fence = Unit {0}
IsInstr Ecall = Unit {0}
IsInstr Ebreak = Unit {0}
