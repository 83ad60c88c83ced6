-- The instructions of RV32I and of RV32M, a row for each in the order of the listings
-- (RISC-V Unprivileged ISA 20191213, chapter 24). Every other word is no instruction.
use Rattle.std.specs.Prelude.{ℕ, Bool, ◌&&◌, ◌==◌, if◌then◌else◌, Option, Some, None, List, [], ◌∷◌}
use Rattle.qs_isa.specs.declared.instruction.Instr.{Instr}
use Rattle.qs_isa.specs.declared.instruction.Instr.TheVariants.{Lui, Auipc, Jal, Jalr, Branch, Load, Store, OpImm, ShiftImm, Op, Fence, Ecall, Ebreak}
use Rattle.qs_isa.specs.declared.instruction.BranchKind.TheVariants.{Beq, Bne, Blt, Bge, Bltu, Bgeu}
use Rattle.qs_isa.specs.declared.instruction.LoadKind.TheVariants.{Lb, Lh, Lw, Lbu, Lhu}
use Rattle.qs_isa.specs.declared.instruction.StoreKind.TheVariants.{Sb, Sh, Sw}
use Rattle.qs_isa.specs.declared.instruction.OpImmKind.TheVariants.{Addi, Slti, Sltiu, Xori, Ori, Andi}
use Rattle.qs_isa.specs.declared.instruction.ShiftImmKind.TheVariants.{Slli, Srli, Srai}
use Rattle.qs_isa.specs.declared.instruction.OpKind.TheVariants.{Add, Sub, Sll, Slt, Sltu, Xor, Srl, Sra, Or, And, Mul, Mulh, Mulhsu, Mulhu, Div, Divu, Rem, Remu}
use Rattle.qs_isa.specs.Fields.{opcode, rd, funct3, rs1, rs2, funct7, i_immediate, s_immediate, b_immediate, u_immediate, j_immediate}

-- a row of the listing: the words that have its fixed fields, and the instruction that such a word is
pub record Row : Type 0 where
  pub fits : ℕ → Bool
  pub instruction : ℕ → Instr

-- ---- the formats (section 2.2): each row gives the fields that are fixed

-- funct7, rs2, rs1, funct3, rd, opcode
abbrev pub r_type : ℕ → ℕ → ℕ → (ℕ → ℕ → ℕ → Instr) → Row
r_type f7 f3 op make = record { fits = λ w. (opcode w == op) && (funct7 w == f7) && (funct3 w == f3); instruction = λ w. make (rd w) (rs1 w) (rs2 w) }

-- imm[11:0], rs1, funct3, rd, opcode
abbrev pub i_type : ℕ → ℕ → (ℕ → ℕ → ℕ → Instr) → Row
i_type f3 op make = record { fits = λ w. (opcode w == op) && (funct3 w == f3); instruction = λ w. make (rd w) (rs1 w) (i_immediate w) }

-- funct7, shamt, rs1, funct3, rd, opcode: the amount stands where rs2 does
abbrev pub shift_type : ℕ → ℕ → ℕ → (ℕ → ℕ → ℕ → Instr) → Row
shift_type f7 f3 op make = r_type f7 f3 op make

-- imm[11:5], rs2, rs1, funct3, imm[4:0], opcode
abbrev pub s_type : ℕ → ℕ → (ℕ → ℕ → ℕ → Instr) → Row
s_type f3 op make = record { fits = λ w. (opcode w == op) && (funct3 w == f3); instruction = λ w. make (rs1 w) (rs2 w) (s_immediate w) }

-- imm[12|10:5], rs2, rs1, funct3, imm[4:1|11], opcode
abbrev pub b_type : ℕ → ℕ → (ℕ → ℕ → ℕ → Instr) → Row
b_type f3 op make = record { fits = λ w. (opcode w == op) && (funct3 w == f3); instruction = λ w. make (rs1 w) (rs2 w) (b_immediate w) }

-- imm[31:12], rd, opcode
abbrev pub u_type : ℕ → (ℕ → ℕ → Instr) → Row
u_type op make = record { fits = λ w. opcode w == op; instruction = λ w. make (rd w) (u_immediate w) }

-- imm[20|10:1|11|19:12], rd, opcode
abbrev pub j_type : ℕ → (ℕ → ℕ → Instr) → Row
j_type op make = record { fits = λ w. opcode w == op; instruction = λ w. make (rd w) (j_immediate w) }

-- funct3 and opcode alone: the other fields are ignored (section 2.7)
abbrev pub fence_type : ℕ → ℕ → Instr → Row
fence_type f3 op i = record { fits = λ w. (opcode w == op) && (funct3 w == f3); instruction = λ w. i }

-- the whole word is fixed, its opcode with it
abbrev pub whole_word : ℕ → ℕ → Instr → Row
whole_word word op i = record { fits = λ w. (opcode w == op) && (w == word); instruction = λ w. i }

-- ---- the table

abbrev pub table : List Row
table =
    -- RV32I Base Instruction Set
    -- funct7, funct3, opcode
    u_type 0b0110111 Lui ∷
    u_type 0b0010111 Auipc ∷
    j_type 0b1101111 Jal ∷
    i_type 0b000 0b1100111 Jalr ∷
    b_type 0b000 0b1100011 (Branch Beq) ∷
    b_type 0b001 0b1100011 (Branch Bne) ∷
    b_type 0b100 0b1100011 (Branch Blt) ∷
    b_type 0b101 0b1100011 (Branch Bge) ∷
    b_type 0b110 0b1100011 (Branch Bltu) ∷
    b_type 0b111 0b1100011 (Branch Bgeu) ∷
    i_type 0b000 0b0000011 (Load Lb) ∷
    i_type 0b001 0b0000011 (Load Lh) ∷
    i_type 0b010 0b0000011 (Load Lw) ∷
    i_type 0b100 0b0000011 (Load Lbu) ∷
    i_type 0b101 0b0000011 (Load Lhu) ∷
    s_type 0b000 0b0100011 (Store Sb) ∷
    s_type 0b001 0b0100011 (Store Sh) ∷
    s_type 0b010 0b0100011 (Store Sw) ∷
    i_type 0b000 0b0010011 (OpImm Addi) ∷
    i_type 0b010 0b0010011 (OpImm Slti) ∷
    i_type 0b011 0b0010011 (OpImm Sltiu) ∷
    i_type 0b100 0b0010011 (OpImm Xori) ∷
    i_type 0b110 0b0010011 (OpImm Ori) ∷
    i_type 0b111 0b0010011 (OpImm Andi) ∷
    shift_type 0b0000000 0b001 0b0010011 (ShiftImm Slli) ∷
    shift_type 0b0000000 0b101 0b0010011 (ShiftImm Srli) ∷
    shift_type 0b0100000 0b101 0b0010011 (ShiftImm Srai) ∷
    r_type 0b0000000 0b000 0b0110011 (Op Add) ∷
    r_type 0b0100000 0b000 0b0110011 (Op Sub) ∷
    r_type 0b0000000 0b001 0b0110011 (Op Sll) ∷
    r_type 0b0000000 0b010 0b0110011 (Op Slt) ∷
    r_type 0b0000000 0b011 0b0110011 (Op Sltu) ∷
    r_type 0b0000000 0b100 0b0110011 (Op Xor) ∷
    r_type 0b0000000 0b101 0b0110011 (Op Srl) ∷
    r_type 0b0100000 0b101 0b0110011 (Op Sra) ∷
    r_type 0b0000000 0b110 0b0110011 (Op Or) ∷
    r_type 0b0000000 0b111 0b0110011 (Op And) ∷
    fence_type 0b000 0b0001111 Fence ∷
    whole_word 0x00000073 0b1110011 Ecall ∷
    whole_word 0x00100073 0b1110011 Ebreak ∷
    -- RV32M Standard Extension
    r_type 0b0000001 0b000 0b0110011 (Op Mul) ∷
    r_type 0b0000001 0b001 0b0110011 (Op Mulh) ∷
    r_type 0b0000001 0b010 0b0110011 (Op Mulhsu) ∷
    r_type 0b0000001 0b011 0b0110011 (Op Mulhu) ∷
    r_type 0b0000001 0b100 0b0110011 (Op Div) ∷
    r_type 0b0000001 0b101 0b0110011 (Op Divu) ∷
    r_type 0b0000001 0b110 0b0110011 (Op Rem) ∷
    r_type 0b0000001 0b111 0b0110011 (Op Remu) ∷
    []

-- the instruction of the first row that fits the word
abbrev pub look_up : List Row → ℕ → Option Instr
look_up [] w = None
look_up (row ∷ rows) w = if row.fits w then Some (row.instruction w) else look_up rows w

-- the instruction that a word is
unfoldable pub decode_of : ℕ → Option Instr
decode_of w = look_up table w
