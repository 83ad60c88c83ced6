-- The kinds within an opcode, by their funct3 and funct7 (RISC-V Unprivileged ISA 20191213, chapter 24).
use Rattle.std.specs.Prelude.{ℕ, ◌==◌, if◌then◌else◌, Option, Some, None}
use Rattle.qs_isa.specs.declared.instruction.BranchKind.{BranchKind}
use Rattle.qs_isa.specs.declared.instruction.BranchKind.TheVariants.{Beq, Bne, Blt, Bge, Bltu, Bgeu}
use Rattle.qs_isa.specs.declared.instruction.LoadKind.{LoadKind}
use Rattle.qs_isa.specs.declared.instruction.LoadKind.TheVariants.{Lb, Lh, Lw, Lbu, Lhu}
use Rattle.qs_isa.specs.declared.instruction.StoreKind.{StoreKind}
use Rattle.qs_isa.specs.declared.instruction.StoreKind.TheVariants.{Sb, Sh, Sw}
use Rattle.qs_isa.specs.declared.instruction.OpImmKind.{OpImmKind}
use Rattle.qs_isa.specs.declared.instruction.OpImmKind.TheVariants.{Addi, Slti, Sltiu, Xori, Ori, Andi}
use Rattle.qs_isa.specs.declared.instruction.ShiftImmKind.{ShiftImmKind}
use Rattle.qs_isa.specs.declared.instruction.ShiftImmKind.TheVariants.{Slli, Srli, Srai}
use Rattle.qs_isa.specs.declared.instruction.OpKind.{OpKind}
use Rattle.qs_isa.specs.declared.instruction.OpKind.TheVariants.{Add, Sub, Sll, Slt, Sltu, Xor, Srl, Sra, Or, And, Mul, Mulh, Mulhsu, Mulhu, Div, Divu, Rem, Remu}

abbrev pub branch_kind_of : ℕ → Option BranchKind
branch_kind_of funct3 =
    if funct3 == 0b000 then Some Beq
    else (if funct3 == 0b001 then Some Bne
    else (if funct3 == 0b100 then Some Blt
    else (if funct3 == 0b101 then Some Bge
    else (if funct3 == 0b110 then Some Bltu
    else (if funct3 == 0b111 then Some Bgeu
    else None)))))

abbrev pub load_kind_of : ℕ → Option LoadKind
load_kind_of funct3 =
    if funct3 == 0b000 then Some Lb
    else (if funct3 == 0b001 then Some Lh
    else (if funct3 == 0b010 then Some Lw
    else (if funct3 == 0b100 then Some Lbu
    else (if funct3 == 0b101 then Some Lhu
    else None))))

abbrev pub store_kind_of : ℕ → Option StoreKind
store_kind_of funct3 =
    if funct3 == 0b000 then Some Sb
    else (if funct3 == 0b001 then Some Sh
    else (if funct3 == 0b010 then Some Sw
    else None))

abbrev pub op_imm_kind_of : ℕ → Option OpImmKind
op_imm_kind_of funct3 =
    if funct3 == 0b000 then Some Addi
    else (if funct3 == 0b010 then Some Slti
    else (if funct3 == 0b011 then Some Sltiu
    else (if funct3 == 0b100 then Some Xori
    else (if funct3 == 0b110 then Some Ori
    else (if funct3 == 0b111 then Some Andi
    else None)))))

abbrev pub shift_imm_kind_of : ℕ → ℕ → Option ShiftImmKind
shift_imm_kind_of funct7 funct3 =
    if funct7 == 0b0000000 then (if funct3 == 0b001 then Some Slli else (if funct3 == 0b101 then Some Srli else None))
    else (if funct7 == 0b0100000 then (if funct3 == 0b101 then Some Srai else None)
    else None)

-- funct7 is 0000000
abbrev pub plain_kind_of : ℕ → Option OpKind
plain_kind_of funct3 =
    if funct3 == 0b000 then Some Add
    else (if funct3 == 0b001 then Some Sll
    else (if funct3 == 0b010 then Some Slt
    else (if funct3 == 0b011 then Some Sltu
    else (if funct3 == 0b100 then Some Xor
    else (if funct3 == 0b101 then Some Srl
    else (if funct3 == 0b110 then Some Or
    else (if funct3 == 0b111 then Some And
    else None)))))))

-- funct7 is 0100000
abbrev pub marked_kind_of : ℕ → Option OpKind
marked_kind_of funct3 =
    if funct3 == 0b000 then Some Sub
    else (if funct3 == 0b101 then Some Sra
    else None)

-- funct7 is 0000001
abbrev pub multiply_kind_of : ℕ → Option OpKind
multiply_kind_of funct3 =
    if funct3 == 0b000 then Some Mul
    else (if funct3 == 0b001 then Some Mulh
    else (if funct3 == 0b010 then Some Mulhsu
    else (if funct3 == 0b011 then Some Mulhu
    else (if funct3 == 0b100 then Some Div
    else (if funct3 == 0b101 then Some Divu
    else (if funct3 == 0b110 then Some Rem
    else (if funct3 == 0b111 then Some Remu
    else None)))))))

abbrev pub op_kind_of : ℕ → ℕ → Option OpKind
op_kind_of funct7 funct3 =
    if funct7 == 0b0000000 then plain_kind_of funct3
    else (if funct7 == 0b0100000 then marked_kind_of funct3
    else (if funct7 == 0b0000001 then multiply_kind_of funct3
    else None))
