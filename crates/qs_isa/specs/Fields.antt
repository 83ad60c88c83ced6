-- The fields of an instruction's word (RISC-V Unprivileged ISA 20191213, sections 2.2 and 2.3).
use Rattle.std.specs.Prelude.{ℕ, ◌+◌, ◌*◌, ◌/◌, ◌%◌, ◌^◌}
use Rattle.qs_base.specs.Words.{sign_extend}

-- bits low to low + count - 1 of a word
abbrev pub bits : ℕ → ℕ → ℕ → ℕ
bits word low count = word / 2 ^ low % 2 ^ count

abbrev pub opcode : ℕ → ℕ
opcode word = bits word 0 7

abbrev pub rd : ℕ → ℕ
rd word = bits word 7 5

abbrev pub funct3 : ℕ → ℕ
funct3 word = bits word 12 3

abbrev pub rs1 : ℕ → ℕ
rs1 word = bits word 15 5

abbrev pub rs2 : ℕ → ℕ
rs2 word = bits word 20 5

abbrev pub funct7 : ℕ → ℕ
funct7 word = bits word 25 7

-- ---- the immediates, each a word with its sign extended

-- bits 31..20
abbrev pub i_immediate : ℕ → ℕ
i_immediate word = sign_extend 12 (bits word 20 12)

-- bits 31..25, then 11..7
abbrev pub s_immediate : ℕ → ℕ
s_immediate word = sign_extend 12 (bits word 25 7 * 2 ^ 5 + bits word 7 5)

-- bit 12 is bit 31, bit 11 is bit 7, bits 10..5 are bits 30..25, bits 4..1 are bits 11..8
abbrev pub b_immediate : ℕ → ℕ
b_immediate word = sign_extend 13 (bits word 31 1 * 2 ^ 12 + bits word 7 1 * 2 ^ 11 + bits word 25 6 * 2 ^ 5 + bits word 8 4 * 2 ^ 1)

-- bits 31..12, and the low 12 bits are 0
abbrev pub u_immediate : ℕ → ℕ
u_immediate word = bits word 12 20 * 2 ^ 12

-- bit 20 is bit 31, bits 19..12 are bits 19..12, bit 11 is bit 20, bits 10..1 are bits 30..21
abbrev pub j_immediate : ℕ → ℕ
j_immediate word = sign_extend 21 (bits word 31 1 * 2 ^ 20 + bits word 12 8 * 2 ^ 12 + bits word 20 1 * 2 ^ 11 + bits word 21 10 * 2 ^ 1)
