-- Each instruction is what its word decodes to.
use Rattle.std.proofs.Common.{◌≡◌, ℕ, ◌+◌, ◌*◌, ◌%◌, ◌^◌, ◌<◌, Some, None, refl, ap, ◌∙◌, arith}
use Rattle.std.proofs.lemmas.Bool.Decides.{nat_tests}
use Rattle.qs_base.specs.Words.{sign_extend}
use Rattle.qs_isa.specs.declared.instruction.Instr.{Instr}
use Rattle.qs_isa.specs.declared.instruction.Instr.TheVariants.{Lui, Auipc, Jal, Jalr, Branch, Load, Store, OpImm, ShiftImm, Op, Fence, Ecall, Ebreak}
use Rattle.qs_isa.specs.declared.instruction.BranchKind.{BranchKind}
use Rattle.qs_isa.specs.declared.instruction.BranchKind.TheVariants.{Beq, Bne, Blt, Bge, Bltu, Bgeu}
use Rattle.qs_isa.specs.declared.instruction.LoadKind.{LoadKind}
use Rattle.qs_isa.specs.declared.instruction.LoadKind.TheVariants.{Lb, Lh, Lw, Lbu, Lhu}
use Rattle.qs_isa.specs.declared.instruction.StoreKind.{StoreKind}
use Rattle.qs_isa.specs.declared.instruction.StoreKind.TheVariants.{Sb, Sh, Sw}
use Rattle.qs_isa.specs.declared.instruction.OpImmKind.{OpImmKind}
use Rattle.qs_isa.specs.declared.instruction.OpImmKind.TheVariants.{Addi, Slti, Sltiu, Xori, Ori, Andi}
use Rattle.qs_isa.specs.declared.instruction.ShiftImmKind.{ShiftImmKind}
use Rattle.qs_isa.specs.declared.instruction.ShiftImmKind.TheVariants.{Slli, Srli, Srai}
use Rattle.qs_isa.specs.declared.instruction.OpKind.{OpKind}
use Rattle.qs_isa.specs.declared.instruction.OpKind.TheVariants.{Add, Sub, Sll, Slt, Sltu, Xor, Srl, Sra, Or, And, Mul, Mulh, Mulhsu, Mulhu, Div, Divu, Rem, Remu}
use Rattle.qs_isa.specs.Ranges.{IsSigned, IsOffset, IsUpper}
use Rattle.qs_isa.specs.Fields.{bits, opcode, rd, funct3, rs1, rs2, funct7, i_immediate, s_immediate, b_immediate, u_immediate, j_immediate}
use Rattle.qs_isa.specs.Table.{decode_of}
use Rattle.qs_isa.specs.Kinds.{branch_kind_of, load_kind_of, store_kind_of, op_imm_kind_of, shift_imm_kind_of, op_kind_of}
use Rattle.qs_isa.specs.Encoding.{branch_funct3, load_funct3, store_funct3, op_imm_funct3, shift_imm_funct3, shift_imm_funct7, op_funct3, op_funct7, r_word, i_word, s_word, b_word, u_word, j_word, encode_of, IsInstr}
use Rattle.qs_isa.proofs.ByOpcode.{decode-lui, decode-auipc, decode-jal, decode-jalr, decode-branch, decode-load, decode-store, decode-op_imm, decode-shift_imm, decode-op}

-- ---- the fields of a word made of fields

pub record Fields (w f7 b a f3 d op : ℕ) : Type 0 where
  pub op_is : opcode w ≡ op
  pub f7_is : funct7 w ≡ f7
  pub f3_is : funct3 w ≡ f3
  pub rs2_is : rs2 w ≡ b
  pub rs1_is : rs1 w ≡ a
  pub rd_is : rd w ≡ d

pub r_word-fields : (f7 b a f3 d op : ℕ) → f7 < 128 → b < 32 → a < 32 → f3 < 8 → d < 32 → op < 128 → Fields (r_word f7 b a f3 d op) f7 b a f3 d op
r_word-fields f7 b a f3 d op h7 hb ha h3 hd ho = record { op_is = omega arith; f7_is = omega arith; f3_is = omega arith; rs2_is = omega arith; rs1_is = omega arith; rd_is = omega arith }

-- ---- immediates

sign_back-12 : (i : ℕ) → IsSigned 12 i → sign_extend 12 (i % 2 ^ 12) ≡ i
sign_back-12 i h = grind (arith, nat_tests)

sign_back-13 : (i : ℕ) → IsOffset 13 i → sign_extend 13 (i % 2 ^ 13) ≡ i
sign_back-13 i h = grind (arith, nat_tests)

sign_back-21 : (i : ℕ) → IsOffset 21 i → sign_extend 21 (i % 2 ^ 21) ≡ i
sign_back-21 i h = grind (arith, nat_tests)

i_back : (w i : ℕ) → funct7 w ≡ bits i 5 7 → rs2 w ≡ bits i 0 5 → IsSigned 12 i → i_immediate w ≡ i
i_back w i high low h =
    let e : bits w 20 12 ≡ i % 2 ^ 12 = omega arith in
    ap (sign_extend 12) e ∙ sign_back-12 i h

s_back : (w i : ℕ) → funct7 w ≡ bits i 5 7 → rd w ≡ bits i 0 5 → IsSigned 12 i → s_immediate w ≡ i
s_back w i high low h =
    let e : bits w 25 7 * 2 ^ 5 + bits w 7 5 ≡ i % 2 ^ 12 = omega arith in
    ap (sign_extend 12) e ∙ sign_back-12 i h

b_back : (w i : ℕ) → funct7 w ≡ bits i 12 1 * 2 ^ 6 + bits i 5 6 → rd w ≡ bits i 1 4 * 2 ^ 1 + bits i 11 1 → IsOffset 13 i → b_immediate w ≡ i
b_back w i high low h =
    let even : i % 2 ≡ 0 = h.2 in
    let top : bits w 31 1 ≡ bits i 12 1 = omega arith in
    let middle : bits w 25 6 ≡ bits i 5 6 = omega arith in
    let eleventh : bits w 7 1 ≡ bits i 11 1 = omega arith in
    let four : bits w 8 4 ≡ bits i 1 4 = omega arith in
    let parts : bits i 12 1 * 2 ^ 12 + bits i 11 1 * 2 ^ 11 + bits i 5 6 * 2 ^ 5 + bits i 1 4 * 2 ^ 1 ≡ i % 2 ^ 13 = omega arith in
    rw (top, middle, eleventh, four, parts) (sign_back-13 i h)

-- ---- the kinds

pub branch_back : (k : BranchKind) → (branch_funct3 k < 8) × (branch_kind_of (branch_funct3 k) ≡ Some k)
branch_back Beq = (omega arith, refl)
branch_back Bne = (omega arith, refl)
branch_back Blt = (omega arith, refl)
branch_back Bge = (omega arith, refl)
branch_back Bltu = (omega arith, refl)
branch_back Bgeu = (omega arith, refl)

pub load_back : (k : LoadKind) → (load_funct3 k < 8) × (load_kind_of (load_funct3 k) ≡ Some k)
load_back Lb = (omega arith, refl)
load_back Lh = (omega arith, refl)
load_back Lw = (omega arith, refl)
load_back Lbu = (omega arith, refl)
load_back Lhu = (omega arith, refl)

pub store_back : (k : StoreKind) → (store_funct3 k < 8) × (store_kind_of (store_funct3 k) ≡ Some k)
store_back Sb = (omega arith, refl)
store_back Sh = (omega arith, refl)
store_back Sw = (omega arith, refl)

pub op_imm_back : (k : OpImmKind) → (op_imm_funct3 k < 8) × (op_imm_kind_of (op_imm_funct3 k) ≡ Some k)
op_imm_back Addi = (omega arith, refl)
op_imm_back Slti = (omega arith, refl)
op_imm_back Sltiu = (omega arith, refl)
op_imm_back Xori = (omega arith, refl)
op_imm_back Ori = (omega arith, refl)
op_imm_back Andi = (omega arith, refl)

pub shift_imm_back : (k : ShiftImmKind) → (shift_imm_funct7 k < 128) × (shift_imm_funct3 k < 8) × (op_imm_kind_of (shift_imm_funct3 k) ≡ None) × (shift_imm_kind_of (shift_imm_funct7 k) (shift_imm_funct3 k) ≡ Some k)
shift_imm_back Slli = (omega arith, omega arith, refl, refl)
shift_imm_back Srli = (omega arith, omega arith, refl, refl)
shift_imm_back Srai = (omega arith, omega arith, refl, refl)

pub op_back : (k : OpKind) → (op_funct7 k < 128) × (op_funct3 k < 8) × (op_kind_of (op_funct7 k) (op_funct3 k) ≡ Some k)
op_back Add = (omega arith, omega arith, refl)
op_back Sub = (omega arith, omega arith, refl)
op_back Sll = (omega arith, omega arith, refl)
op_back Slt = (omega arith, omega arith, refl)
op_back Sltu = (omega arith, omega arith, refl)
op_back Xor = (omega arith, omega arith, refl)
op_back Srl = (omega arith, omega arith, refl)
op_back Sra = (omega arith, omega arith, refl)
op_back Or = (omega arith, omega arith, refl)
op_back And = (omega arith, omega arith, refl)
op_back Mul = (omega arith, omega arith, refl)
op_back Mulh = (omega arith, omega arith, refl)
op_back Mulhsu = (omega arith, omega arith, refl)
op_back Mulhu = (omega arith, omega arith, refl)
op_back Div = (omega arith, omega arith, refl)
op_back Divu = (omega arith, omega arith, refl)
op_back Rem = (omega arith, omega arith, refl)
op_back Remu = (omega arith, omega arith, refl)

-- ---- the instructions

u_fields : (i d op : ℕ) → IsUpper i → d < 32 → op < 128 → let w = u_word i d op in (opcode w ≡ op) × (rd w ≡ d) × (u_immediate w ≡ i)
u_fields i d op h hd ho =
    let low : i % 2 ^ 12 ≡ 0 = h.1 in
    let fits : i < 2 ^ 32 = h.0 in
    (omega arith, omega arith, omega arith)

j_fields : (i d op : ℕ) → IsOffset 21 i → d < 32 → op < 128 → let w = j_word i d op in (opcode w ≡ op) × (rd w ≡ d) × (j_immediate w ≡ i)
j_fields i d op h hd ho =
    let even : i % 2 ≡ 0 = h.2 in
    let w = j_word i d op in
    let top : bits w 31 1 ≡ bits i 20 1 = omega arith in
    let ten : bits w 21 10 ≡ bits i 1 10 = omega arith in
    let eleventh : bits w 20 1 ≡ bits i 11 1 = omega arith in
    let eight : bits w 12 8 ≡ bits i 12 8 = omega arith in
    let parts : bits i 20 1 * 2 ^ 20 + bits i 12 8 * 2 ^ 12 + bits i 11 1 * 2 ^ 11 + bits i 1 10 * 2 ^ 1 ≡ i % 2 ^ 21 = omega arith in
    (omega arith, omega arith, rw (top, ten, eleventh, eight, parts) (sign_back-21 i h))

lui_round : (d i : ℕ) → d < 32 → IsUpper i → decode_of (u_word i d 0b0110111) ≡ Some (Lui d i)
lui_round d i hd hi =
    let f = u_fields i d 0b0110111 hi hd (omega arith) in
    decode-lui _ f.0 ∙ rw (f.1, f.2) refl

auipc_round : (d i : ℕ) → d < 32 → IsUpper i → decode_of (u_word i d 0b0010111) ≡ Some (Auipc d i)
auipc_round d i hd hi =
    let f = u_fields i d 0b0010111 hi hd (omega arith) in
    decode-auipc _ f.0 ∙ rw (f.1, f.2) refl

jal_round : (d i : ℕ) → d < 32 → IsOffset 21 i → decode_of (j_word i d 0b1101111) ≡ Some (Jal d i)
jal_round d i hd hi =
    let f = j_fields i d 0b1101111 hi hd (omega arith) in
    decode-jal _ f.0 ∙ rw (f.1, f.2) refl

i_fields : (i a f3 d op : ℕ) → IsSigned 12 i → a < 32 → f3 < 8 → d < 32 → op < 128 → let w = i_word i a f3 d op in (opcode w ≡ op) × (funct3 w ≡ f3) × (rs1 w ≡ a) × (rd w ≡ d) × (i_immediate w ≡ i)
i_fields i a f3 d op hi ha h3 hd ho =
    let f = r_word-fields (bits i 5 7) (bits i 0 5) a f3 d op (omega arith) (omega arith) ha h3 hd ho in
    (f.op_is, f.f3_is, f.rs1_is, f.rd_is, i_back _ i f.f7_is f.rs2_is hi)

jalr_round : (d a i : ℕ) → d < 32 → a < 32 → IsSigned 12 i → decode_of (i_word i a 0 d 0b1100111) ≡ Some (Jalr d a i)
jalr_round d a i hd ha hi =
    let f = i_fields i a 0 d 0b1100111 hi ha (omega arith) hd (omega arith) in
    decode-jalr _ f.0 ∙ rw (f.1, f.2, f.3, f.4) refl

load_round : (k : LoadKind) (d a i : ℕ) → d < 32 → a < 32 → IsSigned 12 i → decode_of (i_word i a (load_funct3 k) d 0b0000011) ≡ Some (Load k d a i)
load_round k d a i hd ha hi =
    let f = i_fields i a (load_funct3 k) d 0b0000011 hi ha (load_back k).0 hd (omega arith) in
    decode-load _ f.0 ∙ rw (f.1, f.2, f.3, f.4, (load_back k).1) refl

op_imm_round : (k : OpImmKind) (d a i : ℕ) → d < 32 → a < 32 → IsSigned 12 i → decode_of (i_word i a (op_imm_funct3 k) d 0b0010011) ≡ Some (OpImm k d a i)
op_imm_round k d a i hd ha hi =
    let f = i_fields i a (op_imm_funct3 k) d 0b0010011 hi ha (op_imm_back k).0 hd (omega arith) in
    decode-op_imm _ k f.0 (rw f.1 (op_imm_back k).1) ∙ rw (f.2, f.3, f.4) refl

shift_imm_round : (k : ShiftImmKind) (d a s : ℕ) → d < 32 → a < 32 → s < 32 → decode_of (r_word (shift_imm_funct7 k) s a (shift_imm_funct3 k) d 0b0010011) ≡ Some (ShiftImm k d a s)
shift_imm_round k d a s hd ha hs =
    let b = shift_imm_back k in
    let f = r_word-fields (shift_imm_funct7 k) s a (shift_imm_funct3 k) d 0b0010011 b.0 hs ha b.1 hd (omega arith) in
    decode-shift_imm _ f.op_is (rw f.f3_is b.2) ∙ rw (f.f7_is, f.f3_is, f.rs2_is, f.rs1_is, f.rd_is, b.3) refl

op_round : (k : OpKind) (d a b : ℕ) → d < 32 → a < 32 → b < 32 → decode_of (r_word (op_funct7 k) b a (op_funct3 k) d 0b0110011) ≡ Some (Op k d a b)
op_round k d a b hd ha hb =
    let t = op_back k in
    let f = r_word-fields (op_funct7 k) b a (op_funct3 k) d 0b0110011 t.0 hb ha t.1 hd (omega arith) in
    decode-op _ f.op_is ∙ rw (f.f7_is, f.f3_is, f.rs2_is, f.rs1_is, f.rd_is, t.2) refl

store_round : (k : StoreKind) (a b i : ℕ) → a < 32 → b < 32 → IsSigned 12 i → decode_of (s_word i b a (store_funct3 k) 0b0100011) ≡ Some (Store k a b i)
store_round k a b i ha hb hi =
    let f = r_word-fields (bits i 5 7) b a (store_funct3 k) (bits i 0 5) 0b0100011 (omega arith) hb ha (store_back k).0 (omega arith) (omega arith) in
    decode-store _ f.op_is ∙ rw (f.f3_is, f.rs2_is, f.rs1_is, s_back _ i f.f7_is f.rd_is hi, (store_back k).1) refl

branch_round : (k : BranchKind) (a b i : ℕ) → a < 32 → b < 32 → IsOffset 13 i → decode_of (b_word i b a (branch_funct3 k) 0b1100011) ≡ Some (Branch k a b i)
branch_round k a b i ha hb hi =
    let f = r_word-fields (bits i 12 1 * 2 ^ 6 + bits i 5 6) b a (branch_funct3 k) (bits i 1 4 * 2 ^ 1 + bits i 11 1) 0b1100011 (omega arith) hb ha (branch_back k).0 (omega arith) (omega arith) in
    decode-branch _ f.op_is ∙ rw (f.f3_is, f.rs2_is, f.rs1_is, b_back _ i f.f7_is f.rd_is hi, (branch_back k).1) refl

-- the word of an instruction decodes to it
pub decode-encode : (i : Instr) → IsInstr i → decode_of (encode_of i) ≡ Some i
unfolding decode_of encode_of
decode-encode (Lui d i) h = lui_round d i h.0 h.1
decode-encode (Auipc d i) h = auipc_round d i h.0 h.1
decode-encode (Jal d i) h = jal_round d i h.0 h.1
decode-encode (Jalr d a i) h = jalr_round d a i h.0 h.1 h.2
decode-encode (Branch k a b i) h = branch_round k a b i h.0 h.1 h.2
decode-encode (Load k d a i) h = load_round k d a i h.0 h.1 h.2
decode-encode (Store k a b i) h = store_round k a b i h.0 h.1 h.2
decode-encode (OpImm k d a i) h = op_imm_round k d a i h.0 h.1 h.2
decode-encode (ShiftImm k d a s) h = shift_imm_round k d a s h.0 h.1 h.2
decode-encode (Op k d a b) h = op_round k d a b h.0 h.1 h.2
decode-encode Fence h = refl
decode-encode Ecall h = refl
decode-encode Ebreak h = refl

-- the same, for the search
pub ruleset round_trip = (decode-encode)
