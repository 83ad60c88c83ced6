-- The table at each opcode.
use Rattle.std.proofs.Common.{◌≡◌, ◌≢◌, ℕ, Bool, true, false, cond, Option, Some, None, refl, ◌∙◌, ◌⊎◌, inl, inr}
use Rattle.std.specs.Prelude.{◌==◌, option_map}
use Rattle.std.proofs.lemmas.Bool.{ne_eqb}
use Rattle.std.proofs.lemmas.Bool.Decides.{nat_tests, eqb_tells}
use Rattle.qs_isa.specs.declared.instruction.Instr.TheVariants.{Lui, Auipc, Jal, Jalr, Branch, Load, Store, OpImm, ShiftImm, Op, Fence, Ecall, Ebreak}
use Rattle.qs_isa.specs.declared.instruction.OpImmKind.{OpImmKind}
use Rattle.qs_isa.specs.Fields.{opcode, rd, funct3, rs1, rs2, funct7, i_immediate, s_immediate, b_immediate, u_immediate, j_immediate}
use Rattle.qs_isa.specs.Table.{decode_of}
use Rattle.qs_isa.specs.Kinds.{branch_kind_of, load_kind_of, store_kind_of, op_imm_kind_of, shift_imm_kind_of, op_kind_of}

option_map-cond : {A B : Type 0} (f : A → B) (b : Bool) (x y : Option A) → option_map f (cond b x y) ≡ cond b (option_map f x) (option_map f y)
option_map-cond f true x y = refl
option_map-cond f false x y = refl

pub decode-lui : (w : ℕ) → opcode w ≡ 0b0110111 → decode_of w ≡ Some (Lui (rd w) (u_immediate w))
unfolding decode_of
decode-lui w e = rw e refl

pub decode-auipc : (w : ℕ) → opcode w ≡ 0b0010111 → decode_of w ≡ Some (Auipc (rd w) (u_immediate w))
unfolding decode_of
decode-auipc w e = rw e refl

pub decode-jal : (w : ℕ) → opcode w ≡ 0b1101111 → decode_of w ≡ Some (Jal (rd w) (j_immediate w))
unfolding decode_of
decode-jal w e = rw e refl

pub decode-jalr : (w : ℕ) → opcode w ≡ 0b1100111 → decode_of w ≡ cond (funct3 w == 0) (Some (Jalr (rd w) (rs1 w) (i_immediate w))) None
unfolding decode_of
decode-jalr w e = rw e refl

pub decode-branch : (w : ℕ) → opcode w ≡ 0b1100011 → decode_of w ≡ option_map (λ k. Branch k (rs1 w) (rs2 w) (b_immediate w)) (branch_kind_of (funct3 w))
unfolding decode_of
decode-branch w e = rw e (simp option_map-cond refl)

pub decode-load : (w : ℕ) → opcode w ≡ 0b0000011 → decode_of w ≡ option_map (λ k. Load k (rd w) (rs1 w) (i_immediate w)) (load_kind_of (funct3 w))
unfolding decode_of
decode-load w e = rw e (simp option_map-cond refl)

pub decode-store : (w : ℕ) → opcode w ≡ 0b0100011 → decode_of w ≡ option_map (λ k. Store k (rs1 w) (rs2 w) (s_immediate w)) (store_kind_of (funct3 w))
unfolding decode_of
decode-store w e = rw e (simp option_map-cond refl)

pub decode-fence : (w : ℕ) → opcode w ≡ 0b0001111 → decode_of w ≡ cond (funct3 w == 0) (Some Fence) None
unfolding decode_of
decode-fence w e = rw e refl

pub decode-system : (w : ℕ) → opcode w ≡ 0b1110011 → decode_of w ≡ cond (w == 0x00000073) (Some Ecall) (cond (w == 0x00100073) (Some Ebreak) None)
unfolding decode_of
decode-system w e = rw e refl

-- a test with what it tells
abbrev Told : ℕ → ℕ → Type 0
Told a b = ((a == b ≡ true) × (a ≡ b)) ⊎ ((a == b ≡ false) × (a ≢ b))

op_rows : (w : ℕ) → opcode w ≡ 0b0110011 → Told (funct7 w) 0 → Told (funct7 w) 32 → Told (funct7 w) 1 → decode_of w ≡ option_map (λ k. Op k (rd w) (rs1 w) (rs2 w)) (op_kind_of (funct7 w) (funct3 w))
unfolding decode_of
op_rows w e (inl y) _ _ = rw (e, y.1) (simp option_map-cond refl)
op_rows w e (inr n) (inl y) _ = rw (e, y.1) (simp option_map-cond refl)
op_rows w e (inr n) (inr m) (inl y) = rw (e, y.1) (simp option_map-cond refl)
op_rows w e (inr n) (inr m) (inr l) = rw (e, n.0, m.0, l.0) refl

pub decode-op : (w : ℕ) → opcode w ≡ 0b0110011 → decode_of w ≡ option_map (λ k. Op k (rd w) (rs1 w) (rs2 w)) (op_kind_of (funct7 w) (funct3 w))
decode-op w e = op_rows w e (eqb_tells (funct7 w) 0) (eqb_tells (funct7 w) 32) (eqb_tells (funct7 w) 1)

-- the first, or else the second
abbrev first_some : {A : Type 0} → Option A → Option A → Option A
first_some (Some x) o = Some x
first_some None o = o

first_some-cond : {A : Type 0} (b : Bool) (x y o : Option A) → first_some (cond b x y) o ≡ cond b (first_some x o) (first_some y o)
first_some-cond true x y o = refl
first_some-cond false x y o = refl

op_imm_rows : (w : ℕ) → opcode w ≡ 0b0010011 → Told (funct7 w) 0 → Told (funct7 w) 32 → decode_of w ≡ first_some (option_map (λ k. OpImm k (rd w) (rs1 w) (i_immediate w)) (op_imm_kind_of (funct3 w))) (option_map (λ k. ShiftImm k (rd w) (rs1 w) (rs2 w)) (shift_imm_kind_of (funct7 w) (funct3 w)))
unfolding decode_of
op_imm_rows w e (inl y) _ = rw (e, y.1) (simp (option_map-cond, first_some-cond) refl)
op_imm_rows w e (inr n) (inl y) = rw (e, y.1) (simp (option_map-cond, first_some-cond) refl)
op_imm_rows w e (inr n) (inr m) = rw (e, n.0, m.0) (simp (option_map-cond, first_some-cond) refl)

pub decode-op_imm : (w : ℕ) (k : OpImmKind) → opcode w ≡ 0b0010011 → op_imm_kind_of (funct3 w) ≡ Some k → decode_of w ≡ Some (OpImm k (rd w) (rs1 w) (i_immediate w))
decode-op_imm w k e h = op_imm_rows w e (eqb_tells (funct7 w) 0) (eqb_tells (funct7 w) 32) ∙ rw h refl

pub decode-shift_imm : (w : ℕ) → opcode w ≡ 0b0010011 → op_imm_kind_of (funct3 w) ≡ None → decode_of w ≡ option_map (λ k. ShiftImm k (rd w) (rs1 w) (rs2 w)) (shift_imm_kind_of (funct7 w) (funct3 w))
decode-shift_imm w e h = op_imm_rows w e (eqb_tells (funct7 w) 0) (eqb_tells (funct7 w) 32) ∙ rw h refl

-- no row has the opcode
pub decode-none : (w : ℕ) → opcode w ≢ 0b0110111 → opcode w ≢ 0b0010111 → opcode w ≢ 0b1101111 → opcode w ≢ 0b1100111 → opcode w ≢ 0b1100011 → opcode w ≢ 0b0000011 → opcode w ≢ 0b0100011 → opcode w ≢ 0b0010011 → opcode w ≢ 0b0110011 → opcode w ≢ 0b0001111 → opcode w ≢ 0b1110011 → decode_of w ≡ None
unfolding decode_of
decode-none w a b c d e f g h i j k =
    rw (ne_eqb (opcode w) 55 a, ne_eqb (opcode w) 23 b, ne_eqb (opcode w) 111 c, ne_eqb (opcode w) 103 d, ne_eqb (opcode w) 99 e, ne_eqb (opcode w) 3 f, ne_eqb (opcode w) 35 g, ne_eqb (opcode w) 19 h, ne_eqb (opcode w) 51 i, ne_eqb (opcode w) 15 j, ne_eqb (opcode w) 115 k) refl

-- the table at each opcode, for the search
pub ruleset by_opcode = (nat_tests, decode-lui, decode-auipc, decode-jal, decode-jalr, decode-branch, decode-load, decode-store, decode-op_imm, decode-shift_imm, decode-op, decode-fence, decode-system, decode-none)
