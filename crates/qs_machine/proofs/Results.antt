-- What instructions write is a word, and where is a register.
use Rattle.std.proofs.Common.{◌≡◌, ℕ, ◌+◌, ◌-◌, ◌*◌, ◌/◌, ◌%◌, ◌^◌, ◌<◌, ◌≤◌, Bool, true, false, List, [], ◌∷◌, Some, subst, arith}
use Rattle.std.specs.Prelude.{if◌then◌else◌, ◌==◌, nat_lt, int_lt, pos, ◌*ℤ◌}
use Rattle.std.specs.Int.{int_div_euclid}
use Rattle.std.proofs.Math.Nat.{mul-le-mul_right}
use Rattle.qs_base.specs.Words.{signed, mulhu, sign_extend}
use Rattle.qs_base.proofs.WordLaws.{wrap-below, add-below, sub-below, and-below, or-below, xor-below, sll-below, srl-below, sra-below, mul-below, div-below, rem-below, divu-below, remu-below}
use Rattle.qs_isa.specs.declared.instruction.Instr.{Instr}
use Rattle.qs_isa.specs.declared.instruction.Instr.TheVariants.{Lui, Auipc, Jal, Jalr, Branch, Load, Store, OpImm, ShiftImm, Op, Fence, Ecall, Ebreak}
use Rattle.qs_isa.specs.declared.instruction.LoadKind.{LoadKind}
use Rattle.qs_isa.specs.declared.instruction.LoadKind.TheVariants.{Lb, Lh, Lw, Lbu, Lhu}
use Rattle.qs_isa.specs.declared.instruction.StoreKind.{StoreKind}
use Rattle.qs_isa.specs.declared.instruction.StoreKind.TheVariants.{Sb, Sh, Sw}
use Rattle.qs_isa.specs.declared.instruction.OpImmKind.{OpImmKind}
use Rattle.qs_isa.specs.declared.instruction.OpImmKind.TheVariants.{Addi, Slti, Sltiu, Xori, Ori, Andi}
use Rattle.qs_isa.specs.declared.instruction.ShiftImmKind.{ShiftImmKind}
use Rattle.qs_isa.specs.declared.instruction.ShiftImmKind.TheVariants.{Slli, Srli, Srai}
use Rattle.qs_isa.specs.declared.instruction.OpKind.{OpKind}
use Rattle.qs_isa.specs.declared.instruction.OpKind.TheVariants.{Add, Sub, Sll, Slt, Sltu, Xor, Srl, Sra, Or, And, Mul, Mulh, Mulhsu, Mulhu, Div, Divu, Rem, Remu}
use Rattle.qs_isa.specs.Fields.{bits, rd, i_immediate, u_immediate}
use Rattle.qs_isa.specs.Table.{Row, table, look_up, decode_of}
use Rattle.qs_machine.specs.State.{load_2, store_1, store_2}
use Rattle.qs_machine.specs.Step.{op_imm_result, shift_result, op_result, loaded, stored}

pub chosen : (b : Bool) (x y k : ℕ) → x < k → y < k → (if b then x else y) < k
chosen true x y k h g = h
chosen false x y k h g = g

-- ---- what is decoded

-- its destination is a register, and what it writes or computes with is a word
abbrev pub IsWithin : Instr → Type 0
IsWithin (Lui d immediate) = (d < 32) × (immediate < 2 ^ 32)
IsWithin (Auipc d immediate) = d < 32
IsWithin (Jal d offset) = d < 32
IsWithin (Jalr d a offset) = d < 32
IsWithin (Branch kind a b offset) = Unit {0}
IsWithin (Load kind d a offset) = d < 32
IsWithin (Store kind a b offset) = Unit {0}
IsWithin (OpImm kind d a immediate) = (d < 32) × (immediate < 2 ^ 32)
IsWithin (ShiftImm kind d a amount) = d < 32
IsWithin (Op kind d a b) = d < 32
IsWithin Fence = Unit {0}
IsWithin Ecall = Unit {0}
IsWithin Ebreak = Unit {0}

abbrev AreWithin : List Row → Type 0
AreWithin [] = Unit {0}
AreWithin (row ∷ rows) = ((w : ℕ) → IsWithin (row.instruction w)) × AreWithin rows

rd_small : (w : ℕ) → rd w < 32
rd_small w = omega arith

u_small : (w : ℕ) → u_immediate w < 2 ^ 32
u_small w = omega arith

i_small : (w : ℕ) → i_immediate w < 2 ^ 32
i_small w = chosen (nat_lt (bits w 20 12) (2 ^ (12 - 1))) (bits w 20 12) (2 ^ 32 - 2 ^ 12 + bits w 20 12) (2 ^ 32) (omega arith) (omega arith)

both : (w : ℕ) → (rd w < 32) × (i_immediate w < 2 ^ 32)
both w = (rd_small w, i_small w)

upper_both : (w : ℕ) → (rd w < 32) × (u_immediate w < 2 ^ 32)
upper_both w = (rd_small w, u_small w)

none : (w : ℕ) → Unit {0}
none w = tt

table_within : AreWithin table
table_within = (
  upper_both,
  (
    rd_small,
    (
      rd_small,
      (
        rd_small,
        (
          none,
          (
            none,
            (
              none,
              (
                none,
                (
                  none,
                  (
                    none,
                    (
                      rd_small,
                      (
                        rd_small,
                        (
                          rd_small,
                          (
                            rd_small,
                            (
                              rd_small,
                              (
                                none,
                                (
                                  none,
                                  (
                                    none,
                                    (
                                      both,
                                      (
                                        both,
                                        (
                                          both,
                                          (
                                            both,
                                            (
                                              both,
                                              (
                                                both,
                                                (
                                                  rd_small,
                                                  (
                                                    rd_small,
                                                    (
                                                      rd_small,
                                                      (
                                                        rd_small,
                                                        (
                                                          rd_small,
                                                          (
                                                            rd_small,
                                                            (
                                                              rd_small,
                                                              (
                                                                rd_small,
                                                                (
                                                                  rd_small,
                                                                  (
                                                                    rd_small,
                                                                    (
                                                                      rd_small,
                                                                      (
                                                                        rd_small,
                                                                        (
                                                                          rd_small,
                                                                          (
                                                                            none,
                                                                            (
                                                                              none,
                                                                              (
                                                                                none,
                                                                                (rd_small, (rd_small, (rd_small, (rd_small, (rd_small, (rd_small, (rd_small, (rd_small, tt)))))))),
                                                                              ),
                                                                            ),
                                                                          ),
                                                                        ),
                                                                      ),
                                                                    ),
                                                                  ),
                                                                ),
                                                              ),
                                                            ),
                                                          ),
                                                        ),
                                                      ),
                                                    ),
                                                  ),
                                                ),
                                              ),
                                            ),
                                          ),
                                        ),
                                      ),
                                    ),
                                  ),
                                ),
                              ),
                            ),
                          ),
                        ),
                      ),
                    ),
                  ),
                ),
              ),
            ),
          ),
        ),
      ),
    ),
  ),
)

found_within : (rows : List Row) → AreWithin rows → (w : ℕ) (i : Instr) → look_up rows w ≡ Some i → IsWithin i
found_within [] h w i e = cc
found_within (row ∷ rows) h w i e = by (row.fits w) e (found_within rows h.1 w i)
  where
    by : (b : Bool) → (if b then Some (row.instruction w) else look_up rows w) ≡ Some i → (look_up rows w ≡ Some i → IsWithin i) → IsWithin i
    by true e rest = let same : row.instruction w ≡ i = cc in subst IsWithin same (h.0 w)
    by false e rest = rest e

pub decoded_within : (w : ℕ) (i : Instr) → decode_of w ≡ Some i → IsWithin i
unfolding decode_of
decoded_within w i e = found_within table table_within w i e

-- ---- operations

pub op_imm_small : (kind : OpImmKind) (a b : ℕ) → a < 2 ^ 32 → b < 2 ^ 32 → op_imm_result kind a b < 2 ^ 32
op_imm_small Addi a b h g = add-below a b
op_imm_small Slti a b h g = chosen (int_lt (signed a) (signed b)) 1 0 (2 ^ 32) (omega arith) (omega arith)
op_imm_small Sltiu a b h g = chosen (nat_lt a b) 1 0 (2 ^ 32) (omega arith) (omega arith)
op_imm_small Xori a b h g = xor-below a b h g
op_imm_small Ori a b h g = or-below a b h g
op_imm_small Andi a b h g = and-below a b h

pub shift_small : (kind : ShiftImmKind) (a b : ℕ) → a < 2 ^ 32 → shift_result kind a b < 2 ^ 32
shift_small Slli a b h = sll-below a b
shift_small Srli a b h = srl-below a b h
shift_small Srai a b h = sra-below a b

mulhu_small : (a b : ℕ) → a < 2 ^ 32 → b < 2 ^ 32 → mulhu a b < 2 ^ 32
mulhu_small a b h g =
    let le : a ≤ 2 ^ 32 - 1 = omega (arith, h) in
    let most : a * b ≤ (2 ^ 32 - 1) * b = mul-le-mul_right b le in
    omega (arith, most, g)

pub op_small : (kind : OpKind) (a b : ℕ) → a < 2 ^ 32 → b < 2 ^ 32 → op_result kind a b < 2 ^ 32
op_small Add a b h g = add-below a b
op_small Sub a b h g = sub-below a b
op_small Sll a b h g = sll-below a b
op_small Slt a b h g = chosen (int_lt (signed a) (signed b)) 1 0 (2 ^ 32) (omega arith) (omega arith)
op_small Sltu a b h g = chosen (nat_lt a b) 1 0 (2 ^ 32) (omega arith) (omega arith)
op_small Xor a b h g = xor-below a b h g
op_small Srl a b h g = srl-below a b h
op_small Sra a b h g = sra-below a b
op_small Or a b h g = or-below a b h g
op_small And a b h g = and-below a b h
op_small Mul a b h g = mul-below a b
op_small Mulh a b h g = wrap-below (int_div_euclid (signed a *ℤ signed b) (pos (2 ^ 32)))
op_small Mulhsu a b h g = wrap-below (int_div_euclid (signed a *ℤ pos b) (pos (2 ^ 32)))
op_small Mulhu a b h g = mulhu_small a b h g
op_small Div a b h g = div-below a b
op_small Divu a b h g = divu-below a b h
op_small Rem a b h g = rem-below a b h
op_small Remu a b h g = remu-below a b h

-- ---- memory

abbrev pub AreBytes : (memory : ℕ → ℕ) → Type 0
AreBytes memory = (address : ℕ) → memory address < 2 ^ 8

byte_extended : (x : ℕ) → x < 2 ^ 8 → sign_extend 8 x < 2 ^ 32
byte_extended x h = chosen (nat_lt x (2 ^ (8 - 1))) x (2 ^ 32 - 2 ^ 8 + x) (2 ^ 32) (omega (arith, h)) (omega (arith, h))

half_extended : (x : ℕ) → x < 2 ^ 16 → sign_extend 16 x < 2 ^ 32
half_extended x h = chosen (nat_lt x (2 ^ (16 - 1))) x (2 ^ 32 - 2 ^ 16 + x) (2 ^ 32) (omega (arith, h)) (omega (arith, h))

half_small : (memory : ℕ → ℕ) → AreBytes memory → (address : ℕ) → load_2 memory address < 2 ^ 16
half_small memory h address = let a = h address in let b = h (address + 1) in omega (arith, a, b)

pub loaded_small : (kind : LoadKind) (memory : ℕ → ℕ) → AreBytes memory → (address : ℕ) → loaded kind memory address < 2 ^ 32
loaded_small Lb memory h address = byte_extended (memory address) (h address)
loaded_small Lh memory h address = half_extended (load_2 memory address) (half_small memory h address)
loaded_small Lw memory h address = let a = half_small memory h address in let b = half_small memory h (address + 2) in omega (arith, a, b)
loaded_small Lbu memory h address = let a = h address in omega (arith, a)
loaded_small Lhu memory h address = let a = half_small memory h address in omega (arith, a)

byte_stored : (memory : ℕ → ℕ) → AreBytes memory → (address value : ℕ) → AreBytes (store_1 memory address value)
byte_stored memory h address value at = chosen (at == address) (value % 2 ^ 8) (memory at) (2 ^ 8) (omega arith) (h at)

half_stored : (memory : ℕ → ℕ) → AreBytes memory → (address value : ℕ) → AreBytes (store_2 memory address value)
half_stored memory h address value = byte_stored (store_1 memory address value) (byte_stored memory h address value) (address + 1) (value / 2 ^ 8)

pub stored_bytes : (kind : StoreKind) (memory : ℕ → ℕ) → AreBytes memory → (address value : ℕ) → AreBytes (stored kind memory address value)
stored_bytes Sb memory h address value = byte_stored memory h address value
stored_bytes Sh memory h address value = half_stored memory h address value
stored_bytes Sw memory h address value = half_stored (store_2 memory address value) (half_stored memory h address value) (address + 2) (value / 2 ^ 16)
