-- What the code of operations leaves in the register of its result.
use Rattle.std.proofs.Common.{◌≡◌, ℕ, zero, suc, ◌+◌, ◌*◌, ◌%◌, ◌^◌, ◌==◌, ◌<◌, ◌≤◌, Bool, true, false, List, [], ◌∷◌, ◌++◌, Option, Some, None, refl, sym, ap, ◌∙◌, subst, arith}
use Rattle.std.specs.Prelude.{if◌then◌else◌}
use Rattle.std.proofs.Math.Nat.{mul_comm}
use Rattle.std.proofs.lemmas.Bool.Decides.{nat_tests}
use Rattle.qs_base.specs.Words as words
use Rattle.qs_base.specs.Words.{sub, sltu, xor, mul, all_ones}
use Rattle.qs_memory.specs.Partial.{◌>>=◌}
use Rattle.qs_memory.specs.Values.{Value, integer}
use Rattle.qs_memory.specs.Memory.{Memory}
use Rattle.qs_memory.specs.declared.operation.Signedness.{Signedness}
use Rattle.qs_memory.specs.declared.operation.Signedness.TheVariants.{Signed, Unsigned}
use Rattle.qs_memory.specs.declared.operation.Arithmetic.{Arithmetic}
use Rattle.qs_memory.specs.declared.operation.Arithmetic.TheVariants as arithmetics
use Rattle.qs_memory.specs.declared.operation.Comparison.{Comparison}
use Rattle.qs_memory.specs.declared.operation.Comparison.TheVariants as comparisons
use Rattle.qs_memory.specs.declared.operation.UnaryOperation.{UnaryOperation}
use Rattle.qs_memory.specs.declared.operation.UnaryOperation.TheVariants as unaries
use Rattle.qs_memory.proofs.Options.{some_same, only_if_value}
use Rattle.qs_isa.specs.declared.instruction.Instr.{Instr}
use Rattle.qs_isa.specs.declared.instruction.Instr.TheVariants as instructions
use Rattle.qs_isa.specs.declared.instruction.OpKind.TheVariants.{Sub, Slt, Sltu, Mul}
use Rattle.qs_isa.specs.declared.instruction.OpImmKind.TheVariants.{Addi, Slti, Sltiu, Xori, Ori, Andi}
use Rattle.qs_isa.specs.declared.instruction.ShiftImmKind.TheVariants.{Slli, Srli, Srai}
use Rattle.qs_machine.specs.State.{register}
use Rattle.qs_machine.specs.Step.{op_result}
use Rattle.qs_tac.specs.declared.operands.Operand.{Operand}
use Rattle.qs_tac.specs.declared.operands.Operand.TheVariants.{Temporary, Integer, Byte, Constant, Null, Local, Data}
use Rattle.qs_tac.specs.Holders.{File}
use Rattle.qs_tac.specs.Fits.{operand_fits}
use Rattle.qs_tac.specs.Values.{Activation, operand}
use Rattle.qs_tac.specs.Steps.{Waiting}
use Rattle.qs_emit_selection.specs.Pieces.{constant, shift_among, shift_of, product_by, product}
use Rattle.qs_emit_selection.specs.Pieces as pieces
use Rattle.qs_emit_selection.specs.Operands.{Context, operand_code, operand_register}
use Rattle.qs_emit_selection.specs.Operations.{constant_of, negated, with_constant, or_code, kind_of, both, on_both, arithmetic, less_than, less_than_constant, less, turned, apart, compare, unary_instruction}
use Rattle.qs_emit.specs.Machine.{Watched}
use Rattle.qs_emit.specs.Lies.{StandsFor, SameOwn}
use Rattle.qs_emit.specs.Surroundings.{Lay}
use Rattle.qs_emit.specs.Relation.{Setup, context, function_at}
use Rattle.qs_emit.proofs.Steps.{Does, Gets, IsFree, does_then, does_is, op_does, op_imm_does, shift_does, same_on}
use Rattle.qs_emit.proofs.Slots.{reads_free, constant_does, gets_is, does_get}
use Rattle.qs_emit.proofs.FrameLaws.{SameValues, values_on}
use Rattle.qs_emit.proofs.Words.{negated_added, less_word, compared}
use Rattle.qs_emit.proofs.Operands.{holder, IsScratch, argument_scratch, value_apart, IsThere, there_apart, reads_same, IsAmid, gets_values, HasOperand, operand_does, Makes}

-- ---- powers of two

record IsShift (number k : ℕ) : Type 0 where
  power : 2 ^ k ≡ number
  low : k < 32

shift_found : (count exponent number k : ℕ) → count + exponent ≤ 32 → shift_among count exponent number ≡ Some k → IsShift number k
shift_found zero exponent number k h e = cc
shift_found (suc count) exponent number k h e = by (2 ^ exponent == number) refl (shift_found count (exponent + 1) number k (omega (arith, h))) e
  where
    by : (b : Bool) → (2 ^ exponent == number) ≡ b → (shift_among count (exponent + 1) number ≡ Some k → IsShift number k) → (if b then Some exponent else shift_among count (exponent + 1) number) ≡ Some k → IsShift number k
    by true t more f =
        let same : exponent ≡ k = some_same exponent k f in
        let power : 2 ^ exponent ≡ number = grind (arith, nat_tests, t) in
        record { power = ap (λ (i : ℕ). 2 ^ i) (sym same) ∙ power; low = omega (arith, h, same) }
    by false t more f = more f

shift_is : (number k : ℕ) → shift_of number ≡ Some k → IsShift number k
unfolding shift_of
shift_is number k e = shift_found 31 1 number k (omega arith) e

-- ---- constants

pub record IsConstant (o : Operand) (n : ℕ) : Type 0 where
  pub is : o ≡ Constant n

pub constant_is : (o : Operand) (n : ℕ) → constant_of o ≡ Some n → IsConstant o n
constant_is (Temporary t) n e = cc
constant_is (Integer t) n e = cc
constant_is (Byte t) n e = cc
constant_is (Constant k) n e = record { is = ap Constant (some_same k n e) }
constant_is Null n e = cc
constant_is (Local i) n e = cc
constant_is (Data i) n e = cc

-- ---- one instruction

abbrev pub unary_word : UnaryOperation → (x : ℕ) → ℕ
unary_word (unaries.Plus s) x = words.add x 0
unary_word (unaries.Minus s) x = sub 0 x
unary_word (unaries.Complement s) x = xor x all_ones
unary_word unaries.Not x = sltu x 1
unary_word unaries.Truth x = sltu 0 x

module _ (s : Setup) (m : Watched) where
  pub unary_gets : (op : UnaryOperation) (rd r : ℕ) → IsFree rd → Does s m (unary_instruction op rd r ∷ []) (Gets s m rd (unary_word op (register m.now r)))
  unary_gets (unaries.Plus sign) rd r free = op_imm_does s m Addi rd r 0 free
  unary_gets (unaries.Minus sign) rd r free = op_does s m Sub rd 0 r free
  unary_gets (unaries.Complement sign) rd r free = op_imm_does s m Xori rd r all_ones free
  unary_gets unaries.Not rd r free = op_imm_does s m Sltiu rd r 1 free
  unary_gets unaries.Truth rd r free = op_does s m Sltu rd 0 r free

  -- an operation with a constant on its right does what it does on registers
  with_constant_gets : (op : Arithmetic) (sign : Signedness) (rd r n : ℕ) (i : Instr) → IsFree rd → n < 2 ^ 32 → with_constant op sign rd r n ≡ Some i → Does s m (i ∷ []) (Gets s m rd (op_result (kind_of op sign) (register m.now r) n))
  with_constant_gets arithmetics.Add sign rd r n i free small e = subst (λ (j : Instr). Does s m (j ∷ []) (Gets s m rd (words.add (register m.now r) n))) (only_if_value _ _ i e).1 (op_imm_does s m Addi rd r n free)
  with_constant_gets arithmetics.Subtract sign rd r n i free small e = subst (λ (j : Instr). Does s m (j ∷ []) (Gets s m rd (sub (register m.now r) n))) (only_if_value _ _ i e).1 (does_get s m _ rd _ _ (negated_added (register m.now r) n small) (op_imm_does s m Addi rd r (negated n) free))
  with_constant_gets arithmetics.Multiply sign rd r n i free small e = cc
  with_constant_gets arithmetics.Divide sign rd r n i free small e = cc
  with_constant_gets arithmetics.Remainder sign rd r n i free small e = cc
  with_constant_gets arithmetics.ShiftLeft sign rd r n i free small e = subst (λ (j : Instr). Does s m (j ∷ []) (Gets s m rd (words.sll (register m.now r) n))) (only_if_value _ _ i e).1 (shift_does s m Slli rd r n free)
  with_constant_gets arithmetics.ShiftRight Signed rd r n i free small e = subst (λ (j : Instr). Does s m (j ∷ []) (Gets s m rd (words.sra (register m.now r) n))) (only_if_value _ _ i e).1 (shift_does s m Srai rd r n free)
  with_constant_gets arithmetics.ShiftRight Unsigned rd r n i free small e = subst (λ (j : Instr). Does s m (j ∷ []) (Gets s m rd (words.srl (register m.now r) n))) (only_if_value _ _ i e).1 (shift_does s m Srli rd r n free)
  with_constant_gets arithmetics.And sign rd r n i free small e = subst (λ (j : Instr). Does s m (j ∷ []) (Gets s m rd (words.and (register m.now r) n))) (only_if_value _ _ i e).1 (op_imm_does s m Andi rd r n free)
  with_constant_gets arithmetics.Or sign rd r n i free small e = subst (λ (j : Instr). Does s m (j ∷ []) (Gets s m rd (words.or (register m.now r) n))) (only_if_value _ _ i e).1 (op_imm_does s m Ori rd r n free)
  with_constant_gets arithmetics.Xor sign rd r n i free small e = subst (λ (j : Instr). Does s m (j ∷ []) (Gets s m rd (words.xor (register m.now r) n))) (only_if_value _ _ i e).1 (op_imm_does s m Xori rd r n free)

  less_than_gets : (sign : Signedness) (rd left right : ℕ) → IsFree rd → Does s m (less_than sign rd left right ∷ []) (Gets s m rd (less_word sign (register m.now left) (register m.now right)))
  less_than_gets Signed rd left right free = op_does s m Slt rd left right free
  less_than_gets Unsigned rd left right free = op_does s m Sltu rd left right free

  less_than_constant_gets : (sign : Signedness) (rd r n : ℕ) (i : Instr) → IsFree rd → less_than_constant sign rd r n ≡ Some i → Does s m (i ∷ []) (Gets s m rd (less_word sign (register m.now r) n))
  less_than_constant_gets Signed rd r n i free e = subst (λ (j : Instr). Does s m (j ∷ []) (Gets s m rd (words.slt (register m.now r) n))) (only_if_value _ _ i e).1 (op_imm_does s m Slti rd r n free)
  less_than_constant_gets Unsigned rd r n i free e = subst (λ (j : Instr). Does s m (j ∷ []) (Gets s m rd (sltu (register m.now r) n))) (only_if_value _ _ i e).1 (op_imm_does s m Sltiu rd r n free)

  -- a register times a number, in another register
  pub product_does : (rd rs number : ℕ) → IsFree rd → (rs ≡ rd → ⊥) → number < 2 ^ 32 → Does s m (product rd rs number) (Gets s m rd (register m.now rs * number % 2 ^ 32))
  product_does rd rs number free apart small = by (shift_of number) refl
    where
      by : (o : Option ℕ) → shift_of number ≡ o → Does s m (product_by o rd rs number) (Gets s m rd (register m.now rs * number % 2 ^ 32))
      by (Some k) e =
          let is = shift_is number k e in
          let low = is.low in
          let same : k % 32 ≡ k = omega (arith, low) in
          let at : words.sll (register m.now rs) k ≡ register m.now rs * number % 2 ^ 32 = ap (λ (i : ℕ). register m.now rs * 2 ^ i % 2 ^ 32) same ∙ ap (λ (n : ℕ). register m.now rs * n % 2 ^ 32) is.power in
          does_get s m _ rd _ _ at (shift_does s m Slli rd rs k free)
      by None e = does_then s m (constant rd number) (pieces.mul rd rd rs ∷ []) _ _ (constant_does s m rd number free small) (λ m1 x2 g.
          let left : register m1.now rd ≡ number = reads_free s m1.now rd free.0 ∙ g.got in
          let right : register m1.now rs ≡ register m.now rs = reads_same m.now m1.now rs (g.others rs apart) in
          let at : mul (register m1.now rd) (register m1.now rs) ≡ register m.now rs * number % 2 ^ 32 = ap (λ (x : ℕ). mul x (register m1.now rs)) left ∙ ap (λ (x : ℕ). mul number x) right ∙ ap (λ (x : ℕ). x % 2 ^ 32) (mul_comm number (register m.now rs)) in
          does_is s m1 _ _ _ (op_does s m1 Mul rd rd rs free) (λ m2 y2 k. record {
            got = k.got ∙ at;
            others = λ q n. k.others q n ∙ g.others q n;
            bytes_same = same_on s.room (m.now.registers 2) m.now.memory m1.now.memory m2.now.memory g.bytes_same (subst (λ (p : ℕ). SameOwn s.room p m1.now.memory m2.now.memory) x2 k.bytes_same);
          }))

-- ---- operations on operands

module _ (s : Setup) (a : Activation File) (w : Memory) (stack : List (Waiting File)) (l : Lay) (sp : ℕ) where
  abbrev c : Context
  c = context s a.function

  abbrev Stands : Value → ℕ → Type 0
  Stands v word = StandsFor w l.address_of v word

  -- an operand that fits, with its value
  pub record IsOperand (o : Operand) (v : Value) : Type 0 where
    pub fits : operand_fits s.unit (function_at s.unit a.function) o ≡ true
    pub is : operand (holder s) o a ≡ Some v

  -- registers that hold values and own bytes are the same
  pub record Leaves (m m1 : Watched) : Type 0 where
    pub x2 : m1.now.registers 2 ≡ m.now.registers 2
    pub saved : SameValues m.now.registers m1.now.registers
    pub bytes : SameOwn s.room (m.now.registers 2) m.now.memory m1.now.memory

  pub leaves_on : (m m1 m2 : Watched) → Leaves m m1 → Leaves m1 m2 → Leaves m m2
  leaves_on m m1 m2 h k = record {
    x2 = k.x2 ∙ h.x2;
    saved = values_on m.now.registers m1.now.registers m2.now.registers h.saved k.saved;
    bytes = same_on s.room (m.now.registers 2) m.now.memory m1.now.memory m2.now.memory h.bytes (subst (λ (p : ℕ). SameOwn s.room p m1.now.memory m2.now.memory) h.x2 k.bytes);
  }

  pub leaves_operand : (m m1 : Watched) (free r : ℕ) (v : Value) → IsScratch free → m1.now.registers 2 ≡ m.now.registers 2 → HasOperand s a w stack l sp m free r v m1 → Leaves m m1
  leaves_operand m m1 free r v scratch x2 o = record { x2 = x2; saved = record { same = λ q e. o.others q (value_apart q free e scratch.steadyless) }; bytes = o.bytes }

  pub leaves_gets : (m m1 : Watched) (r x : ℕ) → IsScratch r → m1.now.registers 2 ≡ m.now.registers 2 → Gets s m r x m1 → Leaves m m1
  leaves_gets m m1 r x scratch x2 g = record { x2 = x2; saved = gets_values s a w stack l sp m m1 r x scratch g; bytes = g.bytes_same }

  pub makes_last : (m m1 m2 : Watched) (rd x : ℕ) → Leaves m m1 → Gets s m1 rd x m2 → Makes s a w stack l sp m rd x m2
  makes_last m m1 m2 rd x h g = record {
    got = g.got;
    others = λ q e n. g.others q n ∙ h.saved.same q e;
    bytes = same_on s.room (m.now.registers 2) m.now.memory m1.now.memory m2.now.memory h.bytes (subst (λ (p : ℕ). SameOwn s.room p m1.now.memory m2.now.memory) h.x2 g.bytes_same);
  }

  -- a register gets a result of the words of two values
  pub record Combines (m : Watched) (rd : ℕ) (v u : Value) (of : ℕ → ℕ → ℕ) (m1 : Watched) : Type 0 where
    pub left : ℕ
    pub right : ℕ
    pub stands_left : Stands v left
    pub stands_right : Stands u right
    pub makes : Makes s a w stack l sp m rd (of left right) m1

  combines_last : (m m1 m2 : Watched) (rd : ℕ) (v u : Value) (of : ℕ → ℕ → ℕ) (f : ℕ → ℕ) → m1.now.registers 2 ≡ m.now.registers 2 → Combines m rd v u of m1 → Gets s m1 rd (f (m1.now.registers rd)) m2 → Combines m rd v u (λ x y. f (of x y)) m2
  combines_last m m1 m2 rd v u of f x2 h g = record {
    left = h.left;
    right = h.right;
    stands_left = h.stands_left;
    stands_right = h.stands_right;
    makes = record {
      got = g.got ∙ ap f h.makes.got;
      others = λ q e n. g.others q n ∙ h.makes.others q e n;
      bytes = same_on s.room (m.now.registers 2) m.now.memory m1.now.memory m2.now.memory h.makes.bytes (subst (λ (p : ℕ). SameOwn s.room p m1.now.memory m2.now.memory) x2 g.bytes_same);
    };
  }

  a0_scratch : IsScratch 10
  a0_scratch = argument_scratch 10 (omega arith) (omega arith)

  a1_scratch : IsScratch 11
  a1_scratch = argument_scratch 11 (omega arith) (omega arith)

  -- two operands are in registers
  pub record HasBoth (m : Watched) (left right : ℕ) (v u : Value) (m1 : Watched) : Type 0 where
    pub x : ℕ
    pub y : ℕ
    pub got_x : register m1.now left ≡ x
    pub got_y : register m1.now right ≡ y
    pub stands_x : Stands v x
    pub stands_y : Stands u y
    pub left_there : IsThere 10 left
    pub right_there : IsThere 11 right
    pub leaves : Leaves m m1
    pub amid : IsAmid s a w stack l sp m1

  -- the second one, behind the first
  second_does : (m m1 : Watched) (left : ℕ) (v u : Value) (y : Operand) → m1.now.registers 2 ≡ m.now.registers 2 → HasOperand s a w stack l sp m 10 left v m1 → IsOperand y u → Does s m1 (operand_code c 11 y) (HasBoth m left (operand_register c 11 y) v u)
  second_does m m1 left v u y x2 o iy = does_is s m1 _ _ _ (operand_does s a w stack l sp m1 11 y u a1_scratch o.amid iy.fits iy.is) (λ m2 y2 p. record {
    x = o.word;
    y = p.word;
    got_x = reads_same m1.now m2.now left (p.others left (there_apart 10 left 11 o.there a1_scratch (λ e. absurd (omega (arith, e))))) ∙ o.got;
    got_y = p.got;
    stands_x = o.stands;
    stands_y = p.stands;
    left_there = o.there;
    right_there = p.there;
    leaves = leaves_on m m1 m2 (leaves_operand m m1 10 left v a0_scratch x2 o) (leaves_operand m1 m2 11 (operand_register c 11 y) u a1_scratch y2 p);
    amid = p.amid;
  })

  pub both_does : (m : Watched) (x y : Operand) (v u : Value) → IsAmid s a w stack l sp m → IsOperand x v → IsOperand y u → Does s m (both c x y) (HasBoth m (operand_register c 10 x) (operand_register c 11 y) v u)
  both_does m x y v u h ix iy = does_then s m (operand_code c 10 x) (operand_code c 11 y) _ _ (operand_does s a w stack l sp m 10 x v a0_scratch h ix.fits ix.is) (λ m1 x2 o. second_does m m1 (operand_register c 10 x) v u y x2 o iy)

  -- an operation on two operands, where the second may be a constant
  combine_does : (m : Watched) (x y : Operand) (v u : Value) (rd : ℕ) (result : ℕ → ℕ → ℕ) (chosen : ℕ → Option Instr) (of : ℕ → ℕ → Instr)
      → IsAmid s a w stack l sp m → IsOperand x v → IsOperand y u
      → ((m1 : Watched) (n : ℕ) (i : Instr) → n < 2 ^ 32 → chosen n ≡ Some i → Does s m1 (i ∷ []) (Gets s m1 rd (result (register m1.now (operand_register c 10 x)) n)))
      → ((m1 : Watched) (left right : ℕ) → Does s m1 (of left right ∷ []) (Gets s m1 rd (result (register m1.now left) (register m1.now right))))
      → Does s m (operand_code c 10 x ++ or_code (constant_of y >>= chosen) (on_both c x y of)) (Combines m rd v u result)
  combine_does m x y v u rd result chosen of h ix iy with_one with_two =
      does_then s m (operand_code c 10 x) _ _ _ (operand_does s a w stack l sp m 10 x v a0_scratch h ix.fits ix.is) (λ m1 x2 o. by m1 x2 o (constant_of y) refl)
    where
      left : ℕ
      left = operand_register c 10 x

      on_registers : (m1 : Watched) → m1.now.registers 2 ≡ m.now.registers 2 → HasOperand s a w stack l sp m 10 (operand_register c 10 x) v m1 → Does s m1 (on_both c x y of) (Combines m rd v u result)
      on_registers m1 x2 o = does_then s m1 (operand_code c 11 y) _ _ _ (second_does m m1 (operand_register c 10 x) v u y x2 o iy) (λ m2 y2 p.
          does_is s m2 _ _ _ (with_two m2 (operand_register c 10 x) (operand_register c 11 y)) (λ m3 z2 g. record {
            left = p.x;
            right = p.y;
            stands_left = p.stands_x;
            stands_right = p.stands_y;
            makes = makes_last m m2 m3 rd (result p.x p.y) p.leaves (gets_is s m2 m3 rd _ _ (ap (λ (z : ℕ). result z (register m2.now (operand_register c 11 y))) p.got_x ∙ ap (λ (z : ℕ). result p.x z) p.got_y) g);
          }))

      on_constant : (m1 : Watched) → m1.now.registers 2 ≡ m.now.registers 2 → HasOperand s a w stack l sp m 10 (operand_register c 10 x) v m1 → (n : ℕ) → constant_of y ≡ Some n → (o : Option Instr) → chosen n ≡ o → Does s m1 (or_code o (on_both c x y of)) (Combines m rd v u result)
      on_constant m1 x2 p n e None f = on_registers m1 x2 p
      on_constant m1 x2 p n e (Some i) f =
          let k = constant_is y n e in
          let fits : operand_fits s.unit (function_at s.unit a.function) (Constant n) ≡ true = subst (λ (z : Operand). operand_fits s.unit (function_at s.unit a.function) z ≡ true) k.is iy.fits in
          let small : n < 2 ^ 32 = grind (arith, nat_tests, fits) in
          let is : Some (integer n) ≡ Some u = subst (λ (z : Operand). operand (holder s) z a ≡ Some u) k.is iy.is in
          does_is s m1 _ _ _ (with_one m1 n i small f) (λ m2 y2 g. record {
            left = p.word;
            right = n;
            stands_left = p.stands;
            stands_right = subst (λ (z : Value). Stands z n) (some_same (integer n) u is) (refl, small);
            makes = makes_last m m1 m2 rd (result p.word n) (leaves_operand m m1 10 (operand_register c 10 x) v a0_scratch x2 p) (gets_is s m1 m2 rd _ _ (ap (λ (z : ℕ). result z n) p.got) g);
          })

      by : (m1 : Watched) → m1.now.registers 2 ≡ m.now.registers 2 → HasOperand s a w stack l sp m 10 (operand_register c 10 x) v m1 → (o : Option ℕ) → constant_of y ≡ o → Does s m1 (or_code (o >>= chosen) (on_both c x y of)) (Combines m rd v u result)
      by m1 x2 p None e = on_registers m1 x2 p
      by m1 x2 p (Some n) e = on_constant m1 x2 p n e (chosen n) refl

  pub arithmetic_does : (m : Watched) (op : Arithmetic) (sign : Signedness) (x y : Operand) (v u : Value) (rd : ℕ) → IsFree rd → IsAmid s a w stack l sp m → IsOperand x v → IsOperand y u → Does s m (arithmetic c op sign rd x y) (Combines m rd v u (op_result (kind_of op sign)))
  arithmetic_does m op sign x y v u rd free h ix iy = combine_does m x y v u rd (op_result (kind_of op sign)) (with_constant op sign rd (operand_register c 10 x)) (λ left right. instructions.Op (kind_of op sign) rd left right) h ix iy
      (λ m1 n i small e. with_constant_gets s m1 op sign rd (operand_register c 10 x) n i free small e)
      (λ m1 left right. op_does s m1 (kind_of op sign) rd left right free)

  less_does : (m : Watched) (sign : Signedness) (x y : Operand) (v u : Value) (rd : ℕ) → IsFree rd → IsAmid s a w stack l sp m → IsOperand x v → IsOperand y u → Does s m (less c sign rd x y) (Combines m rd v u (less_word sign))
  less_does m sign x y v u rd free h ix iy = combine_does m x y v u rd (less_word sign) (less_than_constant sign rd (operand_register c 10 x)) (λ left right. less_than sign rd left right) h ix iy
      (λ m1 n i small e. less_than_constant_gets s m1 sign rd (operand_register c 10 x) n i free e)
      (λ m1 left right. less_than_gets s m1 sign rd left right free)

  -- one more instruction on the result
  then_does : (m : Watched) (code : List Instr) (i : Instr) (rd : ℕ) (v u : Value) (of : ℕ → ℕ → ℕ) (f : ℕ → ℕ) → Does s m code (Combines m rd v u of) → ((m1 : Watched) → Does s m1 (i ∷ []) (Gets s m1 rd (f (m1.now.registers rd)))) → Does s m (code ++ i ∷ []) (Combines m rd v u (λ x y. f (of x y)))
  then_does m code i rd v u of f does last = does_then s m code (i ∷ []) _ _ does (λ m1 x2 h. does_is s m1 _ _ _ (last m1) (λ m2 y2 g. combines_last m m1 m2 rd v u of f x2 h g))

  turned_does : (m : Watched) (code : List Instr) (rd : ℕ) (v u : Value) (of : ℕ → ℕ → ℕ) → IsFree rd → Does s m code (Combines m rd v u of) → Does s m (turned rd code) (Combines m rd v u (λ x y. xor (of x y) 1))
  turned_does m code rd v u of free does = then_does m code (pieces.xori rd rd 1) rd v u of (λ x. xor x 1) does (λ m1. does_get s m1 _ rd _ _ (ap (λ (x : ℕ). xor x 1) (reads_free s m1.now rd free.0)) (op_imm_does s m1 Xori rd rd 1 free))

  -- the operands the other way round
  swapped : (m m1 : Watched) (rd : ℕ) (v u : Value) (of : ℕ → ℕ → ℕ) → Combines m rd v u of m1 → Combines m rd u v (λ x y. of y x) m1
  swapped m m1 rd v u of h = record { left = h.right; right = h.left; stands_left = h.stands_right; stands_right = h.stands_left; makes = h.makes }

  pub compare_does : (m : Watched) (op : Comparison) (sign : Signedness) (x y : Operand) (v u : Value) (rd : ℕ) → IsFree rd → IsAmid s a w stack l sp m → IsOperand x v → IsOperand y u → Does s m (compare c op sign rd x y) (Combines m rd v u (compared op sign))
  compare_does m comparisons.Less sign x y v u rd free h ix iy = less_does m sign x y v u rd free h ix iy
  compare_does m comparisons.Greater sign x y v u rd free h ix iy = does_is s m _ _ _ (less_does m sign y x u v rd free h iy ix) (λ m1 x2 k. swapped m m1 rd u v (less_word sign) k)
  compare_does m comparisons.LessOrEqual sign x y v u rd free h ix iy = does_is s m _ _ _ (turned_does m _ rd u v (less_word sign) free (less_does m sign y x u v rd free h iy ix)) (λ m1 x2 k. swapped m m1 rd u v (λ x y. xor (less_word sign x y) 1) k)
  compare_does m comparisons.GreaterOrEqual sign x y v u rd free h ix iy = turned_does m _ rd v u (less_word sign) free (less_does m sign x y v u rd free h ix iy)
  compare_does m comparisons.Equal sign x y v u rd free h ix iy = then_does m _ (pieces.sltiu rd rd 1) rd v u sub (λ x. sltu x 1) (arithmetic_does m arithmetics.Subtract Unsigned x y v u rd free h ix iy) (λ m1. does_get s m1 _ rd _ _ (ap (λ (x : ℕ). sltu x 1) (reads_free s m1.now rd free.0)) (op_imm_does s m1 Sltiu rd rd 1 free))
  compare_does m comparisons.NotEqual sign x y v u rd free h ix iy = then_does m _ (pieces.sltu rd 0 rd) rd v u sub (λ x. sltu 0 x) (arithmetic_does m arithmetics.Subtract Unsigned x y v u rd free h ix iy) (λ m1. does_get s m1 _ rd _ _ (ap (λ (x : ℕ). sltu 0 x) (reads_free s m1.now rd free.0)) (op_does s m1 Sltu rd 0 rd free))
