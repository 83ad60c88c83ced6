-- A step keeps x2 in the stack, and writes no register but x1 to x31.
use Rattle.std.proofs.Common.{◌≡◌, ℕ, ◌*◌, ◌/◌, ◌%◌, ◌≤◌, ◌<◌, Bool, true, false, List, [], ◌∷◌, Option, Some, None, refl, subst, arith}
use Rattle.std.specs.Prelude.{if◌then◌else◌, nat_lt, not, ◌&&◌, ◌||◌, ◌==◌}
use Rattle.std.proofs.lemmas.Bool.Decides.{nat_tests}
use Rattle.qs_base.specs.Words.{add}
use Rattle.qs_isa.specs.declared.instruction.Instr.{Instr}
use Rattle.qs_isa.specs.declared.instruction.Instr.TheVariants.{Lui, Auipc, Jal, Jalr, Branch, Load, Store, OpImm, ShiftImm, Op, Fence, Ecall, Ebreak}
use Rattle.qs_isa.specs.declared.instruction.LoadKind.{LoadKind}
use Rattle.qs_isa.specs.declared.instruction.StoreKind.{StoreKind}
use Rattle.qs_isa.specs.Registers.{x0, sp, a0, a7}
use Rattle.qs_isa.specs.EnvironmentCalls.{exit_call, put_byte_call, take_byte_call}
use Rattle.qs_isa.specs.Table.{decode_of}
use Rattle.qs_image.specs.Image.{Image}
use Rattle.qs_machine.specs.State.{State, register, set_register, with_value, stack_base, stack_top, can_read, can_write}
use Rattle.qs_machine.specs.declared.answers.Cause.TheVariants.{Overflow, JumpMisaligned, LoadMisaligned, LoadOutside, StoreMisaligned, StoreOutside, UnknownCall}
use Rattle.qs_machine.specs.Step.{StepResult, Next, Exits, Traps, next_pc, write_and_go, write, jump, go_to, branch, is_taken, load, load_width, loaded, store, store_width, stored, op_imm_result, shift_result, op_result, take_byte, put_byte, environment_call, act, act_on, step_on, fetch, step}
use Rattle.qs_machine.proofs.Results.{IsWithin, decoded_within}

-- x2 stands in the stack, and there are no registers but x0 to x31
pub record AreHeld (size : ℕ) (registers : ℕ → ℕ) : Type 0 where
  pub low : stack_base size ≤ registers sp
  pub high : registers sp ≤ stack_top
  pub no_more : (r : ℕ) → 32 ≤ r → registers r ≡ 0

value_low : (size d value : ℕ) → (d == sp && (nat_lt value (stack_base size) || nat_lt stack_top value)) ≡ false → (sp == d) ≡ true → stack_base size ≤ value
value_low size d value t e = grind (arith, nat_tests, t, e)

value_high : (size d value : ℕ) → (d == sp && (nat_lt value (stack_base size) || nat_lt stack_top value)) ≡ false → (sp == d) ≡ true → value ≤ stack_top
value_high size d value t e = grind (arith, nat_tests, t, e)

other_register : (d r : ℕ) → d < 32 → 32 ≤ r → (r == d) ≡ false
other_register d r within le = grind (arith, nat_tests, within, le)

module _ (image : Image) (size : ℕ) (s : State) (h : AreHeld size s.registers) where
  abbrev Keeps : StepResult → Type 0
  Keeps (Next t) = AreHeld size t.registers
  Keeps (Exits status) = Unit {0}
  Keeps (Traps cause) = Unit {0}

  either : (b : Bool) (x y : StepResult) → Keeps x → Keeps y → Keeps (if b then x else y)
  either true x y p q = p
  either false x y p q = q

  written : (d value : ℕ) → d < 32 → (d == sp && (nat_lt value (stack_base size) || nat_lt stack_top value)) ≡ false → AreHeld size (with_value s.registers d value)
  written d value within t = record {
    low = low (sp == d) refl;
    high = high (sp == d) refl;
    no_more = λ r le. let other = other_register d r within le in rw other (h.no_more r le);
  }
    where
      low : (b : Bool) → (sp == d) ≡ b → stack_base size ≤ (if b then value else s.registers sp)
      low true e = value_low size d value t e
      low false e = h.low

      high : (b : Bool) → (sp == d) ≡ b → (if b then value else s.registers sp) ≤ stack_top
      high true e = value_high size d value t e
      high false e = h.high

  writes_and_goes : (d value pc : ℕ) → d < 32 → Keeps (write_and_go size s d value pc)
  writes_and_goes d value pc within = by (d == sp && (nat_lt value (stack_base size) || nat_lt stack_top value)) refl
    where
      set : (z : Bool) → (d == sp && (nat_lt value (stack_base size) || nat_lt stack_top value)) ≡ false → AreHeld size (if z then s else record s { registers = with_value s.registers d value }).registers
      set true t = h
      set false t = written d value within t

      by : (b : Bool) → (d == sp && (nat_lt value (stack_base size) || nat_lt stack_top value)) ≡ b → Keeps (if b then Traps Overflow else Next (record (set_register s d value) { pc = pc }))
      by true t = tt
      by false t = set (d == x0) t

  jumps : (d target : ℕ) → d < 32 → Keeps (jump size s d target)
  jumps d target within = either (target % 4 == 0) (write_and_go size s d (next_pc s) target) (Traps JumpMisaligned) (writes_and_goes d (next_pc s) target within) tt

  branches : (taken : Bool) (target : ℕ) → Keeps (branch s taken target)
  branches false target = h
  branches true target = either (target % 4 == 0) (go_to s target) (Traps JumpMisaligned) h tt

  loads : (kind : LoadKind) (d address : ℕ) → d < 32 → Keeps (load image size s kind d address)
  loads kind d address within =
      let reads = write size s d (loaded kind s.memory address) in
      let inside = can_read image size address (load_width kind) in
      either (not (address % load_width kind == 0)) (Traps LoadMisaligned) (if inside then reads else Traps LoadOutside) tt
      (either inside reads (Traps LoadOutside) (writes_and_goes d (loaded kind s.memory address) (next_pc s) within) tt)

  stores : (kind : StoreKind) (address value : ℕ) → Keeps (store image size s kind address value)
  stores kind address value =
      let stands = Next (record s { pc = next_pc s; memory = stored kind s.memory address value }) in
      let inside = can_write image size address (store_width kind) in
      either (not (address % store_width kind == 0)) (Traps StoreMisaligned) (if inside then stands else Traps StoreOutside) tt
      (either inside stands (Traps StoreOutside) h tt)

  answers : (value : ℕ) → AreHeld size (with_value s.registers a0 value)
  answers value = written a0 value (omega arith) refl

  takes_byte : (input : List ℕ) → Keeps (take_byte s input)
  takes_byte [] = answers 0xffffffff
  takes_byte (byte ∷ input) = answers byte

  calls : (call : ℕ) → Keeps (environment_call s call)
  calls call =
      let byte = register s a0 % 256 in
      let last : StepResult = if call == take_byte_call then take_byte s s.input else Traps UnknownCall in
      let later : StepResult = if call == put_byte_call then put_byte s byte else last in
      either (call == exit_call) (Exits byte) later tt
      (either (call == put_byte_call) (put_byte s byte) last (answers byte)
      (either (call == take_byte_call) (take_byte s s.input) (Traps UnknownCall) (takes_byte s.input) tt))

  acts : (i : Instr) → IsWithin i → Keeps (act image size s i)
  acts (Lui d immediate) w = writes_and_goes d immediate (next_pc s) w.0
  acts (Auipc d immediate) w = writes_and_goes d (add s.pc immediate) (next_pc s) w
  acts (Jal d offset) w = jumps d (add s.pc offset) w
  acts (Jalr d a offset) w = jumps d (add (register s a) offset / 2 * 2) w
  acts (Branch kind a b offset) w = branches (is_taken kind (register s a) (register s b)) (add s.pc offset)
  acts (Load kind d a offset) w = loads kind d (add (register s a) offset) w
  acts (Store kind a b offset) w = stores kind (add (register s a) offset) (register s b)
  acts (OpImm kind d a immediate) w = writes_and_goes d (op_imm_result kind (register s a) immediate) (next_pc s) w.0
  acts (ShiftImm kind d a amount) w = writes_and_goes d (shift_result kind (register s a) amount) (next_pc s) w
  acts (Op kind d a b) w = writes_and_goes d (op_result kind (register s a) (register s b)) (next_pc s) w
  acts Fence w = h
  acts Ecall w = calls (register s a7)
  acts Ebreak w = tt

  decodes : (o : Option Instr) → ((i : Instr) → o ≡ Some i → IsWithin i) → Keeps (act_on image size s o)
  decodes None w = tt
  decodes (Some i) w = acts i (w i refl)

  fetches : (word : Option ℕ) → Keeps (step_on image size s word)
  fetches None = tt
  fetches (Some word) = decodes (decode_of word) (λ i e. decoded_within word i e)

  held : (r : StepResult) (next : State) → Keeps r → r ≡ Next next → AreHeld size next.registers
  held (Next t) next k e = let same : t ≡ next = cc in subst (λ (u : State). AreHeld size u.registers) same k
  held (Exits status) next k e = cc
  held (Traps cause) next k e = cc

  pub steps_hold : (next : State) → step image size s ≡ Next next → AreHeld size next.registers
  steps_hold next e = held (step image size s) next (fetches (fetch image s.pc)) e
