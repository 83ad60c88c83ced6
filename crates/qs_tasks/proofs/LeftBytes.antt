-- An instruction that keeps to the rules leaves all bytes alone but those of the room.
use Rattle.std.proofs.Common.{◌≡◌, ◌⊎◌, inl, inr, ⊎_elim, ℕ, zero, suc, ◌+◌, ◌*◌, ◌/◌, ◌%◌, ◌^◌, ◌<◌, ◌≤◌, Bool, true, false, List, [], ◌∷◌, Option, Some, None, refl, sym, ◌∙◌, subst, arith}
use Rattle.std.specs.Prelude.{if◌then◌else◌, nat_lt, nat_le, not, ◌&&◌, ◌||◌, ◌==◌}
use Rattle.std.proofs.lemmas.Bool.{and_parts, or_cases, cases_lt, cases_order}
use Rattle.std.proofs.lemmas.Bool.Decides.{nat_tests}
use Rattle.qs_base.specs.Words.{add}
use Rattle.qs_memory.specs.Partial.{◌>>=◌}
use Rattle.qs_isa.specs.declared.instruction.Instr.{Instr}
use Rattle.qs_isa.specs.declared.instruction.Instr.TheVariants.{Lui, Auipc, Jal, Jalr, Branch, Load, Store, OpImm, ShiftImm, Op, Fence, Ecall, Ebreak}
use Rattle.qs_isa.specs.declared.instruction.LoadKind.{LoadKind}
use Rattle.qs_isa.specs.declared.instruction.StoreKind.{StoreKind}
use Rattle.qs_isa.specs.declared.instruction.StoreKind.TheVariants.{Sb, Sh, Sw}
use Rattle.qs_isa.specs.EnvironmentCalls.{exit_call, put_byte_call, take_byte_call}
use Rattle.qs_isa.specs.Registers.{x0, sp, a0, a7}
use Rattle.qs_isa.specs.Table.{decode_of}
use Rattle.qs_image.specs.Image.{Image}
use Rattle.qs_machine.specs.declared.answers.Cause.TheVariants.{Overflow, JumpMisaligned, LoadMisaligned, LoadOutside, StoreMisaligned, StoreOutside, UnknownCall}
use Rattle.qs_machine.specs.State.{State, register, set_register, with_value, stack_pointer, stack_base, stack_top, can_read, can_write, store_1, store_2, store_4}
use Rattle.qs_machine.specs.Step.{StepResult, Next, Exits, Traps, next_pc, write_and_go, write, jump, go_to, branch, is_taken, load, load_width, loaded, store, store_width, stored, op_imm_result, shift_result, op_result, take_byte, put_byte, environment_call, act, act_on, step_on, fetch, step}
use Rattle.qs_emit.specs.Machine.{Room, base, each, may_write, keeps_to, instruction_at}

-- ---- bytes beside a store

beside : (memory : ℕ → ℕ) (place value at : ℕ) → (at ≡ place → ⊥) → with_value memory place value at ≡ memory at
beside memory place value at ne = let e : (at == place) ≡ false = grind (arith, nat_tests, ne) in rw e refl

beside_1 : (memory : ℕ → ℕ) (address value at : ℕ) → (at ≡ address → ⊥) → store_1 memory address value at ≡ memory at
beside_1 memory address value at ne = beside memory address (value % 2 ^ 8) at ne

beside_2 : (memory : ℕ → ℕ) (address value at : ℕ) → (at < address) ⊎ (address + 2 ≤ at) → store_2 memory address value at ≡ memory at
beside_2 memory address value at out =
    beside_1 (store_1 memory address value) (address + 1) (value / 2 ^ 8) at (λ e. ⊎_elim (λ lt. omega (arith, e, lt)) (λ le. omega (arith, e, le)) out)
    ∙ beside_1 memory address value at (λ e. ⊎_elim (λ lt. omega (arith, e, lt)) (λ le. omega (arith, e, le)) out)

beside_4 : (memory : ℕ → ℕ) (address value at : ℕ) → (at < address) ⊎ (address + 4 ≤ at) → store_4 memory address value at ≡ memory at
beside_4 memory address value at out =
    beside_2 (store_2 memory address value) (address + 2) (value / 2 ^ 16) at (⊎_elim (λ lt. inl (omega (arith, lt))) (λ le. inr (omega (arith, le))) out)
    ∙ beside_2 memory address value at (⊎_elim (λ lt. inl lt) (λ le. inr (omega (arith, le))) out)

pub beside_store : (kind : StoreKind) (memory : ℕ → ℕ) (address value at : ℕ) → (at < address) ⊎ (address + store_width kind ≤ at) → stored kind memory address value at ≡ memory at
beside_store Sb memory address value at out = beside_1 memory address value at (λ e. ⊎_elim (λ lt. omega (arith, e, lt)) (λ le. omega (arith, e, le)) out)
beside_store Sh memory address value at out = beside_2 memory address value at out
beside_store Sw memory address value at out = beside_4 memory address value at out

-- ---- bytes outside of a room

-- a byte that is neither of the stack from x2 up to the ceiling, nor of the data that may be changed
pub record IsOutside (r : Room) (s : State) (at : ℕ) : Type 0 where
  pub off_stack : (at < stack_pointer s) ⊎ (r.ceiling ≤ at)
  pub off_data : r.may_change at ≡ false

-- one of so many bytes, all of which are such, is such
one_of_each : (is_such : ℕ → Bool) (address width at : ℕ) → each is_such address width ≡ true → address ≤ at → at < address + width → is_such at ≡ true
one_of_each is_such address zero at all lo hi = absurd (omega (arith, lo, hi))
one_of_each is_such address (suc width) at all lo hi =
    let p = and_parts (is_such address) (each is_such (address + 1) width) all in
    ⊎_elim (λ e. subst (λ (n : ℕ). is_such n ≡ true) e p.0)
    (⊎_elim (λ lt. one_of_each is_such (address + 1) width at p.1 (omega (arith, lt)) (omega (arith, hi))) (λ lt. absurd (omega (arith, lt, lo))))
    (cases_order address at)

outside_writes : (r : Room) (s : State) (address width at : ℕ) → may_write r s address width ≡ true → IsOutside r s at → 0 < width → (at < address) ⊎ (address + width ≤ at)
outside_writes r s address width at may out some = ⊎_elim (λ lt. inl lt) from_there (cases_lt at address)
  where
    in_stack : address ≤ at → at < address + width → (nat_le (stack_pointer s) address && nat_le (address + width) r.ceiling) ≡ true → ⊥
    in_stack lo hi e =
        let p = and_parts (nat_le (stack_pointer s) address) (nat_le (address + width) r.ceiling) e in
        let low = p.0 in
        let high = p.1 in
        let le : stack_pointer s ≤ address = grind (arith, nat_tests, low) in
        let to : address + width ≤ r.ceiling = grind (arith, nat_tests, high) in
        ⊎_elim (λ lt. omega (arith, lt, le, lo)) (λ ge. omega (arith, ge, to, hi)) out.off_stack

    in_data : address ≤ at → at < address + width → (nat_le (address + width) (base r) && each r.may_change address width) ≡ true → ⊥
    in_data lo hi e =
        let p = and_parts (nat_le (address + width) (base r)) (each r.may_change address width) e in
        let yes = one_of_each r.may_change address width at p.1 lo hi in
        let no = out.off_data in
        let z : true ≡ false = sym yes ∙ no in
        cc

    from_there : address ≤ at → (at < address) ⊎ (address + width ≤ at)
    from_there lo =
        ⊎_elim
        (λ hi. absurd (⊎_elim (in_stack lo hi) (in_data lo hi) (or_cases (nat_le (stack_pointer s) address && nat_le (address + width) r.ceiling) (nat_le (address + width) (base r) && each r.may_change address width) may)))
        (λ ge. inr ge)
        (cases_lt at (address + width))

some_width : (kind : StoreKind) → 0 < store_width kind
some_width Sb = omega arith
some_width Sh = omega arith
some_width Sw = omega arith

-- ---- instructions

module _ (image : Image) (size : ℕ) (r : Room) (s : State) (at : ℕ) (out : IsOutside r s at) where
  abbrev Leaves : StepResult → Type 0
  Leaves (Next t) = t.memory at ≡ s.memory at
  Leaves (Exits status) = Unit {0}
  Leaves (Traps cause) = Unit {0}

  either : (b : Bool) (x y : StepResult) → Leaves x → Leaves y → Leaves (if b then x else y)
  either true x y p q = p
  either false x y p q = q

  memory_if : (t u : State) (b : Bool) → u.memory at ≡ t.memory at → (if b then t else u).memory at ≡ t.memory at
  memory_if t u true e = refl
  memory_if t u false e = e

  writes_and_goes : (d value pc : ℕ) → Leaves (write_and_go size s d value pc)
  writes_and_goes d value pc =
      either (d == sp && (nat_lt value (stack_base size) || nat_lt stack_top value)) (Traps Overflow) (Next (record (set_register s d value) { pc = pc })) tt (memory_if s (record s { registers = with_value s.registers d value }) (d == x0) refl)

  jumps : (d target : ℕ) → Leaves (jump size s d target)
  jumps d target = either (target % 4 == 0) (write_and_go size s d (next_pc s) target) (Traps JumpMisaligned) (writes_and_goes d (next_pc s) target) tt

  branches : (taken : Bool) (target : ℕ) → Leaves (branch s taken target)
  branches false target = refl
  branches true target = either (target % 4 == 0) (go_to s target) (Traps JumpMisaligned) refl tt

  loads : (kind : LoadKind) (d address : ℕ) → Leaves (load image size s kind d address)
  loads kind d address =
      let reads = write size s d (loaded kind s.memory address) in
      let inside = can_read image size address (load_width kind) in
      either (not (address % load_width kind == 0)) (Traps LoadMisaligned) (if inside then reads else Traps LoadOutside) tt
      (either inside reads (Traps LoadOutside) (writes_and_goes d (loaded kind s.memory address) (next_pc s)) tt)

  stores : (kind : StoreKind) (address value : ℕ) → may_write r s address (store_width kind) ≡ true → Leaves (store image size s kind address value)
  stores kind address value may =
      let writes = Next (record s { pc = next_pc s; memory = stored kind s.memory address value }) in
      let inside = can_write image size address (store_width kind) in
      either (not (address % store_width kind == 0)) (Traps StoreMisaligned) (if inside then writes else Traps StoreOutside) tt
      (either inside writes (Traps StoreOutside) (beside_store kind s.memory address value at (outside_writes r s address (store_width kind) at may out (some_width kind))) tt)

  takes_byte : (input : List ℕ) → Leaves (take_byte s input)
  takes_byte [] = refl
  takes_byte (byte ∷ bytes) = refl

  calls : (call : ℕ) → Leaves (environment_call s call)
  calls call =
      let byte = register s a0 % 256 in
      let last : StepResult = if call == take_byte_call then take_byte s s.input else Traps UnknownCall in
      let later : StepResult = if call == put_byte_call then put_byte s byte else last in
      either (call == exit_call) (Exits byte) later tt
      (either (call == put_byte_call) (put_byte s byte) last refl
      (either (call == take_byte_call) (take_byte s s.input) (Traps UnknownCall) (takes_byte s.input) tt))

  acts : (i : Instr) → keeps_to r s i ≡ true → Leaves (act image size s i)
  acts (Lui d immediate) k = writes_and_goes d immediate (next_pc s)
  acts (Auipc d immediate) k = writes_and_goes d (add s.pc immediate) (next_pc s)
  acts (Jal d offset) k = jumps d (add s.pc offset)
  acts (Jalr d a offset) k = jumps d (add (register s a) offset / 2 * 2)
  acts (Branch kind a b offset) k = branches (is_taken kind (register s a) (register s b)) (add s.pc offset)
  acts (Load kind d a offset) k = loads kind d (add (register s a) offset)
  acts (Store kind a b offset) k = stores kind (add (register s a) offset) (register s b) k
  acts (OpImm kind d a immediate) k = writes_and_goes d (op_imm_result kind (register s a) immediate) (next_pc s)
  acts (ShiftImm kind d a amount) k = writes_and_goes d (shift_result kind (register s a) amount) (next_pc s)
  acts (Op kind d a b) k = writes_and_goes d (op_result kind (register s a) (register s b)) (next_pc s)
  acts Fence k = refl
  acts Ecall k = calls (register s a7)
  acts Ebreak k = tt

  left : (x : StepResult) (next : State) → Leaves x → x ≡ Next next → next.memory at ≡ s.memory at
  left (Next t) next l e = let same : t ≡ next = cc in subst (λ (u : State). u.memory at ≡ s.memory at) same l
  left (Exits status) next l e = cc
  left (Traps cause) next l e = cc

  fetched : (o : Option ℕ) (i : Instr) (next : State) → (o >>= decode_of) ≡ Some i → keeps_to r s i ≡ true → step_on image size s o ≡ Next next → next.memory at ≡ s.memory at
  fetched None i next is k e = cc
  fetched (Some word) i next is k e = decoded (decode_of word) is e
    where
      decoded : (d : Option Instr) → d ≡ Some i → act_on image size s d ≡ Next next → next.memory at ≡ s.memory at
      decoded None is e = cc
      decoded (Some j) is e =
          let same : j ≡ i = cc in
          left (act image size s j) next (acts j (subst (λ (x : Instr). keeps_to r s x ≡ true) (sym same) k)) e

  pub leaves : (i : Instr) (next : State) → instruction_at image s.pc ≡ Some i → keeps_to r s i ≡ true → step image size s ≡ Next next → next.memory at ≡ s.memory at
  leaves i next is k e = fetched (fetch image s.pc) i next is k e
