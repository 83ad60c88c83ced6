-- A step keeps states states.
use Rattle.std.proofs.Common.{◌≡◌, ℕ, ◌+◌, ◌-◌, ◌*◌, ◌/◌, ◌%◌, ◌^◌, ◌<◌, Bool, true, false, List, [], ◌∷◌, All, Option, Some, None, refl, sym, subst, arith}
use Rattle.std.specs.Prelude.{if◌then◌else◌, nat_lt, not, ◌&&◌, ◌||◌, ◌==◌, slice_index}
use Rattle.std.proofs.lemmas.Bool.Decides.{nat_tests}
use Rattle.std.proofs.lemmas.List.{append-nil}
use Rattle.std.proofs.lemmas.List.Elements.{All-head, All-tail}
use Rattle.qs_base.specs.Words.{add}
use Rattle.qs_isa.specs.Addresses.{code_start}
use Rattle.qs_isa.specs.declared.instruction.Instr.{Instr}
use Rattle.qs_isa.specs.declared.instruction.Instr.TheVariants.{Lui, Auipc, Jal, Jalr, Branch, Load, Store, OpImm, ShiftImm, Op, Fence, Ecall, Ebreak}
use Rattle.qs_isa.specs.declared.instruction.LoadKind.{LoadKind}
use Rattle.qs_isa.specs.declared.instruction.StoreKind.{StoreKind}
use Rattle.qs_isa.specs.Registers.{x0, sp, a0, a7}
use Rattle.qs_isa.specs.EnvironmentCalls.{exit_call, put_byte_call, take_byte_call}
use Rattle.qs_isa.specs.Table.{decode_of}
use Rattle.qs_image.specs.Image.{Image}
use Rattle.qs_machine.specs.State.{State, register, set_register, with_value, stack_base, stack_top, is_code, can_read, can_write}
use Rattle.qs_machine.specs.declared.answers.Cause.TheVariants.{Overflow, JumpMisaligned, LoadMisaligned, LoadOutside, StoreMisaligned, StoreOutside, UnknownCall}
use Rattle.qs_machine.specs.Step.{StepResult, Next, Exits, Traps, next_pc, write_and_go, write, jump, go_to, branch, is_taken, load, load_width, loaded, store, store_width, stored, op_imm_result, shift_result, op_result, take_byte, put_byte, environment_call, act, act_on, step_on}
use Rattle.qs_machine.specs.Laws.{IsProper, IsState, IsKept, StepsKeepStates}
use Rattle.qs_machine.proofs.Results.{chosen, IsWithin, decoded_within, op_imm_small, shift_small, op_small, loaded_small, stored_bytes}

module _ (image : Image) (size : ℕ) (s : State) (h : IsState s) (room : s.pc + 4 < 2 ^ 32) where
  abbrev Keeps : StepResult → Type 0
  Keeps (Next t) = IsKept s t
  Keeps (Exits status) = Unit {0}
  Keeps (Traps cause) = Unit {0}

  either : (b : Bool) (x y : StepResult) → (b ≡ true → Keeps x) → Keeps y → Keeps (if b then x else y)
  either true x y p q = p refl
  either false x y p q = q

  next_aligned : (s.pc + 4) % 4 ≡ 0
  next_aligned = let a = h.proper.aligned in omega (arith, a)

  small : (r : ℕ) → register s r < 2 ^ 32
  small r = chosen (r == x0) 0 (s.registers r) (2 ^ 32) (omega arith) (h.proper.words r)

  -- ---- pc and registers

  at : (pc : ℕ) → pc % 4 ≡ 0 → pc < 2 ^ 32 → IsProper pc s.registers
  at pc aligned pc_small = record {
    aligned = aligned;
    small = pc_small;
    words = h.proper.words;
    x0_is_0 = h.proper.x0_is_0;
    no_more = h.proper.no_more;
  }

  with : (d value pc : ℕ) → (d == x0) ≡ false → d < 32 → value < 2 ^ 32 → pc % 4 ≡ 0 → pc < 2 ^ 32 → IsProper pc (with_value s.registers d value)
  with d value pc not_0 within value_small aligned pc_small = record {
    aligned = aligned;
    small = pc_small;
    words = λ r. chosen (r == d) value (s.registers r) (2 ^ 32) value_small (h.proper.words r);
    x0_is_0 = let other : (x0 == d) ≡ false = grind (arith, nat_tests, not_0) in rw other h.proper.x0_is_0;
    no_more = λ r le. let other : (r == d) ≡ false = grind (arith, nat_tests, le, within) in rw other (h.proper.no_more r le);
  }

  goes_with : (pc : ℕ) (registers : ℕ → ℕ) → IsProper pc registers → IsKept s (record s { pc = pc; registers = registers })
  goes_with pc registers proper = record {
    state = record { proper = proper; bytes = h.bytes; input = h.input };
    puts = ([], sym (append-nil s.output));
    takes = ([], refl);
  }

  goes : (pc : ℕ) → pc % 4 ≡ 0 → pc < 2 ^ 32 → Keeps (go_to s pc)
  goes pc aligned pc_small = goes_with pc s.registers (at pc aligned pc_small)

  writes_and_goes : (d value pc : ℕ) → d < 32 → value < 2 ^ 32 → pc % 4 ≡ 0 → pc < 2 ^ 32 → Keeps (write_and_go size s d value pc)
  writes_and_goes d value pc within value_small aligned pc_small =
      either (d == sp && (nat_lt value (stack_base size) || nat_lt stack_top value)) (Traps Overflow) (Next (record (set_register s d value) { pc = pc })) (λ t. tt) (by (d == x0) refl)
    where
      by : (b : Bool) → (d == x0) ≡ b → IsKept s (record (if b then s else record s { registers = with_value s.registers d value }) { pc = pc })
      by true e = goes_with pc s.registers (at pc aligned pc_small)
      by false e = goes_with pc (with_value s.registers d value) (with d value pc e within value_small aligned pc_small)

  writes : (d value : ℕ) → d < 32 → value < 2 ^ 32 → Keeps (write size s d value)
  writes d value within value_small = writes_and_goes d value (next_pc s) within value_small next_aligned room

  -- ---- jumps and branches

  jumps : (d target : ℕ) → d < 32 → target < 2 ^ 32 → Keeps (jump size s d target)
  jumps d target within target_small =
      either (target % 4 == 0) (write_and_go size s d (next_pc s) target) (Traps JumpMisaligned)
      (λ t. let aligned : target % 4 ≡ 0 = grind (arith, nat_tests, t) in writes_and_goes d (next_pc s) target within room aligned target_small) tt

  branches : (taken : Bool) (target : ℕ) → target < 2 ^ 32 → Keeps (branch s taken target)
  branches false target target_small = goes (next_pc s) next_aligned room
  branches true target target_small =
      either (target % 4 == 0) (go_to s target) (Traps JumpMisaligned)
      (λ t. let aligned : target % 4 ≡ 0 = grind (arith, nat_tests, t) in goes target aligned target_small) tt

  -- ---- loads and stores

  loads : (kind : LoadKind) (d address : ℕ) → d < 32 → Keeps (load image size s kind d address)
  loads kind d address within =
      let reads = write size s d (loaded kind s.memory address) in
      let inside = can_read image size address (load_width kind) in
      either (not (address % load_width kind == 0)) (Traps LoadMisaligned) (if inside then reads else Traps LoadOutside) (λ t. tt)
      (either inside reads (Traps LoadOutside) (λ t. writes d (loaded kind s.memory address) within (loaded_small kind s.memory h.bytes address)) tt)

  stores : (kind : StoreKind) (address value : ℕ) → Keeps (store image size s kind address value)
  stores kind address value =
      let stands = Next (record s { pc = next_pc s; memory = stored kind s.memory address value }) in
      let inside = can_write image size address (store_width kind) in
      either (not (address % store_width kind == 0)) (Traps StoreMisaligned) (if inside then stands else Traps StoreOutside) (λ t. tt)
      (either inside stands (Traps StoreOutside) (λ t. record {
        state = record { proper = at (next_pc s) next_aligned room; bytes = stored_bytes kind s.memory h.bytes address value; input = h.input };
        puts = ([], sym (append-nil s.output));
        takes = ([], refl);
      }) tt)

  -- ---- the environment

  answers : (value : ℕ) → value < 2 ^ 32 → IsProper (next_pc s) (with_value s.registers a0 value)
  answers value value_small = with a0 value (next_pc s) refl (omega arith) value_small next_aligned room

  takes_byte : (input : List ℕ) → s.input ≡ input → Keeps (take_byte s input)
  takes_byte [] e = goes_with (next_pc s) (with_value s.registers a0 0xffffffff) (answers 0xffffffff (omega arith))
  takes_byte (byte ∷ input) e =
      let all : All (λ (b : ℕ). b < 2 ^ 8) (byte ∷ input) = subst (λ (l : List ℕ). All (λ (b : ℕ). b < 2 ^ 8) l) e h.input in
      let first : byte < 2 ^ 8 = All-head (λ (b : ℕ). b < 2 ^ 8) byte input all in
      record {
        state = record { proper = answers byte (omega (arith, first)); bytes = h.bytes; input = All-tail (λ (b : ℕ). b < 2 ^ 8) byte input all };
        puts = ([], sym (append-nil s.output));
        takes = (byte ∷ [], e);
      }

  puts_byte : (byte : ℕ) → byte < 2 ^ 32 → Keeps (put_byte s byte)
  puts_byte byte byte_small = record {
    state = record { proper = answers byte byte_small; bytes = h.bytes; input = h.input };
    puts = (byte ∷ [], refl);
    takes = ([], refl);
  }

  calls : (call : ℕ) → Keeps (environment_call s call)
  calls call =
      let byte = register s a0 % 256 in
      let last : StepResult = if call == take_byte_call then take_byte s s.input else Traps UnknownCall in
      let later : StepResult = if call == put_byte_call then put_byte s byte else last in
      either (call == exit_call) (Exits byte) later (λ t. tt)
      (either (call == put_byte_call) (put_byte s byte) last (λ t. puts_byte byte (omega arith))
      (either (call == take_byte_call) (take_byte s s.input) (Traps UnknownCall) (λ t. takes_byte s.input refl) tt))

  -- ---- the step

  acts : (i : Instr) → IsWithin i → Keeps (act image size s i)
  acts (Lui d immediate) w = writes d immediate w.0 w.1
  acts (Auipc d immediate) w = writes d (add s.pc immediate) w (omega arith)
  acts (Jal d offset) w = jumps d (add s.pc offset) w (omega arith)
  acts (Jalr d a offset) w = jumps d (add (register s a) offset / 2 * 2) w (omega arith)
  acts (Branch kind a b offset) w = branches (is_taken kind (register s a) (register s b)) (add s.pc offset) (omega arith)
  acts (Load kind d a offset) w = loads kind d (add (register s a) offset) w
  acts (Store kind a b offset) w = stores kind (add (register s a) offset) (register s b)
  acts (OpImm kind d a immediate) w = writes d (op_imm_result kind (register s a) immediate) w.0 (op_imm_small kind (register s a) immediate (small a) w.1)
  acts (ShiftImm kind d a amount) w = writes d (shift_result kind (register s a) amount) w (shift_small kind (register s a) amount (small a))
  acts (Op kind d a b) w = writes d (op_result kind (register s a) (register s b)) w (op_small kind (register s a) (register s b) (small a) (small b))
  acts Fence w = goes (next_pc s) next_aligned room
  acts Ecall w = calls (register s a7)
  acts Ebreak w = tt

  pub steps_on : (word : ℕ) → Keeps (act_on image size s (decode_of word))
  steps_on word = by (decode_of word) refl
    where
      by : (o : Option Instr) → decode_of word ≡ o → Keeps (act_on image size s o)
      by None e = tt
      by (Some i) e = acts i (decoded_within word i e)

  pub kept : (r : StepResult) (next : State) → Keeps r → r ≡ Next next → IsKept s next
  kept (Next t) next k e = let same : t ≡ next = cc in subst (λ (u : State). IsKept s u) same k
  kept (Exits status) next k e = cc
  kept (Traps cause) next k e = cc

pub steps_keep_states : StepsKeepStates
steps_keep_states image size s next short h e = by (is_code image s.pc 4) refl e
  where
    by : (b : Bool) → is_code image s.pc 4 ≡ b → step_on image size s (if b then Some (slice_index image.code ((s.pc - code_start) / 4)) else None) ≡ Next next → IsKept s next
    by true t e =
        let room : s.pc + 4 < 2 ^ 32 = grind (arith, nat_tests, t, short) in
        let word = slice_index image.code ((s.pc - code_start) / 4) in
        kept image size s h room (act_on image size s (decode_of word)) next (steps_on image size s h room word) e
    by false t e = cc
