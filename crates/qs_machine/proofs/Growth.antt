-- The output only grows.
use Rattle.std.proofs.Common.{◌≡◌, ℕ, zero, suc, ◌*◌, ◌/◌, ◌%◌, Bool, true, false, List, [], ◌∷◌, ◌++◌, Option, Some, None, refl, sym, ◌∙◌, ap, append_assoc}
use Rattle.std.specs.Prelude.{if◌then◌else◌, nat_eq, nat_lt, not, ◌&&◌, ◌||◌, ◌==◌}
use Rattle.std.proofs.lemmas.List.{append-nil}
use Rattle.qs_isa.specs.declared.instruction.Instr.{Instr}
use Rattle.qs_isa.specs.declared.instruction.Instr.TheVariants.{Lui, Auipc, Jal, Jalr, Branch, Load, Store, OpImm, ShiftImm, Op, Fence, Ecall, Ebreak}
use Rattle.qs_isa.specs.declared.instruction.LoadKind.{LoadKind}
use Rattle.qs_isa.specs.declared.instruction.StoreKind.{StoreKind}
use Rattle.qs_isa.specs.Registers.{x0, sp, a0, a7}
use Rattle.qs_isa.specs.EnvironmentCalls.{exit_call, put_byte_call, take_byte_call}
use Rattle.qs_isa.specs.Table.{decode_of}
use Rattle.qs_image.specs.Image.{Image}
use Rattle.qs_base.specs.Words.{add}
use Rattle.qs_machine.specs.State.{State, register, set_register, with_value, stack_base, stack_top, can_read, can_write}
use Rattle.qs_machine.specs.declared.answers.Cause.TheVariants.{Overflow, JumpMisaligned, LoadMisaligned, LoadOutside, StoreMisaligned, StoreOutside, UnknownCall}
use Rattle.qs_machine.specs.Step.{StepResult, Next, Exits, Traps, next_pc, write_and_go, write, jump, go_to, branch, is_taken, load, load_width, loaded, store, store_width, stored, op_imm_result, shift_result, op_result, take_byte, put_byte, environment_call, act, act_on, step_on, fetch, step}
use Rattle.qs_machine.specs.Run.{Outcome, run, outcome_after, output_so_far}

-- a list and what stands behind it
pub record IsFront (front whole : List ℕ) : Type 0 where
  pub rest : List ℕ
  pub parts : whole ≡ front ++ rest

pub same_front : (front whole : List ℕ) → whole ≡ front → IsFront front whole
same_front front whole e = record { rest = []; parts = e ∙ sym (append-nil front) }

pub longer_front : (a b c : List ℕ) → IsFront a b → IsFront b c → IsFront a c
longer_front a b c f g = record { rest = f.rest ++ g.rest; parts = g.parts ∙ ap (λ (x : List ℕ). x ++ g.rest) f.parts ∙ append_assoc a f.rest g.rest }

abbrev pub Grows : State → StepResult → Type 0
Grows s (Next t) = IsFront s.output t.output
Grows s (Exits status) = Unit {0}
Grows s (Traps cause) = Unit {0}

either : (s : State) (b : Bool) (x y : StepResult) → Grows s x → Grows s y → Grows s (if b then x else y)
either s true x y p q = p
either s false x y p q = q

output_if : (s t : State) (b : Bool) → t.output ≡ s.output → (if b then s else t).output ≡ s.output
output_if s t true e = refl
output_if s t false e = e

output-set_register : (s : State) (n value : ℕ) → (set_register s n value).output ≡ s.output
output-set_register s n value = output_if s (record s { registers = with_value s.registers n value }) (nat_eq n x0) refl

grows-write_and_go : (size : ℕ) (s : State) (rd value pc : ℕ) → Grows s (write_and_go size s rd value pc)
grows-write_and_go size s rd value pc =
    either s (rd == sp && (nat_lt value (stack_base size) || nat_lt stack_top value)) (Traps Overflow) (Next (record (set_register s rd value) { pc = pc }))
    (tt {0}) (same_front s.output (set_register s rd value).output (output-set_register s rd value))

grows-jump : (size : ℕ) (s : State) (rd target : ℕ) → Grows s (jump size s rd target)
grows-jump size s rd target =
    either s (target % 4 == 0) (write_and_go size s rd (next_pc s) target) (Traps JumpMisaligned) (grows-write_and_go size s rd (next_pc s) target) (tt {0})

grows-branch : (s : State) (taken : Bool) (target : ℕ) → Grows s (branch s taken target)
grows-branch s false target = same_front s.output s.output refl
grows-branch s true target = either s (target % 4 == 0) (go_to s target) (Traps JumpMisaligned) (same_front s.output s.output refl) (tt {0})

grows-load : (image : Image) (size : ℕ) (s : State) (kind : LoadKind) (rd address : ℕ) → Grows s (load image size s kind rd address)
grows-load image size s kind rd address =
    let reads = write size s rd (loaded kind s.memory address) in
    let inside = can_read image size address (load_width kind) in
    either s (not (address % load_width kind == 0)) (Traps LoadMisaligned) (if inside then reads else Traps LoadOutside) (tt {0})
    (either s inside reads (Traps LoadOutside) (grows-write_and_go size s rd (loaded kind s.memory address) (next_pc s)) (tt {0}))

grows-store : (image : Image) (size : ℕ) (s : State) (kind : StoreKind) (address value : ℕ) → Grows s (store image size s kind address value)
grows-store image size s kind address value =
    let writes = Next (record s { pc = next_pc s; memory = stored kind s.memory address value }) in
    let inside = can_write image size address (store_width kind) in
    either s (not (address % store_width kind == 0)) (Traps StoreMisaligned) (if inside then writes else Traps StoreOutside) (tt {0})
    (either s inside writes (Traps StoreOutside) (same_front s.output s.output refl) (tt {0}))

grows-take_byte : (s : State) (input : List ℕ) → Grows s (take_byte s input)
grows-take_byte s [] = same_front s.output s.output refl
grows-take_byte s (byte ∷ bytes) = same_front s.output s.output refl

grows-put_byte : (s : State) (byte : ℕ) → Grows s (put_byte s byte)
grows-put_byte s byte = record { rest = byte ∷ []; parts = refl }

grows-environment_call : (s : State) (call : ℕ) → Grows s (environment_call s call)
grows-environment_call s call =
    let byte = register s a0 % 256 in
    let last : StepResult = if call == take_byte_call then take_byte s s.input else Traps UnknownCall in
    let later : StepResult = if call == put_byte_call then put_byte s byte else last in
    either s (call == exit_call) (Exits byte) later (tt {0})
    (either s (call == put_byte_call) (put_byte s byte) last (grows-put_byte s byte)
    (either s (call == take_byte_call) (take_byte s s.input) (Traps UnknownCall) (grows-take_byte s s.input) (tt {0})))

grows-act : (image : Image) (size : ℕ) (s : State) (i : Instr) → Grows s (act image size s i)
grows-act image size s (Lui rd immediate) = grows-write_and_go size s rd immediate (next_pc s)
grows-act image size s (Auipc rd immediate) = grows-write_and_go size s rd (add s.pc immediate) (next_pc s)
grows-act image size s (Jal rd offset) = grows-jump size s rd (add s.pc offset)
grows-act image size s (Jalr rd rs1 offset) = grows-jump size s rd (add (register s rs1) offset / 2 * 2)
grows-act image size s (Branch kind rs1 rs2 offset) = grows-branch s (is_taken kind (register s rs1) (register s rs2)) (add s.pc offset)
grows-act image size s (Load kind rd rs1 offset) = grows-load image size s kind rd (add (register s rs1) offset)
grows-act image size s (Store kind rs1 rs2 offset) = grows-store image size s kind (add (register s rs1) offset) (register s rs2)
grows-act image size s (OpImm kind rd rs1 immediate) = grows-write_and_go size s rd (op_imm_result kind (register s rs1) immediate) (next_pc s)
grows-act image size s (ShiftImm kind rd rs1 amount) = grows-write_and_go size s rd (shift_result kind (register s rs1) amount) (next_pc s)
grows-act image size s (Op kind rd rs1 rs2) = grows-write_and_go size s rd (op_result kind (register s rs1) (register s rs2)) (next_pc s)
grows-act image size s Fence = same_front s.output s.output refl
grows-act image size s Ecall = grows-environment_call s (register s a7)
grows-act image size s Ebreak = tt {0}

grows-act_on : (image : Image) (size : ℕ) (s : State) (i : Option Instr) → Grows s (act_on image size s i)
grows-act_on image size s None = tt {0}
grows-act_on image size s (Some i) = grows-act image size s i

grows-step_on : (image : Image) (size : ℕ) (s : State) (word : Option ℕ) → Grows s (step_on image size s word)
grows-step_on image size s None = tt {0}
grows-step_on image size s (Some word) = grows-act_on image size s (decode_of word)

pub grows-step : (image : Image) (size : ℕ) (s : State) → Grows s (step image size s)
grows-step image size s = grows-step_on image size s (fetch image s.pc)

grows-after : (s : State) (r : StepResult) (go : State → Outcome) → Grows s r → ((t : State) → IsFront t.output (output_so_far (go t))) → IsFront s.output (output_so_far (outcome_after s r go))
grows-after s (Next t) go first later = longer_front s.output t.output (output_so_far (go t)) first (later t)
grows-after s (Exits status) go first later = same_front s.output s.output refl
grows-after s (Traps cause) go first later = same_front s.output s.output refl

pub grows-run : (image : Image) (size steps : ℕ) (s : State) → IsFront s.output (output_so_far (run image size steps s))
grows-run image size zero s = same_front s.output s.output refl
grows-run image size (suc steps) s = grows-after s (step image size s) (run image size steps) (grows-step image size s) (grows-run image size steps)
