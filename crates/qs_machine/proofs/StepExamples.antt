-- One step, by hand: `addi x2, x2, -16` lowers the stack pointer, unless the stack is too small.
use Rattle.std.specs.Prelude.{◌≡◌, ℕ, [], ◌∷◌, codes, Some, refl}
use Rattle.qs_isa.specs.declared.instruction.Instr.TheVariants.{OpImm, Ecall}
use Rattle.qs_isa.specs.declared.instruction.OpImmKind.TheVariants.{Addi}
use Rattle.qs_isa.specs.Registers.{sp}
use Rattle.qs_image.specs.Image.{Image}
use Rattle.qs_image.specs.declared.version.Version.TheVariants.{Second}
use Rattle.qs_machine.specs.declared.answers.Cause.TheVariants.{Overflow}
use Rattle.qs_machine.specs.State.{stack_pointer}
use Rattle.qs_machine.specs.Step.{StepResult, Next, Traps, Exits, act}
use Rattle.qs_machine.specs.Run.{start}

abbrev image : Image
image = record {
  version = Second;
  entry = 65536;
  parameters = 0;
  unsigned_set = 0;
  functions = record { name = codes "main"; address = 65536; cost = 16; parameters = Some 0 } ∷ [];
  code = 0xff010113 ∷ [];
  bytes = [];
}

abbrev lowered : StepResult → ℕ
lowered (Next s) = stack_pointer s
lowered (Exits status) = 0
lowered (Traps cause) = 0

lowers : lowered (act image 16 (start image [] []) (OpImm Addi sp sp 0xfffffff0)) ≡ 0x7ffffff0
lowers = refl

overflows : act image 15 (start image [] []) (OpImm Addi sp sp 0xfffffff0) ≡ Traps Overflow
overflows = refl

-- a7 is 0, so this ecall exits; the status is a0 modulo 256
exits : act image 0 (start image (263 ∷ []) []) Ecall ≡ Exits 7
exits = refl
