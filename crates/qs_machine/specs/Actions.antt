-- The actions of a step: what a part of it does, as a function of the image, the size of the stack and the state.
use Rattle.std.specs.Prelude.{ℕ, Bool}
use Rattle.qs_isa.specs.declared.instruction.Instr.{Instr}
use Rattle.qs_isa.specs.declared.instruction.LoadKind.{LoadKind}
use Rattle.qs_isa.specs.declared.instruction.StoreKind.{StoreKind}
use Rattle.qs_image.specs.Image.{Image}
use Rattle.qs_machine.specs.State.{State}
use Rattle.qs_machine.specs.Step.{StepResult}
use Rattle.qs_machine.specs.Step as parts

abbrev pub Action : Type 0
Action = Image → ℕ → State → StepResult

abbrev pub write_and_go : ℕ → ℕ → ℕ → Action
write_and_go rd value pc = λ image size s. parts.write_and_go size s rd value pc

abbrev pub write : ℕ → ℕ → Action
write rd value = λ image size s. parts.write size s rd value

abbrev pub go_to : ℕ → Action
go_to pc = λ image size s. parts.go_to s pc

abbrev pub jump : ℕ → ℕ → Action
jump rd target = λ image size s. parts.jump size s rd target

abbrev pub branch : Bool → ℕ → Action
branch taken target = λ image size s. parts.branch s taken target

abbrev pub load : LoadKind → ℕ → ℕ → Action
load kind rd address = λ image size s. parts.load image size s kind rd address

abbrev pub store : StoreKind → ℕ → ℕ → Action
store kind address value = λ image size s. parts.store image size s kind address value

abbrev pub take_byte : Action
take_byte = λ image size s. parts.take_byte s s.input

abbrev pub environment_call : ℕ → Action
environment_call call = λ image size s. parts.environment_call s call

abbrev pub act : Instr → Action
act instruction = λ image size s. parts.act image size s instruction

-- the whole step
abbrev pub step : Action
step = λ image size s. parts.step image size s
