-- How a call of the tool ends.
use Rattle.std.specs.Prelude.{ℕ}
use Rattle.qs_elf.specs.declared.fault.ElfFault.{ElfFault}
use Rattle.qs_elf.specs.declared.fault.ElfFault.TheVariants as elf
use Rattle.qs_driver_session.specs.declared.status.Status.{Status}
use Rattle.qs_driver_session.specs.declared.status.Status.TheVariants.{Done, Source, Proof, Words, Missing, StoreFailed, Image, Elf, Trapped, StepLimit, NoBound, StackTooLarge, SinkFailed, NoMemory}

-- the number with which the program ends
abbrev pub code_of : Status → ℕ
code_of Done = 0
code_of (Source fault) = 1
code_of (Proof fault) = 2
code_of (Words fault) = 3
code_of (Missing kind) = 4
code_of (StoreFailed kind) = 5
code_of (Image fault) = 6
code_of (Elf fault) = 6
code_of (Trapped cause pc) = 7
code_of (StepLimit steps) = 8
code_of (NoBound bound) = 9
code_of (StackTooLarge size) = 10
code_of SinkFailed = 11
code_of NoMemory = 12

-- the status at a fault of an executable; want of memory has its own
abbrev pub elf_status : ElfFault → Status
elf_status elf.Short = Elf elf.Short
elf_status (elf.Length bytes) = Elf (elf.Length bytes)
elf_status (elf.Field at) = Elf (elf.Field at)
elf_status (elf.Image fault) = Elf (elf.Image fault)
elf_status (elf.Differs word) = Elf (elf.Differs word)
elf_status elf.NoMemory = NoMemory
