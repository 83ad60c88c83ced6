-- How the calls of the tool end: the order of all tests, and what is free in a status.
use Rattle.std.specs.Prelude.{ℕ, List}
use Rattle.qs_report.specs.declared.fault_texts.ProofText.{ProofText}
use Rattle.qs_driver_steps.specs.Statuses.{Statuses}
use Rattle.qs_driver_session.specs.Faults.{status_line}
use Rattle.qs_driver_session.specs.Names.{Names}
use Rattle.qs_driver_session.specs.Told.{EntryPlace, place_of}
use Rattle.qs_driver_session.specs.declared.status.FileKind.{FileKind}
use Rattle.qs_driver_session.specs.declared.status.FileKind.TheVariants as kinds
use Rattle.qs_driver_session.specs.declared.status.ProofFault.{ProofFault}
use Rattle.qs_driver_session.specs.declared.status.ProofFault.TheVariants.{Text, Cycle, NoEntry, Order, Entry}
use Rattle.qs_driver_session.specs.declared.status.SourceFault.{SourceFault}
use Rattle.qs_driver_session.specs.declared.status.SourceFault.TheVariants.{TooLong, Lex, Syntax, Typing}
use Rattle.qs_driver_session.specs.declared.status.Status.{Status}
use Rattle.qs_driver_session.specs.declared.status.Status.TheVariants.{Done, Source, Proof, Words, Missing, StoreFailed, Image, Elf, Trapped, StepLimit, NoBound, StackTooLarge, SinkFailed, NoMemory}
use Rattle.qs_driver_session.specs.declared.status.WordsFault.{WordsFault}
use Rattle.qs_driver_session.specs.declared.status.WordsFault.TheVariants.{Usage, SameName, ArgCount, ArgRange}

-- ---- the order of the tests

-- a file that is only written is never missed; no command reads both an image and an executable
abbrev pub file_number : FileKind → ℕ
file_number kinds.Source = 3
file_number kinds.Derivation = 7
file_number kinds.Image = 13
file_number kinds.Elf = 13
file_number kinds.Input = 19
file_number kinds.Output = 0

abbrev pub source_number : SourceFault → ℕ
source_number (TooLong kind) = file_number kind
source_number (Lex fault pos) = 4
source_number (Syntax fault place) = 5
source_number (Typing fault place) = 6

-- Before them, at 8, there is the core of the source, which has no fault. No command fills in entries and needs all.
abbrev pub proof_number : ProofFault → ℕ
proof_number (Text fault pos) = 9
proof_number (Cycle functions) = 10
proof_number (NoEntry name) = 10
proof_number (Order name) = 11
proof_number (Entry function spot text) = 12

abbrev pub words_number : WordsFault → ℕ
words_number Usage = 1
words_number SameName = 2
words_number (ArgCount expected given) = 15
words_number (ArgRange i) = 15

-- all ends, behind the image that is made, at 16, and the run, at 20
abbrev pub last_number : ℕ
last_number = 21

abbrev pub number_of : Status → ℕ
number_of Done = 21
number_of (Source fault) = source_number fault
number_of (Proof fault) = proof_number fault
number_of (Words fault) = words_number fault
number_of (Missing kind) = file_number kind
number_of (StoreFailed kind) = 0
number_of (Image fault) = 14
number_of (Elf fault) = 14
number_of (Trapped cause pc) = 21
number_of (StepLimit steps) = 21
number_of (NoBound bound) = 18
number_of (StackTooLarge size) = 17
number_of SinkFailed = 0
number_of NoMemory = 0

-- ---- what is fixed in a status

-- Of functions that call each other in turn there may be several, and any is told. Of an entry the place and what is
-- wrong there are fixed.
pub data SeenStatus : Type 0 where
  exactly : Status → SeenStatus
  some_cycle : SeenStatus
  some_entry : (function : List ℕ) → EntryPlace → ProofText → SeenStatus
  some_end : SeenStatus

abbrev pub seen_proof : ProofFault → SeenStatus
seen_proof (Text fault pos) = exactly (Proof (Text fault pos))
seen_proof (Cycle functions) = some_cycle
seen_proof (NoEntry name) = exactly (Proof (NoEntry name))
seen_proof (Order name) = exactly (Proof (Order name))
seen_proof (Entry function spot text) = some_entry function (place_of spot) text

abbrev pub seen_as : Status → SeenStatus
seen_as Done = some_end
seen_as (Source fault) = exactly (Source fault)
seen_as (Proof fault) = seen_proof fault
seen_as (Words fault) = exactly (Words fault)
seen_as (Missing kind) = exactly (Missing kind)
seen_as (StoreFailed kind) = exactly (StoreFailed kind)
seen_as (Image fault) = exactly (Image fault)
seen_as (Elf fault) = exactly (Elf fault)
seen_as (Trapped cause pc) = some_end
seen_as (StepLimit steps) = some_end
seen_as (NoBound bound) = exactly (NoBound bound)
seen_as (StackTooLarge size) = exactly (StackTooLarge size)
seen_as SinkFailed = exactly SinkFailed
seen_as NoMemory = exactly NoMemory

-- ---- all of it

-- the names as a record
abbrev pub names_by : (FileKind → List ℕ) → Names
names_by name = record {
  source = name kinds.Source;
  derivation = name kinds.Derivation;
  image = name kinds.Image;
  elf = name kinds.Elf;
  input = name kinds.Input;
  output = name kinds.Output;
}

abbrev pub too_long : FileKind → Status
too_long kind = Source (TooLong kind)

abbrev pub tool : Statuses
tool = record {
  Status = Status;
  Kind = FileKind;
  Seen = SeenStatus;
  seen = seen_as;
  number = number_of;
  last = last_number;
  missing = Missing;
  too_long = too_long;
  store_failed = StoreFailed;
  sink_failed = SinkFailed;
  no_memory = NoMemory;
  line = λ name status. status_line (names_by name) status;
}
