-- What follows of the promises of calls of `elf` and `unelf`, in plain words.
use Rattle.std.specs.Prelude.{◌≡◌, ◌≢◌, ℕ, ◌≤◌, List, length, bytes_eq, if◌then◌else◌, IsTrue, Option, Some, None}
use Rattle.qs_image.specs.Faults.{HasNoFault}
use Rattle.qs_image.specs.Faults as images
use Rattle.qs_image.specs.declared.fault.ImageFault.{ImageFault}
use Rattle.qs_elf.specs.Faults as executables
use Rattle.qs_elf.specs.Parts.{elf_of, IsElfOf}
use Rattle.qs_elf.specs.declared.fault.ElfFault.{ElfFault}
use Rattle.qs_ports.specs.StoreView.{StoreView, Files}
use Rattle.qs_ports.specs.Whole.{Stores}
use Rattle.qs_cli.specs.Commands.{ElfWords, UnelfWords}
use Rattle.qs_driver_steps.specs.Devices.{DevicesView, streams_of}
use Rattle.qs_driver_steps.specs.Files.{IsUntouched}
use Rattle.qs_driver_steps.specs.Promises.{NoneFailed, Promises}
use Rattle.qs_driver_session.specs.FileStatus.{at_file}
use Rattle.qs_driver_session.specs.Files.{HoldsWith, WasReadAs}
use Rattle.qs_driver_session.specs.Limits.{image_limit, elf_limit}
use Rattle.qs_driver_session.specs.Statuses.{tool}
use Rattle.qs_driver_session.specs.declared.status.FileKind.TheVariants as kinds
use Rattle.qs_driver_session.specs.declared.status.Status.{Status}
use Rattle.qs_driver_session.specs.declared.status.Status.TheVariants.{Done, Words, Image as NotAnImage, Elf as NotAnElf}
use Rattle.qs_driver_session.specs.declared.status.WordsFault.TheVariants.{SameName}
use Rattle.qs_driver_elf.specs.Elf as elf
use Rattle.qs_driver_elf.specs.Unelf as unelf

-- the file of this name holds these bytes then, every other one is as before, and nothing was put
pub record HasWritten (name bytes : List ℕ) (before after : DevicesView) : Type 0 where
  pub read_at : StoreView
  pub untouched : IsUntouched before.store read_at
  pub stores : Stores read_at after.store name bytes
  pub silent : streams_of after ≡ streams_of before

-- ---- `elf`

-- the bytes of an image were read, and the out file holds their executable
pub record HasWrittenElf (w : ElfWords) (before after : DevicesView) : Type 0 where
  pub image : List ℕ
  pub read_as : WasReadAs before.store w.image image_limit image
  pub accepted : HasNoFault image
  pub written : HasWritten w.out (elf_of image) before after

-- where the bytes fail this test of an image first, or none
abbrev pub at_image : Option ImageFault → Status
at_image (Some fault) = NotAnImage fault
at_image None = Done

-- the status, by the words and the files alone: the tests in their order
abbrev pub status_of_elf : Files → ElfWords → Status
status_of_elf files w =
    if bytes_eq w.image w.out then Words SameName
    else at_file kinds.Image image_limit (λ bytes. at_image (images.first_fault bytes)) (files w.image)

pub record KeepsElf (w : ElfWords) (before after : DevicesView) (status : Status) : Type 0 where
  pub writes : status ≡ Done → HasWrittenElf w before after
  -- each image has its executable
  pub accepts : NoneFailed tool before after status → IsTrue before.store.told → w.image ≢ w.out
      → HoldsWith (before.store.files w.image) image_limit HasNoFault → status ≡ Done
  -- the status is the one that the words and the files tell
  pub exactly : NoneFailed tool before after status → IsTrue before.store.told
      → status ≡ status_of_elf before.store.files w

abbrev pub ElfInPlainWords : Type 0
ElfInPlainWords =
    (w : ElfWords) (before after : DevicesView) (status : Status)
    → Promises (elf.order_of w) before after status → KeepsElf w before after status

-- ---- `unelf`

-- the bytes of an executable were read, and the out file holds the image of which it is
pub record HasWrittenImage (w : UnelfWords) (before after : DevicesView) : Type 0 where
  pub file : List ℕ
  pub read_as : WasReadAs before.store w.file elf_limit file
  pub image : List ℕ
  pub is_elf : IsElfOf file image
  pub written : HasWritten w.out image before after

-- the bytes are an executable
pub record IsElf (file : List ℕ) : Type 0 where
  pub image : List ℕ
  pub is_elf : IsElfOf file image

-- where the bytes fail this test of an executable first, or none
abbrev pub at_executable : Option ElfFault → Status
at_executable (Some fault) = NotAnElf fault
at_executable None = Done

-- the status, by the words and the files alone: the tests in their order
abbrev pub status_of_unelf : Files → UnelfWords → Status
status_of_unelf files w =
    if bytes_eq w.file w.out then Words SameName
    else at_file kinds.Elf elf_limit (λ bytes. at_executable (executables.first_fault bytes)) (files w.file)

pub record KeepsUnelf (w : UnelfWords) (before after : DevicesView) (status : Status) : Type 0 where
  pub writes : status ≡ Done → HasWrittenImage w before after
  -- each executable has its image
  pub accepts : NoneFailed tool before after status → IsTrue before.store.told → w.file ≢ w.out
      → HoldsWith (before.store.files w.file) elf_limit IsElf → status ≡ Done
  -- the status is the one that the words and the files tell
  pub exactly : NoneFailed tool before after status → IsTrue before.store.told
      → status ≡ status_of_unelf before.store.files w

abbrev pub UnelfInPlainWords : Type 0
UnelfInPlainWords =
    (w : UnelfWords) (before after : DevicesView) (status : Status)
    → Promises (unelf.order_of w) before after status → KeepsUnelf w before after status

-- ---- one behind the other

-- the executable of an image is short enough to be read, and it is that of no other image
pub record ComesBack (image : List ℕ) : Type 0 where
  pub short : length (elf_of image) ≤ elf_limit
  pub one : (other : List ℕ) → IsElfOf (elf_of image) other → other ≡ image

abbrev pub ImagesComeBack : Type 0
ImagesComeBack = (image : List ℕ) → HasNoFault image → ComesBack image
