-- Files that a command reads, and what is said of each.
use Rattle.std.specs.Prelude.{◌≡◌, ℕ, ◌<◌, ◌≤◌, List, length, IsTrue, Option, Some, None, Result, Ok, Err, Vec}
use Rattle.std.specs.declared.alloc.Global.{Global}
use Rattle.qs_ports.specs.StoreView.{StoreView, OnlyReads, HasFailed, HasMissed}
use Rattle.qs_ports.specs.Whole.{IsContent}
use Rattle.qs_driver_steps.specs.Files.{IsUntouched, HoldsContent}
use Rattle.qs_driver_session.specs.declared.status.Status.{Status}
use Rattle.qs_driver_session.specs.declared.status.Status.TheVariants.{Source, Missing, StoreFailed, NoMemory}
use Rattle.qs_driver_session.specs.declared.status.SourceFault.TheVariants.{TooLong}
use Rattle.qs_driver_session.specs.declared.status.FileKind.{FileKind}

-- the file is there, is within its limit, and its bytes have this property
pub record HoldsWith (file : Option (List ℕ)) (limit : ℕ) (Property : List ℕ → Type 0)
    : Type 0 where
  pub content : List ℕ
  pub holds : HoldsContent file limit content
  pub has : Property content

-- These bytes were read as those of the file, and are within its limit; they are the file's, where the store tells its files.
pub record WasReadAs (before : StoreView) (name : List ℕ) (limit : ℕ) (content : List ℕ)
    : Type 0 where
  pub within : length content ≤ limit
  pub there : IsTrue before.told → before.files name ≡ Some content

-- bytes that have this property were read as those of the file
pub record WasReadWith (before : StoreView) (name : List ℕ) (limit : ℕ) (Property : List ℕ → Type 0)
    : Type 0 where
  pub content : List ℕ
  pub read_as : WasReadAs before name limit content
  pub has : Property content

-- there is no such file: a call missed it, no file changed, and none was opened for writing
pub record IsMissing (before after : StoreView) (name : List ℕ) : Type 0 where
  pub only_reads : OnlyReads before after
  pub missed : HasMissed before after
  pub absent : IsTrue before.told → before.files name ≡ None

-- a call failed while the file was read; no file changed, and none was opened for writing
pub record CouldNotRead (before after : StoreView) : Type 0 where
  pub only_reads : OnlyReads before after
  pub failed : HasFailed before after

-- more bytes than its limit were read from the file: they are the file's up to one past the limit, where the store tells its files
pub record WasTooLong (before after : StoreView) (name : List ℕ) (limit : ℕ) : Type 0 where
  pub untouched : IsUntouched before after
  pub read : List ℕ
  pub more : limit < length read
  pub is_content : IsTrue before.told → IsContent (before.files name) limit read

-- the file was read: these are its bytes, and no file changed
pub record WasRead (before after : StoreView) (name : List ℕ) (limit : ℕ) (content : List ℕ)
    : Type 0 where
  pub untouched : IsUntouched before after
  pub read_as : WasReadAs before name limit content

-- Why a file of this kind wasn't read, and the status at that.
pub data CannotRead (before after : StoreView) (name : List ℕ) (kind : FileKind) (limit : ℕ)
    (status : Status) : Type 0 where
  missing : IsMissing before after name → status ≡ Missing kind
      → CannotRead before after name kind limit status
  unreadable : CouldNotRead before after → status ≡ StoreFailed kind
      → CannotRead before after name kind limit status
  too_long : WasTooLong before after name limit → status ≡ Source (TooLong kind)
      → CannotRead before after name kind limit status
  no_memory : IsUntouched before after → status ≡ NoMemory
      → CannotRead before after name kind limit status

-- the answer of `read_file`
abbrev pub ReadsFile :
    StoreView → StoreView → List ℕ → FileKind → ℕ → Result (Vec ℕ Global) Status → Type 0
ReadsFile before after name kind limit (Ok content) = WasRead before after name limit content.items
ReadsFile before after name kind limit (Err status) = CannotRead before after name kind limit status
