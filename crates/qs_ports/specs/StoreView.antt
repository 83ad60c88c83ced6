-- What a store of files is for those who use it.
--
-- A store holds files by their names. One file may be open for reading, at a place in it, and one for writing. A store
-- counts how often it failed and how often it missed a file, and these counts never fall. It may tell what its files
-- hold, or tell nothing: a store in memory tells, the files of the system don't. What is said below of the content of
-- files, and of the names and the place of those that are open, is said of a store that tells after the call; such a
-- store told before the call too.
use Rattle.std.specs.Prelude.{◌≡◌, ◌≢◌, ℕ, ◌+◌, ◌<◌, ◌≤◌, List, [], ◌++◌, length, take, drop, Bool, IsTrue, Option, Some, None, Result, Ok, Err, IsSome}
use Rattle.qs_ports.specs.Causes.{Rose}
use Rattle.qs_ports.specs.SinkView.{IsProgress}
use Rattle.qs_ports.specs.declared.store.StoreFault.{StoreFault}
use Rattle.qs_ports.specs.declared.store.StoreFault.TheVariants.{Missing, Failed}

-- the bytes of each file that is there, by its name
abbrev pub Files : Type 0
Files = List ℕ → Option (List ℕ)

-- whether it tells its files, the files, the name of the file that is open for reading and the place in it, the name of
-- the file that is open for writing, the bytes of room that are left, and how often it failed and missed a file
pub record StoreView : Type 0 where
  pub told : Bool
  pub files : Files
  pub reading : Option (List ℕ)
  pub place : ℕ
  pub writing : Option (List ℕ)
  pub spare : ℕ
  pub faults : ℕ
  pub misses : ℕ

-- what a file takes of the room beside its name and its content, in bytes; to make one counts as moving them
abbrev pub file_room : ℕ
file_room = 1

-- A call that moves at most `spare` bytes lowers `spare` by as many, and a store that tells its files goes on telling
-- them. A call that moves nothing always does so, and leaves `spare` as it is.
abbrev pub KeepsTelling : StoreView → StoreView → ℕ → Type 0
KeepsTelling v w moved = IsTrue v.told → moved ≤ v.spare → IsTrue w.told × (w.spare + moved ≡ v.spare)

-- each file is as before
abbrev pub IsSameFiles : Files → Files → Type 0
IsSameFiles f g = (n : List ℕ) → g n ≡ f n

-- each file of another name is as before
abbrev pub IsSameBut : List ℕ → Files → Files → Type 0
IsSameBut name f g = (n : List ℕ) → n ≢ name → g n ≡ f n

-- the bytes of a file that may be there
abbrev pub bytes_of : Option (List ℕ) → List ℕ
bytes_of None = []
bytes_of (Some bytes) = bytes

-- the bytes of the file of a name that may be given
abbrev pub bytes_at : Files → Option (List ℕ) → List ℕ
bytes_at f None = []
bytes_at f (Some name) = bytes_of (f name)

-- what is left to read: nothing exactly at the file's end and past it
abbrev pub left_of : StoreView → List ℕ
left_of v = drop v.place (bytes_at v.files v.reading)

-- no file changed, and no room was used
pub record Keeps (v w : StoreView) : Type 0 where
  pub was_told : IsTrue w.told → IsTrue v.told
  pub files : IsTrue w.told → IsSameFiles v.files w.files
  pub tells : KeepsTelling v w 0

-- no file changed, none was opened for writing, and no room was used
pub record OnlyReads (v w : StoreView) : Type 0 where
  pub keeps : Keeps v w
  pub writing : w.writing ≡ v.writing

-- neither a failure nor a missing file was counted
pub record HasSameCounts (v w : StoreView) : Type 0 where
  pub faults : w.faults ≡ v.faults
  pub misses : w.misses ≡ v.misses

-- a failure was counted
pub record HasFailed (v w : StoreView) : Type 0 where
  pub rose : Rose v.faults w.faults
  pub faults : v.faults ≤ w.faults
  pub misses : v.misses ≤ w.misses

-- a missing file was counted, and no failure
pub record HasMissed (v w : StoreView) : Type 0 where
  pub rose : Rose v.misses w.misses
  pub misses : v.misses ≤ w.misses
  pub faults : w.faults ≡ v.faults

-- the file is there, and is open for reading at its start
pub record IsOpened (v w : StoreView) (name : List ℕ) : Type 0 where
  pub counts : HasSameCounts v w
  pub opened : IsSome w.reading
  pub reading : IsTrue w.told → w.reading ≡ Some name
  pub place : IsTrue w.told → w.place ≡ 0
  pub there : IsTrue w.told → IsSome (v.files name)

-- a refused `open` leaves no file open for reading
abbrev pub OpenAnswers : StoreView → StoreView → List ℕ → Result Unit StoreFault → Type 0
OpenAnswers v w name (Ok t) = IsOpened v w name
OpenAnswers v w name (Err Missing) = HasMissed v w × (w.reading ≡ None) × (IsTrue w.told → v.files name ≡ None)
OpenAnswers v w name (Err Failed) = HasFailed v w × (w.reading ≡ None)

-- `open` changes no file, and not which one is open for writing
pub record Opens (v w : StoreView) (name : List ℕ) (r : Result Unit StoreFault) : Type 0 where
  pub keeps : Keeps v w
  pub writing : w.writing ≡ v.writing
  pub answers : OpenAnswers v w name r

-- the next n bytes of the file were read into a buffer; none exactly where none are left, or into an empty buffer
pub record IsRead (v w : StoreView) (n : ℕ) (old new : List ℕ) : Type 0 where
  pub counts : HasSameCounts v w
  pub within : n ≤ length old
  pub bytes : IsTrue w.told → left_of v ≡ take n new ++ left_of w
  pub place : IsTrue w.told → w.place ≡ v.place + n
  pub progress : IsTrue w.told → n ≡ 0 → 0 < length old → left_of v ≡ []
  pub at_end : IsTrue w.told → left_of v ≡ [] → n ≡ 0

-- the call failed, and took nothing from the file
pub record FailsToRead (v w : StoreView) : Type 0 where
  pub failed : HasFailed v w
  pub place : IsTrue w.told → w.place ≡ v.place

-- `read` doesn't miss a file
abbrev pub ReadAnswers : StoreView → StoreView → List ℕ → List ℕ → Result ℕ StoreFault → Type 0
ReadAnswers v w old new (Ok n) = IsRead v w n old new
ReadAnswers v w old new (Err Missing) = ⊥
ReadAnswers v w old new (Err Failed) = FailsToRead v w

-- `read` changes no file, and not which ones are open
pub record Reads (v w : StoreView) (old new : List ℕ) (r : Result ℕ StoreFault) : Type 0 where
  pub keeps : Keeps v w
  pub writing : w.writing ≡ v.writing
  pub reading : w.reading ≡ v.reading
  pub answers : ReadAnswers v w old new r

-- the file holds these bytes, and the others are as before, after calls that moved so many bytes
pub record Holds (v w : StoreView) (name bytes : List ℕ) (moved : ℕ) : Type 0 where
  pub was_told : IsTrue w.told → IsTrue v.told
  pub file : IsTrue w.told → w.files name ≡ Some bytes
  pub others : IsTrue w.told → IsSameBut name v.files w.files
  pub tells : KeepsTelling v w moved

-- the file is empty, and open for writing; its name and the room of a file were moved
pub record IsCreated (v w : StoreView) (name : List ℕ) : Type 0 where
  pub counts : HasSameCounts v w
  pub created : IsSome w.writing
  pub writing : IsTrue w.told → w.writing ≡ Some name
  pub holds : Holds v w name [] (length name + file_room)

-- the same file is open for reading, at the same place
pub record KeepsReading (v w : StoreView) : Type 0 where
  pub reading : w.reading ≡ v.reading
  pub place : w.place ≡ v.place

-- the call failed, and a store that tells its files has them as before
pub record FailsAndKeeps (v w : StoreView) : Type 0 where
  pub failed : HasFailed v w
  pub keeps : Keeps v w

-- a refused `create` leaves no file open for writing; `create` doesn't miss a file
abbrev pub CreateAnswers : StoreView → StoreView → List ℕ → Result Unit StoreFault → Type 0
CreateAnswers v w name (Ok t) = IsCreated v w name
CreateAnswers v w name (Err Missing) = ⊥
CreateAnswers v w name (Err Failed) = FailsAndKeeps v w × (w.writing ≡ None)

-- `create` leaves the reading side as it was
pub record Creates (v w : StoreView) (name : List ℕ) (r : Result Unit StoreFault) : Type 0 where
  pub reading : KeepsReading v w
  pub answers : CreateAnswers v w name r

-- the first n bytes of the piece were appended to the file that is open for writing
pub record IsAppended (v w : StoreView) (piece : List ℕ) (n : ℕ) : Type 0 where
  pub counts : HasSameCounts v w
  pub progress : IsProgress n piece
  pub was_told : IsTrue w.told → IsTrue v.told
  pub file : (name : List ℕ) → v.writing ≡ Some name → IsTrue w.told → w.files name ≡ Some (bytes_of (v.files name) ++ take n piece)
  pub others : (name : List ℕ) → v.writing ≡ Some name → IsTrue w.told → IsSameBut name v.files w.files
  pub tells : KeepsTelling v w n

-- `write` doesn't miss a file
abbrev pub WriteAnswers : StoreView → StoreView → List ℕ → Result ℕ StoreFault → Type 0
WriteAnswers v w piece (Ok n) = IsAppended v w piece n
WriteAnswers v w piece (Err Missing) = ⊥
WriteAnswers v w piece (Err Failed) = FailsAndKeeps v w

-- `write` leaves the reading side as it was, and the file open for writing
pub record Writes (v w : StoreView) (piece : List ℕ) (r : Result ℕ StoreFault) : Type 0 where
  pub reading : KeepsReading v w
  pub writing : w.writing ≡ v.writing
  pub answers : WriteAnswers v w piece r
