-- Reading and writing files as a whole.
use Rattle.std.specs.Prelude.{◌≡◌, ◌⊎◌, ℕ, ◌+◌, ◌≤◌, List, [], ◌++◌, length, take, IsTrue, Option, Some, None, Result, Ok, Err, IsSome, Vec}
use Rattle.std.specs.declared.alloc.Global.{Global}
use Rattle.qs_ports.specs.StoreView.{StoreView, Keeps, OnlyReads, HasSameCounts, HasFailed, HasMissed, Holds, file_room, left_of}
use Rattle.qs_ports.specs.declared.whole.ReadFault.{ReadFault}
use Rattle.qs_ports.specs.declared.whole.ReadFault.TheVariants.{Missing, Failed, NoMemory}
use Rattle.qs_ports.specs.declared.whole.WriteFault.{WriteFault}
use Rattle.qs_ports.specs.declared.store.StoreFault.{StoreFault}
use Rattle.qs_ports.specs.declared.store.StoreFault.TheVariants as of_store

-- a fault of the store as one of reading
abbrev pub read_fault_of : StoreFault → ReadFault
read_fault_of of_store.Missing = Missing
read_fault_of of_store.Failed = Failed

-- the file is there, and these are its bytes, up to one past the limit
pub record IsContent (file : Option (List ℕ)) (limit : ℕ) (bytes : List ℕ) : Type 0 where
  pub content : List ℕ
  pub there : file ≡ Some content
  pub read : bytes ≡ take (limit + 1) content

-- at most one byte past the limit was taken from the file that is open for reading
abbrev pub TakesUpTo : StoreView → ℕ → Type 0
TakesUpTo w limit = IsTrue w.told → IsSome w.reading → w.place ≤ limit + 1

-- the file was read to its end, or to one byte past the limit, and no more than these bytes were taken: no file changed or
-- was opened for writing, and nothing failed
pub record IsWhole (v w : StoreView) (name : List ℕ) (limit : ℕ) (bytes : List ℕ) : Type 0 where
  pub only_reads : OnlyReads v w
  pub counts : HasSameCounts v w
  pub content : IsTrue w.told → IsContent (v.files name) limit bytes
  pub len : length bytes ≤ limit + 1
  pub reading : IsTrue w.told → w.reading ≡ Some name
  pub place : IsTrue w.told → w.place ≡ length bytes
  pub at_end : IsTrue w.told → length bytes ≤ limit → left_of w ≡ []

-- the answer of `read_whole`; none of them changes a file, or opens one for writing
abbrev pub ReadsWhole : StoreView → StoreView → List ℕ → ℕ → Result (Vec ℕ Global) ReadFault → Type 0
ReadsWhole v w name limit (Ok bytes) = IsWhole v w name limit bytes.items
ReadsWhole v w name limit (Err Missing) = OnlyReads v w × HasMissed v w × (IsTrue w.told → v.files name ≡ None)
ReadsWhole v w name limit (Err Failed) = OnlyReads v w × HasFailed v w
ReadsWhole v w name limit (Err NoMemory) = OnlyReads v w × HasSameCounts v w

-- n more bytes of the file were read behind the old ones; none only at its end
pub record IsMore (v w : StoreView) (old new : List ℕ) (most n : ℕ) : Type 0 where
  pub only_reads : OnlyReads v w
  pub counts : HasSameCounts v w
  pub open_still : IsSome w.reading
  pub reading : w.reading ≡ v.reading
  pub at_most : n ≤ most
  pub len : length new ≡ length old + n
  pub place : IsTrue w.told → w.place ≡ v.place + n
  pub bytes : IsTrue w.told → new ++ left_of w ≡ old ++ left_of v
  pub at_end : IsTrue w.told → n ≡ 0 → left_of w ≡ []

-- at most so many bytes were taken from the file
abbrev pub TakesAtMost : StoreView → StoreView → ℕ → Type 0
TakesAtMost v w most = IsTrue w.told → w.place ≤ v.place + most

-- the answer of one call of `read` within `read_whole`
abbrev pub ReadsMore : StoreView → StoreView → List ℕ → List ℕ → ℕ → Result ℕ ReadFault → Type 0
ReadsMore v w old new most (Ok n) = IsMore v w old new most n
ReadsMore v w old new most (Err Missing) = ⊥
ReadsMore v w old new most (Err Failed) = OnlyReads v w × HasFailed v w × TakesAtMost v w 0
ReadsMore v w old new most (Err NoMemory) = OnlyReads v w × HasSameCounts v w × TakesAtMost v w most

-- the same of the bytes that were read so far, before the call and after it
abbrev pub ReadsInto : StoreView → StoreView → Vec ℕ Global → Vec ℕ Global → ℕ → Result ℕ ReadFault → Type 0
ReadsInto v w old new most r = ReadsMore v w old.items new.items most r

-- how many bytes are moved where a file is made and filled
abbrev pub moved_by : List ℕ → List ℕ → ℕ
moved_by name bytes = length name + file_room + length bytes

-- the file holds exactly these bytes, and the other files are as before
abbrev pub Stores : StoreView → StoreView → List ℕ → List ℕ → Type 0
Stores v w name bytes = Holds v w name bytes (moved_by name bytes)

-- the file holds the first k bytes of these
pub record StoresPart (v w : StoreView) (name bytes : List ℕ) (k : ℕ) : Type 0 where
  pub within : k ≤ length bytes
  pub stores : Stores v w name (take k bytes)

-- the file wasn't made, and all files are as before, or it holds some first bytes of these
abbrev pub IsCutShort : StoreView → StoreView → List ℕ → List ℕ → Type 0
IsCutShort v w name bytes = Keeps v w ⊎ ((k : ℕ) × StoresPart v w name bytes k)

-- the answer of `write_whole`
abbrev pub WritesWhole : StoreView → StoreView → List ℕ → List ℕ → Result Unit WriteFault → Type 0
WritesWhole v w name bytes (Ok t) = Stores v w name bytes × HasSameCounts v w
WritesWhole v w name bytes (Err e) = HasFailed v w × IsCutShort v w name bytes
