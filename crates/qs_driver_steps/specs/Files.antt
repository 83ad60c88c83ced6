-- Files that a command reads, and what is seen of them.
use Rattle.std.specs.Prelude.{◌≡◌, ℕ, ◌<◌, ◌≤◌, List, length, IsTrue, Option, Some}
use Rattle.qs_ports.specs.Causes.{Rose}
use Rattle.qs_ports.specs.StoreView.{Files, StoreView, OnlyReads, HasSameCounts}

-- no file changed, none was opened for writing, and no call failed
pub record IsUntouched (before after : StoreView) : Type 0 where
  pub only_reads : OnlyReads before after
  pub counts : HasSameCounts before after

-- no call on the store failed
abbrev pub StoreHeld : StoreView → StoreView → Type 0
StoreHeld before after = Rose before.faults after.faults → ⊥

-- this is so of the files as they were seen: those of the store, where it tells them
pub record Seen (v : StoreView) (IsSo : Files → Type 0) : Type 0 where
  pub files : Files
  pub are : IsTrue v.told → files ≡ v.files
  pub so : IsSo files

-- the file is there, is within its limit, and these are its bytes
pub record HoldsContent (file : Option (List ℕ)) (limit : ℕ) (content : List ℕ) : Type 0 where
  pub there : file ≡ Some content
  pub within : length content ≤ limit

-- the file is there, and has more bytes than its limit
pub record IsTooLong (file : Option (List ℕ)) (limit : ℕ) : Type 0 where
  pub content : List ℕ
  pub there : file ≡ Some content
  pub more : limit < length content
