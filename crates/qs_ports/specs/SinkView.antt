-- What a sink is for those who write to it.
--
-- A sink takes bytes. It counts how often it failed, and this count never falls. It may tell what was written to it, or
-- tell nothing: a sink in memory tells, standard output doesn't. What is said below of written bytes is said of a sink
-- that tells after the call; such a sink told before the call too.
use Rattle.std.specs.Prelude.{◌≡◌, ℕ, ◌+◌, ◌<◌, ◌≤◌, List, ◌++◌, length, take, Bool, true, false, IsTrue, Result, Ok, Err}
use Rattle.qs_ports.specs.Causes.{Rose, one_more}
use Rattle.qs_ports.specs.declared.sink.SinkFault.{SinkFault}

-- whether it tells what was written, the bytes that were written so far, the bytes of room that are left, how often it
-- failed, and whether its last call failed
pub record SinkView : Type 0 where
  pub told : Bool
  pub written : List ℕ
  pub spare : ℕ
  pub faults : ℕ
  pub failed : Bool

-- A call that moves at most `spare` bytes lowers `spare` by as many, and a sink that tells what was written goes on
-- telling it. A call that moves nothing always does so, and leaves `spare` as it is.
abbrev pub KeepsTelling : SinkView → SinkView → ℕ → Type 0
KeepsTelling v w moved = IsTrue v.told → moved ≤ v.spare → IsTrue w.told × (w.spare + moved ≡ v.spare)

-- these bytes were appended, and no failure was counted
pub record Appends (v w : SinkView) (bytes : List ℕ) : Type 0 where
  pub same_faults : w.faults ≡ v.faults
  pub was_told : IsTrue w.told → IsTrue v.told
  pub written : IsTrue w.told → w.written ≡ v.written ++ bytes
  pub keeps : KeepsTelling v w (length bytes)

-- n bytes are a part of the piece, and at least one where the piece isn't empty
pub record IsProgress (n : ℕ) (piece : List ℕ) : Type 0 where
  pub within : n ≤ length piece
  pub some : 0 < length piece → 0 < n

-- the sink failed and counted it once, and nothing was appended
pub record Refuses (v w : SinkView) : Type 0 where
  pub failed : w.failed ≡ true
  pub once : w.faults ≡ one_more v.faults
  pub rose : Rose v.faults w.faults
  pub later : v.faults ≤ w.faults
  pub was_told : IsTrue w.told → IsTrue v.told
  pub written : IsTrue w.told → w.written ≡ v.written
  pub keeps : KeepsTelling v w 0

-- `put` appends the first bytes of the piece and answers how many, or fails and appends nothing
abbrev pub Puts : SinkView → SinkView → List ℕ → Result ℕ SinkFault → Type 0
Puts v w piece (Ok n) = IsProgress n piece × Appends v w (take n piece) × (w.failed ≡ false)
Puts v w piece (Err e) = Refuses v w

-- The first k bytes of the text were appended, and then the sink failed, with some bytes still to be taken: once, and in
-- its last call, so that nothing was put on it after that.
pub record IsCut (v w : SinkView) (text : List ℕ) (k : ℕ) : Type 0 where
  pub failed : w.failed ≡ true
  pub once : w.faults ≡ one_more v.faults
  pub within : k < length text
  pub rose : Rose v.faults w.faults
  pub later : v.faults ≤ w.faults
  pub was_told : IsTrue w.told → IsTrue v.told
  pub written : IsTrue w.told → w.written ≡ v.written ++ take k text
  pub keeps : KeepsTelling v w k

-- `put_all` appends the whole text, or some first bytes of it up to a failure
abbrev pub PutsAll : SinkView → SinkView → List ℕ → Result Unit SinkFault → Type 0
PutsAll v w text (Ok t) = Appends v w text
PutsAll v w text (Err e) = (k : ℕ) × IsCut v w text k

-- the same of a sink that is seen by this view, before the call and after it
abbrev pub PutsOn : {Sink : Type 0} → (Sink → SinkView) → Sink → Sink → List ℕ → Result Unit SinkFault → Type 0
PutsOn view old new text r = PutsAll (view old) (view new) text r
