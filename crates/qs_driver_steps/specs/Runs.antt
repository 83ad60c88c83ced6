-- How commands are run, from one store to another.
use Rattle.std.specs.Prelude.{◌≡◌, ◌⊎◌, Bool, true, false, IsTrue, Option, Some, None, Result, Ok, Err}
use Rattle.qs_ports.specs.StoreView.{StoreView, OnlyReads, HasSameCounts, HasFailed, HasMissed}
use Rattle.qs_ports.specs.Whole.{TakesUpTo, Stores, IsCutShort}
use Rattle.qs_driver_steps.specs.Due.{Due, refusal}
use Rattle.qs_driver_steps.specs.Files.{IsUntouched, Seen}
use Rattle.qs_driver_steps.specs.Statuses.{Statuses, Names}
use Rattle.qs_driver_steps.specs.Steps.{FileToRead, FileToWrite, Step, Steps, gives, first, End, Command}

-- ---- one step

-- of the file that is read, up to one byte past its limit was taken
abbrev pub TakesWithin : {S : Statuses} → Option (FileToRead S) → StoreView → Type 0
TakesWithin None w = Unit {0}
TakesWithin (Some file) w = TakesUpTo w file.limit

-- the step changed no file and opened none for writing, and read no more of a file than it may
pub record Looks {S : Statuses} (s : Step S) (v w : StoreView) : Type 0 where
  pub only_reads : OnlyReads v w
  pub within : TakesWithin s.file w

-- a missing file was counted, or nothing
abbrev pub Counts : (missed : Bool) → StoreView → StoreView → Type 0
Counts true v w = HasMissed v w
Counts false v w = HasSameCounts v w

-- why a step stops, and the status at that
pub data Halts {S : Statuses} (s : Step S) (v w : StoreView) (status : S.Status) : Type 0 where
  -- of the files it has this fault
  refused : (f : s.Fault) → Looks s v w → Counts (s.misses f) v w
      → Seen v (λ files. s.Cause files f) → status ≡ s.status f → Halts s v w status
  -- a call on the store failed at the file that it reads
  failed : (file : FileToRead S) → s.file ≡ Some file → Looks s v w → HasFailed v w
      → status ≡ S.store_failed file.kind → Halts s v w status
  no_memory : Looks s v w → HasSameCounts v w → status ≡ S.no_memory → Halts s v w status

-- the step has found this
pub record Passes {S : Statuses} (s : Step S) (v w : StoreView) (y : s.Found) : Type 0 where
  pub looks : Looks s v w
  pub counts : HasSameCounts v w
  pub finds : Seen v (λ files. s.Finds files y)

-- ---- several

-- they pass up to one that stops
abbrev pub Halted :
    {S : Statuses} {A : Type 0} → Steps S A → StoreView → StoreView → S.Status → Type 0
Halted (gives a) v w status = ⊥
Halted (first s rest) v w status =
    Halts s v w status
    ⊎ ((u : StoreView) × (y : s.Found) × Passes s v u y × Halted (rest y) u w status)

-- they pass, and give this
abbrev pub Passed : {S : Statuses} {A : Type 0} → Steps S A → StoreView → StoreView → A → Type 0
Passed (gives a) v w found = (w ≡ v) × (found ≡ a)
Passed (first s rest) v w found =
    (u : StoreView) × (y : s.Found) × Passes s v u y × Passed (rest y) u w found

-- the answer of the code of a step, whose result is seen so
abbrev pub Takes :
    {S : Statuses} (s : Step S) {A : Type 0} → (A → s.Found) → StoreView → StoreView
    → Result A S.Status → Type 0
Takes s found v w (Ok a) = Passes s v w (found a)
Takes s found v w (Err status) = Halts s v w status

-- the same of the code of several steps
abbrev pub TakesAll :
    {S : Statuses} {A B : Type 0} → Steps S B → (A → B) → StoreView → StoreView
    → Result A S.Status → Type 0
TakesAll c found v w (Ok a) = Passed c v w (found a)
TakesAll c found v w (Err status) = Halted c v w status

-- ---- the end

-- the file that is made at the end, if there is one, was written whole, and every other file is as before
abbrev pub IsMade : {S : Statuses} → Option (FileToWrite S) → StoreView → StoreView → Type 0
IsMade None v w = IsUntouched v w
IsMade (Some file) v w = Stores v w file.name file.bytes × HasSameCounts v w

-- How the end is reached, and what is due then.
pub data Finishes {S : Statuses} (names : Names S) (e : End S) (v w : StoreView) (due : Due S)
    : Type 0 where
  finished : IsMade e.output v w → due ≡ e.due → Finishes names e v w due
  -- a call on the store failed: the file holds some first bytes, or wasn't made
  unwritable : (file : FileToWrite S) → e.output ≡ Some file → HasFailed v w
      → IsCutShort v w file.name file.bytes
      → due ≡ refusal S names (S.store_failed file.kind)
      → Finishes names e v w due
  lacks_memory : IsUntouched v w → due ≡ refusal S names S.no_memory → Finishes names e v w due
  lacks_memory_late : IsTrue e.late → IsMade e.output v w → due ≡ refusal S names S.no_memory
      → Finishes names e v w due

-- the command is run from the one store to the other, and this is due then
abbrev pub Runs :
    {S : Statuses} → Command S → Names S → StoreView → StoreView → Due S → Type 0
Runs {S} c names v w due =
    ((status : S.Status) × Halted c v w status × (due ≡ refusal S names status))
    ⊎ ((e : End S) × (u : StoreView) × Passed c v u e × Finishes names e u w due)
