-- Stores and sinks in memory.
--
-- They work over room that was reserved before, and a small room is never a failure. A call that would move more than
-- the room that is left answers as if it had moved it, and from then on the object doesn't tell what it holds.
use Rattle.std.specs.Prelude.{◌≡◌, ℕ, ◌+◌, List, [], ◌++◌, take, drop, length, min, max, Bool, true, false, ◌&&◌, nat_le, Option, Some, None, Result, Ok, Err, Vec, String, string_bytes, bytes_eq, if◌then◌else◌, fold}
use Rattle.std.specs.declared.alloc.Global.{Global}
use Rattle.qs_ports.specs.Causes.{one_more}
use Rattle.qs_ports.specs.SinkView.{SinkView}
use Rattle.qs_ports.specs.StoreView.{StoreView, Files, IsSameFiles, left_of}
use Rattle.qs_ports.specs.declared.store.StoreFault.{StoreFault}
use Rattle.qs_ports.specs.declared.store.StoreFault.TheVariants.{Missing, Failed}

-- whether an object tells what it holds after a call that moves so many bytes, by whether it told before and by the room
-- that was left
abbrev pub tells_on : Bool → ℕ → ℕ → Bool
tells_on told spare moved = told && nat_le moved spare

-- the same of a sink, before and after the call
abbrev pub SinkTellsOn : SinkView → SinkView → ℕ → Type 0
SinkTellsOn v w moved = w.told ≡ tells_on v.told v.spare moved

-- the same of a store
abbrev pub StoreTellsOn : StoreView → StoreView → ℕ → Type 0
StoreTellsOn v w moved = w.told ≡ tells_on v.told v.spare moved

-- the sink after a call that failed: one failure more is counted, and all else is as before
abbrev pub failed_sink : SinkView → SinkView
failed_sink v = record v { faults = one_more v.faults; failed = true }

-- the same of a store
abbrev pub failed_store : StoreView → StoreView
failed_store v = record v { faults = one_more v.faults }

-- a sink that nothing was written to, with so much room
pub record IsNewSink (v : SinkView) (room : ℕ) : Type 0 where
  pub told : v.told ≡ true
  pub empty : v.written ≡ []
  pub spare : v.spare ≡ room
  pub no_faults : v.faults ≡ 0
  pub not_failed : v.failed ≡ false

-- no file
abbrev pub no_files : Files
no_files name = None

-- these files, but for the one of this name, which holds these bytes
abbrev pub with_file : Files → List ℕ → List ℕ → Files
with_file files name bytes other = if bytes_eq name other then Some bytes else files other

-- these files, with an entry of a list put there
abbrev pub with_entry : Files → String Global × Vec ℕ Global → Files
with_entry files entry = with_file files (string_bytes entry.0) entry.1.items

-- the files of a list of names and contents, put there one after the other, so that the last of a name counts
abbrev pub files_in : List (String Global × Vec ℕ Global) → Files
files_in entries = fold with_entry no_files entries

-- a store that holds these files, with nothing open and so much room
pub record IsNewStore (v : StoreView) (files : Files) (room : ℕ) : Type 0 where
  pub told : v.told ≡ true
  pub files_are : IsSameFiles files v.files
  pub not_reading : v.reading ≡ None
  pub not_writing : v.writing ≡ None
  pub spare : v.spare ≡ room
  pub no_faults : v.faults ≡ 0
  pub no_misses : v.misses ≡ 0

-- the sink, and only its room may differ: it is now so many bytes at least
abbrev pub with_sink_room : SinkView → ℕ → SinkView
with_sink_room v bytes = record v { spare = max v.spare bytes }

-- the same of a store
abbrev pub with_store_room : StoreView → ℕ → StoreView
with_store_room v bytes = record v { spare = max v.spare bytes }

-- the store after `open`
abbrev pub after_open : StoreView → List ℕ → Result Unit StoreFault → StoreView
after_open v name (Ok t) = record v { reading = Some name; place = 0 }
after_open v name (Err Missing) = record v { reading = None; place = 0; misses = one_more v.misses }
after_open v name (Err Failed) = record (failed_store v) { reading = None; place = 0 }

-- the store after `read`
abbrev pub after_read : StoreView → Result ℕ StoreFault → StoreView
after_read v (Ok n) = record v { place = v.place + n }
after_read v (Err e) = failed_store v

-- how many bytes `read` puts into a buffer of this length, if it moves at most so many
abbrev pub read_count : StoreView → ℕ → ℕ → ℕ
read_count v most buffer = min (min most buffer) (length (left_of v))

-- the store after a `create` that failed
abbrev pub after_failed_create : StoreView → StoreView
after_failed_create v = record (failed_store v) { writing = None }

-- whether `open` finds the file
abbrev pub open_answer : Option (List ℕ) → Result Unit StoreFault
open_answer None = Err Missing
open_answer (Some bytes) = Ok tt

-- the next n bytes of the file were put into a buffer, whose other bytes are as before
abbrev pub FillsBuffer : StoreView → List ℕ → List ℕ → ℕ → Type 0
FillsBuffer v old new n = new ≡ take n (left_of v) ++ drop n old
