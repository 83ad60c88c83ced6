-- Stores and sinks of the system. They tell nothing of what they hold; but where the bytes that a writer holds, or a file
-- has left, are known, each call moves exactly those that it answers.
use Rattle.std.specs.Prelude.{ℕ, [], Bool, true, false, Option, Some, None, List, Result, Ok, Err}
use Rattle.std.specs.Io.KnownBytes.{ReadConsumes, WriteAppends}
use Rattle.qs_ports.specs.Causes.{one_more}
use Rattle.qs_ports.specs.SinkView.{SinkView}
use Rattle.qs_ports.specs.StoreView.{StoreView}
use Rattle.qs_ports.specs.declared.sink.SinkFault.{SinkFault}
use Rattle.qs_ports.specs.declared.store.StoreFault.{StoreFault}
use Rattle.qs_ports.specs.declared.store.StoreFault.TheVariants.{Missing, Failed}
use Rattle.qs_ports.specs.declared.system.dir_store.DirStore.{DirStore}
use Rattle.qs_ports.specs.declared.system.std_sink.StdSink.{StdSink}

-- a sink of which nothing is known but how often it failed, and whether its last call did
abbrev pub silent_sink : ℕ → Bool → SinkView
silent_sink faults failed = record { told = false; written = []; spare = 0; faults = faults; failed = failed }

-- the sink of a writer
abbrev pub std_sink_of : {Writer : Type 0} → StdSink Writer → SinkView
std_sink_of s = silent_sink s.faults s.failed

-- the bytes that the writer holds, where they are known
abbrev pub contents_of : {Writer : Type 0} → (Writer → Option (List ℕ)) → StdSink Writer → Option (List ℕ)
contents_of contents s = contents s.writer

-- `put` appends to what the writer holds as many first bytes of the piece as it answers, and nothing where it fails
abbrev pub WritesTo : {Writer : Type 0} → (Writer → Option (List ℕ)) → StdSink Writer → StdSink Writer → List ℕ → Result ℕ SinkFault → Type 0
WritesTo contents s t piece r = WriteAppends (contents_of contents s) (contents_of contents t) r piece

-- the sink after `put`: it counts each failure
abbrev pub after_silent_put : SinkView → Result ℕ SinkFault → SinkView
after_silent_put v (Ok n) = record v { failed = false }
after_silent_put v (Err e) = record v { faults = one_more v.faults; failed = true }

-- a store of which nothing is known but what is open and how often it failed and missed a file
abbrev pub silent_store : Option (List ℕ) → Option (List ℕ) → ℕ → ℕ → StoreView
silent_store reading writing faults misses =
    record { told = false; files = λ name. None; reading = reading; place = 0; writing = writing; spare = 0; faults = faults; misses = misses }

-- a file is open, and its name isn't told
abbrev pub unnamed : {File : Type 0} → Option File → Option (List ℕ)
unnamed None = None
unnamed (Some file) = Some []

-- the store of the system's files
abbrev pub dir_store_of : {System File Dir : Type 0} → DirStore System File Dir → StoreView
dir_store_of s = silent_store (unnamed s.reading) (unnamed s.writing) s.faults s.misses

-- what is known of a file that may be open
abbrev pub known_of : {File : Type 0} → (File → Option (List ℕ)) → Option File → Option (List ℕ)
known_of known None = None
known_of known (Some file) = known file

-- the bytes that the file for reading has left, where they are known
abbrev pub left_to_read : {System File Dir : Type 0} → (File → Option (List ℕ)) → DirStore System File Dir → Option (List ℕ)
left_to_read remaining s = known_of remaining s.reading

-- `read` takes from the file as many bytes as it answers, which are then the first ones of the buffer, and none where it
-- fails
abbrev pub TakesFromFile : {System File Dir : Type 0} → (File → Option (List ℕ)) → DirStore System File Dir → DirStore System File Dir → List ℕ → Result ℕ StoreFault → Type 0
TakesFromFile remaining s t buffer r = ReadConsumes (left_to_read remaining s) (left_to_read remaining t) r buffer

-- the bytes that the file for writing holds, where they are known
abbrev pub written_so_far : {System File Dir : Type 0} → (File → Option (List ℕ)) → DirStore System File Dir → Option (List ℕ)
written_so_far contents s = known_of contents s.writing

-- `write` appends to the file as many first bytes of the piece as it answers, and none where it fails
abbrev pub AddsToFile : {System File Dir : Type 0} → (File → Option (List ℕ)) → DirStore System File Dir → DirStore System File Dir → List ℕ → Result ℕ StoreFault → Type 0
AddsToFile contents s t piece r = WriteAppends (written_so_far contents s) (written_so_far contents t) r piece

-- the store after `open`: it counts each failure and each missing file, and has no file open for reading then
abbrev pub after_silent_open : StoreView → Result Unit StoreFault → StoreView
after_silent_open v (Ok t) = record v { reading = Some [] }
after_silent_open v (Err Missing) = record v { reading = None; misses = one_more v.misses }
after_silent_open v (Err Failed) = record v { reading = None; faults = one_more v.faults }

-- the store after `create`: it counts each failure, and has no file open for writing then
abbrev pub after_silent_create : StoreView → Result Unit StoreFault → StoreView
after_silent_create v (Ok t) = record v { writing = Some [] }
after_silent_create v (Err e) = record v { writing = None; faults = one_more v.faults }

-- the store after `read` or `write`: it counts each failure
abbrev pub after_silent_move : StoreView → Result ℕ StoreFault → StoreView
after_silent_move v (Ok n) = v
after_silent_move v (Err e) = record v { faults = one_more v.faults }
