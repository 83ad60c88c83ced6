-- A shelf of files, as a store that failed and missed a file so often.
use Rattle.std.specs.Prelude.{◌≡◌, ℕ, ◌+◌, List, length, not, Bool, Option, Some, None, if◌then◌else◌}
use Rattle.qs_ports.specs.StoreView.{StoreView, Files, IsCreated, IsAppended, KeepsReading}
use Rattle.qs_ports.specs.Memory.{StoreTellsOn}
use Rattle.qs_ports.specs.Cells.{spans_of}
use Rattle.qs_ports.specs.Shelf.{files_of, name_of, writing_name}
use Rattle.qs_ports.specs.declared.memory.shelf.Shelf.{Shelf}

-- its files, by their names
abbrev pub shelf_files : Shelf → Files
shelf_files s = files_of s.cells.bytes.items (spans_of s.cells.parts.items)

-- it tells its files until it is full
abbrev pub shelf_view : Shelf → ℕ → ℕ → StoreView
shelf_view s faults misses = record {
  told = not s.full;
  files = shelf_files s;
  reading = name_of s.cells.bytes.items s.reading;
  place = s.place;
  writing = writing_name s.cells.bytes.items (spans_of s.cells.parts.items) s.writing;
  spare = s.spare;
  faults = faults;
  misses = misses;
}

-- the file was created, and the reading side is as before
abbrev pub Created : StoreView → StoreView → List ℕ → Type 0
Created v w name = IsCreated v w name × KeepsReading v w

-- the whole piece was appended, and the same files are open
abbrev pub Appended : StoreView → StoreView → List ℕ → Type 0
Appended v w piece = IsAppended v w piece (length piece) × KeepsReading v w × (w.writing ≡ v.writing)

-- the same store, with this file open for reading, at its start
abbrev pub with_reading : Option (List ℕ) → StoreView → StoreView
with_reading reading v = record v { reading = reading; place = 0 }

-- the same store, with this file open for reading, where it is there, and none else
abbrev pub with_found : Bool → List ℕ → StoreView → StoreView
with_found found name v = with_reading (if found then Some name else None) v

-- the same store, so many bytes further on in the file that is open for reading
abbrev pub with_more_read : ℕ → StoreView → StoreView
with_more_read count v = record v { place = v.place + count }

-- this holds of the stores that the two shelves are, however often these failed and missed a file
abbrev pub AsStores : Shelf → Shelf → (StoreView → StoreView → Type 0) → Type 0
AsStores s t Holds = (faults misses : ℕ) → Holds (shelf_view s faults misses) (shelf_view t faults misses)

-- the second shelf is, as a store, what a change makes of the first
abbrev pub Becomes : Shelf → Shelf → (StoreView → StoreView) → Type 0
Becomes s t change = (faults misses : ℕ) → shelf_view t faults misses ≡ change (shelf_view s faults misses)

-- after a call that moves so many bytes it tells its files, if it did before and had the room
abbrev pub TellsOn : Shelf → Shelf → ℕ → Type 0
TellsOn s t moved = StoreTellsOn (shelf_view s 0 0) (shelf_view t 0 0) moved
