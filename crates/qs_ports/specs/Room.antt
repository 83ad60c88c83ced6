-- Bytes in memory, as a sink that failed so often, and in its last call or not. It tells them until it is full.
use Rattle.std.specs.Prelude.{ℕ, List, Bool, false, not}
use Rattle.qs_ports.specs.SinkView.{SinkView, Appends}
use Rattle.qs_ports.specs.Memory.{SinkTellsOn}
use Rattle.qs_ports.specs.declared.memory.room.Room.{Room}

abbrev pub room_view : Room → ℕ → Bool → SinkView
room_view r faults failed = record { told = not r.full; written = r.bytes.items; spare = r.spare; faults = faults; failed = failed }

-- the piece was appended, however often the sink failed, and whether or not its last calls did
abbrev pub Takes : Room → Room → List ℕ → Type 0
Takes r s piece = (faults : ℕ) (before after : Bool) → Appends (room_view r faults before) (room_view s faults after) piece

-- after a call that moves so many bytes it tells what it holds, if it did before and had the room
abbrev pub TellsOn : Room → Room → ℕ → Type 0
TellsOn r s moved = SinkTellsOn (room_view r 0 false) (room_view s 0 false) moved
