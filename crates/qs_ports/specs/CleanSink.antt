-- What a `CleanSink` is for those who write to it: its count of failures is 0.
use Rattle.std.specs.Prelude.{ℕ, false}
use Rattle.qs_ports.specs.SinkView.{SinkView}
use Rattle.qs_ports.specs.Memory.{SinkTellsOn}
use Rattle.qs_ports.specs.Room.{room_view}
use Rattle.qs_ports.specs.declared.memory.clean_sink.CleanSink.{CleanSink}

abbrev pub clean_sink_of : CleanSink → SinkView
clean_sink_of s = room_view s.room 0 false

-- after a call that moves so many bytes it tells what it holds, if it did before and had the room
abbrev pub TellsOn : CleanSink → CleanSink → ℕ → Type 0
TellsOn s t moved = SinkTellsOn (clean_sink_of s) (clean_sink_of t) moved
