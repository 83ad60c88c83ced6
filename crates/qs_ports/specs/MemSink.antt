-- What a `MemSink` is for those who write to it, and at which calls it fails.
use Rattle.std.specs.Prelude.{◌≡◌, ℕ, List, Contains}
use Rattle.qs_ports.specs.Causes.{one_more}
use Rattle.qs_ports.specs.SinkView.{SinkView}
use Rattle.qs_ports.specs.Memory.{SinkTellsOn}
use Rattle.qs_ports.specs.Room.{room_view}
use Rattle.qs_ports.specs.declared.memory.mem_sink.MemSink.{MemSink}

-- the sink, with its own count
abbrev pub mem_sink_of : MemSink → SinkView
mem_sink_of s = room_view s.room s.faults s.failed

-- after a call that moves so many bytes it tells what it holds, if it did before and had the room
abbrev pub TellsOn : MemSink → MemSink → ℕ → Type 0
TellsOn s t moved = SinkTellsOn (mem_sink_of s) (mem_sink_of t) moved

-- the most bytes that a call moves
abbrev pub chunk_of : MemSink → ℕ
chunk_of s = s.chunk

-- the numbers of the calls of `put` that fail, from 0
abbrev pub failing_of : MemSink → List ℕ
failing_of s = s.failing.items

-- how many calls of `put` there were, those that failed included; the count stands still at its last value
abbrev pub calls_of : MemSink → ℕ
calls_of s = s.calls

-- this call, the next one, is one that fails
abbrev pub IsListed : MemSink → Type 0
IsListed s = Contains (failing_of s) (calls_of s)

-- a sink that wasn't called yet, with this chunk and these failing calls
pub record IsPlanned (s : MemSink) (chunk : ℕ) (failing : List ℕ) : Type 0 where
  pub chunk_is : chunk_of s ≡ chunk
  pub failing_is : failing_of s ≡ failing
  pub no_calls : calls_of s ≡ 0

-- one call more was counted, and the plan is as before
pub record CountsCall (s t : MemSink) : Type 0 where
  pub chunk_stays : chunk_of t ≡ chunk_of s
  pub failing_stays : failing_of t ≡ failing_of s
  pub calls_rise : calls_of t ≡ one_more (calls_of s)
