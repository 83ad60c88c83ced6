-- What is put on the streams, piece by piece.
use Rattle.std.specs.Prelude.{◌≡◌, ◌⊎◌, ℕ, List, [], ◌∷◌}
use Rattle.qs_ports.specs.SinkView.{SinkView, Appends, IsCut}
use Rattle.qs_driver_steps.specs.Devices.{StreamsView}

pub data Stream : Type 0 where
  Out : Stream
  Log : Stream

-- this text is to be put on this stream
pub record Piece : Type 0 where
  pub stream : Stream
  pub text : List ℕ

abbrev pub on_out : List ℕ → Piece
on_out text = record { stream = Out; text = text }

abbrev pub on_log : List ℕ → Piece
on_log text = record { stream = Log; text = text }

abbrev pub sink_of : Stream → StreamsView → SinkView
sink_of Out s = s.out
sink_of Log s = s.log

abbrev pub other_than : Stream → Stream
other_than Out = Log
other_than Log = Out

-- this happened on the stream, and the other one is as before
pub record OnlyOn (stream : Stream) (before after : StreamsView)
    (Happened : SinkView → SinkView → Type 0) : Type 0 where
  pub happened : Happened (sink_of stream before) (sink_of stream after)
  pub other : sink_of (other_than stream) after ≡ sink_of (other_than stream) before

-- the whole text of the piece was put
abbrev pub IsPut : Piece → StreamsView → StreamsView → Type 0
IsPut piece before after = OnlyOn piece.stream before after (λ v w. Appends v w piece.text)

-- the stream failed within the text of the piece
abbrev pub IsCutWithin : Piece → StreamsView → StreamsView → Type 0
IsCutWithin piece before after =
    OnlyOn piece.stream before after (λ v w. (k : ℕ) × IsCut v w piece.text k)

-- all pieces were put, in their order, and nothing more
abbrev pub ArePut : List Piece → StreamsView → StreamsView → Type 0
ArePut [] before after = after ≡ before
ArePut (piece ∷ pieces) before after =
    (between : StreamsView) × IsPut piece before between × ArePut pieces between after

-- The pieces were put in their order up to one within whose text its stream failed. Nothing was put after that.
abbrev pub AreCutShort : List Piece → StreamsView → StreamsView → Type 0
AreCutShort [] before after = ⊥
AreCutShort (piece ∷ pieces) before after =
    IsCutWithin piece before after
    ⊎ ((between : StreamsView) × IsPut piece before between × AreCutShort pieces between after)
