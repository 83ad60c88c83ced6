-- What is due at the end of a call: a status, and what is put on the streams at it.
use Rattle.std.specs.Prelude.{◌≡◌, ◌⊎◌, List, [], ◌∷◌}
use Rattle.qs_ports.specs.SinkView.{SinkView}
use Rattle.qs_driver_steps.specs.Devices.{Streams, StreamsLeft, StreamsView, stream_views, stream_views_left}
use Rattle.qs_driver_steps.specs.Pieces.{Piece, on_log, ArePut, AreCutShort}
use Rattle.qs_driver_steps.specs.Statuses.{Statuses, Names}

pub record Due (S : Statuses) : Type 0 where
  pub status : S.Status
  pub pieces : List Piece

-- the line of the fault on standard error, and nothing else
abbrev pub refusal : (S : Statuses) → Names S → S.Status → Due S
refusal S names status = record { status = status; pieces = on_log (S.line names status) ∷ [] }

-- All that is due was put and the status is the due one; or a stream failed within it, and the status says so.
abbrev pub IsWritten : {S : Statuses} → Due S → StreamsView → StreamsView → S.Status → Type 0
IsWritten {S} due before after result =
    ((result ≡ due.status) × ArePut due.pieces before after)
    ⊎ ((result ≡ S.sink_failed) × AreCutShort due.pieces before after)

-- the same of the streams that are seen by these views, as the code is handed them and as it leaves them
abbrev pub IsWrittenOn :
    {S : Statuses} {O L : Type 0} → (O → SinkView) → (L → SinkView) → Streams O L
    → StreamsLeft O L → Due S → S.Status → Type 0
IsWrittenOn out_view log_view handed left due result =
    IsWritten due (stream_views out_view log_view handed) (stream_views_left out_view log_view left)
    result
