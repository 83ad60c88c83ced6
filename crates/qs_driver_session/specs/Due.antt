-- What is due at the end of a call, where it ends as the tool's calls do.
use Rattle.std.specs.Prelude.{◌≡◌, ◌⊎◌, ℕ, List, [], Result, Ok, Err}
use Rattle.qs_ports.specs.SinkView.{SinkView, Appends, IsCut}
use Rattle.qs_ports.specs.declared.sink.SinkFault.{SinkFault}
use Rattle.qs_driver_steps.specs.Devices.{Streams, StreamsLeft, StreamsView}
use Rattle.qs_driver_steps.specs.Due as steps
use Rattle.qs_driver_session.specs.Names.{Names, file_name}
use Rattle.qs_driver_session.specs.Faults.{status_line}
use Rattle.qs_driver_session.specs.Statuses.{tool}
use Rattle.qs_driver_session.specs.declared.status.Status.{Status}
use Rattle.qs_driver_session.specs.declared.status.Status.TheVariants.{Done, SinkFailed}

abbrev pub Due : Type 0
Due = steps.Due tool

-- the line of the fault on standard error, and nothing else
abbrev pub refusal : Names → Status → Due
refusal names status = steps.refusal tool (file_name names) status

abbrev pub IsRefusal : Names → Status → Due → Type 0
IsRefusal names status due = due ≡ refusal names status

-- All that is due was put and the status is the due one; or a stream failed within it, and the status says so.
abbrev pub IsWritten : Due → StreamsView → StreamsView → Status → Type 0
IsWritten due before after result = steps.IsWritten {S = tool} due before after result

-- the same of the streams that are seen by these views, as the code is handed them and as it leaves them
abbrev pub IsWrittenOn :
    {O L : Type 0} → (O → SinkView) → (L → SinkView) → Streams O L → StreamsLeft O L → Due
    → Status → Type 0
IsWrittenOn out_view log_view handed left due result =
    steps.IsWrittenOn {S = tool} out_view log_view handed left due result

-- the status after a text was put, if this one is due
abbrev pub status_after : Result Unit SinkFault → Status → Status
status_after (Ok u) due = due
status_after (Err e) due = SinkFailed

-- The text was put on a sink, and the status is the due one; or the sink failed within the text, and the status says so.
abbrev pub EndsWith : List ℕ → Status → SinkView → SinkView → Status → Type 0
EndsWith text due v w result =
    ((result ≡ due) × Appends v w text) ⊎ ((result ≡ SinkFailed) × ((k : ℕ) × IsCut v w text k))

-- all was done, and nothing is put
abbrev pub done : Due
done = record { status = Done; pieces = [] }

-- what is due after the work on the store, where nothing is put at its end
abbrev pub done_or_refused : Names → Result Unit Status → Due
done_or_refused names (Ok u) = done
done_or_refused names (Err status) = refusal names status

-- the same on `log` alone, and the status at that
abbrev pub EndsDone : Names → Result Unit Status → SinkView → SinkView → Status → Type 0
EndsDone names (Ok u) v w result = (result ≡ Done) × (w ≡ v)
EndsDone names (Err status) v w result = EndsWith (status_line names status) status v w result

-- the same of the line of a fault, on a sink that is seen by this view, before the call and after it
abbrev pub PutsRefusal :
    {L : Type 0} → (L → SinkView) → L → L → Names → (fault result : Status) → Type 0
PutsRefusal view old new names fault result =
    EndsWith (status_line names fault) fault (view old) (view new) result
