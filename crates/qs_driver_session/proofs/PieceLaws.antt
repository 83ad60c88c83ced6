-- Steps that are put one after the other, and the status at that.
use Rattle.std.proofs.Common.{◌≡◌, ◌⊎◌, ℕ, List, [], ◌∷◌, Result, Ok, Err, refl, ap, ◌∙◌, subst, inl, inr}
use Rattle.qs_ports.specs.Causes.{Rose}
use Rattle.qs_ports.specs.SinkView.{SinkView, Appends, IsCut, PutsAll}
use Rattle.qs_ports.specs.declared.sink.SinkFault.{SinkFault}
use Rattle.qs_driver_steps.specs.Devices.{StreamsView, streams}
use Rattle.qs_driver_steps.specs.Pieces.{Stream, Out, Log, Piece, on_out, on_log, OnlyOn, IsPut, IsCutWithin, ArePut, AreCutShort}
use Rattle.qs_driver_session.specs.Due.{Due, IsWritten, status_after, EndsWith}
use Rattle.qs_driver_session.specs.declared.status.Status.{Status}
use Rattle.qs_driver_session.specs.declared.status.Status.TheVariants.{SinkFailed}

abbrev pub due_of : Status → List Piece → Due
due_of status pieces = record { status = status; pieces = pieces }

-- ---- how what is due comes to be written

-- a piece was put, and then the others
pub put_goes_on : (status : Status) (piece : Piece) (pieces : List Piece) (u v w : StreamsView) (result : Status) → IsPut piece u v → IsWritten (due_of status pieces) v w result → IsWritten (due_of status (piece ∷ pieces)) u w result
put_goes_on status piece pieces u v w result p (inl (e, h)) = inl (e, (v, p, h))
put_goes_on status piece pieces u v w result p (inr (e, h)) = inr (e, inr (v, p, h))

-- a stream failed within a piece, and nothing more is put
pub put_fails : (status : Status) (piece : Piece) (pieces : List Piece) (u v : StreamsView) → IsCutWithin piece u v → IsWritten (due_of status (piece ∷ pieces)) u v SinkFailed
put_fails status piece pieces u v c = inr (refl, inl c)

pub ends_with : (text : List ℕ) (due : Status) (v w : SinkView) (written : Result Unit SinkFault) → PutsAll v w text written → EndsWith text due v w (status_after written due)
ends_with text due v w (Ok u) h = inl (refl, h)
ends_with text due v w (Err e) h = inr (refl, h)

-- a last text on `log`
pub log_last : (status : Status) (text : List ℕ) (o v w : SinkView) (result : Status) → EndsWith text status v w result → IsWritten (due_of status (on_log text ∷ [])) (streams o v) (streams o w) result
log_last status text o v w result (inl (e, h)) = inl (e, (streams o w, record { happened = h; other = refl }, refl))
log_last status text o v w result (inr (e, h)) = inr (e, inl (record { happened = h; other = refl }))

-- a last text on `out`
pub out_last : (status : Status) (text : List ℕ) (l v w : SinkView) (result : Status) → EndsWith text status v w result → IsWritten (due_of status (on_out text ∷ [])) (streams v l) (streams w l) result
out_last status text l v w result (inl (e, h)) = inl (e, (streams w l, record { happened = h; other = refl }, refl))
out_last status text l v w result (inr (e, h)) = inr (e, inl (record { happened = h; other = refl }))

-- a text on `out`, and a last one on `log`
pub then_log : (status : Status) (text line : List ℕ) (o o' v w : SinkView) (result : Status) → Appends o o' text → EndsWith line status v w result → IsWritten (due_of status (on_out text ∷ on_log line ∷ [])) (streams o v) (streams o' w) result
then_log status text line o o' v w result a h = put_goes_on status (on_out text) (on_log line ∷ []) (streams o v) (streams o' v) (streams o' w) result (record { happened = a; other = refl }) (log_last status line o' v w result h)

-- `out` failed within its text, and nothing was put on `log`
pub out_fails : (status : Status) (text line : List ℕ) (o o' l : SinkView) (k : ℕ) → IsCut o o' text k → IsWritten (due_of status (on_out text ∷ on_log line ∷ [])) (streams o l) (streams o' l) SinkFailed
out_fails status text line o o' l k c = put_fails status (on_out text) (on_log line ∷ []) (streams o l) (streams o' l) (record { happened = (k, c); other = refl })

-- ---- what the counts of failures tell

-- neither stream counted a failure
pub record HasSameFaults (v w : StreamsView) : Type 0 where
  pub out : w.out.faults ≡ v.out.faults
  pub log : w.log.faults ≡ v.log.faults

put_same : (stream : Stream) (text : List ℕ) (v w : StreamsView) → OnlyOn stream v w (λ a b. Appends a b text) → HasSameFaults v w
put_same Out text v w h = record { out = h.happened.same_faults; log = ap (λ s. s.faults) h.other }
put_same Log text v w h = record { out = ap (λ s. s.faults) h.other; log = h.happened.same_faults }

pub all_same : (pieces : List Piece) (v w : StreamsView) → ArePut pieces v w → HasSameFaults v w
all_same [] v w e = record { out = ap (λ s. s.out.faults) e; log = ap (λ s. s.log.faults) e }
all_same (piece ∷ pieces) v w (u, p, h) =
    let a = put_same piece.stream piece.text v u p in
    let b = all_same pieces u w h in
    record { out = b.out ∙ a.out; log = b.log ∙ a.log }

-- one of the streams counted a failure
abbrev OneRose : StreamsView → StreamsView → Type 0
OneRose v w = Rose v.out.faults w.out.faults ⊎ Rose v.log.faults w.log.faults

cut_rose : (stream : Stream) (text : List ℕ) (v w : StreamsView) → OnlyOn stream v w (λ a b. (k : ℕ) × IsCut a b text k) → OneRose v w
cut_rose Out text v w h = inl h.happened.1.rose
cut_rose Log text v w h = inr h.happened.1.rose

rose_before : (v u w : StreamsView) → HasSameFaults v u → OneRose u w → OneRose v w
rose_before v u w e (inl r) = let P : ℕ → Type 0 = λ n. Rose n w.out.faults in inl (subst P e.out r)
rose_before v u w e (inr r) = let P : ℕ → Type 0 = λ n. Rose n w.log.faults in inr (subst P e.log r)

pub short_rose : (pieces : List Piece) (v w : StreamsView) → AreCutShort pieces v w → OneRose v w
short_rose [] v w h = absurd h
short_rose (piece ∷ pieces) v w (inl h) = cut_rose piece.stream piece.text v w h
short_rose (piece ∷ pieces) v w (inr (u, p, h)) = rose_before v u w (put_same piece.stream piece.text v u p) (short_rose pieces u w h)
