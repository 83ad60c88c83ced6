-- How pieces are put one after the other, and what the counts of the streams tell.
use Rattle.std.proofs.Common.{◌≡◌, ◌⊎◌, ◌∙◌, ℕ, ◌<◌, List, [], ◌∷◌, ap, subst, inl, inr}
use Rattle.qs_ports.specs.Causes.{Rose}
use Rattle.qs_ports.specs.SinkView.{Appends, IsCut}
use Rattle.qs_driver_steps.specs.Devices.{StreamsView}
use Rattle.qs_driver_steps.specs.Due.{Due, IsWritten}
use Rattle.qs_driver_steps.specs.Pieces.{Stream, Out, Log, Piece, OnlyOn, ArePut, AreCutShort}
use Rattle.qs_driver_steps.specs.Statuses.{Statuses}
use Rattle.qs_driver_steps.proofs.StoreLaws.{not_risen}

-- neither stream counted a failure
pub record HasSameFaults (v w : StreamsView) : Type 0 where
  pub out : w.out.faults ≡ v.out.faults
  pub log : w.log.faults ≡ v.log.faults

put_same : (stream : Stream) (text : List ℕ) (v w : StreamsView) → OnlyOn stream v w (λ a b. Appends a b text) → HasSameFaults v w
put_same Out text v w h = record { out = h.happened.same_faults; log = ap (λ s. s.faults) h.other }
put_same Log text v w h = record { out = ap (λ s. s.faults) h.other; log = h.happened.same_faults }

pub all_same : (pieces : List Piece) (v w : StreamsView) → ArePut pieces v w → HasSameFaults v w
all_same [] v w e = record { out = ap (λ s. s.out.faults) e; log = ap (λ s. s.log.faults) e }
all_same (piece ∷ pieces) v w (u, p, h) =
    let a = put_same piece.stream piece.text v u p in
    let b = all_same pieces u w h in
    record { out = b.out ∙ a.out; log = b.log ∙ a.log }

-- one of the streams counted a failure
abbrev OneRose : StreamsView → StreamsView → Type 0
OneRose v w = Rose v.out.faults w.out.faults ⊎ Rose v.log.faults w.log.faults

cut_rose : (stream : Stream) (text : List ℕ) (v w : StreamsView) → OnlyOn stream v w (λ a b. (k : ℕ) × IsCut a b text k) → OneRose v w
cut_rose Out text v w h = inl h.happened.1.rose
cut_rose Log text v w h = inr h.happened.1.rose

rose_before : (v u w : StreamsView) → HasSameFaults v u → OneRose u w → OneRose v w
rose_before v u w e (inl r) = let P : ℕ → Type 0 = λ n. Rose n w.out.faults in inl (subst P e.out r)
rose_before v u w e (inr r) = let P : ℕ → Type 0 = λ n. Rose n w.log.faults in inr (subst P e.log r)

short_rose : (pieces : List Piece) (v w : StreamsView) → AreCutShort pieces v w → OneRose v w
short_rose [] v w h = absurd h
short_rose (piece ∷ pieces) v w (inl h) = cut_rose piece.stream piece.text v w h
short_rose (piece ∷ pieces) v w (inr (u, p, h)) = rose_before v u w (put_same piece.stream piece.text v u p) (short_rose pieces u w h)

module _ {S : Statuses} (due : Due S) (v w : StreamsView) (result : S.Status) where
  -- the status is the due one where no stream failed
  pub status_due : (Rose v.out.faults w.out.faults → ⊥) → (Rose v.log.faults w.log.faults → ⊥) → IsWritten due v w result → result ≡ due.status
  status_due out log (inl (e, h)) = e
  status_due out log (inr (e, h)) = elim (short_rose due.pieces v w h) [
    | inl r ↦ absurd (out r)
    | inr r ↦ absurd (log r)
  ]

  pub shows_out : v.out.faults < w.out.faults → IsWritten due v w result → result ≡ S.sink_failed
  shows_out r (inl (e, h)) = absurd (not_risen _ _ (all_same due.pieces v w h).out r)
  shows_out r (inr (e, h)) = e

  pub shows_log : v.log.faults < w.log.faults → IsWritten due v w result → result ≡ S.sink_failed
  shows_log r (inl (e, h)) = absurd (not_risen _ _ (all_same due.pieces v w h).log r)
  shows_log r (inr (e, h)) = e

  -- of what is due to a status that is known, the same
  pub with_status : (status : S.Status) → due.status ≡ status → IsWritten due v w result → (result ≡ status) ⊎ (result ≡ S.sink_failed)
  with_status status is (inl (e, h)) = inl (e ∙ is)
  with_status status is (inr (e, h)) = inr e
