-- A call whose status is that of an end came to the end of its steps, and put what was due there.
use Rattle.std.proofs.Common.{◌≡◌, ◌⊎◌, ◌∙◌, ℕ, sym, ap, subst, inl, inr, arith}
use Rattle.qs_driver_steps.specs.Devices.{DevicesView, streams_of}
use Rattle.qs_driver_steps.specs.Due.{refusal}
use Rattle.qs_driver_steps.specs.Pieces.{ArePut}
use Rattle.qs_driver_steps.specs.Promises.{Order, Answers, LacksMemory}
use Rattle.qs_driver_steps.specs.Statuses.{no_names}
use Rattle.qs_driver_steps.proofs.Laws.{IsGood}
use Rattle.qs_driver_steps.proofs.RunsLaws.{HasEnded, has_ended}
use Rattle.qs_driver_session.specs.Due.{Due, IsWritten}
use Rattle.qs_driver_session.specs.PlainWords.{IsEnd}
use Rattle.qs_driver_session.specs.Statuses.{tool, number_of}
use Rattle.qs_driver_session.specs.declared.status.Status.{Status}
use Rattle.qs_driver_session.specs.declared.status.Status.TheVariants.{SinkFailed, NoMemory}
use Rattle.qs_driver_session.proofs.SeenLaws.{no_ends}

not_both : (n : ℕ) → n ≡ 0 → n ≡ 21 → ⊥
not_both n e f = omega arith

-- a stream that failed, and want of memory, are no ends
end_or_cut : (status : Status) → IsEnd status → status ≡ SinkFailed → ⊥
end_or_cut status is e = not_both (number_of status) (ap number_of e) is

end_or_wanting : (status : Status) → IsEnd status → status ≡ NoMemory → ⊥
end_or_wanting status is e = not_both (number_of status) (ap number_of e) is

-- what was due is known then, and was put
record WasPut (due : Due) (v w : DevicesView) (result : Status) : Type 0 where
  status_is : result ≡ due.status
  put : ArePut due.pieces (streams_of v) (streams_of w)

was_put : (due : Due) (v w : DevicesView) (result : Status) → IsEnd result → IsWritten due (streams_of v) (streams_of w) result → WasPut due v w result
was_put due v w result is (inl (e, h)) = record { status_is = e; put = h }
was_put due v w result is (inr (e, h)) = absurd (end_or_cut result is e)

-- the end, its status, and that its pieces were put
pub record HasCome (o : Order tool) (v w : DevicesView) (result : Status) : Type 0 where
  pub due : Due
  pub ended : HasEnded o.command v.store w.store due
  pub status_is : result ≡ ended.end.due.status
  pub put : ArePut ended.end.due.pieces (streams_of v) (streams_of w)

module _ (o : Order tool) (good : IsGood o.command) (v w : DevicesView) (result : Status) (is : IsEnd result) where
  by_answers : Answers o v w result → HasCome o v w result
  by_answers a =
      let was : WasPut a.due v w result = was_put a.due v w result is a.written in
      let ended : HasEnded o.command v.store w.store a.due = has_ended no_ends o.command 1 good.lawful good.ordered o.names v.store w.store a.due a.runs (ap number_of (sym was.status_is) ∙ is) in
      record {
        due = a.due;
        ended = ended;
        status_is = was.status_is ∙ ap (λ (d : Due). d.status) ended.is_due;
        put = subst (λ (d : Due). ArePut d.pieces (streams_of v) (streams_of w)) ended.is_due was.put;
      }

  pub has_come : Answers o v w result ⊎ LacksMemory tool v w result → HasCome o v w result
  has_come (inl a) = by_answers a
  has_come (inr l) =
      let was : WasPut (refusal tool (no_names tool) NoMemory) v w result = was_put (refusal tool (no_names tool) NoMemory) v w result is l.written in
      absurd (end_or_wanting result is was.status_is)
