-- `outline` is a good command, and what its code shows.
use Rattle.std.proofs.Common.{◌≡◌, ℕ, Some, Result, Ok, Err, refl, ap, inl, arith}
use Rattle.std.specs.declared.alloc.Global.{Global}
use Rattle.std.specs.Prelude.{Vec}
use Rattle.qs_syntax.specs.Trees.{UnitTree}
use Rattle.qs_syntax.specs.Units.{IsRead}
use Rattle.qs_ports.specs.StoreView.{StoreView}
use Rattle.qs_ports.specs.SinkView.{SinkView}
use Rattle.qs_core.specs.Trees.{CoreUnitTree}
use Rattle.qs_core.specs.Outline as core
use Rattle.qs_elaborate_bodies.specs.Units.{core_of}
use Rattle.qs_driver_steps.specs.Devices.{streams, views_of}
use Rattle.qs_driver_steps.specs.Promises.{Answers}
use Rattle.qs_driver_steps.specs.Runs.{Halted, Passed, finished}
use Rattle.qs_driver_steps.specs.Steps.{end_status}
use Rattle.qs_driver_steps.proofs.Laws.{IsFrom, IsGood}
use Rattle.qs_driver_steps.proofs.StoreLaws.{untouched}
use Rattle.qs_driver_steps.proofs.ThenLaws.{then_lawful, then_from, then_halted, passed_halted, then_passed, is_refused, is_ended}
use Rattle.qs_driver_session.specs.Due.{EndsWith, IsWritten}
use Rattle.qs_driver_session.specs.Faults.{status_line}
use Rattle.qs_driver_session.specs.Names.{file_name}
use Rattle.qs_driver_session.specs.Origin.{origin}
use Rattle.qs_driver_session.specs.declared.status.Status.{Status}
use Rattle.qs_driver_session.specs.declared.status.Status.TheVariants.{Done, NoMemory}
use Rattle.qs_driver_session.proofs.OriginLaws.{origin_single, origin_within}
use Rattle.qs_driver_session.proofs.PieceLaws.{log_last, out_last}
use Rattle.qs_driver_proofs.specs.Steps.{IsCoreOf}
use Rattle.qs_driver.specs.commands.Outline.{OutlineWords, names_of, printed, outline_end, outline_unit, outline, order_of, due_of, Outlines}
use Rattle.qs_driver_proofs.proofs.StepsLaws.{coring_sound, coring_one, is_core, no_core}
use Rattle.qs_driver_proofs.proofs.SourceReads.{HasText, passed_text, is_core_of}

-- ---- it is good

pub outline_ordered : (unit : UnitTree) → IsFrom end_status (outline_unit unit) 7
outline_ordered unit = (omega arith, omega arith, (λ core. (refl, omega arith)))

pub outline_good : (o : OutlineWords) → IsGood (outline o)
outline_good o = record {
  lawful = then_lawful end_status outline_unit (origin o.source) (origin_single o.source) (λ unit. (coring_sound unit, inl (coring_one unit), (λ core. tt)));
  ordered = then_from end_status outline_unit (origin o.source) 1 7 (omega arith) (omega arith, omega arith, (origin_within o.source).2) outline_ordered;
}

-- ---- the work on the store

module _ (o : OutlineWords) (v w : StoreView) where
  -- there is no source to go on with
  pub no_source : (status : Status) → Halted (origin o.source) v w status → Outlines o v w (Err status)
  no_source status h = is_refused (outline o) (file_name (names_of o)) v w status (then_halted outline_unit (origin o.source) v w status h)

  -- no memory was found after the source was read
  pub out_of_memory : (unit : UnitTree) → Passed (origin o.source) v w unit → Outlines o v w (Err NoMemory)
  out_of_memory unit p = is_refused (outline o) (file_name (names_of o)) v w NoMemory (passed_halted outline_unit (origin o.source) v w w unit NoMemory p (inl (no_core unit w)))

  pub was_outlined : (unit : UnitTree) (unit_core : CoreUnitTree) (text : Vec ℕ Global) → Passed (origin o.source) v w unit → IsRead unit → core_of unit ≡ Some unit_core → text.items ≡ core.outline unit_core → Outlines o v w (Ok text)
  was_outlined unit unit_core text p read is e =
      let has : HasText v o.source unit = passed_text o.source v w unit p in
      let has_core : IsCoreOf unit unit_core = is_core_of {text = has.text} {unit = unit} unit_core has.typed_as read is in
      let ends : Passed (outline_unit unit) w w (outline_end unit_core) = (w, unit_core, is_core unit w unit_core has_core, (refl, refl)) in
      let passed : Passed (outline o) v w (outline_end unit_core) = then_passed outline_unit (origin o.source) v w w unit (outline_end unit_core) p ends in
      let due_is : printed text.items ≡ printed (core.outline unit_core) = ap printed e in
      is_ended (outline o) (file_name (names_of o)) v w w (outline_end unit_core) (printed text.items) passed (finished (untouched w) due_is)

-- ---- what is put after that

pub text_put : (o : OutlineWords) (text : Vec ℕ Global) (l v w : SinkView) (result : Status) → EndsWith text.items Done v w result → IsWritten (due_of o (Ok text)) (streams v l) (streams w l) result
text_put o text l v w result h = out_last Done text.items l v w result h

pub fault_put : (o : OutlineWords) (status : Status) (out v w : SinkView) (result : Status) → EndsWith (status_line (names_of o) status) status v w result → IsWritten (due_of o (Err status)) (streams out v) (streams out w) result
fault_put o status out v w result h = log_last status (status_line (names_of o) status) out v w result h

pub outline_answers : (o : OutlineWords) (s s' : StoreView) (out out' l l' : SinkView) (work : Result (Vec ℕ Global) Status) (result : Status) → Outlines o s s' work → IsWritten (due_of o work) (streams out l) (streams out' l') result → Answers (order_of o) (views_of s out l) (views_of s' out' l') result
outline_answers o s s' out out' l l' work result runs h = record { due = due_of o work; runs = runs; written = h }
