-- Words that mean no command: always refused.
use Rattle.std.proofs.Common.{refl, inl, arith}
use Rattle.qs_ports.specs.SinkView.{SinkView}
use Rattle.qs_ports.specs.StoreView.{StoreView}
use Rattle.qs_driver_steps.specs.Devices.{views_of}
use Rattle.qs_driver_steps.specs.Promises.{Answers}
use Rattle.qs_driver_steps.proofs.Laws.{IsGood, refuses, refuses_one}
use Rattle.qs_driver_steps.proofs.ReadingLaws.{not_decided}
use Rattle.qs_driver_session.specs.Due.{refusal, EndsWith}
use Rattle.qs_driver_session.specs.Faults.{status_line}
use Rattle.qs_driver_session.specs.Names.{no_names}
use Rattle.qs_driver_session.specs.Statuses.{tool}
use Rattle.qs_driver_session.specs.commands.Usage.{usage, none}
use Rattle.qs_driver_session.specs.declared.status.Status.{Status}
use Rattle.qs_driver_session.specs.declared.status.Status.TheVariants.{Words}
use Rattle.qs_driver_session.specs.declared.status.WordsFault.TheVariants.{Usage}
use Rattle.qs_driver_session.proofs.PieceLaws.{log_last}

pub usage_good : IsGood usage
usage_good = record {
  lawful = (refuses tool 1 (Unit {0}) (Words Usage) refl, inl (refuses_one tool 1 (Unit {0}) (Words Usage)), (λ u. tt));
  ordered = (omega arith, omega arith, (λ u. (refl, omega arith)));
}

pub usage_answers : (s : StoreView) (o v w : SinkView) (result : Status) → EndsWith (status_line no_names (Words Usage)) (Words Usage) v w result → Answers none (views_of s o v) (views_of s o w) result
usage_answers s o v w result h = record {
  due = refusal no_names (Words Usage);
  runs = inl (Words Usage, inl (not_decided 1 (λ (u : Unit {0}). Unit {0} → ⊥) (λ (u : Unit {0}). Unit {0}) (λ u. Words Usage) s tt tt), refl);
  written = log_last _ _ o v w result h;
}
