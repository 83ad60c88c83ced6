use Rattle.qs_types.proofs.Violations.{no_violation, keeps_rules}
use Rattle.qs_types.proofs.laws.rules_are_kept.Goals as goal

pub returns : goal.returns
returns c = λ unit. record { none_violated = no_violation unit; all_kept = keeps_rules unit }
