use Rattle.qs_types.proofs.LimitLaws.{keeps_limits, is_within_limits}
use Rattle.qs_types.proofs.laws.limits_are_kept.Goals as goal

pub returns : goal.returns
returns c = λ unit. record { counts_within = keeps_limits unit; none_past = is_within_limits unit }
