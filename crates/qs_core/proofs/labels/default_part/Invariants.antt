use Rattle.std.proofs.Common.{◌≡◌, drop}
use Rattle.qs_core.specs.Statements.{default_part}
use Rattle.qs_core.proofs.labels.default_part.Given as goal

-- none so far is `default`
abbrev pub invariant-loop-label : goal.invariant-loop-label
invariant-loop-label l = default_part l.labels ≡ default_part (drop l.label-index l.labels)
