use Rattle.std.proofs.Common.{◌≡◌, ◌+◌, drop}
use Rattle.qs_lower.specs.Choices.{case_count}
use Rattle.qs_lower.proofs.choices.case_count.Given as goal

abbrev pub invariant-loop-label : goal.invariant-loop-label
invariant-loop-label l = l.count + case_count (drop l.label-index l.labels) ≡ case_count l.labels
