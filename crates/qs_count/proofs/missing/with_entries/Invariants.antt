use Rattle.std.proofs.Common.{◌≡◌, drop}
use Rattle.qs_count.specs.Missing.{called_by_entries, with_all}
use Rattle.qs_count.proofs.missing.with_entries.Given as goal

abbrev pub invariant-loop-e : goal.invariant-loop-e
invariant-loop-e l =
    with_all l.proofs l.first (called_by_entries l.unit (drop l.e-index l.entries)) ≡ with_all l.proofs l.fn.found (called_by_entries l.unit l.entries)
