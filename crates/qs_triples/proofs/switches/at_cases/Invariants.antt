use Rattle.std.proofs.Common.{◌≡◌, ◌++◌, drop}
use Rattle.qs_triples.specs.Switches.{at_cases_view, before_view}
use Rattle.qs_triples.proofs.switches.at_cases.Given as goal

-- those so far are put, and the rest gives the whole
abbrev pub invariant-loop-label : goal.invariant-loop-label
invariant-loop-label l =
    l.list.items ++ at_cases_view l.d (before_view l.b) (drop l.label-index l.labels) ≡ at_cases_view l.d (before_view l.b) l.labels
