use Rattle.std.proofs.Common.{◌≡◌, drop}
use Rattle.qs_triples.specs.Rules.{all_need}
use Rattle.qs_triples.specs.Switches.{before_view}
use Rattle.qs_triples.proofs.switches.all_need.Given as goal

-- all cases so far need it
abbrev pub invariant-loop-label : goal.invariant-loop-label
invariant-loop-label l = all_need l.d (before_view l.b) l.labels ≡ all_need l.d (before_view l.b) (drop l.label-index l.labels)
