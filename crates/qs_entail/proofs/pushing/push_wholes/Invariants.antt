use Rattle.std.proofs.Common.{◌≡◌, drop}
use Rattle.qs_entail.specs.Extending.{Extends}
use Rattle.qs_entail.specs.Flattening.{push_wholes}
use Rattle.qs_entail.specs.View.{known_view}
use Rattle.qs_entail.proofs.pushing.push_wholes.Given as goal

-- the conditions that are left are pushed yet
abbrev pub invariant-loop-c : goal.invariant-loop-c
invariant-loop-c l = record {
  step : push_wholes l.list (known_view l.initial.known) ≡ push_wholes (drop l.c-index l.list) (known_view l.known);
  front : Extends (known_view l.initial.known) (known_view l.known);
}
