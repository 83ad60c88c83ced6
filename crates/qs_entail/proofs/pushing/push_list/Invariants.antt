use Rattle.std.proofs.Common.{◌≡◌, drop}
use Rattle.qs_entail.specs.Extending.{Extends}
use Rattle.qs_entail.specs.Pushing.{push_list}
use Rattle.qs_entail.specs.View.{known_view}
use Rattle.qs_entail.proofs.pushing.push_list.Given as goal

-- the conditions that are left are pushed yet
abbrev pub invariant-loop-c : goal.invariant-loop-c
invariant-loop-c l = record {
  step : push_list l.list (known_view l.initial.known) ≡ push_list (drop l.c-index l.list) (known_view l.known);
  front : Extends (known_view l.initial.known) (known_view l.known);
}
