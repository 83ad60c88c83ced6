use Rattle.std.proofs.Common.{◌≡◌, drop}
use Rattle.std.specs.List.{list_all}
use Rattle.qs_emit_selection.specs.Limits.{place_fits}
use Rattle.qs_emit_selection.proofs.limits.all_fit.Given as goal

abbrev pub invariant-loop-place : goal.invariant-loop-place
invariant-loop-place l = list_all place_fits (drop l.place-index l.places) ≡ list_all place_fits l.places
