use Rattle.std.proofs.Common.{◌≡◌, drop}
use Rattle.qs_triples.specs.Views.{entry_in}
use Rattle.qs_certify.proofs.bound.needed_by.Given as goal

abbrev pub invariant-loop-e : goal.invariant-loop-e
invariant-loop-e l = entry_in (drop l.e-index l.entries) l.f.0 ≡ entry_in l.entries l.f.0
