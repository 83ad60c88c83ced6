use Rattle.std.proofs.Common.{◌≡◌, drop}
use Rattle.std.specs.List.{list_all}
use Rattle.qs_alloc.specs.Verification.{is_apart}
use Rattle.qs_alloc.proofs.sharing.is_apart_from_all.Given as goal

abbrev pub invariant-loop-u : goal.invariant-loop-u
invariant-loop-u l = list_all (is_apart l.at l.t) (drop l.u-index l.list) ≡ list_all (is_apart l.at l.t) l.list
