use Rattle.std.proofs.Common.{◌≡◌, drop}
use Rattle.std.specs.List.{list_all}
use Rattle.qs_alloc.specs.Verification.{is_kept_at}
use Rattle.qs_alloc.proofs.sharing.are_kept.Given as goal

abbrev pub invariant-loop-t : goal.invariant-loop-t
invariant-loop-t l = list_all (is_kept_at l.at) (drop l.t-index l.list) ≡ list_all (is_kept_at l.at) l.list
