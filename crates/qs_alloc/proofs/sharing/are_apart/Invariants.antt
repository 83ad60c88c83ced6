use Rattle.std.proofs.Common.{◌≡◌, drop}
use Rattle.std.specs.List.{list_all}
use Rattle.qs_alloc.specs.Verification.{is_apart, are_apart}
use Rattle.qs_alloc.proofs.sharing.are_apart.Given as goal

abbrev pub invariant-loop-t : goal.invariant-loop-t
invariant-loop-t l = list_all (λ t. list_all (is_apart l.at t) l.list) (drop l.t-index l.list) ≡ are_apart l.at l.list
