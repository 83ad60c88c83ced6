use Rattle.std.proofs.Common.{◌≡◌, map, drop}
use Rattle.qs_tac.specs.TreeOf.{function_tree}
use Rattle.qs_tac.specs.Places.{places_tree}
use Rattle.qs_alloc.specs.Verification.{are_verified}
use Rattle.qs_alloc.proofs.verification.are_verified.Given as goal

abbrev pub invariant-loop-number : goal.invariant-loop-number
invariant-loop-number l =
    are_verified (map places_tree l.fn.places) l.number (map function_tree (drop l.number l.functions))
    ≡ are_verified (map places_tree l.fn.places) 0 (map function_tree l.functions)
