use Rattle.std.proofs.Common.{◌≡◌, map}
use Rattle.qs_typing_findings.specs.TypedOf.{typed_tree}
use Rattle.qs_tasks_list.specs.LinesOf.{placed_tree, said_tree}
use Rattle.qs_tasks_list.specs.Listing.{listing_of, said_from}
use Rattle.qs_tasks_list.proofs.listing.list.Given as goal

-- what is said so far, and the lines that are left
abbrev pub invariant-loop-placed : goal.invariant-loop-placed
invariant-loop-placed l =
    said_from (typed_tree l.unit) (said_tree l.said) (map placed_tree l.placed-iterator.rest.items)
    ≡ listing_of (typed_tree l.unit) l.text
