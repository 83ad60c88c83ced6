use Rattle.std.proofs.Common.{◌≡◌, ◌++◌, ◌∷◌, [], map, drop}
use Rattle.qs_tasks_list.specs.LinesOf.{counts_tree, placed_tree}
use Rattle.qs_tasks_list.specs.Listing.{lines_from, no_lines}
use Rattle.qs_tasks_list.proofs.ListLaws.{in_front}
use Rattle.qs_tasks_list.proofs.placed.place_lines.Given as goal

-- the lines so far, and those that are left
abbrev pub invariant-loop-piece : goal.invariant-loop-piece
invariant-loop-piece l =
    in_front (map placed_tree l.found.items)
    (lines_from (counts_tree l.counts) l.at (map (λ p. p.now) (drop l.piece-index l.whole) ++ l.rest ∷ []))
    ≡ lines_from no_lines 0 (map (λ p. p.now) l.whole ++ l.rest ∷ [])
