use Rattle.std.proofs.Common.{◌≡◌, ◌+◌, ◌++◌, [], ◌∷◌, map, drop, sym, ap, ◌∙◌}
use Rattle.std.proofs.lemmas.List.{drop_more, map_push}
use Rattle.qs_tasks_list.specs.LinesOf.{counts_tree, line_tree, placed_tree}
use Rattle.qs_tasks_list.specs.Listing.{lines_from, no_lines}
use Rattle.qs_tasks_list.proofs.ListLaws.{in_front, line_more}
use Rattle.qs_tasks_list.proofs.placed.place_lines.Goals as goal

pub loop-piece-preserved : goal.loop-piece-preserved
loop-piece-preserved c =
    let inv : in_front (map placed_tree c.loop-piece.found.items) (lines_from (counts_tree c.loop-piece.counts) c.loop-piece.at (map (λ p. p.now) (drop c.loop-piece.piece-index c.args.whole.now) ++ c.args.rest.now ∷ [])) ≡ lines_from no_lines 0 (map (λ p. p.now) c.args.whole.now ++ c.args.rest.now ∷ []) = c.loop-piece.invariant in
    let here = drop_more c.args.whole.now c.loop-piece.piece-index (record { ref_ptr = (0, 0); now = [] }) c.loop-piece-test.true in
    let is = rw c.in-Some.is at c.in_ok-line.ensures in
    let more = ap (map placed_tree) c.in_ok-push.ensures.items ∙ map_push placed_tree c.loop-piece.found.items (record { at = c.loop-piece.at; line = c.in-Some.line }) in
    line_more (map placed_tree c.loop-piece.found.items) (map placed_tree c.push.new.self.items) (counts_tree c.loop-piece.counts) (counts_tree c.in_ok-counts.counts) c.loop-piece.at c.in_ok-at.at (line_tree c.in-Some.line) _
    (map (λ p. p.now) (drop (c.loop-piece.piece-index + 1) c.args.whole.now)) c.args.rest.now (lines_from no_lines 0 (map (λ p. p.now) c.args.whole.now ++ c.args.rest.now ∷ []))
    (sym is) (sym c.may_follow.ensures ∙ c.if-not-may_follow.false) c.in_ok-counts.ensures c.in_ok-at.ensures more (rw here at inv)
