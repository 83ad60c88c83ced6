use Rattle.std.proofs.Common.{◌≡◌, ◌≤◌, List, length, reverse}
use Rattle.std.specs.Prelude.{Ok}
use Rattle.qs_assert.specs.Trees.{AssertionTree}
use Rattle.qs_triples.specs.Rules.{Answer}
use Rattle.qs_triples.specs.Views.{posts_view, scope_view}
use Rattle.qs_triples.proofs.WalkLaws.{behind, parts_behind}
use Rattle.qs_triples.proofs.body.+pre.Given as goal

-- what the parts from i on need
abbrev pub invariant-sequence_pre-loop-i : goal.invariant-sequence_pre-loop-i
invariant-sequence_pre-loop-i l = record {
  within : l.i ≤ length l.ds;
  same : length l.ds ≡ length l.ss;
  needed : behind l.ds l.ss (scope_view l.c) (posts_view l.q) l.i ≡ Ok l.next;
}

abbrev pub decreases-sequence_pre-loop-i : goal.decreases-sequence_pre-loop-i
decreases-sequence_pre-loop-i l = l.i

abbrev pub invariant-parts_pre-loop-i : goal.invariant-parts_pre-loop-i
invariant-parts_pre-loop-i l = record {
  within : l.i ≤ length l.ds;
  same : length l.ds ≡ length l.ss;
  needed : (rule : List AssertionTree → Answer) → parts_behind l.ds l.ss (scope_view l.c) (posts_view l.q) l.i rule ≡ rule (reverse l.before.items);
}

abbrev pub decreases-parts_pre-loop-i : goal.decreases-parts_pre-loop-i
decreases-parts_pre-loop-i l = l.i
