use Rattle.std.proofs.Common.{◌≡◌, length}
use Rattle.qs_core.specs.UnitTrees.{unit_tree}
use Rattle.qs_sexpr.specs.Trees.{Sexps}
use Rattle.qs_prooftext_assertions.specs.Answers.{StandAll}
use Rattle.qs_prooftext.specs.Listed.{ListsLeft}
use Rattle.qs_prooftext.proofs.listed.listed_functions.Given as goal

abbrev pub invariant-tops : goal.invariant-tops
invariant-tops l = record {
  as_many : length l.flags.items ≡ length l.fn.unit.functions.items;
  left : (ss : Sexps) → StandAll l.fn.text l.fn.nodes ss → ListsLeft (unit_tree l.fn.unit) l.fn.text l.rest l.flags.items ss;
}

abbrev pub decreases-tops : goal.decreases-tops
decreases-tops l = length l.rest
