use Rattle.std.proofs.Common.{◌≤◌, ℕ, List, length}
use Rattle.qs_sexpr.specs.Trees.{Sexps}
use Rattle.qs_prooftext_assertions.specs.Answers.{StandAll}
use Rattle.qs_prooftext_assertions.specs.Firsts.{tails}
use Rattle.qs_prooftext.proofs.lists.skipped.Given as goal

abbrev pub invariant-loop-i : goal.invariant-loop-i
invariant-loop-i l = record {
  stand : (text : List ℕ) (ss : Sexps) → StandAll text l.fn.rest ss → StandAll text l.left (tails l._i ss);
  shorter : length l.left ≤ length l.fn.rest;
}
