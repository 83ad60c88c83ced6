use Rattle.std.proofs.Common.{◌≡◌, ◌||◌, drop, map}
use Rattle.qs_types.specs.Rules.{breaks_one}
use Rattle.qs_typing_findings.specs.Findings.{judged_at}
use Rattle.qs_typing_findings.specs.FoundOf.{found_tree}
use Rattle.qs_typing_findings.specs.JudgedOf.{test_tree}
use Rattle.qs_typing_findings.proofs.found.Found.judge.Given as goal

abbrev pub invariant-loop-t : goal.invariant-loop-t
invariant-loop-t l = record {
  any : breaks_one (map test_tree l.tests) ≡ (l.any || breaks_one (map test_tree (drop l.t-index l.tests)));
  judged : judged_at l.node (map test_tree l.tests) (found_tree l.initial.self) ≡ judged_at l.node (map test_tree (drop l.t-index l.tests)) (found_tree l.self);
}
