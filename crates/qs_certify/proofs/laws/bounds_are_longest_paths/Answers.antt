use Rattle.qs_certify.proofs.LongestLaws.{bounds_are_longest_paths}
use Rattle.qs_certify.proofs.laws.bounds_are_longest_paths.Goals as goal

pub returns : goal.returns
returns c = bounds_are_longest_paths
