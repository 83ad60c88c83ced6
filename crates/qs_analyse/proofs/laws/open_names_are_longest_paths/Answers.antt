use Rattle.qs_analyse.proofs.PathLaws.{open_names_are_longest_paths}
use Rattle.qs_analyse.proofs.laws.open_names_are_longest_paths.Goals as goal

pub returns : goal.returns
returns c = open_names_are_longest_paths
