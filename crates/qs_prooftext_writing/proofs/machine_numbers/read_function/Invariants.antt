use Rattle.std.proofs.Common.{◌≡◌, drop, map}
use Rattle.std.specs.List.{list_all}
use Rattle.qs_core.specs.TreeOf.{variable_tree}
use Rattle.qs_prooftext_meaning.specs.Writing.{is_short}
use Rattle.qs_prooftext_writing.proofs.machine_numbers.read_function.Given as goal

-- so far all are
abbrev pub invariant-loop-v : goal.invariant-loop-v
invariant-loop-v l = list_all is_short (map variable_tree (drop l.v-index l.function.variables.items)) ≡ list_all is_short (map variable_tree l.function.variables.items)
