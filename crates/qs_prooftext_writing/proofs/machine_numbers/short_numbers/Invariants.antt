use Rattle.std.proofs.Common.{◌≡◌, drop, map}
use Rattle.std.specs.List.{list_all}
use Rattle.qs_core.specs.TreeOf.{function_tree}
use Rattle.qs_prooftext_meaning.specs.Writing.{has_short_numbers}
use Rattle.qs_prooftext_writing.proofs.machine_numbers.short_numbers.Given as goal

-- so far all are
abbrev pub invariant-loop-function : goal.invariant-loop-function
invariant-loop-function l = list_all has_short_numbers (map function_tree (drop l.function-index l.unit.functions.items)) ≡ list_all has_short_numbers (map function_tree l.unit.functions.items)
