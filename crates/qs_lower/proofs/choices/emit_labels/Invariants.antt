use Rattle.std.proofs.Common.{◌≡◌, ◌+◌, ◌++◌, length, map, drop}
use Rattle.qs_tac.specs.TreeOf.{instruction_tree}
use Rattle.qs_lower.specs.Choices.{case_code, case_count}
use Rattle.qs_lower.proofs.choices.emit_labels.Given as goal

-- the code of those so far is put behind the code, and the rest gives the whole
abbrev pub invariant-loop-label : goal.invariant-loop-label
invariant-loop-label l = record {
  code :
      map instruction_tree l.code.items ++ case_code l.o (drop l.label-index l.labels) l.places
      ≡ map instruction_tree l.initial.code.items ++ case_code l.o l.labels l.places;
  size : length l.code.items + case_count (drop l.label-index l.labels) ≡ length l.initial.code.items + case_count l.labels;
}
