use Rattle.std.proofs.Common.{◌≡◌, ◌++◌, map, reverse}
use Rattle.qs_sexpr.specs.Marks.{mark_of}
use Rattle.qs_prooftext_writing.specs.Putting.{settled, waiting}
use Rattle.qs_prooftext_writing.proofs.putting.settle.Given as goal

-- what is put and what is still due come to the same
abbrev pub invariant-due : goal.invariant-due
invariant-due l = record {
  puts : map mark_of l.out.items ++ settled (reverse l.due.items) ≡ map mark_of l.fn.out.items ++ settled (reverse l.fn.due.items);
  dues : waiting (reverse l.due.items) ≡ waiting (reverse l.fn.due.items);
}

abbrev pub decreases-due : goal.decreases-due
decreases-due l = goal.left-due l
