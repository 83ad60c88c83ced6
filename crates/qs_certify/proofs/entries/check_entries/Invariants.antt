use Rattle.std.proofs.Common.{◌≡◌, drop}
use Rattle.qs_core.specs.UnitTrees.{unit_tree}
use Rattle.qs_triples.specs.TreeOf.{proofs_tree}
use Rattle.qs_callgraph.specs.CallLists.{numbers}
use Rattle.qs_certify.specs.Entries.{first_fault_for}
use Rattle.qs_certify.proofs.entries.check_entries.Given as goal

abbrev pub invariant-loop-f : goal.invariant-loop-f
invariant-loop-f l =
    first_fault_for l.fn.resource (unit_tree l.unit) (proofs_tree l.proofs) (numbers (drop l.f-index l.functions))
    ≡ first_fault_for l.fn.resource (unit_tree l.unit) (proofs_tree l.proofs) (numbers l.functions)
