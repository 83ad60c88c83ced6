use Rattle.std.proofs.Common.{◌≡◌, drop, map}
use Rattle.std.specs.Prelude.{is_some}
use Rattle.std.specs.List.{find}
use Rattle.qs_triples.specs.Derivations.{is_entry_of}
use Rattle.qs_triples.specs.TreeOf.{entry_tree}
use Rattle.qs_prooftext.proofs.tops.has_entry.Given as goal

abbrev pub invariant-loop-e : goal.invariant-loop-e
invariant-loop-e l =
    is_some (find (is_entry_of l.f.0) (map entry_tree (drop l.e-index l.proofs.functions.items)))
    ≡ is_some (find (is_entry_of l.fn.f.0) (map entry_tree l.fn.proofs.functions.items))
