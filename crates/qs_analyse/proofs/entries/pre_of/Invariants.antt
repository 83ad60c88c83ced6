use Rattle.std.proofs.Common.{◌≡◌, drop, map}
use Rattle.qs_triples.specs.Derivations.{entry_of}
use Rattle.qs_triples.specs.TreeOf.{entry_tree}
use Rattle.qs_analyse.specs.Fillable.{entries_only}
use Rattle.qs_analyse.proofs.entries.pre_of.Given as goal

abbrev pub invariant-loop-e : goal.invariant-loop-e
invariant-loop-e l = entry_of (entries_only (map entry_tree (drop l.e-index l.entries))) l.g.0 ≡ entry_of (entries_only (map entry_tree l.entries)) l.g.0
