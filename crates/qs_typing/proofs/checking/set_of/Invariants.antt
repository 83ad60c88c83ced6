use Rattle.std.proofs.Common.{◌≡◌, drop}
use Rattle.indexmap.specs.IndexSet.{insert_all}
use Rattle.qs_base.specs.Bytes.{same_bytes}
use Rattle.qs_typing_findings.specs.Sets.{names_once}
use Rattle.qs_typing.proofs.checking.set_of.Given as goal

abbrev pub invariant-loop-x : goal.invariant-loop-x
invariant-loop-x l = names_once l.names ≡ insert_all same_bytes l.set.keys (drop l.x-index l.names)
