use Rattle.std.proofs.Common.{drop}
use Rattle.std.specs.Prelude.{nat_eq}
use Rattle.std.specs.HashMap.{get}
use Rattle.qs_asm.proofs.AssemblyLaws.{GivesLabels}
use Rattle.qs_asm.proofs.labels.labels_among.Given as goal

abbrev pub invariant-loop-item : goal.invariant-loop-item
invariant-loop-item l = GivesLabels (get nat_eq l.labels) l.from (drop l.item-index l.items) l.items
