use Rattle.qs_core.specs.UnitTrees.{unit_tree}
use Rattle.qs_triples.specs.TreeOf.{proofs_tree}
use Rattle.qs_driver_calls.proofs.CountedLaws.{entries_pass, entries_halt}
use Rattle.qs_driver_calls.proofs.counted.counted_entries.Goals as goal

pub returns-in-Ok : goal.returns-in-Ok
returns-in-Ok c = λ v. entries_pass (unit_tree c.args.unit.now) (proofs_tree c.args.given) v c.in-Ok.ensures.counted

pub returns-in-Err : goal.returns-in-Err
returns-in-Err c = λ v. entries_halt (unit_tree c.args.unit.now) (proofs_tree c.args.given) v c.args.text.now c.in-Err.fault c.proofs_told.result c.in-Err.ensures.wrong c.proofs_told.ensures
