use Rattle.std.proofs.Common.{Some}
use Rattle.qs_core.specs.UnitTrees.{unit_tree}
use Rattle.qs_triples.specs.TreeOf.{proofs_tree}
use Rattle.qs_certify.proofs.MetLaws.{told_of_text}
use Rattle.qs_driver_calls.proofs.CountedLaws.{behind_text, text_halts}
use Rattle.qs_driver_calls.proofs.counted.counted_proofs.Goals as goal

pub proofs_told-requires-clause-functions : goal.proofs_told-requires-clause-functions
proofs_told-requires-clause-functions c = told_of_text (unit_tree c.args.unit.now) (Some c.args.text.now) c.in-Err.fault c.in-Err.ensures.fault

pub returns-in-Ok : goal.returns-in-Ok
returns-in-Ok c = λ v. behind_text (unit_tree c.args.unit.now) c.args.text.now v (proofs_tree c.in-Ok.given) proofs_tree c.counted_given.result c.in-Ok.ensures.given (c.counted_given.ensures v)

pub returns-in-Err : goal.returns-in-Err
returns-in-Err c = λ v. text_halts (unit_tree c.args.unit.now) c.args.text.now v c.in-Err.fault c.proofs_told.result c.in-Err.ensures.fault c.proofs_told.ensures
