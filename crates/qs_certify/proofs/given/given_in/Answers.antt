use Rattle.qs_core.specs.UnitTrees.{unit_tree}
use Rattle.qs_triples.specs.TreeOf.{proofs_tree}
use Rattle.qs_certify.proofs.GivenLaws.{of_unit_fillable}
use Rattle.qs_certify.proofs.given.given_in.Goals as goal

pub returns-in-Ok-clause-fillable : goal.returns-in-Ok-clause-fillable
returns-in-Ok-clause-fillable c = of_unit_fillable (unit_tree c.args.unit.now) (proofs_tree c.in-Ok.given) c.in-Ok.ensures.of_unit
