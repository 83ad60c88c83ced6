use Rattle.qs_driver_proofs.proofs.ToldLaws.{shape_is_told}
use Rattle.qs_driver_proofs.proofs.told.shape_told.Goals as goal

pub returns : goal.returns
returns c = λ u f. shape_is_told u f c.args.path c.path_of.result c.path_of.ensures
