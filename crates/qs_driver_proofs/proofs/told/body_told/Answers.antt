use Rattle.qs_driver_proofs.proofs.ToldLaws.{body_is_told}
use Rattle.qs_driver_proofs.proofs.told.body_told.Goals as goal

pub returns : goal.returns
returns c = λ u f. body_is_told u f c.args.node c.args.fault c.path_of.result c.in_ok-inner.inner.path c.in_ok-inner.inner.text c.path_of.ensures c.in_ok-inner.ensures
