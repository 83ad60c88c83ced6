use Rattle.std.proofs.lemmas.Result.{err_from_is_err_and}
use Rattle.qs_driver.specs.Certified.{words_in}
use Rattle.qs_driver.specs.Made.{make_words}
use Rattle.qs_driver.proofs.CertifiedLaws.{has_its_core}
use Rattle.qs_driver.proofs.MadeLaws.{made_or_not, not_certified}
use Rattle.qs_driver.proofs.made.make.Goals as goal

pub returns-in_err-certified : goal.returns-in_err-certified
returns-in_err-certified g c =
    let p = err_from_is_err_and c.from_residual.result c.from_residual.ensures.1 in
    rw (p.1, p.2) (not_certified (make_words (words_in c.args.inputs.now) c.args.args.now) _ _ _ c.in_err-certified.ensures.reads)

pub returns : goal.returns
returns g c = made_or_not (make_words (words_in c.args.inputs.now) c.args.args.now) _ _ c.in_ok-certified.certified c.make_certified.result c.in_ok-certified.ensures.reads c.make_certified.ensures

pub make_certified-requires : goal.make_certified-requires
make_certified-requires g c = has_its_core c.in_ok-certified.ensures.reads
