use Rattle.std.proofs.Common.{sym}
use Rattle.qs_driver_session.proofs.ParametersLaws.{finds_words}
use Rattle.qs_driver_session.proofs.arguments.argument_words.Goals as goal

pub returns : goal.returns
returns c = finds_words c.args.image.now _ c.args.args.now _ (record { count = sym c.parameters.ensures.value; unsigned_set = sym c.unsigned_set.ensures.value }) c.words_for.ensures
