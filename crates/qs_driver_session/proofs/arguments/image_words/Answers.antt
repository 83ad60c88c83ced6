use Rattle.std.proofs.Common.{sym, ap}
use Rattle.qs_image.specs.Image.{Image}
use Rattle.qs_driver_session.proofs.ParametersLaws.{finds_words}
use Rattle.qs_driver_session.proofs.arguments.image_words.Goals as goal

pub returns : goal.returns
returns c =
    let count = ap (λ (i : Image). i.parameters) c.image.view_is in
    let set = ap (λ (i : Image). i.unsigned_set) c.image.view_is in
    finds_words c.args.image.now _ c.args.args.now _ (record { count = sym count; unsigned_set = sym set }) c.words_for.ensures
