use Rattle.qs_emit_selection.proofs.Sizes.{words_are_kept}
use Rattle.qs_emit_selection.proofs.laws.words_are_kept.Goals as goal

pub returns : goal.returns
returns c d labels accepted = words_are_kept d labels accepted
