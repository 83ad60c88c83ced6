use Rattle.qs_emit_selection.proofs.Sizes.{units_keep_words}
use Rattle.qs_emit_selection.proofs.laws.units_keep_words.Goals as goal

pub returns : goal.returns
returns c u ps data_at accepted = units_keep_words u ps data_at accepted
