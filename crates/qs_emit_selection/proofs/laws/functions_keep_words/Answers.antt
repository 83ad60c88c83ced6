use Rattle.qs_emit_selection.proofs.Sizes.{functions_keep_words}
use Rattle.qs_emit_selection.proofs.laws.functions_keep_words.Goals as goal

pub returns : goal.returns
returns c d labels f accepted = functions_keep_words d labels f accepted
