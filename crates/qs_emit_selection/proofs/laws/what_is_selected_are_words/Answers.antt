use Rattle.qs_emit_selection.proofs.Ranges.{what_is_selected}
use Rattle.qs_emit_selection.proofs.laws.what_is_selected_are_words.Goals as goal

pub returns : goal.returns
returns u c d labels ok = what_is_selected c d labels ok
