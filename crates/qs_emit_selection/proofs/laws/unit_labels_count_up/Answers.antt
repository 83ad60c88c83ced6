use Rattle.qs_emit_selection.proofs.LabelLaws.{unit_labels_count_up}
use Rattle.qs_emit_selection.proofs.laws.unit_labels_count_up.Goals as goal

pub returns : goal.returns
returns c = unit_labels_count_up
